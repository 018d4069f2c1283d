use mathlib.Core.Path.{◌≡◌}
use Prim.Native.Nat.{◌+◌, ◌*◌}
use lib.ListN.{drop}
use Rattle.slots.specs.Bits.{bits_of, first_one}
use Rattle.slots.proofs.Free.lowest.Given as goal

abbrev pub invariant-loop-at : goal.invariant-loop-at
invariant-loop-at l = 64 * l.at + first_one (bits_of (drop l.at l.fn.self.words)) ≡ first_one (bits_of l.fn.self.words)
