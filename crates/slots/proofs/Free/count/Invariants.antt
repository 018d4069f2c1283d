use mathlib.Core.Path.{◌≡◌}
use Prim.Native.Nat.{◌+◌, ◌*◌, ◌≤◌}
use lib.ListN.{drop}
use Rattle.slots.specs.Bits.{bits_of, total}
use Rattle.slots.proofs.Free.count.Given as goal

abbrev pub invariant-loop-word : goal.invariant-loop-word
invariant-loop-word l = (l.free ≤ 64 * l.word-index) × (l.free + total (bits_of (drop l.word-index l.fn.self.words)) ≡ total (bits_of l.fn.self.words))
