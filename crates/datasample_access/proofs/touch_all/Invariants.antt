use mathlib.Core.Path.{◌≡◌}
use Prim.Native.Nat.{◌-◌}
use lib.ListN.{length}
use Rattle.access.specs.Access.{run}
use Rattle.datasample_access.specs.Listed.{touched_all}
use Rattle.datasample_access.proofs.touch_all.Given as goal

abbrev pub invariant-loop-p : goal.invariant-loop-p
invariant-loop-p l = (touched_all l.t l.take (run (l.n - l.p) l.p l.slots) ≡ touched_all l.initial.t l.take (run l.n 0 l.slots)) × (length l.t ≡ length l.initial.t)
