use mathlib.Core.Path.{◌≡◌}
use Prim.Native.Nat.{◌-◌}
use Rattle.samples.specs.Table.{gathered}
use Rattle.samples.proofs.gather.Given as goal

abbrev pub invariant-loop-i : goal.invariant-loop-i
invariant-loop-i l = (gathered (256 - l.i) l.i l.t l.out ≡ gathered 256 0 l.t l.initial.out)
