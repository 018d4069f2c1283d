use mathlib.Core.Path.{◌≡◌}
use mathlib.Core.List.{◌++◌}
use lib.ListN.{drop, replicate}
use Rattle.sampleinfo.specs.Samples.{empty_sample}
use Rattle.samples.proofs.fill.Given as goal

abbrev pub invariant-loop-i : goal.invariant-loop-i
invariant-loop-i l = (l.t ≡ replicate l.i empty_sample ++ drop l.i l.initial.t)
