use mathlib.Core.Path.{◌≡◌}
use Rattle.access.specs.AccessLaws.{Views}
use Rattle.access.proofs.view_rows.Given as goal

abbrev pub invariant-loop-row : goal.invariant-loop-row
invariant-loop-row l = Views l.initial.x.words l.initial.x.head.held l.seen l.row l.x.words × (l.x.head ≡ l.initial.x.head)
