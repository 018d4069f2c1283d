use mathlib.Core.Path.{◌≡◌}
use Rattle.answers.specs.SoFar.{InfosTo}
use Rattle.answers.proofs.info_lines.Given as goal

abbrev pub invariant-loop-p : goal.invariant-loop-p
invariant-loop-p l =
    InfosTo l.infos l.n l.initial.page.bytes.now l.initial.page.at l.page.bytes.now l.page.at l.p × (l.page.bytes.ghost_name ≡ l.initial.page.bytes.ghost_name)
