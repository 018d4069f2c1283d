-- Behind the first line stand the lines of the infos before p.
use Rattle.std.proofs.Common.{rules, refl, ◌∙◌}
use Rattle.answers.specs.PrintLaws.{infos-start, infos-next, infos-end}
use Rattle.answers.proofs.info_lines.Goals as goal

pub loop-p-init : goal.loop-p-init
loop-p-init c = (search (rules, infos-start, c.requires.0, c.requires.1), refl)

pub loop-p-preserved : goal.loop-p-preserved
loop-p-preserved c = (search (rules, infos-next, c.loop-p.invariant.0), c.info_line.ensures.same ∙ c.loop-p.invariant.1)

pub returns-clause-told : goal.returns-clause-told
returns-clause-told c = search (rules, infos-end, c.requires.0, c.requires.1, c.loop-p.invariant.0)
