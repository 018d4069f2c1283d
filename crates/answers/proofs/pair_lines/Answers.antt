-- Behind the first line stand the lines of the pairs before one.
use Rattle.std.proofs.Common.{rules, refl, ◌∙◌}
use Rattle.answers.specs.PrintLaws.{pairs_start, pairs_next, pairs_end}
use Rattle.answers.proofs.pair_lines.Goals as goal

pub loop-pair-init : goal.loop-pair-init
loop-pair-init c = (search (rules, pairs_start, c.requires.0, c.requires.1), refl)

pub loop-pair-preserved : goal.loop-pair-preserved
loop-pair-preserved c = (search (rules, pairs_next, c.loop-pair.invariant.0), c.pair_line.ensures.same ∙ c.loop-pair.invariant.1)

pub returns-clause-told : goal.returns-clause-told
returns-clause-told c = search (rules, pairs_end, c.requires.0, c.requires.1, c.loop-pair.invariant.0)
