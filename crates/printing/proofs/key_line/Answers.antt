use Rattle.std.proofs.Common.{rules}
use Rattle.printing.specs.AnswerLaws.{added-length}
use Rattle.printing.specs.Printout.{printed}
use Rattle.printing.proofs.key_line.Goals as goal

pub line-requires : goal.line-requires
unfolding printed
line-requires c = search (rules, added-length)

pub returns : goal.returns
unfolding printed
returns c = search rules
