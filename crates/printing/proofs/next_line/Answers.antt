use Rattle.std.proofs.Common.{rules}
use Rattle.printing.specs.AnswerLaws.{next-length}
use Rattle.printing.specs.Printout.{printed}
use Rattle.printing.proofs.next_line.Goals as goal

pub line-requires : goal.line-requires
unfolding printed
line-requires c = search (rules, next-length)

pub returns : goal.returns
unfolding printed
returns c = search rules
