use Rattle.std.proofs.Common.{rules}
use Rattle.printing.specs.AnswerLaws.{ok-length}
use Rattle.printing.specs.Printout.{printed}
use Rattle.printing.proofs.ok_line.Goals as goal

pub line-requires : goal.line-requires
unfolding printed
line-requires c = ok-length

pub returns : goal.returns
unfolding printed
returns c = search rules
