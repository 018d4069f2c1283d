use Rattle.std.proofs.Common.{rules}
use Rattle.printing.specs.AnswerLaws.{refused-length}
use Rattle.printing.specs.Printout.{printed}
use Rattle.printing.proofs.refused_line.Goals as goal

pub line-requires : goal.line-requires
unfolding printed
line-requires c = refused-length c.args.n

pub returns : goal.returns
unfolding printed
returns c = search rules
