use Rattle.std.proofs.Common.{arith}
use Rattle.printing.specs.AnswerLaws.{number-line-length}
use Rattle.printing.specs.Printout.{samples_word}
use Rattle.printing.proofs.samples_line.Goals as goal

pub line-requires : goal.line-requires
line-requires c = omega (arith, number-line-length samples_word c.args.n)
