use Rattle.printing.specs.AnswerLaws.{two-words-fit}
use Rattle.printing.proofs.pair_line.Goals as goal

pub line-requires : goal.line-requires
line-requires c = two-words-fit _ _
