use Rattle.printing.specs.AnswerLaws.{ten-words-fit}
use Rattle.printing.proofs.info_line.Goals as goal

pub line-requires : goal.line-requires
line-requires c = ten-words-fit _ _ _ _ _ _ _ _ _ _
