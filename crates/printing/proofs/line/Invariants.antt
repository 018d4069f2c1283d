use Rattle.std.specs.Prelude.{take, map}
use Rattle.text.specs.Text.{word_text}
use Rattle.printing.specs.Printout.{spaced}
use Rattle.printing.specs.Lines.{Adds}
use Rattle.printing.proofs.line.Given as goal

abbrev pub invariant-loop-word : goal.invariant-loop-word
invariant-loop-word l = Adds l.initial.page (spaced (map word_text (take l.word-index l.front))) l.page
