-- The words before one stand one behind the other.
use Rattle.std.proofs.Common.{rules, refl, ◌∙◌}
use Rattle.printing.specs.LineLaws.{line_kept, words_start, turn_fits, words_turn, last_fits, words_end, words_none}
use Rattle.printing.proofs.line.Goals as goal

pub returns-then-left-lt-LINE_ROOM : goal.returns-then-left-lt-LINE_ROOM
returns-then-left-lt-LINE_ROOM c = record { line = search (rules, line_kept); same = refl }

pub returns-in_default : goal.returns-in_default
returns-in_default c = record { line = search (rules, words_none, c.in_default.ensures.cases); same = c.put_word.ensures.same }

pub loop-word-init : goal.loop-word-init
loop-word-init c = record { laid = search (rules, words_start, c.in-Some.ensures.cases.0); same = refl }

pub put_word-requires-in-loop-word : goal.put_word-requires-in-loop-word
put_word-requires-in-loop-word c = search (rules, turn_fits, c.in-Some.ensures.cases.0)

pub loop-word-preserved : goal.loop-word-preserved
loop-word-preserved c =
    record { laid = search (rules, words_turn, c.in-Some.ensures.cases.0); same = c.put_word-in-loop-word.ensures.same ∙ c.loop-word.invariant.same }

pub put_word-requires-2 : goal.put_word-requires-2
put_word-requires-2 c = search (rules, last_fits, c.in-Some.ensures.cases.0)

pub returns : goal.returns
returns c = record { line = search (rules, words_end, c.in-Some.ensures.cases.0); same = c.put_word-2.ensures.same ∙ c.loop-word.invariant.same }
