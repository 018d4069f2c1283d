use Rattle.std.proofs.Common.{rules}
use Rattle.records.specs.PairLaws.{filled-start, words_count, words-kept, words-turn, words-end}
use Rattle.records.proofs.pairs_of.Goals as goal

pub loop-i-init : goal.loop-i-init
loop-i-init c = search (rules, filled-start)

pub loop-i-preserved : goal.loop-i-preserved
loop-i-preserved c = search (rules, words-turn)

pub returns-after-loop-i : goal.returns-after-loop-i
returns-after-loop-i c = search (rules, words_count, words-end)

pub returns-else-n-out : goal.returns-else-n-out
returns-else-n-out c = search (rules, words_count, words-kept)
