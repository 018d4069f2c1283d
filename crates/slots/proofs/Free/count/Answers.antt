-- What the words passed count, and what is left of the list.
use Rattle.std.proofs.Common.{arith}
use Rattle.slots.specs.BitLaws.{count_most, count_turn, count_end}
use Rattle.slots.proofs.Free.count.Goals as goal

pub loop-word-preserved : goal.loop-word-preserved
loop-word-preserved c = (count_most _ _ _ c.loop-word.invariant.0 c.loop-word-test.element_fits, count_turn _ _ _ c.loop-word.invariant.1 c.loop-word-test.element_fits)

pub returns : goal.returns
returns c = count_end c.args.self.words c.loop-word.word-index c.loop-word.free c.loop-word.invariant.1 (omega arith)
