use Rattle.std.proofs.Common.{rules}
use Rattle.datasample_access.specs.SlotLaws.{touch-start, touch-end, touch-long}
use Rattle.datasample_access.proofs.TouchLaws.{touch-turn}
use Rattle.datasample_access.proofs.touch_all.Goals as goal

pub loop-p-init : goal.loop-p-init
loop-p-init c = search (rules, touch-start)

pub loop-p-preserved : goal.loop-p-preserved
loop-p-preserved c = search (rules, touch-turn, touch-long)

pub returns : goal.returns
returns c = search (rules, touch-end)
