use Rattle.std.proofs.Common.{rules}
use Rattle.datasample_access.specs.SlotLaws.{put-start, put-turn, put-end, put-long, note-start, note-turn, note-end}
use Rattle.datasample_access.proofs.collect.Goals as goal

pub loop-p-init : goal.loop-p-init
loop-p-init c = search (rules, put-start, note-start)

pub loop-p-preserved : goal.loop-p-preserved
loop-p-preserved c = search (rules, put-turn, note-turn, put-long)

pub returns : goal.returns
returns c = search (rules, put-end, note-end)
