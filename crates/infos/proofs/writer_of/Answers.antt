use Rattle.std.proofs.Common.{rules}
use Rattle.infos.specs.GetLaws.{bytes-start, bytes-turn, bytes-end}
use Rattle.infos.proofs.writer_of.Goals as goal

pub loop-j-init : goal.loop-j-init
loop-j-init c = search (rules, bytes-start)

pub loop-j-preserved : goal.loop-j-preserved
loop-j-preserved c = search (rules, bytes-turn)

pub returns : goal.returns
returns c = search (rules, bytes-end)
