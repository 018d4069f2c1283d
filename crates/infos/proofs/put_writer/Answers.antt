use Rattle.std.proofs.Common.{rules}
use Rattle.infos.specs.PutLaws.{copied-start, copied-turn, copied-end}
use Rattle.infos.proofs.put_writer.Goals as goal

pub loop-j-init : goal.loop-j-init
loop-j-init c = search (rules, copied-start)

pub loop-j-preserved : goal.loop-j-preserved
loop-j-preserved c = search (rules, copied-turn)

pub returns : goal.returns
returns c = search (rules, copied-end)
