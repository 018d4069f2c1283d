use Rattle.std.proofs.Common.{rules}
use Rattle.samples.specs.TableLaws.{gather-turn, gather-end}
use Rattle.samples.proofs.gather.Goals as goal

pub loop-i-preserved : goal.loop-i-preserved
loop-i-preserved c = search (rules, gather-turn)

pub returns : goal.returns
returns c = search (rules, gather-end)
