use Rattle.std.proofs.Common.{rules}
use Rattle.std.proofs.lemmas.List.{length-replicate}
use Rattle.records.proofs.NumberLaws.{bytes-start, bytes-turn, bytes-end}
use Rattle.records.proofs.bytes_at.Goals as goal

pub loop-i-init : goal.loop-i-init
loop-i-init g c = search (rules, bytes-start, length-replicate)

pub loop-i-preserved : goal.loop-i-preserved
loop-i-preserved g c = search (rules, bytes-turn)

pub returns : goal.returns
returns g c = search (rules, bytes-end)
