use Rattle.std.proofs.Common.{rules}
use Rattle.infos.specs.InfoLaws.{ranked}
use Rattle.infos.proofs.Ranking.of_place.Goals as goal

pub returns : goal.returns
returns c = search (rules, ranked)
