use Rattle.std.proofs.Common.{rules}
use Rattle.infos.specs.PutLaws.{words_put}
use Rattle.infos.proofs.words_of.Goals as goal

pub returns : goal.returns
returns c = search (rules, words_put)
