use Rattle.std.proofs.Common.{rules}
use Rattle.datasample_cache.specs.OtherLaws.{next_is}
use Rattle.datasample_cache.proofs.next_key.Goals as goal

pub returns : goal.returns
returns c = search (rules, next_is)
