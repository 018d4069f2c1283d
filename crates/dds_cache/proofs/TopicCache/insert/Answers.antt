use Rattle.dds_cache.specs.CallLaws.{inserted-is, inserted-words}
use Rattle.dds_cache.proofs.TopicCache.insert.Goals as goal

pub returns : goal.returns
returns c = (inserted-is _ _ _ _ _ c.without-cache.ensures.0 c.behind_last.ensures, inserted-words _ _ _ _ _ _ _ _ c.without-cache.ensures.0 c.without-cache.ensures.1 c.insert.ensures)
