use Rattle.dds_cache.specs.CallLaws.{removes}
use Rattle.dds_cache.proofs.TopicCache.remove_changes_before.Goals as goal

pub returns : goal.returns
returns c = removes _ _ _ _ _ _ c.remove_count-n.ensures.1 c.without.ensures.0 c.without.ensures.1
