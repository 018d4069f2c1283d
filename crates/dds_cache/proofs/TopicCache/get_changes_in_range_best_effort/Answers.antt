use Rattle.dds_cache.specs.CallLaws.{ranges-short, ranges-found}
use Rattle.dds_cache.proofs.TopicCache.get_changes_in_range_best_effort.Goals as goal

pub returns-then-out-n : goal.returns-then-out-n
returns-then-out-n c = ranges-short _ _ _ _ _ _ c.count_in_range-n.ensures c.if-out-n.true

pub returns : goal.returns
returns c = ranges-found _ _ _ _ _ _ c.count_in_range-n.ensures c.if-out-n.false _ c.copy_in_range.ensures
