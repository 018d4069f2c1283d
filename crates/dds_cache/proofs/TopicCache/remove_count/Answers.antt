use Rattle.dds_cache.specs.LimitLaws.{removal-le, removal-is}
use Rattle.dds_cache.specs.Header.{limits_of, depth_of}
use Rattle.dds_cache.proofs.TopicCache.remove_count.Goals as goal

pub returns : goal.returns
returns c =
    let l = c.args.self.limits in (
      removal-le (depth_of l.min_keep_samples) _ _ _ _ _ _ _ c.saturating_sub-must.ensures c.may_remove-may.ensures c.min.ensures c.max.ensures,
      λ es h. removal-is (limits_of l) _ es _ _ _ _ _ _ h.number c.saturating_sub-must.ensures c.may_remove-may.ensures (c.count_below-below.ensures es h) c.min.ensures c.max.ensures,
    )
