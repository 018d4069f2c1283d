use Rattle.std.proofs.lemmas.Result.{err_from_is_err_and}
use Rattle.dds_cache.specs.CallLaws.{made_none, made_some}
use Rattle.dds_cache.proofs.TopicCache.new.Goals as goal

pub returns-in_err-limits : goal.returns-in_err-limits
returns-in_err-limits c =
    let p = err_from_is_err_and c.from_residual.result c.from_residual.ensures.1 in
    rw (p.1, p.2) (made_none _ _ c.new.ensures _ c.in_err-limits.was _)

pub returns : goal.returns
returns c = made_some _ _ c.new.ensures _ c.in_ok-limits.was _ _ _ c.topic.ensures c.clear_all.ensures
