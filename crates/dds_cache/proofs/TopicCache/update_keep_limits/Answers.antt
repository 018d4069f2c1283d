use Rattle.std.proofs.lemmas.Result.{err_from_is_err_and}
use Rattle.dds_cache.specs.CallLaws.{updates-none, updates-some}
use Rattle.dds_cache.proofs.TopicCache.update_keep_limits.Goals as goal

pub returns-in_err-other : goal.returns-in_err-other
returns-in_err-other c =
    let p = err_from_is_err_and c.from_residual.result c.from_residual.ensures.1 in
    rw (p.1, p.2) (updates-none _ _ c.new.ensures _ c.in_err-other.was c.args.self)

pub returns : goal.returns
returns c = updates-some _ _ c.new.ensures _ _ c.in_ok-other.was c.args.self c.raise.ensures
