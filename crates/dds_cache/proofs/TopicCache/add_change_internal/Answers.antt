use Rattle.std.proofs.lemmas.Result.{err_from_is_err_and}
use Rattle.dds_cache.specs.CallLaws.{add-held, add_six, add-key, refusing-held, refusing-six, refusing-key}
use Rattle.dds_cache.proofs.TopicCache.add_change_internal.Goals as goal

pub returns-then-find_by_sn : goal.returns-then-find_by_sn
returns-then-find_by_sn c = record { refusing = refusing-held _ _ _ _; came = λ es. add-held _ es _ _ _ _ _ c.collect_count-n.ensures.1 c.find_by_sn.ensures c.if-find_by_sn.true _ _ c.without.ensures.0 c.without.ensures.1 }

pub returns-in_err-key : goal.returns-in_err-key
returns-in_err-key c =
    let p = err_from_is_err_and c.from_residual.result c.from_residual.ensures.1 in
    rw (p.1, p.2)
    (record {
      refusing = refusing-six _ _ _ _ c.ok_or.ensures.value _ c.in_err-key.was;
      came = λ es. add_six _ es _ _ _ _ _ c.collect_count-n.ensures.1 c.find_by_sn.ensures c.if-find_by_sn.false _ c.next.ensures _ c.ok_or.ensures.value _ c.in_err-key.was;
    })

pub returns : goal.returns
returns c = record {
  refusing = refusing-key _ _ _ _ _;
  came = λ es.
      add-key _ es _ _ _ _ _ c.collect_count-n.ensures.1 c.find_by_sn.ensures c.if-find_by_sn.false _ c.next.ensures _ c.ok_or.ensures.value _ c.in_ok-key.was _ _ c.insert.ensures.0 c.insert.ensures.1;
}
