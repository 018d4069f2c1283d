use Rattle.std.proofs.Common.{rules}
use Rattle.std.proofs.lemmas.Result.{err_from_is_err_and}
use Rattle.datasample_cache.proofs.CameLaws.{add-no-table, add-malformed, add-refused, add-done}
use Rattle.datasample_cache.proofs.add.Goals as goal

pub returns-then-t-ne-SLOTS : goal.returns-then-t-ne-SLOTS
returns-then-t-ne-SLOTS c =
    let z = add-no-table c.args.x.now c.args.x.now c.args.t.now c.args.instance c.args.writer_guid c.args.sequence_number c.args.time c.args.kind c.args.handle c.if-t-ne-SLOTS.true in
    record { came = z.0; value = z.1; as_found = search rules }

pub returns-in_err-body : goal.returns-in_err-body
returns-in_err-body c =
    let p = err_from_is_err_and c.from_residual.result c.from_residual.ensures.1 in
    let z = add-malformed c.args.x.now c.args.x.now c.args.t.now c.args.instance c.args.writer_guid c.args.sequence_number c.args.time c.args.kind c.args.handle
    _ c.arrived.ensures _ c.ok_or.ensures.value _ c.in_err-body.was in
    record { came = rw (p.1, p.2) z.0; value = rw (p.1, p.2) z.1; as_found = search rules }

pub returns-in_err-p : goal.returns-in_err-p
returns-in_err-p c =
    let p = err_from_is_err_and c.from_residual-in_err-p.result c.from_residual-in_err-p.ensures.1 in
    let z = add-refused c.args.x.now c.plan.new.x c.args.t.now c.args.instance c.args.writer_guid c.args.sequence_number c.args.time c.args.kind c.args.handle
    _ c.arrived.ensures _ c.ok_or.ensures.value c.if-t-ne-SLOTS.false c.in_ok-body.body c.in_ok-body.was c.plan.result (λ s k. rw c.instance_state.ensures at (c.plan.ensures.made s k)) _ c.in_err-p.was in
    record { came = rw (p.1, p.2) z.0; value = rw (p.1, p.2) z.1; as_found = search rules }

pub returns : goal.returns
returns c =
    let z = add-done c.args.x.now c.plan.new.x c.args.t.now c.args.instance c.args.writer_guid c.args.sequence_number c.args.time c.args.kind c.args.handle
    _ c.arrived.ensures _ c.ok_or.ensures.value c.if-t-ne-SLOTS.false c.in_ok-body.body c.in_ok-body.was c.plan.result (λ s k. rw c.instance_state.ensures at (c.plan.ensures.made s k)) c.in_ok-p.p c.in_ok-p.was
    c.record_of-s.result c.swap-out.result c.record_of-s.ensures (rw c.unwrap_or.ensures at c.swap-out.ensures.value) c.swap-out.new.t (rw c.unwrap_or.ensures at c.swap-out.ensures.t_after) _ (rw c.evicted_of.ensures) in
    record { came = z.0; value = z.1; as_found = search rules }
