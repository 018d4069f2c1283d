-- Refused by its key, its instance or its lifecycle step, or what placing comes to.
use Rattle.std.specs.Prelude.{◌≤◌, ◌<◌, ◌⊎◌}
use Rattle.std.proofs.Common.{inl, inr}
use Rattle.std.proofs.lemmas.Result.{err_from_is_err_and}
use Rattle.plan.specs.KeyedLaws.{no_key, no_room, no_generation, placed}
use Rattle.plan.proofs.plan.Goals.{else-x-row-via-then-x-row+else-x, else-x-row-via-else-x-row}
use Rattle.plan.proofs.plan.Goals as goal

pub returns-in_err-key-clause-made : goal.returns-in_err-key-clause-made
returns-in_err-key-clause-made c s t =
    let p = err_from_is_err_and c.from_residual.result c.from_residual.ensures.1 in
    rw (p.1, p.2) (no_key c.args.x.now.head c.args.x.now.words c.args.name c.args.time c.args.state s t _ _ c.next.ensures c.ok_or.ensures.value _ c.in_err-key.was)

pub returns-then-x-clause-made : goal.returns-then-x-clause-made
returns-then-x-clause-made c s t =
    no_room c.args.x.now.head c.args.x.now.words c.args.name c.args.time c.args.state s t _ _ c.next.ensures c.ok_or.ensures.value _ c.in_ok-key.was _ c.find-row.ensures c.if-x-row.true c.if-x.true

pub returns-in_err-after-clause-made : goal.returns-in_err-after-clause-made
returns-in_err-after-clause-made c s t =
    let p = err_from_is_err_and c.from_residual-in_err-after.result c.from_residual-in_err-after.ensures.1 in
    let roomy : ((c.args.x.now.head.held ≤ c.find-row.result) × (c.args.x.now.head.held < c.args.x.now.head.room)) ⊎ (c.find-row.result < c.args.x.now.head.held) = elim c.else-x-row.branch [
      | else-x-row-via-then-x-row+else-x w ↦ inl (w.if-x-row.true, w.if-x.false)
      | else-x-row-via-else-x-row w ↦ inr w.if-x-row.false
    ] in
    rw (p.1, p.2)
    (no_generation c.args.x.now.head c.args.x.now.words c.args.name c.args.time c.args.state s t _ _ c.next.ensures c.ok_or.ensures.value _ c.in_ok-key.was _ c.find-row.ensures roomy _ _ _
    c.old_meta-before.ensures c.lifecycle.ensures.0 c.ok_or-2.ensures.value _ c.in_err-after.was)

pub returns-clause-made : goal.returns-clause-made
returns-clause-made c s t =
    let roomy : ((c.args.x.now.head.held ≤ c.find-row.result) × (c.args.x.now.head.held < c.args.x.now.head.room)) ⊎ (c.find-row.result < c.args.x.now.head.held) = elim c.else-x-row.branch [
      | else-x-row-via-then-x-row+else-x w ↦ inl (w.if-x-row.true, w.if-x.false)
      | else-x-row-via-else-x-row w ↦ inr w.if-x-row.false
    ] in
    placed c.args.x.now.head c.args.x.now.words c.args.name c.args.time c.args.state s t _ _ c.next.ensures c.ok_or.ensures.value _ c.in_ok-key.was _ c.find-row.ensures roomy _ _ _
    c.old_meta-before.ensures c.lifecycle.ensures.0 c.ok_or-2.ensures.value _ _ _ _ c.in_ok-after.was c.place.ensures.made
