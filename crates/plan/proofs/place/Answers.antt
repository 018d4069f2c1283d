-- A window that there is not is no store's; then a refusal, or the sample in its slot.
use Rattle.std.proofs.lemmas.Result.{err_from_is_err_and}
use Rattle.plan.specs.PlaceLaws.{place-out, place-full, place-done}
use Rattle.plan.proofs.place.Goals as goal

pub returns-in_err-window-clause-made : goal.returns-in_err-window-clause-made
returns-in_err-window-clause-made c s i t r n x =
    let p = err_from_is_err_and c.from_residual.result c.from_residual.ensures.1 in
    rw (p.1, p.2) (place-out c.args.x.now.head c.args.x.now.words c.args.row c.args.name c.args.imd c.args.key s i t r n x _ _ c.of.ensures c.ok_or.ensures.value _ c.in_err-window.was)

pub returns-in_err-slot-clause-made : goal.returns-in_err-slot-clause-made
returns-in_err-slot-clause-made c s i t r n x =
    let p = err_from_is_err_and c.from_residual-in_err-slot.result c.from_residual-in_err-slot.ensures.1 in
    rw (p.1, p.2)
    (place-full c.args.x.now.head c.args.x.now.words c.args.row c.args.name c.args.imd c.args.key s i t r n x _ _ c.of.ensures c.ok_or.ensures.value _ c.in_ok-window.was _ c.oldest-old.ensures _ c.give-roomy.ensures
    _ _ c.slot_for.ensures c.ok_or-2.ensures.value _ c.in_err-slot.was)

pub returns-clause-made : goal.returns-clause-made
returns-clause-made c s i t r n x =
    rw c.then_some.ensures
    (place-done c.args.x.now.head c.args.x.now.words c.args.row c.args.name c.args.imd c.args.key s i t r n x _ _ c.of.ensures c.ok_or.ensures.value _ c.in_ok-window.was _ c.oldest-old.ensures _ c.give-roomy.ensures
    _ _ c.slot_for.ensures c.ok_or-2.ensures.value _ c.in_ok-slot.was _ _ _ c.take.ensures c.max.ensures c.commit.ensures)
