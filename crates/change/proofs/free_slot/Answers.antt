-- The slot is free.
use Rattle.std.specs.Prelude.{◌≡◌, cond, eqb}
use Rattle.std.proofs.Common.{eq-eqb, ne_eqb}
use Rattle.change.specs.ChangeLaws.{free-done}
use Rattle.change.proofs.free_slot.Goals.{then-x-slot, else-x-slot}
use Rattle.change.proofs.free_slot.Goals as goal

pub returns-after-x-slot : goal.returns-after-x-slot
returns-after-x-slot c =
    let newest : c.if-x-slot.x ≡ cond (eqb c.args.x.now.head.newest c.args.slot) 256 c.args.x.now.head.newest = elim c.if-x-slot.branch [
      | then-x-slot w ↦ rw (eq-eqb _ _ w.if-x-slot.true) w.x-is
      | else-x-slot w ↦ rw (ne_eqb _ _ w.if-x-slot.false) w.x-is
    ] in
    free-done c.args.x.now.head c.args.x.now.words c.args.row c.args.slot _ _ _ _ c.put_slot.ensures (rw (c.in-Some.ensures.0, c.in-Some.ensures.1) at c.empty_cells.ensures) c.if-row-x.true c.give.ensures newest
