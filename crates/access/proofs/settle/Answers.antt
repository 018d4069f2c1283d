-- Freed or not, then the rows are viewed.
use Rattle.access.specs.AccessLaws.{settle-done}
use Rattle.access.proofs.settle.Goals.{then-take, else-take}
use Rattle.access.proofs.settle.Goals as goal

pub returns : goal.returns
returns c =
    rw c.view_rows.ensures.head_as_found
    (settle-done c.args.x.now.head c.if-take.x.head c.args.x.now.words c.if-take.x.words c.args.slots.now c.args.n c.args.take c.args.seen.now c.view_rows.new.x.words
    (λ s t. elim c.if-take.branch [ then-take w ↦ rw (w.x-is, w.if-take.true) (w.free_all.ensures s t) | else-take w ↦ rw (w.x-is, w.if-take.false) t ])
    c.view_rows.ensures.viewed)
