use Rattle.std.proofs.Common.{ℕ, ◌≤◌, false, length, arith, length-take, OnOk}
use Rattle.frames.specs.PieceLaws.{piece-room}
use Rattle.frames.proofs.next_record.Goals as goal

-- all of the record came, so the lent bytes have room for it
pub returns-clause-size_value : goal.returns-clause-size_value
returns-clause-size_value g c =
    let size : ℕ = c.from-size.result in
    let whole : OnOk c.came_of-2.result (size ≤ length c.fill-body.new.buf) = rw c.came_of-2.ensures (piece-room c.fill-body.result size false _ c.fill-body.ensures) in
    let fits : size ≤ length c.fill-body.new.buf = rw c.in_ok-came_of-2.was at whole in
    omega (arith, fits, c.fill-body.auto.buf, length-take c.min-n.result c.args.rec.now, c.min-n.ensures, c.from-size.ensures, c.u16_at.ensures)
