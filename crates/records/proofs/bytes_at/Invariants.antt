use Rattle.std.proofs.Common.{◌≡◌, length, take}
use Rattle.records.specs.Format.{bytes_at}
use Rattle.records.proofs.bytes_at.Given as goal

abbrev pub invariant-loop-i : goal.invariant-loop-i
invariant-loop-i g l = (length l.b-items ≡ g.row.N) × (take l.i l.b-items ≡ bytes_at l.i l.rec l.at)
