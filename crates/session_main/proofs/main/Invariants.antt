use Rattle.session_main.specs.RecordLaws.{Going}
use Rattle.session_main.proofs.main.Given as goal

abbrev pub invariant-records : goal.invariant-records
invariant-records l = Going l.s l.t l.lent.two l.lent.rec
