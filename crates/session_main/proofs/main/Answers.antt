use Rattle.session_main.proofs.RecordLaws.{goes_on}
use Rattle.session_main.proofs.main.Goals as goal

pub records-preserved : goal.records-preserved
records-preserved c =
    goes_on c.records.s _ c.records.t _ _ _ _ _ _ _ _ _ c.one_record.result c.one_record.ensures.turn c.records.lent.two c.records.lent.rec c.records.invariant c.one_record.auto.t c.one_record.ensures.two_len_unchanged c.one_record.ensures.rec_len_unchanged
