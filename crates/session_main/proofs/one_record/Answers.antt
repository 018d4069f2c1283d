use Rattle.session_main.proofs.RecordLaws.{turn_stopped, turn-answered}
use Rattle.session_main.proofs.one_record.Goals as goal

pub returns-in_err-n-clause-turn : goal.returns-in_err-n-clause-turn
returns-in_err-n-clause-turn c = turn_stopped _ _ _ _ _ _ _ _ c.from_residual.ensures.0

pub returns-clause-turn : goal.returns-clause-turn
returns-clause-turn c = turn-answered _ _ _ _ _ _ _ _ _ _ _ _ c.in_ok-n.n c.respond-size.result _ c.in_ok-n.ensures.size_in_bounds c.in_ok-n.ensures.size_value c.respond-size.ensures c.tell_all.ensures
