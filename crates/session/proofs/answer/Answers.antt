use Rattle.std.proofs.lemmas.Result.{err_from_is_err_and}
use Rattle.session.proofs.TurnLaws.{turn-declined, turn-begin, turn-ask}
use Rattle.session.proofs.answer.Goals as goal

pub returns-in_err-q : goal.returns-in_err-q
returns-in_err-q c =
    let p = err_from_is_err_and c.from_residual.result c.from_residual.ensures.1 in
    rw (p.1, p.2) (turn-declined c.args.s.now c.args.t.now c.args.rec.now _ _ c.decode.ensures c.admitted.ensures _ c.in_err-q.was c.args.pairs.now c.args.infos.now)

pub returns-in-None : goal.returns-in-None
returns-in-None c = turn-begin c.args.s.now c.args.t.now c.args.rec.now _ _ c.decode.ensures c.admitted.ensures _ c.in_ok-q.was _ _ _ _ _ _ _ c.in-None.is (λ us. c.begin.ensures us c.args.pairs.now c.args.infos.now)

pub returns-in-Some : goal.returns-in-Some
returns-in-Some c = turn-ask c.args.s.now c.args.t.now c.args.rec.now _ _ c.decode.ensures c.admitted.ensures _ c.in_ok-q.was _ _ _ _ _ _ _ _ c.in-Some.is c.ask.ensures
