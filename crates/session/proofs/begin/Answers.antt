use Rattle.session.proofs.TurnLaws.{call-early}
use Rattle.session.proofs.begin.Goals as goal

pub returns-in_default : goal.returns-in_default
returns-in_default c = call-early c.args.s.now c.args.t.now c.args.q c.in_default.not-SetUp

pub returns-in-SetUp : goal.returns-in-SetUp
returns-in-SetUp c = λ qs ps is l. rw c.in-SetUp.is (c.do_set_up.ensures ps is l)
