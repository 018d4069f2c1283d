use Rattle.session.proofs.TurnLaws.{set-up-late}
use Rattle.session.proofs.ask.Goals as goal

pub returns-in-SetUp : goal.returns-in-SetUp
returns-in-SetUp c = λ m b. set-up-late m c.args.x.now c.args.t.now c.args.q _ c.in-SetUp.is _ _ _

pub returns-in-Add : goal.returns-in-Add
returns-in-Add c = λ m b l. rw c.in-Add.is (c.do_add.ensures m _ _ l)

pub returns-in-NoWriters : goal.returns-in-NoWriters
returns-in-NoWriters c = λ m b l. rw c.in-NoWriters.is (c.do_no_writers.ensures m _ _ _ l)

pub returns-in-NextKey : goal.returns-in-NextKey
returns-in-NextKey c = λ m b l. rw c.in-NextKey.is (c.do_next_key.ensures m _ _ _ l)
