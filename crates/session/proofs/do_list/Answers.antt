use Rattle.std.proofs.Common.{rules}
use Rattle.session.proofs.CallLaws.{list-answers}
use Rattle.session.proofs.do_list.Goals as goal

pub returns-then-take : goal.returns-then-take
returns-then-take c = search (rules, list-answers)

pub returns : goal.returns
returns c = search (rules, list-answers)
