use Rattle.std.proofs.Common.{rules}
use Rattle.session.proofs.CallLaws.{choose-answers}
use Rattle.session.proofs.do_choose_within.Goals as goal

pub returns : goal.returns
returns c = search (rules, choose-answers)
