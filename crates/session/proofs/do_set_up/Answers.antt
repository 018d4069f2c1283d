use Rattle.std.proofs.Common.{rules}
use Rattle.session.proofs.CallLaws.{set-up-answers}
use Rattle.session.proofs.do_set_up.Goals as goal

pub returns : goal.returns
returns c = search (rules, set-up-answers)
