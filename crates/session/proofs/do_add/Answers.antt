use Rattle.std.proofs.Common.{rules}
use Rattle.session.proofs.CallLaws.{add-answers}
use Rattle.session.proofs.do_add.Goals as goal

pub returns : goal.returns
returns c = search (rules, add-answers)
