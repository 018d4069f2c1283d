use Rattle.std.proofs.Common.{rules}
use Rattle.session.proofs.CallLaws.{next-answers}
use Rattle.session.proofs.do_next_key.Goals as goal

pub returns : goal.returns
returns c = search (rules, next-answers)
