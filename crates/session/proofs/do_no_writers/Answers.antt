use Rattle.std.proofs.Common.{rules}
use Rattle.session.proofs.CallLaws.{no-writers-answers}
use Rattle.session.proofs.do_no_writers.Goals as goal

pub returns : goal.returns
returns c = search (rules, no-writers-answers)
