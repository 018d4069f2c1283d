use Rattle.std.proofs.Common.{rules}
use Rattle.session.specs.RespondLaws.{responds}
use Rattle.session.proofs.respond.Goals as goal

pub returns : goal.returns
returns c = search (rules, responds)
