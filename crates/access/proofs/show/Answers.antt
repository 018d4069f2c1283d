-- The info put, and what it shows noted.
use Rattle.std.proofs.Common.{rules}
use Rattle.access.specs.AccessLaws.{show-info, show-noted}
use Rattle.access.proofs.show.Goals as goal

pub returns : goal.returns
returns c = search (rules, show-info, show-noted)
