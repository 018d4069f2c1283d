-- The newest while it is live, else the greatest.
use Rattle.std.proofs.Common.{rules}
use Rattle.lookup.specs.LookupLaws.{latest-newest, latest-greatest}
use Rattle.lookup.proofs.latest_slot.Goals as goal

pub returns-then-x-lt-SLOTS : goal.returns-then-x-lt-SLOTS
returns-then-x-lt-SLOTS c = search (rules, latest-newest)

pub returns : goal.returns
returns c = search (rules, latest-greatest)
