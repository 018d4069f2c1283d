-- The best of the names passed, from the last row down.
use Rattle.std.proofs.Common.{rules}
use Rattle.lookup.specs.LookupLaws.{near-start, near_on, near-end}
use Rattle.lookup.proofs.next_key.Goals as goal

pub loop-row-init : goal.loop-row-init
loop-row-init c = search (rules, near-start)

pub loop-row-preserved : goal.loop-row-preserved
loop-row-preserved c = search (rules, near_on)

pub returns : goal.returns
returns c = search (rules, near-end)
