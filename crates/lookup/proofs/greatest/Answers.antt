-- The best of the slots passed, from the last down.
use Rattle.std.proofs.Common.{rules}
use Rattle.lookup.specs.LookupLaws.{great-start, great-on, great-end}
use Rattle.lookup.proofs.greatest.Goals as goal

pub loop-slot-init : goal.loop-slot-init
loop-slot-init c = search (rules, great-start)

pub loop-slot-preserved : goal.loop-slot-preserved
loop-slot-preserved c = search (rules, great-on)

pub returns : goal.returns
returns c = search (rules, great-end)
