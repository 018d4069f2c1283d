-- The slots passed are others.
use Rattle.std.proofs.Common.{rules}
use Rattle.lookup.specs.LookupLaws.{slots-start, slots-hit, slots-on, slots_end}
use Rattle.lookup.proofs.among_slots.Goals as goal

pub loop-slot-init : goal.loop-slot-init
loop-slot-init c = search (rules, slots-start)

pub returns-then-is_its : goal.returns-then-is_its
returns-then-is_its c = search (rules, slots-hit)

pub loop-slot-preserved : goal.loop-slot-preserved
loop-slot-preserved c = search (rules, slots-on)

pub returns : goal.returns
returns c = search (rules, slots_end)
