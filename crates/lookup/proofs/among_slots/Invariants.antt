use Rattle.lookup.specs.LookupLaws.{Slots}
use Rattle.lookup.proofs.among_slots.Given as goal

abbrev pub invariant-loop-slot : goal.invariant-loop-slot
invariant-loop-slot l = Slots l.x.head.free.words l.x.words l.row l.key l.slot
