use Rattle.access.specs.AccessLaws.{Finds}
use Rattle.access.proofs.find_slots.Given as goal

abbrev pub invariant-loop-i : goal.invariant-loop-i
invariant-loop-i l = Finds l.x.head l.x.words l.list l.initial.slots l.i l.slots
