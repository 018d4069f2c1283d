use Rattle.lookup.specs.LookupLaws.{Great}
use Rattle.lookup.proofs.greatest.Given as goal

abbrev pub invariant-loop-slot : goal.invariant-loop-slot
invariant-loop-slot l = Great l.x.head.free.words l.x.words l.slot l.best
