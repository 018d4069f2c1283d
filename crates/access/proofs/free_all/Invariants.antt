use Rattle.access.specs.AccessLaws.{Frees}
use Rattle.access.proofs.free_all.Given as goal

abbrev pub invariant-loop-p : goal.invariant-loop-p
invariant-loop-p l = Frees l.initial.x.head l.initial.x.words l.slots l.n l.p l.x.head l.x.words
