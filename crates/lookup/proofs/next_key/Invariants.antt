use Rattle.lookup.specs.LookupLaws.{Nears}
use Rattle.lookup.proofs.next_key.Given as goal

abbrev pub invariant-loop-row : goal.invariant-loop-row
invariant-loop-row l = Nears l.x.words l.x.head.held l.name l.row l.best
