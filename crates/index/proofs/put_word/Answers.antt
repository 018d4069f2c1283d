-- A store in the region, or none past its end.
use Rattle.std.proofs.Common.{rules}
use Rattle.index.specs.WordLaws.{store_in, store-past}
use Rattle.index.proofs.put_word.Goals as goal

pub returns-then-i : goal.returns-then-i
returns-then-i g c = search (rules, store_in)

pub returns-else-i : goal.returns-else-i
returns-else-i g c = search (rules, store-past)
