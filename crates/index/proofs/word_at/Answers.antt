-- A word of the region, or 0 past its end.
use Rattle.std.proofs.Common.{rules}
use Rattle.index.specs.WordLaws.{load-in, load_past}
use Rattle.index.proofs.word_at.Goals as goal

pub returns-then-i : goal.returns-then-i
returns-then-i g c = search (rules, load-in)

pub returns-else-i : goal.returns-else-i
returns-else-i g c = search (rules, load_past)
