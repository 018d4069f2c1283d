-- One store in the record of the row.
use Rattle.std.proofs.Common.{rules}
use Rattle.index.specs.WordLaws.{accessed-past}
use Rattle.index.proofs.set_accessed.Goals as goal

pub returns-else-row-lt-ROWS : goal.returns-else-row-lt-ROWS
returns-else-row-lt-ROWS c = search (rules, accessed-past)
