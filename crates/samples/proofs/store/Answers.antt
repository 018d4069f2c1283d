use Rattle.std.proofs.Common.{rules}
use Rattle.samples.specs.TableLaws.{set_past}
use Rattle.samples.proofs.store.Goals as goal

pub returns-else-i-t : goal.returns-else-i-t
returns-else-i-t c = search (rules, set_past)
