-- The record of the row.
use Rattle.std.proofs.Common.{rules}
use Rattle.plan.specs.KeyedLaws.{old-held}
use Rattle.plan.proofs.old_meta.Goals as goal

pub returns-then-row-x : goal.returns-then-row-x
returns-then-row-x c = search (rules, old-held)
