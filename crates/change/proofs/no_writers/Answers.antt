-- Refusal 3, or the record anew.
use Rattle.std.proofs.Common.{rules}
use Rattle.change.specs.ChangeLaws.{unknown, left-done}
use Rattle.change.proofs.no_writers.Goals as goal

pub returns-then-x-row : goal.returns-then-x-row
returns-then-x-row c = search (rules, unknown)

pub returns : goal.returns
returns c = search (rules, left-done)
