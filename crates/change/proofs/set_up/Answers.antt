-- The words of a fresh store.
use Rattle.std.proofs.Common.{rules}
use Rattle.change.specs.ChangeLaws.{set-up-done}
use Rattle.change.proofs.set_up.Goals as goal

pub returns : goal.returns
returns c = search (rules, set-up-done)
