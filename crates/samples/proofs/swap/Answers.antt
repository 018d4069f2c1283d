use Rattle.std.proofs.Common.{rules}
use Rattle.samples.specs.TableLaws.{swap-done}
use Rattle.samples.proofs.swap.Goals as goal

pub returns : goal.returns
returns c = search (rules, swap-done)
