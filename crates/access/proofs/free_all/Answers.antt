-- The slots passed are free.
use Rattle.std.proofs.Common.{rules}
use Rattle.access.specs.AccessLaws.{frees-start, frees-on, frees-end}
use Rattle.access.proofs.free_all.Goals as goal

pub loop-p-init : goal.loop-p-init
loop-p-init c = search (rules, frees-start, frees-on, frees-end)

pub loop-p-preserved : goal.loop-p-preserved
loop-p-preserved c = search (rules, frees-start, frees-on, frees-end)

pub returns : goal.returns
returns c = search (rules, frees-start, frees-on, frees-end)
