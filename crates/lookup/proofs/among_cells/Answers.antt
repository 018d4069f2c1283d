-- The cells passed are others.
use Rattle.std.proofs.Common.{rules}
use Rattle.lookup.specs.LookupLaws.{cells-start, cells-hit, cells-on, cells-end}
use Rattle.lookup.proofs.among_cells.Goals as goal

pub loop-j-init : goal.loop-j-init
loop-j-init c = search (rules, cells-start)

pub returns-then-holds : goal.returns-then-holds
returns-then-holds c = search (rules, cells-hit)

pub loop-j-preserved : goal.loop-j-preserved
loop-j-preserved c = search (rules, cells-on)

pub returns : goal.returns
returns c = search (rules, cells-end)
