-- An unknown instance, no keep count, or a window; one that there is not is no store's.
use Rattle.std.proofs.Common.{rules}
use Rattle.lookup.specs.LookupLaws.{locate-none, locate-slots, locate-cells}
use Rattle.lookup.proofs.locate.Goals as goal

pub returns-then-x-row : goal.returns-then-x-row
returns-then-x-row c = search (rules, locate-none)

pub returns-then-x-eq0 : goal.returns-then-x-eq0
returns-then-x-eq0 c = search (rules, locate-slots)

pub returns-in_ok-of : goal.returns-in_ok-of
returns-in_ok-of c = locate-cells _ _ _ _ _ c.find-row.ensures c.if-x-row.false _ _ _ c.of.ensures c.in_ok-of.was c.among_cells.ensures c.if-x-eq0.false
