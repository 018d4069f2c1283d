use Rattle.lookup.specs.LookupLaws.{Cells}
use Rattle.lookup.proofs.among_cells.Given as goal

abbrev pub invariant-loop-j : goal.invariant-loop-j
invariant-loop-j l = Cells l.ws l.fn.window.depth l.fn.window.row l.key l.j
