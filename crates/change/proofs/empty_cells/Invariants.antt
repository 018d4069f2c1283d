use Rattle.std.specs.Prelude.{◌≡◌, ◌*◌}
use Rattle.change.specs.Change.{emptying}
use Rattle.change.proofs.empty_cells.Given as goal

abbrev pub invariant-loop-j : goal.invariant-loop-j
invariant-loop-j l = l.ws ≡ emptying l.initial.ws (l.fn.window.depth * l.fn.window.row) l.slot l.j
