use Rattle.std.specs.Prelude.{◌≡◌, ◌*◌}
use Rattle.plan.specs.Plan.{shifting}
use Rattle.plan.proofs.move_on.Given as goal

abbrev pub invariant-loop-j : goal.invariant-loop-j
invariant-loop-j l = l.ws ≡ shifting l.initial.ws (l.fn.window.depth * l.fn.window.row) l.j
