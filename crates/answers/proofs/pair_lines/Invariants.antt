use mathlib.Core.Path.{◌≡◌}
use Rattle.answers.specs.SoFar.{PairsTo}
use Rattle.answers.proofs.pair_lines.Given as goal

abbrev pub invariant-loop-pair : goal.invariant-loop-pair
invariant-loop-pair l =
    PairsTo l.words l.n l.initial.page.bytes.now l.initial.page.at l.page.bytes.now l.page.at l.pair-index × (l.page.bytes.ghost_name ≡ l.initial.page.bytes.ghost_name)
