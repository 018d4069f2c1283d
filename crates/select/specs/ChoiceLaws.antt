-- What is chosen of a slot, as the code meets it.
use Rattle.std.specs.Prelude.{◌≡◌, List, [], ℕ}
use Rattle.std.proofs.Math.Bool.{false}
use Rattle.std.proofs.Math.Option.{Option}
use Rattle.readcondition.specs.declared.ReadCondition.{ReadCondition}
use Rattle.select.specs.Choice.{chosen_on, hit_on}

module _ (free ws seen : List ℕ) (c : ReadCondition) (w : Option ℕ) (k : ℕ) where
  pub hit-none : false ≡ chosen_on free ws seen c w k → hit_on free ws seen c w k ≡ []
  unfolding hit_on
  hit-none e = rw (← e)
