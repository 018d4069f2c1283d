-- An add of the code, as an arrival of the model.
use Rattle.std.specs.Prelude.{List, ℕ}
use Rattle.model.specs.Model.{Arrival}

abbrev pub arrival : ℕ → List ℕ → ℕ → ℕ → ℕ → ℕ → Arrival
arrival n w q t k h = record { name = n; writer = w; seq = q; time = t; kind = k; handle = h }
