-- One slot more is touched, as the code meets it.
use Rattle.std.specs.Prelude.{◌≡◌, Bool, List, ℕ, suc, ◌+◌, ◌-◌, ◌<◌}
use Rattle.std.proofs.Math.Path.{refl, sym, ap}
use Rattle.std.proofs.Common.{◌∙◌}
use native.Mathlib.Omega.{arith}
use Rattle.sampleinfo.specs.declared.Sample.{Sample}
use Rattle.samples.specs.Table.{touched}
use Rattle.access.specs.Access.{slot_at, run}
use Rattle.datasample_access.specs.Listed.{touched_all}

module _ (slots : List ℕ) (take : Bool) where
  touched-next : (m p : ℕ) (t : List Sample) → touched_all t take (run (suc m) p slots) ≡ touched_all (touched t (slot_at slots p) take) take (run m (p + 1) slots)
  unfolding run touched_all
  touched-next m p t = refl

  pub touch-turn : (n p slot : ℕ) (t u all : List Sample) → touched_all t take (run (n - p) p slots) ≡ all → p < n → slot ≡ slot_at slots p → u ≡ touched t slot take
      → touched_all u take (run (n - (p + 1)) (p + 1) slots) ≡ all
  touch-turn n p slot t u all inv h e q =
      let one : n - p ≡ suc (n - (p + 1)) = omega arith in
      rw (q, e) (sym (ap (λ (m : ℕ). touched_all t take (run m p slots)) one ∙ touched-next (n - (p + 1)) p t) ∙ inv)
