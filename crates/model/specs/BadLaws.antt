-- All live, and one among the pairs before it: for `proofs/BadLaws`.
use Rattle.std.specs.Prelude.{◌≡◌, Bool, ◌&&◌, ◌||◌, ℕ, eqb}
use Rattle.std.proofs.Common.{sym, ◌∙◌, ne_eqb}
use Rattle.std.proofs.Math.Bool.{true, false}
use mathlib.Core.List.{List, [], ◌∷◌}
use Rattle.std.proofs.Math.Decide.{ℕ_discrete}
use Rattle.model.specs.Pairs.{Pair, same_pair, among}
use Rattle.model.specs.Model.{Model, is_live}

unfoldable pub all_of : (Pair → Bool) → List Pair → Bool
all_of live [] = true
all_of live (p ∷ ps) = live p && all_of live ps

unfoldable pub all_live : Model → List Pair → Bool
all_live m [] = true
all_live m (p ∷ ps) = is_live m p && all_live m ps

-- one of ps is among the pairs before them
unfoldable pub meets : List Pair → List Pair → Bool
unfolding among
meets before [] = false
meets before (p ∷ ps) = among p before || meets before ps

pub eqb-sym : (m n : ℕ) → eqb m n ≡ eqb n m
eqb-sym m n = go (ℕ_discrete m n)
  where
    go : Dec (m ≡ n) → eqb m n ≡ eqb n m
    go (yes e) = rw e
    go (no e) = ne_eqb m n e ∙ sym (ne_eqb n m (λ q. e (sym q)))

pub same-sym : (p q : Pair) → same_pair p q ≡ same_pair q p
same-sym p q = rw (eqb-sym p.key q.key, eqb-sym p.name q.name)
