-- The first bad pair is the first that is not live or the first repeat, whichever stands earlier.
use Rattle.std.proofs.Math.Path.{◌≡◌, refl, ap}
use Rattle.std.proofs.Common.{sym, ◌∙◌, true≢false, add-one, lt-ltb, le-ltb, length-append, drop_of_length-le, drop-cons}
use Rattle.std.specs.Prelude.{Bool, ltb, drop, get_or}
use Rattle.std.proofs.Math.Bool.{true, false, cond}
use mathlib.Core.List.{List, [], ◌∷◌, ◌++◌}
use Rattle.std.proofs.Math.Option.{Option, some, none}
use Prim.Native.Nat.{ℕ, suc, ◌+◌, ◌≤◌, ◌<◌}
use Rattle.std.proofs.Math.Decide.{dec_lt}
use native.Mathlib.Omega.{arith}
use Rattle.std.proofs.Math.ListN.{length}
use Rattle.model.specs.Pairs.{Pair, among, Fault, Bad, not_live, twice, or_later, bad_from, first_bad, none_bad}
use Rattle.pairs.specs.FlatLaws.{no_pair}
use Rattle.pairs.specs.Repeat.{repeat_from, first_repeat, first_dead, bad_by}

-- so many places further on
abbrev further : ℕ → Option Bad → Option Bad
further n none = none
further n (some b) = some (record { place = n + b.place; fault = b.fault })

ltb-suc : (a b : ℕ) → ltb (suc a) (suc b) ≡ ltb a b
ltb-suc a b = go (dec_lt a b)
  where
    go : Dec (a < b) → ltb (suc a) (suc b) ≡ ltb a b
    go (yes h) = lt-ltb (suc a) (suc b) (omega arith) ∙ sym (lt-ltb a b h)
    go (no h) = le-ltb (suc a) (suc b) (omega arith) ∙ sym (le-ltb a b (omega arith))

further-by : (n d r m : ℕ) → further (n + 1) (bad_by d r m) ≡ further n (bad_by (suc d) (suc r) (suc m))
further-by n d r m = rw (ltb-suc r d, ltb-suc d m) (go (ltb r d) (ltb d m))
  where
    go : (a b : Bool) → further (n + 1) (cond a (some (record { place = r; fault = twice })) (cond b (some (record { place = d; fault = not_live })) none))
        ≡ further n (cond a (some (record { place = suc r; fault = twice })) (cond b (some (record { place = suc d; fault = not_live })) none))
    go true b = ap (λ (k : ℕ). some (record { place = k; fault = twice })) (omega arith)
    go false true = ap (λ (k : ℕ). some (record { place = k; fault = not_live })) (omega arith)
    go false false = refl

module _ (live : Pair → Bool) where
  bad-from : (before ps : List Pair) → bad_from live before ps ≡ further (length before) (bad_by (first_dead live ps) (repeat_from before ps) (length ps))
  unfolding bad_from first_dead repeat_from
  bad-from before [] = refl
  bad-from before (p ∷ ps) = go (live p) (among p before) (bad_from live (before ++ p ∷ []) ps)
      (bad-from (before ++ p ∷ []) ps ∙ ap (λ (n : ℕ). further n (bad_by (first_dead live ps) (repeat_from (before ++ p ∷ []) ps) (length ps))) (length-append before (p ∷ []))
      ∙ further-by (length before) (first_dead live ps) (repeat_from (before ++ p ∷ []) ps) (length ps))
    where
      here : (f : Fault) → ◌≡◌ {A = Option Bad} (some (record { place = length before; fault = f })) (some (record { place = length before + 0; fault = f }))
      here f = ap (λ (k : ℕ). some (record { place = k; fault = f })) (omega arith)

      go : (l a : Bool) (later : Option Bad) → later ≡ further (length before) (bad_by (suc (first_dead live ps)) (suc (repeat_from (before ++ p ∷ []) ps)) (suc (length ps)))
          → or_later (length before) (cond l (cond a (some twice) none) (some not_live)) later ≡ further (length before) (bad_by (cond l (suc (first_dead live ps)) 0) (cond a 0 (suc (repeat_from (before ++ p ∷ []) ps))) (suc (length ps)))
      go false a later e = rw (le-ltb (cond a 0 (suc (repeat_from (before ++ p ∷ []) ps))) 0 (omega arith), lt-ltb 0 (suc (length ps)) (omega arith)) (here not_live)
      go true true later e = rw (lt-ltb 0 (suc (first_dead live ps)) (omega arith)) (here twice)
      go true false later e = e

  -- ---- the search for the first that is not live, place by place

  pub dead-le : (ps : List Pair) → first_dead live ps ≤ length ps
  unfolding first_dead
  dead-le [] = omega arith
  dead-le (p ∷ ps) = go (live p) (dead-le ps)
    where
      go : (l : Bool) → first_dead live ps ≤ length ps → cond l (suc (first_dead live ps)) 0 ≤ suc (length ps)
      go true h = omega arith
      go false h = omega arith

  module _ (ps : List Pair) (i : ℕ) where
    pub dead-here : i < length ps → live (get_or ps i no_pair) ≡ false → first_dead live (drop i ps) ≡ 0
    unfolding first_dead
    dead-here h e = rw (drop-cons ps i no_pair h, e)

    pub dead-on : i < length ps → live (get_or ps i no_pair) ≡ true → first_dead live (drop i ps) ≡ suc (first_dead live (drop (i + 1) ps))
    unfolding first_dead
    dead-on h e = rw (drop-cons ps i no_pair h, e, add-one)

    pub dead-past : length ps ≤ i → first_dead live (drop i ps) ≡ 0
    unfolding first_dead
    dead-past h = rw (drop_of_length-le ps {i = i} h)

  -- where no pair is bad, none is dead
  none-dead-from : (before ps : List Pair) → bad_from live before ps ≡ none → first_dead live ps ≡ length ps
  unfolding bad_from first_dead
  none-dead-from before [] e = refl
  none-dead-from before (p ∷ ps) e = go (live p) (among p before) (bad_from live (before ++ p ∷ []) ps) (none-dead-from (before ++ p ∷ []) ps) e
    where
      go : (l a : Bool) (later : Option Bad) → (later ≡ none → first_dead live ps ≡ length ps) → or_later (length before) (cond l (cond a (some twice) none) (some not_live)) later ≡ none
          → cond l (suc (first_dead live ps)) 0 ≡ suc (length ps)
      go false a later k q = absurd (true≢false (sym (ap none_bad q)))
      go true true later k q = absurd (true≢false (sym (ap none_bad q)))
      go true false later k q = ap suc (k q)

  pub none-dead : (ps : List Pair) → first_bad live ps ≡ none → first_dead live ps ≡ length ps
  none-dead ps e = none-dead-from [] ps e

  -- ---- by the two places

  pub bad-by : (ps : List Pair) → first_bad live ps ≡ bad_by (first_dead live ps) (first_repeat ps) (length ps)
  unfolding first_repeat
  bad-by ps = bad-from [] ps ∙ go (bad_by (first_dead live ps) (repeat_from [] ps) (length ps))
    where
      go : (o : Option Bad) → further 0 o ≡ o
      go none = refl
      go (some b) = ap (λ (k : ℕ). some (record { place = k; fault = b.fault })) (omega arith)
