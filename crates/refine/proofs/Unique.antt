-- A key is live once: the sample under it is the only one.
use Rattle.std.proofs.Math.Path.{◌≡◌, refl}
use Rattle.std.specs.Prelude.{Bool, ℕ, zero, suc, ◌+◌, ◌≤◌, ◌<◌, take}
use Rattle.std.proofs.Math.Bool.{true, false, cond}
use mathlib.Core.List.{List, [], ◌∷◌, ◌++◌, map}
use Rattle.std.proofs.Math.Option.{some, none}
use native.Mathlib.Omega.{arith}
use Rattle.std.proofs.lemmas.Bool.{eqb-false}
use Rattle.std.proofs.Math.Dec.{eqb}
use Rattle.lists.specs.Every.{Every, every_append, every_map}
use Rattle.lists.specs.Count.{bit}
use Rattle.model.specs.Model.{Instance, Live, live_in, count, keyed}
use Rattle.model.specs.Demand3.{has_key}
use Rattle.model.specs.PairLaws.{split}
use Rattle.refine.specs.Layout.{entry, entries_from}
use Rattle.refine.proofs.Found.{every-over, every-all}

module _ (k : ℕ) where
  pub keyed-skip : (a b : List Live) → count (has_key k) a ≡ 0 → keyed k (a ++ b) ≡ keyed k b
  unfolding keyed count
  keyed-skip [] b z = refl
  keyed-skip (x ∷ a) b z = split (eqb x.key k)
      (λ q. absurd (omega (arith, rw q at z)))
      (λ q. rw q (keyed-skip a b (omega (arith, rw q at z))))

  pub keyed-first : (b c : List Live) (s : Live) → keyed k b ≡ some s → keyed k (b ++ c) ≡ some s
  unfolding keyed
  keyed-first [] c s e = let z : ◌≡◌ {A = ℕ} 0 1 = cc in absurd (omega arith)
  keyed-first (x ∷ b) c s e = go (eqb x.key k) e (keyed-first b c s)
    where
      go : (t : Bool) → cond t (some x) (keyed k b) ≡ some s → (keyed k b ≡ some s → keyed k (b ++ c) ≡ some s) → cond t (some x) (keyed k (b ++ c)) ≡ some s
      go true q f = q
      go false q f = f q

  pub keyed-counted : (ss : List Live) (s : Live) → keyed k ss ≡ some s → 0 < count (has_key k) ss
  unfolding keyed count
  keyed-counted [] s e = let z : ◌≡◌ {A = ℕ} 0 1 = cc in absurd (omega arith)
  keyed-counted (x ∷ ss) s e = go (eqb x.key k) e (keyed-counted ss s)
    where
      go : (t : Bool) → cond t (some x) (keyed k ss) ≡ some s → (keyed k ss ≡ some s → 0 < count (has_key k) ss) → 0 < bit t + count (has_key k) ss
      go true q f = omega arith
      go false q f = omega (arith, f q)

  pub none-counted : (ss : List Live) → count (has_key k) ss ≡ 0 → Every (λ x. x.key ≡ k → ⊥) ss
  unfolding count Every
  none-counted [] z = tt
  none-counted (x ∷ ss) z = split (eqb x.key k)
      (λ q. absurd (omega (arith, rw q at z)))
      (λ q. (eqb-false x.key k q, none-counted ss (omega (arith, rw q at z))))

  pub unkeyed : (ss : List Live) → keyed k ss ≡ none → Every (λ x. x.key ≡ k → ⊥) ss
  unfolding keyed Every
  unkeyed [] e = tt
  unkeyed (x ∷ ss) e = go (eqb x.key k) refl e (unkeyed ss)
    where
      go : (t : Bool) → eqb x.key k ≡ t → cond t (some x) (keyed k ss) ≡ none → (keyed k ss ≡ none → Every (λ y. y.key ≡ k → ⊥) ss)
          → (x.key ≡ k → ⊥) × Every (λ y. y.key ≡ k → ⊥) ss
      go true p q f = let z : ◌≡◌ {A = ℕ} 0 1 = cc in absurd (omega arith)
      go false p q f = (eqb-false x.key k p, f q)

  -- where the key is live once, whoever has it is the one
  pub unique : (ss : List Live) (s : Live) → count (has_key k) ss ≤ 1 → keyed k ss ≡ some s → Every (λ x. x.key ≡ k → x ≡ s) ss
  unfolding keyed count Every
  unique [] s h e = tt
  unique (x ∷ ss) s h e = go (eqb x.key k) refl e (unique ss s (omega arith)) (none-counted ss)
    where
      go : (t : Bool) → eqb x.key k ≡ t → cond t (some x) (keyed k ss) ≡ some s → (keyed k ss ≡ some s → Every (λ y. y.key ≡ k → y ≡ s) ss)
          → (count (has_key k) ss ≡ 0 → Every (λ y. y.key ≡ k → ⊥) ss) → (x.key ≡ k → x ≡ s) × Every (λ y. y.key ≡ k → y ≡ s) ss
      go true p q f n = (λ r. cc, every_map (λ y. y.key ≡ k → ⊥) (λ y. y.key ≡ k → y ≡ s) ss (λ y w r. absurd (w r)) (n (omega (arith, rw p at h))))
      go false p q f n = (λ r. absurd (eqb-false x.key k p r), f q)

-- ---- the place of an entry's instance

pub places-below : (n at : ℕ) (is : List Instance) → Every (λ e. e.at < n + at) (entries_from n (take at is))
unfolding entries_from Every
places-below n zero is = tt
places-below n (suc at) [] = tt
places-below n (suc at) (i ∷ is) = every_append (λ e. e.at < n + suc at) (map (entry n) (live_in i.places)) (entries_from (suc n) (take at is))
    (every-over (λ e. e.at < n + suc at) (entry n) (live_in i.places) (every-all (λ s. n < n + suc at) (live_in i.places) (λ s. omega arith)))
    (every_map (λ e. e.at < suc n + at) (λ e. e.at < n + suc at) (entries_from (suc n) (take at is)) (λ e h. omega arith) (places-below (suc n) at is))

pub places-from : (n : ℕ) (is : List Instance) → Every (λ e. n ≤ e.at) (entries_from n is)
unfolding entries_from Every
places-from n [] = tt
places-from n (i ∷ is) = every_append (λ e. n ≤ e.at) (map (entry n) (live_in i.places)) (entries_from (suc n) is)
    (every-over (λ e. n ≤ e.at) (entry n) (live_in i.places) (every-all (λ s. n ≤ n) (live_in i.places) (λ s. omega arith)))
    (every_map (λ e. suc n ≤ e.at) (λ e. n ≤ e.at) (entries_from (suc n) is) (λ e h. omega arith) (places-from (suc n) is))
