-- No list of more than 256 pairs is fine: each pair takes a slot of its own.
use Rattle.std.specs.Prelude.{◌≡◌, refl, Bool, true, false, cond, List, [], ◌∷◌, ℕ, zero, suc, ◌+◌, ◌≤◌, ◌<◌, length, get_or, set, eqb}
use Rattle.std.proofs.Common.{ap, ◌∙◌, le_of_suc-le-suc, not-suc-le-zero, arith, eq-eqb}
use Rattle.model.specs.Pairs.{Pair}
use Rattle.model.specs.Model.{Model, fine}
use Rattle.store.specs.Store.{Store, freed}
use Rattle.refine.specs.Good.{Good}
use Rattle.refine.proofs.FitOf.{fit_of}
use Rattle.refine.specs.Layout.{store_of}
use Rattle.refine.proofs.Touch.{touched_by, good-touched}
use Rattle.refine.proofs.Take.{store-taken}
use Rattle.refine.proofs.Named.{Known}
use Rattle.refine.proofs.Fold.{Fine, fine-first, fine-next, Names, names_of, known_of}

-- how many are 0: the slots in use
unfoldable zeros : List ℕ → ℕ
zeros [] = 0
zeros (x ∷ l) = cond (eqb x 0) 1 0 + zeros l

zeros-le : (l : List ℕ) → zeros l ≤ length l
unfolding zeros
zeros-le [] = omega arith
zeros-le (x ∷ l) = go (eqb x 0) (zeros-le l)
  where
    go : (b : Bool) → zeros l ≤ length l → cond b 1 0 + zeros l ≤ suc (length l)
    go true h = omega arith
    go false h = omega arith

zeros-set : (l : List ℕ) (k : ℕ) → k < length l → get_or l k 0 ≡ 0 → zeros (set l k 1) + 1 ≡ zeros l
unfolding zeros
zeros-set [] k h e = absurd (not-suc-le-zero h)
zeros-set (x ∷ l) zero h e = rw (eq-eqb x 0 e) (omega arith)
zeros-set (x ∷ l) (suc k) h e = let r : zeros (set l k 1) + 1 ≡ zeros l = zeros-set l k (le_of_suc-le-suc h) e in omega arith

free_of_lem : (s : Store) (row k : ℕ) → (freed s row k).free ≡ set s.free k 1
unfolding freed
free_of_lem s row k = refl

used : (m : Model) → Good m → (ps : List Pair) → fine m ps ≡ true → length ps ≤ zeros (store_of m).free
used m g [] h = omega arith
used m g (p ∷ ps) h =
    let f : Fine m p ps = fine-first m p ps h in
    let n : Names m p = names_of m p f.first in
    let k : Known m g p n.s = known_of m g p n in
    let rest : length ps ≤ zeros (store_of (touched_by true m (p ∷ []))).free = used (touched_by true m (p ∷ [])) (good-touched true m g (p ∷ [])) ps (fine-next true m g p ps f) in
    let now : (store_of (touched_by true m (p ∷ []))).free ≡ set (store_of m).free n.s.slot 1 =
    ap (λ (z : Store). z.free) (store-taken m g p n.i n.found n.s n.held_by) ∙ free_of_lem (store_of m) _ n.s.slot in
    omega (arith, ap zeros now, zeros-set (store_of m).free n.s.slot (omega (arith, k.below, (fit_of m g).free)) k.taken)

pub few-pairs : (m : Model) → Good m → (ps : List Pair) → fine m ps ≡ true → length ps ≤ 256
few-pairs m g ps h = omega (arith, used m g ps h, zeros-le (store_of m).free, (fit_of m g).free)
