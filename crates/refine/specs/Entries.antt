-- The live samples of an instance among those of all; instances by name and by place.
use Rattle.std.proofs.Math.Path.{◌≡◌, refl, sym, ap}
use Rattle.std.proofs.Common.{◌∙◌, not-suc-le-zero, le_of_suc-le-suc, add-zero}
use Rattle.std.specs.Prelude.{Bool, take, drop}
use Rattle.std.proofs.Math.Bool.{true, false, cond}
use mathlib.Core.List.{List, [], ◌∷◌, ◌++◌, map, append_assoc}
use Rattle.std.proofs.Math.Option.{Option, some, none}
use Prim.Native.Nat.{ℕ, zero, suc, ◌+◌, ◌≤◌, ◌<◌}
use native.Mathlib.Omega.{arith}
use borrow.Author.Tests.{eqb-true}
use Rattle.std.proofs.Math.ListN.{length, get_or}
use Rattle.std.proofs.Math.Dec.{leb, eqb, leb-suc-zero, leb-suc-suc}
use Rattle.lists.specs.Blocks.{put_at}
use Rattle.sampleinfo.specs.declared.InstanceState.{InstanceState}
use Rattle.model.specs.Model.{Live, Place, gone, held, Instance, find, put, live_in, lives, is_new, or_fresh}
use Rattle.store.specs.Store.{Inst, place_of}
use Rattle.refine.specs.Layout.{Entry, entry, entries_from, inst_of}
use Rattle.refine.specs.Tables.{lives_in}

-- ---- the live samples

pub map-append {ℓ κ} : {A : Type ℓ} {B : Type κ} (f : A → B) (s t : List A) → map f (s ++ t) ≡ map f s ++ map f t
map-append f [] t = refl
map-append f (a ∷ s) t = ap (λ r. f a ∷ r) (map-append f s t)

pub lives-entry : (n : ℕ) (ss : List Live) → lives_in (map (entry n) ss) ≡ ss
lives-entry n [] = refl
lives-entry n (s ∷ ss) = ap (λ (r : List Live). s ∷ r) (lives-entry n ss)

pub lives-of : (n : ℕ) (is : List Instance) → lives_in (entries_from n is) ≡ lives is
unfolding entries_from lives
lives-of n [] = refl
lives-of n (i ∷ is) = map-append _ (map (entry n) (live_in i.places)) (entries_from (suc n) is) ∙ rw (lives-entry n (live_in i.places), lives-of (suc n) is)

pub live-append : (ps qs : List Place) → live_in (ps ++ qs) ≡ live_in ps ++ live_in qs
unfolding live_in
live-append [] qs = refl
live-append (gone ∷ ps) qs = live-append ps qs
live-append (held s ∷ ps) qs = ap (λ (r : List Live). s ∷ r) (live-append ps qs)

-- those before the instance at a place, and those behind it
abbrev pub before : ℕ → ℕ → List Instance → List Entry
before n at is = entries_from n (take at is)

abbrev pub behind : ℕ → ℕ → List Instance → List Entry
behind n at is = entries_from (suc (n + at)) (drop (suc at) is)

abbrev pub among : ℕ → ℕ → List Instance → List Live → List Entry
among n at is ss = before n at is ++ (map (entry (n + at)) ss ++ behind n at is)

pub entries-put : (n at : ℕ) (is : List Instance) (y : Instance) → at ≤ length is → entries_from n (put_at at y is) ≡ among n at is (live_in y.places)
unfolding entries_from put_at
entries-put n zero [] y h = rw (add-zero n)
entries-put n (suc at) [] y h = absurd (not-suc-le-zero h)
entries-put n zero (i ∷ is) y h = rw (add-zero n)
entries-put n (suc at) (i ∷ is) y h =
    let e : n + suc at ≡ suc n + at = omega arith in
    rw (e, append_assoc) (ap (λ (r : List Entry). map (entry n) (live_in i.places) ++ r) (entries-put (suc n) at is y (le_of_suc-le-suc h)))

pub entries_at : (n at : ℕ) (is : List Instance) (d : Instance) → live_in d.places ≡ [] → at ≤ length is → entries_from n is ≡ among n at is (live_in (get_or is at d).places)
unfolding entries_from
entries_at n zero [] d z h = rw z
entries_at n (suc at) [] d z h = absurd (not-suc-le-zero h)
entries_at n zero (i ∷ is) d z h = rw (add-zero n)
entries_at n (suc at) (i ∷ is) d z h =
    let e : n + suc at ≡ suc n + at = omega arith in
    rw (e, append_assoc) (ap (λ (r : List Entry). map (entry n) (live_in i.places) ++ r) (entries_at (suc n) at is d z (le_of_suc-le-suc h)))

-- ---- by name and by place

pub found_name : (n : ℕ) (is : List Instance) (i : Instance) → find n is ≡ some i → i.name ≡ n
unfolding find
found_name n [] i e = let z : ◌≡◌ {A = ℕ} 0 1 = cc in absurd (omega arith)
found_name n (j ∷ is) i e = go (eqb j.name n) refl e (found_name n is i)
  where
    go : (b : Bool) → eqb j.name n ≡ b → cond b (some j) (find n is) ≡ some i → (find n is ≡ some i → i.name ≡ n) → i.name ≡ n
    go true q h r = let p : j ≡ i = cc in ap (λ (x : Instance). x.name) (sym p) ∙ eqb-true j.name n q
    go false q h r = r h

module _ (k : Option ℕ) where
  abbrev pub insts : List Instance → List Inst
  insts is = map (inst_of k) is

  pub put_is : (j : Instance) (is : List Instance) → put j is ≡ put_at (place_of j.name (insts is)) j is
  unfolding put put_at place_of
  put_is j [] = refl
  put_is j (i ∷ is) = go (eqb i.name j.name) (put_is j is)
    where
      go : (b : Bool) → put j is ≡ put_at (place_of j.name (insts is)) j is
          → cond b (j ∷ is) (i ∷ put j is) ≡ put_at (cond b 0 (suc (place_of j.name (insts is)))) j (i ∷ is)
      go true e = refl
      go false e = ap (λ (r : List Instance). i ∷ r) e

  pub find-is : (n : ℕ) (l : InstanceState) (is : List Instance) → or_fresh k n l (find n is) ≡ get_or is (place_of n (insts is)) (or_fresh k n l none)
  unfolding find place_of
  find-is n l [] = refl
  find-is n l (i ∷ is) = go (eqb i.name n) (find-is n l is)
    where
      go : (b : Bool) → or_fresh k n l (find n is) ≡ get_or is (place_of n (insts is)) (or_fresh k n l none)
          → or_fresh k n l (cond b (some i) (find n is)) ≡ get_or (i ∷ is) (cond b 0 (suc (place_of n (insts is)))) (or_fresh k n l none)
      go true e = refl
      go false e = e

  pub new_is : (n : ℕ) (is : List Instance) → is_new (find n is) ≡ leb (length is) (place_of n (insts is))
  unfolding find place_of
  new_is n [] = refl
  new_is n (i ∷ is) = go (eqb i.name n) (new_is n is)
    where
      go : (b : Bool) → is_new (find n is) ≡ leb (length is) (place_of n (insts is))
          → is_new (cond b (some i) (find n is)) ≡ leb (suc (length is)) (cond b 0 (suc (place_of n (insts is))))
      go true e = sym (leb-suc-zero (length is))
      go false e = e ∙ sym (leb-suc-suc (length is) (place_of n (insts is)))

  pub name-is : (n : ℕ) (l : InstanceState) (is : List Instance) → (or_fresh k n l (find n is)).name ≡ n
  unfolding find
  name-is n l [] = refl
  name-is n l (i ∷ is) = go (eqb i.name n) refl (name-is n l is)
    where
      go : (b : Bool) → eqb i.name n ≡ b → (or_fresh k n l (find n is)).name ≡ n → (or_fresh k n l (cond b (some i) (find n is))).name ≡ n
      go true q e = eqb-true i.name n q
      go false q e = e

  pub place-le : (n : ℕ) (is : List Instance) → place_of n (insts is) ≤ length is
  unfolding place_of
  place-le n [] = omega arith
  place-le n (i ∷ is) = go (eqb i.name n) (place-le n is)
    where
      go : (b : Bool) → place_of n (insts is) ≤ length is → cond b 0 (suc (place_of n (insts is))) ≤ suc (length is)
      go true h = omega arith
      go false h = omega arith

  -- a name that is found stands at its place, and that is one of theirs
  pub found_at : (n : ℕ) (is : List Instance) (i d : Instance) → find n is ≡ some i → (place_of n (insts is) < length is) × (get_or is (place_of n (insts is)) d ≡ i)
  unfolding find place_of
  found_at n [] i d e = let z : ◌≡◌ {A = ℕ} 0 1 = cc in absurd (omega arith)
  found_at n (j ∷ is) i d e = go (eqb j.name n) e (found_at n is i d)
    where
      go : (b : Bool) → cond b (some j) (find n is) ≡ some i → (find n is ≡ some i → (place_of n (insts is) < length is) × (get_or is (place_of n (insts is)) d ≡ i))
          → (cond b 0 (suc (place_of n (insts is))) < suc (length is)) × (get_or (j ∷ is) (cond b 0 (suc (place_of n (insts is)))) d ≡ i)
      go true q r = (omega arith, cc)
      go false q r = (omega (arith, (r q).0), (r q).1)

  pub unknown-at : (n : ℕ) (is : List Instance) → find n is ≡ none → place_of n (insts is) ≡ length is
  unfolding find place_of
  unknown-at n [] e = refl
  unknown-at n (j ∷ is) e = go (eqb j.name n) e (unknown-at n is)
    where
      go : (b : Bool) → cond b (some j) (find n is) ≡ none → (find n is ≡ none → place_of n (insts is) ≡ length is) → cond b 0 (suc (place_of n (insts is))) ≡ suc (length is)
      go true q r = let z : ◌≡◌ {A = ℕ} 0 1 = cc in absurd (omega arith)
      go false q r = ap suc (r q)
