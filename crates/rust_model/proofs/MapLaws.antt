-- Laws of the maps and sets.
use Rattle.std.proofs.Common.{◌≡◌, ℕ, ◌<◌, true, false, cond, eqb, ltb, List, [], ◌∷◌, ◌++◌, sym, refl, ap, ◌∙◌, arith, ltb-false, ltb-true, le-ltb, lt-ltb, eq-eqb, ne_eqb, eqb-true}
use mathlib.Core.Option.{some, none}
use borrow.Author.Tests.{eqb-false}
use Rattle.model.specs.Model.{least}
use Rattle.model.specs.Story.{Every, map_o}
use Rattle.model.specs.PairLaws.{split}
use Rattle.rust_model.specs.Maps.{Entry, entry, get, insert, remove, modify, first_above, insert_stamp, remove_stamp}

-- ---- tests
pub same-eqb : (n : ℕ) → eqb n n ≡ true
same-eqb n = eq-eqb n n refl

pub eqb_swap : (a b : ℕ) → eqb a b ≡ false → eqb b a ≡ false
eqb_swap a b e = ne_eqb b a (λ q. eqb-false a b e (sym q))

pub above-eqb : (a b : ℕ) → a < b → eqb a b ≡ false
above-eqb a b h = ne_eqb a b (λ q. omega arith)

pub below-eqb : (a b : ℕ) → a < b → eqb b a ≡ false
below-eqb a b h = ne_eqb b a (λ q. omega arith)

module _ {A : Type 0} where
  -- ---- get
  pub get-here : (n : ℕ) (e : Entry A) (m : List (Entry A)) → eqb e.at n ≡ true → get n (e ∷ m) ≡ some e.item
  unfolding get
  get-here n e m q = rw q

  pub get-there : (n : ℕ) (e : Entry A) (m : List (Entry A)) → eqb e.at n ≡ false → get n (e ∷ m) ≡ get n m
  unfolding get
  get-there n e m q = rw q

  pub get_none : (n : ℕ) (m : List (Entry A)) → Every (λ e. n < e.at) m → get n m ≡ none
  unfolding get
  get_none n [] h = refl
  get_none n (e ∷ m) h = rw (below-eqb n e.at h.0) (get_none n m h.1)

  pub get-past : (n : ℕ) (m : List (Entry A)) → Every (λ e. e.at < n) m → get n m ≡ none
  unfolding get
  get-past n [] h = refl
  get-past n (e ∷ m) h = rw (above-eqb e.at n h.0) (get-past n m h.1)

  -- ---- insert
  pub get_insert_same : (k : ℕ) (a : A) (m : List (Entry A)) → get k (insert k a m) ≡ some a
  unfolding insert get
  get_insert_same k a [] = rw same-eqb
  get_insert_same k a (e ∷ m) = split (ltb k e.at)
      (λ p. rw (p, same-eqb k))
      (λ p. split (eqb e.at k)
      (λ q. rw (p, q, same-eqb k))
      (λ q. rw (p, q) (rw q (get_insert_same k a m))))

  pub get_insert_other : (k n : ℕ) (a : A) (m : List (Entry A)) → eqb k n ≡ false → get n (insert k a m) ≡ get n m
  unfolding insert get
  get_insert_other k n a [] h = rw h
  get_insert_other k n a (e ∷ m) h = split (ltb k e.at)
      (λ p. rw (p, h))
      (λ p. split (eqb e.at k)
      (λ q. rw (p, q, h, eqb-true e.at k q, h))
      (λ q. rw (p, q) (split (eqb e.at n) (λ r. rw r) (λ r. rw r (get_insert_other k n a m h)))))

  pub insert-end : (k : ℕ) (a : A) (m : List (Entry A)) → Every (λ e. e.at < k) m → insert k a m ≡ m ++ entry k a ∷ []
  unfolding insert
  insert-end k a [] h = refl
  insert-end k a (e ∷ m) h = rw (le-ltb k e.at (omega (arith, h.0)), above-eqb e.at k h.0) (ap (e ∷◌) (insert-end k a m h.1))

  -- ---- remove
  pub remove-append : (k : ℕ) (m r : List (Entry A)) → remove k (m ++ r) ≡ remove k m ++ remove k r
  unfolding remove
  remove-append k [] r = refl
  remove-append k (e ∷ m) r = split (eqb e.at k)
      (λ q. rw q (remove-append k m r))
      (λ q. rw q (ap (e ∷◌) (remove-append k m r)))

  pub remove-none : (k : ℕ) (m : List (Entry A)) → Every (λ e. k < e.at) m → remove k m ≡ m
  unfolding remove
  remove-none k [] h = refl
  remove-none k (e ∷ m) h = rw (below-eqb k e.at h.0) (ap (e ∷◌) (remove-none k m h.1))

  pub get_remove_other : (k n : ℕ) (m : List (Entry A)) → eqb k n ≡ false → get n (remove k m) ≡ get n m
  unfolding remove get
  get_remove_other k n [] h = refl
  get_remove_other k n (e ∷ m) h = split (eqb e.at k)
      (λ q. rw (q, eqb-true e.at k q, h) (get_remove_other k n m h))
      (λ q. rw q (split (eqb e.at n) (λ r. rw r) (λ r. rw r (get_remove_other k n m h))))

  -- ---- modify
  pub get-modify : (k n : ℕ) (f : A → A) (m : List (Entry A)) → get n (modify k f m) ≡ cond (eqb k n) (map_o f (get n m)) (get n m)
  unfolding modify get
  get-modify k n f [] = split (eqb k n) (λ q. rw q) (λ q. rw q)
  get-modify k n f (e ∷ m) = split (eqb e.at k)
      (λ p. split (eqb k n)
      (λ q. rw (p, eqb-true e.at k p, q))
      (λ q. rw (p, eqb-true e.at k p, q) (get-modify k n f m ∙ rw q)))
      (λ p. split (eqb e.at n)
      (λ q. rw (p, q, ← eqb-true e.at n q, eqb_swap e.at k p))
      (λ q. rw (p, q) (get-modify k n f m)))

  pub above-modify : (k n : ℕ) (f : A → A) (m : List (Entry A)) → first_above n (modify k f m) ≡ first_above n m
  unfolding modify first_above
  above-modify k n f [] = refl
  above-modify k n f (e ∷ m) = split (eqb e.at k)
      (λ p. rw p (split (ltb n e.at) (λ q. rw q) (λ q. rw q (above-modify k n f m))))
      (λ p. rw p (split (ltb n e.at) (λ q. rw q) (λ q. rw q (above-modify k n f m))))

  -- ---- the first key above
  pub above-insert : (n k : ℕ) (a : A) (m : List (Entry A)) → first_above n (insert k a m) ≡ cond (ltb n k) (least (first_above n m) k) (first_above n m)
  unfolding insert first_above
  above-insert n k a [] = refl
  above-insert n k a (e ∷ m) = split (ltb k e.at)
      (λ p. rw p (split (ltb n k)
      (λ q. rw (q, lt-ltb n e.at (omega (arith, ltb-true k e.at p, ltb-true n k q)), p))
      (λ q. rw q)))
      (λ p. split (eqb e.at k)
      (λ r. rw (p, r, eqb-true e.at k r) (split (ltb n k)
      (λ q. rw (q, le-ltb k k (omega arith)))
      (λ q. rw q)))
      (λ r. rw (p, r) (split (ltb n e.at)
      (λ q. rw (q, lt-ltb n k (omega (arith, ltb-false k e.at p, ltb-true n e.at q, eqb-false e.at k r)), p))
      (λ q. rw q (above-insert n k a m)))))

-- ---- stamps
pub stamp-end : (k : ℕ) (s : List ℕ) → Every (λ j. j < k) s → insert_stamp k s ≡ s ++ k ∷ []
unfolding insert_stamp
stamp-end k [] h = refl
stamp-end k (j ∷ s) h = rw (le-ltb k j (omega (arith, h.0)), above-eqb j k h.0) (ap (j ∷◌) (stamp-end k s h.1))

pub stamp-none : (k : ℕ) (s : List ℕ) → Every (λ j. k < j) s → remove_stamp k s ≡ s
unfolding remove_stamp
stamp-none k [] h = refl
stamp-none k (j ∷ s) h = rw (below-eqb k j h.0) (ap (j ∷◌) (stamp-none k s h.1))
