-- The bytes of a writer and the words of a list record, as they are laid into memory one by one.
use Rattle.std.specs.Prelude.{◌≡◌, Bool, true, false, cond, List, ◌++◌, eqb, get_or, take, drop, set}
use Rattle.std.proofs.Math.Path.{refl, ap}
use Rattle.std.proofs.Common.{sym, ◌∙◌, append_assoc, add-one, length-take-le}
use Prim.Native.Nat.{ℕ, zero, suc, ◌+◌, ◌*◌, ◌≤◌, ◌<◌}
use native.Mathlib.Omega.{arith}
use Rattle.std.proofs.Math.Nat.{add-zero}
use borrow.Author.Tests.{eqb-true, lt-leb, le-leb}
use Rattle.std.proofs.Math.ListN.{length}
use Rattle.std.proofs.Math.Seq.{drop-cons, take-suc, take-length, take-append_seam}
use Rattle.std.proofs.lemmas.List.{set_at}
use Rattle.std.specs.Prelude.{Option, Some, None}
use Rattle.records.specs.declared.Request.{Request}
use Rattle.records.specs.declared.Request.TheVariants as request
use Rattle.records.specs.Format.{byte_at, number_at, too_long, instance_in, masks_at, set_up_size, set_up_in, add_size, arrival_in, no_writers_size, choose_size, choose_within_size, count_in, pairs_at, pair_size, list_size, next_key_size, sized_op, op_at, count_of, pairs_from, list_count}
use Rattle.records.specs.Words.{list_words, words_of, words_in, laid_in}

-- ---- words at the front of a list

-- the first j of s in front of the rest of l
unfoldable pub filled : List ℕ → List ℕ → ℕ → List ℕ
filled l s j = take j s ++ drop j l

module _ (l s : List ℕ) where
  pub filled-start : l ≡ filled l s 0
  unfolding filled
  filled-start = refl

  filled_next : (j : ℕ) → j < length s → length s ≤ length l → set (filled l s j) j (get_or s j 0) ≡ filled l s (j + 1)
  unfolding filled
  filled_next j h k =
      rw (add-one j, drop-cons l j 0 (omega arith), take-suc s j 0 h, append_assoc)
      (set_at (take j s) (get_or l j 0) (drop (suc j) l) (get_or s j 0) j (length-take-le j s (omega arith)))

-- ---- the words

module _ (rec : List ℕ) where
  pub words-length : (n at : ℕ) → length (words_of (pairs_from n rec at)) ≡ 2 * n
  unfolding words_of pairs_from
  words-length zero at = refl
  words-length (suc n) at = omega (arith, words-length n (at + pair_size))

  words-at : (n i at : ℕ) → i < 2 * n → get_or (words_of (pairs_from n rec at)) i 0 ≡ number_at 8 rec (at + 8 * i)
  unfolding words_of pairs_from
  words-at zero i at h = absurd (omega arith)
  words-at (suc n) zero at h = rw add-zero
  words-at (suc n) (suc zero) at h = refl
  words-at (suc n) (suc (suc i)) at h =
      let e : at + pair_size + 8 * i ≡ at + 8 * suc (suc i) = omega arith in
      words-at n i (at + pair_size) (omega arith) ∙ ap (λ (k : ℕ). number_at 8 rec k) e

module _ (rec l : List ℕ) (n : ℕ) (e : n ≡ 2 * list_count rec) where
  pub words_count : n ≡ length (words_in rec)
  words_count = e ∙ sym (words-length rec (list_count rec) pairs_at)

  pub words-kept : length l < n → l ≡ laid_in l (words_in rec)
  unfolding laid_in
  words-kept h = rw (lt-leb (length (words_in rec)) (length l) (omega (arith, words_count)))

  pub words-turn : (now : List ℕ) (i x : ℕ) → now ≡ filled l (words_in rec) i → i < n → n ≤ length l → x ≡ number_at 8 rec (pairs_at + 8 * i) → set now i x ≡ filled l (words_in rec) (i + 1)
  words-turn now i x s h k q =
      rw (s, q, ← words-at rec (list_count rec) i pairs_at (omega arith)) (filled_next l (words_in rec) i (omega (arith, words_count)) (omega (arith, words_count)))

  pub words-end : (now : List ℕ) (i : ℕ) → now ≡ filled l (words_in rec) i → i ≤ n → n ≤ i → n ≤ length l → now ≡ laid_in l (words_in rec)
  unfolding laid_in filled
  words-end now i s h k q =
      let z : i ≡ length (words_in rec) = omega (arith, words_count) in
      s ∙ rw (z, le-leb (length (words_in rec)) (length l) (omega (arith, words_count)), take-length)

-- ---- the pairs of any record have room in the words of the longest list

module _ (rec : List ℕ) where
  abbrev Held : Option Request → Type 0
  Held q = pair_size * count_of q ≤ length rec

  either : (b : Bool) (x y : Option Request) → Held x → Held y → Held (cond b x y)
  either true x y p q = p
  either false x y p q = q

  none-held : (n : ℕ) (q : Request) → count_of (Some q) ≡ 0 → Held (sized_op n rec q)
  none-held n q e = either (eqb (length rec) n) (Some q) None (rw e (omega arith)) (omega arith)

  list_held : (q : Request) → count_of (Some q) ≡ count_in rec → Held (sized_op (list_size (count_in rec)) rec q)
  list_held q e = go (eqb (length rec) (list_size (count_in rec))) refl
    where
      go : (b : Bool) → eqb (length rec) (list_size (count_in rec)) ≡ b → Held (cond b (Some q) None)
      go true p = rw e (omega (arith, eqb-true (length rec) (list_size (count_in rec)) p))
      go false p = omega arith

  held : (o : ℕ) → Held (op_at o rec)
  unfolding op_at
  held o =
      either (eqb o 0) _ _ (none-held set_up_size (request.SetUp (set_up_in rec)) refl)
      (either (eqb o 1) _ _ (none-held add_size (request.Add (arrival_in rec)) refl)
      (either (eqb o 2) _ _ (none-held no_writers_size (request.NoWriters (instance_in rec)) refl)
      (either (eqb o 3) _ _ (none-held choose_size (request.Choose (masks_at rec 1)) refl)
      (either (eqb o 4) _ _ (none-held choose_within_size (request.ChooseWithin (instance_in rec) (masks_at rec 9)) refl)
      (either (eqb o 5) _ _ (list_held (request.Read (count_in rec)) refl)
      (either (eqb o 6) _ _ (list_held (request.Take (count_in rec)) refl)
      (either (eqb o 7) _ None (none-held next_key_size (request.NextKey (instance_in rec)) refl) (omega arith))))))))

pub words-fit : (rec : List ℕ) → length rec < too_long → length (words_in rec) ≤ list_words
words-fit rec h = omega (arith, words-length rec (list_count rec) pairs_at, held rec (byte_at rec 0))

-- and there they are
pub words-laid : (rec l : List ℕ) → length (words_in rec) ≤ length l → take (length (words_in rec)) (laid_in l (words_in rec)) ≡ words_in rec
unfolding laid_in
words-laid rec l h = rw (le-leb (length (words_in rec)) (length l) h) (take-append_seam (words_in rec) (drop (length (words_in rec)) l))
