-- Laws of the free slots' list: the counts of bits are what the list says, and one bit set or cleared is one place of it.
use Rattle.std.specs.Prelude.{Some, ◌≡◌, ◌⊎◌, refl, false, List, [], ◌∷◌, ◌++◌, ℕ, zero, suc, ◌+◌, ◌*◌, ◌/◌, ◌%◌, ◌^◌, ◌≤◌, ◌<◌, length, get_or, set, drop, eqb}
use Rattle.std.proofs.Common.{inl, inr, sym, lt-ltb, ◌∙◌, suc-le-suc, pow-suc, not-suc-le-zero, le_of_suc-le-suc, zero-add, div-one, one-add, add-one, arith, drop_of_length-le, length-append, get_or-append-add, drop-cons, shr-shr, Fits}
use Rattle.std.proofs.Math.Path.{ap}
use Rattle.std.proofs.Math.ListN.{get_or-append, get_or-eq_default}
use Rattle.std.proofs.lemmas.List.{set-append_left, length-set, get_or-set_same, get_or-set_other}
use Rattle.std.proofs.Math.Seq.{set_out, drop-nil}
use Rattle.std.specs.Int.Count.{ones, ones_step, count_trailing_zeros, trailing_of_zero}
use Rattle.std.proofs.lemmas.Nat.{ones-le}
use Rattle.std.proofs.Math.Arith.{lt-one}
use Rattle.std.specs.Int.{w64, bit_at, bit_not}
use Rattle.std.specs.Int.RustNames.{bit_or, bit_and}
use Rattle.std.proofs.lemmas.Nat.Bits.{bit_at_set_same, bit_at_set_other, bit_at_clear_same, bit_at_clear_other}
use Rattle.std.proofs.lemmas.Grind.{same_number_lists}
use Rattle.std.proofs.lemmas.Bool.{cases_eq}
use Rattle.lists.specs.Blocks.{set-append-add}
use Rattle.slots.specs.Bits.{digits, bits_of, free_at, total, after, first_one, slot_in}

-- ---- one word

pub length_digits : (d n : ℕ) → length (digits d n) ≡ d
unfolding digits
length_digits zero n = refl
length_digits (suc d) n = ap suc (length_digits d (n / 2))

pub ones_is : (d n : ℕ) → n < 2 ^ d → ones n ≡ total (digits d n)
unfolding digits total ones
ones_is zero n h = ap ones (lt-one h)
ones_is (suc d) n h =
    ones_step n ∙ ap (λ (x : ℕ). n % 2 + x) (ones_is d (n / 2) (omega (arith, pow-suc 2 d)))

pub trailing-is : (d n : ℕ) → count_trailing_zeros d n ≡ first_one (digits d n)
unfolding digits first_one count_trailing_zeros
trailing-is zero n = refl
trailing-is (suc d) n = ap (after (n % 2)) (trailing-is d (n / 2))

halved : (n i : ℕ) → n / 2 / 2 ^ i ≡ n / 2 ^ suc i
halved n i = shr-shr n 1 i ∙ rw one-add

pub digit_at : (d n i : ℕ) → i < d → get_or (digits d n) i 0 ≡ n / 2 ^ i % 2
unfolding digits
digit_at zero n i h = absurd (not-suc-le-zero h)
digit_at (suc d) n zero h = rw div-one
digit_at (suc d) n (suc i) h = digit_at d (n / 2) i (le_of_suc-le-suc h) ∙ rw halved

-- a number that differs from n in one digit at most
one-digit : (d n v r b : ℕ) → r < d → bit_at v r ≡ b → ((i : ℕ) → i < d → (i ≡ r → ⊥) → bit_at v i ≡ bit_at n i) → digits d v ≡ set (digits d n) r b
one-digit d n v r b low here others = same_number_lists (digits d v) (set (digits d n) r b) sizes each
  where
    sizes : length (digits d v) ≡ length (set (digits d n) r b)
    sizes = rw (length-set, length_digits, length_digits)

    each : (i : ℕ) → i < length (digits d v) → get_or (digits d v) i 0 ≡ get_or (set (digits d n) r b) i 0
    each i h = go (cases_eq i r)
      where
        go : (i ≡ r) ⊎ (i ≡ r → ⊥) → get_or (digits d v) i 0 ≡ get_or (set (digits d n) r b) i 0
        go (inl e) = rw e (digit_at d v r low ∙ here ∙ sym (get_or-set_same (digits d n) r b 0 (rw length_digits low)))
        go (inr ne) = digit_at d v i (rw length_digits at h) ∙ others i (rw length_digits at h) ne ∙ sym (get_or-set_other (digits d n) r i b 0 ne ∙ digit_at d n i (rw length_digits at h))

-- a bit of a word set, as `w | 1 << r` does, and cleared, as `w & !(1 << r)` does
module _ (w r : ℕ) (low : r < 64) where
  pub bit_set : digits 64 (bit_or w (1 * 2 ^ r % 2 ^ 64)) ≡ set (digits 64 w) r 1
  bit_set = one-digit 64 w _ r 1 low (bit_at_set_same w64 w r low) (λ i h ne. bit_at_set_other w64 w r low i ne)

  pub bit_cleared : digits 64 (bit_and w (bit_not w64 (1 * 2 ^ r % 2 ^ 64))) ≡ set (digits 64 w) r 0
  bit_cleared = one-digit 64 w _ r 0 low (bit_at_clear_same w64 w r low) (bit_at_clear_other w64 w r low)

-- a word that is not 0 has a bit set
pub some-bit : (d n : ℕ) → n < 2 ^ d → (n ≡ 0 → ⊥) → first_one (digits d n) < d
unfolding digits first_one
some-bit zero n h e = absurd (e (lt-one h))
some-bit (suc d) n h e = go (n % 2) refl (some-bit d (n / 2) (omega (arith, pow-suc 2 d)))
  where
    go : (b : ℕ) → n % 2 ≡ b → ((n / 2 ≡ 0 → ⊥) → first_one (digits d (n / 2)) < d) → after b (first_one (digits d (n / 2))) < suc d
    go zero z rest = suc-le-suc (rest (λ q. e (omega arith)))
    go (suc b) z rest = omega arith

-- ---- several words

pub length-bits : (ws : List ℕ) → length (bits_of ws) ≡ 64 * length ws
unfolding bits_of
length-bits [] = refl
length-bits (w ∷ ws) = length-append (digits 64 w) (bits_of ws) ∙ omega (arith, length_digits 64 w, length-bits ws)

pub total-append : (a b : List ℕ) → total (a ++ b) ≡ total a + total b
unfolding total
total-append [] b = omega arith
total-append (x ∷ a) b = omega (arith, total-append a b)

pub first-append : (a b : List ℕ) → first_one a < length a → first_one (a ++ b) ≡ first_one a
unfolding first_one
first-append [] b h = absurd (not-suc-le-zero h)
first-append (zero ∷ a) b h = ap suc (first-append a b (le_of_suc-le-suc h))
first-append (suc x ∷ a) b h = refl

pub first-append-none : (a b : List ℕ) → first_one a ≡ length a → first_one (a ++ b) ≡ length a + first_one b
unfolding first_one
first-append-none [] b h = omega arith
first-append-none (zero ∷ a) b h = omega (arith, first-append-none a b (omega arith))
first-append-none (suc x ∷ a) b h = omega arith

-- one bit of word q is one place of the whole
pub set-bits : (ws : List ℕ) (q r v b : ℕ) → q < length ws → r < 64 → digits 64 v ≡ set (digits 64 (get_or ws q 0)) r b → bits_of (set ws q v) ≡ set (bits_of ws) (64 * q + r) b
unfolding bits_of
set-bits [] q r v b h k e = absurd (not-suc-le-zero h)
set-bits (w ∷ ws) zero r v b h k e =
    let l : r < length (digits 64 w) = omega (arith, length_digits 64 w) in
    rw (zero-add, set-append_left (digits 64 w) (bits_of ws) r b, ← e)
set-bits (w ∷ ws) (suc q) r v b h k e =
    let p : 64 * suc q + r ≡ length (digits 64 w) + (64 * q + r) = omega (arith, length_digits 64 w) in
    rw (p, set-append-add, set-bits ws q r v b (le_of_suc-le-suc h) k e)

pub get-bits : (ws : List ℕ) (q r : ℕ) → q < length ws → r < 64 → get_or (bits_of ws) (64 * q + r) 0 ≡ get_or (digits 64 (get_or ws q 0)) r 0
unfolding bits_of
get-bits [] q r h k = absurd (not-suc-le-zero h)
get-bits (w ∷ ws) zero r h k = rw zero-add (get_or-append (digits 64 w) (bits_of ws) 0 r (omega (arith, length_digits 64 w)))
get-bits (w ∷ ws) (suc q) r h k =
    let p : 64 * suc q + r ≡ length (digits 64 w) + (64 * q + r) = omega (arith, length_digits 64 w) in
    rw (p, get_or-append-add (digits 64 w) (bits_of ws)) (get-bits ws q r (le_of_suc-le-suc h) k)

-- ---- the four words, as the code writes them

module _ (ws : List ℕ) (slot : ℕ) (four : length ws ≡ 4) (low : slot < 256) where
  place : 64 * (slot / 64) + slot % 64 ≡ slot
  place = omega arith

  pub put : (v b : ℕ) → digits 64 v ≡ set (digits 64 (get_or ws (slot / 64) 0)) (slot % 64) b → bits_of (set ws (slot / 64) v) ≡ set (bits_of ws) slot b
  put v b e = set-bits ws (slot / 64) (slot % 64) v b (omega arith) (omega arith) e ∙ rw place

  pub free_here : eqb (get_or ws (slot / 64) 0 / 2 ^ (slot % 64) % 2) 1 ≡ free_at (bits_of ws) slot
  free_here =
      let e : get_or (bits_of ws) slot 0 ≡ get_or ws (slot / 64) 0 / 2 ^ (slot % 64) % 2 =
      rw place at (get-bits ws (slot / 64) (slot % 64) (omega arith) (omega arith)) ∙ digit_at 64 (get_or ws (slot / 64) 0) (slot % 64) (omega arith) in
      rw e

pub free_past : (ws : List ℕ) (slot : ℕ) → length ws ≡ 4 → 256 ≤ slot → false ≡ free_at (bits_of ws) slot
free_past ws slot four h = rw (get_or-eq_default (bits_of ws) 0 {n = slot} (omega (arith, length-bits ws)))

pub out_of_range : (ws : List ℕ) (slot b : ℕ) → length ws ≡ 4 → 256 ≤ slot → bits_of ws ≡ set (bits_of ws) slot b
out_of_range ws slot b four h = sym (set_out (bits_of ws) slot b (omega (arith, length-bits ws)))

-- ---- the counts, word by word, as the code's turns and returns have them

bits-drop : (ws : List ℕ) (i : ℕ) → i < length ws → bits_of (drop i ws) ≡ digits 64 (get_or ws i 0) ++ bits_of (drop (i + 1) ws)
unfolding bits_of
bits-drop ws i h = rw (add-one, drop-cons ws i 0 h)

bits-done : (ws : List ℕ) (i : ℕ) → length ws ≤ i → bits_of (drop i ws) ≡ []
unfolding bits_of
bits-done ws i h = rw (drop_of_length-le ws h)

word_total : (ws : List ℕ) (i : ℕ) → Fits w64 (get_or ws i 0) → total (bits_of (drop i ws)) ≡ ones (get_or ws i 0) + total (bits_of (drop (i + 1) ws))
unfolding bits_of total ones
word_total [] i f = rw (drop-nil, drop-nil)
word_total (w ∷ ws) zero f = total-append (digits 64 w) (bits_of ws) ∙ rw (ones_is 64 w f.fits)
word_total (w ∷ ws) (suc i) f = rw add-one (rw add-one at (word_total ws i f))

module _ (ws : List ℕ) (i n : ℕ) where
  pub count_most : n ≤ 64 * i → Fits w64 (get_or ws i 0) → n + ones (get_or ws i 0) ≤ 64 * (i + 1)
  count_most h f = omega (arith, ones-le 64 (get_or ws i 0) f.fits)

  pub count_turn : n + total (bits_of (drop i ws)) ≡ total (bits_of ws) → Fits w64 (get_or ws i 0)
      → n + ones (get_or ws i 0) + total (bits_of (drop (i + 1) ws)) ≡ total (bits_of ws)
  count_turn e f = omega (arith, word_total ws i f)

  pub count_end : n + total (bits_of (drop i ws)) ≡ total (bits_of ws) → length ws ≤ i → n ≡ total (bits_of ws)
  unfolding total
  count_end e h = omega (arith, ap total (bits-done ws i h))

module _ (ws : List ℕ) (i : ℕ) where
  pub lowest_here : 64 * i + first_one (bits_of (drop i ws)) ≡ first_one (bits_of ws) → length ws ≡ 4 → i < 4 → Fits w64 (get_or ws i 0) → (get_or ws i 0 ≡ 0 → ⊥)
      → Some (i * 64 + count_trailing_zeros 64 (get_or ws i 0)) ≡ slot_in (first_one (bits_of ws))
  lowest_here e four l f n =
      let w = get_or ws i 0 in
      let some : first_one (digits 64 w) < length (digits 64 w) = rw length_digits (some-bit 64 w f.fits n) in
      let here : first_one (bits_of (drop i ws)) ≡ count_trailing_zeros 64 w = rw (bits-drop ws i (omega arith), first-append _ _ some, trailing-is) in
      let found : i * 64 + count_trailing_zeros 64 w ≡ first_one (bits_of ws) = omega arith in
      let low : first_one (bits_of ws) < 256 = omega (arith, trailing-is 64 w, length_digits 64 w) in
      rw (found, lt-ltb (first_one (bits_of ws)) 256 low)

  pub lowest_turn : 64 * i + first_one (bits_of (drop i ws)) ≡ first_one (bits_of ws) → i < length ws → get_or ws i 0 ≡ 0
      → 64 * (i + 1) + first_one (bits_of (drop (i + 1) ws)) ≡ first_one (bits_of ws)
  lowest_turn e l z =
      let w = get_or ws i 0 in
      let none : first_one (digits 64 w) ≡ length (digits 64 w) = rw (length_digits, z) (sym (trailing-is 64 0) ∙ trailing_of_zero 64) in
      let on : first_one (bits_of (drop i ws)) ≡ 64 + first_one (bits_of (drop (i + 1) ws)) = rw (bits-drop ws i l, first-append-none _ _ none, length_digits) in
      omega arith
