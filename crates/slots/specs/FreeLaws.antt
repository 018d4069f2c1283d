-- What the view says of the free slots, and that it leaves one content of the four words.
use Rattle.std.specs.Prelude.{None, ◌≡◌, refl, true, false, List, [], ◌∷◌, ◌++◌, ℕ, zero, suc, ◌+◌, ◌/◌, ◌%◌, ◌^◌, ◌≤◌, ◌<◌, length, get_or, set, take, drop}
use Rattle.std.proofs.Common.{sym, ap, ◌∙◌, pow-suc, not-suc-le-zero, le_of_suc-le-suc, arith, eq-eqb, eqb-true, take_at, drop_at, Fits}
use Rattle.std.proofs.lemmas.Bool.{eqb-false}
use Rattle.std.specs.Int.{w64}
use Rattle.slots.specs.declared.Free.{Free}
use Rattle.slots.specs.Bits.{digits, bits_of, free_at, total, first_one, slot_in}
use Rattle.slots.specs.BitLaws.{length_digits, length-bits}

-- ---- a place holds 0 or 1

pub record Binary (l : List ℕ) : Type 0 where
  pub small : (i : ℕ) → get_or l i 0 < 2

binary-cons : (x : ℕ) (l : List ℕ) → x < 2 → Binary l → Binary (x ∷ l)
binary-cons x l h s = record { small = go }
  where
    go : (i : ℕ) → get_or (x ∷ l) i 0 < 2
    go zero = h
    go (suc i) = s.small i

binary-append : (a b : List ℕ) → Binary a → Binary b → Binary (a ++ b)
binary-append [] b s t = t
binary-append (x ∷ a) b s t = binary-cons x (a ++ b) (s.small 0) (binary-append a b (record { small = λ i. s.small (suc i) }) t)

digits-binary : (d n : ℕ) → Binary (digits d n)
unfolding digits
digits-binary zero n = record { small = λ i. omega arith }
digits-binary (suc d) n = binary-cons (n % 2) (digits d (n / 2)) (omega arith) (digits-binary d (n / 2))

pub bits-binary : (ws : List ℕ) → Binary (bits_of ws)
unfolding bits_of
bits-binary [] = record { small = λ i. omega arith }
bits-binary (w ∷ ws) = binary-append (digits 64 w) (bits_of ws) (digits-binary 64 w) (bits-binary ws)

free-is : (l : List ℕ) (i : ℕ) → free_at l i ≡ true → get_or l i 0 ≡ 1
free-is l i e = eqb-true (get_or l i 0) 1 e

taken_is : (l : List ℕ) (i : ℕ) → Binary l → free_at l i ≡ false → get_or l i 0 ≡ 0
taken_is l i s e = not-one (get_or l i 0) (s.small i) (eqb-false (get_or l i 0) 1 e)
  where
    not-one : (n : ℕ) → n < 2 → (n ≡ 1 → ⊥) → n ≡ 0
    not-one zero h k = refl
    not-one (suc n) h k = absurd (k (omega arith))

-- ---- the lowest

first-is-one : (l : List ℕ) → first_one l < length l → get_or l (first_one l) 0 ≡ 0 → ⊥
unfolding first_one
first-is-one [] h e = not-suc-le-zero h
first-is-one (zero ∷ l) h e = first-is-one l (le_of_suc-le-suc h) e
first-is-one (suc b ∷ l) h e = omega arith

-- the lowest free slot is free
pub lowest-is-free : (l : List ℕ) → Binary l → first_one l < length l → free_at l (first_one l) ≡ true
lowest-is-free l s h = eq-eqb (get_or l (first_one l) 0) 1 (one (get_or l (first_one l) 0) (s.small (first_one l)) (first-is-one l h))
  where
    one : (n : ℕ) → n < 2 → (n ≡ 0 → ⊥) → n ≡ 1
    one zero h k = absurd (k refl)
    one (suc n) h k = omega arith

-- and none below it is
pub none_below : (l : List ℕ) (k : ℕ) → k < first_one l → free_at l k ≡ false
unfolding first_one
none_below [] k h = absurd (not-suc-le-zero h)
none_below (zero ∷ l) zero h = refl
none_below (zero ∷ l) (suc k) h = none_below l k (le_of_suc-le-suc h)
none_below (suc b ∷ l) k h = absurd (not-suc-le-zero h)

pub lowest-le : (l : List ℕ) → first_one l ≤ length l
unfolding first_one
lowest-le [] = omega arith
lowest-le (zero ∷ l) = omega (arith, lowest-le l)
lowest-le (suc b ∷ l) = omega arith

-- a free slot is not below the lowest
pub free-above : (l : List ℕ) (k : ℕ) → free_at l k ≡ true → first_one l ≤ k
unfolding first_one
free-above [] k e = omega arith
free-above (zero ∷ l) zero e = let z : ◌≡◌ {A = ℕ} 0 1 = free-is (zero ∷ l) 0 e in omega arith
free-above (zero ∷ l) (suc k) e = omega (arith, free-above l k e)
free-above (suc b ∷ l) k e = omega arith

-- ---- the number free

-- it is 0 exactly where none is free
pub none_free : (l : List ℕ) → total l ≡ 0 → first_one l ≡ length l
unfolding first_one total
none_free [] h = refl
none_free (zero ∷ l) h = ap suc (none_free l (omega arith))
none_free (suc b ∷ l) h = omega arith

-- so that none is the lowest of four words
pub none_lowest : (n : ℕ) (ws : List ℕ) → n ≡ total (bits_of ws) → n ≡ 0 → length ws ≡ 4 → None ≡ slot_in (first_one (bits_of ws))
none_lowest n ws c z four = rw (none_free (bits_of ws) (sym c ∙ z), length-bits ws, four)

pub none-counted : (l : List ℕ) → first_one l ≡ length l → total l ≡ 0
unfolding first_one total
none-counted [] h = refl
none-counted (zero ∷ l) h = omega (arith, none-counted l (omega arith))
none-counted (suc b ∷ l) h = omega arith

pub total-le : (l : List ℕ) → Binary l → total l ≤ length l
unfolding total
total-le [] s = omega arith
total-le (b ∷ l) s = omega (arith, total-le l (record { small = λ i. s.small (suc i) }), s.small 0)

pub total-set : (l : List ℕ) (i b : ℕ) → i < length l → total (set l i b) + get_or l i 0 ≡ total l + b
unfolding total
total-set [] i b h = absurd (not-suc-le-zero h)
total-set (x ∷ l) zero b h = omega arith
total-set (x ∷ l) (suc i) b h = omega (arith, total-set l i b (le_of_suc-le-suc h))

-- a free slot is below the last
pub free-within : (l : List ℕ) (i : ℕ) → free_at l i ≡ true → i < length l
free-within [] i e = let z : ◌≡◌ {A = ℕ} 0 1 = free-is [] i e in absurd (omega arith)
free-within (x ∷ l) zero e = omega arith
free-within (x ∷ l) (suc i) e = omega (arith, free-within l i e)

-- taking and giving move it by one
pub taken-count : (l : List ℕ) (i : ℕ) → free_at l i ≡ true → total (set l i 0) + 1 ≡ total l
taken-count l i e = omega (arith, total-set l i 0 (free-within l i e), free-is l i e)

pub given-count : (l : List ℕ) (i : ℕ) → Binary l → i < length l → free_at l i ≡ false → total (set l i 1) ≡ total l + 1
given-count l i s h e = omega (arith, total-set l i 1 h, taken_is l i s e)

-- ---- the four words of a Free

pub record Whole (f : Free) : Type 0 where
  pub four : length f.words ≡ 4
  pub fit : (i : ℕ) → Fits w64 (get_or f.words i 0)

-- the view has 256 places
pub view-length : (f : Free) → Whole f → length (bits_of f.words) ≡ 256
view-length f w = omega (arith, length-bits f.words, w.four)

digits_same : (d m n : ℕ) → m < 2 ^ d → n < 2 ^ d → digits d m ≡ digits d n → m ≡ n
unfolding digits
digits_same zero m n h k e = omega arith
digits_same (suc d) m n h k e =
    let q : m % 2 ≡ n % 2 = cc in
    let r : digits d (m / 2) ≡ digits d (n / 2) = cc in
    omega (arith, digits_same d (m / 2) (n / 2) (omega (arith, pow-suc 2 d)) (omega (arith, pow-suc 2 d)) r)

pub bits-same : (ws vs : List ℕ) → length ws ≡ length vs → ((i : ℕ) → Fits w64 (get_or ws i 0)) → ((i : ℕ) → Fits w64 (get_or vs i 0)) → bits_of ws ≡ bits_of vs → ws ≡ vs
unfolding bits_of
bits-same [] [] l f g e = refl
bits-same [] (v ∷ vs) l f g e = absurd (omega arith)
bits-same (w ∷ ws) [] l f g e = absurd (omega arith)
bits-same (w ∷ ws) (v ∷ vs) l f g e =
    let front : digits 64 w ≡ digits 64 v =
    sym (take_at (digits 64 w) (bits_of ws) 64 (length_digits 64 w)) ∙ ap (take 64) e ∙ take_at (digits 64 v) (bits_of vs) 64 (length_digits 64 v) in
    let back : bits_of ws ≡ bits_of vs =
    sym (drop_at (digits 64 w) (bits_of ws) 64 (length_digits 64 w)) ∙ ap (drop 64) e ∙ drop_at (digits 64 v) (bits_of vs) 64 (length_digits 64 v) in
    let head : w ≡ v = digits_same 64 w v (f 0).fits (g 0).fits front in
    let tail : ws ≡ vs = bits-same ws vs (omega arith) (λ i. f (suc i)) (λ i. g (suc i)) back in cc

-- equal views, equal words: the view leaves one content
pub view-same : (f g : Free) → Whole f → Whole g → bits_of f.words ≡ bits_of g.words → f ≡ g
view-same f g v w e =
    ap (λ (ws : List ℕ). record { words = ws }) (bits-same f.words g.words (omega (arith, v.four, w.four)) v.fit w.fit e)
