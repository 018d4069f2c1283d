-- Digits, what they say of the number, and that they are what the library prints.
use Rattle.std.specs.Prelude.{◌≡◌, refl, Bool, true, false, cond, List, [], ◌∷◌, ℕ, zero, suc, ◌+◌, ◌-◌, ◌*◌, ◌/◌, ◌%◌, ◌^◌, ◌≤◌, ◌<◌, ltb, length, get_or, ℤ, pos, negsuc, nat_abs}
use Rattle.std.proofs.Common.{sym, ap, ◌∙◌, pow-suc, arith, lt-ltb, le-ltb, ltb-false, append-nil, Fits, SFits, to_z, of_z, to_z-of_z}
use Rattle.std.proofs.lemmas.Fmt.{PrependsLastDigit, decimal_from_prepends, length-decimal-le}
use Rattle.std.specs.Fmt.{decimal, signed_decimal}
use lib.Signed.{mag, le_z}
use Rattle.std.proofs.lemmas.Bool.{false≢true}
use Rattle.std.specs.Int.{w64}
use Rattle.text.specs.declared.Word.{Word}
use Rattle.text.specs.declared.Word.TheVariants as word
use Rattle.text.specs.Text.{word_text, is_neg, digits_onto, decimal_of, signed_of, read_onto}

-- at least one digit, and at most d
digits-length : (d n : ℕ) (acc : List ℕ) → length (digits_onto d n acc) ≤ d + length acc
unfolding digits_onto
digits-length zero n acc = omega arith
digits-length (suc d) n acc = go (ltb n 10) (digits-length d (n / 10) ((48 + n % 10) ∷ acc))
  where
    go : (b : Bool) → length (digits_onto d (n / 10) ((48 + n % 10) ∷ acc)) ≤ d + suc (length acc)
        → length (cond b ((48 + n) ∷ acc) (digits_onto d (n / 10) ((48 + n % 10) ∷ acc))) ≤ suc d + length acc
    go true h = omega arith
    go false h = omega arith

pub decimal-length : (n : ℕ) → length (decimal_of n) ≤ 20
unfolding decimal_of
decimal-length n = omega (arith, digits-length 20 n [])

pub signed-length : (z : ℤ) → length (signed_of z) ≤ 21
unfolding signed_of
signed-length z = go (is_neg z)
  where
    go : (b : Bool) → length (cond b (45 ∷ decimal_of (nat_abs z)) (decimal_of (nat_abs z))) ≤ 21
    go true = omega (arith, decimal-length (nat_abs z))
    go false = omega (arith, decimal-length (nat_abs z))

-- ---- the digits read back

read-digits : (d n : ℕ) (acc : List ℕ) → n < 10 ^ d → read_onto 0 (digits_onto d n acc) ≡ read_onto n acc
unfolding digits_onto read_onto
read-digits zero n acc h = let e : n ≡ 0 = omega arith in rw e
read-digits (suc d) n acc h = go (ltb n 10) (read-digits d (n / 10) ((48 + n % 10) ∷ acc) (omega (arith, pow-suc 10 d)))
  where
    one : 10 * 0 + (48 + n - 48) ≡ n
    one = omega arith

    all : 10 * (n / 10) + (48 + n % 10 - 48) ≡ n
    all = omega arith

    go : (b : Bool) → read_onto 0 (digits_onto d (n / 10) ((48 + n % 10) ∷ acc)) ≡ read_onto (n / 10) ((48 + n % 10) ∷ acc)
        → read_onto 0 (cond b ((48 + n) ∷ acc) (digits_onto d (n / 10) ((48 + n % 10) ∷ acc))) ≡ read_onto n acc
    go true r = ap (λ (m : ℕ). read_onto m acc) one
    go false r = r ∙ ap (λ (m : ℕ). read_onto m acc) all

pub decimal-read : (n : ℕ) → n < 10 ^ 20 → read_onto 0 (decimal_of n) ≡ n
unfolding decimal_of read_onto
decimal-read n h = read-digits 20 n [] h

-- so two numbers with one text are equal
pub decimal-same : (m n : ℕ) → m < 10 ^ 20 → n < 10 ^ 20 → decimal_of m ≡ decimal_of n → m ≡ n
decimal-same m n h k e = sym (decimal-read m h) ∙ ap (read_onto 0) e ∙ decimal-read n k

-- the first digit is no 0, except that of 0
no-leading : (d n : ℕ) (acc : List ℕ) → 0 < n → n < 10 ^ d → 48 < get_or (digits_onto d n acc) 0 0
unfolding digits_onto
no-leading zero n acc p h = absurd (omega arith)
no-leading (suc d) n acc p h = go (ltb n 10) refl (no-leading d (n / 10) ((48 + n % 10) ∷ acc))
  where
    go : (b : Bool) → ltb n 10 ≡ b → (0 < n / 10 → n / 10 < 10 ^ d → 48 < get_or (digits_onto d (n / 10) ((48 + n % 10) ∷ acc)) 0 0)
        → 48 < get_or (cond b ((48 + n) ∷ acc) (digits_onto d (n / 10) ((48 + n % 10) ∷ acc))) 0 0
    go true e r = omega arith
    go false e r = r (omega (arith, ltb-false n 10 e)) (omega (arith, pow-suc 10 d))

pub decimal-leading : (n : ℕ) → 0 < n → n < 10 ^ 20 → 48 < get_or (decimal_of n) 0 0
unfolding decimal_of
decimal-leading n p h = no-leading 20 n [] p h

-- ---- the library's printed numbers

prepends : PrependsLastDigit digits_onto
unfolding digits_onto
prepends = record { one = λ k n acc h. rw (lt-ltb n 10 h); more = λ k n acc h. rw (le-ltb n 10 h) }

pub decimal-is : (n : ℕ) → n < 2 ^ 64 → decimal_of n ≡ decimal n
unfolding decimal_of
decimal-is n h = decimal_from_prepends digits_onto prepends 20 n [] h (length-decimal-le 20 n (omega arith) (omega arith) h) ∙ append-nil (decimal n)

pub signed-is : (z : ℤ) → mag z < 2 ^ 63 → signed_of z ≡ signed_decimal z
unfolding signed_of
signed-is (pos n) h = decimal-is n (omega arith)
signed-is (negsuc n) h = ap (λ (ds : List ℕ). 45 ∷ ds) (decimal-is (suc n) (omega arith))

-- what a word of a number reads as, said of the library's text of it
pub number-reads : (s : List ℕ) (w : Word) (n : ℕ) → w ≡ word.Number n → Fits w64 n → s ≡ decimal n → word_text w ≡ s
number-reads s w n e f d = let h = f.fits in rw (e, d) (decimal-is n h)

pub signed-reads : (s : List ℕ) (w : Word) (z : ℤ) → w ≡ word.Signed z → SFits w64 z → s ≡ signed_decimal (to_z w64 (of_z w64 z)) → word_text w ≡ s
signed-reads s w z e f d = rw (e, d, to_z-of_z f) (signed-is z f.sfits)

-- a number of one digit is that digit, and one that is not below 0 has no sign
pub digit-reads : (n : ℕ) → n < 10 → decimal_of n ≡ (48 + n) ∷ []
unfolding decimal_of digits_onto
digit-reads n h = rw (lt-ltb n 10 h)

no-sign : (z : ℤ) → le_z (pos 0) z ≡ true → signed_of z ≡ decimal_of (nat_abs z)
unfolding signed_of
no-sign (pos n) h = refl
no-sign (negsuc n) h = absurd (false≢true h)

-- of a signed number as a parameter holds it
pub unsigned-is : (z : ℤ) → SFits w64 z → le_z (pos 0) (to_z w64 (of_z w64 z)) ≡ true → signed_of z ≡ decimal_of (nat_abs (to_z w64 (of_z w64 z)))
unsigned-is z f h = let e = to_z-of_z f in let k = rw e at h in rw e (no-sign z k)

pub signed-held : (z : ℤ) → SFits w64 z → signed_of z ≡ signed_decimal (to_z w64 (of_z w64 z))
signed-held z f = rw (to_z-of_z f) (signed-is z f.sfits)
