-- Numbers as decimal digits in ASCII, and a text laid into a buffer.
use Rattle.std.specs.Prelude.{◌≡◌, Bool, true, false, cond, List, [], ◌∷◌, ◌++◌, ℕ, zero, suc, ◌+◌, ◌-◌, ◌*◌, ◌/◌, ◌%◌, ltb, leb, length, take, drop, ℤ, pos, negsuc, nat_abs}
use Rattle.text.specs.declared.Page.{Page}
use Rattle.text.specs.declared.Word.{Word}
use Rattle.text.specs.declared.Word.TheVariants as word

abbrev pub is_neg : ℤ → Bool
is_neg (pos n) = false
is_neg (negsuc n) = true

-- n in at most d digits, in front of acc
unfoldable pub digits_onto : ℕ → ℕ → List ℕ → List ℕ
digits_onto zero n acc = acc
digits_onto (suc d) n acc =
    let more : List ℕ = digits_onto d (n / 10) ((48 + n % 10) ∷ acc) in
    cond (ltb n 10) ((48 + n) ∷ acc) more

-- a number below 10 ^ 20, as every one of 64 bits is
unfoldable pub decimal_of : ℕ → List ℕ
unfolding digits_onto
decimal_of n = digits_onto 20 n []

-- with a minus sign where it is below 0
unfoldable pub signed_of : ℤ → List ℕ
unfolding decimal_of
signed_of z = cond (is_neg z) (45 ∷ decimal_of (nat_abs z)) (decimal_of (nat_abs z))

-- what a word reads as
abbrev pub word_text : Word → List ℕ
word_text (word.Text s) = s.now
word_text (word.Number n) = decimal_of n
word_text (word.Signed z) = signed_of z

-- the number that a text of digits reads, behind the digits of n
unfoldable pub read_onto : ℕ → List ℕ → ℕ
read_onto n [] = n
read_onto n (c ∷ cs) = read_onto (10 * n + (c - 48)) cs

-- ---- a text laid into a buffer

abbrev pub room_for : List ℕ → ℕ → List ℕ → Bool
room_for l at s = leb (at + length s) (length l)

-- l with s from place at on; where there is no room, l
unfoldable pub written : List ℕ → ℕ → List ℕ → List ℕ
written l at s = cond (room_for l at s) (take at l ++ s ++ drop (at + length s) l) l

-- the place after s; where there is no room, at
unfoldable pub place_after : List ℕ → ℕ → List ℕ → ℕ
place_after l at s = cond (room_for l at s) (at + length s) at

-- what a text put on a page leaves: the text laid in, and the place after it, in the same lent bytes
pub record Puts (old : Page) (s : List ℕ) (new : Page) : Type 0 where
  pub bytes : new.bytes.now ≡ written old.bytes.now old.at s
  pub place : new.at ≡ place_after old.bytes.now old.at s
  pub same : new.bytes.ghost_name ≡ old.bytes.ghost_name
