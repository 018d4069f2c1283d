-- Laws of pairs and chosen samples in lent numbers.
use Rattle.std.specs.Prelude.{◌≡◌, refl, true, List, [], ◌∷◌, ◌++◌, ℕ, zero, suc, ◌+◌, ◌*◌, ◌/◌, ◌%◌, ◌≤◌, ◌<◌, length, get_or, take, drop, set}
use Rattle.std.proofs.Common.{ap, not-suc-le-zero, le_of_suc-le-suc, arith, eq-eqb, eqb-true}
use Rattle.model.specs.Pairs.{Pair, Hit}
use Rattle.pairs.specs.Flat.{pair_at, pairs_of, pair_words, whole_pairs, hit_at, hits_of, words_of, put_hit}

abbrev pub no_pair : Pair
no_pair = pair_at 0 0

abbrev pub no_hit : Hit
no_hit = hit_at 0 0 0

-- ---- pairs

pub length_pairs : (l : List ℕ) → length (pairs_of l) ≡ length l / 2
unfolding pairs_of
length_pairs [] = refl
length_pairs (k ∷ []) = refl
length_pairs (k ∷ m ∷ l) = omega (arith, length_pairs l)

pub pair-at : (l : List ℕ) (i : ℕ) → i < length l / 2 → get_or (pairs_of l) i no_pair ≡ pair_at (get_or l (2 * i) 0) (get_or l (2 * i + 1) 0)
unfolding pairs_of
pair-at [] i h = absurd (not-suc-le-zero h)
pair-at (k ∷ []) i h = absurd (not-suc-le-zero h)
pair-at (k ∷ m ∷ l) zero h = refl
pair-at (k ∷ m ∷ l) (suc i) h =
    let e : 2 * suc i ≡ suc (suc (2 * i)) = omega arith in
    let e2 : suc (suc (2 * i)) + 1 ≡ suc (suc (2 * i + 1)) = omega arith in
    rw (e, e2) (pair-at l i (omega arith))

-- the pairs of numbers of pairs, and of what stands behind them
pub pairs-words : (ps : List Pair) (rest : List ℕ) → pairs_of (pair_words ps ++ rest) ≡ ps ++ pairs_of rest
unfolding pairs_of pair_words
pairs-words [] rest = refl
pairs-words (p ∷ ps) rest = ap (λ (r : List Pair). p ∷ r) (pairs-words ps rest)

-- a list of whole pairs is the numbers of its pairs
pub whole_words : (l : List ℕ) → whole_pairs l ≡ true → pair_words (pairs_of l) ≡ l
unfolding pairs_of pair_words whole_pairs
whole_words [] w = refl
whole_words (k ∷ []) w = let z : ◌≡◌ {A = ℕ} 1 0 = eqb-true 1 0 w in absurd (omega arith)
whole_words (k ∷ m ∷ l) w =
    let e : length l % 2 ≡ 0 = omega (arith, eqb-true (suc (suc (length l)) % 2) 0 w) in
    ap (λ (r : List ℕ). k ∷ m ∷ r) (whole_words l (eq-eqb (length l % 2) 0 e))

-- ---- samples

pub length-hits : (l : List ℕ) → length (hits_of l) ≡ length l / 3
unfolding hits_of
length-hits [] = refl
length-hits (s ∷ []) = refl
length-hits (s ∷ k ∷ []) = refl
length-hits (s ∷ k ∷ m ∷ l) = omega (arith, length-hits l)

three : (i : ℕ) → 3 * suc i ≡ suc (suc (suc (3 * i)))
three i = omega arith

three-1 : (n : ℕ) → suc (suc (suc n)) + 1 ≡ suc (suc (suc (n + 1)))
three-1 n = omega arith

three-2 : (n : ℕ) → suc (suc (suc n)) + 2 ≡ suc (suc (suc (n + 2)))
three-2 n = omega arith

pub hit-here : (l : List ℕ) (i : ℕ) → i < length l / 3 → get_or (hits_of l) i no_hit ≡ hit_at (get_or l (3 * i) 0) (get_or l (3 * i + 1) 0) (get_or l (3 * i + 2) 0)
unfolding hits_of
hit-here [] i h = absurd (not-suc-le-zero h)
hit-here (s ∷ []) i h = absurd (not-suc-le-zero h)
hit-here (s ∷ k ∷ []) i h = absurd (not-suc-le-zero h)
hit-here (s ∷ k ∷ m ∷ l) zero h = refl
hit-here (s ∷ k ∷ m ∷ l) (suc i) h = rw (three i, three-1 (3 * i), three-2 (3 * i)) (hit-here l i (omega arith))

-- a sample stored
pub put-hit : (hs : List Hit) (rest : List ℕ) (i : ℕ) (x : Hit) → i < length hs → put_hit (words_of hs ++ rest) i x ≡ words_of (set hs i x) ++ rest
unfolding words_of put_hit
put-hit [] rest i x h = absurd (not-suc-le-zero h)
put-hit (y ∷ hs) rest zero x h = refl
put-hit (y ∷ hs) rest (suc i) x h = rw (three i, three-1 (3 * i), three-2 (3 * i), put-hit hs rest i x (le_of_suc-le-suc h))

pub length-words : (hs : List Hit) → length (words_of hs) ≡ 3 * length hs
unfolding words_of
length-words [] = refl
length-words (x ∷ hs) = omega (arith, length-words hs)

-- the samples of words, and of what stands behind them
pub hits-words : (hs : List Hit) (rest : List ℕ) → hits_of (words_of hs ++ rest) ≡ hs ++ hits_of rest
unfolding hits_of words_of
hits-words [] rest = refl
hits-words (x ∷ hs) rest = ap (λ (r : List Hit). x ∷ r) (hits-words hs rest)

pub words-append : (xs ys : List Hit) → words_of (xs ++ ys) ≡ words_of xs ++ words_of ys
unfolding words_of
words-append [] ys = refl
words-append (x ∷ xs) ys = ap (λ (r : List ℕ). x.seq ∷ x.pair.key ∷ x.pair.name ∷ r) (words-append xs ys)

-- the words of the first k samples, and the samples past them
pub take-hits : (l : List ℕ) (k : ℕ) → k ≤ length l / 3 → take (3 * k) l ≡ words_of (take k (hits_of l))
unfolding hits_of words_of
take-hits l zero h = refl
take-hits [] (suc k) h = absurd (not-suc-le-zero h)
take-hits (s ∷ []) (suc k) h = absurd (not-suc-le-zero h)
take-hits (s ∷ m ∷ []) (suc k) h = absurd (not-suc-le-zero h)
take-hits (s ∷ m ∷ j ∷ l) (suc k) h = rw (three k, take-hits l k (omega arith))

pub drop-hits : (l : List ℕ) (k : ℕ) → k ≤ length l / 3 → hits_of (drop (3 * k) l) ≡ drop k (hits_of l)
unfolding hits_of
drop-hits l zero h = refl
drop-hits [] (suc k) h = absurd (not-suc-le-zero h)
drop-hits (s ∷ []) (suc k) h = absurd (not-suc-le-zero h)
drop-hits (s ∷ m ∷ []) (suc k) h = absurd (not-suc-le-zero h)
drop-hits (s ∷ m ∷ j ∷ l) (suc k) h = rw (three k) (drop-hits l k (omega arith))
