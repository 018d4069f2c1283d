-- Sixteen bytes in two words: what the code computes, and that nothing is lost.
use Rattle.std.specs.Prelude.{◌≡◌, refl, Bool, true, false, ◌&&◌, List, [], ◌∷◌, ◌++◌, eqb, length, take, drop}
use Rattle.std.specs.Int.{w64, from_le_bytes}
use Rattle.std.specs.Simd.{first_chunks}
use Rattle.std.proofs.Common.{sym, ap, ◌∙◌, pow-suc, not-suc-le-zero, le_of_suc-le-suc, eqb-true, eq-eqb, ne_eqb, lit<, take-append-drop, length-take, drop_of_length-le, take_all}
use Prim.Native.Nat.{ℕ, zero, suc, ◌+◌, ◌*◌, ◌/◌, ◌^◌, ◌≤◌, ◌<◌}
use Rattle.std.proofs.Math.Nat.{one-le-pow}
use native.Mathlib.Omega.{arith}
use Rattle.std.proofs.lemmas.Bool.{eqb-false}
use Rattle.std.proofs.Math.ListN.{get_or, length-drop}
use Rattle.std.proofs.Math.Seq.{get_or-drop}
use Rattle.model.specs.Topic.{Entry, same_bytes}
use Rattle.changes.specs.Places.{pack, half, Bytes, Writer, Written}

pub pack-small : (n : ℕ) (l : List ℕ) → length l ≤ n → Bytes l → pack l < 256 ^ n
unfolding pack
pack-small n [] h b = one-le-pow n 256 (lit< tt)
pack-small zero (x ∷ l) h b = absurd (not-suc-le-zero h)
pack-small (suc n) (x ∷ l) h b = omega (arith, pack-small n l (le_of_suc-le-suc h) (λ i. b (suc i)), b 0, pow-suc 256 n)

pub bytes_drop : (n : ℕ) (l : List ℕ) → Bytes l → Bytes (drop n l)
bytes_drop n l b i = rw get_or-drop (b (n + i))

pub bytes_take : (n : ℕ) (l : List ℕ) → Bytes l → Bytes (take n l)
bytes_take zero l b i = lit< tt
bytes_take (suc n) [] b i = lit< tt
bytes_take (suc n) (x ∷ l) b zero = b 0
bytes_take (suc n) (x ∷ l) b (suc i) = bytes_take n l (λ j. b (suc j)) i

pack-cons : (b : ℕ) (bs : List ℕ) → pack (b ∷ bs) ≡ b + 256 * pack bs
unfolding pack
pack-cons b bs = refl

-- ---- eight bytes read as a number

pack-at : (k : ℕ) (l : List ℕ) → pack (drop k l) ≡ get_or l k 0 + 256 * pack (drop (suc k) l)
unfolding pack
pack-at zero [] = refl
pack-at (suc k) [] = refl
pack-at zero (x ∷ l) = refl
pack-at (suc k) (x ∷ l) = pack-at k l

pub le-pack : (l : List ℕ) → length l ≡ 8 → from_le_bytes w64 l ≡ pack l
unfolding pack
le-pack l e =
    let z : pack (drop 8 l) ≡ 0 = rw (drop_of_length-le l {i = 8} (omega (arith, e))) in
    omega (arith, pack-at 0 l, pack-at 1 l, pack-at 2 l, pack-at 3 l, pack-at 4 l, pack-at 5 l, pack-at 6 l, pack-at 7 l, z)

-- the two halves of a writer, as `as_chunks` gives them
module _ (g : List ℕ) (w : Writer g) (halves : List (List ℕ)) (e : halves ≡ first_chunks 8 (length g / 8) g) (d : List ℕ) where
  eight : (at : ℕ) → at ≤ 8 → length (take 8 (drop at g)) ≡ 8
  eight at k = simp (length-take, length-drop) (omega (arith, w.sixteen))

  two : halves ≡ take 8 g ∷ take 8 (drop 8 g) ∷ []
  two = e ∙ rw w.sixteen

  pub low-half : (n : ℕ) → n ≡ from_le_bytes w64 (get_or halves 0 d) → n ≡ half 0 g
  unfolding half
  low-half n p = p ∙ rw two (le-pack (take 8 g) (eight 0 (omega arith)))

  pub high-half : (n : ℕ) → n ≡ from_le_bytes w64 (get_or halves 1 d) → n ≡ half 8 g
  unfolding half
  high-half n p = p ∙ rw two (le-pack (take 8 (drop 8 g)) (eight 8 (omega arith)))

-- ---- nothing is lost

mixed : (x y p q : ℕ) → x < 256 → y < 256 → eqb (x + 256 * p) (y + 256 * q) ≡ (eqb x y && eqb p q)
mixed x y p q h k = go (eqb x y) (eqb p q) refl refl
  where
    go : (a b : Bool) → eqb x y ≡ a → eqb p q ≡ b → eqb (x + 256 * p) (y + 256 * q) ≡ (a && b)
    go true true e f = eq-eqb (x + 256 * p) (y + 256 * q) (omega (arith, eqb-true x y e, eqb-true p q f))
    go true false e f = ne_eqb (x + 256 * p) (y + 256 * q) (λ z. eqb-false p q f (omega (arith, eqb-true x y e)))
    go false b e f = ne_eqb (x + 256 * p) (y + 256 * q) (λ z. eqb-false x y e (omega arith))

same-pack : (xs ys : List ℕ) → length xs ≡ length ys → Bytes xs → Bytes ys → same_bytes xs ys ≡ eqb (pack xs) (pack ys)
unfolding same_bytes pack
same-pack [] [] e b c = refl
same-pack [] (y ∷ ys) e b c = absurd (omega (arith, e))
same-pack (x ∷ xs) [] e b c = absurd (omega (arith, e))
same-pack (x ∷ xs) (y ∷ ys) e b c =
    ap (λ (t : Bool). eqb x y && t) (same-pack xs ys (omega (arith, e)) (λ i. b (suc i)) (λ i. c (suc i))) ∙ sym (mixed x y (pack xs) (pack ys) (b 0) (c 0))

and_assoc : (a b c : Bool) → ((a && b) && c) ≡ (a && (b && c))
and_assoc true b c = refl
and_assoc false b c = refl

same-append : (a b c d : List ℕ) → length a ≡ length c → same_bytes (a ++ b) (c ++ d) ≡ (same_bytes a c && same_bytes b d)
unfolding same_bytes
same-append [] b [] d e = refl
same-append [] b (y ∷ c) d e = absurd (omega (arith, e))
same-append (x ∷ a) b [] d e = absurd (omega (arith, e))
same-append (x ∷ a) b (y ∷ c) d e =
    ap (λ (t : Bool). eqb x y && t) (same-append a b c d (omega (arith, e))) ∙ sym (and_assoc (eqb x y) (same_bytes a c) (same_bytes b d))

-- two writers are the same exactly if both their words are
pub same-halves : (v w : List ℕ) → Writer v → Writer w → same_bytes v w ≡ (eqb (half 0 v) (half 0 w) && eqb (half 8 v) (half 8 w))
unfolding half
same-halves v w p q =
    let a : length (take 8 v) ≡ length (take 8 w) = simp length-take (omega (arith, p.sixteen, q.sixteen)) in
    let b : length (drop 8 v) ≡ length (drop 8 w) = simp length-drop (omega (arith, p.sixteen, q.sixteen)) in
    let c : take 8 (drop 8 v) ≡ drop 8 v = take_all 8 (drop 8 v) (simp length-drop (omega (arith, p.sixteen))) in
    let d : take 8 (drop 8 w) ≡ drop 8 w = take_all 8 (drop 8 w) (simp length-drop (omega (arith, q.sixteen))) in
    rw (c, d, ← (same-pack (take 8 v) (take 8 w) a (bytes_take 8 v p.bytes) (bytes_take 8 w q.bytes)), ← (same-pack (drop 8 v) (drop 8 w) b (bytes_drop 8 v p.bytes) (bytes_drop 8 w q.bytes)))
    (ap (λ (x : List ℕ). same_bytes x w) (sym (take-append-drop 8 v)) ∙ ap (λ (x : List ℕ). same_bytes (take 8 v ++ drop 8 v) x) (sym (take-append-drop 8 w)) ∙ same-append (take 8 v) (drop 8 v) (take 8 w) (drop 8 w) a)

-- ---- the writers of the entries

pub written-drop : (n : ℕ) (es : List Entry) → Written es → Written (drop n es)
unfolding Written
written-drop n es w i h = rw get_or-drop (w (n + i) (omega (arith, length-drop n es)))

pub written-more : (es : List Entry) (e : Entry) → Written es → Writer e.writer → Written (es ++ (e ∷ []))
unfolding Written
written-more [] e w v zero h = v
written-more [] e w v (suc i) h = absurd (omega (arith, h))
written-more (x ∷ es) e w v zero h = w 0 (omega arith)
written-more (x ∷ es) e w v (suc i) h = written-more es e (λ j q. w (suc j) (omega arith)) v i (le_of_suc-le-suc h)
