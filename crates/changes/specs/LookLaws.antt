-- The rows of the held places: what the code asks of them, and what it copies of them.
use Rattle.std.specs.Prelude.{◌≡◌, Bool, ◌&&◌, ltb, take}
use Rattle.std.specs.List.{filter, list_any, enumerate_from}
use Rattle.std.proofs.Math.Path.{refl, ap}
use Rattle.std.proofs.Common.{◌∙◌, le_of_suc-le-suc, ltb-true, leb-true, take-suc, length-take}
use Rattle.std.proofs.Math.Bool.{true, false, cond}
use mathlib.Core.List.{List, [], ◌∷◌, ◌++◌, map}
use Prim.Native.Nat.{ℕ, zero, suc, ◌+◌, ◌*◌, ◌≤◌, ◌<◌}
use Rattle.std.proofs.Math.Numerals.{add-one}
use native.Mathlib.Omega.{arith}
use Rattle.std.proofs.Math.Dec.{leb, eqb}
use Rattle.std.proofs.Math.ListN.{length, get_or}
use Rattle.std.proofs.lemmas.List.FromFn.{length-enumerate_from, get_or-enumerate_from}
use Rattle.std.proofs.lemmas.List.Filters.{length-filter_more}
use Rattle.std.specs.Int.{from_bool}
use borrow.Rule.Slice.PartMut.{put_mid}
use Rattle.lists.specs.Blocks.{flat, get-map}
use Rattle.model.specs.Topic.{Entry, count_below, holds_pair, within}
use Rattle.model.proofs.Topic.{within-nil, within-cons}
use Rattle.changes.specs.declared.Row.{Row}
use Rattle.changes.specs.Places.{none, row_of, line_of, Writer, Written, shown_in}
use Rattle.changes.specs.WriterLaws.{same-halves}
use Rattle.changes.specs.WordLaws.{copy_more}

-- ---- held keys below a time

abbrev pub below : ℕ → List ℕ → Bool
below t row = ltb (get_or row 0 0) t

pub below-is : (t : ℕ) (es : List Entry) → length (filter (below t) (map line_of es)) ≡ count_below t es
unfolding count_below
below-is t [] = refl
below-is t (e ∷ es) = go (ltb e.key t) (below-is t es)
  where
    go : (b : Bool) → length (filter (below t) (map line_of es)) ≡ count_below t es
        → length (cond b (line_of e ∷ filter (below t) (map line_of es)) (filter (below t) (map line_of es))) ≡ cond b 1 0 + count_below t es
    go true h = omega (arith, h)
    go false h = omega (arith, h)

-- one row further
pub below-more : (t n i m : ℕ) (rows : List (List ℕ)) → n ≡ length (filter (below t) (take i rows)) → n ≤ i → i < length rows → m ≡ from_bool (below t (get_or rows i []))
    → (n + m ≤ i + 1) × (n + m ≡ length (filter (below t) (take (i + 1) rows)))
below-more t n i m rows e few h p = go (below t (get_or rows i [])) p (length-filter_more (below t) rows i [] h)
  where
    go : (b : Bool) → m ≡ from_bool b → length (filter (below t) (take (i + 1) rows)) ≡ length (filter (below t) (take i rows)) + cond b 1 0
        → (n + m ≤ i + 1) × (n + m ≡ length (filter (below t) (take (i + 1) rows)))
    go true p l = (omega (arith, p, few), omega (arith, p, e, l))
    go false p l = (omega (arith, p, few), omega (arith, p, e, l))

-- ---- a held pair of writer and sequence number

-- what the code compares
abbrev pub alike : Row → List ℕ → Bool
alike x row = eqb (get_or row 1 0) x.seq && (eqb (get_or row 2 0) x.low && eqb (get_or row 3 0) x.high)

pub alike-is : (e : Entry) (es : List Entry) → Writer e.writer → Written es → list_any (alike (row_of e)) (map line_of es) ≡ holds_pair e.writer e.seq es
unfolding holds_pair Written
alike-is e [] v w = refl
alike-is e (d ∷ es) v w =
    rw (same-halves d.writer e.writer (w 0 (omega arith)) v, alike-is e es v (λ i h. w (suc i) (omega arith)))

-- ---- the range

pub within-append : (s t : ℕ) (a b : List Entry) → within s t (a ++ b) ≡ within s t a ++ within s t b
within-append s t [] b = rw within-nil
within-append s t (e ∷ a) b = rw (within-cons s t e (a ++ b), within-cons s t e a) (go (ltb s e.key && leb e.key t) (within-append s t a b))
  where
    go : (q : Bool) → within s t (a ++ b) ≡ within s t a ++ within s t b → cond q (e ∷ within s t (a ++ b)) (within s t (a ++ b)) ≡ cond q (e ∷ within s t a) (within s t a) ++ within s t b
    go true h = ap (λ (r : List Entry). e ∷ r) h
    go false h = h

pub written-within : (s t : ℕ) (es : List Entry) → Written es → Written (within s t es)
unfolding Written within
written-within s t [] w = λ i h. absurd (omega (arith, h))
written-within s t (e ∷ es) w = go (ltb s e.key && leb e.key t) (written-within s t es (λ j q. w (suc j) (omega arith)))
  where
    go : (q : Bool) → ((i : ℕ) → i < length (within s t es) → Writer (get_or (within s t es) i none).writer)
        → (i : ℕ) → i < length (cond q (e ∷ within s t es) (within s t es)) → Writer (get_or (cond q (e ∷ within s t es) (within s t es)) i none).writer
    go true r zero h = w 0 (omega arith)
    go true r (suc i) h = r i (le_of_suc-le-suc h)
    go false r i h = r i h

-- ---- the range, over rows

abbrev pub ranged : ℕ → ℕ → List ℕ → Bool
ranged s t row = ltb s (get_or row 0 0) && leb (get_or row 0 0) t

pub ranged-is : (s t : ℕ) (es : List Entry) → filter (ranged s t) (map line_of es) ≡ map line_of (within s t es)
unfolding within
ranged-is s t [] = refl
ranged-is s t (e ∷ es) = go (ltb s e.key && leb e.key t) (ranged-is s t es)
  where
    go : (b : Bool) → filter (ranged s t) (map line_of es) ≡ map line_of (within s t es)
        → cond b (line_of e ∷ filter (ranged s t) (map line_of es)) (filter (ranged s t) (map line_of es)) ≡ map line_of (cond b (e ∷ within s t es) (within s t es))
    go true h = ap (λ (l : List (List ℕ)). line_of e ∷ l) h
    go false h = h

-- "with start above end, nothing", whatever the words hold
nothing-between : (s t k : ℕ) → t ≤ s → (ltb s k && leb k t) ≡ false
nothing-between s t k h = go (ltb s k) (leb k t) refl refl
  where
    go : (a b : Bool) → ltb s k ≡ a → leb k t ≡ b → (a && b) ≡ false
    go false b p q = refl
    go true false p q = refl
    go true true p q = absurd (omega (arith, ltb-true s k p, leb-true k t q))

pub ranged-none : (s t : ℕ) (rows : List (List ℕ)) → t ≤ s → filter (ranged s t) rows ≡ []
ranged-none s t [] h = refl
ranged-none s t (row ∷ rows) h = rw (nothing-between s t (get_or row 0 0) h) (ranged-none s t rows h)

-- ---- the results

-- the n-th row found, as the loop has it
pub turned : (found : List (List ℕ)) (n k : ℕ) (row : List ℕ) → (k < length (enumerate_from 0 found)) × ((n, row) ≡ get_or (enumerate_from 0 found) k (n, row))
    → (k < length found) × (n ≡ k) × (row ≡ get_or found k row)
turned found n k row t =
    let h : k < length found = omega (arith, t.0, length-enumerate_from 0 found) in
    let e : (n, row) ≡ (0 + k, get_or found k row) = t.1 ∙ get_or-enumerate_from 0 found k (n, row) h in
    (h, omega (arith, ap (λ (p : ℕ × List ℕ). p.0) e), ap (λ (p : ℕ × List ℕ). p.1) e)

pub copied-start : (es : List Entry) (first : List ℕ) → first ≡ shown_in (take 0 es) first
unfolding shown_in flat
copied-start es first = refl

pub copied-turn : (es : List Entry) (first out row d : List ℕ) (n k m : ℕ) → out ≡ shown_in (take k es) first → k < length es → n ≡ k → row ≡ get_or (map line_of es) k d → m ≡ 6
    → put_mid (6 * n) m out row ≡ shown_in (take (k + 1) es) first
copied-turn es first out row d n k m o h e r six =
    let now : row ≡ line_of (get_or es k none) = r ∙ get-map line_of es k none d h in
    let long : n ≡ length (take k es) = simp length-take (omega arith) in
    rw (o, copy_more (take k es) n m first row (get_or es k none) long six now, add-one, take-suc es k none h)

-- a row is its six words
pub six-words : (l : List ℕ) (a b c d e f : ℕ) → length l ≡ 6 → get_or l 0 a ∷ get_or l 1 b ∷ get_or l 2 c ∷ get_or l 3 d ∷ get_or l 4 e ∷ get_or l 5 f ∷ [] ≡ l
six-words [] a b c d e f h = absurd (omega (arith, h))
six-words (u ∷ []) a b c d e f h = absurd (omega (arith, h))
six-words (u ∷ v ∷ []) a b c d e f h = absurd (omega (arith, h))
six-words (u ∷ v ∷ w ∷ []) a b c d e f h = absurd (omega (arith, h))
six-words (u ∷ v ∷ w ∷ x ∷ []) a b c d e f h = absurd (omega (arith, h))
six-words (u ∷ v ∷ w ∷ x ∷ y ∷ []) a b c d e f h = absurd (omega (arith, h))
six-words (u ∷ v ∷ w ∷ x ∷ y ∷ z ∷ []) a b c d e f h = refl
six-words (u ∷ v ∷ w ∷ x ∷ y ∷ z ∷ s ∷ l) a b c d e f h = absurd (omega (arith, h))
