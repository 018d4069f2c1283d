-- The lent words: what stands at a place, and what a removal and a store make of them.
use Rattle.std.specs.Prelude.{◌≡◌, refl, min}
use Rattle.std.specs.List.{copy_within}
use Rattle.std.specs.Simd.{first_chunks}
use Rattle.std.proofs.Common.{sym, ◌∙◌, add-zero, not-suc-le-zero, le_of_suc-le-suc, lit<, length-append, length-take, drop_at}
use Rattle.std.proofs.Math.Path.{ap}
use mathlib.Core.List.{List, [], ◌∷◌, ◌++◌, map, map-append, append_assoc}
use Prim.Native.Nat.{ℕ, zero, suc, ◌+◌, ◌-◌, ◌*◌, ◌/◌, ◌≤◌, ◌<◌}
use native.Mathlib.Omega.{arith}
use Rattle.std.proofs.Math.ListN.{length, get_or, take, drop, replicate, length-map, length-drop, replicate-append-replicate}
use Rattle.std.proofs.lemmas.List.{length-replicate}
use Rattle.std.proofs.Math.Seq.{drop-nil, drop-append-le, drop-drop, take_at}
use borrow.Rule.Slice.PartMut.{put_mid, mid_of}
use Rattle.lists.specs.Blocks.{flat, filled, Even, even-map, length-flat, flat_append, filled-get, get-map}
use Rattle.model.specs.Topic.{Entry}
use Rattle.changes.specs.Places.{table_size, none, row_of, line_of, words_of, Holds, shown_in, row_at}

line-long : (e : Entry) → length (line_of e) ≡ 6
line-long e = refl

lines-even : (es : List Entry) → Even 6 (map line_of es)
lines-even es = even-map 6 line_of line-long es

pub flat-long : (es : List Entry) → length (flat (map line_of es)) ≡ 6 * length es
flat-long es = length-flat 6 (map line_of es) (lines-even es) ∙ rw length-map

pub words-is : (es : List Entry) → words_of es ≡ flat (map line_of es) ++ replicate (table_size - 6 * length es) 0
unfolding words_of filled
words-is es = rw length-map

-- ---- one place

module _ {es : List Entry} {held : ℕ} {ws : List ℕ} (h : Holds es held ws) (i : ℕ) (m : i < held) where
  pub word_at : (j : ℕ) → j < 6 → get_or ws (6 * i + j) 0 ≡ get_or (line_of (get_or es i none)) j 0
  unfolding words_of
  word_at j l =
      let long : length (map line_of es) ≡ length es = length-map es line_of in
      let low : i < length es = omega (arith, h.number) in
      rw h.words (filled-get 6 table_size 0 (map line_of es) (lines-even es) (omega (arith, h.few)) i j (omega arith) l
      ∙ ap (λ (b : List ℕ). get_or b j 0) (get-map line_of es i none [] low))

  pub key-at : get_or ws (6 * i) 0 ≡ (get_or es i none).key
  key-at = ap (λ (n : ℕ). get_or ws n 0) (sym (add-zero (6 * i))) ∙ word_at 0 (lit< tt)

  pub row-at : row_at ws (6 * i) ≡ row_of (get_or es i none)
  row-at = rw (key-at, word_at 1 (lit< tt), word_at 2 (lit< tt), word_at 3 (lit< tt), word_at 4 (lit< tt), word_at 5 (lit< tt))

-- ---- the places as rows

chunks-even : (bs : List (List ℕ)) (n : ℕ) (r : List ℕ) → Even 6 bs → length bs ≤ n → take (length bs) (first_chunks 6 n (flat bs ++ r)) ≡ bs
unfolding flat Even
chunks-even [] n r e h = refl
chunks-even (b ∷ bs) zero r e h = absurd (not-suc-le-zero h)
chunks-even (b ∷ bs) (suc n) r e h =
    let l : length b ≡ 6 = e 0 (omega arith) in
    rw (append_assoc, take_at b (flat bs ++ r) 6 l, drop_at b (flat bs ++ r) 6 l)
    (ap (λ (t : List (List ℕ)). b ∷ t) (chunks-even bs n r (λ i q. e (suc i) (omega arith)) (le_of_suc-le-suc h)))

table-long : {es : List Entry} {held : ℕ} {ws : List ℕ} → Holds es held ws → length ws ≡ table_size
table-long {es} h = rw (h.words, words-is es) (simp (length-append, length-replicate) (omega (arith, flat-long es, h.few)))

-- the held rows, as `as_chunks` gives them
pub rows-are : (es : List Entry) (held k : ℕ) (ws : List ℕ) (cs : List (List ℕ)) → Holds es held ws → cs ≡ first_chunks 6 (length ws / 6) ws → length cs ≡ length ws / 6
    → k ≡ min held (length cs) → take k cs ≡ map line_of es
rows-are es held k ws cs h e l m =
    let long : length ws ≡ table_size = table-long h in
    let few : k ≡ length (map line_of es) = omega (arith, length-map es line_of, h.number, h.few, ap (λ (x : ℕ). x / 6) long) in
    rw (few, e, long, h.words, words-is es) (chunks-even (map line_of es) 384 (replicate (table_size - 6 * length es) 0) (lines-even es) (omega (arith, length-map es line_of, h.few)))

-- ---- a removal

pub flat-drop : (n : ℕ) (es : List Entry) → drop (6 * n) (flat (map line_of es)) ≡ flat (map line_of (drop n es))
unfolding flat
flat-drop zero es = refl
flat-drop (suc n) [] = drop-nil (6 * suc n)
flat-drop (suc n) (e ∷ es) =
    let p : 6 * suc n ≡ suc (suc (suc (suc (suc (suc (6 * n)))))) = omega arith in
    rw p (flat-drop n es)

module _ (es : List Entry) (held n : ℕ) (ws : List ℕ) (h : Holds es held ws) (k : n ≤ held) where
  whole : ws ≡ flat (map line_of es) ++ replicate (table_size - 6 * held) 0
  whole = h.words ∙ rw h.number (words-is es)

  all-long : length (flat (map line_of es)) ≡ 6 * held
  all-long = rw h.number (flat-long es)

  left-long : length (flat (map line_of (drop n es))) ≡ 6 * (held - n)
  left-long = flat-long (drop n es) ∙ simp length-drop (omega (arith, h.number))

  front : take (6 * held - 6 * n) (drop (6 * n) ws) ≡ flat (map line_of (drop n es))
  front =
      let q : 6 * held - 6 * n ≡ 6 * (held - n) = omega arith in
      rw (q, whole, drop-append-le (6 * n) (flat (map line_of es)) (replicate (table_size - 6 * held) 0) (omega (arith, all-long)), flat-drop n es)
      (take_at (flat (map line_of (drop n es))) (replicate (table_size - 6 * held) 0) (6 * (held - n)) left-long)

  past_is : drop (6 * held) ws ≡ replicate (table_size - 6 * held) 0
  past_is = rw whole (drop_at (flat (map line_of es)) (replicate (table_size - 6 * held) 0) (6 * held) all-long)

  -- what `copy_within` and `fill` leave
  pub removed : (mid zeros : List ℕ) → length mid ≡ length ws → mid ≡ copy_within ws (6 * n) (6 * held) 0
      → zeros ≡ replicate (length (mid_of (6 * (held - n)) (6 * held - 6 * (held - n)) mid)) 0
      → put_mid (6 * (held - n)) (6 * held - 6 * (held - n)) mid zeros ≡ words_of (drop n es)
  removed mid zeros u m z =
      let G : List ℕ = flat (map line_of (drop n es)) in
      let long : length mid ≡ table_size = u ∙ table-long h in
      let k : length (mid_of (6 * (held - n)) (6 * held - 6 * (held - n)) mid) ≡ 6 * held - 6 * (held - n) = simp (length-take, length-drop) (omega (arith, long, h.number, h.few)) in
      let moved : mid ≡ G ++ drop (0 + (6 * held - 6 * n)) ws = m ∙ ap (λ (x : List ℕ). x ++ drop (0 + (6 * held - 6 * n)) ws) front in
      let p : 0 + (6 * held - 6 * n) + (6 * held - 6 * (held - n)) ≡ 6 * held = omega arith in
      let rest : drop (6 * held - 6 * (held - n)) (drop (0 + (6 * held - 6 * n)) ws) ≡ replicate (table_size - 6 * held) 0 =
      drop-drop (6 * held - 6 * (held - n)) (0 + (6 * held - 6 * n)) ws ∙ rw p past_is in
      let q : 6 * held - 6 * (held - n) + (table_size - 6 * held) ≡ table_size - 6 * length (drop n es) = simp length-drop (omega (arith, h.number, h.few)) in
      let all : zeros ≡ replicate (6 * held - 6 * (held - n)) 0 = z ∙ rw k in
      rw (moved, all, take_at G (drop (0 + (6 * held - 6 * n)) ws) (6 * (held - n)) left-long, drop_at G (drop (0 + (6 * held - 6 * n)) ws) (6 * (held - n)) left-long, rest, replicate-append-replicate, q)
      (sym (words-is (drop n es)))

pub removed-none : (es : List Entry) (held n : ℕ) (ws : List ℕ) → Holds es held ws → n ≡ 0 → ws ≡ words_of (drop n es)
removed-none es held n ws h z = h.words ∙ rw z

none-held : (n m : ℕ) → n ≡ m → flat (map line_of []) ++ replicate m 0 ≡ replicate n 0
unfolding flat
none-held n m e = rw e

pub none-words : replicate table_size 0 ≡ words_of []
none-words = sym (words-is [] ∙ none-held table_size (table_size - 6 * 0) (omega arith))

-- ---- a row stored behind what is there

-- six words written behind the first b
pub put-behind : (f d ys : List ℕ) (b k : ℕ) → length f ≡ b → k ≡ 6 → put_mid b k (f ++ d) ys ≡ f ++ (ys ++ drop 6 d)
put-behind f d ys b k e p = rw (p, take_at f d b e, drop_at f d b e)

drop-zeros : (k m : ℕ) → drop {A = ℕ} k (replicate (k + m) 0) ≡ replicate m 0
drop-zeros k m = rw (← (replicate-append-replicate {A = ℕ} k m 0)) (drop_at (replicate k 0) (replicate m 0) k (length-replicate k 0))

flat-more : (es : List Entry) (e : Entry) → flat (map line_of (es ++ (e ∷ []))) ≡ flat (map line_of es) ++ line_of e
unfolding flat
flat-more es e = rw (map-append, flat_append (map line_of es) (line_of e ∷ []))

pub put-more : (es : List Entry) (at k : ℕ) (ws ys : List ℕ) (e : Entry) → Holds es at ws → at < 384 → k ≡ 6 → ys ≡ line_of e → put_mid (6 * at) k ws ys ≡ words_of (es ++ (e ∷ []))
put-more es at k ws ys e h l six row =
    let long : length (flat (map line_of es)) ≡ 6 * at = rw h.number (flat-long es) in
    let z : table_size - 6 * length es ≡ 6 + (table_size - 6 * (length es + 1)) = omega (arith, h.number) in
    let zeros : List ℕ = replicate (table_size - 6 * length es) 0 in
    let rest : drop 6 zeros ≡ replicate (table_size - 6 * (length es + 1)) 0 = rw z (drop-zeros 6 (table_size - 6 * (length es + 1))) in
    rw (h.words, words-is es, row, put-behind (flat (map line_of es)) zeros (line_of e) (6 * at) k long six, rest, words-is (es ++ (e ∷ [])), flat-more es e, length-append)
    (sym (append_assoc (flat (map line_of es)) (line_of e) (replicate (table_size - 6 * (length es + 1)) 0)))

pub copy_more : (es : List Entry) (n k : ℕ) (out ys : List ℕ) (e : Entry) → n ≡ length es → k ≡ 6 → ys ≡ line_of e → put_mid (6 * n) k (shown_in es out) ys ≡ shown_in (es ++ (e ∷ [])) out
unfolding shown_in
copy_more es n k out ys e q six row =
    let long : length (flat (map line_of es)) ≡ 6 * n = rw q (flat-long es) in
    let p : 6 * length es + 6 ≡ 6 * (length es + 1) = omega arith in
    put-behind (flat (map line_of es)) (drop (6 * length es) out) ys (6 * n) k long six
    ∙ rw (row, drop-drop 6 (6 * length es) out, p, flat-more es e, length-append)
    (sym (append_assoc (flat (map line_of es)) (line_of e) (drop (6 * (length es + 1)) out)))
