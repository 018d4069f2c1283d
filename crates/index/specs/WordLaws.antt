-- Loads and stores as the code meets them, and what they make of words that are five regions.
use Rattle.std.specs.Prelude.{◌≡◌, List, [], ◌∷◌, ◌++◌, ℕ, zero, suc, ◌+◌, ◌-◌, ◌*◌, ◌%◌, ◌≤◌, ◌<◌, get_or, take, drop, ltb}
use Rattle.std.proofs.Math.Path.{refl, sym}
use Rattle.std.proofs.Common.{ap, ◌∙◌, append_assoc, mul-suc, eq-or-lt_of_le, add-zero, not-suc-le-zero, le_of_suc-le-suc, lit<, zero-mul, add-one, arith, length-set, length-append, length-drop, get_or-take, take_all}
use Rattle.std.proofs.Math.Bool.{cond}
use Rattle.std.proofs.Math.Logic.{⊎_elim}
use Rattle.std.proofs.Math.Nat.{zero-add, sub-zero}
use Rattle.std.proofs.Math.Decide.{dec_lt}
use borrow.Author.Tests.{lt-ltb, le-ltb}
use Rattle.std.proofs.Math.ListN.{length, set, replicate, length-take, get_or-eq_default}
use Rattle.std.proofs.lemmas.List.{length-replicate}
use Rattle.std.proofs.Math.Seq.{take_at, drop_at, get_or-drop, set_out, drop-append-add, set-append_left, set-append_seam}
use Rattle.lists.specs.Blocks.{flat, length-flat, filled, Even, put_at, filled_put, filled-get-or, length-filled, even-put, even-at, get-put, put-put, put-set, put-end, put_same, filled_more, length-put-in, length-put-end, set-append-add}
use Rattle.std.specs.Simd.{first_chunks}
use Rattle.lists.specs.Regions.{join, set_a, set_b, set-c, set-d}
use Rattle.sampleinfo.specs.States.{instance_bit, instance_of_bit}
use Rattle.sampleinfo.specs.StateLaws.{of-bit-bit}
use Rattle.sampleinfo.specs.Counts.{counts, disposed_count, no_writers_count, total}
use Rattle.sampleinfo.specs.Lifecycle.{meta, state_of, counts_of, accessed_of, new_instance}
use Rattle.sampleinfo.specs.declared.InstanceState.{InstanceState}
use Rattle.sampleinfo.specs.declared.InstanceState.TheVariants.{Alive}
use Rattle.sampleinfo.specs.declared.InstanceMetaData.{InstanceMetaData}
use Rattle.index.specs.Words.{region, store, words, padded, meta_line, meta_of, meta_at, put_meta, set_meta, put_meta_word, put_slot}

-- ---- as the code meets them: the answer on the left

module _ (b n : ℕ) (ws : List ℕ) where
  pub load-in : (i : ℕ) → i < n → get_or ws (b + i) 0 ≡ get_or (region b n ws) i 0
  unfolding region
  load-in i h = rw (get_or-take n (drop b ws) i 0 h, get_or-drop b ws i 0)

  pub load_past : (i : ℕ) → n ≤ i → 0 ≡ get_or (region b n ws) i 0
  unfolding region
  load_past i h = sym (get_or-eq_default (take n (drop b ws)) 0 {n = i} (omega (arith, length-take n (drop b ws))))

  pub store_in : (i v : ℕ) → i < n → set ws (b + i) v ≡ store b n ws i v
  unfolding store
  store_in i v h = rw (lt-ltb i n h)

  pub store-past : (i v : ℕ) → n ≤ i → ws ≡ store b n ws i v
  unfolding store
  store-past i v h = rw (le-ltb i n h)

pub length-region : (b n : ℕ) (ws : List ℕ) → b + n ≤ length ws → length (region b n ws) ≡ n
unfolding region
length-region b n ws h = simp (length-take, length-drop) (omega arith)

-- ---- five regions

module _ (a b c d e : List ℕ) (la : length a ≡ 32) (lb : length b ≡ 128) (lc : length c ≡ 256) (ld : length d ≡ 256) (le : length e ≡ 256) where
  pub in-names : region 0 32 (words a b c d e) ≡ a
  unfolding region words join
  in-names = take_at a (b ++ (c ++ (d ++ e))) 32 la

  past : (n : ℕ) (xs ys : List ℕ) (m : ℕ) → length xs ≡ m → drop (m + n) (xs ++ ys) ≡ drop n ys
  past n xs ys m h = rw (← h) (drop-append-add xs ys n)

  pub in-metas : region 32 128 (words a b c d e) ≡ b
  unfolding region words join
  in-metas = rw (drop_at a (b ++ (c ++ (d ++ e))) 32 la) (take_at b (c ++ (d ++ e)) 128 lb)

  pub in_cells : region 160 256 (words a b c d e) ≡ c
  unfolding region words join
  in_cells = rw (past 128 a (b ++ (c ++ (d ++ e))) 32 la, drop_at b (c ++ (d ++ e)) 128 lb) (take_at c (d ++ e) 256 lc)

  pub in-keys : region 416 256 (words a b c d e) ≡ d
  unfolding region words join
  in-keys = rw (past 384 a (b ++ (c ++ (d ++ e))) 32 la, past 256 b (c ++ (d ++ e)) 128 lb, drop_at c (d ++ e) 256 lc) (take_at d e 256 ld)

  pub in_owners : region 672 256 (words a b c d e) ≡ e
  unfolding region words join
  in_owners =
      rw (past 640 a (b ++ (c ++ (d ++ e))) 32 la, past 512 b (c ++ (d ++ e)) 128 lb, past 256 c (d ++ e) 256 lc, drop_at d e 256 ld)
      (take_all 256 e (omega arith))

  pub to-names : (i v : ℕ) → store 0 32 (words a b c d e) i v ≡ words (set a i v) b c d e
  unfolding store words
  to-names i v = go (dec_lt i 32)
    where
      go : Dec (i < 32) → cond (ltb i 32) (set (join a b c (d ++ e)) (0 + i) v) (join a b c (d ++ e)) ≡ join (set a i v) b c (d ++ e)
      go (yes h) = rw (lt-ltb i 32 h, zero-add i, set_a a b c (d ++ e) la lb lc i v h)
      go (no h) = rw (le-ltb i 32 (omega arith), set_out a i v (omega arith))

  pub to-metas : (i v : ℕ) → store 32 128 (words a b c d e) i v ≡ words a (set b i v) c d e
  unfolding store words
  to-metas i v = go (dec_lt i 128)
    where
      go : Dec (i < 128) → cond (ltb i 128) (set (join a b c (d ++ e)) (32 + i) v) (join a b c (d ++ e)) ≡ join a (set b i v) c (d ++ e)
      go (yes h) = rw (lt-ltb i 128 h, set_b a b c (d ++ e) la lb lc i v h)
      go (no h) = rw (le-ltb i 128 (omega arith), set_out b i v (omega arith))

  pub to-cells : (i v : ℕ) → store 160 256 (words a b c d e) i v ≡ words a b (set c i v) d e
  unfolding store words
  to-cells i v = go (dec_lt i 256)
    where
      go : Dec (i < 256) → cond (ltb i 256) (set (join a b c (d ++ e)) (160 + i) v) (join a b c (d ++ e)) ≡ join a b (set c i v) (d ++ e)
      go (yes h) = rw (lt-ltb i 256 h, set-c a b c (d ++ e) la lb lc i v h)
      go (no h) = rw (le-ltb i 256 (omega arith), set_out c i v (omega arith))

  pub to-keys : (i v : ℕ) → store 416 256 (words a b c d e) i v ≡ words a b c (set d i v) e
  unfolding store words
  to-keys i v = go (dec_lt i 256)
    where
      go : Dec (i < 256) → cond (ltb i 256) (set (join a b c (d ++ e)) (416 + i) v) (join a b c (d ++ e)) ≡ join a b c (set d i v ++ e)
      go (yes h) = rw (lt-ltb i 256 h, set-d a b c (d ++ e) la lb lc i v, set-append_left d e i v (omega arith))
      go (no h) = rw (le-ltb i 256 (omega arith), set_out d i v (omega arith))

  pub to-owners : (i v : ℕ) → store 672 256 (words a b c d e) i v ≡ words a b c d (set e i v)
  unfolding store words
  to-owners i v = go (dec_lt i 256)
    where
      behind : set (d ++ e) (256 + i) v ≡ d ++ set e i v
      behind = rw (← ld) (set-append-add d e i v)

      go : Dec (i < 256) → cond (ltb i 256) (set (join a b c (d ++ e)) (672 + i) v) (join a b c (d ++ e)) ≡ join a b c (d ++ set e i v)
      go (yes h) =
          let p : 672 + i ≡ 416 + (256 + i) = omega arith in
          rw (lt-ltb i 256 h, p, set-d a b c (d ++ e) la lb lc (256 + i) v, behind)
      go (no h) = rw (le-ltb i 256 (omega arith), set_out e i v (omega arith))

pub slot-join : (a b c d e : List ℕ) → length a ≡ 32 → length b ≡ 128 → length c ≡ 256 → length d ≡ 256 → length e ≡ 256
    → (slot key row : ℕ) → put_slot (words a b c d e) slot key row ≡ words a b c (set d slot key) (set e slot row)
unfolding put_slot
slot-join a b c d e la lb lc ld le slot key row =
    rw (to-keys a b c d e la lb lc ld le slot key) (to-owners a b c (set d slot key) e la lb lc (simp length-set ld) le slot row)

pub length-set-meta : (ms : List ℕ) (i : ℕ) (x : InstanceMetaData) → length (set_meta ms i x) ≡ length ms
unfolding set_meta
length-set-meta ms i x = simp length-set

pub meta-join : (a b c d e : List ℕ) → length a ≡ 32 → length b ≡ 128 → length c ≡ 256 → length d ≡ 256 → length e ≡ 256
    → (i : ℕ) (x : InstanceMetaData) → put_meta (words a b c d e) i x ≡ words a (set_meta b i x) c d e
unfolding put_meta set_meta
meta-join a b c d e la lb lc ld le i x =
    let b0 : List ℕ = set b (4 * i) (instance_bit (state_of x)) in
    let b1 : List ℕ = set b0 (4 * i + 1) (disposed_count (counts_of x)) in
    let b2 : List ℕ = set b1 (4 * i + 2) (no_writers_count (counts_of x)) in
    rw (
      to-metas a b c d e la lb lc ld le (4 * i) (instance_bit (state_of x)),
      to-metas a b0 c d e la (simp length-set lb) lc ld le (4 * i + 1) (disposed_count (counts_of x)),
      to-metas a b1 c d e la (simp length-set lb) lc ld le (4 * i + 2) (no_writers_count (counts_of x)),
      to-metas a b2 c d e la (simp length-set lb) lc ld le (4 * i + 3) (accessed_of x),
    )

-- ---- the instance record

pub meta-past : (r : InstanceMetaData) (ws : List ℕ) (i : ℕ) → r ≡ new_instance Alive → 32 ≤ i → r ≡ meta_at (region 32 128 ws) i
unfolding meta_at
meta-past r ws i e h =
    rw (
      e,
      ← (load_past 32 128 ws (4 * i) (omega arith)),
      ← (load_past 32 128 ws (4 * i + 1) (omega arith)),
      ← (load_past 32 128 ws (4 * i + 2) (omega arith)),
      ← (load_past 32 128 ws (4 * i + 3) (omega arith)),
    )

pub put-meta-past : (ws : List ℕ) (i : ℕ) (x : InstanceMetaData) → 32 ≤ i → ws ≡ put_meta ws i x
unfolding put_meta store
put-meta-past ws i x h =
    rw (le-ltb (4 * i) 128 (omega arith), le-ltb (4 * i + 1) 128 (omega arith), le-ltb (4 * i + 2) 128 (omega arith), le-ltb (4 * i + 3) 128 (omega arith))

pub accessed-past : (ws : List ℕ) (i v : ℕ) → 32 ≤ i → ws ≡ store 32 128 ws (4 * i + 3) v
accessed-past ws i v h = store-past 32 128 ws (4 * i + 3) v (omega arith)

pub put-meta-done : (ws w0 w1 w2 w3 : List ℕ) (i b d n : ℕ) (x : InstanceMetaData) → w3 ≡ put_meta_word w2 (4 * i + 3) (accessed_of x) → w2 ≡ put_meta_word w1 (4 * i + 2) n
    → w1 ≡ put_meta_word w0 (4 * i + 1) d → w0 ≡ put_meta_word ws (4 * i) b → b ≡ instance_bit (state_of x) → d ≡ disposed_count (counts_of x) → n ≡ no_writers_count (counts_of x)
    → w3 ≡ put_meta ws i x
unfolding put_meta
put-meta-done ws w0 w1 w2 w3 i b d n x p q r s t u v = rw (p, q, r, s, t, u, v)

-- the word j of chunk i is the word 4 * i + j
word-in-chunk : (ms : List ℕ) (n i j : ℕ) (d : List ℕ) → i < n → j < 4 → get_or (get_or (first_chunks 4 n ms) i d) j 0 ≡ get_or ms (4 * i + j) 0
word-in-chunk ms zero i j d h l = absurd (not-suc-le-zero h)
word-in-chunk ms (suc n) zero j d h l = get_or-take 4 ms j 0 l ∙ ap (λ (k : ℕ). get_or ms k 0) (sym (zero-add j))
word-in-chunk ms (suc n) (suc i) j d h l =
    let e : 4 + (4 * i + j) ≡ 4 * suc i + j = omega arith in
    word-in-chunk (drop 4 ms) n i j d (le_of_suc-le-suc h) l ∙ get_or-drop 4 ms (4 * i + j) 0 ∙ ap (λ (k : ℕ). get_or ms k 0) e

pub meta_taken : (ws line : List ℕ) (ls : List (List ℕ)) (i n d e a : ℕ) (st : InstanceState) → ls ≡ first_chunks 4 n (take 128 (drop 32 ws)) → i < n → line ≡ get_or ls i line
    → st ≡ instance_of_bit (get_or line 0 0) → d ≡ get_or line 1 0 % 4294967296 → e ≡ get_or line 2 0 % 4294967296 → a ≡ get_or line 3 0 → meta st (counts d e) a ≡ meta_at (region 32 128 ws) i
unfolding meta_at region
meta_taken ws line ls i n d e a st c h q s t u v =
    let ms : List ℕ = take 128 (drop 32 ws) in
    let w : (j : ℕ) → j < 4 → get_or line j 0 ≡ get_or ms (4 * i + j) 0 = λ j l. ap (λ (x : List ℕ). get_or x j 0) (q ∙ ap (λ (x : List (List ℕ)). get_or x i line) c) ∙ word-in-chunk ms n i j line h l in
    let first : get_or line 0 0 ≡ get_or ms (4 * i) 0 = w 0 (lit< tt) ∙ ap (λ (k : ℕ). get_or ms k 0) (add-zero (4 * i)) in
    rw (s, t, u, v, first, w 1 (lit< tt), w 2 (lit< tt), w 3 (lit< tt))

low : (n : ℕ) → n < 4294967296 → n % 4294967296 ≡ n
low n h = omega arith

pub meta-back : (x : InstanceMetaData) → total (counts_of x) ≤ 2147483647
    → meta_of (instance_bit (state_of x)) (disposed_count (counts_of x)) (no_writers_count (counts_of x)) (accessed_of x) ≡ x
meta-back x h = rw (of-bit-bit (state_of x), low (disposed_count (counts_of x)) (omega arith), low (no_writers_count (counts_of x)) (omega arith))

-- four stores in a block of four
four : (b : List ℕ) (p q r s : ℕ) → length b ≡ 4 → set (set (set (set b 0 p) 1 q) 2 r) 3 s ≡ p ∷ q ∷ r ∷ s ∷ []
four [] p q r s h = absurd (omega arith)
four (w ∷ []) p q r s h = absurd (omega arith)
four (w ∷ x ∷ []) p q r s h = absurd (omega arith)
four (w ∷ x ∷ y ∷ []) p q r s h = absurd (omega arith)
four (w ∷ x ∷ y ∷ z ∷ []) p q r s h = refl
four (w ∷ x ∷ y ∷ z ∷ v ∷ b) p q r s h = absurd (omega arith)

-- ---- blocks

module _ (k n z : ℕ) (bs : List (List ℕ)) (e : Even k bs) (i : ℕ) (h : i ≤ length bs) (room : k * i + k ≤ n) (fits : k * length bs ≤ n) where
  -- several stores in one block: each is one in the block
  module _ (b : List ℕ) (lb : length b ≡ k) where
    inside : (i ≤ length (put_at i b bs)) × (k * length (put_at i b bs) ≤ n)
    inside = ⊎_elim last inner (eq-or-lt_of_le h)
      where
        inner : i < length bs → (i ≤ length (put_at i b bs)) × (k * length (put_at i b bs) ≤ n)
        inner m = (rw (length-put-in bs i b m) h, rw (length-put-in bs i b m) fits)

        last : i ≡ length bs → (i ≤ length (put_at i b bs)) × (k * length (put_at i b bs) ≤ n)
        last q =
            let p : length (put_at i b bs) ≡ suc i = rw q (length-put-end bs b ∙ add-one (length bs)) in
            (rw p (omega arith), rw (p, mul-suc) room)

    pub block-set : (j v : ℕ) → j < k → set (filled k n z (put_at i b bs)) (k * i + j) v ≡ filled k n z (put_at i (set b j v) bs)
    block-set j v l =
        filled_put k n z (put_at i b bs) (even-put k bs i b e lb) i j inside.0 room inside.1 l v
        ∙ rw (get-put bs i b (replicate k z) h, put-put bs i b (set b j v) h)

    pub block-get : (j : ℕ) → j < k → get_or (filled k n z (put_at i b bs)) (k * i + j) 0 ≡ get_or b j 0
    block-get j l =
        filled-get-or k n z (put_at i b bs) (even-put k bs i b e lb) i j inside.0 room inside.1 l ∙ rw (get-put bs i b (replicate k z) h)

    pub length-block : length (filled k n z (put_at i b bs)) ≡ n
    length-block = length-filled k n z (put_at i b bs) (even-put k bs i b e lb) inside.1

pub metas-put : (bs : List (List ℕ)) (i : ℕ) → Even 4 bs → i ≤ length bs → length bs ≤ 32 → i < 32 → (x : InstanceMetaData)
    → set_meta (filled 4 128 0 bs) i x ≡ filled 4 128 0 (put_at i (meta_line x) bs)
unfolding set_meta
metas-put bs i ev h few l x =
    let b : List ℕ = get_or bs i (replicate 4 0) in
    let lb : length b ≡ 4 = even-at 4 bs i (replicate 4 0) ev refl in
    let room : 4 * i + 4 ≤ 128 = omega arith in
    let fits : 4 * length bs ≤ 128 = omega arith in
    let v0 : ℕ = instance_bit (state_of x) in
    let v1 : ℕ = disposed_count (counts_of x) in
    let v2 : ℕ = no_writers_count (counts_of x) in
    let b0 : List ℕ = set b 0 v0 in
    let b1 : List ℕ = set b0 1 v1 in
    let b2 : List ℕ = set b1 2 v2 in
    let first : set (filled 4 128 0 bs) (4 * i) v0 ≡ filled 4 128 0 (put_at i b0 bs) =
    ap (λ (p : ℕ). set (filled 4 128 0 bs) p v0) (sym (add-zero (4 * i))) ∙ filled_put 4 128 0 bs ev i 0 h room fits (omega arith) v0 in
    rw (
      first,
      block-set 4 128 0 bs ev i h room fits b0 (simp length-set lb) 1 v1 (omega arith),
      block-set 4 128 0 bs ev i h room fits b1 (simp length-set lb) 2 v2 (omega arith),
      block-set 4 128 0 bs ev i h room fits b2 (simp length-set lb) 3 (accessed_of x) (omega arith),
      four b v0 v1 v2 (accessed_of x) lb,
    )

-- the region as it is, with its block put there again; where the block is a new one, it is in the rest already
pub block_same : (k n z : ℕ) (bs : List (List ℕ)) → Even k bs → (i : ℕ) → i ≤ length bs → k * i + k ≤ n → k * length bs ≤ n
    → filled k n z bs ≡ filled k n z (put_at i (get_or bs i (replicate k z)) bs)
block_same k n z bs e i h room fits = ⊎_elim last inner (eq-or-lt_of_le h)
  where
    inner : i < length bs → filled k n z bs ≡ filled k n z (put_at i (get_or bs i (replicate k z)) bs)
    inner m = rw (put_same bs i (replicate k z) m)

    last : i ≡ length bs → filled k n z bs ≡ filled k n z (put_at i (get_or bs i (replicate k z)) bs)
    last q =
        let cs : List (List ℕ) = bs ++ (replicate k z ∷ []) in
        let blank : get_or bs i (replicate k z) ≡ replicate k z = get_or-eq_default bs (replicate k z) (omega arith) in
        let put : put_at i (replicate k z) bs ≡ cs = rw q (put-end bs (replicate k z) (replicate k z) ∙ set-append_seam bs (replicate k z) [] (replicate k z)) in
        filled_more k n z bs e fits (rw (← q) room) ∙ rw (blank, put)

-- blocks of none leave the rest alone
pub none_filled : (n z : ℕ) (bs : List (List ℕ)) → Even 0 bs → filled 0 n z bs ≡ replicate n z
unfolding filled
none_filled n z bs e =
    let z0 : length (flat bs) ≡ 0 = length-flat 0 bs e ∙ zero-mul (length bs) in
    let q : flat bs ≡ [] = none_of (flat bs) z0 in
    rw (q, zero-mul (length bs), sub-zero)
  where
    none_of : (l : List ℕ) → length l ≡ 0 → l ≡ []
    none_of [] h = refl
    none_of (x ∷ l) h = absurd (omega arith)

-- ---- names

module _ (n : ℕ) (l : List ℕ) (few : length l ≤ n) where
  pub length-padded : length (padded n l) ≡ n
  unfolding padded
  length-padded = simp (length-append, length-replicate) (omega arith)

  pub padded-front : take (length l) (padded n l) ≡ l
  unfolding padded
  padded-front = take_at l (replicate (n - length l) 0) (length l) refl

  pub padded-put : (i v : ℕ) → i ≤ length l → i < n → set (padded n l) i v ≡ padded n (put_at i v l)
  unfolding padded
  padded-put i v h m = ⊎_elim last inner (eq-or-lt_of_le h)
    where
      inner : i < length l → set (l ++ replicate (n - length l) 0) i v ≡ put_at i v l ++ replicate (n - length (put_at i v l)) 0
      inner k = rw (length-put-in l i v k, put-set l i v k) (set-append_left l (replicate (n - length l) 0) i v k)

      last : i ≡ length l → set (l ++ replicate (n - length l) 0) i v ≡ put_at i v l ++ replicate (n - length (put_at i v l)) 0
      last q =
          let r : n - length l ≡ suc (n - (length l + 1)) = omega arith in
          rw (q, length-put-end l v, r, set-append_seam l 0 (replicate (n - (length l + 1)) 0) v, put-end l v 0, set-append_seam l 0 [] v)
          (sym (append_assoc l (v ∷ []) (replicate (n - (length l + 1)) 0)))
