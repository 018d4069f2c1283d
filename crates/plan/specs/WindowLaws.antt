-- The window that moves on, in the words and in the store.
use Rattle.std.specs.Prelude.{◌≡◌, cond, get_or, set, take, drop, replicate, eqb}
use Rattle.std.proofs.Math.Path.{refl, ap}
use Rattle.std.proofs.Common.{sym, ◌∙◌, add-zero, arith, ne_eqb, length-set, length-append, length-drop, take-suc, drop-cons, take_all, get_or-append-add, get_or-drop, length-take-le}
use mathlib.Core.List.{List, [], ◌∷◌, ◌++◌, append_assoc}
use Rattle.std.proofs.Math.Option.{Option, some, none}
use Prim.Native.Nat.{ℕ, zero, suc, ◌+◌, ◌*◌, ◌≤◌, ◌<◌}
use Rattle.std.proofs.Math.ListN.{length}
use Rattle.std.proofs.lemmas.List.{length-replicate, set_at}
use Rattle.std.proofs.Math.Seq.{drop-length}
use Rattle.lists.specs.Blocks.{filled, Even, put_at, filled-get-or, even-put, even-at}
use Rattle.store.specs.Store.{moved_on, oldest}
use Rattle.store.specs.Fit.{depth_of, Deep}
use Rattle.index.specs.Words.{words}
use Rattle.index.specs.WordLaws.{in_cells, to-cells, block-set, block-get, block_same, none_filled, length-block}
use Rattle.index.specs.MemoryLaws.{deep_room}
use Rattle.plan.specs.Plan.{shifting, shift_block, moved_along}

-- ---- in a window alone

length_shift : (cs : List ℕ) (n : ℕ) → length (shift_block cs n) ≡ length cs
unfolding shift_block
length_shift cs zero = refl
length_shift cs (suc n) = length-set (shift_block cs n) n _ ∙ length_shift cs n

shift_is : (cs : List ℕ) (n : ℕ) → n < length cs → shift_block cs n ≡ take n (drop 1 cs) ++ drop n cs
unfolding shift_block
shift_is cs zero h = refl
shift_is cs (suc n) h =
    let front : length (take n (drop 1 cs)) ≡ n = length-take-le n (drop 1 cs) (omega (arith, length-drop 1 cs)) in
    let next : get_or (take n (drop 1 cs) ++ drop n cs) (n + 1) 0 ≡ get_or (drop 1 cs) n 0 =
    ap (λ (k : ℕ). get_or (take n (drop 1 cs) ++ drop n cs) (k + 1) 0) (sym front)
    ∙ get_or-append-add (take n (drop 1 cs)) (drop n cs) 1 0 ∙ get_or-drop n cs 1 0 ∙ sym (get_or-drop 1 cs n 0 ∙ ap (λ (k : ℕ). get_or cs k 0) (omega arith)) in
    rw (shift_is cs n (omega arith), next, drop-cons cs n 0 (omega arith), take-suc (drop 1 cs) n 0 (omega (arith, length-drop 1 cs)))
    (set_at (take n (drop 1 cs)) (get_or cs n 0) (drop (suc n) cs) (get_or (drop 1 cs) n 0) n front
    ∙ sym (append_assoc (take n (drop 1 cs)) (get_or (drop 1 cs) n 0 ∷ []) (drop (suc n) cs)))

moved-block : (cs : List ℕ) (m slot : ℕ) → length cs ≡ suc m → set (shift_block cs m) m slot ≡ drop 1 (cs ++ slot ∷ [])
moved-block [] m slot h = absurd (omega arith)
moved-block (c ∷ cs) m slot h =
    let l : length cs ≡ m = omega arith in
    let tail : drop m (c ∷ cs) ≡ get_or (c ∷ cs) m 0 ∷ [] = drop-cons (c ∷ cs) m 0 (omega arith) ∙ rw (← l, drop-length cs) in
    rw (shift_is (c ∷ cs) m (omega arith), tail, take_all m cs (omega arith)) (set_at cs (get_or (c ∷ cs) m 0) [] slot m l)

-- ---- in the words

module _ (a b ks os : List ℕ) (la : length a ≡ 32) (lb : length b ≡ 128) (lk : length ks ≡ 256) (lo : length os ≡ 256)
    (d at : ℕ) (bs : List (List ℕ)) (e : Even d bs) (h : at ≤ length bs) (room : d * at + d ≤ 256) (fits : d * length bs ≤ 256) (cs : List ℕ) (lc : length cs ≡ d) where
  abbrev pub block : List ℕ → List ℕ
  block xs = filled d 256 256 (put_at at xs bs)

  long : (n : ℕ) → length (shift_block cs n) ≡ d
  long n = length_shift cs n ∙ lc

  shift-words : (n : ℕ) → n < d → shifting (words a b (block cs) ks os) (d * at) n ≡ words a b (block (shift_block cs n)) ks os
  unfolding shifting shift_block
  shift-words zero l = refl
  shift-words (suc n) l =
      let w : List ℕ = shift_block cs n in
      let lw : length (block w) ≡ 256 = length-block d 256 256 bs e at h room fits w (long n) in
      rw (shift-words n (omega arith), in_cells a b (block w) ks os la lb lw lk lo, block-get d 256 256 bs e at h room fits w (long n) (n + 1) (omega arith))
      (to-cells a b (block w) ks os la lb lw lk lo (d * at + n) (get_or w (n + 1) 0)
      ∙ rw (block-set d 256 256 bs e at h room fits w (long n) n (get_or w (n + 1) 0) (omega arith)))

  pub moved-words : (m slot : ℕ) → d ≡ suc m → moved_along (words a b (block cs) ks os) (d * at) d slot ≡ words a b (block (drop 1 (cs ++ slot ∷ []))) ks os
  unfolding moved_along
  moved-words m slot q =
      let w : List ℕ = shift_block cs m in
      let lw : length (block w) ≡ 256 = length-block d 256 256 bs e at h room fits w (long m) in
      ap (λ (k : ℕ). moved_along (words a b (block cs) ks os) (d * at) k slot) q
      ∙ rw (shift-words m (omega arith))
      (to-cells a b (block w) ks os la lb lw lk lo (d * at + m) slot
      ∙ rw (block-set d 256 256 bs e at h room fits w (long m) m slot (omega arith), moved-block cs m slot (lc ∙ q)))

-- ---- with or without a keep count

module _ (k : Option ℕ) (rooms at : ℕ) (deep : Deep k rooms) (space : at < rooms) (bs : List (List ℕ)) (e : Even (depth_of k) bs) (h : at ≤ length bs) (fits : depth_of k * length bs ≤ 256)
    (cs : List ℕ) (win : get_or bs at (replicate (depth_of k) 256) ≡ cs) where
  pub window-long : length cs ≡ depth_of k
  window-long = rw (← win) (even-at (depth_of k) bs at (replicate (depth_of k) 256) e (length-replicate (depth_of k) 256))

module _ (a b ks os : List ℕ) (la : length a ≡ 32) (lb : length b ≡ 128) (lk : length ks ≡ 256) (lo : length os ≡ 256) (rooms at : ℕ) (space : at < rooms) (bs : List (List ℕ))
    (h : at ≤ length bs) (cs : List ℕ) (slot : ℕ) where
  -- the cell pushed out, and the window afterwards
  pub oldest-is : (k : Option ℕ) → Deep k rooms → Even (depth_of k) bs → depth_of k * length bs ≤ 256 → get_or bs at (replicate (depth_of k) 256) ≡ cs
      → cond (eqb (depth_of k) 0) 256 (get_or (filled (depth_of k) 256 256 bs) (depth_of k * at) 0) ≡ oldest k cs
  oldest-is none deep e fits win = refl
  oldest-is (some d) deep e fits win =
      let l : length cs ≡ d = window-long (some d) rooms at deep space bs e h fits cs win in
      let g : get_or (filled d 256 256 bs) (d * at) 0 ≡ get_or cs 0 0 =
      ap (λ (p : ℕ). get_or (filled d 256 256 bs) p 0) (sym (add-zero (d * at)))
      ∙ filled-get-or d 256 256 bs e at 0 h (deep_room (some d) rooms at deep space) fits deep.0 ∙ ap (λ (w : List ℕ). get_or w 0 0) win in
      rw (ne_eqb d 0 (λ z. omega (arith, deep.0)), g) (first cs (omega (arith, deep.0)))
    where
      first : (l : List ℕ) → 0 < length l → get_or l 0 0 ≡ get_or l 0 256
      first [] p = absurd (omega arith)
      first (x ∷ l) p = refl

  pub moved-is : (k : Option ℕ) → Deep k rooms → Even (depth_of k) bs → depth_of k * length bs ≤ 256 → get_or bs at (replicate (depth_of k) 256) ≡ cs
      → moved_along (words a b (filled (depth_of k) 256 256 bs) ks os) (depth_of k * at) (depth_of k) slot ≡ words a b (filled (depth_of k) 256 256 (put_at at (moved_on k cs slot) bs)) ks os
  unfolding moved_along
  moved-is none deep e fits win =
      let l : length cs ≡ 0 = window-long none rooms at deep space bs e h fits cs win in
      rw (none_filled 256 256 bs e, none_filled 256 256 (put_at at cs bs) (even-put 0 bs at cs e l))
  moved-is (some zero) deep e fits win = absurd (omega (arith, deep.0))
  moved-is (some (suc m)) deep e fits win =
      let l : length cs ≡ suc m = window-long (some (suc m)) rooms at deep space bs e h fits cs win in
      let room : suc m * at + suc m ≤ 256 = deep_room (some (suc m)) rooms at deep space in
      let same : filled (suc m) 256 256 bs ≡ filled (suc m) 256 256 (put_at at cs bs) = block_same (suc m) 256 256 bs e at h room fits ∙ rw win in
      ap (λ (c : List ℕ). moved_along (words a b c ks os) (suc m * at) (suc m) slot) same
      ∙ moved-words a b ks os la lb lk lo (suc m) at bs e h room fits cs l m slot refl

  pub length_moved : (k : Option ℕ) → Deep k rooms → Even (depth_of k) bs → depth_of k * length bs ≤ 256 → get_or bs at (replicate (depth_of k) 256) ≡ cs
      → length (moved_on k cs slot) ≡ depth_of k
  length_moved none deep e fits win = window-long none rooms at deep space bs e h fits cs win
  length_moved (some d) deep e fits win =
      let l : length cs ≡ d = window-long (some d) rooms at deep space bs e h fits cs win in
      length-drop 1 (cs ++ slot ∷ []) ∙ rw (length-append cs (slot ∷ [])) (omega (arith, deep.0))
