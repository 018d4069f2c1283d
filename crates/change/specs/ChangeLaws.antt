-- A set-up, a no-writers event and a freed slot, as the code meets them.
use Rattle.std.proofs.Math.Path.{◌≡◌, refl, sym, ap}
use Rattle.std.proofs.Common.{◌∙◌, mul-zero, arith, length-set, take-suc, drop-cons, take_all, length-take-le}
use Rattle.std.specs.Prelude.{None, take, drop, replicate, eqb}
use Rattle.std.proofs.Math.Bool.{cond}
use mathlib.Core.List.{List, [], ◌∷◌, ◌++◌, map, append_assoc, append-nil}
use Rattle.std.proofs.Math.Option.{Option}
use Prim.Native.Nat.{ℕ, zero, suc, ◌+◌, ◌*◌, ◌≤◌, ◌<◌}
use borrow.Author.Tests.{lt-ltb, le-ltb}
use Rattle.std.proofs.Math.ListN.{length, get_or, set, length-map}
use Rattle.std.proofs.lemmas.List.{drop-drop, length-drop, set_at, get_or_at}
use Rattle.std.proofs.Math.Seq.{drop-length}
use Rattle.std.specs.declared.result.Result.TheVariants.{Ok, Err}
use Rattle.refusals.specs.declared.Refusal.TheVariants as refusal
use Rattle.lists.specs.Blocks.{flat, filled, Even, put_at, map-put, get-map, length-put-in}
use Rattle.lists.specs.Regions.{join}
use Rattle.slots.specs.Bits.{bits_of}
use Rattle.slots.specs.declared.Free.{Free}
use Rattle.keys.specs.Keys.{Last}
use Rattle.sampleinfo.specs.Lifecycle.{no_writers_of}
use Rattle.sampleinfo.specs.declared.InstanceMetaData.{InstanceMetaData}
use Rattle.store.specs.Store.{Inst, Store, place_of, no_inst, inst_at, dying, emptied, freed}
use Rattle.store.specs.Fit.{Fit, depth_of}
use Rattle.index.specs.Words.{region, words, padded, meta_at, put_meta, put_slot}
use Rattle.index.specs.WordLaws.{in_cells, to-cells, block-set, block-get, block_same, length-block, slot-join}
use Rattle.index.specs.Memory.{name_of, line_of, cells_of, index_of, View, Tied, Held, fresh_store}
use Rattle.index.specs.MemoryLaws.{names, metas, cells, names-long, metas-long, even-cells, cells_fit, deep_room, meta-is, meta-store, same_map}
use Rattle.index.specs.declared.Cache.{Cache}
use Rattle.change.specs.Change.{Left, Kept, freed_at, cleared, empty_cell, emptying, empty_block}

-- ---- set-up

pub cells_filled : (ws part : List ℕ) → length ws ≡ 928 → part ≡ replicate (length (take 256 (drop 160 ws))) 256 → take 160 ws ++ (part ++ drop 256 (drop 160 ws)) ≡ cleared ws
cells_filled ws part h e =
    let long : length (take 256 (drop 160 ws)) ≡ 256 = length-take-le 256 (drop 160 ws) (omega (arith, length-drop 160 ws)) in
    rw (e, long, drop-drop)

blank : List ℕ → List ℕ
blank c = words (replicate 32 0) (replicate 128 0) c (replicate 256 0) (replicate 256 0)

all-cleared : cleared (replicate 928 0) ≡ blank (replicate 256 256)
unfolding blank words join
all-cleared = refl

fresh-words : (keep : Option ℕ) (room : ℕ) → index_of (fresh_store keep room) ≡ blank (replicate 256 256)
unfolding index_of blank filled padded flat
fresh-words keep room = rw (mul-zero (depth_of keep))

pub set-up-done : (w end : List ℕ) (depth room : ℕ) (free : Free) → end ≡ cleared w → w ≡ replicate 928 0 → bits_of free.words ≡ replicate 256 1 → (keep : Option ℕ) → depth ≡ depth_of keep
    → Kept (fresh_store keep room) (record { depth = depth; room = room; held = 0; last = None; newest = 256; free = free }) end
set-up-done w end depth room free p q b keep e = record {
  head = rw (b, e);
  words = p ∙ rw q all-cleared ∙ sym (fresh-words keep room);
}

-- ---- the no-writers event

module _ (ws : List ℕ) (held name row : ℕ) (w : (z : Store) → Held z held ws → row ≡ place_of name z.insts) where
  pub unknown : held ≤ row → (s : Store) → Held s held ws → Left (dying s name) (Err refusal.UnknownInstance) ws
  unfolding dying
  unknown m s t = rw (← (w s t), le-ltb row (length s.insts) (omega (arith, t.count))) (record { code = refl; words = t.words })

  pub left-done : (x y : InstanceMetaData) (end : List ℕ) → end ≡ put_meta ws row y → y ≡ no_writers_of x → x ≡ meta_at (region 32 128 ws) row → row < held → (s : Store) → Held s held ws → Left (dying s name) (Ok tt) end
  unfolding dying
  left-done x y end p q r m s t =
      let l : row < length s.insts = omega (arith, t.count) in
      let xs : x ≡ (inst_at s row).meta = r ∙ rw t.words (meta-is s t.fit row l) in
      rw (← (w s t), lt-ltb row (length s.insts) l)
      (record { code = refl; words = p ∙ rw (q, xs, t.words) (meta-store s t.fit row l (no_writers_of (inst_at s row).meta)) })

-- ---- a slot that becomes free

-- in a window alone

length-empty : (cs : List ℕ) (slot n : ℕ) → length (empty_block cs slot n) ≡ length cs
unfolding empty_block
length-empty cs slot zero = refl
length-empty cs slot (suc n) = length-set (empty_block cs slot n) n _ ∙ length-empty cs slot n

pub length-emptied : (slot : ℕ) (cs : List ℕ) → length (emptied slot cs) ≡ length cs
unfolding emptied
length-emptied slot [] = refl
length-emptied slot (c ∷ cs) = ap suc (length-emptied slot cs)

emptied-append : (slot : ℕ) (cs ds : List ℕ) → emptied slot (cs ++ ds) ≡ emptied slot cs ++ emptied slot ds
unfolding emptied
emptied-append slot [] ds = refl
emptied-append slot (c ∷ cs) ds = ap (λ (l : List ℕ). empty_cell slot c ∷ l) (emptied-append slot cs ds)

empty-is : (cs : List ℕ) (slot n : ℕ) → n ≤ length cs → empty_block cs slot n ≡ emptied slot (take n cs) ++ drop n cs
unfolding empty_block emptied
empty-is cs slot zero h = refl
empty-is cs slot (suc n) h =
    let front : length (emptied slot (take n cs)) ≡ n = length-emptied slot (take n cs) ∙ length-take-le n cs (omega arith) in
    let more : emptied slot (take (suc n) cs) ≡ emptied slot (take n cs) ++ (empty_cell slot (get_or cs n 0) ∷ []) = ap (emptied slot) (take-suc cs n 0 (omega arith)) ∙ emptied-append slot (take n cs) (get_or cs n 0 ∷ []) in
    let here : get_or (emptied slot (take n cs) ++ get_or cs n 0 ∷ drop (suc n) cs) n 0 ≡ get_or cs n 0 = get_or_at (emptied slot (take n cs)) (get_or cs n 0) (drop (suc n) cs) 0 n front in
    rw (empty-is cs slot n (omega arith), drop-cons cs n 0 (omega arith), here, more)
    (set_at (emptied slot (take n cs)) (get_or cs n 0) (drop (suc n) cs) (empty_cell slot (get_or cs n 0)) n front
    ∙ sym (append_assoc (emptied slot (take n cs)) (empty_cell slot (get_or cs n 0) ∷ []) (drop (suc n) cs)))

emptied-block : (cs : List ℕ) (slot : ℕ) → empty_block cs slot (length cs) ≡ emptied slot cs
emptied-block cs slot = empty-is cs slot (length cs) (omega arith) ∙ rw (take_all (length cs) cs (omega arith), drop-length cs) (append-nil (emptied slot cs))

-- in the words

module _ (a b ks os : List ℕ) (la : length a ≡ 32) (lb : length b ≡ 128) (lk : length ks ≡ 256) (lo : length os ≡ 256)
    (d at : ℕ) (bs : List (List ℕ)) (e : Even d bs) (h : at ≤ length bs) (room : d * at + d ≤ 256) (fits : d * length bs ≤ 256) (cs : List ℕ) (lc : length cs ≡ d) (slot : ℕ) where
  abbrev pub block : List ℕ → List ℕ
  block xs = filled d 256 256 (put_at at xs bs)

  long : (n : ℕ) → length (empty_block cs slot n) ≡ d
  long n = length-empty cs slot n ∙ lc

  pub empty-words : (n : ℕ) → n ≤ d → emptying (words a b (block cs) ks os) (d * at) slot n ≡ words a b (block (empty_block cs slot n)) ks os
  unfolding emptying empty_block
  empty-words zero l = refl
  empty-words (suc n) l =
      let w : List ℕ = empty_block cs slot n in
      let lw : length (block w) ≡ 256 = length-block d 256 256 bs e at h room fits w (long n) in
      rw (empty-words n (omega arith), in_cells a b (block w) ks os la lb lw lk lo, block-get d 256 256 bs e at h room fits w (long n) n l)
      (to-cells a b (block w) ks os la lb lw lk lo (d * at + n) (empty_cell slot (get_or w n 0))
      ∙ rw (block-set d 256 256 bs e at h room fits w (long n) n (empty_cell slot (get_or w n 0)) l))

module _ (s : Store) (f : Fit s) (row slot : ℕ) (h : row < length s.insts) where
  rest : Inst
  rest = record { name = (inst_at s row).name; meta = (inst_at s row).meta; cells = emptied slot (inst_at s row).cells }

  row_room : depth_of s.keep * row + depth_of s.keep ≤ 256
  row_room = deep_room s.keep s.room row f.deep (omega (arith, f.few))

  freed-is : index_of (freed s row slot)
      ≡ words (names s) (metas s) (filled (depth_of s.keep) 256 256 (put_at row (emptied slot (inst_at s row).cells) (map cells_of s.insts))) (set s.keys slot 0) (set s.owners slot 0)
  unfolding index_of freed rest
  freed-is = rw (same_map name_of s.insts row rest h refl, same_map line_of s.insts row rest h refl, map-put cells_of s.insts row rest)

  free-words : put_slot (emptying (index_of s) (depth_of s.keep * row) slot (depth_of s.keep)) slot 0 0 ≡ index_of (freed s row slot)
  unfolding index_of
  free-words =
      let d : ℕ = depth_of s.keep in
      let bs : List (List ℕ) = map cells_of s.insts in
      let cs : List ℕ = (inst_at s row).cells in
      let lc : length cs ≡ d = f.even row h in
      let at : row ≤ length bs = omega (arith, length-map s.insts cells_of) in
      let here : get_or bs row (replicate d 256) ≡ cs = get-map cells_of s.insts row no_inst (replicate d 256) h in
      let same : cells s ≡ filled d 256 256 (put_at row cs bs) = block_same d 256 256 bs (even-cells s f) row at row_room (cells_fit s f) ∙ rw here in
      let emptier : emptying (words (names s) (metas s) (filled d 256 256 (put_at row cs bs)) s.keys s.owners) (d * row) slot d ≡ words (names s) (metas s) (filled d 256 256 (put_at row (empty_block cs slot d) bs)) s.keys s.owners =
      empty-words (names s) (metas s) s.keys s.owners (names-long s f) (metas-long s f) f.keys f.owners d row bs (even-cells s f) at row_room (cells_fit s f) cs lc slot d (omega arith) in
      let done : empty_block cs slot d ≡ emptied slot cs = rw (← lc) (emptied-block cs slot) in
      let C : List ℕ = filled d 256 256 (put_at row (emptied slot cs) bs) in
      let l_c : length C ≡ 256 = length-block d 256 256 bs (even-cells s f) row at row_room (cells_fit s f) (emptied slot cs) (length-emptied slot cs ∙ lc) in
      ap (λ (c : List ℕ). put_slot (emptying (words (names s) (metas s) c s.keys s.owners) (d * row) slot d) slot 0 0) same
      ∙ rw (emptier, done) (slot-join (names s) (metas s) C s.keys s.owners (names-long s f) (metas-long s f) l_c f.keys f.owners slot 0 0)
      ∙ sym freed-is

module _ (h : Cache) (ws : List ℕ) (row slot : ℕ) where
  pub free-done : (w end : List ℕ) (newest : ℕ) (free : Free) → end ≡ put_slot w slot 0 0 → w ≡ emptying ws (h.depth * row) slot h.depth → row < h.held
      → bits_of free.words ≡ set (bits_of h.free.words) slot 1 → newest ≡ cond (eqb h.newest slot) 256 h.newest → (s : Store) → Tied s h ws
      → Kept (freed_at s row slot) (record { depth = h.depth; room = h.room; held = h.held; last = h.last; newest = newest; free = free }) end
  unfolding freed rest
  free-done w end newest free p q m b n s t =
      let l : row < length s.insts = omega (arith, ap (λ (v : View). v.held) t.head) in
      let ds : h.depth ≡ depth_of s.keep = ap (λ (v : View). v.depth) t.head in
      let same : h.held ≡ length (put_at row (rest s t.fit row slot l) s.insts) = ap (λ (v : View). v.held) t.head ∙ sym (length-put-in s.insts row _ l) in
      let news : newest ≡ cond (eqb s.newest slot) 256 s.newest = n ∙ ap (λ (v : View). cond (eqb v.newest slot) 256 v.newest) t.head in
      let bits : bits_of free.words ≡ set s.free slot 1 = b ∙ ap (λ (v : View). set v.free slot 1) t.head in
      let rm : h.room ≡ s.room = ap (λ (v : View). v.room) t.head in
      let lst : h.last ≡ s.last = ap (λ (v : View). v.last) t.head in
      rw (lt-ltb row (length s.insts) l)
      (record {
        head = made-same h.depth h.room h.held newest h.last (bits_of free.words) _ _ _ _ _ _ ds rm same news lst bits;
        words = p ∙ rw (q, t.words, ds) (free-words s t.fit row slot l);
      })
    where
      made-same : (d r e n : ℕ) (l : Last) (fs : List ℕ) (d2 r2 e2 n2 : ℕ) (l2 : Last) (fs2 : List ℕ) → d ≡ d2 → r ≡ r2 → e ≡ e2 → n ≡ n2 → l ≡ l2 → fs ≡ fs2
          → ◌≡◌ {A = View} (record { depth = d; room = r; held = e; last = l; newest = n; free = fs }) (record { depth = d2; room = r2; held = e2; last = l2; newest = n2; free = fs2 })
      made-same d r e n l fs d2 r2 e2 n2 l2 fs2 p1 p2 p3 p4 p5 p6 = rw (p1, p2, p3, p4, p5, p6)
