-- What is read in the words of a store, and what a store there makes of it.
use Rattle.std.specs.Prelude.{◌≡◌, ℕ, ◌+◌, ◌*◌, ◌≤◌, ◌<◌, min, drop, replicate}
use Rattle.std.proofs.Math.Path.{refl, sym, ap}
use Rattle.std.proofs.Common.{◌∙◌, mul-le-mul_left, mul-suc, zero-mul, add-zero, arith, get_or-take, take-take, lt-ltb, le-ltb}
use mathlib.Core.List.{List, [], ◌∷◌, map}
use Rattle.std.proofs.Math.Option.{Option, some, none}
use Rattle.std.specs.Prelude as rust
use Rattle.std.specs.Prelude.{Bool, true, false, cond, not, suc, take, ltb, eqb, unwrap_or, ◌==◌}
use Rattle.std.proofs.Math.Decide.{dec_lt}
use Rattle.std.specs.List.{position, position_or_len}
use Rattle.std.proofs.Math.ListN.{length, get_or, set, length-map, get_or-map}
use Rattle.std.proofs.Math.Seq.{map-set_same}
use Rattle.lists.specs.Blocks.{filled, Even, put_at, length-filled, filled-get-or, filled_put, even-map, get-map, map-put, put-set}
use Rattle.sampleinfo.specs.States.{instance_bit}
use Rattle.sampleinfo.specs.Lifecycle.{state_of}
use Rattle.sampleinfo.specs.declared.InstanceMetaData.{InstanceMetaData}
use Rattle.store.specs.Store.{Inst, Store, place_of, no_inst, inst_at, with_inst, with_meta, with_accessed, accessed_in}
use Rattle.store.specs.Fit.{Fit, depth_of, Deep}
use Rattle.index.specs.Words.{region, words, padded, meta_line, meta_at, put_meta, put_meta_word, name_index, held_names}
use Rattle.index.specs.WordLaws.{length-padded, padded-front, in-names, in-metas, in_cells, in-keys, in_owners, to-metas, meta-join, metas-put, meta-back}
use Rattle.index.specs.Memory.{name_of, line_of, cells_of, index_of, View, Tied, Held}
use Rattle.index.specs.declared.Cache.{Cache}

-- ---- the keep count

pub deep-fits : (k : Option ℕ) (room n : ℕ) → Deep k room → n ≤ room → depth_of k * n ≤ 256
deep-fits none room n d h = rw (zero-mul n) (omega arith)
deep-fits (some k) room n d h = omega (arith, d.1, mul-le-mul_left k h)

pub deep_room : (k : Option ℕ) (room at : ℕ) → Deep k room → at < room → depth_of k * at + depth_of k ≤ 256
deep_room none room at d h = rw (zero-mul at) (omega arith)
deep_room (some k) room at d h = omega (arith, d.1, mul-le-mul_left k h, mul-suc k at)

-- ---- the regions of a store that is fit

abbrev pub names : Store → List ℕ
names s = padded 32 (map name_of s.insts)

abbrev pub metas : Store → List ℕ
metas s = filled 4 128 0 (map line_of s.insts)

abbrev pub cells : Store → List ℕ
cells s = filled (depth_of s.keep) 256 256 (map cells_of s.insts)

pub place-names : (n : ℕ) (is : List Inst) → name_index n (map name_of is) ≡ place_of n is
unfolding name_index place_of
place-names n [] = refl
place-names n (i ∷ is) = rw (place-names n is)

pub even-lines : (is : List Inst) → Even 4 (map line_of is)
even-lines is = even-map 4 line_of (λ y. refl) is

module _ (s : Store) (f : Fit s) where
  pub few32 : length s.insts ≤ 32
  few32 = omega (arith, f.few, f.rooms)

  pub few-names : length (map name_of s.insts) ≤ 32
  few-names = omega (arith, few32, length-map s.insts name_of)

  pub few-lines : length (map line_of s.insts) ≤ 32
  few-lines = omega (arith, few32, length-map s.insts line_of)

  pub even-cells : Even (depth_of s.keep) (map cells_of s.insts)
  unfolding Even
  even-cells i h = rw (get_or-map cells_of s.insts i no_inst) (f.even i (omega (arith, length-map s.insts cells_of)))

  pub cells_fit : depth_of s.keep * length (map cells_of s.insts) ≤ 256
  cells_fit = rw (length-map s.insts cells_of) (deep-fits s.keep s.room (length s.insts) f.deep f.few)

  pub names-long : length (names s) ≡ 32
  names-long = length-padded 32 (map name_of s.insts) few-names

  pub metas-long : length (metas s) ≡ 128
  metas-long = length-filled 4 128 0 (map line_of s.insts) (even-lines s.insts) (omega (arith, few-lines))

  pub cells-long : length (cells s) ≡ 256
  cells-long = length-filled (depth_of s.keep) 256 256 (map cells_of s.insts) even-cells cells_fit

  -- ---- what is read

  pub names-are : region 0 32 (index_of s) ≡ names s
  unfolding index_of
  names-are = in-names (names s) (metas s) (cells s) s.keys s.owners names-long metas-long cells-long f.keys f.owners

  pub metas-are : region 32 128 (index_of s) ≡ metas s
  unfolding index_of
  metas-are = in-metas (names s) (metas s) (cells s) s.keys s.owners names-long metas-long cells-long f.keys f.owners

  pub cells_are : region 160 256 (index_of s) ≡ cells s
  unfolding index_of
  cells_are = in_cells (names s) (metas s) (cells s) s.keys s.owners names-long metas-long cells-long f.keys f.owners

  pub keys-are : region 416 256 (index_of s) ≡ s.keys
  unfolding index_of
  keys-are = in-keys (names s) (metas s) (cells s) s.keys s.owners names-long metas-long cells-long f.keys f.owners

  pub owners-are : region 672 256 (index_of s) ≡ s.owners
  unfolding index_of
  owners-are = in_owners (names s) (metas s) (cells s) s.keys s.owners names-long metas-long cells-long f.keys f.owners

  pub held-names : held_names (length s.insts) (index_of s) ≡ map name_of s.insts
  unfolding held_names
  held-names = rw (names-are, ← (length-map s.insts name_of)) (padded-front 32 (map name_of s.insts) few-names)

  module _ (at : ℕ) (h : at < length s.insts) where
    meta-word : (j : ℕ) → j < 4 → get_or (metas s) (4 * at + j) 0 ≡ get_or (line_of (inst_at s at)) j 0
    meta-word j l =
        let n : length (map line_of s.insts) ≡ length s.insts = length-map s.insts line_of in
        filled-get-or 4 128 0 (map line_of s.insts) (even-lines s.insts) at j (omega arith) (omega (arith, few32)) (omega (arith, few32)) l
        ∙ ap (λ (b : List ℕ). get_or b j 0) (get-map line_of s.insts at no_inst (replicate 4 0) h)

    pub meta-is : meta_at (region 32 128 (index_of s)) at ≡ (inst_at s at).meta
    unfolding meta_at
    meta-is =
        let first : get_or (metas s) (4 * at) 0 ≡ instance_bit (state_of (inst_at s at).meta) =
        ap (λ (p : ℕ). get_or (metas s) p 0) (sym (add-zero (4 * at))) ∙ meta-word 0 (omega arith) in
        rw (metas-are, first, meta-word 1 (omega arith), meta-word 2 (omega arith), meta-word 3 (omega arith))
        (meta-back (inst_at s at).meta (f.totals at h))

-- ---- the search for a name: as the code meets it

index-le : (name : ℕ) (ns : List ℕ) → name_index name ns ≤ length ns
unfolding name_index
index-le name [] = omega arith
index-le name (n ∷ ns) = go (eqb n name) (index-le name ns)
  where
    go : (b : Bool) → name_index name ns ≤ length ns → cond b 0 (suc (name_index name ns)) ≤ suc (length ns)
    go true h = omega arith
    go false h = omega arith

first-is : (name : ℕ) (ns : List ℕ) → position_or_len (λ x. x == name) ns ≡ name_index name ns
unfolding name_index
first-is name [] = refl
first-is name (n ∷ ns) = go (eqb n name) (first-is name ns)
  where
    go : (b : Bool) → position_or_len (λ x. x == name) ns ≡ name_index name ns → cond (not b) (1 + position_or_len (λ x. x == name) ns) 0 ≡ cond b 0 (suc (name_index name ns))
    go true e = refl
    go false e = omega arith

-- the place of the first that passes, or their number
first-or-all : (name : ℕ) (ns : List ℕ) → unwrap_or (position (λ x. x == name) ns) (length ns) ≡ name_index name ns
first-or-all name ns = go (dec_lt (position_or_len (λ x. x == name) ns) (length ns))
  where
    go : Dec (position_or_len (λ x. x == name) ns < length ns) → unwrap_or (position (λ x. x == name) ns) (length ns) ≡ name_index name ns
    go (yes h) = rw (lt-ltb (position_or_len (λ x. x == name) ns) (length ns) h) (first-is name ns)
    go (no h) = rw (le-ltb (position_or_len (λ x. x == name) ns) (length ns) (omega arith)) (omega (arith, first-is name ns, index-le name ns))

module _ (s : Store) (held : ℕ) (ws : List ℕ) (t : Held s held ws) where
  pub name-is : (i : ℕ) → i < length s.insts → get_or (region 0 32 ws) i 0 ≡ get_or (map name_of s.insts) i 0
  unfolding held_names
  name-is i h =
      sym (get_or-take (length s.insts) (region 0 32 ws) i 0 h)
      ∙ rw t.words (ap (λ (l : List ℕ). get_or l i 0) (held-names s t.fit))

  pub names-held : take (min held 32) (region 0 32 ws) ≡ map name_of s.insts
  unfolding held_names
  names-held =
      let rows : min held 32 ≡ length s.insts = omega (arith, t.count, few32 s t.fit) in
      rw (rows, t.words) (held-names s t.fit)

  pub find-done : (name r : ℕ) (o : rust.Option ℕ) (ns : List ℕ) → r ≡ unwrap_or o (length ns) → o ≡ position (λ x. x == name) ns → ns ≡ take (min held 32) (region 0 32 ws) → r ≡ place_of name s.insts
  find-done name r o ns p q e = p ∙ rw (q, e, names-held) (first-or-all name (map name_of s.insts)) ∙ place-names name s.insts

pub names-part : (ws : List ℕ) (held rows : ℕ) → rows ≡ min held 32 → take rows ws ≡ take (min held 32) (region 0 32 ws)
unfolding region
names-part ws held rows e = rw e (sym (take-take (min held 32) 32 ws (omega arith)))

pub held_of : (s : Store) (h : Cache) (ws : List ℕ) → Tied s h ws → Held s h.held ws
held_of s h ws t = record { fit = t.fit; count = ap (λ (v : View). v.held) t.head; words = t.words }

-- ---- one instance anew, its name and its window as they are

pub same_map : {B : Type 0} (g : Inst → B) (is : List Inst) (at : ℕ) (y : Inst) → at < length is → g y ≡ g (get_or is at no_inst) → map g (put_at at y is) ≡ map g is
same_map g is at y h e = rw (put-set is at y h) (map-set_same g is at y no_inst e)

module _ (s : Store) (f : Fit s) (at : ℕ) (h : at < length s.insts) where
  with-meta : (x : InstanceMetaData) → index_of (with_inst s at (with_meta (inst_at s at) x)) ≡ words (names s) (filled 4 128 0 (put_at at (meta_line x) (map line_of s.insts))) (cells s) s.keys s.owners
  unfolding index_of
  with-meta x =
      rw (
        same_map name_of s.insts at (with_meta (inst_at s at) x) h refl,
        same_map cells_of s.insts at (with_meta (inst_at s at) x) h refl,
        map-put line_of s.insts at (with_meta (inst_at s at) x),
      )

  at-lines : at ≤ length (map line_of s.insts)
  at-lines = omega (arith, length-map s.insts line_of)

  pub meta-store : (x : InstanceMetaData) → put_meta (index_of s) at x ≡ index_of (with_inst s at (with_meta (inst_at s at) x))
  unfolding index_of
  meta-store x =
      meta-join (names s) (metas s) (cells s) s.keys s.owners (names-long s f) (metas-long s f) (cells-long s f) f.keys f.owners at x
      ∙ rw (metas-put (map line_of s.insts) at (even-lines s.insts) at-lines (few-lines s f) (omega (arith, few32 s f)) x) (sym (with-meta x))

  -- `set_accessed` stores what was accessed
  pub accessed-store : (a : ℕ) → put_meta_word (index_of s) (4 * at + 3) a ≡ index_of (accessed_in s at a)
  unfolding index_of
  accessed-store a =
      let line : get_or (map line_of s.insts) at (replicate 4 0) ≡ line_of (inst_at s at) = get-map line_of s.insts at no_inst (replicate 4 0) h in
      let put : set (metas s) (4 * at + 3) a ≡ filled 4 128 0 (put_at at (meta_line (with_accessed (inst_at s at).meta a)) (map line_of s.insts)) =
      filled_put 4 128 0 (map line_of s.insts) (even-lines s.insts) at 3 at-lines (omega (arith, few32 s f)) (omega (arith, few-lines s f)) (omega arith) a ∙ rw line in
      to-metas (names s) (metas s) (cells s) s.keys s.owners (names-long s f) (metas-long s f) (cells-long s f) f.keys f.owners (4 * at + 3) a
      ∙ rw put (sym (with-meta (with_accessed (inst_at s at).meta a)))
