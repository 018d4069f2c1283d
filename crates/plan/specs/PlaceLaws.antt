-- What placing a sample comes to, from what the steps of the code say.
use Rattle.std.specs.Prelude.{Option, Some, None, MatchOption, ok_or, ◌≡◌, refl, Bool, false, cond, get_or, eqb, ◌⊎◌, max}
use Rattle.std.proofs.Common.{inl, inr, sym, ◌∙◌, ⊎_elim, eq-or-lt_of_le, arith}
use Rattle.std.proofs.Math.Path.{ap}
use Rattle.std.proofs.Math.Bool.{true}
use mathlib.Core.List.{List, map}
use Prim.Native.Nat.{ℕ, ◌+◌, ◌*◌, ◌≤◌, ◌<◌}
use Rattle.std.proofs.Math.ListN.{length, set, length-map, length-set}
use Rattle.std.proofs.Math.Dec.{ltb}
use Rattle.lists.specs.Blocks.{filled, put_at, map-put, length-put-in, length-put-end}
use Rattle.slots.specs.Bits.{first_one, bits_of}
use Rattle.slots.specs.declared.Free.{Free}
use Rattle.sampleinfo.specs.Lifecycle.{counts_of}
use Rattle.sampleinfo.specs.declared.InstanceMetaData.{InstanceMetaData}
use Rattle.store.specs.Store.{Inst, Store, oldest, moved_on, filling, placing, declined}
use Rattle.store.specs.Fit.{Fit, depth_of}
use Rattle.index.specs.Words.{region, words, padded, set_meta, slot_in}
use Rattle.index.specs.WordLaws.{to-names, meta-join, slot-join, metas-put, padded-put, length-set-meta, length-block}
use Rattle.index.specs.Memory.{name_of, line_of, cells_of, index_of, View, Tied}
use Rattle.index.specs.MemoryLaws.{names, metas, cells, names-long, metas-long, cells-long, cells_are, even-lines, even-cells, cells_fit, few-names, few-lines, deep_room}
use Rattle.index.specs.declared.Cache.{Cache}
use Rattle.index.specs.declared.Window.{Window}
use Rattle.plan.specs.Plan.{Ready, Made, moved_along, committed}
use Rattle.plan.specs.WindowLaws.{oldest-is, moved-is, length_moved}
use Rattle.std.specs.declared.result.Result.{Result}
use Rattle.std.specs.declared.result.Result.TheVariants.{Ok, Err}
use Rattle.refusals.specs.Numbers.{number_of}
use Rattle.refusals.specs.declared.Refusal.{Refusal}
use Rattle.refusals.specs.declared.Refusal.TheVariants as refusal

-- ---- an Option that a `?` takes, as a Result

module _ {A : Type 0} (got : Result A Refusal) (o : Option A) (d : Refusal) (g : got ≡ ok_or o d) where
  pub none-given : (e : Refusal) → got ≡ Err e → (o ≡ None) × (d ≡ e)
  none-given e z = go o refl
    where
      go : (p : Option A) → o ≡ p → (o ≡ None) × (d ≡ e)
      go None q = let same : ◌≡◌ {A = Result A Refusal} (Err d) (Err e) = sym (rw q at g) ∙ z in (q, cc)
      go (Some y) q = let no : ◌≡◌ {A = Result A Refusal} (Ok y) (Err e) = sym (rw q at g) ∙ z in absurd (cc)

  pub one-given : (y : A) → got ≡ Ok y → o ≡ Some y
  one-given y z = go o refl
    where
      go : (p : Option A) → o ≡ p → o ≡ Some y
      go None q = let no : ◌≡◌ {A = Result A Refusal} (Err d) (Ok y) = sym (rw q at g) ∙ z in absurd (cc)
      go (Some x) q = let same : ◌≡◌ {A = Result A Refusal} (Ok x) (Ok y) = sym (rw q at g) ∙ z in let told : x ≡ y = cc in q ∙ ap Some told

-- ---- a number as a slot

slot-none : (n : ℕ) → slot_in n ≡ None → ltb n 256 ≡ false
slot-none n e = go (ltb n 256) refl
  where
    go : (b : Bool) → ltb n 256 ≡ b → ltb n 256 ≡ false
    go false q = q
    go true q = let no : Some n ≡ None = rw q at e in absurd (cc)

slot-some : (n slot : ℕ) → slot_in n ≡ Some slot → (ltb n 256 ≡ true) × (slot ≡ n)
slot-some n slot e = go (ltb n 256) refl
  where
    go : (b : Bool) → ltb n 256 ≡ b → (ltb n 256 ≡ true) × (slot ≡ n)
    go true q = let same : Some n ≡ Some slot = rw q at e in (q, cc)
    go false q = let no : ◌≡◌ {A = Option ℕ} None (Some slot) = rw q at e in absurd (cc)

-- a refusal leaves header and words as they are
pub made-refused : (s : Store) (h : Cache) (ws : List ℕ) (e : Refusal) → Tied s h ws → Made (declined (number_of e) s) (Err e) h ws
made-refused s h ws e t = record { answer = refl; head = t.head; words = t.words }

held-put : (is : List Inst) (at held : ℕ) (j : Inst) → held ≡ length is → at ≤ length is → max held (at + 1) ≡ length (put_at at j is)
held-put is at held j e h = ⊎_elim last inner (eq-or-lt_of_le h)
  where
    inner : at < length is → max held (at + 1) ≡ length (put_at at j is)
    inner m = omega (arith, length-put-in is at j m)

    last : at ≡ length is → max held (at + 1) ≡ length (put_at at j is)
    last q = rw q (omega (arith, length-put-end is j))

-- ---- the stores of an add

module _ (s : Store) (f : Fit s) (at : ℕ) (i : Inst) (r : Ready s at i) (slot : ℕ) where
  moved : Inst
  moved = record { name = i.name; meta = i.meta; cells = moved_on s.keep i.cells slot }

  at_cells : at ≤ length (map cells_of s.insts)
  at_cells = rw (length-map s.insts cells_of) r.place

  at32 : at < 32
  at32 = omega (arith, r.space, f.rooms)

  pub moved-long : length (moved_on s.keep i.cells slot) ≡ depth_of s.keep
  moved-long = length_moved (names s) (metas s) s.keys s.owners (names-long s f) (metas-long s f) f.keys f.owners s.room at r.space (map cells_of s.insts) at_cells i.cells slot
      s.keep f.deep (even-cells s f) (cells_fit s f) r.window

  names-put : set (names s) at i.name ≡ padded 32 (map name_of (put_at at moved s.insts))
  unfolding moved
  names-put =
      padded-put 32 (map name_of s.insts) (few-names s f) at i.name (omega (arith, r.place, length-map s.insts name_of)) at32
      ∙ rw (map-put name_of s.insts at moved)

  lines-put : set_meta (metas s) at i.meta ≡ filled 4 128 0 (map line_of (put_at at moved s.insts))
  unfolding moved
  lines-put =
      metas-put (map line_of s.insts) at (even-lines s.insts) (omega (arith, r.place, length-map s.insts line_of)) (few-lines s f) at32 i.meta
      ∙ rw (map-put line_of s.insts at moved)

  pub commit-is : (key old : ℕ) → committed (index_of s) (depth_of s.keep) at i.name i.meta key slot old ≡ index_of (filling s at i key old slot).then
  unfolding index_of committed filling moved
  commit-is key old =
      let A : List ℕ = set (names s) at i.name in
      let B : List ℕ = set_meta (metas s) at i.meta in
      let C : List ℕ = filled (depth_of s.keep) 256 256 (put_at at (moved_on s.keep i.cells slot) (map cells_of s.insts)) in
      let C2 : List ℕ = filled (depth_of s.keep) 256 256 (map cells_of (put_at at moved s.insts)) in
      let K : List ℕ = set s.keys old 0 in
      let O : List ℕ = set s.owners old 0 in
      let l_a : length A ≡ 32 = simp length-set (names-long s f) in
      let l_b : length B ≡ 128 = length-set-meta (metas s) at i.meta ∙ metas-long s f in
      let cs : C ≡ C2 = rw (map-put cells_of s.insts at moved) in
      let moves : moved_along (words A B (cells s) s.keys s.owners) (depth_of s.keep * at) (depth_of s.keep) slot ≡ words A B C s.keys s.owners =
      moved-is A B s.keys s.owners l_a l_b f.keys f.owners s.room at r.space (map cells_of s.insts) at_cells i.cells slot s.keep f.deep (even-cells s f) (cells_fit s f) r.window in
      let l_c : length C ≡ 256 = length-block (depth_of s.keep) 256 256 (map cells_of s.insts) (even-cells s f) at at_cells (deep_room s.keep s.room at f.deep r.space) (cells_fit s f) (moved_on s.keep i.cells slot) moved-long in
      rw (
        to-names (names s) (metas s) (cells s) s.keys s.owners (names-long s f) (metas-long s f) (cells-long s f) f.keys f.owners at i.name,
        meta-join A (metas s) (cells s) s.keys s.owners l_a (metas-long s f) (cells-long s f) f.keys f.owners at i.meta,
        moves,
        slot-join A B C s.keys s.owners l_a l_b l_c f.keys f.owners old 0 0,
        slot-join A B C K O l_a l_b l_c (simp length-set f.keys) (simp length-set f.owners) slot key at,
        names-put,
        lines-put,
        cs,
      )

-- ---- from what the steps of the code say

module _ (h : Cache) (ws : List ℕ) (row name : ℕ) (x : InstanceMetaData) (key : ℕ) (s : Store) (i : Inst) (t : Tied s h ws) (r : Ready s row i) (ns : name ≡ i.name) (xs : x ≡ i.meta) where
  depth_is : h.depth ≡ depth_of s.keep
  depth_is = ap (λ (v : View). v.depth) t.head

  module _ (found : Option Window) (got : Result Window Refusal) (of : MatchOption found ((256 < h.depth) ⊎ (32 ≤ row)) (λ w. (w.depth ≡ h.depth) × (w.row ≡ row))) (gs : got ≡ ok_or found refusal.NoFreeSlot) where
    -- a window that there is not is no store's
    pub place-out : (e : Refusal) → got ≡ Err e → Made (placing s row i key) (Err e) h ws
    place-out e z = let n : (found ≡ None) × (refusal.NoFreeSlot ≡ e) = none-given got found refusal.NoFreeSlot gs e z in go (rw n.0 at of)
      where
        go : (256 < h.depth) ⊎ (32 ≤ row) → Made (placing s row i key) (Err e) h ws
        go (inl m) = absurd (omega (arith, deep_room s.keep s.room row t.fit.deep r.space, depth_is))
        go (inr m) = absurd (omega (arith, r.space, t.fit.rooms))

    module _ (v : Window) (z : got ≡ Ok v) where
      window-is : (v.depth ≡ h.depth) × (v.row ≡ row)
      window-is = rw (one-given got found refusal.NoFreeSlot gs v z) at of

      module _ (old : ℕ) (o : old ≡ cond (eqb v.depth 0) 256 (get_or (region 160 256 ws) (v.depth * v.row) 0)) where
        old-is : old ≡ oldest s.keep i.cells
        old-is =
            o ∙ rw (window-is.0, window-is.1, depth_is, t.words, cells_are s t.fit)
            (oldest-is (names s) (metas s) s.keys s.owners (names-long s t.fit) (metas-long s t.fit) t.fit.keys t.fit.owners s.room row r.space (map cells_of s.insts)
            (at_cells s t.fit row i r 0) i.cells 0 s.keep t.fit.deep (even-cells s t.fit) (cells_fit s t.fit) r.window)

        module _ (roomy : List ℕ) (g : roomy ≡ set (bits_of h.free.words) old 1) where
          roomy-is : roomy ≡ set s.free (oldest s.keep i.cells) 1
          roomy-is = g ∙ ap (λ (v : View). set v.free old 1) t.head ∙ rw old-is

          roomy-long : length roomy ≡ 256
          roomy-long = ap length roomy-is ∙ simp length-set t.fit.free

          module _ (lowest : Option ℕ) (chosen : Result ℕ Refusal) (l : lowest ≡ slot_in (first_one roomy)) (cs : chosen ≡ ok_or lowest refusal.NoFreeSlot) where
            pub place-full : (e : Refusal) → chosen ≡ Err e → Made (placing s row i key) (Err e) h ws
            unfolding placing
            place-full e y =
                let n : (lowest ≡ None) × (refusal.NoFreeSlot ≡ e) = none-given chosen lowest refusal.NoFreeSlot cs e y in
                let full : ltb (first_one (set s.free (oldest s.keep i.cells) 1)) 256 ≡ false = rw (← roomy-is) (slot-none (first_one roomy) (sym l ∙ n.0)) in
                rw (full, ← n.1) (made-refused s h ws refusal.NoFreeSlot t)

            pub place-done : (slot : ℕ) → chosen ≡ Ok slot → (taken : Free) (held : ℕ) (end : List ℕ) → bits_of taken.words ≡ set roomy slot 0 → held ≡ max h.held (row + 1)
                → end ≡ committed ws v.depth v.row name x key slot old
                → Made (placing s row i key) (Ok (record { key = key; slot = slot; old = slot_in old; counts = counts_of x }))
                (record { depth = h.depth; room = h.room; held = held; last = Some key; newest = slot; free = taken }) end
            unfolding placing filling
            place-done slot y taken held end b k w =
                let low : (ltb (first_one roomy) 256 ≡ true) × (slot ≡ first_one roomy) = slot-some (first_one roomy) slot (sym l ∙ one-given chosen lowest refusal.NoFreeSlot cs slot y) in
                let lt : ltb (first_one (set s.free (oldest s.keep i.cells) 1)) 256 ≡ true = rw (← roomy-is) low.0 in
                let slot_is : slot ≡ first_one (set s.free (oldest s.keep i.cells) 1) = low.1 ∙ ap first_one roomy-is in
                let hs : held ≡ length (put_at row (record { name = i.name; meta = i.meta; cells = moved_on s.keep i.cells slot }) s.insts) =
                k ∙ held-put s.insts row h.held _ (ap (λ (u : View). u.held) t.head) r.place in
                let rm : h.room ≡ s.room = ap (λ (u : View). u.room) t.head in
                let ws2 : end ≡ index_of (filling s row i key old slot).then = w ∙ rw (window-is.0, window-is.1, t.words, depth_is, ns, xs) (commit-is s t.fit row i r slot key old) in
                rw (lt, ← slot_is, ← old-is)
                (record {
                  answer = rw xs;
                  head = rw (hs, b, roomy-is, ← old-is, rm, depth_is);
                  words = ws2;
                })
