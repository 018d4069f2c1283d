-- The searches as the code meets them: the answer on the left.
use Rattle.std.specs.Prelude.{◌≡◌, refl, Bool, true, false, cond, not, ◌&&◌, List, ◌∷◌, map, replicate, ltb, eqb, Option, Some, None, MatchOption, ◌⊎◌}
use Rattle.std.proofs.Math.Path.{sym, ap}
use Rattle.std.proofs.Common.{◌∙◌, add-one, drop_of_length-le}
use Rattle.std.proofs.Math.Option as model
use Prim.Native.Nat.{ℕ, suc, ◌+◌, ◌-◌, ◌*◌, ◌≤◌, ◌<◌, min}
use native.Mathlib.Omega.{arith}
use borrow.Author.Tests.{lt-ltb, le-ltb}
use Rattle.std.proofs.Math.ListN.{length, get_or, drop, get_or-map}
use Rattle.std.proofs.lemmas.List.{length-map}
use Rattle.std.proofs.Math.Seq.{drop-cons}
use Rattle.std.proofs.Math.Decide.{dec_lt}
use Rattle.lists.specs.Blocks.{filled-get-or, get-map}
use Rattle.slots.specs.Bits.{bits_of, free_at}
use Rattle.store.specs.Store.{Inst, Store, place_of, no_inst, inst_at, next_name, cell_keyed, slot_keyed, slot_of_key, slot_named, later_slot, greatest_from, latest_slot}
use Rattle.store.specs.Fit.{Fit, Deep, depth_of}
use Rattle.index.specs.Words.{region}
use Rattle.index.specs.Memory.{name_of, cells_of, View, Tied, Held}
use Rattle.index.specs.MemoryLaws.{few32, name-is, cells_are, keys-are, owners-are, even-cells, cells_fit, deep_room, held_of}
use Rattle.index.specs.declared.Cache.{Cache}
use Rattle.index.specs.declared.Window.{Window}
use Rattle.lookup.specs.Lookup.{next_of, least_of, nearer_of, pair_of, slot_in, Windowed, Slotted}
use Rattle.model.specs.Model.{least}

-- ---- the next instance key

least-is : (o : model.Option ℕ) (n : ℕ) → least_of (next_of o) n ≡ next_of (least o n)
least-is model.none n = refl
least-is (model.some m) n = refl

nearer-is : (b : Bool) (o : model.Option ℕ) (n : ℕ) → cond b (least_of (next_of o) n) (next_of o) ≡ next_of (cond b (least o n) o)
nearer-is true o n = least-is o n
nearer-is false o n = refl

-- the best of the names from i on
unfoldable pub Nears : List ℕ → ℕ → ℕ → ℕ → Option ℕ → Type 0
unfolding next_name
Nears ws held name i best = (s : Store) → Held s held ws → best ≡ next_of (next_name name (drop i s.insts))

module _ (ws : List ℕ) (held name : ℕ) where
  pub near-start : (rows : ℕ) → rows ≡ min held 32 → Nears ws held name rows None
  unfolding Nears next_name
  near-start rows e s t = rw (drop_of_length-le s.insts {i = rows} (omega (arith, t.count, few32 s t.fit)))

  pub near_on : (i : ℕ) (best r : Option ℕ) (n rows : ℕ) → Nears ws held name i best → r ≡ nearer_of name n best → n ≡ get_or (region 0 32 ws) (i - 1) 0 → rows ≡ min held 32 → i ≤ rows → 0 < i → Nears ws held name (i - 1) r
  unfolding Nears next_name
  near_on i best r n rows k e q m l h s t =
      let j : i - 1 < length s.insts = omega (arith, t.count, few32 s t.fit) in
      let x : Inst = get_or s.insts (i - 1) no_inst in
      let back : suc (i - 1) ≡ i = omega arith in
      let front : drop (i - 1) s.insts ≡ x ∷ drop i s.insts = drop-cons s.insts (i - 1) no_inst j ∙ ap (λ (p : ℕ). x ∷ drop p s.insts) back in
      let named : n ≡ x.name = q ∙ name-is s held ws t (i - 1) j ∙ get_or-map name_of s.insts (i - 1) no_inst in
      rw (e, k s t, named, front) (nearer-is (ltb name x.name) (next_name name (drop i s.insts)) x.name)

  pub near-end : (i : ℕ) (best : Option ℕ) → Nears ws held name i best → i ≤ 0 → (s : Store) → Held s held ws → best ≡ next_of (next_name name s.insts)
  unfolding Nears
  near-end i best k h s t = let e : i ≡ 0 = omega arith in k s t ∙ rw e

-- ---- a slot, or none

pub some-slot : (c n : ℕ) → c < 256 → c ≡ n → Some c ≡ slot_in n
some-slot c n h e = rw (← e, lt-ltb c 256 h)

pub no-slot : (n : ℕ) → 256 ≡ n → None ≡ slot_in n
no-slot n e = rw (← e)

tested-low : (c : ℕ) (a b : Bool) → b ≡ ltb c 256 && a → b ≡ true → c < 256
tested-low c a b q y = go (dec_lt c 256)
  where
    go : Dec (c < 256) → c < 256
    go (yes h) = h
    go (no h) = let z : ◌≡◌ {A = Bool} false true = sym (q ∙ rw (le-ltb c 256 (omega arith))) ∙ y in absurd (cc)

-- ---- the slot of a pair, among cells

-- none of the cells before j is it
unfoldable pub Cells : List ℕ → ℕ → ℕ → ℕ → ℕ → Type 0
unfolding cell_keyed
Cells ws depth row key j = (s : Store) → Windowed s depth row ws → cell_keyed key s.keys (drop j (inst_at s row).cells) ≡ cell_keyed key s.keys (inst_at s row).cells

pub cells-start : (ws : List ℕ) (depth row key : ℕ) → Cells ws depth row key 0
unfolding Cells
cells-start ws depth row key s t = refl

module _ (ws : List ℕ) (depth row key j : ℕ) (s : Store) (t : Windowed s depth row ws) where
  long : length (inst_at s row).cells ≡ depth
  long = t.fit.even row t.held ∙ sym t.deep

  cell-is : j < depth → get_or (region 160 256 ws) (depth * row + j) 0 ≡ get_or (inst_at s row).cells j 0
  cell-is h =
      let f : Fit s = t.fit in
      let d : ℕ = depth_of s.keep in
      rw (t.words, t.deep, cells_are s f)
      (filled-get-or d 256 256 (map cells_of s.insts) (even-cells s f) row j (omega (arith, t.held, length-map s.insts cells_of))
      (deep_room s.keep s.room row f.deep (omega (arith, t.held, f.few))) (cells_fit s f) (omega (arith, t.deep))
      ∙ ap (λ (b : List ℕ). get_or b j 0) (get-map cells_of s.insts row no_inst (replicate d 256) t.held))

  -- the cell, and the test that the code makes of it
  module _ (c : ℕ) (b : Bool) (e : c ≡ get_or (region 160 256 ws) (depth * row + j) 0) (q : b ≡ ltb c 256 && eqb (get_or (region 416 256 ws) c 0) key) (h : j < depth) where
    test-is : ltb c 256 && eqb (get_or s.keys c 0) key ≡ b
    test-is = sym (q ∙ rw (t.words, keys-are s t.fit))

    front : drop j (inst_at s row).cells ≡ c ∷ drop (j + 1) (inst_at s row).cells
    front = rw (e, cell-is h, add-one j) (drop-cons (inst_at s row).cells j 0 (omega (arith, long)))

    pub cell-hit : b ≡ true → cell_keyed key s.keys (drop j (inst_at s row).cells) ≡ c
    unfolding cell_keyed
    cell-hit y = rw (front, test-is, y)

    pub cell-miss : b ≡ false → cell_keyed key s.keys (drop j (inst_at s row).cells) ≡ cell_keyed key s.keys (drop (j + 1) (inst_at s row).cells)
    unfolding cell_keyed
    cell-miss y = rw (front, test-is, y)

module _ (ws : List ℕ) (depth row key j : ℕ) (k : Cells ws depth row key j) where
  module _ (c : ℕ) (b : Bool) (e : c ≡ get_or (region 160 256 ws) (depth * row + j) 0) (q : b ≡ ltb c 256 && eqb (get_or (region 416 256 ws) c 0) key) (h : j < depth) where
    pub cells-hit : b ≡ true → (s : Store) → Windowed s depth row ws → Some c ≡ slot_in (cell_keyed key s.keys (inst_at s row).cells)
    unfolding Cells
    cells-hit y s t = some-slot c _ (tested-low c _ b q y) (sym (cell-hit ws depth row key j s t c b e q h y) ∙ k s t)

    pub cells-on : b ≡ false → Cells ws depth row key (j + 1)
    unfolding Cells
    cells-on y s t = sym (cell-miss ws depth row key j s t c b e q h y) ∙ k s t

  pub cells-end : j ≤ depth → depth ≤ j → (s : Store) → Windowed s depth row ws → None ≡ slot_in (cell_keyed key s.keys (inst_at s row).cells)
  unfolding Cells cell_keyed
  cells-end h m s t = no-slot _ (rw (drop_of_length-le (inst_at s row).cells {i = j} (omega (arith, long ws depth row key j s t))) at (k s t))

-- ---- among all slots

-- none of the slots before i is it
unfoldable pub Slots : List ℕ → List ℕ → ℕ → ℕ → ℕ → Type 0
unfolding slot_keyed
Slots bits ws row key i = (s : Store) → Slotted s bits ws → slot_keyed (256 - i) i key row s ≡ slot_keyed 256 0 key row s

pub slots-start : (bits ws : List ℕ) (row key : ℕ) → Slots bits ws row key 0
unfolding Slots
slots-start bits ws row key s t = refl

module _ (bits ws : List ℕ) (row key i : ℕ) (k : Slots bits ws row key i) where
  module _ (b : Bool) (q : b ≡ not (free_at (bits_of bits) i) && (eqb (get_or (region 416 256 ws) i 0) key && eqb (get_or (region 672 256 ws) i 0) row)) (h : i < 256) where
    module _ (s : Store) (t : Slotted s bits ws) where
      left : 256 - i ≡ suc (256 - (i + 1))
      left = omega arith

      its-test : not (free_at s.free i) && (eqb (get_or s.keys i 0) key && eqb (get_or s.owners i 0) row) ≡ b
      its-test = sym (q ∙ rw (t.words, keys-are s t.fit, owners-are s t.fit, t.free))

      here : slot_keyed (256 - i) i key row s ≡ cond b i (slot_keyed (256 - (i + 1)) (i + 1) key row s)
      unfolding slot_keyed
      here = rw (left, its-test)

    pub slots-hit : b ≡ true → (s : Store) → Slotted s bits ws → Some i ≡ slot_in (slot_keyed 256 0 key row s)
    unfolding Slots
    slots-hit y s t = some-slot i _ h (sym (here s t ∙ rw y) ∙ k s t)

    pub slots-on : b ≡ false → Slots bits ws row key (i + 1)
    unfolding Slots
    slots-on y s t = sym (here s t ∙ rw y) ∙ k s t

  pub slots_end : i ≤ 256 → 256 ≤ i → (s : Store) → Slotted s bits ws → None ≡ slot_in (slot_keyed 256 0 key row s)
  unfolding Slots slot_keyed
  slots_end h m s t = let e : i ≡ 256 = omega arith in no-slot _ (rw e at (k s t))

-- ---- with or without a keep count

for-none : (k : model.Option ℕ) (room : ℕ) (s : Store) (row key : ℕ) → Deep k room → depth_of k ≡ 0 → slot_of_key k s row key ≡ slot_keyed 256 0 key row s
for-none model.none room s row key d e = refl
for-none (model.some n) room s row key d e = absurd (omega (arith, d.0))

for_some : (k : model.Option ℕ) (s : Store) (row key : ℕ) → (depth_of k ≡ 0 → ⊥) → slot_of_key k s row key ≡ cell_keyed key s.keys (inst_at s row).cells
for_some model.none s row key h = absurd (h refl)
for_some (model.some n) s row key h = refl

module _ (h : Cache) (ws : List ℕ) (key name row : ℕ) (w : (z : Store) → Held z h.held ws → row ≡ place_of name z.insts) where
  pub locate-none : h.held ≤ row → (s : Store) → Tied s h ws → None ≡ slot_in (slot_named s (pair_of key name))
  unfolding slot_named
  locate-none m s t = rw (← (w s (held_of s h ws t)), le-ltb row (length s.insts) (omega (arith, ap (λ (v : View). v.held) t.head)))

  module _ (m : row < h.held) where
    named : (s : Store) → Tied s h ws → slot_named s (pair_of key name) ≡ slot_of_key s.keep s row key
    unfolding slot_named
    named s t = rw (← (w s (held_of s h ws t)), lt-ltb row (length s.insts) (omega (arith, ap (λ (v : View). v.held) t.head)))

    pub locate-slots : (r : Option ℕ) → ((z : Store) → Slotted z h.free.words ws → r ≡ slot_in (slot_keyed 256 0 key row z)) → h.depth ≡ 0 → (s : Store) → Tied s h ws → r ≡ slot_in (slot_named s (pair_of key name))
    locate-slots r g e s t =
        let d : depth_of s.keep ≡ 0 = sym (ap (λ (v : View). v.depth) t.head) ∙ e in
        g s (record { fit = t.fit; free = ap (λ (v : View). v.free) t.head; words = t.words })
        ∙ ap slot_in (sym (named s t ∙ for-none s.keep s.room s row key t.fit.deep d))

    pub locate-cells : (r : Option ℕ) (got : Option Window) (w : Window) → MatchOption got ((256 < h.depth) ⊎ (32 ≤ row)) (λ v. (v.depth ≡ h.depth) × (v.row ≡ row)) → got ≡ Some w
        → ((z : Store) → Windowed z w.depth w.row ws → r ≡ slot_in (cell_keyed key z.keys (inst_at z w.row).cells)) → (h.depth ≡ 0 → ⊥) → (s : Store) → Tied s h ws → r ≡ slot_in (slot_named s (pair_of key name))
    locate-cells r got w of e g n s t =
        let is : (w.depth ≡ h.depth) × (w.row ≡ row) = rw e at of in
        let d : h.depth ≡ depth_of s.keep = ap (λ (v : View). v.depth) t.head in
        g s (record { fit = t.fit; deep = is.0 ∙ d; held = omega (arith, ap (λ (v : View). v.held) t.head, is.1); words = t.words })
        ∙ rw is.1 (ap slot_in (sym (named s t ∙ for_some s.keep s row key (λ z. n (d ∙ z)))))

-- ---- the latest slot

-- the greatest of the slots from i on
unfoldable pub Great : List ℕ → List ℕ → ℕ → Option ℕ → Type 0
unfolding greatest_from
Great bits ws i best = (s : Store) → Slotted s bits ws → best ≡ slot_in (greatest_from (256 - i) i s)

pub great-start : (bits ws : List ℕ) → Great bits ws 256 None
unfolding Great greatest_from
great-start bits ws s t = refl

pub great-on : (bits ws : List ℕ) (i : ℕ) (best r : Option ℕ) → Great bits ws i best
    → ((n : ℕ) → best ≡ slot_in n → i - 1 < 256 → r ≡ slot_in (cond (free_at (bits_of bits) (i - 1)) n (later_slot (region 416 256 ws) (i - 1) n)))
    → i ≤ 256 → 0 < i → Great bits ws (i - 1) r
unfolding Great greatest_from
great-on bits ws i best r k e l h s t =
    let n : 256 - (i - 1) ≡ suc (256 - i) = omega arith in
    let back : i - 1 + 1 ≡ i = omega arith in
    rw (n, back) (e _ (k s t) (omega arith) ∙ rw (t.words, keys-are s t.fit, t.free))

pub great-end : (bits ws : List ℕ) (i : ℕ) (best : Option ℕ) → Great bits ws i best → i ≤ 0 → (s : Store) → Slotted s bits ws → best ≡ slot_in (greatest_from 256 0 s)
unfolding Great
great-end bits ws i best k h s t = let e : i ≡ 0 = omega arith in k s t ∙ rw e

module _ (h : Cache) (ws : List ℕ) where
  newest-is : (s : Store) → Tied s h ws → h.newest ≡ s.newest
  newest-is s t = ap (λ (v : View). v.newest) t.head

  pub latest-newest : h.newest < 256 → (s : Store) → Tied s h ws → Some h.newest ≡ slot_in (latest_slot s)
  unfolding latest_slot
  latest-newest m s t = some-slot h.newest _ m (newest-is s t ∙ sym (rw (lt-ltb s.newest 256 (omega (arith, newest-is s t)))))

  pub latest-greatest : (r : Option ℕ) → ((z : Store) → Slotted z h.free.words ws → r ≡ slot_in (greatest_from 256 0 z)) → 256 ≤ h.newest → (s : Store) → Tied s h ws → r ≡ slot_in (latest_slot s)
  unfolding latest_slot
  latest-greatest r g m s t =
      rw (le-ltb s.newest 256 (omega (arith, newest-is s t)))
      (g s (record { fit = t.fit; free = ap (λ (v : View). v.free) t.head; words = t.words }))
