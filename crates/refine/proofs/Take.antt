-- One pair taken or read: on the store and on the table.
use Rattle.std.proofs.Math.Path.{◌≡◌, refl, sym, ap}
use Rattle.std.proofs.Common.{◌∙◌, zero-add, arith, eq-eqb, ne_eqb, eqb-true}
use Rattle.std.specs.Prelude.{Some, None, Bool, ℕ, zero, suc, ◌+◌, ◌≤◌, get_or, ltb}
use Rattle.std.proofs.Math.Bool.{true, false, cond}
use mathlib.Core.List.{List, [], ◌∷◌, ◌++◌, map, append_assoc}
use Rattle.std.proofs.Math.Option.{Option, some, none}
use Rattle.std.proofs.lemmas.Bool.{eqb-false}
use Rattle.std.proofs.Math.ListN.{set}
use Rattle.std.proofs.lemmas.List.{length-map}
use Rattle.std.proofs.Math.Dec.{eqb}
use Rattle.lists.specs.Every.{Every, every_map}
use Rattle.lists.specs.Count.{bit}
use Rattle.lists.specs.Blocks.{put_at, map-put, put_same}
use Rattle.sampleinfo.specs.Samples.{empty_sample, marked_read}
use Rattle.keys.specs.Keys.{Last}
use Rattle.model.specs.Pairs.{Pair}
use Rattle.model.specs.Model.{Model, Instance, Live, Place, gone, held, find, live_in, lives, count, in_slot, keyed, as_read, touch}
use Rattle.model.proofs.Counting.{count-append}
use Rattle.model.specs.Demand3.{has_key}
use Rattle.model.specs.PairLaws.{split}
use Rattle.store.specs.Store as S
use Rattle.store.specs.Store.{Inst, place_of, emptied, freed, inst_at}
use Rattle.refine.specs.Layout.{cell_of, cells_of, inst_of, Entry, entry, entries_from, entries_of, look_up, tab_from, slots_of, slot_or_none, free_of, key_of, owner_of, sample_of, newest_of, store_of, table_of}
use Rattle.refine.specs.Good.{Good}
use Rattle.refine.specs.Tables.{bit_le, lives_in, uses, uses-here, slots-less, slots-swap}
use Rattle.refine.specs.Entries.{map-append, found_name, lives-of, insts, entries-put}
use Rattle.refine.proofs.FitOf.{in-a-slot}
use Rattle.refine.proofs.Add.{keyed-here}
use Rattle.refine.proofs.Unique.{unique}
use Rattle.refine.proofs.Found.{Placed, front, rear, at-below, entries-here, here-placed, entry-slots, keyed-key}
use Rattle.refine.proofs.Named.{insts-of, inst-here, named-placed, key-once, lives-parts}
use Rattle.refine.proofs.Touch.{touched_in, touched_by, touch-own, touched-one}

-- ---- among the places of the pair's instance

module _ (p : Pair) (n : ℕ) (own : n ≡ p.name) where
  touch-absent : (t : Bool) (ps : List Place) → count (has_key p.key) (live_in ps) ≡ 0 → map (touch t n (p ∷ [])) ps ≡ ps
  unfolding live_in count
  touch-absent t [] z = refl
  touch-absent t (gone ∷ ps) z = rw (touch-absent t ps z)
  touch-absent t (held s ∷ ps) z = split (eqb s.key p.key)
      (λ q. absurd (omega (arith, rw q at z)))
      (λ q. rw (touch-own t n p own s, q, touch-absent t ps (omega (arith, rw q at z))))

  -- the sample under the pair's key, with those before it and those behind it
  pub record Around (ps : List Place) (s : Live) : Type 0 where
    pub a : List Live
    pub b : List Live
    pub whole : live_in ps ≡ a ++ s ∷ b
    pub took : live_in (map (touch true n (p ∷ [])) ps) ≡ a ++ b
    pub read : live_in (map (touch false n (p ∷ [])) ps) ≡ a ++ as_read s ∷ b

  pub around : (ps : List Place) (s : Live) → count (has_key p.key) (live_in ps) ≤ 1 → keyed p.key (live_in ps) ≡ some s → Around ps s
  unfolding live_in count keyed
  around [] s h e = let z : ◌≡◌ {A = ℕ} 0 1 = cc in absurd (omega arith)
  around (gone ∷ ps) s h e = let r : Around ps s = around ps s h e in record { a = r.a; b = r.b; whole = r.whole; took = r.took; read = r.read }
  around (held x ∷ ps) s h e = go (eqb x.key p.key) refl e (around ps s (omega arith)) (λ t. touch-absent t ps)
    where
      go : (c : Bool) → eqb x.key p.key ≡ c → cond c (some x) (keyed p.key (live_in ps)) ≡ some s → (keyed p.key (live_in ps) ≡ some s → Around ps s)
          → ((t : Bool) → count (has_key p.key) (live_in ps) ≡ 0 → map (touch t n (p ∷ [])) ps ≡ ps) → Around (held x ∷ ps) s
      go true q f r z =
          let y : x ≡ s = cc in
          let none_left : count (has_key p.key) (live_in ps) ≡ 0 = omega (arith, rw q at h) in
          record {
            a = [];
            b = live_in ps;
            whole = ap (λ (l : Live). l ∷ live_in ps) y;
            took = rw (touch-own true n p own x, q, z true none_left);
            read = rw (touch-own false n p own x, q, z false none_left) (ap (λ (l : Live). as_read l ∷ live_in ps) y);
          }
      go false q f r z = record {
        a = x ∷ (r f).a;
        b = (r f).b;
        whole = ap (λ (l : List Live). x ∷ l) (r f).whole;
        took = rw (touch-own true n p own x, q) (ap (λ (l : List Live). x ∷ l) (r f).took);
        read = rw (touch-own false n p own x, q) (ap (λ (l : List Live). x ∷ l) (r f).read);
      }

  -- the cells: "the slot is in none of the cells any more"
  taken-cells : (ps : List Place) (k : ℕ) → Every (λ x. eqb x.key p.key ≡ eqb x.slot k) (live_in ps) → map cell_of (map (touch true n (p ∷ [])) ps) ≡ emptied k (map cell_of ps)
  unfolding live_in Every emptied
  taken-cells [] k h = refl
  taken-cells (gone ∷ ps) k h = rw (taken-cells ps k h) (split (eqb 256 k) (λ q. rw q) (λ q. rw q))
  taken-cells (held x ∷ ps) k h = rw (touch-own true n p own x, h.0, taken-cells ps k h.1) (split (eqb x.slot k) (λ q. rw q) (λ q. rw q))

  read-cells : (ps : List Place) → map cell_of (map (touch false n (p ∷ [])) ps) ≡ map cell_of ps
  read-cells [] = refl
  read-cells (gone ∷ ps) = rw (read-cells ps)
  read-cells (held x ∷ ps) = rw (touch-own false n p own x, read-cells ps) (split (eqb x.key p.key) (λ q. rw q) (λ q. rw q))

-- ---- the key's sample when another goes

keyed-without : (k : ℕ) (a b : List Live) (s : Live) → (s.key ≡ k → ⊥) → keyed k (a ++ s ∷ b) ≡ keyed k (a ++ b)
unfolding keyed
keyed-without k [] b s h = rw (ne_eqb s.key k h)
keyed-without k (x ∷ a) b s h = rw (keyed-without k a b s h)

keyed-read : (k : ℕ) (a b : List Live) (s : Live) → slot_or_none (keyed k (a ++ as_read s ∷ b)) ≡ slot_or_none (keyed k (a ++ s ∷ b))
unfolding keyed
keyed-read k [] b s = split (eqb s.key k) (λ q. rw q) (λ q. rw q)
keyed-read k (x ∷ a) b s = split (eqb x.key k) (λ q. rw q) (λ q. rw q (keyed-read k a b s))

count-with : (f : Live → Bool) (a b : List Live) (s : Live) → count f (a ++ s ∷ b) ≡ bit (f s) + count f (a ++ b)
unfolding count
count-with f [] b s = refl
count-with f (x ∷ a) b s = omega (arith, count-with f a b s)

pub keyed-absent : (k : ℕ) (ss : List Live) → count (has_key k) ss ≡ 0 → keyed k ss ≡ none
unfolding keyed count
keyed-absent k [] z = refl
keyed-absent k (x ∷ ss) z = split (eqb x.key k) (λ q. absurd (omega (arith, rw q at z))) (λ q. rw q (keyed-absent k ss (omega (arith, rw q at z))))

either : (b : Bool) → ◌≡◌ {A = ℕ} 256 (cond b 256 256)
either true = refl
either false = refl

-- "newest is the slot of the last accepted sample while that is live"
newest-taken : (l : Last) (a b : List Live) (s : Live) → count (in_slot s.slot) (a ++ s ∷ b) ≤ 1 → ((k : ℕ) → count (has_key k) (a ++ s ∷ b) ≤ 1)
    → newest_of l (a ++ b) ≡ cond (eqb (newest_of l (a ++ s ∷ b)) s.slot) 256 (newest_of l (a ++ s ∷ b))
newest-taken None a b s slots keys = either (eqb 256 s.slot)
newest-taken (Some k) a b s slots keys = split (eqb s.key k)
    (λ q. let z : count (has_key k) (a ++ b) ≡ 0 = omega (arith, count-with (has_key k) a b s, ap bit q, keys k) in
    rw (keyed-absent k (a ++ b) z, keyed-here k a b s (omega (arith, count-append (has_key k) a b)) (eqb-true s.key k q), eq-eqb s.slot s.slot refl))
    (λ q. rw (keyed-without k a b s (eqb-false s.key k q)) (go (keyed k (a ++ b)) refl))
  where
    go : (o : Option Live) → keyed k (a ++ b) ≡ o → slot_or_none o ≡ cond (eqb (slot_or_none o) s.slot) 256 (slot_or_none o)
    go none e = either (eqb 256 s.slot)
    go (some u) e = split (eqb u.slot s.slot)
        (λ q. let same : count (in_slot u.slot) (a ++ b) ≡ count (in_slot s.slot) (a ++ b) = ap (λ (j : ℕ). count (in_slot j) (a ++ b)) (eqb-true u.slot s.slot q) in
        absurd (omega (arith, in-a-slot u (a ++ b) k e, count-with (in_slot s.slot) a b s, ap bit (eq-eqb s.slot s.slot refl), slots)))
        (λ q. rw q)

newest-read : (l : Last) (a b : List Live) (s : Live) → newest_of l (a ++ as_read s ∷ b) ≡ newest_of l (a ++ s ∷ b)
newest-read None a b s = refl
newest-read (Some k) a b s = keyed-read k a b s

-- ---- tables that do not see what changes

tab-ext : {A : Type 0} (n k : ℕ) (f h : ℕ → A) → ((j : ℕ) → f j ≡ h j) → tab_from n k f ≡ tab_from n k h
unfolding tab_from
tab-ext zero k f h e = refl
tab-ext (suc n) k f h e = rw (e k, tab-ext n (suc k) f h e)

look-blind : {A : Type 0} (f : Option Entry → A) (k : ℕ) (a b : List Entry) (x y : Entry) → x.live.slot ≡ y.live.slot → f (some x) ≡ f (some y) → f (look_up k (a ++ x ∷ b)) ≡ f (look_up k (a ++ y ∷ b))
unfolding look_up
look-blind f k [] b x y e q = ap (λ (j : ℕ). f (cond (eqb j k) (some x) (look_up k b))) e ∙ split (eqb y.live.slot k) (λ c. rw c q) (λ c. rw c)
look-blind f k (z ∷ a) b x y e q = split (eqb z.live.slot k) (λ c. rw c) (λ c. rw c (look-blind f k a b x y e q))

slots-blind : {A : Type 0} (f : Option Entry → A) (a b : List Entry) (x y : Entry) → x.live.slot ≡ y.live.slot → f (some x) ≡ f (some y) → slots_of f (a ++ x ∷ b) ≡ slots_of f (a ++ y ∷ b)
unfolding slots_of
slots-blind f a b x y e q = tab-ext 256 0 (λ k. f (look_up k (a ++ x ∷ b))) (λ k. f (look_up k (a ++ y ∷ b))) (λ k. look-blind f k a b x y e q)

none-emptied : (k : ℕ) → [] ≡ emptied k []
unfolding emptied
none-emptied k = refl

every-both : {A : Type 0} (P Q : A → Type 0) (l : List A) → Every P l → Every Q l → Every (λ x. P x × Q x) l
unfolding Every
every-both P Q [] h k = tt
every-both P Q (x ∷ l) h k = ((h.0, k.0), every-both P Q l h.1 k.1)

-- ---- one pair of a good cache

module _ (m : Model) (g : Good m) (p : Pair) (i : Instance) (e : find p.name m.instances ≡ some i) (s : Live) (q : keyed p.key (live_in i.places) ≡ some s) where
  abbrev row : ℕ
  row = place_of p.name (insts m.keep m.instances)

  own : i.name ≡ p.name
  own = found_name p.name m.instances i e

  abbrev f-part : List Entry
  f-part = front m g p.name i e

  abbrev r-part : List Entry
  r-part = rear m g p.name i e

  pub own-once : count (has_key p.key) (live_in i.places) ≤ 1
  own-once = omega (
    arith,
    key-once m g p.key,
    ap (count (has_key p.key)) (lives-parts m g p.name i e p.key),
    count-append (has_key p.key) (lives_in f-part) (live_in i.places ++ lives_in r-part),
    count-append (has_key p.key) (live_in i.places) (lives_in r-part),
  )

  parts : Around p i.name own i.places s
  parts = around p i.name own i.places s own-once q

  abbrev a-part : List Entry
  a-part = f-part ++ map (entry row) parts.a

  abbrev b-part : List Entry
  b-part = map (entry row) parts.b ++ r-part

  regroup : (l : List Live) (x : Live) (r : List Live) → f-part ++ (map (entry row) (l ++ x ∷ r) ++ r-part) ≡ (f-part ++ map (entry row) l) ++ entry row x ∷ (map (entry row) r ++ r-part)
  regroup l x r = rw (map-append (entry row) l (x ∷ r)) (simp append_assoc)

  regroup-less : (l r : List Live) → f-part ++ (map (entry row) (l ++ r) ++ r-part) ≡ (f-part ++ map (entry row) l) ++ (map (entry row) r ++ r-part)
  regroup-less l r = rw (map-append (entry row) l r) (simp append_assoc)

  entries-whole : entries_of m ≡ a-part ++ entry row s ∷ b-part
  entries-whole = entries-here m g p.name i e ∙ ap (λ (ss : List Live). f-part ++ (map (entry row) ss ++ r-part)) parts.whole ∙ regroup parts.a s parts.b

  touched-as : (t : Bool) → map (touched_in t (p ∷ [])) m.instances ≡ put_at row (touched_in t (p ∷ []) i) m.instances
  touched-as t = touched-one m.keep t p m.instances i (g.names p.name) e

  entries-touched : (t : Bool) → entries_of (touched_by t m (p ∷ [])) ≡ f-part ++ (map (entry row) (live_in (map (touch t i.name (p ∷ [])) i.places)) ++ r-part)
  entries-touched t = ap (entries_from 0) (touched-as t) ∙ entries-put 0 row m.instances (touched_in t (p ∷ []) i) (omega (arith, at-below m g p.name i e))
      ∙ ap (λ (n : ℕ). f-part ++ (map (entry n) (live_in (map (touch t i.name (p ∷ [])) i.places)) ++ r-part)) (zero-add row)

  entries-taken : entries_of (touched_by true m (p ∷ [])) ≡ a-part ++ b-part
  entries-taken = entries-touched true ∙ ap (λ (ss : List Live). f-part ++ (map (entry row) ss ++ r-part)) parts.took ∙ regroup-less parts.a parts.b

  entries-read : entries_of (touched_by false m (p ∷ [])) ≡ a-part ++ entry row (as_read s) ∷ b-part
  entries-read = entries-touched false ∙ ap (λ (ss : List Live). f-part ++ (map (entry row) ss ++ r-part)) parts.read ∙ regroup parts.a (as_read s) parts.b

  slot-once : uses s.slot (a-part ++ entry row s ∷ b-part) ≤ 1
  slot-once = omega (arith, ap (uses s.slot) entries-whole, entry-slots m g s.slot, bit_le (ltb s.slot 256))

  alone : uses s.slot (a-part ++ b-part) ≡ 0
  alone = omega (arith, slot-once, uses-here s.slot a-part b-part (entry row s) refl)

  -- ---- the tables

  pub table_taken : table_of (touched_by true m (p ∷ [])) ≡ set (table_of m) s.slot empty_sample
  unfolding table_of
  table_taken = ap (slots_of sample_of) entries-taken ∙ sym (ap (λ (es : List Entry). set (slots_of sample_of es) s.slot empty_sample) entries-whole ∙ slots-less sample_of a-part b-part (entry row s) alone)

  pub table-read : table_of (touched_by false m (p ∷ [])) ≡ set (table_of m) s.slot (marked_read s.sample)
  unfolding table_of
  table-read = ap (slots_of sample_of) entries-read ∙ sym (ap (λ (es : List Entry). set (slots_of sample_of es) s.slot (marked_read s.sample)) entries-whole
      ∙ slots-swap sample_of a-part b-part (entry row s) alone (entry row (as_read s)) refl)

  taken-slots : {A : Type 0} (f : Option Entry → A) → slots_of f (entries_of (touched_by true m (p ∷ []))) ≡ set (slots_of f (entries_of m)) s.slot (f none)
  taken-slots f = ap (slots_of f) entries-taken ∙ sym (ap (λ (es : List Entry). set (slots_of f es) s.slot (f none)) entries-whole ∙ slots-less f a-part b-part (entry row s) alone)

  read-slots : {A : Type 0} (f : Option Entry → A) → f (some (entry row (as_read s))) ≡ f (some (entry row s)) → slots_of f (entries_of (touched_by false m (p ∷ []))) ≡ slots_of f (entries_of m)
  read-slots f h = ap (slots_of f) entries-read ∙ slots-blind f a-part b-part (entry row (as_read s)) (entry row s) refl h ∙ sym (ap (slots_of f) entries-whole)

  -- ---- the newest

  lives-whole : lives m.instances ≡ lives_in a-part ++ s ∷ lives_in b-part
  lives-whole = sym (lives-of 0 m.instances) ∙ ap lives_in entries-whole ∙ map-append (λ (x : Entry). x.live) a-part (entry row s ∷ b-part)

  lives-taken : lives (touched_by true m (p ∷ [])).instances ≡ lives_in a-part ++ lives_in b-part
  lives-taken = sym (lives-of 0 (touched_by true m (p ∷ [])).instances) ∙ ap lives_in entries-taken ∙ map-append (λ (x : Entry). x.live) a-part b-part

  lives-read : lives (touched_by false m (p ∷ [])).instances ≡ lives_in a-part ++ as_read s ∷ lives_in b-part
  lives-read = sym (lives-of 0 (touched_by false m (p ∷ [])).instances) ∙ ap lives_in entries-read ∙ map-append (λ (x : Entry). x.live) a-part (entry row (as_read s) ∷ b-part)

  newest-less : newest_of m.last (lives (touched_by true m (p ∷ [])).instances) ≡ cond (eqb (newest_of m.last (lives m.instances)) s.slot) 256 (newest_of m.last (lives m.instances))
  newest-less = rw (lives-taken, lives-whole) (newest-taken m.last (lives_in a-part) (lives_in b-part) s
      (omega (arith, ap (count (in_slot s.slot)) lives-whole, g.slots s.slot, bit_le (ltb s.slot 256)))
      (λ k. omega (arith, ap (count (has_key k)) lives-whole, key-once m g k)))

  newest-same : newest_of m.last (lives (touched_by false m (p ∷ [])).instances) ≡ newest_of m.last (lives m.instances)
  newest-same = rw (lives-read, lives-whole) (newest-read m.last (lives_in a-part) (lives_in b-part) s)

  -- ---- the instances

  mine : Placed (entries_of m) (entry row s)
  mine = named-placed m g p.name i e p.key s q

  same_test : Every (λ x. eqb x.key p.key ≡ eqb x.slot s.slot) (live_in i.places)
  same_test = every_map (λ x. Placed (entries_of m) (entry row x) × (x.key ≡ p.key → x ≡ s)) (λ x. eqb x.key p.key ≡ eqb x.slot s.slot) (live_in i.places) one
      (every-both (λ x. Placed (entries_of m) (entry row x)) (λ x. x.key ≡ p.key → x ≡ s) (live_in i.places) (here-placed m g p.name i e) (unique p.key (live_in i.places) s own-once q))
    where
      one : (x : Live) → Placed (entries_of m) (entry row x) × (x.key ≡ p.key → x ≡ s) → eqb x.key p.key ≡ eqb x.slot s.slot
      one x h = split (eqb x.key p.key)
          (λ c. rw (c, eq-eqb x.slot s.slot (ap (λ (y : Live). y.slot) (h.1 (eqb-true x.key p.key c)))))
          (λ c. rw (c, ne_eqb x.slot s.slot (λ r. eqb-false x.key p.key c (twin x h r))))
        where
          twin : (x : Live) → Placed (entries_of m) (entry row x) × (x.key ≡ p.key → x ≡ s) → x.slot ≡ s.slot → x.key ≡ p.key
          twin x h r =
              let o : some (entry row x) ≡ some (entry row s) = sym h.0.1 ∙ ap (λ (k : ℕ). look_up k (entries_of m)) r ∙ mine.1 in
              let w : entry row x ≡ entry row s = cc in
              ap (λ (y : Entry). y.live.key) w ∙ keyed-key p.key (live_in i.places) s q

  cells-taken : cells_of m.keep (map (touch true i.name (p ∷ [])) i.places) ≡ emptied s.slot (cells_of m.keep i.places)
  cells-taken = go m.keep
    where
      go : (k : Option ℕ) → cells_of k (map (touch true i.name (p ∷ [])) i.places) ≡ emptied s.slot (cells_of k i.places)
      go none = none-emptied s.slot
      go (some d) = taken-cells p i.name own i.places s.slot same_test

  cells-read : cells_of m.keep (map (touch false i.name (p ∷ [])) i.places) ≡ cells_of m.keep i.places
  cells-read = go m.keep
    where
      go : (k : Option ℕ) → cells_of k (map (touch false i.name (p ∷ [])) i.places) ≡ cells_of k i.places
      go none = refl
      go (some d) = read-cells p i.name own i.places

  insts-taken : insts m.keep (map (touched_in true (p ∷ [])) m.instances)
      ≡ put_at row (record { name = i.name; meta = i.meta; cells = emptied s.slot (cells_of m.keep i.places) }) (insts m.keep m.instances)
  insts-taken = rw (touched-as true, map-put (inst_of m.keep) m.instances row (touched_in true (p ∷ []) i), cells-taken)

  insts-read : insts m.keep (map (touched_in false (p ∷ [])) m.instances) ≡ insts m.keep m.instances
  insts-read = rw (touched-as false, map-put (inst_of m.keep) m.instances row (touched_in false (p ∷ []) i), cells-read)
      (ap (λ (x : Inst). put_at row x (insts m.keep m.instances)) (sym (inst-here m g p.name i e p.key) ∙ inst-as)
      ∙ put_same (insts m.keep m.instances) row S.no_inst (omega (arith, at-below m g p.name i e, length-map m.instances (inst_of m.keep))))
    where
      inst-as : inst_at (store_of m) row ≡ get_or (insts m.keep m.instances) row S.no_inst
      inst-as = ap (λ (l : List Inst). get_or l row S.no_inst) (insts-of m g)

  -- ---- the store

  freed-as : (x : Inst) → inst_at (store_of m) row ≡ x → freed (store_of m) row s.slot ≡ record {
    keep = m.keep;
    room = m.room;
    last = m.last;
    newest = cond (eqb (newest_of m.last (lives m.instances)) s.slot) 256 (newest_of m.last (lives m.instances));
    insts = put_at row (record { name = x.name; meta = x.meta; cells = emptied s.slot x.cells }) (insts m.keep m.instances);
    free = set (slots_of free_of (entries_of m)) s.slot 1;
    keys = set (slots_of key_of (entries_of m)) s.slot 0;
    owners = set (slots_of owner_of (entries_of m)) s.slot 0;
  }
  unfolding freed store_of
  freed-as x h = rw h

  -- a pair taken frees its slot
  pub store-taken : store_of (touched_by true m (p ∷ [])) ≡ freed (store_of m) row s.slot
  unfolding store_of
  store-taken = rw (newest-less, insts-taken, taken-slots free_of, taken-slots key_of, taken-slots owner_of) (sym (freed-as (inst_of m.keep i) (inst-here m g p.name i e p.key)))

  -- a pair read changes nothing of the store
  pub store-read : store_of (touched_by false m (p ∷ [])) ≡ store_of m
  unfolding store_of
  store-read = rw (newest-same, insts-read, read-slots free_of refl, read-slots key_of refl, read-slots owner_of refl)
