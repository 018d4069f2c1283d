-- The slot that a pair names in the store of a model, and what is in it.
use Rattle.std.specs.Prelude.{◌≡◌, Bool, false, ◌&&◌, not, cond, List, [], ◌∷◌, ◌++◌, map, ℕ, zero, suc, ◌+◌, ◌≤◌, ◌<◌, length, get_or, drop, eqb, ltb}
use Rattle.std.proofs.Math.Path.{refl, ap}
use Rattle.std.proofs.Common.{sym, ◌∙◌, subst, arith, eq-eqb, ne_eqb, eqb-true, lt-ltb, le-ltb}
use Rattle.std.proofs.Math.Option.{Option, some, none}
use Rattle.std.proofs.lemmas.Bool.{eqb-false}
use Rattle.std.proofs.lemmas.List.{length-map}
use Rattle.lists.specs.Every.{Every, every_append, every_map}
use Rattle.slots.specs.Bits.{free_at}
use Rattle.sampleinfo.specs.Samples.{empty_sample}
use Rattle.model.specs.Pairs.{Pair}
use Rattle.model.specs.Model.{Model, Instance, Live, Place, gone, held, find, live_in, lives, count, keyed, named, present, is_live}
use Rattle.model.proofs.Counting.{count-append}
use Rattle.model.proofs.Slots.{reached}
use Rattle.model.specs.Demand3.{has_key}
use Rattle.model.specs.PairLaws.{split}
use Rattle.store.specs.Store.{Inst, Store, place_of, no_inst, cell_keyed, slot_keyed, slot_of_key, slot_named, inst_at}
use Rattle.refine.specs.Layout.{cell_of, inst_of, Entry, entry, entries_of, look_up, slot_or_none, free_of, key_of, owner_of, sample_of, store_of, table_of}
use Rattle.refine.specs.Good.{Good}
use Rattle.refine.specs.Tables.{bit_le, lives_in, slot_at}
use Rattle.refine.specs.Entries.{lives-of, lives-entry, map-append, insts, unknown-at}
use Rattle.refine.proofs.FitOf.{get-inst, nobody}
use Rattle.refine.proofs.Unique.{keyed-skip, keyed-first, keyed-counted, unkeyed, unique, places-below, places-from}
use Rattle.refine.proofs.Found.{every-over, every-under, every-look, look-slot, every-keyed, keyed-key, Placed, at, front, rear, at-below, at-is, entries-here, here-placed}

-- ---- under a keep count: among the instance's cells

pub cell-keyed : (k : ℕ) (keys : List ℕ) (ps : List Place) → Every (λ s. (s.slot < 256) × (get_or keys s.slot 0 ≡ s.key)) (live_in ps)
    → cell_keyed k keys (map cell_of ps) ≡ slot_or_none (keyed k (live_in ps))
unfolding cell_keyed keyed live_in Every
cell-keyed k keys [] h = refl
cell-keyed k keys (gone ∷ ps) h = cell-keyed k keys ps h
cell-keyed k keys (held s ∷ ps) h = rw (lt-ltb s.slot 256 h.0.0, h.0.1)
    (split (eqb s.key k) (λ q. rw q) (λ q. rw q (cell-keyed k keys ps h.1)))

-- ---- with none: among all slots

abbrev hit : ℕ → ℕ → Store → ℕ → Bool
hit key at s k = not (free_at s.free k) && (eqb (get_or s.keys k 0) key && eqb (get_or s.owners k 0) at)

-- a search for the one slot t that is hit
pub slot-search : (n k key at t : ℕ) (s : Store) → ((j : ℕ) → j < k + n → hit key at s j ≡ eqb j t) → k ≤ t → t < k + n → slot_keyed n k key at s ≡ t
unfolding slot_keyed
slot-search zero k key at t s h l r = absurd (omega arith)
slot-search (suc n) k key at t s h l r = rw (h k (omega arith)) (split (eqb k t)
    (λ q. rw q (eqb-true k t q))
    (λ q. rw q (slot-search n (k + 1) key at t s (λ j p. h j (omega arith)) (more k t l (eqb-false k t q)) (omega arith))))
  where
    more : (k t : ℕ) → k ≤ t → (k ≡ t → ⊥) → k + 1 ≤ t
    more k t p q = omega arith

pub slot-none : (n k key at : ℕ) (s : Store) → ((j : ℕ) → j < k + n → hit key at s j ≡ false) → slot_keyed n k key at s ≡ k + n
unfolding slot_keyed
slot-none zero k key at s h = omega arith
slot-none (suc n) k key at s h = rw (h k (omega arith)) (slot-none n (k + 1) key at s (λ j p. h j (omega arith)) ∙ omega arith)

-- ---- in the store of a model

abbrev hit_in : ℕ → ℕ → Option Entry → Bool
hit_in key row none = false
hit_in key row (some e) = eqb e.live.key key && eqb e.at row

hit-is : (key row : ℕ) (o : Option Entry) → not (eqb (free_of o) 1) && (eqb (key_of o) key && eqb (owner_of o) row) ≡ hit_in key row o
hit-is key row none = refl
hit-is key row (some e) = refl

module _ (m : Model) (g : Good m) where
  pub free-at : (k : ℕ) → k < 256 → get_or (store_of m).free k 0 ≡ free_of (look_up k (entries_of m))
  unfolding store_of
  free-at k h = slot_at free_of 0 (entries_of m) k h

  pub key-at : (k : ℕ) → k < 256 → get_or (store_of m).keys k 0 ≡ key_of (look_up k (entries_of m))
  unfolding store_of
  key-at k h = slot_at key_of 0 (entries_of m) k h

  pub owner_at : (k : ℕ) → k < 256 → get_or (store_of m).owners k 0 ≡ owner_of (look_up k (entries_of m))
  unfolding store_of
  owner_at k h = slot_at owner_of 0 (entries_of m) k h

  pub record-at : (k : ℕ) → k < 256 → get_or (table_of m) k empty_sample ≡ sample_of (look_up k (entries_of m))
  unfolding table_of
  record-at k h = slot_at sample_of empty_sample (entries_of m) k h

  hits-are : (key at k : ℕ) → k < 256 → hit key at (store_of m) k ≡ hit_in key at (look_up k (entries_of m))
  hits-are key at k h = rw (free-at k h, key-at k h, owner_at k h) (hit-is key at (look_up k (entries_of m)))

  pub key-once : (k : ℕ) → count (has_key k) (lives m.instances) ≤ 1
  key-once k = omega (arith, g.keys k, bit_le (reached m.last k))

  module _ (n : ℕ) (i : Instance) (e : find n m.instances ≡ some i) (key : ℕ) where
    abbrev row : ℕ
    row = place_of n (insts m.keep m.instances)

    abbrev ss : List Live
    ss = live_in i.places

    pub lives-parts : lives m.instances ≡ lives_in (front m g n i e) ++ (ss ++ lives_in (rear m g n i e))
    lives-parts = sym (lives-of 0 m.instances) ∙ ap lives_in (entries-here m g n i e)
        ∙ map-append (λ (x : Entry). x.live) (front m g n i e) (map (entry row) ss ++ rear m g n i e)
        ∙ ap (λ (r : List Live). lives_in (front m g n i e) ++ r) (map-append (λ (x : Entry). x.live) (map (entry row) ss) (rear m g n i e)
        ∙ ap (λ (r : List Live). r ++ lives_in (rear m g n i e)) (lives-entry row ss))

    -- a key of the instance's is the key of no other
    pub keyed-all : (s : Live) → keyed key ss ≡ some s → keyed key (lives m.instances) ≡ some s
    keyed-all s q = rw lives-parts (keyed-skip key (lives_in (front m g n i e)) (ss ++ lives_in (rear m g n i e)) before-none ∙ keyed-first key ss (lives_in (rear m g n i e)) s q)
      where
        before-none : count (has_key key) (lives_in (front m g n i e)) ≡ 0
        before-none = omega (
          arith,
          key-once key,
          ap (count (has_key key)) lives-parts,
          count-append (has_key key) (lives_in (front m g n i e)) (ss ++ lives_in (rear m g n i e)),
          count-append (has_key key) ss (lives_in (rear m g n i e)),
          keyed-counted key ss s q,
        )

    only : (s : Live) → keyed key ss ≡ some s → Every (λ x. x.live.key ≡ key → x.live ≡ s) (entries_of m)
    only s q = every-under (λ x. x.key ≡ key → x ≡ s) (λ (x : Entry). x.live) (entries_of m)
        (subst (λ (l : List Live). Every (λ x. x.key ≡ key → x ≡ s) l) (sym (lives-of 0 m.instances)) (unique key (lives m.instances) s (key-once key) (keyed-all s q)))

    nobody-has : keyed key ss ≡ none → Every (λ x. x.live.key ≡ key → x.at ≡ row → ⊥) (entries_of m)
    nobody-has q = subst (λ (l : List Entry). Every Not l) (sym (entries-here m g n i e))
        (every_append Not (front m g n i e) (map (entry row) ss ++ rear m g n i e)
        (every_map (λ x. x.at < 0 + row) Not (front m g n i e) (λ x h p r. omega arith) (places-below 0 row m.instances))
        (every_append Not (map (entry row) ss) (rear m g n i e)
        (every-over Not (entry row) ss (every_map (λ x. x.key ≡ key → ⊥) (λ x. x.key ≡ key → row ≡ row → ⊥) ss (λ x h p r. h p) (unkeyed key ss q)))
        (every_map (λ x. suc (0 + row) ≤ x.at) Not (rear m g n i e) (λ x h p r. omega arith) (places-from (suc (0 + row)) (drop (suc row) m.instances)))))
      where
        Not : Entry → Type 0
        Not x = x.live.key ≡ key → x.at ≡ row → ⊥

    pub named-placed : (s : Live) → keyed key ss ≡ some s → Placed (entries_of m) (entry row s)
    named-placed s q = every-keyed (λ x. Placed (entries_of m) (entry row x)) key ss s (here-placed m g n i e) q

    hit-there : (s : Live) → keyed key ss ≡ some s → (k : ℕ) → hit_in key row (look_up k (entries_of m)) ≡ eqb k s.slot
    hit-there s q k = split (eqb k s.slot)
        (λ p. rw (p, eqb-true k s.slot p, (named-placed s q).1, eq-eqb s.key key (keyed-key key ss s q), eq-eqb row row refl))
        (λ p. rw p (go (look_up k (entries_of m)) refl (eqb-false k s.slot p)))
      where
        go : (o : Option Entry) → look_up k (entries_of m) ≡ o → (k ≡ s.slot → ⊥) → hit_in key row o ≡ false
        go none f w = refl
        go (some x) f w =
            let other : (x.live.key ≡ key → ⊥) = λ r. w (sym (look-slot k (entries_of m) x f)
            ∙ ap (λ (y : Live). y.slot) (every-look (λ y. y.live.key ≡ key → y.live ≡ s) k (entries_of m) x (only s q) f r)) in
            rw (ne_eqb x.live.key key other)

    hit-nowhere : keyed key ss ≡ none → (k : ℕ) → hit_in key row (look_up k (entries_of m)) ≡ false
    hit-nowhere q k = go (look_up k (entries_of m)) refl
      where
        go : (o : Option Entry) → look_up k (entries_of m) ≡ o → hit_in key row o ≡ false
        go none f = refl
        go (some x) f = split (eqb x.live.key key)
            (λ p. split (eqb x.at row)
            (λ r. absurd (every-look (λ y. y.live.key ≡ key → y.at ≡ row → ⊥) k (entries_of m) x (nobody-has q) f (eqb-true x.live.key key p) (eqb-true x.at row r)))
            (λ r. rw (p, r)))
            (λ p. rw p)

    all_slots : slot_keyed 256 0 key row (store_of m) ≡ slot_or_none (keyed key ss)
    all_slots = go (keyed key ss) refl
      where
        go : (o : Option Live) → keyed key ss ≡ o → slot_keyed 256 0 key row (store_of m) ≡ slot_or_none o
        go none q = slot-none 256 0 key row (store_of m) (λ j h. hits-are key row j (omega arith) ∙ hit-nowhere q j)
        go (some s) q = slot-search 256 0 key row s.slot (store_of m) (λ j h. hits-are key row j (omega arith) ∙ hit-there s q j) (omega arith) (omega (arith, (named-placed s q).0))

    cells-keyed : Every (λ s. (s.slot < 256) × (get_or (store_of m).keys s.slot 0 ≡ s.key)) ss
    cells-keyed = every_map (λ s. Placed (entries_of m) (entry row s)) (λ s. (s.slot < 256) × (get_or (store_of m).keys s.slot 0 ≡ s.key)) ss
        (λ s h. (h.0, key-at s.slot h.0 ∙ ap key_of h.1)) (here-placed m g n i e)

    pub inst-here : inst_at (store_of m) row ≡ inst_of m.keep i
    unfolding store_of
    inst-here = get-inst m.keep m.instances row no_inst nobody (at-below m g n i e) ∙ ap (inst_of m.keep) (at-is m g n i e)

    slot-for : slot_of_key m.keep (store_of m) row key ≡ slot_or_none (keyed key ss)
    slot-for = go m.keep refl
      where
        go : (k : Option ℕ) → m.keep ≡ k → slot_of_key k (store_of m) row key ≡ slot_or_none (keyed key ss)
        go none q = all_slots
        go (some d) q =
            let c : (inst_at (store_of m) row).cells ≡ map cell_of i.places = ap (λ (x : Inst). x.cells) inst-here ∙ rw q in
            rw c (cell-keyed key (store_of m).keys i.places cells-keyed)

  -- ---- the slot that a pair names: that of the live sample, 256 where there is none

  keep-of : (store_of m).keep ≡ m.keep
  unfolding store_of
  keep-of = refl

  named-as : (p : Pair) → slot_named (store_of m) p ≡ cond (ltb (place_of p.name (insts m.keep m.instances)) (length m.instances))
      (slot_of_key m.keep (store_of m) (place_of p.name (insts m.keep m.instances)) p.key) 256
  unfolding slot_named store_of
  named-as p = rw (length-map m.instances (inst_of m.keep))

  pub slot-named : (p : Pair) → slot_named (store_of m) p ≡ slot_or_none (named p (find p.name m.instances))
  slot-named p = named-as p ∙ go (find p.name m.instances) refl
    where
      go : (o : Option Instance) → find p.name m.instances ≡ o
          → cond (ltb (place_of p.name (insts m.keep m.instances)) (length m.instances)) (slot_of_key m.keep (store_of m) (place_of p.name (insts m.keep m.instances)) p.key) 256
          ≡ slot_or_none (named p o)
      go none f = rw (le-ltb (place_of p.name (insts m.keep m.instances)) (length m.instances) (omega (arith, unknown-at m.keep p.name m.instances f)))
      go (some i) f = rw (lt-ltb (place_of p.name (insts m.keep m.instances)) (length m.instances) (at-below m g p.name i f)) (slot-for p.name i f p.key)

  -- what the store and the table hold of the live sample that a pair names
  pub record Known (p : Pair) (s : Live) : Type 0 where
    pub slot : slot_named (store_of m) p ≡ s.slot
    pub below : s.slot < 256
    pub taken : get_or (store_of m).free s.slot 0 ≡ 0
    pub key : get_or (store_of m).keys s.slot 0 ≡ p.key
    pub owner : get_or (store_of m).owners s.slot 0 ≡ place_of p.name (store_of m).insts
    pub sample : get_or (table_of m) s.slot empty_sample ≡ s.sample

  pub insts-of : (store_of m).insts ≡ insts m.keep m.instances
  unfolding store_of
  insts-of = refl

  pub known : (p : Pair) (s : Live) → named p (find p.name m.instances) ≡ some s → Known p s
  known p s e = go (find p.name m.instances) refl e
    where
      go : (o : Option Instance) → find p.name m.instances ≡ o → named p o ≡ some s → Known p s
      go none f q = let z : ◌≡◌ {A = ℕ} 0 1 = cc in absurd (omega arith)
      go (some i) f q =
          let placed : Placed (entries_of m) (entry (place_of p.name (insts m.keep m.instances)) s) = named-placed p.name i f p.key s q in
          record {
            slot = slot-named p ∙ ap slot_or_none e;
            below = placed.0;
            taken = free-at s.slot placed.0 ∙ ap free_of placed.1;
            key = key-at s.slot placed.0 ∙ ap key_of placed.1 ∙ keyed-key p.key (live_in i.places) s q;
            owner = owner_at s.slot placed.0 ∙ ap owner_of placed.1 ∙ ap (place_of p.name) (sym insts-of);
            sample = record-at s.slot placed.0 ∙ ap sample_of placed.1;
          }

  -- a pair is live exactly if its slot is one of the 256
  pub live-is : (p : Pair) → is_live m p ≡ ltb (slot_named (store_of m) p) 256
  live-is p = rw (slot-named p) (go (named p (find p.name m.instances)) refl)
    where
      go : (o : Option Live) → named p (find p.name m.instances) ≡ o → present o ≡ ltb (slot_or_none o) 256
      go none e = refl
      go (some s) e = sym (lt-ltb s.slot 256 (known p s e).below)
