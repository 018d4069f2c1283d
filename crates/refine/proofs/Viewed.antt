-- Reading and taking a list: what each instance gets as its last accessed total, and the whole of both calls on the store and the table.
use Rattle.std.specs.Prelude.{◌≡◌, refl, Bool, true, false, ◌&&◌, ◌||◌, cond, ℕ, zero, suc, ◌≤◌, ◌<◌, max, length, get_or, eqb, ltb}
use Rattle.std.proofs.Common.{sym, ◌∙◌, not-suc-le-zero, le_of_suc-le-suc, arith, eq-eqb, ne_eqb, eqb-true, lt-ltb, le-ltb, ltb-true, ltb-false, get_or-set_other, ext_get_or}
use Rattle.std.proofs.Math.Path.{ap}
use mathlib.Core.List.{List, [], ◌∷◌, map}
use Rattle.std.proofs.Math.Option.{Option, some, none}
use Rattle.std.proofs.lemmas.Bool.{eqb-false}
use Rattle.std.proofs.Math.ListN.{length-map}
use Rattle.lists.specs.Blocks.{put_at, put-set, get-put, length-put-in}
use Rattle.sampleinfo.specs.Counts.{accessed_at}
use Rattle.sampleinfo.specs.Samples.{empty_sample, total_of}
use Rattle.model.specs.Pairs.{Pair, among}
use Rattle.model.specs.Views.{greater}
use Rattle.model.specs.Model.{Model, Instance, Live, find, live_in, lives, count, keyed, is_live, fine, listed_in, shown, listed, access}
use Rattle.model.specs.BadLaws.{all_live}
use Rattle.model.proofs.BadLaws.{fine-live}
use Rattle.model.specs.Story.{lives_of}
use Rattle.model.specs.Demand3.{times_held, has_key}
use Rattle.model.specs.PairLaws.{split}
use Rattle.store.specs.Store.{Inst, Store, place_of, no_inst, slot_named, with_meta, with_accessed}
use Rattle.refine.specs.Layout.{inst_of, entries_from, slots_of, sample_of, store_of, table_of}
use Rattle.refine.specs.Good.{Good}
use Rattle.refine.specs.Entries.{insts, found_at, found_name}
use Rattle.refine.proofs.GoodLaws.{count-find}
use Rattle.refine.proofs.FitOf.{nobody}
use Rattle.refine.proofs.Named.{insts-of, Known, key-once}
use Rattle.refine.proofs.Touch.{touched_in, touched_by}
use Rattle.refine.proofs.Take.{keyed-absent}
use Rattle.refine.proofs.Fold.{and-true, names_of, known_of, store-taken-all, table-taken-all, store-read-all, table-read-all}
use Rattle.refine.specs.Lists.{slots_named, freed_all, cleared_all, marked_all, seen_at, viewed_rows}

-- ---- the greatest total shown, pair by pair

abbrev pub seen_of : Option ℕ → ℕ
seen_of none = 0
seen_of (some t) = accessed_at t

abbrev kept : Live → ℕ
kept s = accessed_at (total_of s.sample)

abbrev kept_or : Option Live → ℕ
kept_or none = 0
kept_or (some s) = kept s

seen-greater : (o : Option ℕ) (t : ℕ) → seen_of (greater o t) ≡ max (seen_of o) (accessed_at t)
seen-greater none t = omega arith
seen-greater (some u) t = omega arith

seen-cons : (n : ℕ) (ps : List Pair) (s : Live) (ss : List Live) → seen_of (shown n ps (s ∷ ss)) ≡ cond (listed_in n ps s) (max (seen_of (shown n ps ss)) (kept s)) (seen_of (shown n ps ss))
unfolding shown
seen-cons n ps s ss = split (listed_in n ps s) (λ q. rw q (seen-greater (shown n ps ss) (total_of s.sample))) (λ q. rw q)

shown-none : (n : ℕ) (ss : List Live) → shown n [] ss ≡ none
unfolding shown among
shown-none n [] = refl
shown-none n (s ∷ ss) = shown-none n ss

-- what one more pair shows of instance n
abbrev shows : Pair → ℕ → List Live → ℕ
shows p n ss = cond (eqb n p.name) (kept_or (keyed p.key ss)) 0

seen-turn : (same own l : Bool) (S S' : ℕ) (s : Live) (K : Option Live) → S' ≡ max S (cond own (kept_or K) 0) → (same ≡ true → K ≡ none)
    → cond ((same && own) || l) (max S' (kept s)) S' ≡ max (cond l (max S (kept s)) S) (cond own (kept_or (cond same (some s) K)) 0)
seen-turn true true true S S' s K e k = let z : kept_or K ≡ 0 = rw (k refl) in omega arith
seen-turn true true false S S' s K e k = let z : kept_or K ≡ 0 = rw (k refl) in omega arith
seen-turn true false true S S' s K e k = omega arith
seen-turn true false false S S' s K e k = omega arith
seen-turn false true true S S' s K e k = omega arith
seen-turn false true false S S' s K e k = omega arith
seen-turn false false true S S' s K e k = omega arith
seen-turn false false false S S' s K e k = omega arith

none_more : (b : Bool) → ◌≡◌ {A = ℕ} 0 (max 0 (cond b 0 0))
none_more true = refl
none_more false = refl

seen_more : (n : ℕ) (p : Pair) (ps : List Pair) (ss : List Live) → count (has_key p.key) ss ≤ 1 → seen_of (shown n (p ∷ ps) ss) ≡ max (seen_of (shown n ps ss)) (shows p n ss)
unfolding count keyed shown among
seen_more n p ps [] h = none_more (eqb n p.name)
seen_more n p ps (s ∷ ss) h =
    seen-cons n (p ∷ ps) s ss
    ∙ seen-turn (eqb s.key p.key) (eqb n p.name) (listed_in n ps s) (seen_of (shown n ps ss)) (seen_of (shown n (p ∷ ps) ss)) s (keyed p.key ss)
    (seen_more n p ps ss (omega arith)) (λ q. keyed-absent p.key ss (omega (arith, rw q at h)))
    ∙ ap (λ (x : ℕ). max x (cond (eqb n p.name) (kept_or (cond (eqb s.key p.key) (some s) (keyed p.key ss))) 0)) (sym (seen-cons n ps s ss))

-- ---- each instance stands at its place

times-at : (is : List Instance) (r : ℕ) (d : Instance) → r < length is → 1 ≤ times_held (get_or is r d).name is
unfolding times_held
times-at [] r d h = absurd (not-suc-le-zero h)
times-at (i ∷ is) zero d h = rw (eq-eqb i.name i.name refl) (omega arith)
times-at (i ∷ is) (suc r) d h = omega (arith, times-at is r d (le_of_suc-le-suc h))

pub in_place : (k : Option ℕ) (is : List Instance) → ((n : ℕ) → times_held n is ≤ 1) → (r : ℕ) → r < length is
    → (find (get_or is r nobody).name is ≡ some (get_or is r nobody)) × (place_of (get_or is r nobody).name (insts k is) ≡ r)
unfolding times_held find place_of
in_place k [] u r h = absurd (not-suc-le-zero h)
in_place k (i ∷ is) u zero h = rw (eq-eqb i.name i.name refl) (refl, refl)
in_place k (i ∷ is) u (suc r) h = split (eqb i.name (get_or is r nobody).name)
    (λ q. absurd (omega (arith, rw q at (u (get_or is r nobody).name), times-at is r nobody (le_of_suc-le-suc h))))
    (λ q. let w : (find (get_or is r nobody).name is ≡ some (get_or is r nobody)) × (place_of (get_or is r nobody).name (insts k is) ≡ r) =
    in_place k is (λ n. omega (arith, u n)) r (le_of_suc-le-suc h) in
    rw q (w.0, ap suc w.1))

-- ---- what the slots show of the instance at a place

module _ (m : Model) (g : Good m) (r : ℕ) (h : r < length m.instances) where
  abbrev j : Instance
  j = get_or m.instances r nobody

  abbrev ss : List Live
  ss = live_in j.places

  here : find j.name m.instances ≡ some j
  here = (in_place m.keep m.instances g.names r h).0

  there : place_of j.name (insts m.keep m.instances) ≡ r
  there = (in_place m.keep m.instances g.names r h).1

  abbrev slot_shows : Pair → ℕ
  slot_shows p = cond (eqb (get_or (store_of m).owners (slot_named (store_of m) p) 0) r) (accessed_at (total_of (get_or (table_of m) (slot_named (store_of m) p) empty_sample))) 0

  shows-is : (p : Pair) → is_live m p ≡ true → slot_shows p ≡ shows p j.name ss
  shows-is p l = rw (k.slot, k.owner, k.sample, insts-of m g) (split (eqb j.name p.name)
      (λ q. rw (q, eq-eqb (place_of p.name (insts m.keep m.instances)) r (ap (λ (x : ℕ). place_of x (insts m.keep m.instances)) (sym (eqb-true j.name p.name q)) ∙ there))
      (sym (ap kept_or (same-keyed (eqb-true j.name p.name q)))))
      (λ q. rw (q, ne_eqb (place_of p.name (insts m.keep m.instances)) r (apart (eqb-false j.name p.name q)))))
    where
      k : Known m g p (names_of m p l).s
      k = known_of m g p (names_of m p l)

      same-keyed : j.name ≡ p.name → keyed p.key ss ≡ some (names_of m p l).s
      same-keyed q =
          let w : some j ≡ some (names_of m p l).i = sym here ∙ ap (λ (x : ℕ). find x m.instances) q ∙ (names_of m p l).found in
          let v : j ≡ (names_of m p l).i = cc in
          ap (λ (x : Instance). keyed p.key (live_in x.places)) v ∙ (names_of m p l).held_by

      apart : (j.name ≡ p.name → ⊥) → place_of p.name (insts m.keep m.instances) ≡ r → ⊥
      apart w q =
          let at_row : get_or m.instances (place_of p.name (insts m.keep m.instances)) nobody ≡ (names_of m p l).i = (found_at m.keep p.name m.instances (names_of m p l).i nobody (names_of m p l).found).1 in
          w (ap (λ (x : ℕ). (get_or m.instances x nobody).name) (sym q) ∙ ap (λ (x : Instance). x.name) at_row ∙ found_name p.name m.instances (names_of m p l).i (names_of m p l).found)

  own_keys : (k : ℕ) → count (has_key k) ss ≤ 1
  own_keys k = omega (arith, ap (λ (o : Option Instance). count (has_key k) (lives_of o)) here, count-find (has_key k) j.name m.instances, key-once m g k)

  pub seen-is : (ps : List Pair) → all_live m ps ≡ true → seen_at (table_of m) (store_of m).owners (slots_named (store_of m) ps) r ≡ seen_of (shown j.name ps ss)
  unfolding seen_at all_live
  seen-is [] l = ap seen_of (sym (shown-none j.name ss))
  seen-is (p ∷ ps) l = rw (seen-is ps (and-true (is_live m p) (all_live m ps) l).1, shows-is p (and-true (is_live m p) (all_live m ps) l).0) (sym (seen_more j.name p ps ss (own_keys p.key)))

-- ---- the instances

abbrev seen_inst : ℕ → Inst → Inst
seen_inst x i = cond (eqb x 0) i (with_meta i (with_accessed i.meta x))

unfoldable viewed_insts : ℕ → (ℕ → ℕ) → List Inst → List Inst
viewed_insts zero f l = l
viewed_insts (suc n) f l = let r : List Inst = viewed_insts n f l in cond (eqb (f n) 0) r (put_at n (with_meta (get_or r n no_inst) (with_accessed (get_or r n no_inst).meta (f n))) r)

abbrev with_insts : Store → List Inst → Store
with_insts s l = record { keep = s.keep; room = s.room; last = s.last; newest = s.newest; insts = l; free = s.free; keys = s.keys; owners = s.owners }

viewed-rows : (n : ℕ) (f : ℕ → ℕ) (s : Store) → viewed_rows n f s ≡ with_insts s (viewed_insts n f s.insts)
unfolding viewed_rows viewed_insts
viewed-rows zero f s = refl
viewed-rows (suc n) f s = rw (viewed-rows n f s) (split (eqb (f n) 0) (λ q. rw q) (λ q. rw q))

length-viewed : (n : ℕ) (f : ℕ → ℕ) (l : List Inst) → n ≤ length l → length (viewed_insts n f l) ≡ length l
unfolding viewed_insts
length-viewed zero f l h = refl
length-viewed (suc n) f l h = split (eqb (f n) 0)
    (λ q. rw q (length-viewed n f l (omega arith)))
    (λ q. rw q (length-put-in (viewed_insts n f l) n _ (omega (arith, length-viewed n f l (omega arith))) ∙ length-viewed n f l (omega arith)))

same-below : (i n : ℕ) → (i ≡ n → ⊥) → ltb i (suc n) ≡ ltb i n
same-below i n h = split (ltb i n)
    (λ q. rw (q, lt-ltb i (suc n) (omega (arith, ltb-true i n q))))
    (λ q. rw (q, le-ltb i (suc n) (more i n (ltb-false i n q) h)))
  where
    more : (i n : ℕ) → n ≤ i → (i ≡ n → ⊥) → suc n ≤ i
    more i n p q = omega arith

-- the turn at row n, on the list so far
turn-here : (n x : ℕ) (r : List Inst) (y : Inst) → n < length r → get_or r n no_inst ≡ y
    → get_or (cond (eqb x 0) r (put_at n (with_meta (get_or r n no_inst) (with_accessed (get_or r n no_inst).meta x)) r)) n no_inst ≡ seen_inst x y
turn-here n x r y h e = split (eqb x 0)
    (λ q. rw q e)
    (λ q. rw q (get-put r n _ no_inst (omega arith) ∙ ap (λ (i : Inst). with_meta i (with_accessed i.meta x)) e))

turn-other : (n x i : ℕ) (r : List Inst) (y : Inst) → n < length r → (i ≡ n → ⊥) → get_or (cond (eqb x 0) r (put_at n y r)) i no_inst ≡ get_or r i no_inst
turn-other n x i r y h e = split (eqb x 0)
    (λ q. rw q)
    (λ q. rw (q, put-set r n y h) (get_or-set_other r n i y no_inst e))

viewed-at : (n : ℕ) (f : ℕ → ℕ) (l : List Inst) → n ≤ length l → (i : ℕ) → get_or (viewed_insts n f l) i no_inst ≡ cond (ltb i n) (seen_inst (f i) (get_or l i no_inst)) (get_or l i no_inst)
unfolding viewed_insts
viewed-at zero f l h i = rw (le-ltb i 0 (omega arith))
viewed-at (suc n) f l h i =
    let long : n < length (viewed_insts n f l) = omega (arith, length-viewed n f l (omega arith)) in
    let before : get_or (viewed_insts n f l) n no_inst ≡ get_or l n no_inst = viewed-at n f l (omega arith) n ∙ rw (le-ltb n n (omega arith)) in
    split (eqb i n)
    (λ q. let e : i ≡ n = eqb-true i n q in
    rw (e, lt-ltb n (suc n) (omega arith)) (turn-here n (f n) (viewed_insts n f l) (get_or l n no_inst) long before))
    (λ q. turn-other n (f n) i (viewed_insts n f l) _ long (eqb-false i n q) ∙ viewed-at n f l (omega arith) i ∙ rw (same-below i n (eqb-false i n q)))

-- ---- the whole call

listed-inst : (k : Option ℕ) (t : Bool) (ps : List Pair) (i : Instance) → inst_of k (listed t ps i) ≡ seen_inst (seen_of (shown i.name ps (live_in i.places))) (inst_of k (touched_in t ps i))
listed-inst k t ps i = go (shown i.name ps (live_in i.places)) refl
  where
    go : (o : Option ℕ) → shown i.name ps (live_in i.places) ≡ o → inst_of k (listed t ps i) ≡ seen_inst (seen_of (shown i.name ps (live_in i.places))) (inst_of k (touched_in t ps i))
    go none e = rw e
    go (some x) e = rw (e, ne_eqb (accessed_at x) 0 (λ z. omega arith))

entries-listed : (n : ℕ) (t : Bool) (ps : List Pair) (is : List Instance) → entries_from n (map (listed t ps) is) ≡ entries_from n (map (touched_in t ps) is)
unfolding entries_from
entries-listed n t ps [] = refl
entries-listed n t ps (i ∷ is) = rw (entries-listed (suc n) t ps is)

lives-listed : (t : Bool) (ps : List Pair) (is : List Instance) → lives (map (listed t ps) is) ≡ lives (map (touched_in t ps) is)
unfolding lives
lives-listed t ps [] = refl
lives-listed t ps (i ∷ is) = rw (lives-listed t ps is)

get-map : {A B : Type 0} (f : A → B) (xs : List A) (i : ℕ) (d : A) (b : B) → i < length xs → get_or (map f xs) i b ≡ f (get_or xs i d)
get-map f [] i d b h = absurd (not-suc-le-zero h)
get-map f (x ∷ xs) zero d b h = refl
get-map f (x ∷ xs) (suc i) d b h = get-map f xs i d b (le_of_suc-le-suc h)

module _ (t : Bool) (m : Model) (g : Good m) (ps : List Pair) (l : all_live m ps ≡ true) where
  abbrev seen : ℕ → ℕ
  seen r = seen_at (table_of m) (store_of m).owners (slots_named (store_of m) ps) r

  abbrev touched : List Inst
  touched = insts m.keep (map (touched_in t ps) m.instances)

  abbrev listed-insts : List Inst
  listed-insts = insts m.keep (map (listed t ps) m.instances)

  length-touched : length touched ≡ length m.instances
  length-touched = length-map (map (touched_in t ps) m.instances) (inst_of m.keep) ∙ length-map m.instances (touched_in t ps)

  length-listed : length listed-insts ≡ length m.instances
  length-listed = length-map (map (listed t ps) m.instances) (inst_of m.keep) ∙ length-map m.instances (listed t ps)

  insts-viewed : listed-insts ≡ viewed_insts (length m.instances) seen touched
  insts-viewed = ext_get_or no_inst listed-insts (viewed_insts (length m.instances) seen touched)
      (omega (arith, length-listed, length-viewed (length m.instances) seen touched (omega (arith, length-touched)), length-touched)) each
    where
      each : (i : ℕ) → i < length listed-insts → get_or listed-insts i no_inst ≡ get_or (viewed_insts (length m.instances) seen touched) i no_inst
      each i h =
          let b : i < length m.instances = omega (arith, length-listed) in
          let c : i < length (map (listed t ps) m.instances) = omega (arith, length-map m.instances (listed t ps)) in
          let d : i < length (map (touched_in t ps) m.instances) = omega (arith, length-map m.instances (touched_in t ps)) in
          get-map (inst_of m.keep) (map (listed t ps) m.instances) i nobody no_inst c
          ∙ ap (inst_of m.keep) (get-map (listed t ps) m.instances i nobody nobody b)
          ∙ listed-inst m.keep t ps (get_or m.instances i nobody)
          ∙ sym (viewed-at (length m.instances) seen touched (omega (arith, length-touched)) i
          ∙ rw (lt-ltb i (length m.instances) b, get-map (inst_of m.keep) (map (touched_in t ps) m.instances) i nobody no_inst d, get-map (touched_in t ps) m.instances i nobody nobody b, seen-is m g i b ps l))

  -- the call's store is that of the touched places, with what was seen of each instance
  pub store-viewed : store_of (access t m ps).then ≡ viewed_rows (length m.instances) seen (store_of (touched_by t m ps))
  unfolding access store_of
  store-viewed = rw (viewed-rows (length m.instances) seen, entries-listed 0 t ps m.instances, lives-listed t ps m.instances, insts-viewed)

  pub table-viewed : table_of (access t m ps).then ≡ table_of (touched_by t m ps)
  unfolding access table_of
  table-viewed = ap (slots_of sample_of) (entries-listed 0 t ps m.instances)

-- ---- take and read

module _ (m : Model) (g : Good m) (ps : List Pair) (ok : fine m ps ≡ true) where
  live : all_live m ps ≡ true
  live = fine-live m ps ok

  abbrev now : Store
  now = store_of m

  abbrev slots : List ℕ
  slots = slots_named (store_of m) ps

  rows : length (store_of m).insts ≡ length m.instances
  unfolding store_of
  rows = length-map m.instances (inst_of m.keep)

  -- "take removes them": each slot is freed, and each instance shown gets what was seen of it
  pub take-store : store_of (access true m ps).then ≡ viewed_rows (length now.insts) (seen_at (table_of m) now.owners slots) (freed_all now slots)
  take-store = store-viewed true m g ps live ∙ rw (store-taken-all m g ps ok, rows)

  -- "a freed slot gets it back"
  pub take-table : table_of (access true m ps).then ≡ cleared_all (table_of m) slots
  take-table = table-viewed true m g ps live ∙ table-taken-all m g ps ok

  -- "Read marks samples Read"
  pub read-store : store_of (access false m ps).then ≡ viewed_rows (length now.insts) (seen_at (table_of m) now.owners slots) now
  read-store = store-viewed false m g ps live ∙ rw (store-read-all m g ps ok, rows)

  pub read_table : table_of (access false m ps).then ≡ marked_all (table_of m) slots
  read_table = table-viewed false m g ps live ∙ table-read-all m g ps ok
