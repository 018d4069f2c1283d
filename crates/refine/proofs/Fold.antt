-- A list taken or read on the model is its slots freed, cleared or marked one after the other.
use Rattle.std.specs.Prelude.{◌≡◌, Bool, true, false, ◌&&◌, ◌||◌, cond, ℕ, get_or, eqb}
use Rattle.std.proofs.Math.Path.{refl}
use Rattle.std.proofs.Common.{sym, ap, ◌∙◌, true≢false, eq-eqb, eqb-true}
use mathlib.Core.List.{List, [], ◌∷◌, map}
use Rattle.std.proofs.Math.Option.{Option, some, none}
use Rattle.std.proofs.lemmas.Bool.{eqb-false}
use Rattle.model.specs.Pairs.{Pair, among, repeats, same_pair}
use Rattle.model.specs.Model.{Model, Instance, Live, Place, gone, held, find, live_in, keyed, named, present, is_live, fine, mark, touch}
use Rattle.model.specs.BadLaws.{all_live}
use Rattle.model.proofs.BadLaws.{fine-is-both, fine-live, fine-once}
use Rattle.model.specs.PairLaws.{split}
use Rattle.store.specs.Store.{slot_named, freed}
use Rattle.refine.specs.Layout.{slot_or_none, store_of, table_of}
use Rattle.refine.specs.Good.{Good}
use Rattle.refine.specs.Entries.{found_name}
use Rattle.refine.proofs.Named.{slot-named, insts-of, Known, known}
use Rattle.refine.proofs.Touch.{touched_in, touched_by, touched_none, touched-more, good-touched, touch-own, touch-other}
use Rattle.refine.proofs.Take.{store-taken, table_taken, store-read, table-read}
use Rattle.refine.specs.Lists.{slots_named, freed_all, cleared_all, marked_all}

-- ---- another pair stays as it was

abbrev map_o : (Instance → Instance) → Option Instance → Option Instance
map_o f none = none
map_o f (some i) = some (f i)

find-touched : (t : Bool) (ps : List Pair) (n : ℕ) (is : List Instance) → find n (map (touched_in t ps) is) ≡ map_o (touched_in t ps) (find n is)
unfolding find
find-touched t ps n [] = refl
find-touched t ps n (i ∷ is) = split (eqb i.name n)
    (λ e. rw e)
    (λ e. rw e (find-touched t ps n is))

keyed-touch : (t : Bool) (n : ℕ) (p : Pair) (k : ℕ) (qs : List Place) → eqb p.key k && eqb p.name n ≡ false → keyed k (live_in (map (touch t n (p ∷ [])) qs)) ≡ keyed k (live_in qs)
unfolding live_in keyed
keyed-touch t n p k [] h = refl
keyed-touch t n p k (gone ∷ qs) h = keyed-touch t n p k qs h
keyed-touch t n p k (held s ∷ qs) h = split (eqb n p.name)
    (λ w. let own : n ≡ p.name = eqb-true n p.name w in rw (touch-own t n p own s) (split (eqb s.key p.key)
    (λ c. rw c (marked t (other own (eqb-true s.key p.key c)) (map (touch t n (p ∷ [])) qs) (keyed-touch t n p k qs h)))
    (λ c. rw (c, keyed-touch t n p k qs h))))
    (λ w. rw (touch-other t n p (eqb-false n p.name w) (held s), keyed-touch t n p k qs h))
  where
    other : n ≡ p.name → s.key ≡ p.key → eqb s.key k ≡ false
    other own c = split (eqb s.key k)
        (λ q. absurd (true≢false (rw (eq-eqb p.key k (sym c ∙ eqb-true s.key k q), eq-eqb p.name n (sym own)) at h)))
        (λ q. q)

    marked : (t : Bool) → eqb s.key k ≡ false → (r : List Place) → keyed k (live_in r) ≡ keyed k (live_in qs) → keyed k (live_in (mark t s ∷ r)) ≡ cond (eqb s.key k) (some s) (keyed k (live_in qs))
    marked true q r e = rw q e
    marked false q r e = rw q e

module _ (t : Bool) (m : Model) (g : Good m) (p : Pair) where
  abbrev next : Model
  next = touched_by t m (p ∷ [])

  pub named-kept : (q : Pair) → same_pair p q ≡ false → named q (find q.name next.instances) ≡ named q (find q.name m.instances)
  named-kept q h = rw (find-touched t (p ∷ []) q.name m.instances) (go (find q.name m.instances) refl)
    where
      go : (o : Option Instance) → find q.name m.instances ≡ o → named q (map_o (touched_in t (p ∷ [])) o) ≡ named q o
      go none e = refl
      go (some i) e = keyed-touch t i.name p q.key i.places (rw (found_name q.name m.instances i e) h)

  pub slot_kept : (q : Pair) → same_pair p q ≡ false → slot_named (store_of next) q ≡ slot_named (store_of m) q
  slot_kept q h = slot-named next (good-touched t m g (p ∷ [])) q ∙ ap slot_or_none (named-kept q h) ∙ sym (slot-named m g q)

  or-false : (a b : Bool) → a || b ≡ false → (a ≡ false) × (b ≡ false)
  or-false true b e = absurd (true≢false e)
  or-false false b e = (refl, e)

  pub slots_kept : (qs : List Pair) → among p qs ≡ false → slots_named (store_of next) qs ≡ slots_named (store_of m) qs
  unfolding among
  slots_kept [] h = refl
  slots_kept (q ∷ qs) h = rw (slot_kept q (or-false (same_pair p q) (among p qs) h).0, slots_kept qs (or-false (same_pair p q) (among p qs) h).1)

  pub live-kept : (qs : List Pair) → among p qs ≡ false → all_live next qs ≡ all_live m qs
  unfolding among all_live
  live-kept [] h = refl
  live-kept (q ∷ qs) h = rw (named-kept q (or-false (same_pair p q) (among p qs) h).0, live-kept qs (or-false (same_pair p q) (among p qs) h).1)

-- ---- a list that is fine

pub and-true : (a b : Bool) → a && b ≡ true → (a ≡ true) × (b ≡ true)
and-true true b e = (refl, e)
and-true false b e = absurd (true≢false (sym e))

either-false : (a b : Bool) → a || b ≡ false → (a ≡ false) × (b ≡ false)
either-false true b e = absurd (true≢false e)
either-false false b e = (refl, e)

-- the first pair is live, it is not named again, and the rest is fine
pub record Fine (m : Model) (p : Pair) (ps : List Pair) : Type 0 where
  pub first : is_live m p ≡ true
  pub once : among p ps ≡ false
  pub rest_live : all_live m ps ≡ true
  pub rest-once : repeats ps ≡ false

pub fine-first : (m : Model) (p : Pair) (ps : List Pair) → fine m (p ∷ ps) ≡ true → Fine m p ps
unfolding all_live repeats
fine-first m p ps h =
    let b : (is_live m p ≡ true) × (all_live m ps ≡ true) = and-true (is_live m p) (all_live m ps) (fine-live m (p ∷ ps) h) in
    let c : (among p ps ≡ false) × (repeats ps ≡ false) = either-false (among p ps) (repeats ps) (fine-once m (p ∷ ps) h) in
    record { first = b.0; once = c.0; rest_live = b.1; rest-once = c.1 }

pub fine-next : (t : Bool) (m : Model) → Good m → (p : Pair) (ps : List Pair) → Fine m p ps → fine (touched_by t m (p ∷ [])) ps ≡ true
fine-next t m g p ps f = fine-is-both (touched_by t m (p ∷ [])) ps ∙ rw (live-kept t m g p ps f.once, f.rest_live, f.rest-once)

-- the sample that a live pair names
pub record Names (m : Model) (p : Pair) : Type 0 where
  pub i : Instance
  pub s : Live
  pub found : find p.name m.instances ≡ some i
  pub held_by : keyed p.key (live_in i.places) ≡ some s

pub names_of : (m : Model) (p : Pair) → is_live m p ≡ true → Names m p
names_of m p h = go (find p.name m.instances) refl h
  where
    go : (o : Option Instance) → find p.name m.instances ≡ o → present (named p o) ≡ true → Names m p
    go none e q = absurd (true≢false (sym q))
    go (some i) e q = on (keyed p.key (live_in i.places)) refl q
      where
        on : (o : Option Live) → keyed p.key (live_in i.places) ≡ o → present o ≡ true → Names m p
        on none f r = absurd (true≢false (sym r))
        on (some s) f r = record { i = i; s = s; found = e; held_by = f }

pub known_of : (m : Model) (g : Good m) (p : Pair) (n : Names m p) → Known m g p n.s
known_of m g p n = known m g p n.s (rw n.found n.held_by)

-- ---- the folds

-- taking frees the slots, one after the other
pub store-taken-all : (m : Model) → Good m → (ps : List Pair) → fine m ps ≡ true → store_of (touched_by true m ps) ≡ freed_all (store_of m) (slots_named (store_of m) ps)
unfolding freed_all
store-taken-all m g [] h = ap store_of (touched_none true m)
store-taken-all m g (p ∷ ps) h =
    let f : Fine m p ps = fine-first m p ps h in
    let n : Names m p = names_of m p f.first in
    let k : Known m g p n.s = known_of m g p n in
    let one : store_of (touched_by true m (p ∷ [])) ≡ freed (store_of m) (get_or (store_of m).owners (slot_named (store_of m) p) 0) (slot_named (store_of m) p) =
    store-taken m g p n.i n.found n.s n.held_by ∙ rw (k.slot, k.owner, insts-of m g) in
    ap store_of (touched-more true m p ps) ∙ store-taken-all (touched_by true m (p ∷ [])) (good-touched true m g (p ∷ [])) ps (fine-next true m g p ps f)
    ∙ rw (slots_kept true m g p ps f.once, one)

-- and their records become the empty one
pub table-taken-all : (m : Model) → Good m → (ps : List Pair) → fine m ps ≡ true → table_of (touched_by true m ps) ≡ cleared_all (table_of m) (slots_named (store_of m) ps)
unfolding cleared_all
table-taken-all m g [] h = ap table_of (touched_none true m)
table-taken-all m g (p ∷ ps) h =
    let f : Fine m p ps = fine-first m p ps h in
    let n : Names m p = names_of m p f.first in
    let k : Known m g p n.s = known_of m g p n in
    ap table_of (touched-more true m p ps) ∙ table-taken-all (touched_by true m (p ∷ [])) (good-touched true m g (p ∷ [])) ps (fine-next true m g p ps f)
    ∙ rw (slots_kept true m g p ps f.once, table_taken m g p n.i n.found n.s n.held_by, k.slot)

-- reading marks the records, and changes nothing of the store but what was accessed
pub store-read-all : (m : Model) → Good m → (ps : List Pair) → fine m ps ≡ true → store_of (touched_by false m ps) ≡ store_of m
store-read-all m g [] h = ap store_of (touched_none false m)
store-read-all m g (p ∷ ps) h =
    let f : Fine m p ps = fine-first m p ps h in
    let n : Names m p = names_of m p f.first in
    ap store_of (touched-more false m p ps) ∙ store-read-all (touched_by false m (p ∷ [])) (good-touched false m g (p ∷ [])) ps (fine-next false m g p ps f)
    ∙ store-read m g p n.i n.found n.s n.held_by

pub table-read-all : (m : Model) → Good m → (ps : List Pair) → fine m ps ≡ true → table_of (touched_by false m ps) ≡ marked_all (table_of m) (slots_named (store_of m) ps)
unfolding marked_all
table-read-all m g [] h = ap table_of (touched_none false m)
table-read-all m g (p ∷ ps) h =
    let f : Fine m p ps = fine-first m p ps h in
    let n : Names m p = names_of m p f.first in
    let k : Known m g p n.s = known_of m g p n in
    ap table_of (touched-more false m p ps) ∙ table-read-all (touched_by false m (p ∷ [])) (good-touched false m g (p ∷ [])) ps (fine-next false m g p ps f)
    ∙ rw (slots_kept false m g p ps f.once, table-read m g p n.i n.found n.s n.held_by, k.slot, k.sample)
