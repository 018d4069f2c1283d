-- An add on the store of a model is the add on the model.
use Rattle.std.specs.Prelude.{Some, None, ◌≡◌, Bool, true, ◌&&◌, cond, ℕ, zero, suc, ◌+◌, ◌≤◌, ◌<◌, length, get_or, set, ltb, leb, eqb}
use Rattle.std.proofs.Math.Path.{refl, sym, ap}
use Rattle.std.proofs.Common.{◌∙◌, add-one, lt-ltb, le-ltb, ltb-true, ltb-false, leb-true, eq-eqb, ne_eqb}
use Rattle.std.proofs.Math.Bool.{false}
use mathlib.Core.List.{List, [], ◌∷◌, ◌++◌, map}
use Rattle.std.proofs.Math.Option.{Option, some, none}
use Rattle.std.proofs.Math.Nat.{zero-add}
use native.Mathlib.Omega.{arith}
use Rattle.std.proofs.Math.ListN.{length-map, get_or-map}
use Rattle.lists.specs.Blocks.{put_at, map-put}
use Rattle.slots.specs.Bits.{first_one}
use Rattle.sampleinfo.specs.Lifecycle.{counts_of, is_last, lifecycle_of}
use Rattle.sampleinfo.specs.Samples.{empty_sample}
use Rattle.keys.specs.Keys as K
use Rattle.keys.specs.Keys.{Issued}
use Rattle.model.specs.Model.{Model, Instance, Live, Arrival, Place, gone, held, find, is_new, unkept, no_key, key_in, keyed, issue_of, state_in, well_formed, lives, live_in, live_of, push, pushed_out, old_of, or_fresh, refusal_of, arrived, roomy, slot_of, lowest_from, accept, adding, count, in_slot}
use Rattle.model.proofs.Slots.{lowest-below, lowest-free, not-reached}
use Rattle.model.proofs.Counting.{roomy-count, new, count-true, count-append, window-live}
use Rattle.model.specs.Demand3.{has_key}
use Rattle.model.specs.PairLaws.{split}
use Rattle.store.specs.Store as S
use Rattle.store.specs.Store.{Inst, place_of, fresh_inst, declined, moved_on}
use Rattle.refine.specs.Layout.{cells_of, inst_of, Entry, entry, entries_from, entries_of, look_up, tab_from, slots_of, slot_or_none, free_of, key_of, owner_of, sample_of, newest_of, store_of, table_of}
use Rattle.refine.specs.Good.{Good}
use Rattle.refine.specs.Tables.{bit_le, lives_in, uses, uses-append, uses-here, look-here, slot_at}
use Rattle.refine.specs.Entries.{map-append, lives-of, before, behind, among, entries-put, entries_at, insts, put_is, find-is, new_is, name-is, place-le}
use Rattle.refine.specs.Counting.{roomy-all, short-of}
use Rattle.refine.specs.Accepted.{key-new, pushable, roomy-short, slot-free}
use Rattle.refine.proofs.GoodLaws.{bit-one}
use Rattle.refine.proofs.Window.{out_of, stay_in, live-old, live-gone, live-held, out-cell, fresh_cells, push-cells, out-handle, handle_in, roomed, beforehand, afterwards, after-as, roomed-as, slots-out, slots-moved}
use Rattle.refine.specs.Answers.{wanted_of, out_slot, meta_after, record_for, said_of, step_of, evicted, answer_of}

-- ---- the lowest free slot

free-bit : (k : ℕ) (es : List Entry) → free_of (look_up k es) ≡ cond (eqb (uses k es) 0) 1 0
unfolding look_up count
free-bit k [] = refl
free-bit k (e ∷ es) = split (eqb e.live.slot k)
    (λ q. rw (q, ne_eqb (1 + uses k es) 0 (λ z. omega arith)))
    (λ q. rw (q, zero-add (uses k es)) (free-bit k es))

pub lowest-is : (n k : ℕ) (es : List Entry) → lowest_from n k (lives_in es) ≡ k + first_one (tab_from n k (λ j. free_of (look_up j es)))
unfolding lowest_from first_one tab_from
lowest-is zero k es = omega arith
lowest-is (suc n) k es =
    let e : lowest_from n (k + 1) (lives_in es) ≡ k + 1 + first_one (tab_from n (suc k) (λ j. free_of (look_up j es))) =
    lowest-is n (k + 1) es ∙ ap (λ (x : ℕ). k + 1 + first_one (tab_from n x (λ j. free_of (look_up j es)))) (add-one k) in
    rw (free-bit k es) (split (eqb (uses k es) 0) (λ q. rw q (omega arith)) (λ q. rw q (omega arith)))

-- ---- the last key's sample

pub keyed-here : (k : ℕ) (a b : List Live) (s : Live) → count (has_key k) a ≡ 0 → s.key ≡ k → keyed k (a ++ s ∷ b) ≡ some s
unfolding keyed count
keyed-here k [] b s z e = rw (eq-eqb s.key k e)
keyed-here k (x ∷ a) b s z e = split (eqb x.key k)
    (λ q. absurd (omega (arith, rw q at z)))
    (λ q. rw q (keyed-here k a b s (omega (arith, rw q at z)) e))

-- ---- the live samples before, with room made, and after

module _ (m : Model) (g : Good m) (a : Arrival) where
  abbrev is : List Instance
  is = m.instances

  abbrev at : ℕ
  at = place_of a.name (insts m.keep m.instances)

  abbrev new-one : Instance
  new-one = or_fresh m.keep a.name (state_in a) none

  abbrev a-part : List Entry
  a-part = before 0 at m.instances

  abbrev b-part : List Entry
  b-part = behind 0 at m.instances

  abbrev out : Option Live
  out = out_of m.keep (old_of m a).places

  abbrev stay : List Live
  stay = stay_in m.keep (old_of m a).places

  old-at : old_of m a ≡ get_or m.instances at new-one
  unfolding old_of
  old-at = find-is m.keep a.name (state_in a) m.instances

  old-name : (old_of m a).name ≡ a.name
  unfolding old_of
  old-name = name-is m.keep a.name (state_in a) m.instances

  at-le : at ≤ length m.instances
  at-le = place-le m.keep a.name m.instances

  among-zero : (ss : List Live) → among 0 at m.instances ss ≡ a-part ++ (map (entry at) ss ++ b-part)
  among-zero ss = ap (λ (n : ℕ). a-part ++ (map (entry n) ss ++ b-part)) (zero-add at)

  entries-old : entries_of m ≡ beforehand a-part b-part at stay out
  entries-old = entries_at 0 at m.instances new-one (window-live m.keep) at-le ∙ among-zero (live_in (get_or m.instances at new-one).places)
      ∙ ap (λ (ss : List Live). a-part ++ (map (entry at) ss ++ b-part)) (ap (λ (i : Instance). live_in i.places) (sym old-at) ∙ live-old m.keep (old_of m a).places)

  new-as : (x : Place) → new m a x ≡ put_at at (arrived m.keep (old_of m a) a x) m.instances
  unfolding arrived
  new-as x = put_is m.keep (arrived m.keep (old_of m a) a x) m.instances

  entries-new : (x : Place) → entries_from 0 (new m a x) ≡ a-part ++ (map (entry at) (live_in (push m.keep (old_of m a).places x)) ++ b-part)
  unfolding arrived
  entries-new x = ap (entries_from 0) (new-as x) ∙ entries-put 0 at m.instances (arrived m.keep (old_of m a) a x) at-le ∙ among-zero (live_in (push m.keep (old_of m a).places x))

  entries-roomy : entries_from 0 (roomy m a) ≡ roomed a-part b-part at stay
  unfolding roomy
  entries-roomy = entries-new gone ∙ ap (λ (ss : List Live). a-part ++ (map (entry at) ss ++ b-part)) (live-gone m.keep (old_of m a).places)

  entries-held : (s : Live) → entries_from 0 (new m a (held s)) ≡ afterwards a-part b-part at stay s
  entries-held s = entries-new (held s) ∙ ap (λ (ss : List Live). a-part ++ (map (entry at) ss ++ b-part)) (live-held m.keep (old_of m a).places s (pushable m g a))

  once : (k : ℕ) → uses k (beforehand a-part b-part at stay out) ≤ 1
  once k = omega (arith, ap (uses k) entries-old, ap (count (in_slot k)) (lives-of 0 m.instances), g.slots k, bit_le (ltb k 256))

  roomy-uses : (k : ℕ) → uses k (roomed a-part b-part at stay) ≡ count (in_slot k) (lives (roomy m a))
  roomy-uses k = sym (ap (uses k) entries-roomy) ∙ ap (count (in_slot k)) (lives-of 0 (roomy m a))

  -- ---- the tables

  tables-moved : {A : Type 0} (f : Option Entry → A) (s : Live) → count (in_slot s.slot) (lives (roomy m a)) ≡ 0
      → set (set (slots_of f (entries_of m)) (out_slot m a) (f none)) s.slot (f (some (entry at s))) ≡ slots_of f (entries_from 0 (new m a (held s)))
  tables-moved f s z =
      rw (entries-old, entries-held s, out-cell m.keep (old_of m a).places) (slots-moved a-part b-part at stay f out s once (roomy-uses s.slot ∙ z))

  free-roomy : set (slots_of free_of (entries_of m)) (out_slot m a) 1 ≡ slots_of free_of (entries_from 0 (roomy m a))
  free-roomy = rw (entries-old, entries-roomy, out-cell m.keep (old_of m a).places) (slots-out a-part b-part at stay free_of out once)

  slot_is : first_one (set (slots_of free_of (entries_of m)) (out_slot m a) 1) ≡ slot_of m a
  unfolding slot_of slots_of
  slot_is = ap first_one free-roomy ∙ sym (ap (lowest_from 256 0) (sym (lives-of 0 (roomy m a))) ∙ lowest-is 256 0 (entries_from 0 (roomy m a)) ∙ zero-add _)

  -- ---- the instances

  inst-old : get_or (insts m.keep m.instances) at (fresh_inst m.keep a.name (state_in a)) ≡ inst_of m.keep (old_of m a)
  inst-old =
      ap (λ (cs : List ℕ). get_or (insts m.keep m.instances) at (record { name = a.name; meta = new-one.meta; cells = cs })) (sym (fresh_cells m.keep))
      ∙ get_or-map (inst_of m.keep) m.instances at new-one ∙ ap (inst_of m.keep) (sym old-at)

  insts-done : (s : Live) → put_at at (record { name = (old_of m a).name; meta = meta_after m a; cells = moved_on m.keep (cells_of m.keep (old_of m a).places) s.slot }) (insts m.keep m.instances) ≡ insts m.keep (new m a (held s))
  unfolding arrived
  insts-done s = rw (old-name, new-as (held s), map-put (inst_of m.keep) m.instances at (arrived m.keep (old_of m a) a (held s)), push-cells m.keep (old_of m a).places s)

  -- ---- the whole store

  abbrev key : ℕ
  key = key_in (issue_of m a)

  abbrev mine : Live
  mine = live_of a (meta_after m a) key (slot_of m a)

  module _ (k-new : no_key (issue_of m a) ≡ false) (z : count (in_slot (slot_of m a)) (lives (roomy m a)) ≡ 0) where
    no-such-key : count (has_key key) (lives (roomy m a)) ≡ 0
    no-such-key = omega (arith, roomy-count m a (has_key key), g.keys key, not-reached m.last key (key-new m a k-new))

    newest-done : newest_of (Some key) (lives (new m a (held mine))) ≡ slot_of m a
    newest-done = ap slot_or_none (ap (keyed key) (sym (lives-of 0 (new m a (held mine))) ∙ ap lives_in (entries-held mine ∙ after-as a-part b-part at stay mine) ∙ map-append (λ (e : Entry). e.live) (a-part ++ map (entry at) stay) (entry at mine ∷ b-part))
        ∙ keyed-here key (lives_in (a-part ++ map (entry at) stay)) (lives_in b-part) mine none_before refl)
      where
        none_before : count (has_key key) (lives_in (a-part ++ map (entry at) stay)) ≡ 0
        none_before = omega (
          arith,
          ap (count (has_key key)) (sym (map-append (λ (e : Entry). e.live) (a-part ++ map (entry at) stay) b-part)),
          count-append (has_key key) (lives_in (a-part ++ map (entry at) stay)) (lives_in b-part),
          ap (λ (es : List Entry). count (has_key key) (lives_in es)) (sym (entries-roomy ∙ roomed-as a-part b-part at stay)),
          ap (count (has_key key)) (lives-of 0 (roomy m a)),
          no-such-key,
        )

    filling-is : S.filling (store_of m) at (S.with_meta (inst_of m.keep (old_of m a)) (meta_after m a)) key (out_slot m a) (slot_of m a)
        ≡ record { said = S.added key (slot_of m a) (out_slot m a) (counts_of (meta_after m a)); then = store_of (accept m a).then }
    unfolding store_of S.filling accept
    filling-is = rw (insts-done mine, tables-moved free_of mine z, tables-moved key_of mine z, tables-moved owner_of mine z, newest-done)

  -- ---- the decision

  abbrev four : Bool
  four = is_new (find a.name m.instances) && leb m.room (length m.instances)

  abbrev seven : Bool
  seven = is_last (old_of m a).meta (state_in a)

  abbrev five : Bool
  five = unkept m.keep && leb 256 (length (lives m.instances))

  abbrev done : S.Step
  done = record { said = S.added key (slot_of m a) (out_slot m a) (counts_of (meta_after m a)); then = store_of (accept m a).then }

  abbrev pick : ℕ → S.Step
  pick n = cond (eqb n 0) done (declined n (store_of m))

  -- with no keep count, all slots are in use exactly if 256 samples are live
  short : m.keep ≡ none → slot_of m a < 256 → length (lives m.instances) < 256
  unfolding slot_of
  short q l = omega (
    arith,
    count-true (lives m.instances),
    count-true (lives (roomy m a)),
    roomy-all m a (λ s. true) q,
    short-of 256 (lives (roomy m a)) (λ j. omega (arith, roomy-count m a (in_slot j), g.slots j)) l,
  )

  full : five ≡ true → 256 ≤ slot_of m a
  full e = go m.keep refl e
    where
      go : (k : Option ℕ) → m.keep ≡ k → unkept k && leb 256 (length (lives m.instances)) ≡ true → 256 ≤ slot_of m a
      go (some d) q f = let w : ◌≡◌ {A = ℕ} 0 1 = cc in absurd (omega arith)
      go none q f = split (ltb (slot_of m a) 256)
          (λ l. absurd (omega (arith, leb-true 256 (length (lives m.instances)) f, short q (ltb-true (slot_of m a) 256 l))))
          (λ l. ltb-false (slot_of m a) 256 l)

  some_left : four ≡ false → five ≡ false → slot_of m a < 256
  unfolding slot_of
  some_left f v = lowest-below 256 (lives (roomy m a)) (roomy-short m g a f v)

  left-free : slot_of m a < 256 → count (in_slot (slot_of m a)) (lives (roomy m a)) ≡ 0
  unfolding slot_of
  left-free l = lowest-free 256 0 (lives (roomy m a)) (omega arith)

  slot-found : first_one (set (store_of m).free (out_slot m a) 1) ≡ slot_of m a
  unfolding store_of
  slot-found = slot_is

  keep-of : (store_of m).keep ≡ m.keep
  unfolding store_of
  keep-of = refl

  abbrev changed : Inst
  changed = S.with_meta (inst_of m.keep (old_of m a)) (meta_after m a)

  placing-as : S.placing (store_of m) at changed key
      ≡ cond (ltb (slot_of m a) 256) (S.filling (store_of m) at changed key (out_slot m a) (slot_of m a)) (declined 5 (store_of m))
  unfolding S.placing
  placing-as = rw (keep-of, slot-found)

  placing-is : no_key (issue_of m a) ≡ false → four ≡ false → S.placing (store_of m) at changed key ≡ pick (cond five 5 0)
  placing-is k f = placing-as ∙ split five
      (λ v. rw (v, le-ltb (slot_of m a) 256 (full v)))
      (λ v. rw (v, lt-ltb (slot_of m a) 256 (some_left f v)) (filling-is k (left-free (some_left f v))))

  last_of : (store_of m).last ≡ m.last
  unfolding store_of
  last_of = refl

  keying-as : (k : ℕ) → S.keying (store_of m) (wanted_of a) k ≡ cond four (declined 4 (store_of m)) (cond seven (declined 7 (store_of m)) (S.placing (store_of m) at changed k))
  unfolding S.keying store_of lifecycle_of
  keying-as k = rw (inst-old, length-map m.instances (inst_of m.keep), ← (new_is m.keep a.name m.instances))
      (split seven (λ q. rw q) (λ q. rw q))

  keying-is : no_key (issue_of m a) ≡ false → S.keying (store_of m) (wanted_of a) key ≡ pick (cond four 4 (cond seven 7 (cond five 5 0)))
  keying-is k = keying-as key ∙ split four
      (λ f. rw f)
      (λ f. split seven (λ q. rw (f, q)) (λ q. rw (f, q) (placing-is k f)))

  step-as : step_of m a ≡ pick (refusal_of m a)
  unfolding adding
  step-as = split (eqb (refusal_of m a) 0) (λ q. rw q) (λ q. rw q)

  -- the add on numbers says and leaves what the model does
  pub adding-is : well_formed a ≡ true → S.adding (store_of m) (wanted_of a) ≡ step_of m a
  unfolding S.adding refusal_of
  adding-is w = ap (λ l. S.issuing (store_of m) (wanted_of a) (K.key_of l a.time)) last_of ∙ go (issue_of m a) refl ∙ sym (step-as ∙ rw w)
    where
      go : (x : Issued) → issue_of m a ≡ x → S.issuing (store_of m) (wanted_of a) x ≡ pick (cond (no_key (issue_of m a)) 6 (cond four 4 (cond seven 7 (cond five 5 0))))
      go None e = rw e
      go (Some k) e =
          let p : no_key (issue_of m a) ≡ false = rw e in
          let q : key_in (issue_of m a) ≡ k = rw e in
          rw (p, ← q) (keying-is p)

  -- ---- the table

  table-moved : count (in_slot (slot_of m a)) (lives (roomy m a)) ≡ 0 → table_of (accept m a).then ≡ set (set (table_of m) (out_slot m a) empty_sample) (slot_of m a) (record_for m a)
  unfolding table_of accept
  table-moved z = sym (tables-moved sample_of mine z)

  -- an accepted add empties the slot pushed out and fills the one given
  pub table_is : refusal_of m a ≡ 0 → table_of (adding m a).then ≡ set (set (table_of m) (out_slot m a) empty_sample) (slot_of m a) (record_for m a)
  unfolding adding
  table_is e = rw (eq-eqb (refusal_of m a) 0 e) (table-moved (slot-free m g a e))

  -- a refused one changes nothing
  pub refused-same : (n : ℕ) → refusal_of m a ≡ suc n → (adding m a).then ≡ m
  unfolding adding
  refused-same n e = rw (ne_eqb (refusal_of m a) 0 (λ z. omega arith))

  out-found : (x : Live) → out ≡ some x → (x.slot < 256) × (look_up x.slot (entries_of m) ≡ some (entry at x))
  out-found x e = (below, found)
    where
      parted : entries_of m ≡ a-part ++ entry at x ∷ (map (entry at) stay ++ b-part)
      parted = entries-old ∙ ap (beforehand a-part b-part at stay) e

      used : suc (uses x.slot (a-part ++ (map (entry at) stay ++ b-part))) ≡ count (in_slot x.slot) (lives m.instances)
      used = sym (uses-here x.slot a-part (map (entry at) stay ++ b-part) (entry at x) refl) ∙ sym (ap (uses x.slot) parted) ∙ ap (count (in_slot x.slot)) (lives-of 0 m.instances)

      below : x.slot < 256
      below = ltb-true x.slot 256 (bit-one (ltb x.slot 256) (omega (arith, used, g.slots x.slot)))

      found : look_up x.slot (entries_of m) ≡ some (entry at x)
      found = rw parted (look-here x.slot a-part (map (entry at) stay ++ b-part) (entry at x)
          (omega (arith, uses-append x.slot a-part (map (entry at) stay ++ b-part), used, g.slots x.slot, bit_le (ltb x.slot 256))) refl)

  -- the handle pushed out is the one that the table held
  pub evicted-is : evicted (table_of m) (out_slot m a) ≡ pushed_out m.keep (old_of m a).places
  unfolding table_of
  evicted-is = rw (out-cell m.keep (old_of m a).places, out-handle m.keep (old_of m a).places) (go out refl)
    where
      go : (o : Option Live) → out ≡ o → evicted (slots_of sample_of (entries_of m)) (slot_or_none o) ≡ handle_in o
      go none e = refl
      go (some x) e = rw (lt-ltb x.slot 256 (out-found x e).0, slot_at sample_of empty_sample (entries_of m) x.slot (out-found x e).0, (out-found x e).1)

  pub answer-is : (adding m a).answer ≡ answer_of (table_of m) (said_of m a)
  unfolding adding accept
  answer-is = split (eqb (refusal_of m a) 0) (λ q. rw (q, evicted-is)) (λ q. rw q)
