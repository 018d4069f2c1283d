-- An add keeps the store fit; and two outcomes of one add are equal.
use Rattle.std.specs.Prelude.{◌≡◌, Bool, ◌&&◌, cond, List, ℕ, ◌+◌, ◌≤◌, ◌<◌, set, ltb, Option, Some, None}
use Rattle.std.proofs.Math.Path.{refl}
use Rattle.std.proofs.Common.{sym, ap, ◌∙◌, ⊎_elim, eq-or-lt_of_le, arith, ltb-true, leb-false}
use Rattle.std.proofs.Math.Bool.{true, false}
use Rattle.std.proofs.Math.Nat.{le_of_lt}
use Rattle.std.proofs.Math.Decide.{dec_lt}
use Rattle.std.proofs.Math.ListN.{length, get_or, length-set, get_or-map, get_or-eq_default}
use Rattle.std.proofs.Math.Dec.{leb}
use Rattle.lists.specs.Blocks.{put_at, length-put-in, length-put-end}
use Rattle.slots.specs.Bits.{first_one}
use Rattle.slots.specs.FreeLaws.{Whole}
use Rattle.keys.specs.Keys.{Issued, key_of}
use Rattle.sampleinfo.specs.Counts.{total}
use Rattle.sampleinfo.specs.Lifecycle.{state_of, counts_of, is_reborn, counts_after, becomes, lifecycle_of}
use Rattle.sampleinfo.specs.LifecycleLaws.{total-after}
use Rattle.sampleinfo.specs.declared.InstanceState.{InstanceState}
use Rattle.sampleinfo.specs.declared.InstanceMetaData.{InstanceMetaData}
use Rattle.store.specs.Store.{Inst, Store, Said, refused, added, Step, Wanted, place_of, no_inst, fresh_inst, with_meta, oldest, moved_on, filling, placing, declined, living, keying, issuing, adding}
use Rattle.store.specs.Fit.{Fit, depth_of}
use Rattle.index.specs.Memory.{cells_of, Tied}
use Rattle.index.specs.declared.Cache.{Cache}
use Rattle.index.specs.Keeping.{all-put, same_head}
use Rattle.plan.specs.Plan.{Ready, Says, Made}
use Rattle.plan.specs.PlaceLaws.{moved-long}
use Rattle.plan.specs.KeyedLaws.{place-le, any-default, fresh_cells, room-left}
use Rattle.std.specs.declared.result.Result.{Result}
use Rattle.std.specs.declared.result.Result.TheVariants.{Ok, Err}
use Rattle.refusals.specs.declared.Refusal.{Refusal}
use Rattle.refusals.specs.NumberLaws.{same-refusal}
use Rattle.plan.specs.declared.Planned.{Planned}

-- ---- the lifecycle step keeps the total small

pub total-stepped : (x : InstanceMetaData) (new : InstanceState) (j : InstanceMetaData) → total (counts_of x) ≤ 2147483647 → lifecycle_of x new ≡ Some j → total (counts_of j) ≤ 2147483647
unfolding lifecycle_of
total-stepped x new j h e = go (is_reborn (state_of x) new) (leb 2147483647 (total (counts_of x))) refl (total-after (state_of x) new (counts_of x)) e
  where
    go : (r l : Bool) → leb 2147483647 (total (counts_of x)) ≡ l → total (counts_after (state_of x) new (counts_of x)) ≡ total (counts_of x) + cond r 1 0
        → cond (r && l) None (Some (becomes x new)) ≡ Some j → total (counts_of j) ≤ 2147483647
    go true true p q z = let t : ◌≡◌ {A = ℕ} 0 1 = cc in absurd (omega arith)
    go true false p q z = let t : becomes x new ≡ j = cc in rw (← t) (omega (arith, leb-false 2147483647 (total (counts_of x)) p))
    go false l p q z = let t : becomes x new ≡ j = cc in rw (← t) (omega arith)

-- ---- the store after an add

few-put : (is : List Inst) (at : ℕ) (y : Inst) (room : ℕ) → at ≤ length is → length is ≤ room → at < room → length (put_at at y is) ≤ room
few-put is at y room h k l = ⊎_elim last inner (eq-or-lt_of_le h)
  where
    inner : at < length is → length (put_at at y is) ≤ room
    inner m = rw (length-put-in is at y m) k

    last : at ≡ length is → length (put_at at y is) ≤ room
    last q = rw (q, length-put-end is y) (omega arith)

module _ (s : Store) (f : Fit s) (at : ℕ) (y : Inst) (r : Ready s at y) (small : total (counts_of y.meta) ≤ 2147483647) (key old slot : ℕ) (low : slot < 256) where
  moved : Inst
  moved = record { name = y.name; meta = y.meta; cells = moved_on s.keep y.cells slot }

  pub fit-filling : Fit (filling s at y key old slot).then
  unfolding filling moved
  fit-filling = record {
    few = few-put s.insts at moved s.room r.place f.few r.space;
    rooms = f.rooms;
    deep = f.deep;
    even = all-put (λ (i : Inst). length i.cells ≡ depth_of s.keep) s.insts at moved f.even (moved-long s f at y r slot);
    totals = all-put (λ (i : Inst). total (counts_of i.meta) ≤ 2147483647) s.insts at moved f.totals small;
    newest = le_of_lt low;
    free = simp length-set f.free;
    keys = simp length-set f.keys;
    owners = simp length-set f.owners;
  }

pub fit-placing : (s : Store) → Fit s → (at : ℕ) (y : Inst) → Ready s at y → total (counts_of y.meta) ≤ 2147483647 → (key : ℕ) → Fit (placing s at y key).then
unfolding placing
fit-placing s f at y r small key = go (ltb (first_one (set s.free (oldest s.keep y.cells) 1)) 256) refl
  where
    go : (b : Bool) → ltb (first_one (set s.free (oldest s.keep y.cells) 1)) 256 ≡ b
        → Fit (cond b (filling s at y key (oldest s.keep y.cells) (first_one (set s.free (oldest s.keep y.cells) 1))) (declined 5 s)).then
    go true e = fit-filling s f at y r small key _ _ (ltb-true _ 256 e)
    go false e = f

module _ (s : Store) (f : Fit s) (a : Wanted) where
  at : ℕ
  unfolding place_of
  at = place_of a.name s.insts

  old : Inst
  unfolding at
  old = get_or s.insts at (fresh_inst s.keep a.name a.state)

  old-total : total (counts_of old.meta) ≤ 2147483647
  unfolding old at
  old-total = go (dec_lt at (length s.insts))
    where
      go : Dec (place_of a.name s.insts < length s.insts) → total (counts_of (get_or s.insts (place_of a.name s.insts) (fresh_inst s.keep a.name a.state)).meta) ≤ 2147483647
      go (yes m) = rw (any-default s.insts (place_of a.name s.insts) (fresh_inst s.keep a.name a.state) no_inst m) (f.totals (place_of a.name s.insts) m)
      go (no m) = rw (get_or-eq_default s.insts (fresh_inst s.keep a.name a.state) {n = place_of a.name s.insts} (omega arith)) (omega arith)

  module _ (g : leb (length s.insts) at && leb s.room (length s.insts) ≡ false) where
    ready-old : (j : InstanceMetaData) → Ready s at (with_meta old j)
    unfolding old at
    ready-old j = record {
      place = place-le a.name s.insts;
      space = room-left (length s.insts) at s.room (place-le a.name s.insts) f.few g;
      window = rw (← (fresh_cells s.keep)) (get_or-map cells_of s.insts at (fresh_inst s.keep a.name a.state));
    }

    fit-living : (key : ℕ) (o : Option InstanceMetaData) → lifecycle_of old.meta a.state ≡ o → Fit (living s at old key o).then
    fit-living key None e = f
    fit-living key (Some j) e = fit-placing s f at (with_meta old j) (ready-old j) (total-stepped old.meta a.state j old-total e) key

  fit-keying : (key : ℕ) → Fit (keying s a key).then
  unfolding keying at old
  fit-keying key = go (leb (length s.insts) (place_of a.name s.insts) && leb s.room (length s.insts)) refl
    where
      go : (b : Bool) → leb (length s.insts) (place_of a.name s.insts) && leb s.room (length s.insts) ≡ b
          → Fit (cond b (declined 4 s) (living s at old key (lifecycle_of old.meta a.state))).then
      go true e = f
      go false e = fit-living e key (lifecycle_of old.meta a.state) refl

  pub fit-adding : Fit (adding s a).then
  unfolding adding
  fit-adding = go (key_of s.last a.time)
    where
      go : (o : Issued) → Fit (issuing s a o).then
      go None = f
      go (Some key) = fit-keying key

-- what `plan` leaves is tied to the store after the add
pub tied-adding : (s : Store) (a : Wanted) (r : Result Planned Refusal) (h : Cache) (end : List ℕ) → Fit s → Made (adding s a) r h end → Tied (adding s a).then h end
tied-adding s a r h end f m = record { fit = fit-adding s f a; head = m.head; words = m.words }

-- ---- one outcome for each step

one-answer : (z : Said) (r q : Result Planned Refusal) → Says z r → Says z q → r ≡ q
one-answer (refused n) (Err e) (Err g) a b = ap Err (same-refusal e g (a ∙ sym b))
one-answer (added key slot was counts) (Ok p) (Ok q) a b = ap Ok (a ∙ sym b)
one-answer (refused n) (Ok p) q a b = absurd a
one-answer (refused n) (Err e) (Ok q) a b = absurd b
one-answer (added key slot was counts) (Err e) q a b = absurd a
one-answer (added key slot was counts) (Ok p) (Err e) a b = absurd b

pub one-outcome : (st : Step) (r q : Result Planned Refusal) (h k : Cache) (v w : List ℕ) → Whole h.free → Whole k.free → Made st r h v → Made st q k w → (r ≡ q) × ((h ≡ k) × (v ≡ w))
one-outcome st r q h k v w x y m n =
    (one-answer st.said r q m.answer n.answer, (same_head h k x y (m.head ∙ sym n.head), m.words ∙ sym n.words))
