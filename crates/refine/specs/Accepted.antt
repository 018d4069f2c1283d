-- What an add that is accepted has passed, and the key and the slot that it is given.
use Rattle.std.specs.Prelude.{◌≡◌, refl, Bool, true, ◌&&◌, cond, List, [], ◌∷◌, ℕ, ◌+◌, ◌*◌, ◌≤◌, ◌<◌, eqb}
use Rattle.std.proofs.Common.{sym, ap, ◌∙◌, subst, mul-suc, mul-le-mul_left, arith}
use Rattle.std.proofs.Math.Bool.{false}
use Rattle.std.proofs.Math.Option.{Option, some, none}
use borrow.Author.Tests.{leb-false}
use Rattle.std.proofs.Math.Dec.{leb}
use Rattle.std.proofs.Math.ListN.{length}
use Rattle.std.proofs.lemmas.List.{length-replicate}
use Rattle.lists.specs.Every.{Every}
use Rattle.keys.specs.Keys.{Later}
use Rattle.keys.specs.KeyLaws.{key-later}
use Rattle.store.specs.Fit.{Deep}
use Rattle.model.specs.Model.{Model, Instance, Live, Arrival, Place, held, find, put, is_new, unkept, no_key, key_in, issue_of, lives, live_of, window, old_of, refusal_of, arrived, roomy, slot_of, count, in_slot}
use Rattle.model.proofs.Slots.{length_push, length-put, lowest-below, lowest-free}
use Rattle.model.proofs.Laws.{newcomer, find-there, find-here, put-there, put-here}
use Rattle.model.proofs.Refusals.{issue-given, passed}
use Rattle.model.proofs.Counting.{new-count, new, count-true, Pushable, count-append, count-places}
use Rattle.model.specs.PairLaws.{split}
use Rattle.refine.specs.Good.{Good, Sized}
use Rattle.refine.specs.Counting.{roomy-all}

-- ---- the tests, in order

none_so : (w n r s c : Bool) → ◌≡◌ {A = ℕ} (cond w 1 (cond n 6 (cond r 4 (cond s 7 (cond c 5 0))))) 0 → (w ≡ false) × (n ≡ false) × (r ≡ false) × (s ≡ false) × (c ≡ false)
none_so true n r s c h = absurd (omega arith)
none_so false true r s c h = absurd (omega arith)
none_so false false true s c h = absurd (omega arith)
none_so false false false true c h = absurd (omega arith)
none_so false false false false true h = absurd (omega arith)
none_so false false false false false h = (refl, refl, refl, refl, refl)

-- ---- the key

pub key-new : (m : Model) (a : Arrival) → no_key (issue_of m a) ≡ false → Later m.last (key_in (issue_of m a))
key-new m a e = key-later m.last a.time (key_in (issue_of m a)) (issue-given (issue_of m a) e)

-- ---- the instances

pub every-find : (P : Instance → Type 0) (n : ℕ) (is : List Instance) (i : Instance) → Every P is → find n is ≡ some i → P i
unfolding find Every
every-find P n [] i h e = let z : ◌≡◌ {A = ℕ} 0 1 = cc in absurd (omega arith)
every-find P n (j ∷ is) i h e = split (eqb j.name n)
    (λ q. let p : j ≡ i = cc (find-here n j is q) in rw p at h.0)
    (λ q. every-find P n is i h.1 (sym (find-there n j is q) ∙ e))

pub every-put : (P : Instance → Type 0) (j : Instance) (is : List Instance) → P j → Every P is → Every P (put j is)
unfolding put Every
every-put P j [] p h = (p, tt)
every-put P j (i ∷ is) p h = split (eqb i.name j.name)
    (λ e. rw (put-here j i is e) (p, h.1))
    (λ e. rw (put-there j i is e) (h.0, every-put P j is p h.1))

-- what holds of every instance and of a new one holds of the one that the add finds
pub every-old : (P : Instance → Type 0) (m : Model) (a : Arrival) → Every P m.instances → ((i : Instance) → i ≡ old_of m a → find a.name m.instances ≡ none → P i) → P (old_of m a)
unfolding old_of
every-old P m a h f = go (find a.name m.instances) refl
  where
    go : (o : Option Instance) → find a.name m.instances ≡ o → P (old_of m a)
    go none q = f (old_of m a) refl q
    go (some j) q = rw q (every-find P a.name m.instances j h q)

count-sized : (p : Live → Bool) (d : ℕ) (is : List Instance) → Every (Sized (some d)) is → count p (lives is) ≤ d * length is
unfolding lives count Every
count-sized p d [] h = omega arith
count-sized p d (i ∷ is) h = rw (count-append p) (omega (arith, count-places p i.places, h.0, count-sized p d is h.1, mul-suc d (length is)))

-- ---- an add that is accepted

window-sized : (k : Option ℕ) (i : Instance) → i.places ≡ window k → Sized k i
unfolding window
window-sized none i e = tt
window-sized (some d) i e = rw (e, length-replicate)

push-sized : (k : Option ℕ) (room : ℕ) (i : Instance) (a : Arrival) (x : Place) → Deep k room → Sized k i → Sized k (arrived k i a x)
unfolding arrived
push-sized none room i a x d h = tt
push-sized (some d) room i a x dp h = length_push (some d) d i.places x refl (omega (arith, dp.0)) ∙ h

pushable-of : (k : Option ℕ) (room : ℕ) (i : Instance) → Deep k room → Sized k i → Pushable k i.places
pushable-of none room i d h = tt
pushable-of (some d) room i dp h = omega (arith, dp.0)

module _ (m : Model) (g : Good m) (a : Arrival) where
  old-window : find a.name m.instances ≡ none → (old_of m a).places ≡ window m.keep
  unfolding old_of
  old-window e = rw e

  pub old-sized : Sized m.keep (old_of m a)
  old-sized = every-old (Sized m.keep) m a g.even (λ i p q. window-sized m.keep i (ap (λ (x : Instance). x.places) p ∙ old-window q))

  pub pushable : Pushable m.keep (old_of m a).places
  pushable = pushable-of m.keep m.room (old_of m a) g.deep old-sized

  pub new-sized : (x : Place) → Every (Sized m.keep) (new m a x)
  new-sized x = every-put (Sized m.keep) (arrived m.keep (old_of m a) a x) m.instances (push-sized m.keep m.room (old_of m a) a x g.deep old-sized) g.even

  pub new-few : is_new (find a.name m.instances) && leb m.room (length m.instances) ≡ false → (x : Place) → length (new m a x) ≤ m.room
  unfolding arrived
  new-few e x = omega (arith, length-put (arrived m.keep (old_of m a) a x) m.instances, left (find a.name m.instances) e)
    where
      left : (o : Option Instance) → is_new o && leb m.room (length m.instances) ≡ false → newcomer o + length m.instances ≤ m.room
      left (some i) f = omega (arith, g.few)
      left none f = omega (arith, leb-false m.room (length m.instances) f)

  abbrev thing : Live
  thing = live_of a (old_of m a).meta 0 0

  -- after room is made a slot is free
  pub roomy-short : is_new (find a.name m.instances) && leb m.room (length m.instances) ≡ false
      → unkept m.keep && leb 256 (length (lives m.instances)) ≡ false → length (lives (roomy m a)) < 256
  roomy-short e u = go m.keep refl u
    where
      go : (k : Option ℕ) → m.keep ≡ k → unkept k && leb 256 (length (lives m.instances)) ≡ false → length (lives (roomy m a)) < 256
      go none q f = omega (arith, count-true (lives (roomy m a)), count-true (lives m.instances), roomy-all m a (λ s. true) q, leb-false 256 (length (lives m.instances)) f)
      go (some d) q f =
          let fits : d * m.room ≤ 256 = (subst (λ (k : Option ℕ). Deep k m.room) q g.deep).1 in
          let sized : Every (Sized (some d)) (new m a (held thing)) = subst (λ (k : Option ℕ). Every (Sized k) (new m a (held thing))) q (new-sized (held thing)) in
          omega (
            arith,
            count-true (lives (roomy m a)),
            new-count m a pushable (λ s. true) thing,
            count-sized (λ s. true) d (new m a (held thing)) sized,
            mul-le-mul_left d (new-few e (held thing)),
          )

  pub slot-below : refusal_of m a ≡ 0 → slot_of m a < 256
  unfolding slot_of
  slot-below e = lowest-below 256 (lives (roomy m a)) (roomy-short (passed m a e).roomed (passed m a e).slotted)

  pub slot-free : refusal_of m a ≡ 0 → count (in_slot (slot_of m a)) (lives (roomy m a)) ≡ 0
  unfolding slot_of
  slot-free e = lowest-free 256 0 (lives (roomy m a)) (omega (arith, slot-below e))
