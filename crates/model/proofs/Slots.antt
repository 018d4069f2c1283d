-- At most 256 samples are live, each in a slot of its own below 256 and under a key of its own; an add is given the lowest free slot.
use Rattle.std.specs.Prelude.{Some, None}
use mathlib.Core.Path.{◌≡◌, refl, sym, ◌∙◌, ap, subst}
use mathlib.Core.Bool.{Bool, true, false, ◌&&◌, ◌||◌, cond}
use mathlib.Core.List.{List, [], ◌∷◌, map}
use mathlib.Core.Option.{Option, some, none}
use Prim.Native.Nat.{ℕ, zero, suc, ◌+◌, ◌*◌, ◌≤◌, ◌<◌, max}
use native.Mathlib.Omega.{arith}
use native.Mathlib.Nat.{mul-le-mul_right}
use lib.IntN.{ℤ, pos, negsuc}
use lib.Dec.{eqb, leb, ltb}
use lib.ListN.{length, length-append, length-replicate, length-map}
use borrow.Author.Tests.{eqb-true, eqb-false, ne_eqb, ltb-true, ltb-false, lt-ltb, le-ltb, leb-true, leb-false, le-leb, lt-leb}
use Rattle.model.specs.Pairs.{Pair}
use Rattle.model.specs.Model.{Model, Instance, SetUp, Live, Arrival, Place, held, Call, Step, fresh, within, keep_of, keep_fits, is_zero, counts_kept, counts_none, depth_of, is_new, unkept, find, put, lives, count, in_slot, lowest_from, push, window, listed, left, live_of, old_of, issue_of, key_in, refusal_of, arrived, roomy, slot_of, accept, access, step}
use Rattle.keys.specs.Keys.{Last, Later}
use Rattle.model.specs.Story.{run, Every, lives_of}
use Rattle.model.specs.Demand3.{Bounded, Lowest, has_key}
use Rattle.model.proofs.Laws.{every-find, every-put, newcomer, put-here, put-there, find-here, find-there, find-name, Done, turned, began, came, lost, looked, went, asked, done}
use Rattle.keys.specs.KeyLaws.{key-later}
use Rattle.model.proofs.Refusals.{passed, both, issue-given}
use Rattle.model.proofs.Counting.{bit, Pushable, new, count-append, count-put, count-places, count-listed, count-true, count-length, roomy-count, new-count}
use Rattle.model.specs.PairLaws.{split}

-- ---- the lowest free slot
-- every slot from k up to the answer is in use, and the answer is free if it is one of the n
pub lowest-used : (n k : ℕ) (ss : List Live) (j : ℕ) → k ≤ j → j < lowest_from n k ss → 0 < count (in_slot j) ss
unfolding lowest_from
lowest-used zero k ss j p q = absurd (omega arith)
lowest-used (suc n) k ss j p q = split (eqb (count (in_slot k) ss) 0)
    (λ e. let r : j < k = rw e at q in absurd (omega arith))
    (λ e. split (eqb k j)
    (λ f. rw (← eqb-true k j f) (positive (count (in_slot k) ss) (eqb-false (count (in_slot k) ss) 0 e)))
    (λ f. lowest-used n (k + 1) ss j (past k j p (eqb-false k j f)) (rw e at q)))
  where
    positive : (c : ℕ) → (c ≡ 0 → ⊥) → 0 < c
    positive c h = omega arith

    past : (k j : ℕ) → k ≤ j → (k ≡ j → ⊥) → k + 1 ≤ j
    past k j p h = omega arith

pub lowest-free : (n k : ℕ) (ss : List Live) → lowest_from n k ss < k + n → count (in_slot (lowest_from n k ss)) ss ≡ 0
unfolding lowest_from
lowest-free zero k ss h = absurd (omega arith)
lowest-free (suc n) k ss h = split (eqb (count (in_slot k) ss) 0)
    (λ e. rw e (eqb-true (count (in_slot k) ss) 0 e))
    (λ e. let r : lowest_from n (k + 1) ss < k + suc n = rw e at h in rw e (lowest-free n (k + 1) ss (omega arith)))

-- ---- n slots that are all in use need n lives
abbrev pub below : ℕ → Live → Bool
below n s = ltb s.slot n

pub below_suc : (n x : ℕ) → bit (ltb x (suc n)) ≡ bit (ltb x n) + bit (eqb x n)
below_suc n x = split (ltb x n)
    (λ e. rw (e, lt-ltb x (suc n) (omega (arith, ltb-true x n e)), ne_eqb x n (λ q. less x n (ltb-true x n e) q)))
    (λ e. split (eqb x n)
    (λ q. rw (e, q, lt-ltb x (suc n) (omega (arith, eqb-true x n q))))
    (λ q. rw (e, q, le-ltb x (suc n) (more x n (ltb-false x n e) (eqb-false x n q)))))
  where
    less : (x n : ℕ) → x < n → x ≡ n → ⊥
    less x n p q = omega arith

    more : (x n : ℕ) → n ≤ x → (x ≡ n → ⊥) → suc n ≤ x
    more x n p q = omega arith

pub count-below : (n : ℕ) (ss : List Live) → count (below (suc n)) ss ≡ count (below n) ss + count (in_slot n) ss
unfolding count
count-below n [] = omega arith
count-below n (s ∷ ss) = omega (arith, below_suc n s.slot, count-below n ss)

pub all-used : (n : ℕ) (ss : List Live) → ((j : ℕ) → j < n → 0 < count (in_slot j) ss) → n ≤ count (below n) ss
all-used zero ss h = omega arith
all-used (suc n) ss h = omega (arith, count-below n ss, h n (omega arith), all-used n ss (λ j p. h j (omega arith)))

pub lowest-below : (n : ℕ) (ss : List Live) → length ss < n → lowest_from n 0 ss < n
lowest-below n ss h = split (ltb (lowest_from n 0 ss) n)
    (λ e. ltb-true (lowest_from n 0 ss) n e)
    (λ e. absurd (full (ltb-false (lowest_from n 0 ss) n e)))
  where
    full : n ≤ lowest_from n 0 ss → ⊥
    full q = omega (arith, count-length (below n) ss, all-used n ss (λ j p. lowest-used n 0 ss j (omega arith) (omega arith)))

-- ---- the invariant
abbrev Sized : ℕ → Instance → Type 0
Sized d i = length i.places ≡ d

abbrev cap : ℕ → ℕ
cap k = bit (ltb k 256)

-- a key that was issued
abbrev pub reached : Last → ℕ → Bool
reached None k = false
reached (Some l) k = leb k l

abbrev Fitted : Option ℕ → List Instance → Type 0
Fitted none is = length (lives is) ≤ 256
Fitted (some d) is = Every (Sized d) is

pub record Sound (k : Option ℕ) (i : ℕ) (m : Model) : Type 0 where
  keeps : m.keep ≡ k
  roomed : m.room ≡ i
  bounded : Bounded k i
  fitted : Fitted k m.instances
  few : length m.instances ≤ i
  slots : (j : ℕ) → count (in_slot j) (lives m.instances) ≤ cap j
  keys : (j : ℕ) → count (has_key j) (lives m.instances) ≤ bit (reached m.last j)

abbrev pub Valid : Model → Type 0
Valid m = Sound m.keep m.room m

every-listed : (d : ℕ) (t : Bool) (ps : List Pair) (is : List Instance) → Every (Sized d) is → Every (Sized d) (map (listed t ps) is)
every-listed d t ps [] h = tt
every-listed d t ps (i ∷ is) h = (rw length-map h.0, every-listed d t ps is h.1)

pub length-put : (j : Instance) (is : List Instance) → length (put j is) ≡ newcomer (find j.name is) + length is
unfolding put find
length-put j [] = refl
length-put j (i ∷ is) = split (eqb i.name j.name)
    (λ e. rw (put-here j i is e, find-here j.name i is e) (omega arith))
    (λ e. rw (put-there j i is e, find-there j.name i is e) (omega (arith, length-put j is)))

count-sized : (p : Live → Bool) (d : ℕ) (is : List Instance) → Every (Sized d) is → count p (lives is) ≤ length is * d
unfolding lives count
count-sized p d [] h = omega arith
count-sized p d (i ∷ is) h = rw count-append (omega (arith, count-places p i.places, h.0, count-sized p d is h.1))

pub length_push : (k : Option ℕ) (d : ℕ) (ps : List Place) (x : Place) → k ≡ some d → 0 < length ps → length (push k ps x) ≡ length ps
unfolding push
length_push k d [] x e h = absurd (omega arith)
length_push k d (q ∷ qs) x e h = rw (e, length-append qs (x ∷ [])) (omega arith)

-- ---- an accepted add
room-left : (m : Model) (a : Arrival) → refusal_of m a ≡ 0 → newcomer (find a.name m.instances) + length m.instances ≤ max m.room (length m.instances)
room-left m a e = go (find a.name m.instances) (passed m a e).roomed
  where
    go : (o : Option Instance) → is_new o && leb m.room (length m.instances) ≡ false → newcomer o + length m.instances ≤ max m.room (length m.instances)
    go (some i) f = omega arith
    go none f = omega (arith, leb-false m.room (length m.instances) f)

slot-left : (m : Model) (a : Arrival) → refusal_of m a ≡ 0 → m.keep ≡ none → length (lives m.instances) < 256
slot-left m a e kept = go m.keep kept (passed m a e).slotted
  where
    go : (k : Option ℕ) → k ≡ none → unkept k && leb 256 (length (lives m.instances)) ≡ false → length (lives m.instances) < 256
    go none p q = leb-false 256 (length (lives m.instances)) q
    go (some d) p q = let z : ◌≡◌ {A = ℕ} 0 1 = cc in absurd (omega arith)

new-few : (m : Model) (a : Arrival) → refusal_of m a ≡ 0 → (x : Place) → length (new m a x) ≤ max m.room (length m.instances)
unfolding arrived
new-few m a e x = omega (arith, length-put (arrived m.keep (old_of m a) a x) m.instances, room-left m a e)

capped : {x n r j : ℕ} → x ≤ max r n → n ≤ j → r ≡ j → x ≤ j
capped p q w = omega arith

-- under a keep count
module _ (d : ℕ) (m : Model) (a : Arrival) (pos : 0 < d) (kept : m.keep ≡ some d) (sized : Every (Sized d) m.instances) where
  old-sized : length (old_of m a).places ≡ d
  unfolding old_of window
  old-sized = go (find a.name m.instances) refl
    where
      go : (o : Option Instance) → find a.name m.instances ≡ o → length (old_of m a).places ≡ d
      go none f = rw (f, kept, length-replicate)
      go (some j) f = rw f (every-find (Sized d) a.name m.instances j sized f)

  new-sized : (x : Place) → Every (Sized d) (new m a x)
  unfolding arrived
  new-sized x = every-put (Sized d) (arrived m.keep (old_of m a) a x) m.instances (length_push m.keep d (old_of m a).places x kept (omega (arith, old-sized)) ∙ old-sized) sized

pushable : (k : Option ℕ) (i : ℕ) (m : Model) (a : Arrival) → Bounded k i → Sound k i m → Pushable k (old_of m a).places
pushable none i m a u h = tt
pushable (some d) i m a u h = omega (arith, old-sized d m a u.0 h.keeps h.fitted, u.0)

new-one : {k : Option ℕ} {i : ℕ} (m : Model) (a : Arrival) → Bounded k i → Sound k i m → (p : Live → Bool) (s : Live) → count p (lives (new m a (held s))) ≡ count p (lives (roomy m a)) + bit (p s)
new-one {k} {i} m a u h = new-count m a (subst (λ x. Pushable x (old_of m a).places) (sym h.keeps) (pushable k i m a u h))

roomy-short : (k : Option ℕ) (i : ℕ) (m : Model) (a : Arrival) → Bounded k i → Sound k i m → refusal_of m a ≡ 0 → length (lives (roomy m a)) < 256
roomy-short none i m a u h e = omega (arith, count-true (lives (roomy m a)), count-true (lives m.instances), roomy-count m a (λ s. true), slot-left m a e h.keeps)
roomy-short (some d) i m a u h e = omega (
  arith,
  count-true (lives (roomy m a)),
  new-one m a u h (λ s. true) thing,
  count-sized (λ s. true) d (new m a (held thing)) (new-sized d m a u.0 h.keeps h.fitted (held thing)),
  mul-le-mul_right d (capped (new-few m a e (held thing)) h.few h.roomed),
  u.1,
)
  where
    thing : Live
    thing = live_of a (old_of m a).meta 0 0

new-fitted : (k : Option ℕ) (i : ℕ) (m : Model) (a : Arrival) → Bounded k i → Sound k i m → refusal_of m a ≡ 0 → (s : Live) → Fitted k (new m a (held s))
new-fitted none i m a u h e s = omega (arith, count-true (lives (new m a (held s))), count-true (lives (roomy m a)), new-one m a u h (λ s. true) s, roomy-short none i m a u h e)
new-fitted (some d) i m a u h e s = new-sized d m a u.0 h.keeps h.fitted (held s)

pub here-is : (n : ℕ) (is : List Instance) (j : Instance) → find n is ≡ some j → find j.name is ≡ some j
here-is n is j e = ap (λ (k : ℕ). find k is) (find-name n is j e) ∙ e

left-count : (m : Model) (n : ℕ) (j : Instance) → find n m.instances ≡ some j → (p : Live → Bool) → count p (lives (put (left j) m.instances)) ≡ count p (lives m.instances)
left-count m n j e p = omega (arith, count-put p (left j) m.instances, ap (λ o. count p (lives_of o)) (here-is n m.instances j e))

left-fitted : (k : Option ℕ) (m : Model) (n : ℕ) (j : Instance) → find n m.instances ≡ some j → Fitted k m.instances → Fitted k (put (left j) m.instances)
left-fitted none m n j e h = omega (arith, count-true (lives m.instances), count-true (lives (put (left j) m.instances)), left-count m n j e (λ s. true))
left-fitted (some d) m n j e h = every-put (Sized d) (left j) m.instances (every-find (Sized d) n m.instances j h e) h

listed-fitted : (k : Option ℕ) (t : Bool) (ps : List Pair) (is : List Instance) → Fitted k is → Fitted k (map (listed t ps) is)
listed-fitted none t ps is h = omega (arith, count-true (lives is), count-true (lives (map (listed t ps) is)), count-listed (λ s. true) (λ s. refl) t ps is)
listed-fitted (some d) t ps is h = every-listed d t ps is h

-- ---- set-up
fresh-fitted : (k : Option ℕ) → Fitted k []
unfolding lives
fresh-fitted none = omega arith
fresh-fitted (some d) = tt

sound-fresh : (k : Option ℕ) (i : ℕ) → Bounded k i → Valid (fresh k i)
unfolding lives count
sound-fresh k i b = record { keeps = refl; roomed = refl; bounded = b; fitted = fresh-fitted k; few = omega arith; slots = λ j. omega arith; keys = λ j. omega arith }

-- document 01's bounds give what is needed of d
bounds : (three four kept rest : Bool) (keep : ℤ) (i : ℕ) → 1 ≤ i → i ≤ 32 → (kept && keep_fits keep i) || ((three || four) && rest) ≡ true → Bounded (cond three none (cond four (some 1) (some (depth_of keep)))) i
bounds true four kept rest keep i l h e = (l, h)
bounds false true kept rest keep i l h e = (omega arith, omega arith, l, h)
bounds false false true rest (negsuc d) i l h e = let z : ◌≡◌ {A = ℕ} 0 1 = cc in absurd (omega arith)
bounds false false false rest keep i l h e = let z : ◌≡◌ {A = ℕ} 0 1 = cc in absurd (omega arith)
bounds false false true rest (pos d) i l h e = split (leb 1 d)
    (λ p. split (leb (i * d) 256)
    (λ q. (leb-true 1 d p, leb-true (i * d) 256 q, l, h))
    (λ q. let z : ◌≡◌ {A = ℕ} 0 1 = cc (rw (p, q) at e) in absurd (omega arith)))
    (λ p. let z : ◌≡◌ {A = ℕ} 0 1 = cc (rw p at e) in absurd (omega arith))

within-bounds : (u : SetUp) → within u ≡ true → Bounded (keep_of u) u.instances
unfolding within keep_of
within-bounds u e = go (both few ((counts_kept u.mode && keep_fits u.keep u.instances) || (counts_none u.mode && is_zero u.keep)) e)
  where
    few : Bool
    few = leb 1 u.instances && leb u.instances 32

    go : (leb 1 u.instances && leb u.instances 32 ≡ true) × ((counts_kept u.mode && keep_fits u.keep u.instances) || (counts_none u.mode && is_zero u.keep) ≡ true)
        → Bounded (cond (eqb u.mode 3) none (cond (eqb u.mode 4) (some 1) (some (depth_of u.keep)))) u.instances
    go h = let b : (leb 1 u.instances ≡ true) × (leb u.instances 32 ≡ true) = both (leb 1 u.instances) (leb u.instances 32) h.0 in
        bounds (eqb u.mode 3) (eqb u.mode 4) (counts_kept u.mode) (is_zero u.keep) u.keep u.instances
        (leb-true 1 u.instances b.0) (leb-true u.instances 32 b.1) h.1

valid : (k : Option ℕ) (i : ℕ) (m : Model) → Sound k i m → Valid m
valid k i m h = subst (λ x. Sound x m.room m) (sym h.keeps) (subst (λ x. Sound k x m) (sym h.roomed) h)

bit-one : (b : Bool) → bit b ≤ 1
bit-one true = omega arith
bit-one false = omega arith

pub not-reached : (o : Last) (k : ℕ) → Later o k → bit (reached o k) ≡ 0
not-reached None k h = refl
not-reached (Some l) k h = rw (lt-leb k l h)

pub reached-on : (o : Last) (k j : ℕ) → Later o k → bit (reached o j) ≤ bit (leb j k)
reached-on None k j h = omega arith
reached-on (Some l) k j h = split (leb j l)
    (λ e. rw (e, le-leb j k (omega (arith, leb-true j l e))) (omega arith))
    (λ e. rw e (omega arith))

-- ---- an accepted add is given the lowest free slot
module _ (k : Option ℕ) (i : ℕ) (u : Bounded k i) (m : Model) (h : Sound k i m) where
  slot-below : (a : Arrival) → refusal_of m a ≡ 0 → slot_of m a < 256
  unfolding slot_of
  slot-below a e = lowest-below 256 (lives (roomy m a)) (roomy-short k i m a u h e)

  slot-free : (a : Arrival) → refusal_of m a ≡ 0 → count (in_slot (slot_of m a)) (lives (roomy m a)) ≡ 0
  unfolding slot_of
  slot-free a e = lowest-free 256 0 (lives (roomy m a)) (omega (arith, slot-below a e))

  new-slots : (a : Arrival) → refusal_of m a ≡ 0 → (s : Live) → s.slot ≡ slot_of m a → (j : ℕ) → count (in_slot j) (lives (new m a (held s))) ≤ cap j
  new-slots a e s q j = split (eqb s.slot j)
      (λ f. rw (new-one m a u h (in_slot j) s, f, ← eqb-true s.slot j f, q, slot-free a e, lt-ltb (slot_of m a) 256 (slot-below a e)) (omega arith))
      (λ f. rw (new-one m a u h (in_slot j) s, f) (omega (arith, roomy-count m a (in_slot j), h.slots j)))

  -- the key is later than every one reached, and is reached from now on
  key-new : (a : Arrival) → refusal_of m a ≡ 0 → Later m.last (key_in (issue_of m a))
  key-new a e = key-later m.last a.time (key_in (issue_of m a)) (issue-given (issue_of m a) (passed m a e).keyed)

  new-keys : (a : Arrival) → refusal_of m a ≡ 0 → (s : Live) → s.key ≡ key_in (issue_of m a) → (j : ℕ) → count (has_key j) (lives (new m a (held s))) ≤ bit (leb j (key_in (issue_of m a)))
  new-keys a e s q j = split (eqb s.key j)
      (λ f. rw (new-one m a u h (has_key j) s, f, ← eqb-true s.key j f, q, le-leb (key_in (issue_of m a)) (key_in (issue_of m a)) (omega arith))
      (omega (arith, roomy-count m a (has_key (key_in (issue_of m a))), h.keys (key_in (issue_of m a)), not-reached m.last (key_in (issue_of m a)) (key-new a e))))
      (λ f. rw (new-one m a u h (has_key j) s, f) (omega (arith, roomy-count m a (has_key j), h.keys j, reached-on m.last (key_in (issue_of m a)) j (key-new a e))))

  sound-done : {c : Call} {x : Step} → Done m c x → Valid x.then
  unfolding accept access
  sound-done (turned c r) = valid k i m h
  sound-done (began v e) = sound-fresh (keep_of v) v.instances (within-bounds v e)
  sound-done (came a e) = valid k i _ (record {
    keeps = h.keeps;
    roomed = h.roomed;
    bounded = u;
    fitted = new-fitted k i m a u h e _;
    few = capped (new-few m a e (held _)) h.few h.roomed;
    slots = new-slots a e _ refl;
    keys = new-keys a e _ refl;
  })
  sound-done (lost n j e) = valid k i _ (record {
    keeps = h.keeps;
    roomed = h.roomed;
    bounded = u;
    fitted = left-fitted k m n j e h.fitted;
    few = omega (arith, length-put (left j) m.instances, ap newcomer (here-is n m.instances j e), h.few);
    slots = λ l. omega (arith, left-count m n j e (in_slot l), h.slots l);
    keys = λ l. omega (arith, left-count m n j e (has_key l), h.keys l);
  })
  sound-done (looked w l room r) = valid k i m h
  sound-done (went t ps room e) = valid k i _ (record {
    keeps = h.keeps;
    roomed = h.roomed;
    bounded = u;
    fitted = listed-fitted k t ps m.instances h.fitted;
    few = omega (arith, length-map m.instances (listed t ps), h.few);
    slots = λ l. omega (arith, count-listed (in_slot l) (λ s. refl) t ps m.instances, h.slots l);
    keys = λ l. omega (arith, count-listed (has_key l) (λ s. refl) t ps m.instances, h.keys l);
  })
  sound-done (asked l r) = valid k i m h

sound-run : (m : Model) (cs : List Call) → Valid m → Valid (run m cs)
unfolding run
sound-run m [] h = h
sound-run m (c ∷ cs) h = sound-run (step m c).then cs (sound-done m.keep m.room h.bounded m h (done m c))

pub all_valid : (u : SetUp) → within u ≡ true → (cs : List Call) → Valid (run (fresh (keep_of u) u.instances) cs)
all_valid u e cs = sound-run (fresh (keep_of u) u.instances) cs (sound-fresh (keep_of u) u.instances (within-bounds u e))

cap-one : (k : ℕ) → cap k ≤ 1
cap-one k = split (ltb k 256) (λ e. rw e (omega arith)) (λ e. rw e (omega arith))

slot-rest : (m : Model) (a : Arrival) (j : ℕ) → j < slot_of m a → 0 < count (in_slot j) (lives (roomy m a))
unfolding slot_of
slot-rest m a j p = lowest-used 256 0 (lives (roomy m a)) j (omega arith) p

-- ---- of a valid cache
module _ (now : Model) (sound : Valid now) where
  abbrev live : List Live
  live = lives now.instances

  pub in_bounds : Bounded now.keep now.room
  in_bounds = sound.bounded

  pub within-room : length now.instances ≤ now.room
  within-room = sound.few

  pub one-to-a-slot : (j : ℕ) → count (in_slot j) live ≤ 1
  one-to-a-slot j = omega (arith, sound.slots j, cap-one j)

  pub slots-below-256 : (j : ℕ) → 256 ≤ j → count (in_slot j) live ≡ 0
  slots-below-256 j p = omega (arith, rw (le-ltb j 256 p) at (sound.slots j))

  pub one-to-a-key : (k : ℕ) → count (has_key k) live ≤ 1
  one-to-a-key k = omega (arith, sound.keys k, bit-one (reached now.last k))

  pub can-push : (a : Arrival) → Pushable now.keep (old_of now a).places
  can-push a = pushable now.keep now.room now a sound.bounded sound

  pub slot-lowest : (a : Arrival) → refusal_of now a ≡ 0 → Lowest (slot_of now a) (lives (roomy now a))
  slot-lowest a e = record {
    is-slot = slot-below now.keep now.room sound.bounded now sound a e;
    is_free = slot-free now.keep now.room sound.bounded now sound a e;
    others = slot-rest now a;
  }

  pub at_most : (d : ℕ) → now.keep ≡ some d → length live ≤ now.room * d
  at_most d e = go now.keep e sound.fitted
    where
      go : (k : Option ℕ) → k ≡ some d → Fitted k now.instances → length live ≤ now.room * d
      go none q f = let z : ◌≡◌ {A = ℕ} 0 1 = cc in absurd (omega arith)
      go (some c) q f = let p : c ≡ d = cc in omega (arith, count-true live, count-sized (λ s. true) d now.instances (rw p at f), mul-le-mul_right d sound.few)

  pub at-most-256 : length live ≤ 256
  at-most-256 = go now.keep sound.bounded sound.fitted
    where
      go : (k : Option ℕ) → Bounded k now.room → Fitted k now.instances → length live ≤ 256
      go none b f = f
      go (some d) b f = omega (arith, count-true live, count-sized (λ s. true) d now.instances f, mul-le-mul_right d sound.few, b.1)
