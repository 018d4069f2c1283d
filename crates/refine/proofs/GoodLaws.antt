-- A fresh cache is good, and every call keeps it so.
use Rattle.std.specs.Prelude.{Some, None, ◌≡◌, refl, Bool, true, false, ◌&&◌, ◌||◌, cond, List, [], ◌∷◌, ◌++◌, map, ℕ, ◌+◌, ◌*◌, ◌≤◌, ◌<◌, eqb, ltb, ℤ, pos, negsuc, length}
use Rattle.std.proofs.Common.{sym, ap, ◌∙◌, true≢false, mul_comm, arith, eqb-true, eq-eqb, lt-ltb, le-leb, leb-true, leb-false}
use Rattle.std.proofs.Math.Option.{Option, some, none}
use Rattle.std.proofs.Math.Dec.{leb}
use Rattle.std.proofs.lemmas.List.{length-map}
use Rattle.lists.specs.Every.{Every, every_append, every_map}
use Rattle.lists.specs.Count.{bit}
use Rattle.sampleinfo.specs.Counts.{total}
use Rattle.sampleinfo.specs.Lifecycle.{state_of, counts_of, is_reborn, is_last, becomes}
use Rattle.sampleinfo.specs.LifecycleLaws.{total-after}
use Rattle.sampleinfo.specs.declared.InstanceState.{InstanceState}
use Rattle.sampleinfo.specs.declared.InstanceMetaData.{InstanceMetaData}
use Rattle.keys.specs.Keys.{Last, Later}
use Rattle.store.specs.Fit.{Deep}
use Rattle.model.specs.Pairs.{Pair}
use Rattle.model.specs.Model as M
use Rattle.model.specs.Model.{Model, Instance, Live, Arrival, SetUp, Call, set_up, add, no_writers, choose, read_or_take, next_key, Place, gone, held, find, put, live_in, lives, count, in_slot, push, as_read, listed_in, touch, listed, left, key_in, issue_of, state_in, old_of, refusal_of, arrived, slot_of, accept, adding, dying, access, accessing, fine, within, keep_of, keep_fits, is_zero, counts_kept, counts_none, fresh, setting_up, step}
use Rattle.model.specs.Story.{run, lives_of}
use Rattle.model.proofs.Slots.{reached-on, not-reached, length-put, reached}
use Rattle.model.proofs.Names.{times-listed, times-put-once}
use Rattle.model.proofs.Laws.{newcomer, find-there, find-here}
use Rattle.model.proofs.Refusals.{passed}
use Rattle.model.proofs.Counting.{new-count, roomy-count, old-count, new, count-append, count-put, count-listed, window-live}
use Rattle.model.specs.Demand3.{times_held, has_key}
use Rattle.model.specs.PairLaws.{split}
use Rattle.refine.specs.Good.{Good, Sized, Rising, Bounded, InOrder}
use Rattle.refine.specs.Entries.{live-append, found_name}
use Rattle.refine.specs.Accepted.{key-new, every-find, every-put, every-old, pushable, new-sized, new-few, slot-below, slot-free}

-- ---- names

-- ---- what holds of every instance

every-listed : (P : Instance → Type 0) (t : Bool) (ps : List Pair) → ((i : Instance) → P i → P (listed t ps i)) → (is : List Instance) → Every P is → Every P (map (listed t ps) is)
unfolding Every
every-listed P t ps f [] h = tt
every-listed P t ps f (i ∷ is) h = (f i h.0, every-listed P t ps f is h.1)

listed-sized : (k : Option ℕ) (t : Bool) (ps : List Pair) (i : Instance) → Sized k i → Sized k (listed t ps i)
listed-sized none t ps i h = tt
listed-sized (some d) t ps i h = length-map i.places (touch t i.name ps) ∙ h

left-sized : (k : Option ℕ) (i : Instance) → Sized k i → Sized k (left i)
left-sized none i h = tt
left-sized (some d) i h = h

-- ---- totals

becomes-bounded : (i : InstanceMetaData) (new : InstanceState) → is_last i new ≡ false → total (counts_of i) ≤ 2147483647 → total (counts_of (becomes i new)) ≤ 2147483647
becomes-bounded i new e h = go (is_reborn (state_of i) new) e (total-after (state_of i) new (counts_of i))
  where
    go : (b : Bool) → b && leb 2147483647 (total (counts_of i)) ≡ false → total (counts_of (becomes i new)) ≡ total (counts_of i) + cond b 1 0 → total (counts_of (becomes i new)) ≤ 2147483647
    go true q s = omega (arith, leb-false 2147483647 (total (counts_of i)) q)
    go false q s = omega arith

-- ---- order

every-touch : (P : Live → Type 0) → ((s : Live) → P s → P (as_read s)) → (t : Bool) (n : ℕ) (ps : List Pair) (qs : List Place) → Every P (live_in qs) → Every P (live_in (map (touch t n ps) qs))
unfolding live_in Every
every-touch P f t n ps [] h = tt
every-touch P f t n ps (gone ∷ qs) h = every-touch P f t n ps qs h
every-touch P f true n ps (held s ∷ qs) h = split (listed_in n ps s)
    (λ e. rw e (every-touch P f true n ps qs h.1))
    (λ e. rw e (h.0, every-touch P f true n ps qs h.1))
every-touch P f false n ps (held s ∷ qs) h = split (listed_in n ps s)
    (λ e. rw e (f s h.0, every-touch P f false n ps qs h.1))
    (λ e. rw e (h.0, every-touch P f false n ps qs h.1))

pub rising-touch : (t : Bool) (n : ℕ) (ps : List Pair) (qs : List Place) → Rising (live_in qs) → Rising (live_in (map (touch t n ps) qs))
unfolding live_in Rising
rising-touch t n ps [] h = tt
rising-touch t n ps (gone ∷ qs) h = rising-touch t n ps qs h
rising-touch true n ps (held s ∷ qs) h = split (listed_in n ps s)
    (λ e. rw e (rising-touch true n ps qs h.1))
    (λ e. rw e (every-touch (λ x. s.key < x.key) (λ x p. p) true n ps qs h.0, rising-touch true n ps qs h.1))
rising-touch false n ps (held s ∷ qs) h = split (listed_in n ps s)
    (λ e. rw e (every-touch (λ x. s.key < x.key) (λ x p. p) false n ps qs h.0, rising-touch false n ps qs h.1))
    (λ e. rw e (every-touch (λ x. s.key < x.key) (λ x p. p) false n ps qs h.0, rising-touch false n ps qs h.1))

rising-more : (ss : List Live) (s : Live) → Every (λ x. x.key < s.key) ss → Rising ss → Rising (ss ++ s ∷ [])
unfolding Rising Every
rising-more [] s e h = (tt, tt)
rising-more (x ∷ ss) s e h = (every_append (λ y. x.key < y.key) ss (s ∷ []) h.0 (e.0, tt), rising-more ss s e.1 h.1)

rising-push : (k : Option ℕ) (ps : List Place) (s : Live) → Every (λ x. x.key < s.key) (live_in ps) → Rising (live_in ps) → Rising (live_in (push k ps (held s)))
unfolding push live_in Every Rising
rising-push none ps s e h = rw (live-append ps (held s ∷ [])) (rising-more (live_in ps) s e h)
rising-push (some d) [] s e h = h
rising-push (some d) (gone ∷ ps) s e h = rw (live-append ps (held s ∷ [])) (rising-more (live_in ps) s e h)
rising-push (some d) (held x ∷ ps) s e h = rw (live-append ps (held s ∷ [])) (rising-more (live_in ps) s e.1 h.1)

-- ---- keys

pub bit-one : (b : Bool) → 1 ≤ bit b → b ≡ true
bit-one true h = refl
bit-one false h = absurd (omega arith)

pub all-reached : (l : Last) (ss : List Live) → ((j : ℕ) → count (has_key j) ss ≤ bit (reached l j)) → Every (λ s. reached l s.key ≡ true) ss
unfolding count Every
all-reached l [] h = tt
all-reached l (s ∷ ss) h =
    (bit-one (reached l s.key) (omega (arith, rw (eq-eqb s.key s.key refl) at (h s.key))), all-reached l ss (λ j. omega (arith, h j)))

reached-below : (l : Last) (k j : ℕ) → Later l k → reached l j ≡ true → j < k
reached-below None k j h e = absurd (true≢false (sym e))
reached-below (Some x) k j h e = omega (arith, leb-true j x e)

pub count-find : (p : Live → Bool) (n : ℕ) (is : List Instance) → count p (lives_of (find n is)) ≤ count p (lives is)
unfolding find lives count
count-find p n [] = omega arith
count-find p n (i ∷ is) = split (eqb i.name n)
    (λ e. rw (find-here n i is e) (simp (count-append p) (omega arith)))
    (λ e. rw (find-there n i is e) (simp (count-append p) (omega (arith, count-find p n is))))

-- ---- an accepted add

module _ (m : Model) (g : Good m) (a : Arrival) (e : refusal_of m a ≡ 0) where
  abbrev key : ℕ
  key = key_in (issue_of m a)

  later : Later m.last key
  later = key-new m a (passed m a e).keyed

  old_below : Every (λ x. x.key < key) (live_in (old_of m a).places)
  old_below = every_map (λ s. reached m.last s.key ≡ true) (λ s. s.key < key) (live_in (old_of m a).places) (λ s q. reached-below m.last key s.key later q)
      (all-reached m.last (live_in (old_of m a).places) (λ j. omega (arith, old-count m a (has_key j), count-find (has_key j) a.name m.instances, g.keys j)))

  fresh-rising : (i : Instance) → i ≡ old_of m a → find a.name m.instances ≡ none → InOrder i
  unfolding old_of Rising
  fresh-rising i p q = rw (p, q, window-live m.keep) tt

  fresh-bounded : (i : Instance) → i ≡ old_of m a → find a.name m.instances ≡ none → Bounded i
  unfolding old_of
  fresh-bounded i p q = rw (p, q) (omega arith)

  new-orders : (s : Live) → s.key ≡ key → Every InOrder (new m a (held s))
  unfolding arrived
  new-orders s q = every-put InOrder (arrived m.keep (old_of m a) a (held s)) m.instances
      (rising-push m.keep (old_of m a).places s (rw q old_below) (every-old InOrder m a g.orders fresh-rising)) g.orders

  new-totals : (x : Place) → Every Bounded (new m a x)
  unfolding arrived
  new-totals x = every-put Bounded (arrived m.keep (old_of m a) a x) m.instances
      (becomes-bounded (old_of m a).meta (state_in a) (passed m a e).young (every-old Bounded m a g.totals fresh-bounded)) g.totals

  new-slots : (s : Live) → s.slot ≡ slot_of m a → (j : ℕ) → count (in_slot j) (lives (new m a (held s))) ≤ bit (ltb j 256)
  new-slots s q j = split (eqb s.slot j)
      (λ f. rw (new-count m a (pushable m g a) (in_slot j) s, f, ← eqb-true s.slot j f, q, slot-free m g a e, lt-ltb (slot_of m a) 256 (slot-below m g a e)) (omega arith))
      (λ f. rw (new-count m a (pushable m g a) (in_slot j) s, f) (omega (arith, roomy-count m a (in_slot j), g.slots j)))

  new-keys : (s : Live) → s.key ≡ key → (j : ℕ) → count (has_key j) (lives (new m a (held s))) ≤ bit (leb j key)
  new-keys s q j = split (eqb s.key j)
      (λ f. rw (new-count m a (pushable m g a) (has_key j) s, f, ← eqb-true s.key j f, q, le-leb key key (omega arith))
      (omega (arith, roomy-count m a (has_key key), g.keys key, not-reached m.last key later)))
      (λ f. rw (new-count m a (pushable m g a) (has_key j) s, f) (omega (arith, roomy-count m a (has_key j), g.keys j, reached-on m.last key j later)))

  pub good-accept : Good (accept m a).then
  unfolding accept
  good-accept = record {
    few = new-few m g a (passed m a e).roomed (held _);
    rooms = g.rooms;
    deep = g.deep;
    even = new-sized m g a (held _);
    names = λ n. times-put-once n (arrived m.keep (old_of m a) a (held _)) m.instances (g.names n);
    totals = new-totals (held _);
    orders = new-orders _ refl;
    slots = new-slots _ refl;
    keys = new-keys _ refl;
  }

pub good-adding : (m : Model) → Good m → (a : Arrival) → Good (adding m a).then
unfolding adding
good-adding m g a = split (eqb (refusal_of m a) 0)
    (λ q. rw q (good-accept m g a (eqb-true (refusal_of m a) 0 q)))
    (λ q. rw q g)

-- ---- the no-writers event

module _ (m : Model) (g : Good m) (n : ℕ) (j : Instance) (f : find n m.instances ≡ some j) where
  here : find j.name m.instances ≡ some j
  here = ap (λ (k : ℕ). find k m.instances) (found_name n m.instances j f) ∙ f

  left-count : (p : Live → Bool) → count p (lives (put (left j) m.instances)) ≡ count p (lives m.instances)
  left-count p = omega (arith, count-put p (left j) m.instances, ap (λ o. count p (lives_of o)) here)

  pub good_left : Good (dying m (some j)).then
  good_left = record {
    few = omega (arith, length-put (left j) m.instances, ap newcomer here, g.few);
    rooms = g.rooms;
    deep = g.deep;
    even = every-put (Sized m.keep) (left j) m.instances (left-sized m.keep j (every-find (Sized m.keep) n m.instances j g.even f)) g.even;
    names = λ k. times-put-once k (left j) m.instances (g.names k);
    totals = every-put Bounded (left j) m.instances (every-find Bounded n m.instances j g.totals f) g.totals;
    orders = every-put InOrder (left j) m.instances (every-find InOrder n m.instances j g.orders f) g.orders;
    slots = λ k. omega (arith, left-count (in_slot k), g.slots k);
    keys = λ k. omega (arith, left-count (has_key k), g.keys k);
  }

pub good-dying : (m : Model) → Good m → (n : ℕ) → Good (dying m (find n m.instances)).then
good-dying m g n = go (find n m.instances) refl
  where
    go : (o : Option Instance) → find n m.instances ≡ o → Good (dying m o).then
    go none e = g
    go (some j) e = good_left m g n j e

-- ---- reading and taking

pub good-access : (t : Bool) (m : Model) → Good m → (ps : List Pair) → Good (access t m ps).then
unfolding access
good-access t m g ps = record {
  few = omega (arith, length-map m.instances (listed t ps), g.few);
  rooms = g.rooms;
  deep = g.deep;
  even = every-listed (Sized m.keep) t ps (listed-sized m.keep t ps) m.instances g.even;
  names = λ n. omega (arith, times-listed n t ps m.instances, g.names n);
  totals = every-listed Bounded t ps (λ i h. h) m.instances g.totals;
  orders = every-listed InOrder t ps (λ i h. rising-touch t i.name ps i.places h) m.instances g.orders;
  slots = λ k. omega (arith, count-listed (in_slot k) (λ s. refl) t ps m.instances, g.slots k);
  keys = λ k. omega (arith, count-listed (has_key k) (λ s. refl) t ps m.instances, g.keys k);
}

pub good-accessing : (t : Bool) (m : Model) → Good m → (ps : List Pair) (room : ℕ) → Good (accessing t m ps room).then
unfolding accessing
good-accessing t m g ps room = split (fine m ps)
    (λ e. split (leb (length ps) room) (λ l. rw (e, l) (good-access t m g ps)) (λ l. rw (e, l) g))
    (λ e. rw e g)

-- ---- set-up

pub good-fresh : (k : Option ℕ) (room : ℕ) → room ≤ 32 → Deep k room → Good (fresh k room)
unfolding lives count times_held Every
good-fresh k room h d = record {
  few = omega arith;
  rooms = h;
  deep = d;
  even = tt;
  names = λ n. omega arith;
  totals = tt;
  orders = tt;
  slots = λ j. omega arith;
  keys = λ j. omega arith;
}

both : (a b : Bool) → a && b ≡ true → (a ≡ true) × (b ≡ true)
both true b e = (refl, e)
both false b e = absurd (true≢false (sym e))

-- "d at least 1 and i*d at most 256"; mode 4 has d = 1
deep_of : (three four kept rest : Bool) (keep : ℤ) (i : ℕ) → i ≤ 32 → (kept && keep_fits keep i) || ((three || four) && rest) ≡ true
    → Deep (cond three none (cond four (some 1) (some (M.depth_of keep)))) i
deep_of true four kept rest keep i h e = tt
deep_of false true kept rest keep i h e = (omega arith, omega arith)
deep_of false false true rest (negsuc d) i h e = absurd (true≢false (sym e))
deep_of false false false rest keep i h e = absurd (true≢false (sym e))
deep_of false false true rest (pos d) i h e = split (leb 1 d && leb (i * d) 256)
    (λ p. (leb-true 1 d (both (leb 1 d) (leb (i * d) 256) p).0, rw (mul_comm d i) (leb-true (i * d) 256 (both (leb 1 d) (leb (i * d) 256) p).1)))
    (λ p. absurd (true≢false (sym (rw p at e))))

module _ (u : SetUp) (e : within u ≡ true) where
  parts : (leb 1 u.instances && leb u.instances 32 ≡ true) × ((counts_kept u.mode && keep_fits u.keep u.instances) || (counts_none u.mode && is_zero u.keep) ≡ true)
  unfolding within
  parts = both (leb 1 u.instances && leb u.instances 32) ((counts_kept u.mode && keep_fits u.keep u.instances) || (counts_none u.mode && is_zero u.keep)) e

  few-enough : u.instances ≤ 32
  few-enough = leb-true u.instances 32 (both (leb 1 u.instances) (leb u.instances 32) parts.0).1

  pub good-begun : Good (fresh (keep_of u) u.instances)
  unfolding keep_of
  good-begun = good-fresh _ u.instances few-enough (deep_of (eqb u.mode 3) (eqb u.mode 4) (counts_kept u.mode) (is_zero u.keep) u.keep u.instances few-enough parts.1)

pub good-setting_up : (m : Model) → Good m → (u : SetUp) → Good (setting_up m u).then
unfolding setting_up
good-setting_up m g u = split (within u) (λ e. rw e (good-begun u e)) (λ e. rw e g)

-- ---- every call, and calls in a row

pub good-step : (m : Model) → Good m → (c : Call) → Good (step m c).then
unfolding step
good-step m g (set_up u) = good-setting_up m g u
good-step m g (add a) = good-adding m g a
good-step m g (no_writers n) = good-dying m g n
good-step m g (choose w c room) = g
good-step m g (read_or_take t ps room) = good-accessing t m g ps room
good-step m g (next_key n) = g

pub good-from : (m : Model) → Good m → (cs : List Call) → Good (run m cs)
unfolding run
good-from m g [] = g
good-from m g (c ∷ cs) = good-from (step m c).then (good-step m g c) cs

pub good-run : (u : SetUp) → within u ≡ true → (cs : List Call) → Good (run (fresh (keep_of u) u.instances) cs)
good-run u e cs = good-from (fresh (keep_of u) u.instances) (good-begun u e) cs
