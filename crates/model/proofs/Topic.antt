-- The topic cache keeps its promises. A call is taken apart once, by the view `Done`; then each promise is a lemma by its cases.
use Rattle.std.specs.Prelude.{Some, None}
use mathlib.Core.Path.{◌≡◌, refl, sym, ap, ◌∙◌, subst}
use mathlib.Core.Logic.{◌↔◌, ◌⊎◌, inl, inr}
use mathlib.Core.Bool.{Bool, true, false, ◌&&◌, ◌||◌, cond, or-true}
use mathlib.Core.List.{List, [], ◌∷◌, ◌++◌, append-nil}
use mathlib.Core.Option.{Option, some, none}
use Prim.Native.Nat.{ℕ, zero, suc, ◌+◌, ◌-◌, ◌^◌, ◌/◌, ◌%◌, ◌≤◌, ◌<◌, max, min}
use native.Mathlib.Omega.{arith}
use borrow.Author.Tests.{ltb-true, leb-true, leb-false, le-leb, lt-leb, lt-ltb, eqb-true, eq-eqb}
use lib.ListN.{length, drop, length-drop, length-append}
use lib.Dec.{ltb, leb, eqb}
use Rattle.keys.specs.Keys.{Last, Issued, key_of, Later, issued_number}
use Rattle.keys.specs.KeyLaws.{key-later, refused_none, none-refused}
use Rattle.model.specs.Topic.{Entry, Limits, Topic, Change, Call, update, add, remove_before, range, refused, ok, key, held_already, found, Step, places, in_bounds, depth_fits, limits_fit, raised_to, raised, deeper, wider, may_for, count_below, removal, removed_before, collected, collect_every, collects, collected_for, holds_pair, same_bytes, entry_of, refuse, issuing, within, fresh, step}
use Rattle.sampleinfo.specs.Formed.{seq_fits}
use Rattle.model.specs.Bounds.{and_is, le_is}
use Rattle.model.specs.TopicPromises.{run, key_in, issued_by, Rises, keys_of, is_pair, times, FromTheOldest, NoLaterKey}
use Rattle.model.specs.TopicPromises.{AtLeast, Higher, LimitBounds, Raised, Greater}
use Rattle.model.specs.TopicPromises.{InRange, MultipleOf, Collects, small, medium, large, full, First, collecting, as-it-is, held_in}
use Rattle.model.specs.TopicPromises.{AddAnswers, UpdateAnswers, RangeAnswers, Leaves, TopicPromises}
use Rattle.model.specs.PairLaws.{split}

-- ---- a call taken apart

-- how many entries the collection before an add drops, none without one
unfoldable drops_in : Topic → Change → ℕ
drops_in c x = cond (collects c x) (removal c.limits 0 c.entries) 0

abbrev left : Topic → ℕ → Topic
left c n = record { limits = c.limits; last = c.last; entries = drop n c.entries }

collected-is : (c : Topic) (x : Change) → collected_for c x ≡ left c (drops_in c x)
unfolding drops_in
collected-is c x = split (collects c x) (λ e. rw e) (λ e. rw e)

data Done (c : Topic) : Call → Step → Type 0 where
  raises : (l : Limits) → limits_fit l ≡ true → Done c (update l) (record { answer = ok; then = record { limits = wider c.limits (raised l); last = c.last; entries = c.entries } })
  by_2 : (l : Limits) → limits_fit l ≡ false → Done c (update l) (refuse c 2)
  by-1 : (x : Change) → seq_fits x.seq ≡ false → Done c (add x) (refuse c 1)
  again : (x : Change) → seq_fits x.seq ≡ true → holds_pair x.writer x.seq (drop (drops_in c x) c.entries) ≡ true → Done c (add x) (record { answer = held_already; then = left c (drops_in c x) })
  by-6 : (x : Change) → seq_fits x.seq ≡ true → holds_pair x.writer x.seq (drop (drops_in c x) c.entries) ≡ false → key_of c.last x.time ≡ None → Done c (add x) (refuse c 6)
  accepts : (x : Change) (k : ℕ) → seq_fits x.seq ≡ true → holds_pair x.writer x.seq (drop (drops_in c x) c.entries) ≡ false → key_of c.last x.time ≡ Some k
      → Done c (add x) (record { answer = key k; then = record { limits = c.limits; last = Some k; entries = drop (drops_in c x) c.entries ++ (entry_of x k ∷ []) } })
  removes : (t : ℕ) → Done c (remove_before t) (record { answer = ok; then = left c (removal c.limits t c.entries) })
  finds : (s t room : ℕ) → leb (length (within s t c.entries)) room ≡ true → Done c (range s t room) (record { answer = found (within s t c.entries); then = c })
  by-9 : (s t room : ℕ) → leb (length (within s t c.entries)) room ≡ false → Done c (range s t room) (refuse c 9)

done : (c : Topic) (x : Call) → Done c x (step c x)
unfolding step
done c (update l) = split (limits_fit l) (λ e. rw e (raises l e)) (λ e. rw e (by_2 l e))
done c (add x) =
    split (seq_fits x.seq)
    (λ e. rw (e, collected-is c x)
    (split (holds_pair x.writer x.seq (drop (drops_in c x) c.entries)) (λ h. rw h (again x e h)) (λ h. rw h (go e h (key_of c.last x.time) refl))))
    (λ e. rw e (by-1 x e))
  where
    go : seq_fits x.seq ≡ true → holds_pair x.writer x.seq (drop (drops_in c x) c.entries) ≡ false → (i : Issued) → key_of c.last x.time ≡ i → Done c (add x) (issuing c (left c (drops_in c x)) x i)
    go e h None q = by-6 x e h q
    go e h (Some k) q = accepts x k e h q
done c (remove_before t) = removes t
done c (range s t room) = split (leb (length (within s t c.entries)) room) (λ e. rw e (finds s t room e)) (λ e. rw e (by-9 s t room e))

-- ---- a refused call, what an add leaves, from the oldest

unchanged : (c : Topic) {x : Call} {y : Step} → Done c x y → (n : ℕ) → y.answer ≡ refused n → y.then ≡ c
unchanged c (raises l e) n q = let z : ◌≡◌ {A = ℕ} 0 1 = cc in absurd (omega arith)
unchanged c (by_2 l e) n q = refl
unchanged c (by-1 x e) n q = refl
unchanged c (again x e h) n q = let z : ◌≡◌ {A = ℕ} 0 1 = cc in absurd (omega arith)
unchanged c (by-6 x e h k) n q = refl
unchanged c (accepts x k e h i) n q = let z : ◌≡◌ {A = ℕ} 0 1 = cc in absurd (omega arith)
unchanged c (removes t) n q = let z : ◌≡◌ {A = ℕ} 0 1 = cc in absurd (omega arith)
unchanged c (finds s t room e) n q = refl
unchanged c (by-9 s t room e) n q = refl

oldest : (c : Topic) {x : Call} {y : Step} → Done c x y → FromTheOldest c x y
oldest c (raises l e) = record { n = 0; rest = sym (append-nil c.entries) }
oldest c (by_2 l e) = record { n = 0; rest = sym (append-nil c.entries) }
oldest c (by-1 x e) = record { n = 0; rest = sym (append-nil c.entries) }
oldest c (again x e h) = record { n = drops_in c x; rest = sym (append-nil (drop (drops_in c x) c.entries)) }
oldest c (by-6 x e h k) = record { n = 0; rest = sym (append-nil c.entries) }
oldest c (accepts x k e h i) = record { n = drops_in c x; rest = refl }
oldest c (removes t) = record { n = removal c.limits t c.entries; rest = sym (append-nil (drop (removal c.limits t c.entries) c.entries)) }
oldest c (finds s t room e) = record { n = 0; rest = sym (append-nil c.entries) }
oldest c (by-9 s t room e) = record { n = 0; rest = sym (append-nil c.entries) }

-- ---- limits

at-least-same : (d : Option ℕ) → AtLeast d d
at-least-same none = tt
at-least-same (some d) = omega arith

at-least-deeper : (d e : Option ℕ) → AtLeast (deeper d e) d
at-least-deeper none e = tt
at-least-deeper (some d) none = tt
at-least-deeper (some d) (some e) = omega arith

at-least-trans : (a b d : Option ℕ) → AtLeast a b → AtLeast b d → AtLeast a d
at-least-trans none b d p q = tt
at-least-trans (some a) none d p q = absurd p
at-least-trans (some a) (some b) none p q = absurd q
at-least-trans (some a) (some b) (some d) p q = omega (arith, p, q)

max-one : (a b : ℕ) → (max a b ≡ a) ⊎ (max a b ≡ b)
max-one a b = split (leb a b) (λ e. inr (omega (arith, leb-true a b e))) (λ e. inl (omega (arith, leb-false a b e)))

at-least-other : (d e : Option ℕ) → AtLeast (deeper d e) e
at-least-other none e = tt
at-least-other (some d) none = tt
at-least-other (some d) (some e) = omega arith

deeper-one : (d e : Option ℕ) → (deeper d e ≡ d) ⊎ (deeper d e ≡ e)
deeper-one none e = inl refl
deeper-one (some d) none = inr refl
deeper-one (some d) (some e) = go (max-one d e)
  where
    go : (max d e ≡ d) ⊎ (max d e ≡ e) → (some (max d e) ≡ some d) ⊎ (some (max d e) ≡ some e)
    go (inl q) = inl (ap some q)
    go (inr q) = inr (ap some q)

greater-is : (l k : Limits) → Greater l k (wider l k)
greater-is l k = record {
  than-old = record { depth = at-least-deeper l.depth k.depth; most = omega arith };
  than-new = record { depth = at-least-other l.depth k.depth; most = omega arith };
  depth = deeper-one l.depth k.depth;
  most = max-one l.most k.most;
}

same-limits : (c : Topic) → Higher c.limits c.limits
same-limits c = record { depth = at-least-same c.limits.depth; most = omega arith }

higher : (c : Topic) {x : Call} {y : Step} → Done c x y → Higher y.then.limits c.limits
higher c (raises l e) = record { depth = at-least-deeper c.limits.depth (raised l).depth; most = omega arith }
higher c (by_2 l e) = same-limits c
higher c (by-1 x e) = same-limits c
higher c (again x e h) = same-limits c
higher c (by-6 x e h k) = same-limits c
higher c (accepts x k e h i) = same-limits c
higher c (removes t) = same-limits c
higher c (finds s t room e) = same-limits c
higher c (by-9 s t room e) = same-limits c

higher-trans : (l m n : Limits) → Higher l m → Higher m n → Higher l n
higher-trans l m n p q = record { depth = at-least-trans l.depth m.depth n.depth p.depth q.depth; most = omega (arith, p.most, q.most) }

limits-rise : (c : Topic) (xs : List Call) → Higher (run c xs).limits c.limits
unfolding run
limits-rise c [] = same-limits c
limits-rise c (x ∷ xs) = higher-trans (run (step c x).then xs).limits (step c x).then.limits c.limits (limits-rise (step c x).then xs) (higher c (done c x))

-- ---- tests

no_bool : {C : Type 0} (b : Bool) → b ≡ true → b ≡ false → C
no_bool b p q = let z : true ≡ false = sym p ∙ q in let y : ◌≡◌ {A = ℕ} 0 1 = cc in absurd (omega arith)

and_left : (a b : Bool) → (a && b) ≡ true → a ≡ true
and_left true b e = refl
and_left false b e = e

and_right : (a b : Bool) → (a && b) ≡ true → b ≡ true
and_right true b e = e
and_right false b e = let z : ◌≡◌ {A = ℕ} 0 1 = cc in absurd (omega arith)

-- ---- limits within their bounds, and raised

in_bounds_lem : (n : ℕ) → (in_bounds n ≡ true) ↔ ((1 ≤ n) × (n ≤ 256))
in_bounds_lem n = and_is (le_is 1 n) (le_is n 256)

depth-fits : (o : Option ℕ) → (depth_fits o ≡ true) ↔ ((d : ℕ) → o ≡ some d → (1 ≤ d) × (d ≤ 256))
depth-fits none = (λ e d q. let z : ◌≡◌ {A = ℕ} 0 1 = cc in absurd (omega arith), λ h. refl)
depth-fits (some n) = (λ e d q. let p : n ≡ d = cc in (in_bounds_lem d).0 (rw p at e), λ h. (in_bounds_lem n).1 (h n refl))

limits-fit : (l : Limits) → (limits_fit l ≡ true) ↔ LimitBounds l
unfolding limits_fit
limits-fit l = let x = and_is (in_bounds_lem l.most) (depth-fits l.depth) in (λ e. record { most = (x.0 e).0; depth = (x.0 e).1 }, λ h. x.1 (h.most, h.depth))

raised_is : (l : Limits) → Raised l (raised l)
raised_is l = record {
  depth = refl;
  smaller = λ d q h. ap (λ (o : Option ℕ). raised_to o l.most) q ∙ omega arith;
  not-smaller = λ d q h. ap (λ (o : Option ℕ). raised_to o l.most) q ∙ omega arith;
  keep_all = λ q. ap (λ (o : Option ℕ). raised_to o l.most) q;
}

-- ---- places

bounded : (n : ℕ) → in_bounds n ≡ true → n ≤ 256
bounded n e = ((in_bounds_lem n).0 e).1

raised-low : (l : Limits) → limits_fit l ≡ true → (raised l).most ≤ 256
unfolding limits_fit
raised-low l e = go l.depth (bounded l.most (and_left (in_bounds l.most) (depth_fits l.depth) e)) (and_right (in_bounds l.most) (depth_fits l.depth) e)
  where
    go : (d : Option ℕ) → l.most ≤ 256 → depth_fits d ≡ true → raised_to d l.most ≤ 256
    go none h q = h
    go (some d) h q = omega (arith, h, bounded d q)

pub record Fits (c : Topic) : Type 0 where
  pub few : length c.entries ≤ places
  pub most : c.limits.most ≤ 256

pub must-le : (l : Limits) (t : ℕ) (es : List Entry) → length es - l.most ≤ removal l t es
unfolding removal
must-le l t es = omega arith

-- "whenever the table is full": so there is room after it
roomy : (c : Topic) (x : Change) → Fits c → length (drop (drops_in c x) c.entries) < places
unfolding drops_in collects
roomy c x f = simp length-drop (go (eqb (x.seq % collect_every x.size) 0) (leb places (length c.entries)) refl)
  where
    go : (a b : Bool) → leb places (length c.entries) ≡ b → length c.entries - cond (a || b) (removal c.limits 0 c.entries) 0 < places
    go true true q = omega (arith, must-le c.limits 0 c.entries, f.most, f.few)
    go false true q = omega (arith, must-le c.limits 0 c.entries, f.most, f.few)
    go true false q = omega (arith, leb-false places (length c.entries) q)
    go false false q = omega (arith, leb-false places (length c.entries) q)

left-fits : (c : Topic) (n : ℕ) → Fits c → Fits (left c n)
left-fits c n f = record { few = simp length-drop (omega (arith, f.few)); most = f.most }

fits-done : (c : Topic) {x : Call} {y : Step} → Done c x y → Fits c → Fits y.then
fits-done c (raises l e) f = record { few = f.few; most = omega (arith, f.most, raised-low l e) }
fits-done c (by_2 l e) f = f
fits-done c (by-1 x e) f = f
fits-done c (again x e h) f = left-fits c (drops_in c x) f
fits-done c (by-6 x e h k) f = f
fits-done c (accepts x k e h i) f = record { few = simp length-append (omega (arith, roomy c x f)); most = f.most }
fits-done c (removes t) f = left-fits c (removal c.limits t c.entries) f
fits-done c (finds s t room e) f = f
fits-done c (by-9 s t room e) f = f

pub fits-step : (c : Topic) (x : Call) → Fits c → Fits (step c x).then
fits-step c x f = fits-done c (done c x) f

fits-run : (c : Topic) (xs : List Call) → Fits c → Fits (run c xs)
unfolding run
fits-run c [] f = f
fits-run c (x ∷ xs) f = fits-run (step c x).then xs (fits-step c x f)

pub fits_fresh : (l : Limits) → limits_fit l ≡ true → Fits (fresh l)
fits_fresh l e = record { few = omega arith; most = raised-low l e }

collected-room : (c : Topic) → Fits c → length (collected c).entries ≤ 256
collected-room c f = simp length-drop (omega (arith, must-le c.limits 0 c.entries, f.most))

-- ---- keys

rises-low : (m n : ℕ) (ns : List ℕ) → m ≤ n → Rises n ns → Rises m ns
rises-low m n [] h r = tt
rises-low m n (k ∷ ns) h r = (omega (arith, r.0), r.1)

rises-front : (m n : ℕ) (ns : List ℕ) → Rises m (ns ++ (n ∷ [])) → Rises m ns
rises-front m n [] r = tt
rises-front m n (k ∷ ns) r = (r.0, rises-front k n ns r.1)

rises-more : (m k n : ℕ) (ns : List ℕ) → Rises m (ns ++ (k ∷ [])) → k < n → Rises m ((ns ++ (k ∷ [])) ++ (n ∷ []))
rises-more m k n [] r h = (r.0, (h, tt))
rises-more m k n (a ∷ ns) r h = (r.0, rises-more a k n ns r.1 h)

rises-drop : (j m n : ℕ) (es : List Entry) → Rises m (keys_of es ++ (n ∷ [])) → Rises m (keys_of (drop j es) ++ (n ∷ []))
rises-drop zero m n es r = r
rises-drop (suc j) m n [] r = r
rises-drop (suc j) m n (e ∷ es) r = rises-drop j m n es (rises-low m e.key (keys_of es ++ (n ∷ [])) (omega (arith, r.0)) r.1)

keys-more : (es : List Entry) (e : Entry) → keys_of (es ++ (e ∷ [])) ≡ keys_of es ++ (e.key ∷ [])
keys-more [] e = refl
keys-more (a ∷ es) e = ap (λ (r : List ℕ). a.key ∷ r) (keys-more es e)

-- the keys held rise, and whatever is later than the last key issued is later than them
record Keyed (k : ℕ) (c : Topic) : Type 0 where
  issued : c.last ≡ Some k
  rise : (n : ℕ) → k < n → Rises 0 (keys_of c.entries ++ (n ∷ []))

later-key : (k time n : ℕ) (l : Last) → l ≡ Some k → key_of l time ≡ Some n → k < n
later-key k time n l e i = go l e (key-later l time n i)
  where
    go : (l : Last) → l ≡ Some k → Later l n → k < n
    go None e h = let z : ◌≡◌ {A = ℕ} 0 1 = cc in absurd (omega arith)
    go (Some j) e h = let p : j ≡ k = cc in omega arith

-- the keys answered later rise from the last one
answered-done : (c : Topic) {x : Call} {y : Step} → Done c x y → (k : ℕ) → c.last ≡ Some k → (rest : List ℕ) → ((n : ℕ) → y.then.last ≡ Some n → Rises n rest) → Rises k (key_in y.answer ++ rest)
answered-done c (raises l e) k q rest h = h k q
answered-done c (by_2 l e) k q rest h = h k q
answered-done c (by-1 x e) k q rest h = h k q
answered-done c (again x e i) k q rest h = h k q
answered-done c (by-6 x e i j) k q rest h = h k q
answered-done c (accepts x n e i j) k q rest h = (later-key k x.time n c.last q j, h n refl)
answered-done c (removes t) k q rest h = h k q
answered-done c (finds s t room e) k q rest h = h k q
answered-done c (by-9 s t room e) k q rest h = h k q

answered : (c : Topic) (xs : List Call) (k : ℕ) → c.last ≡ Some k → Rises k (issued_by c xs)
unfolding issued_by
answered c [] k q = tt
answered c (x ∷ xs) k q = answered-done c (done c x) k q (issued_by (step c x).then xs) (λ n e. answered (step c x).then xs n e)

left-keyed : (c : Topic) (k n : ℕ) → Keyed k c → Keyed k (left c n)
left-keyed c k n h = record { issued = h.issued; rise = λ m q. rises-drop n 0 m c.entries (h.rise m q) }

keyed-done : (c : Topic) {x : Call} {y : Step} → Done c x y → (k : ℕ) → Keyed k c → (n : ℕ) × Keyed n y.then
keyed-done c (raises l e) k h = (k, record { issued = h.issued; rise = h.rise })
keyed-done c (by_2 l e) k h = (k, h)
keyed-done c (by-1 x e) k h = (k, h)
keyed-done c (again x e i) k h = (k, left-keyed c k (drops_in c x) h)
keyed-done c (by-6 x e i j) k h = (k, h)
keyed-done c (accepts x n e i j) k h = (
  n,
  record {
    issued = refl;
    rise = λ m q. rw keys-more (rises-more 0 n m (keys_of (drop (drops_in c x) c.entries)) ((left-keyed c k (drops_in c x) h).rise n (later-key k x.time n c.last h.issued j)) q);
  },
)
keyed-done c (removes t) k h = (k, left-keyed c k (removal c.limits t c.entries) h)
keyed-done c (finds s t room e) k h = (k, h)
keyed-done c (by-9 s t room e) k h = (k, h)

keyed-run : (c : Topic) (xs : List Call) (k : ℕ) → Keyed k c → Rises 0 (keys_of (run c xs).entries)
unfolding run
keyed-run c [] k h = rises-front 0 (suc k) (keys_of c.entries) (h.rise (suc k) (omega arith))
keyed-run c (x ∷ xs) k h = let d = keyed-done c (done c x) k h in keyed-run (step c x).then xs d.0 d.1

keyed-fresh : (l : Limits) → Keyed 0 (fresh l)
keyed-fresh l = record { issued = refl; rise = λ n h. (h, tt) }

pub within-cons : (s t : ℕ) (e : Entry) (es : List Entry) → within s t (e ∷ es) ≡ cond (ltb s e.key && leb e.key t) (e ∷ within s t es) (within s t es)
unfolding within
within-cons s t e es = refl

pub within-nil : (s t : ℕ) → within s t [] ≡ []
unfolding within
within-nil s t = refl

rises-within : (s t m : ℕ) (es : List Entry) → Rises m (keys_of es) → Rises m (keys_of (within s t es))
rises-within s t m [] r = rw within-nil tt
rises-within s t m (e ∷ es) r = rw (within-cons s t e es) (go (ltb s e.key && leb e.key t) (rises-within s t e.key es r.1))
  where
    go : (b : Bool) → Rises e.key (keys_of (within s t es)) → Rises m (keys_of (cond b (e ∷ within s t es) (within s t es)))
    go true h = (r.0, h)
    go false h = rises-low m e.key (keys_of (within s t es)) (omega (arith, r.0)) h

none_within : (s t : ℕ) (es : List Entry) → t < s → within s t es ≡ []
none_within s t [] h = within-nil s t
none_within s t (e ∷ es) h = within-cons s t e es ∙ split (ltb s e.key)
    (λ q. rw (q, lt-leb e.key t (omega (arith, ltb-true s e.key q))) (none_within s t es h))
    (λ q. rw q (none_within s t es h))

-- ---- each pair once

times-cons : (w : List ℕ) (s : ℕ) (e : Entry) (es : List Entry) → times w s (e ∷ es) ≡ cond (is_pair w s e) 1 0 + times w s es
unfolding times
times-cons w s e es = refl

times-nil : (w : List ℕ) (s : ℕ) → times w s [] ≡ 0
unfolding times
times-nil w s = refl

times-drop : (w : List ℕ) (s n : ℕ) (es : List Entry) → times w s (drop n es) ≤ times w s es
times-drop w s zero es = omega arith
times-drop w s (suc n) [] = omega arith
times-drop w s (suc n) (e ∷ es) = omega (arith, times-drop w s n es, times-cons w s e es)

times-append : (w : List ℕ) (s : ℕ) (a b : List Entry) → times w s (a ++ b) ≡ times w s a + times w s b
times-append w s [] b = omega (arith, times-nil w s)
times-append w s (e ∷ a) b = omega (arith, times-append w s a b, times-cons w s e a, times-cons w s e (a ++ b))

pair-cons : (w : List ℕ) (s : ℕ) (e : Entry) (es : List Entry) → holds_pair w s (e ∷ es) ≡ (is_pair w s e || holds_pair w s es)
unfolding holds_pair
pair-cons w s e es = refl

not-held : (w : List ℕ) (s : ℕ) (es : List Entry) → holds_pair w s es ≡ false → times w s es ≡ 0
not-held w s [] h = times-nil w s
not-held w s (e ∷ es) h = times-cons w s e es ∙ split (is_pair w s e)
    (λ q. let z : true ≡ false = sym (pair-cons w s e es ∙ rw q) ∙ h in let y : ◌≡◌ {A = ℕ} 0 1 = cc in absurd (omega arith))
    (λ q. rw q (omega (arith, not-held w s es (sym (pair-cons w s e es ∙ rw q) ∙ h))))

same-is : (a b : List ℕ) → same_bytes a b ≡ true → a ≡ b
unfolding same_bytes
same-is [] [] h = refl
same-is [] (y ∷ b) h = let z : ◌≡◌ {A = ℕ} 0 1 = cc in absurd (omega arith)
same-is (x ∷ a) [] h = let z : ◌≡◌ {A = ℕ} 0 1 = cc in absurd (omega arith)
same-is (x ∷ a) (y ∷ b) h =
    let p : x ≡ y = eqb-true x y (and_left (eqb x y) (same_bytes a b) h) in
    let q : a ≡ b = same-is a b (and_right (eqb x y) (same_bytes a b) h) in cc

left-once : (c : Topic) (n : ℕ) → ((w : List ℕ) (s : ℕ) → times w s c.entries ≤ 1) → (w : List ℕ) (s : ℕ) → times w s (drop n c.entries) ≤ 1
left-once c n h w s = omega (arith, h w s, times-drop w s n c.entries)

once-done : (c : Topic) {x : Call} {y : Step} → Done c x y → ((w : List ℕ) (s : ℕ) → times w s c.entries ≤ 1) → (w : List ℕ) (s : ℕ) → times w s y.then.entries ≤ 1
once-done c (raises l e) h = h
once-done c (by_2 l e) h = h
once-done c (by-1 x e) h = h
once-done c (again x e i) h = left-once c (drops_in c x) h
once-done c (by-6 x e i j) h = h
once-done c (accepts x k e i j) h = λ w s.
    let es : List Entry = drop (drops_in c x) c.entries in
    rw (times-append w s es (entry_of x k ∷ []), times-cons w s (entry_of x k) [], times-nil)
    (split (is_pair w s (entry_of x k))
    (λ q.
    let a : x.seq ≡ s = eqb-true x.seq s (and_left (eqb x.seq s) (same_bytes x.writer w) q) in
    let b : x.writer ≡ w = same-is x.writer w (and_right (eqb x.seq s) (same_bytes x.writer w) q) in
    let z : times w s es ≡ 0 = ap (λ (v : List ℕ). times v s es) (sym b) ∙ ap (λ (n : ℕ). times x.writer n es) (sym a) ∙ not-held x.writer x.seq es i in
    rw q (omega arith))
    (λ q. rw q (omega (arith, left-once c (drops_in c x) h w s))))
once-done c (removes t) h = left-once c (removal c.limits t c.entries) h
once-done c (finds s t room e) h = h
once-done c (by-9 s t room e) h = h

once-run : (c : Topic) (xs : List Call) → ((w : List ℕ) (s : ℕ) → times w s c.entries ≤ 1) → (w : List ℕ) (s : ℕ) → times w s (run c xs).entries ≤ 1
unfolding run
once-run c [] h = h
once-run c (x ∷ xs) h = once-run (step c x).then xs (once-done c (done c x) h)

once-fresh : (l : Limits) (w : List ℕ) (s : ℕ) → times w s (fresh l).entries ≤ 1
once-fresh l w s = omega (arith, times-nil w s)

-- ---- the answers to an add

-- when it collects
every-64 : (n : ℕ) → (eqb (n % 64) 0 ≡ true) ↔ MultipleOf 64 n
every-64 n = (λ e. (n / 64, omega (arith, eqb-true (n % 64) 0 e)), λ (j, q). eq-eqb (n % 64) 0 (omega arith))

every-8 : (n : ℕ) → (eqb (n % 8) 0 ≡ true) ↔ MultipleOf 8 n
every-8 n = (λ e. (n / 8, omega (arith, eqb-true (n % 8) 0 e)), λ (j, q). eq-eqb (n % 8) 0 (omega arith))

every-1 : (n : ℕ) → eqb (n % 1) 0 ≡ true
every-1 n = eq-eqb (n % 1) 0 (omega arith)

module _ (c : Topic) (x : Change) where
  abbrev sized : Bool
  sized = eqb (x.seq % collect_every x.size) 0

  sized-there : sized ≡ true → Collects c x
  sized-there e = split (leb x.size 1024)
      (λ a. small (leb-true x.size 1024 a) ((every-64 x.seq).0 (rw a at e)))
      (λ a. split (leb x.size 65536)
      (λ b. medium (leb-false x.size 1024 a) (leb-true x.size 65536 b) ((every-8 x.seq).0 (rw (a, b) at e)))
      (λ b. large (leb-false x.size 65536 b)))

  collects-there : (a b : Bool) → sized ≡ a → leb places (length c.entries) ≡ b → a || b ≡ true → Collects c x
  collects-there true b p q e = sized-there p
  collects-there false b p q e = full (leb-true places (length c.entries) (q ∙ e))

  sized-back : sized ≡ true → sized || leb places (length c.entries) ≡ true
  sized-back e = rw e

  collects-back : Collects c x → sized || leb places (length c.entries) ≡ true
  collects-back (small h k) = sized-back (rw (le-leb x.size 1024 h) ((every-64 x.seq).1 k))
  collects-back (medium g h k) = sized-back (rw (lt-leb x.size 1024 g, le-leb x.size 65536 h) ((every-8 x.seq).1 k))
  collects-back (large h) = sized-back (rw (lt-leb x.size 1024 (omega arith), lt-leb x.size 65536 h) (every-1 x.seq))
  collects-back (full h) = rw (le-leb places (length c.entries) h) (or-true sized)

  collects-is : (collects c x ≡ true) ↔ Collects c x
  unfolding collects
  collects-is = (λ e. collects-there sized (leb places (length c.entries)) refl refl e, collects-back)

  some_first : (first : Topic) × First c x first
  some_first = split (collects c x)
      (λ e. (collected c, collecting (collects-is.0 e)))
      (λ e. (c, as-it-is (λ h. no_bool (collects c x) (collects-is.1 h) e)))

  first-is : {first : Topic} → First c x first → first ≡ left c (drops_in c x)
  first-is (collecting h) = sym (ap (λ (b : Bool). cond b (collected c) c) (collects-is.1 h)) ∙ collected-is c x
  first-is (as-it-is h) = split (collects c x)
      (λ e. absurd (h (collects-is.0 e)))
      (λ e. sym (ap (λ (b : Bool). cond b (collected c) c) e) ∙ collected-is c x)

refused-later : (c : Topic) (time : ℕ) → key_of c.last time ≡ None → NoLaterKey c
refused-later c time e = refused_none c.last time (ap issued_number e)

later-refused : (c : Topic) (time k : ℕ) → time < 2 ^ 64 → NoLaterKey c → key_of c.last time ≡ Some k → ⊥
later-refused c time k h n e = let z : ◌≡◌ {A = ℕ} 0 6 = ap issued_number (sym e) ∙ none-refused c.last time h n in omega arith

in-range : (s : ℕ) → (seq_fits s ≡ true) ↔ InRange s
in-range s = and_is (le_is 1 s) (ltb-true s (2 ^ 63), lt-ltb s (2 ^ 63))

answers : (c first : Topic) (x : Change) {y : Step} → Done c (add x) y → first ≡ left c (drops_in c x) → x.time < 2 ^ 64 → AddAnswers c first x y
answers c first x (by-1 x' e) f h = record {
  by-1 = (λ q h. no_bool (seq_fits x.seq) ((in-range x.seq).1 h) e, λ q. refl);
  again = (λ q. let z : ◌≡◌ {A = ℕ} 0 1 = cc in absurd (omega arith), λ q. no_bool (seq_fits x.seq) ((in-range x.seq).1 q.0) e);
  stands = λ q. let z : ◌≡◌ {A = ℕ} 0 1 = cc in absurd (omega arith);
  by-6 = (λ q. let z : ◌≡◌ {A = ℕ} 1 6 = cc in absurd (omega arith), λ q. no_bool (seq_fits x.seq) ((in-range x.seq).1 q.0) e);
  by-no-other = λ n q d. let z : n ≡ 1 = cc in absurd (d z);
  accepted = λ k q. let z : ◌≡◌ {A = ℕ} 0 1 = cc in absurd (omega arith);
}
answers c first x (again x' e i) f h = record {
  by-1 = (λ q. let z : ◌≡◌ {A = ℕ} 0 1 = cc in absurd (omega arith), λ q. absurd (q ((in-range x.seq).0 e)));
  again = (λ q. ((in-range x.seq).0 e, held), λ q. refl);
  stands = λ q. sym f;
  by-6 = (λ q. let z : ◌≡◌ {A = ℕ} 0 1 = cc in absurd (omega arith), λ q. no_bool (held_in first x) held q.1);
  by-no-other = λ n q d. let z : ◌≡◌ {A = ℕ} 0 1 = cc in absurd (omega arith);
  accepted = λ k q. let z : ◌≡◌ {A = ℕ} 0 1 = cc in absurd (omega arith);
}
  where
    held : held_in first x ≡ true
    held = ap (λ (t : Topic). held_in t x) f ∙ i
answers c first x (by-6 x' e i j) f h = record {
  by-1 = (λ q. let z : ◌≡◌ {A = ℕ} 6 1 = cc in absurd (omega arith), λ q. absurd (q ((in-range x.seq).0 e)));
  again = (λ q. let z : ◌≡◌ {A = ℕ} 0 1 = cc in absurd (omega arith), λ q. no_bool (held_in first x) q.1 free);
  stands = λ q. let z : ◌≡◌ {A = ℕ} 0 1 = cc in absurd (omega arith);
  by-6 = (λ q. ((in-range x.seq).0 e, free, refused-later c x.time j), λ q. refl);
  by-no-other = λ n q d. let z : n ≡ 6 = cc in z;
  accepted = λ k q. let z : ◌≡◌ {A = ℕ} 0 1 = cc in absurd (omega arith);
}
  where
    free : held_in first x ≡ false
    free = ap (λ (t : Topic). held_in t x) f ∙ i
answers c first x (accepts x' n e i j) f h = record {
  by-1 = (λ q. let z : ◌≡◌ {A = ℕ} 0 1 = cc in absurd (omega arith), λ q. absurd (q ((in-range x.seq).0 e)));
  again = (λ q. let z : ◌≡◌ {A = ℕ} 0 1 = cc in absurd (omega arith), λ q. no_bool (held_in first x) q.1 free);
  stands = λ q. let z : ◌≡◌ {A = ℕ} 0 1 = cc in absurd (omega arith);
  by-6 = (λ q. let z : ◌≡◌ {A = ℕ} 0 1 = cc in absurd (omega arith), λ q. absurd (later-refused c x.time n h q.2 j));
  by-no-other = λ r q d. let z : ◌≡◌ {A = ℕ} 0 1 = cc in absurd (omega arith);
  accepted = λ k q. let p : n ≡ k = cc in (j ∙ ap Some p, rw (p, f));
}
  where
    free : held_in first x ≡ false
    free = ap (λ (t : Topic). held_in t x) f ∙ i

-- ---- how many a removal leaves

-- the number left, of loose numbers
abbrev left_over : Option ℕ → ℕ → ℕ → ℕ → ℕ
left_over o most held below = held - max (held - most) (min (may_for o (held - most) held) below)

over-most : (o : Option ℕ) (most held below : ℕ) → left_over o most held below ≤ most
over-most o most held below = omega arith

no_more : (m x below k : ℕ) → m ≤ k → x ≤ k → max m (min x below) ≤ k
no_more m x below k p q = omega arith

kept : (d held n : ℕ) → n ≤ held - d → min d held ≤ held - n
kept d held n h = omega arith

over-depth : (d most held below : ℕ) → d ≤ most → min d held ≤ left_over (some d) most held below
over-depth d most held below h = kept d held _ (no_more (held - most) (max (held - most) (held - d)) below (held - d) (omega arith) (omega arith))

no_less : (m x below k : ℕ) → k ≤ x → min k below ≤ max m (min x below)
no_less m x below k h = omega arith

rest : (d held below n : ℕ) → min (held - d) below ≤ n → held - n ≤ max d (held - below)
rest d held below n h = omega arith

over-old : (d most held below : ℕ) → left_over (some d) most held below ≤ max d (held - below)
over-old d most held below = rest d held below _ (no_less (held - most) (max (held - most) (held - d)) below (held - d) (omega arith))

over-all : (most held below : ℕ) → left_over none most held below ≡ min most held
over-all most held below = omega arith

over-late : (o : Option ℕ) (most held below : ℕ) → min most (held - below) ≤ left_over o most held below
over-late o most held below = omega arith

left_over_lem : (c : Topic) (t : ℕ) → length (removed_before t c).entries ≡ left_over c.limits.depth c.limits.most (length c.entries) (count_below t c.entries)
unfolding removal
left_over_lem c t = length-drop (removal c.limits t c.entries) c.entries

left_by_lem : (c : Topic) (t : ℕ) → Leaves c t (length (removed_before t c).entries)
left_by_lem c t =
    let most : ℕ = c.limits.most in
    let held : ℕ = length c.entries in
    let below : ℕ = count_below t c.entries in
    let e : length (removed_before t c).entries ≡ left_over c.limits.depth most held below = left_over_lem c t in
    record {
      within-most = rw e (over-most c.limits.depth most held below);
      keeps-depth = λ d q h. rw e (subst (λ (o : Option ℕ). min d held ≤ left_over o most held below) (sym q) (over-depth d most held below h));
      drops-old = λ d q. rw e (subst (λ (o : Option ℕ). left_over o most held below ≤ max d (held - below)) (sym q) (over-old d most held below));
      keeps-all = λ q. e ∙ ap (λ (o : Option ℕ). left_over o most held below) q ∙ over-all most held below;
      keeps-late = rw e (over-late c.limits.depth most held below);
    }

-- ---- the other answers

update-answered : (c : Topic) (l : Limits) {y : Step} → Done c (update l) y → UpdateAnswers c l y
update-answered c l (raises l' e) = record {
  by_2 = (λ q. let z : ◌≡◌ {A = ℕ} 0 1 = cc in absurd (omega arith), λ q. absurd (q ((limits-fit l).0 e)));
  raises = λ h. (raised l, wider c.limits (raised l), raised_is l, greater-is c.limits (raised l), refl);
}
update-answered c l (by_2 l' e) = record {
  by_2 = (λ q h. no_bool (limits_fit l) ((limits-fit l).1 h) e, λ q. refl);
  raises = λ h. no_bool (limits_fit l) ((limits-fit l).1 h) e;
}

range-answered : (c : Topic) (s t room : ℕ) {y : Step} → Done c (range s t room) y → RangeAnswers c s t room y.answer
range-answered c s t room (finds s' t' room' e) = record {
  by-9 = (λ q. let z : ◌≡◌ {A = ℕ} 0 1 = cc in absurd (omega arith), λ q. absurd (omega (arith, leb-true (length (within s t c.entries)) room e)));
  finds = λ q. refl;
}
range-answered c s t room (by-9 s' t' room' e) = record { by-9 = (λ q. leb-false (length (within s t c.entries)) room e, λ q. refl); finds = λ q. absurd (omega (arith, leb-false (length (within s t c.entries)) room e)) }

-- ---- all of them

pub topic-promises : TopicPromises
topic-promises = record {
  keys-rise = λ l xs. answered (fresh l) xs 0 refl;
  in-key-order = λ l xs. keyed-run (fresh l) xs 0 (keyed-fresh l);
  range-in-key-order = λ l xs s t. rises-within s t 0 (run (fresh l) xs).entries (keyed-run (fresh l) xs 0 (keyed-fresh l));
  held-once = λ l xs. once-run (fresh l) xs (once-fresh l);
  few = λ l xs e. (fits-run (fresh l) xs (fits_fresh l e)).few;
  from-the-oldest = λ c x. oldest c (done c x);
  leaves = left_by_lem;
  limits-fit = limits-fit;
  limits-raised = raised_is;
  limits-default = (refl, refl);
  limits-rise = limits-rise;
  room = λ l xs e. collected-room (run (fresh l) xs) (fits-run (fresh l) xs (fits_fresh l e));
  refused-changes-nothing = λ c x n e. unchanged c (done c x) n e;
  add-first = some_first;
  add-answers = λ c first x f h. answers c first x (done c (add x)) (first-is c x f) h;
  update-answers = λ c l. update-answered c l (done c (update l));
  range-answers = λ c s t room. range-answered c s t room (done c (range s t room));
  start-above-end = none_within;
}
