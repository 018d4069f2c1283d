-- Counting live samples: one law for each change, whatever is counted.
use mathlib.Core.Path.{◌≡◌, refl, ap}
use mathlib.Core.Bool.{Bool, true, false, cond}
use mathlib.Core.List.{List, [], ◌∷◌, ◌++◌, map}
use mathlib.Core.Option.{Option, some, none}
use Prim.Native.Nat.{ℕ, zero, suc, ◌+◌, ◌≤◌, ◌<◌}
use native.Mathlib.Omega.{arith}
use lib.Dec.{eqb}
use lib.ListN.{length, replicate}
use Rattle.model.specs.Pairs.{Pair}
use Rattle.model.specs.Model.{Model, Instance, Live, Arrival, Place, gone, held, find, put, live_in, lives, count, push, window, as_read, listed_in, touch, listed, old_of, arrived, roomy}
use Rattle.model.specs.Story.{lives_of}
use Rattle.model.proofs.Laws.{put-here, put-there, find-here, find-there}
use Rattle.model.specs.PairLaws.{split}

abbrev pub bit : Bool → ℕ
bit b = cond b 1 0

pub live-append : (ps qs : List Place) → live_in (ps ++ qs) ≡ live_in ps ++ live_in qs
unfolding live_in
live-append [] qs = refl
live-append (gone ∷ ps) qs = live-append ps qs
live-append (held s ∷ ps) qs = ap (s ∷◌) (live-append ps qs)

pub gone-live : (d : ℕ) → live_in (replicate d gone) ≡ []
unfolding live_in
gone-live zero = refl
gone-live (suc d) = gone-live d

pub window-live : (k : Option ℕ) → live_in (window k) ≡ []
unfolding window live_in
window-live none = refl
window-live (some d) = gone-live d

-- a window has a place to push out
abbrev pub Pushable : Option ℕ → List Place → Type 0
Pushable none ps = Unit {0}
Pushable (some d) ps = 0 < length ps

-- ---- counting live lives
module _ (p : Live → Bool) where
  pub count-append : (s t : List Live) → count p (s ++ t) ≡ count p s + count p t
  unfolding count
  count-append [] t = omega arith
  count-append (x ∷ s) t = omega (arith, count-append s t)

  pub count-put : (j : Instance) (is : List Instance) → count p (lives (put j is)) + count p (lives_of (find j.name is)) ≡ count p (lives is) + count p (live_in j.places)
  unfolding put find lives count
  count-put j [] = rw count-append (omega arith)
  count-put j (i ∷ is) = split (eqb i.name j.name)
      (λ e. rw (put-here j i is e, find-here j.name i is e) (simp count-append (omega arith)))
      (λ e. rw (put-there j i is e, find-there j.name i is e) (simp count-append (omega (arith, count-put j is))))

  pub count-push : (k : Option ℕ) (ps : List Place) (s : Live) → Pushable k ps → count p (live_in (push k ps (held s))) ≡ count p (live_in (push k ps gone)) + bit (p s)
  unfolding push live_in count
  count-push none ps s h = rw (live-append ps (held s ∷ []), live-append ps (gone ∷ [])) (simp count-append (omega arith))
  count-push (some d) [] s h = absurd (omega arith)
  count-push (some d) (q ∷ qs) s h = rw (live-append qs (held s ∷ []), live-append qs (gone ∷ [])) (simp count-append (omega arith))

  pub count-push-gone : (k : Option ℕ) (ps : List Place) → count p (live_in (push k ps gone)) ≤ count p (live_in ps)
  unfolding push live_in count
  count-push-gone none ps = rw (live-append ps (gone ∷ []), count-append) (omega arith)
  count-push-gone (some d) [] = omega arith
  count-push-gone (some d) (gone ∷ qs) = rw (live-append qs (gone ∷ []), count-append) (omega arith)
  count-push-gone (some d) (held s ∷ qs) = rw (live-append qs (gone ∷ []), count-append) (omega arith)

  pub count-places : (ps : List Place) → count p (live_in ps) ≤ length ps
  unfolding live_in count
  count-places [] = omega arith
  count-places (gone ∷ ps) = omega (arith, count-places ps)
  count-places (held s ∷ ps) = split (p s) (λ e. rw e (omega (arith, count-places ps))) (λ e. rw e (omega (arith, count-places ps)))

  -- a test that does not ask whether the sample was read
  module _ (blind : (s : Live) → p (as_read s) ≡ p s) where
    pub count-touch : (t : Bool) (n : ℕ) (ps : List Pair) (qs : List Place) → count p (live_in (map (touch t n ps) qs)) ≤ count p (live_in qs)
    unfolding live_in count
    count-touch t n ps [] = omega arith
    count-touch t n ps (gone ∷ qs) = count-touch t n ps qs
    count-touch true n ps (held s ∷ qs) = split (listed_in n ps s)
        (λ e. rw e (omega (arith, count-touch true n ps qs)))
        (λ e. rw e (omega (arith, count-touch true n ps qs)))
    count-touch false n ps (held s ∷ qs) = split (listed_in n ps s)
        (λ e. rw (e, blind s) (omega (arith, count-touch false n ps qs)))
        (λ e. rw e (omega (arith, count-touch false n ps qs)))

    pub count-listed : (t : Bool) (ps : List Pair) (is : List Instance) → count p (lives (map (listed t ps) is)) ≤ count p (lives is)
    unfolding lives
    count-listed t ps [] = omega arith
    count-listed t ps (i ∷ is) = simp count-append (omega (arith, count-touch t i.name ps i.places, count-listed t ps is))

-- ---- an accepted add
pub count-true : (ss : List Live) → count (λ s. true) ss ≡ length ss
unfolding count
count-true [] = refl
count-true (s ∷ ss) = omega (arith, count-true ss)

abbrev pub new : Model → Arrival → Place → List Instance
new m a x = put (arrived m.keep (old_of m a) a x) m.instances

pub old-count : (m : Model) (a : Arrival) (p : Live → Bool) → count p (live_in (old_of m a).places) ≡ count p (lives_of (find a.name m.instances))
unfolding old_of count
old-count m a p = go (find a.name m.instances) refl
  where
    go : (o : Option Instance) → find a.name m.instances ≡ o → count p (live_in (old_of m a).places) ≡ count p (lives_of (find a.name m.instances))
    go none f = rw (f, window-live m.keep)
    go (some j) f = rw f

-- the new sample is the one more than after making room
pub new-count : (m : Model) (a : Arrival) → Pushable m.keep (old_of m a).places → (p : Live → Bool) (s : Live) → count p (lives (new m a (held s))) ≡ count p (lives (roomy m a)) + bit (p s)
unfolding roomy arrived
new-count m a h p s = omega (arith, count-put p (arrived m.keep (old_of m a) a (held s)) m.instances, count-put p (arrived m.keep (old_of m a) a gone) m.instances, count-push p m.keep (old_of m a).places s h)

-- making room frees slots and fills none
pub roomy-count : (m : Model) (a : Arrival) (p : Live → Bool) → count p (lives (roomy m a)) ≤ count p (lives m.instances)
unfolding roomy arrived
roomy-count m a p = omega (arith, count-put p (arrived m.keep (old_of m a) a gone) m.instances, count-push-gone p m.keep (old_of m a).places, old-count m a p)

pub count-length : (p : Live → Bool) (ss : List Live) → count p ss ≤ length ss
unfolding count
count-length p [] = omega arith
count-length p (s ∷ ss) = split (p s) (λ e. rw e (omega (arith, count-length p ss))) (λ e. rw e (omega (arith, count-length p ss)))
