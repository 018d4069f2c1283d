-- Each instance holds exactly the last d of its accepted samples, less those taken, in order of acceptance.
use mathlib.Core.Path.{◌≡◌, refl, sym, ◌∙◌, ap}
use mathlib.Core.Bool.{Bool, false}
use mathlib.Core.List.{List, [], ◌∷◌}
use mathlib.Core.Option.{Option, some, none}
use Prim.Native.Nat.{ℕ, min}
use lib.Dec.{eqb}
use lib.ListN.{length, length-drop}
use lib.Seq.{drop-nil}
use native.Mathlib.Omega.{arith}
use borrow.Author.Tests.{eqb-true}
use Rattle.sampleinfo.specs.Lifecycle.{becomes}
use Rattle.sampleinfo.specs.declared.InstanceState.{InstanceState}
use Rattle.model.specs.Pairs.{Pair}
use Rattle.model.specs.Model.{Model, Instance, Arrival, Call, Step, set_up, add, no_writers, choose, read_or_take, next_key, held, fresh, issue_of, key_in, state_in, or_fresh, find, arrived, live_of, old_of, slot_of, accept, left, listed, access, step}
use Rattle.model.specs.Story.{lives_of, live_at, Story, Entry, run, trace, came, bereft, noted, or_new, map_o, keep_after, tell, tell_all, story_of, entries_in, entries_of, holds, untaken, last_of}
use Rattle.model.proofs.Laws.{Done, turned, began, came as arrival, lost, looked, went, asked, done, find-name, find-put-same, find-put-other, find-map, places_of, places-none, places-push, places-touch, places-hold}
use Rattle.model.specs.PairLaws.{split}

-- the instance that a story comes to
abbrev pub told_by : Option ℕ → ℕ → Story → Instance
told_by d n s = record { name = n; meta = s.meta; places = places_of d s.entries }

-- ---- each kind of change, on a story and on its instance
told_fresh : (d : Option ℕ) (n : ℕ) (l : InstanceState) (s : Option Story) → or_fresh d n l (map_o (told_by d n) s) ≡ told_by d n (or_new l s)
told_fresh d n l none = rw places-none
told_fresh d n l (some s) = refl

told-came : (d : Option ℕ) (a : Arrival) (key slot : ℕ) (s : Story) (k : Option ℕ) (o : Instance) → k ≡ d → o ≡ told_by d a.name s
    → arrived k o a (held (live_of a (becomes o.meta (state_in a)) key slot)) ≡ told_by d a.name (came a key slot s)
unfolding arrived
told-came d a key slot s k o p q = rw (p, q, ← places-push d s.entries (record { sample = live_of a (becomes s.meta (state_in a)) key slot; taken = false }))

told-noted : (d : Option ℕ) (n : ℕ) (t : Bool) (ps : List Pair) (s : Story) → listed t ps (told_by d n s) ≡ told_by d n (noted d n t ps s)
told-noted d n t ps s = rw (places-hold, places-touch)

told-left : (d : Option ℕ) (n : ℕ) (i : Instance) (s : Option Story) → map_o (told_by d n) s ≡ some i → some (left i) ≡ map_o (told_by d n) (map_o bereft s)
told-left d n i none e = cc
told-left d n i (some s) e = let p : told_by d n s ≡ i = cc in rw (← p)

-- ---- each call
module _ (d : Option ℕ) (m : Model) (keeps : m.keep ≡ d) where
  old-told : (a : Arrival) (s : Option Story) → find a.name m.instances ≡ map_o (told_by d a.name) s → old_of m a ≡ told_by d a.name (or_new (state_in a) s)
  unfolding old_of
  old-told a s now = rw (now, keeps, told_fresh)

  told-accept : (a : Arrival) (s : Option Story) → find a.name m.instances ≡ map_o (told_by d a.name) s
      → find a.name (accept m a).then.instances ≡ some (told_by d a.name (came a (key_in (issue_of m a)) (slot_of m a) (or_new (state_in a) s)))
  unfolding accept arrived
  told-accept a s now = find-put-same _ a.name m.instances refl ∙ ap some (told-came d a (key_in (issue_of m a)) (slot_of m a) (or_new (state_in a) s) m.keep (old_of m a) keeps (old-told a s now))

  keep-done : {c : Call} {x : Step} → Done m c x → x.then.keep ≡ keep_after d c x.answer
  unfolding accept access
  keep-done (turned (set_up u) r) = keeps
  keep-done (turned (add a) r) = keeps
  keep-done (turned (no_writers k) r) = keeps
  keep-done (turned (choose w k room) r) = keeps
  keep-done (turned (read_or_take t ps room) r) = keeps
  keep-done (turned (next_key k) r) = keeps
  keep-done (began u e) = refl
  keep-done (arrival a e) = keeps
  keep-done (lost k i e) = keeps
  keep-done (looked w k room r) = keeps
  keep-done (went t ps room e) = keeps
  keep-done (asked k r) = keeps

  module _ (n : ℕ) (s : Option Story) (now : find n m.instances ≡ map_o (told_by d n) s) where
    told-done : {c : Call} {x : Step} → Done m c x → find n x.then.instances ≡ map_o (told_by (keep_after d c x.answer) n) (tell d n s c x.answer)
    unfolding tell accept access arrived find
    told-done (turned (set_up u) r) = now
    told-done (turned (add a) r) = now
    told-done (turned (no_writers k) r) = now
    told-done (turned (choose w k room) r) = now
    told-done (turned (read_or_take t ps room) r) = now
    told-done (turned (next_key k) r) = now
    told-done (began u e) = refl
    told-done (arrival a e) = split (eqb a.name n)
        (λ q. rw (q, ← eqb-true a.name n q) (told-accept a s (rw (← eqb-true a.name n q) at now)))
        (λ q. rw q (find-put-other _ n m.instances q ∙ now))
    told-done (lost k i e) = split (eqb k n)
        (λ q. rw (q, ← eqb-true k n q) (find-put-same (left i) k m.instances (find-name k m.instances i e) ∙ told-left d k i s (sym (rw (← eqb-true k n q) at now) ∙ e)))
        (λ q. rw q (find-put-other (left i) n m.instances (rw (find-name k m.instances i e) q) ∙ now))
    told-done (looked w k room r) = now
    told-done (went t ps room e) = rw (find-map (listed t ps) (λ i. refl) n m.instances, now) (noting s)
      where
        noting : (s : Option Story) → map_o (listed t ps) (map_o (told_by d n) s) ≡ map_o (told_by d n) (map_o (noted d n t ps) s)
        noting none = refl
        noting (some s) = ap some (told-noted d n t ps s)
    told-done (asked k r) = now

-- ---- any calls: an instance is what its own story comes to
told : (d : Option ℕ) (n : ℕ) (m : Model) (s : Option Story) (cs : List Call) → m.keep ≡ d → find n m.instances ≡ map_o (told_by d n) s
    → find n (run m cs).instances ≡ map_o (told_by (tell_all d n s (trace m cs)).keep n) (tell_all d n s (trace m cs)).story
unfolding run trace tell_all
told d n m s [] keeps now = now
told d n m s (c ∷ cs) keeps now =
    told (keep_after d c (step m c).answer) n (step m c).then (tell d n s c (step m c).answer) cs (keep-done d m keeps (done m c)) (told-done d m keeps n s now (done m c))

keep-told : (d : Option ℕ) (n : ℕ) (m : Model) (s : Option Story) (cs : List Call) → m.keep ≡ d → (run m cs).keep ≡ (tell_all d n s (trace m cs)).keep
unfolding run trace tell_all
keep-told d n m s [] keeps = keeps
keep-told d n m s (c ∷ cs) keeps = keep-told (keep_after d c (step m c).answer) n (step m c).then (tell d n s c (step m c).answer) cs (keep-done d m keeps (done m c))

-- the present keep count is the one that the story tells
pub keep-is-told : (d : Option ℕ) (i n : ℕ) (cs : List Call) → (run (fresh d i) cs).keep ≡ (story_of d n (trace (fresh d i) cs)).keep
keep-is-told d i n cs = keep-told d n (fresh d i) none cs refl

pub instance-told : (d : Option ℕ) (i n : ℕ) (cs : List Call)
    → find n (run (fresh d i) cs).instances ≡ map_o (told_by (run (fresh d i) cs).keep n) (story_of d n (trace (fresh d i) cs)).story
unfolding find
instance-told d i n cs = rw (keep-is-told d i n cs) (told d n (fresh d i) none cs refl refl)

none-held : (d : Option ℕ) → [] ≡ holds d []
unfolding untaken
none-held none = refl
none-held (some d) = rw drop-nil

pub holds-last : (d : Option ℕ) (i n : ℕ) (cs : List Call) → live_at n (run (fresh d i) cs) ≡ holds (run (fresh d i) cs).keep (entries_of d n (trace (fresh d i) cs))
holds-last d i n cs = rw (instance-told d i n cs) (go (run (fresh d i) cs).keep (story_of d n (trace (fresh d i) cs)).story)
  where
    go : (k : Option ℕ) (s : Option Story) → lives_of (map_o (told_by k n) s) ≡ holds k (entries_in s)
    go k none = none-held k
    go k (some s) = places-hold k s.entries

pub length_last : (d : ℕ) (es : List Entry) → length (last_of d es) ≡ min d (length es)
length_last d es = rw length-drop (omega arith)
