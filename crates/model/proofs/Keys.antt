-- Keys rise strictly in order of acceptance, the last one stays, and no live key is past it.
use Rattle.std.specs.Prelude.{Some, None}
use mathlib.Core.Path.{◌≡◌, refl, ◌∙◌}
use mathlib.Core.Bool.{Bool, true, false, ◌&&◌, cond}
use mathlib.Core.List.{List, [], ◌∷◌, ◌++◌}
use mathlib.Core.Option.{Option, some, none}
use Prim.Native.Nat.{ℕ, ◌<◌}
use native.Mathlib.Omega.{arith}
use lib.Dec.{eqb}
use Rattle.sampleinfo.specs.declared.InstanceState.{InstanceState}
use Rattle.model.specs.Pairs.{Pair}
use Rattle.model.specs.Model.{Model, Arrival, Call, Step, set_up, add, no_writers, choose, read_or_take, next_key, Answer, fresh, listed_in, issue_of, key_in, refusal_of, accept, access, step}
use Rattle.keys.specs.Keys.{Last, Later}
use Rattle.model.specs.Story.{live_at, Event, Entry, Story, run, trace, accepted, issued_to, keys_from, all_keys, entry_keys, last_key, Rises, AtMost, Every, map_o, touch_entry, noted, bereft, keep_after, tell, tell_all, entries_in, entries_of, or_new, last_by}
use Rattle.model.proofs.Laws.{every-imp, every_append, every_map, every-last, every-untaken, Done, turned, began, came, lost, looked, went, asked, done, map-append, map-map, map-ext}
use Rattle.model.proofs.Held.{holds-last}
use Rattle.keys.specs.KeyLaws.{key-later}
use Rattle.model.proofs.Refusals.{passed, issue-given}
use Rattle.model.specs.PairLaws.{split}

-- ---- rising lists
later_trans : (o : Last) (k j : ℕ) → Later o k → k < j → Later o j
later_trans None k j p q = tt
later_trans (Some l) k j p q = omega arith

-- one more key, later than the last of them
rises-on : (o : Last) (ks : List ℕ) (k : ℕ) → Rises o ks → Later o k → Every (λ j. j < k) ks → Rises o (ks ++ k ∷ [])
rises-on o [] k r p h = (p, tt)
rises-on o (j ∷ js) k r p h = (r.0, rises-on (Some j) js k r.1 h.0 h.1)

last_on : (o : Last) (ks : List ℕ) (k : ℕ) → last_key o (ks ++ k ∷ []) ≡ Some k
last_on o [] k = refl
last_on o (j ∷ js) k = last_on (Some j) js k

pub at-most-below : (o : Last) (j k : ℕ) → Later o k → AtMost o j → j < k
at-most-below None j k p h = absurd h
at-most-below (Some l) j k p h = omega arith

pub at-most-later : (o : Last) (l k : ℕ) → Later o l → AtMost o k → AtMost (Some l) k
at-most-later None l k p h = absurd h
at-most-later (Some j) l k p h = omega arith

-- ---- the invariant: the keys issued so far rise, and none is past the last
record Risen (m : Model) (ks : List ℕ) : Type 0 where
  rises : Rises None ks
  top : Every (AtMost m.last) ks

abbrev key_now : Model → Arrival → ℕ
key_now m a = key_in (issue_of m a)

pub key-new : (m : Model) (a : Arrival) → refusal_of m a ≡ 0 → Later m.last (key_now m a)
key-new m a e = key-later m.last a.time (key_now m a) (issue-given (issue_of m a) (passed m a e).keyed)

top-on : (m : Model) (ks : List ℕ) (k : ℕ) → Later m.last k → Every (AtMost m.last) ks → Every (AtMost (Some k)) ks
top-on m ks k p h = every-imp (λ j q. at-most-later m.last k j p q) ks h

module _ (p : ℕ → Bool) (ks : List ℕ) {m : Model} (h : Risen m ks) where
  risen-came : (a : Arrival) → refusal_of m a ≡ 0 → Risen (accept m a).then (cond (p a.name) (ks ++ key_now m a ∷ []) ks)
  unfolding accept
  risen-came a e = split (p a.name)
      (λ q. rw q (record {
        rises = rises-on None ks (key_now m a) h.rises tt (every-imp (λ j t. at-most-below m.last j (key_now m a) (key-new m a e) t) ks h.top);
        top = every_append (AtMost (Some (key_now m a))) ks (key_now m a ∷ []) (top-on m ks (key_now m a) (key-new m a e) h.top) (omega arith, tt);
      }))
      (λ q. rw q (record { rises = h.rises; top = top-on m ks (key_now m a) (key-new m a e) h.top }))

  risen-done : {c : Call} {x : Step} → Done m c x → Risen x.then (issued_to p ks c x.answer)
  unfolding accept access
  risen-done (turned (set_up u) q) = h
  risen-done (turned (add a) q) = h
  risen-done (turned (no_writers k) q) = h
  risen-done (turned (choose w k room) q) = h
  risen-done (turned (read_or_take t ps room) q) = h
  risen-done (turned (next_key k) q) = h
  risen-done (began u e) = record { rises = tt; top = tt }
  risen-done (came a e) = risen-came a e
  risen-done (lost k i e) = record { rises = h.rises; top = h.top }
  risen-done (looked w k room q) = h
  risen-done (went t ps room e) = record { rises = h.rises; top = h.top }
  risen-done (asked k q) = h

risen-run : (p : ℕ → Bool) (ks : List ℕ) (m : Model) (cs : List Call) → Risen m ks → Risen (run m cs) (keys_from p ks (trace m cs))
unfolding run trace keys_from
risen-run p ks m [] h = h
risen-run p ks m (c ∷ cs) h = risen-run p (issued_to p ks c (step m c).answer) (step m c).then cs (risen-done p ks h (done m c))

risen : (p : ℕ → Bool) (d : Option ℕ) (i : ℕ) (cs : List Call) → Risen (run (fresh d i) cs) (keys_from p [] (trace (fresh d i) cs))
risen p d i cs = risen-run p [] (fresh d i) cs (record { rises = tt; top = tt })

-- the whole cache
pub all-keys-rise : (d : Option ℕ) (i : ℕ) (cs : List Call) → Rises None (all_keys (trace (fresh d i) cs))
all-keys-rise d i cs = (risen (λ n. true) d i cs).rises

-- ---- the last key issued is the last of all of them
last_done : (ks : List ℕ) {m : Model} {c : Call} {x : Step} → m.last ≡ last_key None ks → Done m c x → x.then.last ≡ last_key None (issued_to (λ n. true) ks c x.answer)
unfolding accept access
last_done ks h (turned (set_up u) q) = h
last_done ks h (turned (add a) q) = h
last_done ks h (turned (no_writers k) q) = h
last_done ks h (turned (choose w k room) q) = h
last_done ks h (turned (read_or_take t ps room) q) = h
last_done ks h (turned (next_key k) q) = h
last_done ks h (began u e) = refl
last_done ks {m} h (came a e) = rw (last_on None ks (key_now m a))
last_done ks h (lost k i e) = h
last_done ks h (looked w k room q) = h
last_done ks h (went t ps room e) = h
last_done ks h (asked k q) = h

last-run : (ks : List ℕ) (m : Model) (cs : List Call) → m.last ≡ last_key None ks → (run m cs).last ≡ last_key None (keys_from (λ n. true) ks (trace m cs))
unfolding run trace keys_from
last-run ks m [] h = h
last-run ks m (c ∷ cs) h = last-run (issued_to (λ n. true) ks c (step m c).answer) (step m c).then cs (last_done ks h (done m c))

pub last-is-last : (d : Option ℕ) (i : ℕ) (cs : List Call) → (run (fresh d i) cs).last ≡ last_key None (all_keys (trace (fresh d i) cs))
last-is-last d i cs = last-run [] (fresh d i) cs refl

-- ---- an instance's story has the keys issued to it
abbrev named : ℕ → ℕ → Bool
named n k = eqb k n

touched-key : (t : Bool) (n : ℕ) (ps : List Pair) (e : Entry) → (touch_entry t n ps e).sample.key ≡ e.sample.key
touched-key true n ps e = split (listed_in n ps e.sample) (λ l. rw l) (λ l. rw l)
touched-key false n ps e = split (listed_in n ps e.sample) (λ l. rw l) (λ l. rw l)

bereft-same : (s : Option Story) → entries_in (map_o bereft s) ≡ entries_in s
bereft-same none = refl
bereft-same (some s) = refl

new-same : (l : InstanceState) (s : Option Story) → (or_new l s).entries ≡ entries_in s
new-same l none = refl
new-same l (some s) = refl

noted-same : (d : Option ℕ) (n : ℕ) (t : Bool) (ps : List Pair) (s : Option Story) → entry_keys (entries_in (map_o (noted d n t ps) s)) ≡ entry_keys (entries_in s)
noted-same d n t ps none = refl
noted-same d n t ps (some s) = map-map _ (touch_entry t n ps) s.entries ∙ map-ext _ _ (touched-key t n ps) s.entries

tell-keys : (d : Option ℕ) (n : ℕ) (s : Option Story) (c : Call) (r : Answer) → entry_keys (entries_in (tell d n s c r)) ≡ issued_to (named n) (entry_keys (entries_in s)) c r
unfolding tell
tell-keys d n s (set_up u) r = split (accepted r) (λ e. rw e) (λ e. rw e)
tell-keys d n s (add a) r = split (accepted r && eqb a.name n)
    (λ e. rw (e, new-same, map-append))
    (λ e. rw e)
tell-keys d n s (no_writers k) r = split (accepted r && eqb k n)
    (λ e. rw (e, bereft-same))
    (λ e. rw e)
tell-keys d n s (choose w k room) r = refl
tell-keys d n s (read_or_take t ps room) r = split (accepted r)
    (λ e. rw e (noted-same d n t ps s))
    (λ e. rw e)
tell-keys d n s (next_key k) r = refl

tell-all-keys : (d : Option ℕ) (n : ℕ) (s : Option Story) (es : List Event) (ks : List ℕ) → entry_keys (entries_in s) ≡ ks → entry_keys (entries_in (tell_all d n s es).story) ≡ keys_from (named n) ks es
unfolding tell_all keys_from
tell-all-keys d n s [] ks h = h
tell-all-keys d n s (e ∷ es) ks h = tell-all-keys (keep_after d e.call e.answer) n (tell d n s e.call e.answer) es (issued_to (named n) ks e.call e.answer) (tell-keys d n s e.call e.answer ∙ rw h)

pub story-keys : (d : Option ℕ) (n : ℕ) (es : List Event) → entry_keys (entries_of d n es) ≡ keys_from (λ k. eqb k n) [] es
story-keys d n es = tell-all-keys d n none es [] refl

pub story-keys-rise : (d : Option ℕ) (i n : ℕ) (cs : List Call) → Rises None (entry_keys (entries_of d n (trace (fresh d i) cs)))
story-keys-rise d i n cs = rw story-keys (risen (named n) d i cs).rises

-- ---- no live key is past the last one issued
pub live-keys-top : (d : Option ℕ) (i n : ℕ) (cs : List Call) → Every (λ s. AtMost (run (fresh d i) cs).last s.key) (live_at n (run (fresh d i) cs))
live-keys-top d i n cs = rw holds-last
    (every-untaken (λ s. Ok s.key) (last_by (run (fresh d i) cs).keep es) (every-last (λ e. Ok e.sample.key) (run (fresh d i) cs).keep es
    (every_map Ok (λ e. e.sample.key) es (rw story-keys (risen (named n) d i cs).top))))
  where
    Ok : ℕ → Type 0
    Ok = AtMost (run (fresh d i) cs).last

    es : List Entry
    es = entries_of d n (trace (fresh d i) cs)
