-- The theorems on calls in a row, which specs/Runs.antt states: one call, any calls, and any calls after an accepted `new`.
use Rattle.std.specs.Prelude.{◌≡◌, refl, Bool, true, false, cond, List, [], ◌∷◌, ℕ, leb, length}
use Rattle.std.proofs.Common.{sym, ap, ◌∙◌}
use Rattle.model.specs.Topic.{Topic, Limits, Call, update, range, ok, found, Step, refuse, limits_fit, raised, wider, within, fresh, step}
use Rattle.model.specs.TopicPromises.{run, issued_by}
use Rattle.model.proofs.Topic.{topic-promises}
use Rattle.changes.specs.Places.{words_of}
use Rattle.changes.specs.ResultLaws.{entries-held}
use Rattle.dds_cache.specs.Header.{given, Head, Tied, Fit, Raised}
use Rattle.dds_cache.specs.CallLaws.{holds_of}
use Rattle.dds_cache.specs.Outcomes.{Sent, fit-step, fit-fresh, new-tied}
use Rattle.topic_demands.specs.Runs.{Memory, Holds, entries_of, Seen, said, listed, Means, Agree, answer_in, keys_seen, Begun, new, Called, update-keep-limits, add-change, remove-changes-before, get-changes-in-range, Runs, done, then, Meets, Went, Kept}

-- ---- one call

update-keeps : (m : Topic) (l : Limits) → (step m (update l)).then.entries ≡ m.entries
unfolding step
update-keeps m l = go (limits_fit l)
  where
    go : (b : Bool) → (cond b (record { answer = ok; then = record { limits = wider m.limits (raised l); last = m.last; entries = m.entries } }) (refuse m 2)).then.entries
        ≡ m.entries
    go true = refl
    go false = refl

range-keeps : (m : Topic) (s t room : ℕ) → (step m (range s t room)).then ≡ m
unfolding step
range-keeps m s t room = go (leb (length (within s t m.entries)) room)
  where
    go : (b : Bool) → (cond b (record { answer = found (within s t m.entries); then = m }) (refuse m 9)).then ≡ m
    go true = refl
    go false = refl

pub called-meets : {c : Call} {x y : Memory} {a : Seen} → Called c x a y → Meets c x a y
called-meets (update-keep-limits κs h ws history most r f) m g t =
    let s : Raised (step m (update (given history most))) h r = f.stepped m t.head in
    (s.answer, record { head = s.head; words = t.words ∙ ap words_of (sym (update-keeps m (given history most))) })
called-meets (add-change κs h ws ws' time x r f) m g t = ((f.stepped m g t).answer, (f.stepped m g t).tied)
called-meets (remove-changes-before κs h ws ws' time r f) m g t = ((f.stepped m g t).answer, (f.stepped m g t).tied)
called-meets (get-changes-in-range κs h ws start end out out' r f) m g t = (f.stepped m g t, rw range-keeps t)

-- the writer of an add has sixteen bytes: the type has it, and the contract says it
called-sent : {c : Call} {x y : Memory} {a : Seen} → Called c x a y → Sent c
called-sent (update-keep-limits κs h ws history most r f) = tt
called-sent (add-change κs h ws ws' time x r f) = f.writer
called-sent (remove-changes-before κs h ws ws' time r f) = tt
called-sent (get-changes-in-range κs h ws start end out out' r f) = tt

-- ---- calls in a row

runs-from : {x z : Memory} {cs : List Call} {ss : List Seen} → Runs x cs ss z → (m : Topic) → Fit m → Holds m x → Went m cs ss z
unfolding run
runs-from done m g t = record { seen = tt; left = t; fit = g }
runs-from (then {y = y} {z = z} {c = c} {cs = cs} {ss = ss} a k r) m g t =
    let one : Means a (step m c) × Holds (step m c).then y = called-meets k m g t in
    let rest : Went (step m c).then cs ss z = runs-from r (step m c).then (fit-step m c (called-sent k) g) one.1 in
    record { seen = (one.0, rest.seen); left = rest.left; fit = rest.fit }

answer-is : (a : Seen) (s : Step) → Means a s → answer_in a ≡ s.answer
answer-is (said a) s e = e
answer-is (listed r out after) s e = e.answer

keys-are : (m : Topic) (cs : List Call) (ss : List Seen) → Agree m cs ss → keys_seen ss ≡ issued_by m cs
unfolding issued_by
keys-are m [] [] e = refl
keys-are m [] (a ∷ ss) e = absurd e
keys-are m (c ∷ cs) [] e = absurd e
keys-are m (c ∷ cs) (a ∷ ss) e = rw (answer-is a (step m c) e.0, keys-are (step m c).then cs ss e.1)

-- what was seen of the calls after an accepted `new`, what they left, and the promises of the model said of both
pub topic-runs : {l : Limits} {x z : Memory} {cs : List Call} {ss : List Seen} → Begun l x → Runs x cs ss z → Kept l cs ss z
topic-runs {z = z} {cs = cs} {ss = ss} (new κs history most ws ws' h f) r =
    let l : Limits = given history most in
    let b : (limits_fit l ≡ true) × Tied (fresh l) h ws'.now = new-tied l h ws.now ws'.now f in
    let w : Went (fresh l) cs ss z = runs-from r (fresh l) (fit-fresh l b.0) b.1 in
    let es : entries_of z ≡ (run (fresh l) cs).entries = entries-held (holds_of (run (fresh l) cs) z.head z.words w.fit w.left) w.fit.writers in
    record {
      accepted = b.0;
      seen = w.seen;
      left = w.left;
      entries = es;
      promises = topic-promises;
      keys-rise = rw (keys-are (fresh l) cs ss w.seen) (topic-promises.keys-rise l cs);
      in-key-order = rw es (topic-promises.in-key-order l cs);
      held-once = rw es (topic-promises.held-once l cs);
      few = rw (ap (λ (v : Head). v.held) w.left.head) (topic-promises.few l cs b.0);
      limits-rise = rw (ap (λ (v : Head). v.limits) w.left.head) (topic-promises.limits-rise (fresh l) cs);
    }
