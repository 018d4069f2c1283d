-- Equal to the Rust, on every sequence of calls on the common ground.
use Rattle.std.specs.Prelude.{None}
use Rattle.std.proofs.Common.{◌≡◌, ℕ, ◌*◌, ◌<◌, ◌≤◌, Bool, true, false, cond, ◌&&◌, ◌||◌, eqb, leb, List, [], ◌∷◌, ◌++◌, map, length, ℤ, pos, negsuc, sym, refl, ap, ◌∙◌, subst, true≢false, arith, eqb-true, leb-true}
use mathlib.Core.Option.{Option, some, none}
use Rattle.readcondition.specs.Masks.{is_valid}
use Rattle.readcondition.specs.declared.ReadCondition.{ReadCondition}
use Rattle.model.specs.Pairs.{Pair}
use Rattle.model.specs.Model.{Model, Instance, Arrival, Call, set_up, add, no_writers, choose, read_or_take, next_key, selected, counts_kept, counts_none, keep_fits, is_zero, depth_of, within, keep_of, fresh, find, next_name, refusal_of, accept, adding, scope, choices, choosing, fine, infos_for, access, accessing, step, answers}
use Rattle.model.specs.Story.{untaken, lives_of, live_at, run, trace, accepted, all_keys, last_key}
use Rattle.model.specs.Demand3.{times_held}
use Rattle.model.proofs.Refusals.{both, passed}
use Rattle.model.proofs.Keys.{last-is-last}
use Rattle.model.proofs.Names.{held-once}
use Rattle.model.specs.PairLaws.{split}
use Rattle.rust_model.proofs.Topics.{not_so}
use Rattle.rust_model.specs.Maps.{gives, entry, get, last_entry, first_above}
use Rattle.rust_model.specs.DataSampleCache.{KeepAll, KeepLast, InstanceMetaData, DataSamples, DataSampleCache, history_limit, or, new, receive_timestamp}
use Rattle.rust_model.specs.Ground.{Stands, Ground}
use Rattle.rust_model.specs.Equal.{qos_of, Reply, chose, gave, follows, Turn, turn, added_to, call, replies, cache_after, seen, keyed_sample, held_of, Equal, EqualToTheRust}
use Rattle.rust_model.proofs.Alike.{Kept, key_at, mine, samples, Few, Twins, Alike}
use Rattle.rust_model.proofs.Log.{live-mine}
use Rattle.rust_model.proofs.Adds.{same_key, log_after, outcome, added_is, alike-added}
use Rattle.rust_model.proofs.Looks.{look-all, look-within}
use Rattle.rust_model.proofs.Touch.{touched}
use Rattle.rust_model.proofs.Accesses.{by-keys}

-- ---- what is held
held-log : (n : ℕ) (log : List Kept) → held_of n (samples log) ≡ map keyed_sample (untaken (mine n log))
unfolding held_of samples mine untaken
held-log n [] = refl
held-log n (k ∷ log) = split k.told.taken
    (λ a. split (eqb k.name n) (λ b. rw (a, b) (held-log n log)) (λ b. rw (a, b) (held-log n log)))
    (λ a. split (eqb k.name n) (λ b. rw (a, b) (ap (entry (key_at k) k.told.sample.sample ∷◌) (held-log n log))) (λ b. rw (a, b) (held-log n log)))

module _ (m : Model) (c : DataSampleCache) (log : List Kept) (h : Alike m c log) where
  live-log : (n : ℕ) → live_at n m ≡ untaken (mine n log)
  live-log n = go (find n m.instances) (get n c.instance_map) (h.twins n)
    where
      go : (o : Option Instance) (d : Option InstanceMetaData) → Twins m.keep (mine n log) o d → lives_of o ≡ untaken (mine n log)
      go none none t = unfold untaken in (ap untaken (sym t.0))
      go none (some d) t = absurd t
      go (some i) none t = absurd t
      go (some i) (some d) t = live-mine m.keep (mine n log) i t.places t.few

  held_same : (n : ℕ) → held_of n c.datasamples ≡ map keyed_sample (live_at n m)
  held_same n = ap (held_of n) h.holds ∙ held-log n log ∙ ap (map keyed_sample) (sym (live-log n))

-- ---- one call
record Turns (m : Model) (c : DataSampleCache) (x : Call) : Type 0 where
  done : Turn
  log : List Kept
  called : call c x ≡ gives done
  told : done.reply ≡ seen (step m x).answer
  alike : Alike (step m x).then done.cache log

module _ (m : Model) (c : DataSampleCache) (log : List Kept) (h : Alike m c log) where
  turns-add : (ks : List ℕ) → m.last ≡ last_key None ks → (a : Arrival) → Stands m ks (add a) → accepted (step m (add a)).answer ≡ true → Turns m c (add a)
  unfolding step adding
  turns-add ks l a s e = split (eqb (refusal_of m a) 0)
      (λ q. on q (eqb-true (refusal_of m a) 0 q))
      (λ q. not_so (accepted (step m (add a)).answer) (rw q) e)
    where
      on : eqb (refusal_of m a) 0 ≡ true → refusal_of m a ≡ 0 → Turns m c (add a)
      on q r = record {
        done = added_to (outcome m c log h a r);
        log = log_after m c log h a r;
        called = ap (λ x. gives (added_to x)) (added_is m c log h a r (ap (λ (d : DataSamples). receive_timestamp (last_entry d) a.time) h.holds ∙ same_key m c log h ks a.time l s (passed m a r).keyed));
        told = rw q (unfold accept in refl);
        alike = rw q (alike-added m c log h a r);
      }

  choosing-ok : (rc : ReadCondition) (room : ℕ) (is : List Instance) → accepted (choosing rc room is) ≡ true → choosing rc room is ≡ selected (choices rc is)
  unfolding choosing
  choosing-ok rc room is e = split (is_valid rc)
      (λ a. split (leb (length (choices rc is)) room) (λ b. rw (a, b)) (λ b. not_so (accepted (choosing rc room is)) (rw (a, b)) e))
      (λ a. not_so (accepted (choosing rc room is)) (rw a) e)

  module _ (once : (n : ℕ) → times_held n m.instances ≤ 1) where
    turns-look : (w : Option ℕ) (rc : ReadCondition) (room : ℕ) → accepted (step m (choose w rc room)).answer ≡ true → Turns m c (choose w rc room)
    unfolding step
    turns-look none rc room e = record {
      done = turn (chose (choices rc m.instances)) c;
      log = log;
      called = rw (look-all m c log h once rc);
      told = ap seen (sym (choosing-ok rc room m.instances e));
      alike = h;
    }
    turns-look (some n) rc room e = record {
      done = turn (chose (choices rc (scope (some n) m.instances))) c;
      log = log;
      called = rw (look-within m c log h once rc n);
      told = ap seen (sym (choosing-ok rc room (scope (some n) m.instances) e));
      alike = h;
    }

    turns-list : (t : Bool) (ps : List Pair) (room : ℕ) → accepted (step m (read_or_take t ps room)).answer ≡ true → Turns m c (read_or_take t ps room)
    unfolding step accessing
    turns-list t ps room e = split (fine m ps)
        (λ a. split (leb (length ps) room) (λ b. on a b) (λ b. not_so (accepted (step m (read_or_take t ps room)).answer) (rw (a, b)) e))
        (λ a. not_so (accepted (step m (read_or_take t ps room)).answer) (rw a) e)
      where
        on : fine m ps ≡ true → leb (length ps) room ≡ true → Turns m c (read_or_take t ps room)
        on a b = record {
          done = turn (gave (infos_for m ps)) (by-keys m c log h once t ps a).cache;
          log = touched t ps log;
          called = rw (by-keys m c log h once t ps a).gives-infos;
          told = rw (a, b) (unfold access in refl);
          alike = rw (a, b) (by-keys m c log h once t ps a).stays-alike;
        }

    turns : (ks : List ℕ) → m.last ≡ last_key None ks → (x : Call) → Stands m ks x → accepted (step m x).answer ≡ true → Turns m c x
    unfolding step
    turns ks l (set_up u) s e = absurd s
    turns ks l (add a) s e = turns-add ks l a s e
    turns ks l (no_writers n) s e = absurd s
    turns ks l (choose w rc room) s e = turns-look w rc room e
    turns ks l (read_or_take t ps room) s e = turns-list t ps room e
    turns ks l (next_key n) s e = record { done = turn (follows (first_above n c.instance_map)) c; log = log; called = refl; told = ap follows (h.nexts n); alike = h }

-- ---- calls in a row
run_on : (m : Model) (past : List Call) (x : Call) → run m (past ++ x ∷ []) ≡ (step (run m past) x).then
unfolding run
run_on m [] x = refl
run_on m (y ∷ past) x = run_on (step m y).then past x

one_more : (m : Model) (c : DataSampleCache) (x : Call) (xs : List Call) (t : Turns m c x) → Equal (step m x).then t.done.cache xs → Equal m c (x ∷ xs)
unfolding replies answers cache_after run
one_more m c x xs t e = record {
  same-answers = rw t.called (ap (λ (r : Reply). r ∷ replies t.done.cache xs) t.told ∙ ap (λ (l : List Reply). seen (step m x).answer ∷ l) e.same-answers);
  same-held = rw t.called e.same-held;
}

all-equal : (d : Option ℕ) (i : ℕ) (past cs : List Call) (c : DataSampleCache) (log : List Kept) → Alike (run (fresh d i) past) c log → Ground (fresh d i) past cs → Equal (run (fresh d i) past) c cs
unfolding replies answers cache_after run
all-equal d i past [] c log h g = record { same-answers = refl; same-held = (c, refl, held_same (run (fresh d i) past) c log h) }
all-equal d i past (x ∷ xs) c log h g = one_more (run (fresh d i) past) c x xs t
    (subst (λ m. Equal m t.done.cache xs) (run_on (fresh d i) past x) (all-equal d i (past ++ x ∷ []) xs t.done.cache t.log (subst (λ m. Alike m t.done.cache t.log) (sym (run_on (fresh d i) past x)) t.alike) g.2))
  where
    t : Turns (run (fresh d i) past) c x
    t = turns (run (fresh d i) past) c log h (λ n. held-once d i n past) (all_keys (trace (fresh d i) past)) (last-is-last d i past) x g.0 g.1

-- ---- the start, in each mode
abbrev limit_of : ℕ → ℕ → Option ℕ
limit_of mode d = or (history_limit (cond (eqb mode 1) (some (KeepLast d)) (cond (eqb mode 4) none (some KeepAll)))) (cond (eqb mode 2) (some d) none)

abbrev keep_for : ℕ → ℕ → Option ℕ
keep_for mode d = cond (eqb mode 3) none (cond (eqb mode 4) (some 1) (some d))

fits-some : (keep : ℤ) (i : ℕ) → keep_fits keep i ≡ true → 0 < depth_of keep
fits-some (pos d) i e = leb-true 1 d (both (leb 1 d) (leb (i * d) 256) e).0
fits-some (negsuc d) i e = absurd (true≢false (sym e))

modes : (mode i : ℕ) (keep : ℤ) → (counts_kept mode && keep_fits keep i) || (counts_none mode && is_zero keep) ≡ true
    → (limit_of mode (depth_of keep) ≡ keep_for mode (depth_of keep)) × Few (keep_for mode (depth_of keep)) []
modes mode i keep e = split (eqb mode 1)
    (λ a. let q : mode ≡ 1 = eqb-true mode 1 a in rw q (refl, kept (rw q at e)))
    (λ a. split (eqb mode 2)
    (λ b. let q : mode ≡ 2 = eqb-true mode 2 b in rw q (refl, kept (rw q at e)))
    (λ b. split (eqb mode 3)
    (λ c. let q : mode ≡ 3 = eqb-true mode 3 c in rw q (refl, tt))
    (λ c. split (eqb mode 4)
    (λ d. let q : mode ≡ 4 = eqb-true mode 4 d in rw q (refl, (omega arith, omega arith)))
    (λ d. absurd (true≢false (sym (rw (a, b, c, d) at e)))))))
  where
    kept : keep_fits keep i || false ≡ true → (0 ≤ depth_of keep) × (0 < depth_of keep)
    kept e = split (keep_fits keep i) (λ a. (omega arith, fits-some keep i a)) (λ a. absurd (true≢false (sym (rw a at e))))

pub equal-to-the-rust : EqualToTheRust
unfolding run within keep_of
equal-to-the-rust u e cs g = all-equal (keep_of u) u.instances [] cs (new (qos_of u)) [] (record {
  keeps = m.0;
  holds = unfold samples in refl;
  twins = λ n. unfold mine find get in (refl, m.1);
  nexts = λ n. unfold first_above next_name in refl;
  rises = tt;
  top = tt;
}) g
  where
    m : (limit_of u.mode (depth_of u.keep) ≡ keep_for u.mode (depth_of u.keep)) × Few (keep_for u.mode (depth_of u.keep)) []
    m = modes u.mode u.instances u.keep (both (leb 1 u.instances && leb u.instances 32) ((counts_kept u.mode && keep_fits u.keep u.instances) || (counts_none u.mode && is_zero u.keep)) e).1
