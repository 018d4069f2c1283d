-- An accepted add on the ground: the same key, the same handle out, and the states stay alike.
use Rattle.std.specs.Prelude.{Some, None}
use Rattle.std.proofs.Common.{◌≡◌, ℕ, ◌+◌, ◌%◌, ◌<◌, ◌≤◌, min, false, cond, eqb, ltb, ◌⊎◌, List, [], ◌∷◌, ◌++◌, length, sym, refl, ap, ◌∙◌, subst, inl, inr, true≢false, arith, ltb-false, ltb-true, eqb-true, le-leb}
use mathlib.Core.Option.{Option, some, none}
use borrow.Author.Tests.{lt-leb}
use Rattle.sampleinfo.specs.States.{made_by}
use Rattle.sampleinfo.specs.Lifecycle.{state_of, counts_of, counts_after, becomes}
use Rattle.sampleinfo.specs.Samples.{unread}
use Rattle.sampleinfo.specs.declared.NotAliveGenerationCounts.{NotAliveGenerationCounts}
use Rattle.sampleinfo.specs.declared.InstanceState.{InstanceState}
use Rattle.sampleinfo.specs.declared.InstanceState.TheVariants.{Alive, NotAliveDisposed, NotAliveNoWriters}
use Rattle.sampleinfo.specs.declared.Body.{Body}
use Rattle.sampleinfo.specs.declared.Body.TheVariants.{Value, Dispose}
use Rattle.keys.specs.Keys.{Last, key_of, Later}
use Rattle.keys.specs.KeyLaws.{key-is-time}
use Rattle.model.specs.Model.{Model, Live, Instance, Arrival, Place, held, find, put, least, next_name, body_in, state_in, no_key, key_in, issue_of, or_fresh, old_of, refusal_of, arrived, slot_of, live_of, accept, push, pushed_out}
use Rattle.model.specs.Story.{Every, AtMost, untaken, entry_keys, last_key, lives_of, live_at}
use Rattle.model.specs.Demand3.{In}
use Rattle.model.proofs.Laws.{every-imp, every_append, find-put-same, find-put-other, places_of, places-none}
use Rattle.model.proofs.Keys.{key-new, at-most-later, at-most-below}
use Rattle.model.specs.PairLaws.{split}
use Rattle.rust_model.specs.Maps.{Entry, entry, get, insert, last_entry, or_last, insert_stamp}
use Rattle.rust_model.specs.DataSampleCache.{InstanceMetaData, SampleWithMetaData, DataSamples, DataSampleCache, Added, receive_timestamp, new_instance_state, or_new, generations, updated, keep_count, keys_to_remove, remove_stamps, remove_samples, removed_handles, with_samples, received_as, inserted, add_sample}
use Rattle.rust_model.specs.Ground.{LastLives}
use Rattle.rust_model.specs.Equal.{change_of, handles}
use Rattle.rust_model.proofs.MapLaws.{same-eqb, get_insert_same, get_insert_other, insert-end, above-insert, stamp-end}
use Rattle.rust_model.proofs.Alike.{Kept, key_at, mine, stored, samples, Rising, Few, Matches, Twins, Alike}
use Rattle.rust_model.proofs.Log.{mine-on, mine-past, samples-on, rising-on, every-samples, every-stamps, drop-other, every-dropped, rising-dropped, live-mine}
use Rattle.rust_model.proofs.Evict.{trim, Evicts, evicts}

-- ---- the last sample held
abbrev pub OnLast : (ℕ → Type 0) → Option (Entry SampleWithMetaData) → Type 0
OnLast P none = Unit {0}
OnLast P (some e) = P e.at

abbrev Reaches : ℕ → Option (Entry SampleWithMetaData) → Type 0
Reaches l none = ⊥
Reaches l (some e) = l ≤ e.at

pub on-last : (P : ℕ → Type 0) (m : DataSamples) → Every (λ e. P e.at) m → OnLast P (last_entry m)
unfolding last_entry
on-last P [] h = tt
on-last P (e ∷ m) h = go (last_entry m) (on-last P m h.1)
  where
    go : (o : Option (Entry SampleWithMetaData)) → OnLast P o → OnLast P (or_last e o)
    go none q = h.0
    go (some f) q = q

reaches-on : (l : ℕ) (e : Entry SampleWithMetaData) (o : Option (Entry SampleWithMetaData)) → Reaches l o → Reaches l (or_last e o)
reaches-on l e none h = absurd h
reaches-on l e (some f) h = h

reaches_here : (e : Entry SampleWithMetaData) (o : Option (Entry SampleWithMetaData)) → OnLast (λ k. e.at < k) o → Reaches e.at (or_last e o)
reaches_here e none h = omega arith
reaches_here e (some f) h = omega arith

-- the last is not before any that is held
reaches : (n : ℕ) (s : Live) (log : List Kept) → Rising log → In s (untaken (mine n log)) → Reaches s.key (last_entry (samples log))
unfolding mine untaken samples last_entry
reaches n s [] r h = absurd h
reaches n s (k ∷ log) r h = split (eqb k.name n)
    (λ q. split k.told.taken
    (λ t. rw t (reaches n s log r.1 (rw (q, t) at h)))
    (λ t. rw t (go (reaches n s log r.1) (rw (q, t) at h))))
    (λ q. split k.told.taken
    (λ t. rw t (reaches n s log r.1 (rw q at h)))
    (λ t. rw t (reaches-on s.key (entry (key_at k) (stored k)) (last_entry (samples log)) (reaches n s log r.1 (rw q at h)))))
  where
    go : {R : Type 0} → (R → Reaches s.key (last_entry (samples log))) → (s ≡ k.told.sample) ⊎ R → Reaches s.key (or_last (entry (key_at k) (stored k)) (last_entry (samples log)))
    go again (inl e) = rw e (reaches_here (entry (key_at k) (stored k)) (last_entry (samples log)) (on-last (λ j. key_at k < j) (samples log) (every-samples (λ j. key_at k < j) log r.0)))
    go again (inr q) = reaches-on s.key (entry (key_at k) (stored k)) (last_entry (samples log)) (again q)

-- ---- the key
key-by-time : (time : ℕ) (o : Option (Entry SampleWithMetaData)) → OnLast (λ k. k < time) o → receive_timestamp o time ≡ time
unfolding receive_timestamp
key-by-time time none h = refl
key-by-time time (some e) h = rw (lt-leb time e.at h)

key-by-last : (l time : ℕ) (o : Option (Entry SampleWithMetaData)) → Reaches l o → OnLast (λ k. k ≤ l) o → no_key (key_of (Some l) time) ≡ false
    → receive_timestamp o time ≡ key_in (key_of (Some l) time)
unfolding receive_timestamp key_of
key-by-last l time none h q e = absurd h
key-by-last l time (some f) h q e = rw (same f.at l h q) (split (ltb l time)
    (λ p. rw (p, lt-leb time l (ltb-true l time p)))
    (λ p. split (ltb l 18446744073709551615)
    (λ t. rw (p, t, le-leb time l (ltb-false l time p)) (wraps l (ltb-true l 18446744073709551615 t)))
    (λ t. absurd (true≢false (rw (p, t) at e)))))
  where
    same : (a b : ℕ) → b ≤ a → a ≤ b → a ≡ b
    same a b p q = omega arith

    wraps : (l : ℕ) → l < 18446744073709551615 → (l + 1) % 18446744073709551616 ≡ l + 1
    wraps l h = omega arith

later_last : (o : Last) (ks : List ℕ) (t : ℕ) → Later o t → Every (λ k. k < t) ks → Later (last_key o ks) t
later_last o [] t p h = p
later_last o (k ∷ ks) t p h = later_last (Some k) ks t h.0 h.1

module _ (m : Model) (c : DataSampleCache) (log : List Kept) (h : Alike m c log) where
  in-mine : (n : ℕ) (s : Live) → In s (live_at n m) → In s (untaken (mine n log))
  in-mine n s q = go (find n m.instances) (get n c.instance_map) (h.twins n) q
    where
      go : (o : Option Instance) (d : Option InstanceMetaData) → Twins m.keep (mine n log) o d → In s (lives_of o) → In s (untaken (mine n log))
      go none d t q = absurd q
      go (some i) none t q = absurd t
      go (some i) (some d) t q = subst (λ l. In s l) (live-mine m.keep (mine n log) i t.places t.few) q

  -- "each add's time is later than every key issued so far, or the last key issued is still live"
  pub same_key : (ks : List ℕ) (time : ℕ) → m.last ≡ last_key None ks → Every (λ k. k < time) ks ⊎ LastLives m ks → no_key (key_of m.last time) ≡ false
      → receive_timestamp (last_entry (samples log)) time ≡ key_in (key_of m.last time)
  same_key ks time e (inl q) g = key-by-time time (last_entry (samples log)) (on-last (λ k. k < time) (samples log) (every-samples (λ k. k < time) log (every-imp (λ k t. at-most-below m.last (key_at k) time late t) log h.top)))
      ∙ ap key_in (sym (key-is-time m.last time late))
    where
      late : Later m.last time
      late = rw e (later_last None ks time tt q)
  same_key ks time e (inr (l, n, f, p)) g = key-by-last l time (last_entry (samples log)) (subst (λ j. Reaches j (last_entry (samples log))) p.1.1 (reaches n p.0 log h.rises (in-mine n p.0 p.1.0)))
      (on-last (λ k. k ≤ l) (samples log) (every-samples (λ k. k ≤ l) log (every-imp (λ k t. subst (λ o. AtMost o (key_at k)) is t) log h.top))) (subst (λ o. no_key (key_of o time) ≡ false) is g)
      ∙ ap (λ (o : Last). key_in (key_of o time)) (sym is)
    where
      is : m.last ≡ Some l
      is = e ∙ f

-- ---- the lifecycle
state-same : (b : Body) → new_instance_state b ≡ made_by b
state-same (Value h) = refl
state-same (Dispose h) = refl

generations-same : (old new : InstanceState) (c : NotAliveGenerationCounts) → generations old new c ≡ counts_after old new c
generations-same Alive Alive c = refl
generations-same Alive NotAliveDisposed c = refl
generations-same Alive NotAliveNoWriters c = refl
generations-same NotAliveDisposed Alive c = refl
generations-same NotAliveDisposed NotAliveDisposed c = refl
generations-same NotAliveDisposed NotAliveNoWriters c = refl
generations-same NotAliveNoWriters Alive c = refl
generations-same NotAliveNoWriters NotAliveDisposed c = refl
generations-same NotAliveNoWriters NotAliveNoWriters c = refl

-- ---- next keys
low-min : (a b : ℕ) → cond (ltb a b) a b ≡ min a b
low-min a b = split (ltb a b) (λ e. rw e (omega (arith, ltb-true a b e))) (λ e. rw e (omega (arith, ltb-false a b e)))

least-twice : (o : Option ℕ) (k : ℕ) → least (least o k) k ≡ least o k
least-twice none k = ap some (low-min k k ∙ omega arith)
least-twice (some m) k = ap some (rw (low-min k m, low-min k (min k m)) (omega arith))

least-swap : (o : Option ℕ) (j k : ℕ) → least (least o j) k ≡ least (least o k) j
least-swap none j k = ap some (rw (low-min j k, low-min k j) (omega arith))
least-swap (some m) j k = ap some (rw (low-min j m, low-min k m, low-min k (min j m), low-min j (min k m)) (omega arith))

abbrev lowest : ℕ → Option ℕ → ℕ → Option ℕ
lowest n o k = cond (ltb n k) (least o k) o

lowest-twice : (n : ℕ) (o : Option ℕ) (k : ℕ) → lowest n o k ≡ lowest n (lowest n o k) k
lowest-twice n o k = split (ltb n k) (λ e. rw e (sym (least-twice o k))) (λ e. rw e)

lowest-swap : (n : ℕ) (o : Option ℕ) (j k : ℕ) → lowest n (lowest n o j) k ≡ lowest n (lowest n o k) j
lowest-swap n o j k = split (ltb n j)
    (λ e. split (ltb n k) (λ f. rw (e, f) (least-swap o j k)) (λ f. rw (e, f)))
    (λ e. split (ltb n k) (λ f. rw (e, f)) (λ f. rw (e, f)))

next-put : (n : ℕ) (j : Instance) (is : List Instance) → next_name n (put j is) ≡ lowest n (next_name n is) j.name
unfolding put next_name
next-put n j [] = refl
next-put n j (i ∷ is) = split (eqb i.name j.name)
    (λ e. rw (e, eqb-true i.name j.name e) (lowest-twice n (next_name n is) j.name))
    (λ e. rw e (ap (λ (o : Option ℕ). lowest n o i.name) (next-put n j is) ∙ lowest-swap n (next_name n is) j.name i.name))

-- ---- making room leaves other instances alone
trim-other : (keep : Option ℕ) (n o : ℕ) (log : List Kept) → eqb n o ≡ false → mine o (trim keep n log) ≡ mine o log
unfolding trim
trim-other none n o log e = refl
trim-other (some d) n o log e = split (ltb (length (mine n log)) d) (λ q. rw q) (λ q. rw q (drop-other n o log e))

every-trim : (P : Kept → Type 0) (keep : Option ℕ) (n : ℕ) (log : List Kept) → Every P log → Every P (trim keep n log)
unfolding trim
every-trim P none n log h = h
every-trim P (some d) n log h = split (ltb (length (mine n log)) d) (λ q. rw q h) (λ q. rw q (every-dropped P n log h))

rising-trim : (keep : Option ℕ) (n : ℕ) (log : List Kept) → Rising log → Rising (trim keep n log)
unfolding trim
rising-trim none n log h = h
rising-trim (some d) n log h = split (ltb (length (mine n log)) d) (λ q. rw q h) (λ q. rw q (rising-dropped n log h))

-- ---- the whole add
abbrev made : DataSampleCache → ℕ → ℕ → InstanceMetaData → Option ℕ → List ℕ → DataSamples → Added
made c name key imd keep stamps all =
    record {
      timestamp = key;
      removed = removed_handles (keys_to_remove keep stamps) all;
      cache = record {
        qos = c.qos;
        datasamples = remove_samples (keys_to_remove keep stamps) all;
        instance_map = insert name (with_samples (remove_stamps (keys_to_remove keep stamps) stamps) imd) c.instance_map;
      };
    }

module _ (m : Model) (c : DataSampleCache) (log : List Kept) (h : Alike m c log) (a : Arrival) (accepted : refusal_of m a ≡ 0) where
  abbrev key : ℕ
  key = key_in (issue_of m a)

  abbrev was : Instance
  was = old_of m a

  abbrev state : InstanceState
  state = new_instance_state (body_in a)

  abbrev found : InstanceMetaData
  found = or_new state (get a.name c.instance_map)

  abbrev grown : InstanceMetaData
  grown = updated key state found

  abbrev kept : Kept
  kept = record { name = a.name; told = record { sample = live_of a (becomes was.meta (state_in a)) key (slot_of m a); taken = false } }

  abbrev now : List Kept
  now = trim m.keep a.name log

  old-matches : Matches m.keep (mine a.name log) was found
  unfolding old_of
  old-matches = go (find a.name m.instances) (get a.name c.instance_map) (h.twins a.name)
    where
      go : (o : Option Instance) (d : Option InstanceMetaData) → Twins m.keep (mine a.name log) o d → Matches m.keep (mine a.name log) (or_fresh m.keep a.name (state_in a) o) (or_new state d)
      go none none t = record {
        places = places-none m.keep ∙ ap (places_of m.keep) (sym t.0);
        few = subst (Few m.keep) (sym t.0) t.1;
        stamps = ap entry_keys (sym t.0);
        state = state-same (body_in a);
        counts = refl;
        accessed = refl;
      }
      go none (some d) t = absurd t
      go (some i) none t = absurd t
      go (some i) (some d) t = t

  below : Every (λ j. key_at j < key) log
  below = every-imp (λ j t. at-most-below m.last (key_at j) key (key-new m a accepted) t) log h.top

  counts-now : grown.latest_generation_available ≡ counts_of (becomes was.meta (state_in a))
  counts-now = generations-same found.instance_state state found.latest_generation_available
      ∙ ap (λ (s : InstanceState). counts_after s state found.latest_generation_available) old-matches.state
      ∙ ap (λ (s : InstanceState). counts_after (state_of was.meta) s found.latest_generation_available) (state-same (body_in a))
      ∙ ap (counts_after (state_of was.meta) (state_in a)) old-matches.counts

  evicted : Evicts a.name log kept h.rises below refl m.keep now
  evicted = evicts a.name log kept h.rises below refl m.keep old-matches.few

  abbrev after : InstanceMetaData
  after = with_samples (entry_keys (mine a.name now ++ kept.told ∷ [])) grown

  abbrev cache : DataSampleCache
  cache = record { qos = c.qos; datasamples = samples now ++ entry key (stored kept) ∷ []; instance_map = insert a.name after c.instance_map }

  -- the log and the Rust's outcome
  abbrev pub log_after : List Kept
  log_after = now ++ kept ∷ []

  abbrev pub outcome : Added
  outcome = record { timestamp = key; removed = handles (pushed_out m.keep was.places); cache = cache }

  module _ (same : receive_timestamp (last_entry c.datasamples) a.time ≡ key) where
    pub added_is : add_sample c (change_of a) ≡ outcome
    unfolding add_sample
    added_is = ap (λ (t : ℕ). inserted c (change_of a) t (updated t state found)) same
        ∙ ap (λ (s : List ℕ). made c a.name key grown (keep_count c.qos) s (insert key (received_as (change_of a) grown) c.datasamples)) stamps-is
        ∙ ap (made c a.name key grown (keep_count c.qos) stamps) all-is
        ∙ ap (λ (k : Option ℕ). made c a.name key grown k stamps all) h.keeps
        ∙ ap (λ (r : List ℕ). at r (remove_samples gone all) (remove_stamps gone stamps)) (evicted.handles-gone ∙ ap (λ (p : List Place). handles (pushed_out m.keep p)) (sym old-matches.places))
        ∙ ap (λ (d : DataSamples). at (handles (pushed_out m.keep was.places)) d (remove_stamps gone stamps)) evicted.samples-left
        ∙ ap (at (handles (pushed_out m.keep was.places)) (samples now ++ entry key (stored kept) ∷ [])) evicted.stamps-left
      where
        stamps : List ℕ
        stamps = entry_keys (mine a.name log) ++ key ∷ []

        all : DataSamples
        all = samples log ++ entry key (stored kept) ∷ []

        gone : List ℕ
        gone = keys_to_remove m.keep stamps

        at : List ℕ → DataSamples → List ℕ → Added
        at r d s = record { timestamp = key; removed = r; cache = record { qos = c.qos; datasamples = d; instance_map = insert a.name (with_samples s grown) c.instance_map } }

        stamps-is : insert_stamp key found.instance_samples ≡ stamps
        stamps-is = ap (insert_stamp key) old-matches.stamps ∙ stamp-end key (entry_keys (mine a.name log)) (every-stamps (λ j. j < key) a.name log below)

        all-is : insert key (received_as (change_of a) grown) c.datasamples ≡ all
        all-is = ap (insert key (received_as (change_of a) grown)) h.holds ∙ insert-end key (received_as (change_of a) grown) (samples log) (every-samples (λ j. j < key) log below)
            ∙ ap (λ (n : NotAliveGenerationCounts). samples log ++ entry key (record { key = a.name; sample = unread n a.writer a.seq (body_in a) }) ∷ []) counts-now

  matches-now : Matches m.keep (mine a.name now ++ kept.told ∷ []) (arrived m.keep was a (held kept.told.sample)) after
  unfolding arrived
  matches-now = record {
    places = ap (λ (p : List Place). push m.keep p (held kept.told.sample)) old-matches.places ∙ evicted.places-now;
    few = evicted.few-now;
    stamps = refl;
    state = state-same (body_in a);
    counts = counts-now;
    accessed = old-matches.accessed;
  }

  twins-now : (n : ℕ) → Twins m.keep (mine n (now ++ kept ∷ [])) (find n (put (arrived m.keep was a (held kept.told.sample)) m.instances)) (get n (insert a.name after c.instance_map))
  twins-now n = split (eqb a.name n)
      (λ q. subst (λ o. Twins m.keep (mine o (now ++ kept ∷ [])) (find o (put new m.instances)) (get o (insert a.name after c.instance_map))) (eqb-true a.name n q) own)
      (λ q. rw (mine-past n now kept q, trim-other m.keep a.name n log q, find-put-other new n m.instances (name-is q), get_insert_other a.name n after c.instance_map q) (h.twins n))
    where
      new : Instance
      new = arrived m.keep was a (held kept.told.sample)

      named : new.name ≡ a.name
      named = unfold arrived in refl

      name-is : eqb a.name n ≡ false → eqb new.name n ≡ false
      name-is q = rw named q

      own : Twins m.keep (mine a.name (now ++ kept ∷ [])) (find a.name (put new m.instances)) (get a.name (insert a.name after c.instance_map))
      own = rw (mine-on a.name now kept (same-eqb a.name), find-put-same new a.name m.instances named, get_insert_same a.name after c.instance_map) matches-now

  pub alike-added : Alike (accept m a).then cache log_after
  unfolding accept
  alike-added = record {
    keeps = h.keeps;
    holds = sym (samples-on now kept refl);
    twins = twins-now;
    nexts = λ n. above-insert n a.name after c.instance_map ∙ ap (λ (o : Option ℕ). lowest n o a.name) (h.nexts n) ∙ sym (next-put n (arrived m.keep was a (held kept.told.sample)) m.instances ∙ unfold arrived in refl);
    rises = rising-on now kept (rising-trim m.keep a.name log h.rises) (every-trim (λ j. key_at j < key) m.keep a.name log below);
    top = every_append (λ k. AtMost (Some key) (key_at k)) now (kept ∷ []) (every-trim (λ k. AtMost (Some key) (key_at k)) m.keep a.name log
        (every-imp (λ k t. at-most-later m.last key (key_at k) (key-new m a accepted) t) log h.top)) (omega arith, tt);
  }
