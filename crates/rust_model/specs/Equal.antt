-- Equal to the Rust: each call of the model as a call of the Rust, what is compared, and the theorem's statement.
use Rattle.std.specs.Prelude.{◌≡◌, ℕ, true, cond, List, [], ◌∷◌, map, ◌==◌}
use Rattle.std.proofs.Math.Option.{Option, some, none}
use Rattle.sampleinfo.specs.declared.Sample.{Sample}
use Rattle.sampleinfo.specs.declared.Info.{Info}
use Rattle.model.specs.Pairs.{Pair}
use Rattle.model.specs.Model.{Model, Live, SetUp, Arrival, Call, set_up, add, no_writers, choose, read_or_take, next_key, Answer, refused, ok, added, selected, infos, next, body_in, depth_of, within, keep_of, fresh, answers}
use Rattle.model.specs.Story.{run, live_at}
use Rattle.rust_model.specs.Maps.{Outcome, panics, gives, try, Entry, entry}
use Rattle.rust_model.specs.DataSampleCache.{KeepAll, KeepLast, QosPolicies, DataSampleCache, DataSamples, CacheChange, Added, new, add_sample, select_keys_for_access, select_instance_keys_for_access, by_keys}
use Rattle.rust_model.specs.DataSampleCache as rust
use Rattle.rust_model.specs.Ground.{Ground}

-- ---- the calls

-- "Mode 1 KeepLast, keep count d. Mode 2 KeepAll with a per-instance limit .. Mode 3 KeepAll without one .. Mode 4 no history policy"
abbrev pub qos_of : SetUp → QosPolicies
qos_of u = record {
  history = cond (u.mode == 1) (some (KeepLast (depth_of u.keep))) (cond (u.mode == 4) none (some KeepAll));
  max_samples_per_instance = cond (u.mode == 2) (some (depth_of u.keep)) none;
}

abbrev pub change_of : Arrival → CacheChange
change_of a = record { key = a.name; body = body_in a; writer_guid = a.writer; sequence_number = a.seq; receive_instant = a.time }

-- what the caller is told. The Rust's add tells nothing: compared are the key that it stores the sample under and the handles that it drops
pub data Reply : Type 0 where
  stored : ℕ → List ℕ → Reply
  chose : List Pair → Reply
  gave : List Info → Reply
  follows : Option ℕ → Reply
  -- the Rust has no refusals, no no-writers event, and no second set-up
  unknown : Reply
  panicked : Reply

pub record Turn : Type 0 where
  pub reply : Reply
  pub cache : DataSampleCache

abbrev pub turn : Reply → DataSampleCache → Turn
turn r c = record { reply = r; cache = c }

abbrev pub added_to : Added → Turn
added_to x = turn (stored x.timestamp x.removed) x.cache

abbrev pub choosing : DataSampleCache → Outcome (List Pair) → Outcome Turn
choosing c x = try x (λ ps. gives (turn (chose ps) c))

abbrev pub call : DataSampleCache → Call → Outcome Turn
call c (set_up u) = gives (turn unknown c)
call c (add a) = gives (added_to (add_sample c (change_of a)))
call c (no_writers n) = gives (turn unknown c)
call c (choose none rc room) = choosing c (select_keys_for_access c rc)
call c (choose (some n) rc room) = choosing c (select_instance_keys_for_access c n rc)
call c (read_or_take t ps room) = try (by_keys t c ps) (λ x. gives (turn (gave x.infos) x.cache))
call c (next_key n) = gives (turn (follows (rust.next_key c n)) c)

-- ---- calls in a row

abbrev pub onward : Outcome Turn → (Turn → List Reply) → List Reply
onward panics f = panicked ∷ []
onward (gives t) f = t.reply ∷ f t

unfoldable pub replies : DataSampleCache → List Call → List Reply
replies c [] = []
replies c (x ∷ xs) = onward (call c x) (λ t. replies t.cache xs)

unfoldable pub cache_after : DataSampleCache → List Call → Outcome DataSampleCache
cache_after c [] = gives c
cache_after c (x ∷ xs) = try (call c x) (λ t. cache_after t.cache xs)

-- ---- what is compared: "slots excepted"

abbrev pub handles : Option ℕ → List ℕ
handles none = []
handles (some h) = h ∷ []

abbrev pub seen : Answer → Reply
seen (refused n) = unknown
seen ok = unknown
seen (added k s out) = stored k (handles out)
seen (selected ps) = chose ps
seen (infos is) = gave is
seen (next o) = follows o

-- a held sample with its key
abbrev pub keyed_sample : Live → Entry Sample
keyed_sample s = entry s.key s.sample

-- what the Rust holds of one instance, in order of keys
unfoldable pub held_of : ℕ → DataSamples → List (Entry Sample)
held_of n [] = []
held_of n (e ∷ es) = cond (e.item.key == n) (entry e.at e.item.sample ∷ held_of n es) (held_of n es)

-- the same answers; the Rust does not panic; and each instance holds the same samples under the same keys
pub record Equal (m : Model) (c : DataSampleCache) (cs : List Call) : Type 0 where
  pub same-answers : replies c cs ≡ map seen (answers m cs)
  pub same-held : (now : DataSampleCache) × (cache_after c cs ≡ gives now) × ((n : ℕ) → held_of n now.datasamples ≡ map keyed_sample (live_at n (run m cs)))

-- on every sequence of calls on the common ground, from a fresh cache in any mode
abbrev pub EqualToTheRust : Type 0
EqualToTheRust = (u : SetUp) → within u ≡ true → (cs : List Call) → Ground (fresh (keep_of u) u.instances) [] cs → Equal (fresh (keep_of u) u.instances) (new (qos_of u)) cs
