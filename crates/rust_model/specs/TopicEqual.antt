-- The topic cache: its ground, each call of the model as a call of the Rust, what is compared, and the theorem's statement.
use Rattle.std.specs.Prelude.{◌≡◌, ℕ, ◌<◌, Bool, true, false, List, [], ◌∷◌, map, length}
use Rattle.std.proofs.Math.Option.{Option, some, none}
use Rattle.model.specs.Topic.{defaults}
use Rattle.model.specs.Topic.{Entry, Limits, Topic, Change, places, limits_fit, Call, update, add, remove_before, range, Answer, refused, ok, key, held_already, found, fresh, step}
use Rattle.rust_model.specs.Maps.{entry}
use Rattle.rust_model.specs.Maps as Maps
use Rattle.rust_model.specs.DataSampleCache.{History, KeepAll, KeepLast}
use Rattle.rust_model.specs.TopicCache.{CacheChange, Changes, TopicCache, QosPolicies, Added, new, update_keep_limits, add_change, remove_changes_before, get_changes_in_range_best_effort}

abbrev pub accepted : Answer → Bool
accepted (refused n) = false
accepted ok = true
accepted (key k) = true
accepted held_already = true
accepted (found es) = true

-- "For the topic cache: no refusals and never 384 held."
abbrev pub Ground : Topic → List Call → Type 0
Ground t [] = Unit {0}
Ground t (c ∷ cs) = (length t.entries < places) × (accepted (step t c).answer ≡ true) × Ground (step t c).then cs

-- ---- the calls

-- "KeepAll, or KeepLast depth 1 to 256"
abbrev pub history_of : Option ℕ → History
history_of none = KeepAll
history_of (some d) = KeepLast d

abbrev pub qos_of : Limits → QosPolicies
qos_of l = record { history = some (history_of l.depth); max_samples = some l.most }

abbrev pub change_of : Change → CacheChange
change_of x = record { writer_guid = x.writer; sequence_number = x.seq; handle = x.handle; payload_size = x.size }

pub data Reply : Type 0 where
  done : Reply
  stored : ℕ → Reply
  discarded : Reply
  gave : Changes → Reply
  -- the Rust has no refusals
  unknown : Reply

pub record Turn : Type 0 where
  pub reply : Reply
  pub cache : TopicCache

abbrev pub stored_at : Option ℕ → Reply
stored_at none = discarded
stored_at (some k) = stored k

abbrev pub added_to : Added → Turn
added_to x = record { reply = stored_at x.key; cache = x.cache }

abbrev pub call : TopicCache → Call → Turn
call c (update l) = record { reply = done; cache = update_keep_limits c (qos_of l) }
call c (add x) = added_to (add_change c x.time (change_of x))
call c (remove_before t) = record { reply = done; cache = remove_changes_before c t }
call c (range start end room) = record { reply = gave (get_changes_in_range_best_effort c start end); cache = c }

unfoldable pub replies : TopicCache → List Call → List Reply
replies c [] = []
replies c (x ∷ xs) = (call c x).reply ∷ replies (call c x).cache xs

unfoldable pub cache_after : TopicCache → List Call → TopicCache
cache_after c [] = c
cache_after c (x ∷ xs) = cache_after (call c x).cache xs

-- ---- what is compared

-- an entry under its key
abbrev pub held_as : Entry → Maps.Entry CacheChange
held_as e = entry e.key (record { writer_guid = e.writer; sequence_number = e.seq; handle = e.handle; payload_size = e.size })

abbrev pub seen : Answer → Reply
seen (refused n) = unknown
seen ok = done
seen (key k) = stored k
seen held_already = discarded
seen (found es) = gave (map held_as es)

unfoldable pub answers : Topic → List Call → List Answer
answers t [] = []
answers t (c ∷ cs) = (step t c).answer ∷ answers (step t c).then cs

unfoldable pub run : Topic → List Call → Topic
run t [] = t
run t (c ∷ cs) = run (step t c).then cs

pub record TopicsEqual (t : Topic) (c : TopicCache) (cs : List Call) : Type 0 where
  pub same-answers : replies c cs ≡ map seen (answers t cs)
  pub same-held : (cache_after c cs).changes ≡ map held_as (run t cs).entries

-- on every sequence of calls on the ground, from a fresh topic cache with any limits within their bounds
abbrev pub TopicEqualToTheRust : Type 0
TopicEqualToTheRust = (l : Limits) → limits_fit l ≡ true → (cs : List Call) → Ground (fresh l) cs → TopicsEqual (fresh l) (new (qos_of l)) cs

-- ---- the defaults: "defaults depth 1 and 64"

-- a QoS that names neither history nor resource limits
abbrev pub empty_qos : QosPolicies
empty_qos = record { history = none; max_samples = none }

-- one that names the history alone, or max_samples alone
abbrev pub history_alone : Option ℕ → QosPolicies
history_alone d = record { history = some (history_of d); max_samples = none }

abbrev pub samples_alone : ℕ → QosPolicies
samples_alone n = record { history = none; max_samples = some n }

-- the limits that the QoS means: those of the model's defaults where it names none
abbrev pub depth_alone : Option ℕ → Limits
depth_alone d = record { depth = d; most = defaults.most }

abbrev pub most_alone : ℕ → Limits
most_alone n = record { depth = defaults.depth; most = n }

-- a fresh topic cache with these limits, and a new one of the Rust with this QoS, are equal on every sequence of calls on the ground
abbrev pub EqualFrom : Limits → QosPolicies → Type 0
EqualFrom l qos = (cs : List Call) → Ground (fresh l) cs → TopicsEqual (fresh l) (new qos) cs

pub record DefaultsEqualTheRust : Type 0 where
  pub empty : EqualFrom defaults empty_qos
  pub update-empty : (c : TopicCache) → update_keep_limits c empty_qos ≡ (call c (update defaults)).cache
  pub history-alone : (d : Option ℕ) → limits_fit (depth_alone d) ≡ true → EqualFrom (depth_alone d) (history_alone d)
  pub samples-alone : (n : ℕ) → limits_fit (most_alone n) ≡ true → EqualFrom (most_alone n) (samples_alone n)
