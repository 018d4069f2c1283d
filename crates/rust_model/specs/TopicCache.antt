-- What the best-effort half of src/structure/dds_cache.rs of rustdds 0.15.1 does (`TopicCache`), on values, in the Rust's order and by its names.
-- Left out as in document 01: reliable delivery, reallocation, logging. With no reliable writer `received_reliably_before` stays empty, so
-- `oldest_withheld_change()` is None and `give_up_withheld_over_limit()` false.
use Rattle.std.specs.Prelude.{ℕ, ◌+◌, ◌-◌, ◌%◌, max, Bool, cond, ◌&&◌, ◌||◌, List, [], ◌∷◌, length, ◌==◌, nat_le, nat_lt}
use Rattle.std.proofs.Math.Option.{Option, some, none}
use Rattle.model.specs.Topic.{same_bytes}
use Rattle.rust_model.specs.Maps.{Entry, get, insert}
use Rattle.rust_model.specs.DataSampleCache.{History, KeepAll, KeepLast, wrapping_add1}

-- `writer_guid`, `sequence_number`, and `data_value`: its handle and its `payload_size()`
pub record CacheChange : Type 0 where
  pub writer_guid : List ℕ
  pub sequence_number : ℕ
  pub handle : ℕ
  pub payload_size : ℕ

abbrev pub Changes : Type 0
Changes = List (Entry CacheChange)

-- `sequence_numbers: BTreeMap<GUID, BTreeMap<SequenceNumber, Timestamp>>`, an index to "changes" by GUID and SN: here flat, by both at once
-- (an inner map that is emptied is removed, so none is left over)
pub record Indexed : Type 0 where
  pub writer : List ℕ
  pub number : ℕ
  pub instant : ℕ

pub record TopicCache : Type 0 where
  pub min_keep_samples : History
  pub max_keep_samples : ℕ
  pub changes : Changes
  pub last_added_instant : ℕ
  pub sequence_numbers : List Indexed

-- of the QoS: `history()`, and `resource_limits()` with its `max_samples`
pub record QosPolicies : Type 0 where
  pub history : Option History
  pub max_samples : Option ℕ

-- ---- update_keep_limits

-- `.unwrap_or(History::KeepLast { depth: 1 })`
abbrev pub history_or : Option History → History
history_or none = KeepLast 1
history_or (some h) = h

-- `max_samples: 64, // some default limits out of the hat`
abbrev pub samples_or : Option ℕ → ℕ
samples_or none = 64
samples_or (some n) = n

-- `History::KeepLast { depth: n } if n > max_keep_samples => n, _ => max_keep_samples`
abbrev pub at_least : History → ℕ → ℕ
at_least KeepAll n = n
at_least (KeepLast d) n = cond (nat_lt n d) d n

-- `max(min_keep_samples, self.min_keep_samples)`: `KeepAll` is the later variant, above every `KeepLast`
abbrev pub max_history : History → History → History
max_history KeepAll h = KeepAll
max_history (KeepLast d) KeepAll = KeepAll
max_history (KeepLast d) (KeepLast e) = KeepLast (max d e)

abbrev pub update_keep_limits : TopicCache → QosPolicies → TopicCache
update_keep_limits c qos = record {
  min_keep_samples = max_history (history_or qos.history) c.min_keep_samples;
  max_keep_samples = max (at_least (history_or qos.history) (samples_or qos.max_samples)) c.max_keep_samples;
  changes = c.changes;
  last_added_instant = c.last_added_instant;
  sequence_numbers = c.sequence_numbers;
}

-- `min_keep_samples: History::KeepLast { depth: 1 }, /* dummy value, next call will overwrite`, `last_added_instant: Timestamp::ZERO,`
abbrev pub new : QosPolicies → TopicCache
new qos = update_keep_limits (record { min_keep_samples = KeepLast 1; max_keep_samples = 1; changes = []; last_added_instant = 0; sequence_numbers = [] }) qos

-- ---- the index

abbrev pub is_for : List ℕ → ℕ → Indexed → Bool
is_for writer number i = i.number == number && same_bytes i.writer writer

-- `.get(&cc.writer_guid).and_then(|snm| snm.get(&cc.sequence_number)).copied()`
unfoldable pub find_by_sn : List ℕ → ℕ → List Indexed → Option ℕ
find_by_sn w s [] = none
find_by_sn w s (i ∷ is) = cond (is_for w s i) (some i.instant) (find_by_sn w s is)

-- `s.remove(&cc.sequence_number);`
unfoldable pub remove_sn : CacheChange → List Indexed → List Indexed
remove_sn cc [] = []
remove_sn cc (i ∷ is) = cond (is_for cc.writer_guid cc.sequence_number i) (remove_sn cc is) (i ∷ remove_sn cc is)

-- `.entry(cc.writer_guid).or_default().insert(cc.sequence_number, instant);`: in the place of what was there
abbrev pub insert_sn : ℕ → CacheChange → List Indexed → List Indexed
insert_sn instant cc is = record { writer = cc.writer_guid; number = cc.sequence_number; instant = instant } ∷ remove_sn cc is

-- ---- remove_changes_before

-- `sample_count.saturating_sub(self.max_keep_samples as usize)`
abbrev pub must_remove_count : TopicCache → ℕ
must_remove_count c = length c.changes - c.max_keep_samples

-- `History::KeepAll => must_remove_count, History::KeepLast { depth } => max(sample_count.saturating_sub(depth as usize), must_remove_count,),`
abbrev pub may_for : History → ℕ → ℕ → ℕ
may_for KeepAll count must = must
may_for (KeepLast depth) count must = max (count - depth) must

-- `.keys().enumerate().skip_while(|(i, ts)| *i < must_remove_count || (**ts < remove_before && *i < may_remove_count)).map(|(_, ts)| ts).next()`
unfoldable pub oldest_to_retain : ℕ → ℕ → ℕ → ℕ → Changes → Option ℕ
oldest_to_retain must may before i [] = none
oldest_to_retain must may before i (e ∷ es) = cond (nat_lt i must || (nat_lt e.at before && nat_lt i may)) (oldest_to_retain must may before (i + 1) es) (some e.at)

-- `split_off: Returns everything after the given key, including the key.`
unfoldable pub split_off : ℕ → Changes → Changes
split_off key [] = []
split_off key (e ∷ es) = cond (nat_lt e.at key) (split_off key es) (e ∷ es)

-- what it leaves
unfoldable pub left_before : ℕ → Changes → Changes
left_before key [] = []
left_before key (e ∷ es) = cond (nat_lt e.at key) (e ∷ left_before key es) []

-- `if let Some(split_key) = oldest_timestamp_to_retain_opt { self.changes.split_off(&split_key) } else { BTreeMap::new() }`
abbrev pub to_retain : Option ℕ → Changes → Changes
to_retain none es = []
to_retain (some key) es = split_off key es

-- `let to_remove = std::mem::replace(&mut self.changes, to_retain);`
abbrev pub to_remove : Option ℕ → Changes → Changes
to_remove none es = es
to_remove (some key) es = left_before key es

-- `to_remove.values().for_each(|r| self.remove_sn(r));`
unfoldable pub remove_sns : Changes → List Indexed → List Indexed
remove_sns [] is = is
remove_sns (e ∷ es) is = remove_sns es (remove_sn e.item is)

unfoldable pub remove_changes_before : TopicCache → ℕ → TopicCache
remove_changes_before c before =
    let must : ℕ = must_remove_count c in
    let oldest : Option ℕ = oldest_to_retain must (may_for c.min_keep_samples (length c.changes) must) before 0 c.changes in
    record {
      min_keep_samples = c.min_keep_samples;
      max_keep_samples = c.max_keep_samples;
      changes = to_retain oldest c.changes;
      last_added_instant = c.last_added_instant;
      sequence_numbers = remove_sns (to_remove oldest c.changes) c.sequence_numbers;
    }

-- ---- add_change

-- `if payload_size <= 1024 { 64 } else if payload_size <= 65536 { 8 } else { 1 }`
abbrev pub modulus : ℕ → ℕ
modulus size = cond (nat_le size 1024) 64 (cond (nat_le size 65536) 8 1)

-- `let gc_triggered = modulus <= 1 || semi_random_number.is_multiple_of(modulus);`
abbrev pub gc_triggered : CacheChange → Bool
gc_triggered cc = nat_le (modulus cc.payload_size) 1 || cc.sequence_number % modulus cc.payload_size == 0

-- `if gc_triggered { self.remove_changes_before(Timestamp::ZERO); }`
abbrev pub collected : TopicCache → CacheChange → TopicCache
collected c cc = cond (gc_triggered cc) (remove_changes_before c 0) c

-- `let key = if *instant > self.last_added_instant { *instant } else {` .. `.wrapping_add(1)) };`
abbrev pub key_for : ℕ → ℕ → ℕ
key_for instant last = cond (nat_lt last instant) instant (wrapping_add1 last)

-- `self.changes.insert(key, cache_change).inspect(|old_cc| { self.remove_sn(old_cc); })`
abbrev pub without_old : Option CacheChange → List Indexed → List Indexed
without_old none is = is
without_old (some old) is = remove_sn old is

-- the key that the change went in under, or none for a duplicate
pub record Added : Type 0 where
  pub key : Option ℕ
  pub cache : TopicCache

abbrev pub adding : TopicCache → CacheChange → ℕ → Added
adding c cc key = record {
  key = some key;
  cache = record {
    min_keep_samples = c.min_keep_samples;
    max_keep_samples = c.max_keep_samples;
    changes = insert key cc c.changes;
    last_added_instant = key;
    sequence_numbers = without_old (get key c.changes) (insert_sn key cc c.sequence_numbers);
  };
}

-- `if let Some(old_instant) = self.find_by_sn(&cache_change) { // Got duplicate DATA .. None } else {`
abbrev pub adding_unless : Option ℕ → TopicCache → ℕ → CacheChange → Added
adding_unless (some old) c instant cc = record { key = none; cache = c }
adding_unless none c instant cc = adding c cc (key_for instant c.last_added_instant)

abbrev pub adding_to : TopicCache → ℕ → CacheChange → Added
adding_to c instant cc = adding_unless (find_by_sn cc.writer_guid cc.sequence_number c.sequence_numbers) c instant cc

abbrev pub add_change : TopicCache → ℕ → CacheChange → Added
add_change c instant cc = adding_to (collected c cc) instant cc

-- ---- get_changes_in_range_best_effort

-- `let start_instant = if start_instant <= end_instant { start_instant } else { end_instant };`
abbrev pub sane_start : ℕ → ℕ → ℕ
sane_start start end = cond (nat_le start end) start end

-- `.range((Excluded(start_instant), Included(end_instant)))`
unfoldable pub in_range : ℕ → ℕ → Changes → Changes
in_range start end [] = []
in_range start end (e ∷ es) = cond (nat_lt start e.at && nat_le e.at end) (e ∷ in_range start end es) (in_range start end es)

abbrev pub get_changes_in_range_best_effort : TopicCache → ℕ → ℕ → Changes
get_changes_in_range_best_effort c start end = in_range (sane_start start end) end c.changes
