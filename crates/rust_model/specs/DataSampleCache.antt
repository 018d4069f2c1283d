-- What src/dds/with_key/datasample_cache.rs of rustdds 0.15.1 does, on values, in the Rust's order and by its names. Nothing of the port's rules
-- stands here: from the port come the types of states, counts, records and pairs alone. The quoted lines are the Rust's.
use Rattle.std.specs.Prelude.{ℕ, ◌+◌, ◌-◌, ◌%◌, Bool, true, false, cond, ◌&&◌, ◌||◌, List, [], ◌∷◌, ◌++◌, length, take, ◌==◌, nat_le, nat_lt}
use Rattle.std.proofs.Math.Option.{Option, some, none}
use Rattle.std.proofs.Math.IntN.{sub_ℕ}
use Rattle.sampleinfo.specs.States.{sample_bit, view_bit, instance_bit, handle_of, any_sample, any_view, any_instance}
use Rattle.sampleinfo.specs.Counts.{zero, total, disposed_plus, no_writers_plus}
use Rattle.sampleinfo.specs.declared.NotAliveGenerationCounts.{NotAliveGenerationCounts}
use Rattle.sampleinfo.specs.declared.SampleState.{SampleState}
use Rattle.sampleinfo.specs.declared.SampleState.TheVariants.{Read, NotRead}
use Rattle.sampleinfo.specs.declared.ViewState.{ViewState}
use Rattle.sampleinfo.specs.declared.ViewState.TheVariants.{New, NotNew}
use Rattle.sampleinfo.specs.declared.InstanceState.{InstanceState}
use Rattle.sampleinfo.specs.declared.InstanceState.TheVariants.{Alive, NotAliveDisposed, NotAliveNoWriters}
use Rattle.sampleinfo.specs.declared.Body.{Body}
use Rattle.sampleinfo.specs.declared.Body.TheVariants.{Value, Dispose}
use Rattle.sampleinfo.specs.declared.Sample.{Sample}
use Rattle.sampleinfo.specs.declared.Info.{Info}
use Rattle.readcondition.specs.Masks.{has}
use Rattle.readcondition.specs.declared.ReadCondition.{ReadCondition}
use Rattle.model.specs.Pairs.{Pair, Hit, pairs_in}
use Rattle.rust_model.specs.Maps.{Outcome, gives, try, unwrap, Entry, get, insert, remove, modify, last_entry, first_above, upsert, insert_stamp, remove_stamp}

-- ---- the cache

-- policy::History, and of policy::ResourceLimits the one number that is looked at
pub data History : Type 0 where
  KeepAll : History
  KeepLast : ℕ → History

pub record QosPolicies : Type 0 where
  pub history : Option History
  pub max_samples_per_instance : Option ℕ

-- `instance_samples: BTreeSet<Timestamp>, // which samples belong to this instance`, and so on.
-- An accessed generation of none is `NotAliveGenerationCounts::sub_zero()`: both counts -1, its total -2 below every other
pub record InstanceMetaData : Type 0 where
  pub instance_samples : List ℕ
  pub instance_state : InstanceState
  pub latest_generation_available : NotAliveGenerationCounts
  pub last_generation_accessed : Option NotAliveGenerationCounts

-- `key()` of the sample, and the rest: a snapshot of the counts, writer, sequence number, whether it was read, the sample itself
pub record SampleWithMetaData : Type 0 where
  pub key : ℕ
  pub sample : Sample

abbrev pub DataSamples : Type 0
DataSamples = List (Entry SampleWithMetaData)

abbrev pub InstanceMap : Type 0
InstanceMap = List (Entry InstanceMetaData)

pub record DataSampleCache : Type 0 where
  pub qos : QosPolicies
  pub datasamples : DataSamples
  pub instance_map : InstanceMap

-- `datasamples: BTreeMap::new(), instance_map: BTreeMap::new(),`
abbrev pub new : QosPolicies → DataSampleCache
new qos = record { qos = qos; datasamples = []; instance_map = [] }

-- ---- add_sample

-- `latest.to_ticks().wrapping_add(1)`
abbrev pub wrapping_add1 : ℕ → ℕ
wrapping_add1 ticks = (ticks + 1) % 18446744073709551616

-- `if let Some((&latest, _)) = self.datasamples.last_key_value() { if receive_timestamp <= latest {`: the last of those HELD
unfoldable pub receive_timestamp : Option (Entry SampleWithMetaData) → ℕ → ℕ
receive_timestamp none time = time
receive_timestamp (some latest) time = cond (nat_le time latest.at) (wrapping_add1 latest.at) time

-- `Sample::Value(_) => InstanceState::Alive, Sample::Dispose(_) => InstanceState::NotAliveDisposed,`
abbrev pub new_instance_state : Body → InstanceState
new_instance_state (Value h) = Alive
new_instance_state (Dispose h) = NotAliveDisposed

-- `// find or create metadata record`: `not found, create new one`
abbrev pub or_new : InstanceState → Option InstanceMetaData → InstanceMetaData
or_new state (some imd) = imd
or_new state none = record { instance_samples = []; instance_state = state; latest_generation_available = zero; last_generation_accessed = none }

-- `match (instance_metadata.instance_state, new_instance_state) {`
abbrev pub generations : InstanceState → InstanceState → NotAliveGenerationCounts → NotAliveGenerationCounts
generations Alive new c = c
generations NotAliveDisposed Alive c = disposed_plus c
generations NotAliveDisposed NotAliveDisposed c = c
generations NotAliveDisposed NotAliveNoWriters c = c
generations NotAliveNoWriters Alive c = no_writers_plus c
generations NotAliveNoWriters NotAliveDisposed c = c
generations NotAliveNoWriters NotAliveNoWriters c = c

-- `instance_metadata.instance_samples.insert(receive_timestamp);` .. `instance_metadata.instance_state = new_instance_state;`
abbrev pub updated : ℕ → InstanceState → InstanceMetaData → InstanceMetaData
updated timestamp state imd = record {
  instance_samples = insert_stamp timestamp imd.instance_samples;
  instance_state = state;
  latest_generation_available = generations imd.instance_state state imd.latest_generation_available;
  last_generation_accessed = imd.last_generation_accessed;
}

-- `Some(History::KeepAll) => None, // no limit`, `Some(KeepLast { depth }) => Some(depth)`, `None => Some(1), // default history policy`
abbrev pub history_limit : Option History → Option ℕ
history_limit (some KeepAll) = none
history_limit (some (KeepLast depth)) = some depth
history_limit none = some 1

abbrev pub or : Option ℕ → Option ℕ → Option ℕ
or (some a) b = some a
or none b = b

-- `sample_keep_history_limit.or(sample_keep_resource_limit)`
abbrev pub keep_count : QosPolicies → Option ℕ
keep_count qos = or (history_limit qos.history) qos.max_samples_per_instance

-- `let remove_count = instance_metadata.instance_samples.len() as i32 - instance_keep_count; if remove_count > 0 {`
-- `.iter().take(remove_count as usize).copied().collect();` A difference not above 0 is 0 here, and nothing is taken.
abbrev pub keys_to_remove : Option ℕ → List ℕ → List ℕ
keys_to_remove none samples = []
keys_to_remove (some keep) samples = take (length samples - keep) samples

-- `for k in keys_to_remove { instance_metadata.instance_samples.remove(&k);`
unfoldable pub remove_stamps : List ℕ → List ℕ → List ℕ
remove_stamps [] samples = samples
remove_stamps (k ∷ ks) samples = remove_stamps ks (remove_stamp k samples)

-- `self.datasamples.remove(&k); }`
unfoldable pub remove_samples : List ℕ → DataSamples → DataSamples
remove_samples [] samples = samples
remove_samples (k ∷ ks) samples = remove_samples ks (remove k samples)

abbrev pub handle_in : Option SampleWithMetaData → List ℕ
handle_in none = []
handle_in (some s) = handle_of s.sample.body ∷ []

-- the handles of the samples that those removals drop
unfoldable pub removed_handles : List ℕ → DataSamples → List ℕ
removed_handles [] samples = []
removed_handles (k ∷ ks) samples = handle_in (get k samples) ++ removed_handles ks (remove k samples)

abbrev pub with_samples : List ℕ → InstanceMetaData → InstanceMetaData
with_samples samples imd = record {
  instance_samples = samples;
  instance_state = imd.instance_state;
  latest_generation_available = imd.latest_generation_available;
  last_generation_accessed = imd.last_generation_accessed;
}

-- the sample as it comes: `deserialized_cc.sample`, `.writer_guid`, `.sequence_number`, `.receive_instant`
pub record CacheChange : Type 0 where
  pub key : ℕ
  pub body : Body
  pub writer_guid : List ℕ
  pub sequence_number : ℕ
  pub receive_instant : ℕ

abbrev pub received_as : CacheChange → InstanceMetaData → SampleWithMetaData
received_as cc imd = record {
  key = cc.key;
  sample = record {
    generation_counts = imd.latest_generation_available;
    writer_guid = cc.writer_guid;
    sequence_number = cc.sequence_number;
    sample_has_been_read = false;
    body = cc.body;
  };
}

-- the key that the sample went in under, the handles of those that it drove out, and the cache
pub record Added : Type 0 where
  pub timestamp : ℕ
  pub removed : List ℕ
  pub cache : DataSampleCache

-- once the timestamp is fixed and the metadata record is updated: insert, garbage collect
abbrev pub inserted : DataSampleCache → CacheChange → ℕ → InstanceMetaData → Added
inserted c cc timestamp imd =
    let samples : DataSamples = insert timestamp (received_as cc imd) c.datasamples in
    let gone : List ℕ = keys_to_remove (keep_count c.qos) imd.instance_samples in
    record {
      timestamp = timestamp;
      removed = removed_handles gone samples;
      cache = record {
        qos = c.qos;
        datasamples = remove_samples gone samples;
        instance_map = insert cc.key (with_samples (remove_stamps gone imd.instance_samples) imd) c.instance_map;
      };
    }

unfoldable pub add_sample : DataSampleCache → CacheChange → Added
add_sample c cc =
    let timestamp : ℕ = receive_timestamp (last_entry c.datasamples) cc.receive_instant in
    let state : InstanceState = new_instance_state cc.body in
    inserted c cc timestamp (updated timestamp state (or_new state (get cc.key c.instance_map)))

-- ---- choosing

-- `d.generation_counts.total() > imd.last_generation_accessed.total()`
abbrev pub is_new : Option NotAliveGenerationCounts → NotAliveGenerationCounts → Bool
is_new none c = true
is_new (some last) c = nat_lt (total last) (total c)

-- `if d.sample_has_been_read { SampleState::Read } else { SampleState::NotRead }`
abbrev pub sample_state : Sample → SampleState
sample_state d = cond d.sample_has_been_read Read NotRead

-- `if is_new { ViewState::New } else { ViewState::NotNew }`
abbrev pub view_state : InstanceMetaData → Sample → ViewState
view_state imd d = cond (is_new imd.last_generation_accessed d.generation_counts) New NotNew

-- `*mask == any() || mask.contains(state)`, three times
unfoldable pub sample_selector : ReadCondition → InstanceMetaData → Sample → Bool
sample_selector rc imd d =
    (rc.sample_state_mask == any_sample || has rc.sample_state_mask (sample_bit (sample_state d)))
    && ((rc.view_state_mask == any_view || has rc.view_state_mask (view_bit (view_state imd d)))
    && (rc.instance_state_mask == any_instance || has rc.instance_state_mask (instance_bit imd.instance_state)))

-- `self.datasamples.get(ts).unwrap().sequence_number` for each key, cached beside it
unfoldable pub cached_keys : DataSamples → List Pair → Outcome (List Hit)
cached_keys samples [] = gives []
cached_keys samples (p ∷ ps) = try (unwrap (get p.key samples)) (λ dsm. try (cached_keys samples ps) (λ hs. gives (record { seq = dsm.sample.sequence_number; pair = p } ∷ hs)))

-- `sort_by_cached_key` is stable: an element goes before the first that it is not greater than, those behind it being in order already
unfoldable pub insert_stable : Hit → List Hit → List Hit
insert_stable h [] = h ∷ []
insert_stable h (x ∷ xs) = cond (nat_le h.seq x.seq) (h ∷ x ∷ xs) (x ∷ insert_stable h xs)

unfoldable pub sort_by_cached_key : List Hit → List Hit
sort_by_cached_key [] = []
sort_by_cached_key (h ∷ hs) = insert_stable h (sort_by_cached_key hs)

-- `if keys.len() > 1 { keys.sort_by_cached_key(|(ts, _k)| ..) }`
unfoldable pub sort_by_sequence_number : DataSamples → List Pair → Outcome (List Pair)
sort_by_sequence_number samples keys = cond (nat_lt 1 (length keys)) (try (cached_keys samples keys) (λ hs. gives (pairs_in (sort_by_cached_key hs)))) (gives keys)

-- `.iter().filter_map(|(ts, dsm)| {` .. `let instance_meta = self.instance_map.get(&key).unwrap();`
unfoldable pub selected_keys : ReadCondition → InstanceMap → DataSamples → Outcome (List Pair)
selected_keys rc imds [] = gives []
selected_keys rc imds (e ∷ samples) = try (unwrap (get e.item.key imds)) (λ imd. try (selected_keys rc imds samples) (λ keys.
    gives (cond (sample_selector rc imd e.item.sample) (record { key = e.at; name = e.item.key } ∷ keys) keys)))

unfoldable pub select_keys_for_access : DataSampleCache → ReadCondition → Outcome (List Pair)
select_keys_for_access c rc = try (selected_keys rc c.instance_map c.datasamples) (sort_by_sequence_number c.datasamples)

abbrev pub selects : ReadCondition → InstanceMetaData → Option SampleWithMetaData → Bool
selects rc imd none = false
selects rc imd (some ds) = sample_selector rc imd ds.sample

-- `imd.instance_samples.iter().filter_map(|ts| { if let Some(ds) = self.datasamples.get(ts) {`
unfoldable pub selected_stamps : ReadCondition → DataSamples → ℕ → InstanceMetaData → List ℕ → List Pair
selected_stamps rc samples instance imd [] = []
selected_stamps rc samples instance imd (ts ∷ stamps) = cond (selects rc imd (get ts samples)) (record { key = ts; name = instance } ∷ selected_stamps rc samples instance imd stamps) (selected_stamps rc samples instance imd stamps)

-- `match self.instance_map.get(instance) { None => Vec::new(), Some(imd) => {`
abbrev pub selected_within : DataSampleCache → ℕ → ReadCondition → Option InstanceMetaData → Outcome (List Pair)
selected_within c instance rc none = gives []
selected_within c instance rc (some imd) = sort_by_sequence_number c.datasamples (selected_stamps rc c.datasamples instance imd imd.instance_samples)

abbrev pub select_instance_keys_for_access : DataSampleCache → ℕ → ReadCondition → Outcome (List Pair)
select_instance_keys_for_access c instance rc = selected_within c instance rc (get instance c.instance_map)

-- ---- reading and taking

-- with the sample itself, which `DataSample::new(sample_info, sample)` puts beside it; `write_options` stay with the host
abbrev pub make_sample_info : SampleWithMetaData → InstanceMetaData → ℕ → ℕ → ℕ → Info
make_sample_info dswm imd rank mrs mrsic = record {
  body = dswm.sample.body;
  sample_state = sample_state dswm.sample;
  view_state = view_state imd dswm.sample;
  instance_state = imd.instance_state;
  generation_counts = dswm.sample.generation_counts;
  sample_rank = rank;
  generation_rank = sub_ℕ mrsic (total dswm.sample.generation_counts);
  absolute_generation_rank = sub_ℕ mrs (total dswm.sample.generation_counts);
  publication_handle = dswm.sample.writer_guid;
  sequence_number = dswm.sample.sequence_number;
}

abbrev pub Generations : Type 0
Generations = List (Entry NotAliveGenerationCounts)

-- `.and_modify(|old_gens| { if accessed_generations.total() > old_gens.total() { *old_gens = accessed_generations; } }).or_insert(accessed_generations)`
unfoldable pub record_instance_generation_viewed : Generations → NotAliveGenerationCounts → ℕ → Generations
record_instance_generation_viewed gens accessed key = upsert key (λ old. cond (nat_lt (total old) (total accessed)) accessed old) accessed gens

-- `imd.last_generation_accessed = *gen;`
abbrev pub accessed_now : NotAliveGenerationCounts → InstanceMetaData → InstanceMetaData
accessed_now gen imd = record {
  instance_samples = imd.instance_samples;
  instance_state = imd.instance_state;
  latest_generation_available = imd.latest_generation_available;
  last_generation_accessed = some gen;
}

-- `for (inst, gen) in instance_generations { if let Some(imd) = self.instance_map.get_mut(inst) {` .. `} else { panic!(`
-- A hash map is gone through in any order; here from its last entry to its first.
unfoldable pub mark_instances_viewed : Generations → InstanceMap → Outcome InstanceMap
mark_instances_viewed [] imds = gives imds
mark_instances_viewed (g ∷ gens) imds = try (mark_instances_viewed gens imds) (λ marked. try (unwrap (get g.at marked)) (λ imd. gives (modify g.at (accessed_now g.item) marked)))

abbrev pub has_been_read : SampleWithMetaData → SampleWithMetaData
has_been_read dswm = record {
  key = dswm.key;
  sample = record {
    generation_counts = dswm.sample.generation_counts;
    writer_guid = dswm.sample.writer_guid;
    sequence_number = dswm.sample.sequence_number;
    sample_has_been_read = true;
    body = dswm.sample.body;
  };
}

-- the one line in which the two loops differ: `let dswm = self.datasamples.remove(ts).unwrap();` or
-- `let dswm = self.datasamples.get_mut(ts).unwrap();` .. `dswm.sample_has_been_read = true; // mark as read`
abbrev pub accessed : Bool → ℕ → DataSamples → DataSamples
accessed true ts samples = remove ts samples
accessed false ts samples = modify ts has_been_read samples

pub record Pass : Type 0 where
  pub infos : List Info
  pub datasamples : DataSamples
  pub generations : Generations

-- `for (index, (ts, key)) in keys.iter().enumerate() {`, with `len - index - 1` the number of keys that follow
unfoldable pub pass : Bool → InstanceMap → ℕ → ℕ → DataSamples → Generations → List Pair → Outcome Pass
pass taking imds mrs mrsic samples gens [] = gives (record { infos = []; datasamples = samples; generations = gens })
pass taking imds mrs mrsic samples gens (p ∷ ps) = try (unwrap (get p.key samples)) (λ dswm. try (unwrap (get p.name imds)) (λ imd.
    try (pass taking imds mrs mrsic (accessed taking p.key samples) (record_instance_generation_viewed gens dswm.sample.generation_counts p.name) ps) (λ rest.
    gives (record { infos = make_sample_info dswm imd (length ps) mrs mrsic ∷ rest.infos; datasamples = rest.datasamples; generations = rest.generations }))))

-- `keys.last().unwrap()`, of a list with a first element
unfoldable pub last_of : Pair → List Pair → Pair
last_of p [] = p
last_of p (q ∷ qs) = last_of q qs

pub record Results : Type 0 where
  pub infos : List Info
  pub cache : DataSampleCache

-- `if len == 0 { return result; }`, `let mrsic_total = ..`, `let mrs_total = ..`, the loop, `self.mark_instances_viewed(&instance_generations);`
-- Reading makes its results in a second loop over the same keys; marking leaves the sample itself as it is.
unfoldable pub by_keys : Bool → DataSampleCache → List Pair → Outcome Results
by_keys taking c [] = gives (record { infos = []; cache = c })
by_keys taking c (p ∷ ps) = try (unwrap (get (last_of p ps).name c.instance_map)) (λ mrsic. try (unwrap (last_entry c.datasamples)) (λ mrs.
    try (pass taking c.instance_map (total mrs.item.sample.generation_counts) (total mrsic.latest_generation_available) c.datasamples [] (p ∷ ps)) (λ done.
    try (mark_instances_viewed done.generations c.instance_map) (λ imds.
    gives (record { infos = done.infos; cache = record { qos = c.qos; datasamples = done.datasamples; instance_map = imds } })))))

abbrev pub read_by_keys : DataSampleCache → List Pair → Outcome Results
read_by_keys c keys = by_keys false c keys

abbrev pub take_by_keys : DataSampleCache → List Pair → Outcome Results
take_by_keys c keys = by_keys true c keys

abbrev pub next_key : DataSampleCache → ℕ → Option ℕ
next_key c key = first_above key c.instance_map
