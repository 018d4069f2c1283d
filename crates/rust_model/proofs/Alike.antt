-- The relation that carries the theorem. Between the model's state and the Rust's stands a log: every sample that still uses up a place of its
-- instance, whole cache, in order of keys. A taken sample stays in the log, marked: in the model its place is `gone`, in the Rust its stamp is left
-- behind in `instance_samples` while it is no longer in `datasamples`. Both states are then read off the log: the model's places of an instance are
-- its entries, the Rust's stamps of an instance are their keys, and the Rust's `datasamples` are all entries that are not taken.
use Rattle.std.proofs.Common.{◌≡◌, ℕ, ◌<◌, ◌≤◌, cond, eqb, List, [], ◌∷◌, length}
use mathlib.Core.Option.{Option, some, none}
use Rattle.sampleinfo.specs.Counts.{total, never, accessed_at}
use Rattle.sampleinfo.specs.Lifecycle.{state_of, counts_of, accessed_of}
use Rattle.sampleinfo.specs.declared.NotAliveGenerationCounts.{NotAliveGenerationCounts}
use Rattle.model.specs.Model.{Model, Instance, find, next_name}
use Rattle.model.specs.Story.{Entry as Told, Every, AtMost, entry_keys}
use Rattle.model.proofs.Laws.{places_of}
use Rattle.rust_model.specs.Maps.{entry, get, first_above}
use Rattle.rust_model.specs.DataSampleCache.{InstanceMetaData, SampleWithMetaData, DataSamples, DataSampleCache, keep_count}

-- an entry of the log: whose sample, the sample, and whether it was taken
pub record Kept : Type 0 where
  pub name : ℕ
  pub told : Told

abbrev pub key_at : Kept → ℕ
key_at k = k.told.sample.key

-- the entries of one instance
unfoldable pub mine : ℕ → List Kept → List Told
mine n [] = []
mine n (k ∷ log) = cond (eqb k.name n) (k.told ∷ mine n log) (mine n log)

abbrev pub stored : Kept → SampleWithMetaData
stored k = record { key = k.name; sample = k.told.sample.sample }

-- `datasamples`
unfoldable pub samples : List Kept → DataSamples
samples [] = []
samples (k ∷ log) = cond k.told.taken (samples log) (entry (key_at k) (stored k) ∷ samples log)

-- keys rise
abbrev pub Rising : List Kept → Type 0
Rising [] = Unit {0}
Rising (k ∷ log) = Every (λ j. key_at k < key_at j) log × Rising log

-- at most d entries for an instance, d not 0
abbrev pub Few : Option ℕ → List Told → Type 0
Few none es = Unit {0}
Few (some d) es = (length es ≤ d) × (0 < d)

-- the model keeps a last accessed total with 2 added, the Rust the counts
abbrev pub ticks : Option NotAliveGenerationCounts → ℕ
ticks none = never
ticks (some c) = accessed_at (total c)

-- an instance of the model and one of the Rust, both with these entries
pub record Matches (keep : Option ℕ) (es : List Told) (i : Instance) (d : InstanceMetaData) : Type 0 where
  pub places : i.places ≡ places_of keep es
  pub few : Few keep es
  pub stamps : d.instance_samples ≡ entry_keys es
  pub state : d.instance_state ≡ state_of i.meta
  pub counts : d.latest_generation_available ≡ counts_of i.meta
  pub accessed : ticks d.last_generation_accessed ≡ accessed_of i.meta

-- both have the instance, or neither
abbrev pub Twins : Option ℕ → List Told → Option Instance → Option InstanceMetaData → Type 0
Twins keep es none none = (es ≡ []) × Few keep []
Twins keep es (some i) (some d) = Matches keep es i d
Twins keep es none (some d) = ⊥
Twins keep es (some i) none = ⊥

pub record Alike (m : Model) (c : DataSampleCache) (log : List Kept) : Type 0 where
  pub keeps : keep_count c.qos ≡ m.keep
  pub holds : c.datasamples ≡ samples log
  pub twins : (n : ℕ) → Twins m.keep (mine n log) (find n m.instances) (get n c.instance_map)
  pub nexts : (n : ℕ) → first_above n c.instance_map ≡ next_name n m.instances
  pub rises : Rising log
  pub top : Every (λ k. AtMost m.last (key_at k)) log
