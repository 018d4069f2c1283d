-- Choosing on numbers: what the header's free slots, the lent words and the three numbers of each record say of a slot.
use Rattle.std.specs.Prelude.{◌≡◌, Bool, not, ◌&&◌, cond, List, [], ◌∷◌, ◌++◌, ℕ, zero, suc, ◌+◌, ◌*◌, ◌<◌, eqb, get_or}
use Rattle.std.specs.declared.option.Option as the_code
use Rattle.std.specs.declared.option.Option.TheVariants.{None, Some}
use Rattle.std.proofs.Math.Option.{Option, some, none}
use Rattle.sampleinfo.specs.States.{sample_bit}
use Rattle.sampleinfo.specs.Lifecycle.{state_of, accessed_of}
use Rattle.sampleinfo.specs.Samples.{empty_sample, sample_state_of, total_of}
use Rattle.sampleinfo.specs.declared.Sample.{Sample}
use Rattle.sampleinfo.specs.declared.SampleState.{SampleState}
use Rattle.sampleinfo.specs.declared.SampleState.TheVariants.{Read, NotRead}
use Rattle.sampleinfo.specs.declared.InstanceMetaData.{InstanceMetaData}
use Rattle.slots.specs.Bits.{free_at}
use Rattle.readcondition.specs.Masks.{chosen_by}
use Rattle.readcondition.specs.declared.ReadCondition.{ReadCondition}
use Rattle.model.specs.Pairs.{Hit}
use Rattle.model.specs.Views.{view_of}
use Rattle.store.specs.Choosing.{in_scope}
use Rattle.index.specs.Words.{names_in, metas_in, keys_in, owners_in, meta_at}
use Rattle.pairs.specs.Flat.{hit_at}

-- "Read 1, NotRead 2"
abbrev pub state_for : ℕ → SampleState
state_for bit = cond (eqb bit 1) Read NotRead

-- choosing over all instances, or within one
abbrev pub scope_of : the_code.Option ℕ → Option ℕ
scope_of None = none
scope_of (Some n) = some n

-- the row of the slot's instance, its name and its record
abbrev pub row_on : List ℕ → ℕ → ℕ
row_on ws k = get_or (owners_in ws) k 0

abbrev pub name_on : List ℕ → ℕ → ℕ
name_on ws k = get_or (names_in ws) (row_on ws k) 0

abbrev pub meta_on : List ℕ → ℕ → InstanceMetaData
meta_on ws k = meta_at (metas_in ws) (row_on ws k)

-- "all three of its states are in the masks"
abbrev pub masks_have : ReadCondition → InstanceMetaData → ℕ → ℕ → Bool
masks_have c x bit total = chosen_by c (state_for bit) (view_of (accessed_of x) total) (state_of x)

-- a live sample, in scope, with its states in the masks
unfoldable pub chosen_on : List ℕ → List ℕ → List ℕ → ReadCondition → Option ℕ → ℕ → Bool
chosen_on free ws seen c w k =
    not (free_at free k) && (in_scope w (name_on ws k) && masks_have c (meta_on ws k) (get_or seen (3 * k + 1) 0) (get_or seen (3 * k + 2) 0))

-- the hit of slot k, if there is one
unfoldable pub hit_on : List ℕ → List ℕ → List ℕ → ReadCondition → Option ℕ → ℕ → List Hit
hit_on free ws seen c w k =
    cond (chosen_on free ws seen c w k) (hit_at (get_or seen (3 * k) 0) (get_or (keys_in ws) k 0) (name_on ws k) ∷ []) []

-- of the n slots from k on, in their order
unfoldable pub hits_on : ℕ → ℕ → List ℕ → List ℕ → List ℕ → ReadCondition → Option ℕ → List Hit
hits_on zero k free ws seen c w = []
hits_on (suc n) k free ws seen c w = hit_on free ws seen c w k ++ hits_on n (k + 1) free ws seen c w

-- the numbers are those of the table's records: sequence number, sample state, total
pub record SeenAt (t : List Sample) (seen : List ℕ) (k : ℕ) : Type 0 where
  pub seq : get_or seen (3 * k) 0 ≡ (get_or t k empty_sample).sequence_number
  pub state : get_or seen (3 * k + 1) 0 ≡ sample_bit (sample_state_of (get_or t k empty_sample))
  pub total : get_or seen (3 * k + 2) 0 ≡ total_of (get_or t k empty_sample)

abbrev pub Seen : List Sample → List ℕ → Type 0
Seen t seen = (k : ℕ) → k < 256 → SeenAt t seen k
