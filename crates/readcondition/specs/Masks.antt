-- Masks of states: DDS 1.4, 2.2.2.5.8 (ReadCondition), "to be selected, the current state of the sample must be included".
use Rattle.std.specs.Prelude.{Bool, true, false, not, ◌&&◌, cond, ℕ, eqb, leb}
use Rattle.std.specs.Int.Bits.{bit_and}
use Rattle.sampleinfo.specs.States.{sample_bit, view_bit, instance_bit, any_sample, any_view, any_instance}
use Rattle.sampleinfo.specs.declared.SampleState.{SampleState}
use Rattle.sampleinfo.specs.declared.SampleState.TheVariants.{NotRead}
use Rattle.sampleinfo.specs.declared.ViewState.{ViewState}
use Rattle.sampleinfo.specs.declared.InstanceState.{InstanceState}
use Rattle.readcondition.specs.declared.ReadCondition.{ReadCondition}

abbrev pub condition : ℕ → ℕ → ℕ → ReadCondition
condition s v i = record { sample_state_mask = s; view_state_mask = v; instance_state_mask = i }

-- the mask has the bit
abbrev pub has : ℕ → ℕ → Bool
has mask bit = not (eqb (bit_and mask bit) 0)

-- "A sample is chosen if all three of its states are in the masks"
unfoldable pub chosen_by : ReadCondition → SampleState → ViewState → InstanceState → Bool
chosen_by c s v i = has c.sample_state_mask (sample_bit s) && (has c.view_state_mask (view_bit v) && has c.instance_state_mask (instance_bit i))

-- refusal 1: "mask beyond 3, 3, 7"
unfoldable pub is_valid : ReadCondition → Bool
is_valid c = leb c.sample_state_mask any_sample && (leb c.view_state_mask any_view && leb c.instance_state_mask any_instance)

-- the number of a condition: refusal 1, or 0
abbrev pub condition_number : ReadCondition → ℕ
condition_number c = cond (is_valid c) 0 1

-- document 01's number for the answer of `is_valid`
abbrev pub valid_number : Bool → ℕ
valid_number true = 0
valid_number false = 1

abbrev pub any_condition : ReadCondition
any_condition = condition any_sample any_view any_instance

abbrev pub not_read : ReadCondition
not_read = condition (sample_bit NotRead) any_view any_instance
