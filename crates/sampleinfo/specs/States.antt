-- The states of DDS 1.4, 2.2.2.5.1.2 (sample), 2.2.2.5.1.8 (view) and 2.2.2.5.1.3 (instance), and document 01's numbers for them.
use Rattle.std.specs.Prelude.{cond, ◌||◌, ℕ, eqb, Option, Some, None}
use Rattle.sampleinfo.specs.declared.SampleState.{SampleState}
use Rattle.sampleinfo.specs.declared.SampleState.TheVariants.{Read, NotRead}
use Rattle.sampleinfo.specs.declared.ViewState.{ViewState}
use Rattle.sampleinfo.specs.declared.ViewState.TheVariants.{New, NotNew}
use Rattle.sampleinfo.specs.declared.InstanceState.{InstanceState}
use Rattle.sampleinfo.specs.declared.InstanceState.TheVariants.{Alive, NotAliveDisposed, NotAliveNoWriters}
use Rattle.sampleinfo.specs.declared.Body.{Body}
use Rattle.sampleinfo.specs.declared.Body.TheVariants.{Value, Dispose}

-- "Masks: Read 1, NotRead 2; New 1, NotNew 2; Alive 1, NotAliveDisposed 2, NotAliveNoWriters 4."
abbrev pub sample_bit : SampleState → ℕ
sample_bit Read = 1
sample_bit NotRead = 2

abbrev pub view_bit : ViewState → ℕ
view_bit New = 1
view_bit NotNew = 2

abbrev pub instance_bit : InstanceState → ℕ
instance_bit Alive = 1
instance_bit NotAliveDisposed = 2
instance_bit NotAliveNoWriters = 4

-- the masks that have every state, and the one that has both states of a dead instance
abbrev pub any_sample : ℕ
any_sample = 3

abbrev pub any_view : ℕ
any_view = 3

abbrev pub any_instance : ℕ
any_instance = 7

abbrev pub not_alive : ℕ
not_alive = 6

-- the state that a number stands for; a number of no state stands for NotRead, NotNew or Alive
abbrev pub sample_of_bit : ℕ → SampleState
sample_of_bit b = cond (eqb b 1) Read NotRead

abbrev pub view_of_bit : ℕ → ViewState
view_of_bit b = cond (eqb b 1) New NotNew

abbrev pub instance_of_bit : ℕ → InstanceState
instance_of_bit b = cond (eqb b 2) NotAliveDisposed (cond (eqb b 4) NotAliveNoWriters Alive)

-- "kind (1 value, 2 dispose)"
abbrev pub kind_of : Body → ℕ
kind_of (Value h) = 1
kind_of (Dispose h) = 2

abbrev pub handle_of : Body → ℕ
handle_of (Value h) = h
handle_of (Dispose h) = h

abbrev pub body_of : ℕ → ℕ → Option Body
body_of kind handle = cond (eqb kind 1) (Some (Value handle)) (cond (eqb kind 2) (Some (Dispose handle)) None)

-- refusal 1: "kind not 1 or 2"
abbrev pub kind_number : ℕ → ℕ
kind_number kind = cond (eqb kind 1 || eqb kind 2) 0 1

-- document 01's number for a body that is refused, 0 for one that is made
abbrev pub body_number : Option Body → ℕ
body_number (Some b) = 0
body_number None = 1

-- "A value makes Alive, a dispose NotAliveDisposed."
abbrev pub made_by : Body → InstanceState
made_by (Value h) = Alive
made_by (Dispose h) = NotAliveDisposed
