-- The lifecycle of an instance: DDS 1.4, 2.2.2.5.1.3 (instance_state) and 2.2.2.5.1.5 (generation counts), with document 01's limit and no-writers event.
use Rattle.std.specs.Prelude.{Bool, true, false, ◌&&◌, cond, ℕ, leb, Option, Some, None}
use Rattle.sampleinfo.specs.Counts.{zero, total, disposed_plus, no_writers_plus, never}
use Rattle.sampleinfo.specs.declared.InstanceState.{InstanceState}
use Rattle.sampleinfo.specs.declared.InstanceState.TheVariants.{Alive, NotAliveDisposed, NotAliveNoWriters}
use Rattle.sampleinfo.specs.declared.NotAliveGenerationCounts.{NotAliveGenerationCounts}
use Rattle.sampleinfo.specs.declared.InstanceMetaData.{InstanceMetaData}

-- an instance record: its state, its latest counts, what was last accessed
abbrev pub meta : InstanceState → NotAliveGenerationCounts → ℕ → InstanceMetaData
meta s c a = record { instance_state = s; latest_generation_available = c; last_generation_accessed = a }

abbrev pub state_of : InstanceMetaData → InstanceState
state_of i = i.instance_state

abbrev pub counts_of : InstanceMetaData → NotAliveGenerationCounts
counts_of i = i.latest_generation_available

abbrev pub accessed_of : InstanceMetaData → ℕ
accessed_of i = i.last_generation_accessed

-- "A new instance takes the state of its first sample, counts 0 and 0."
abbrev pub new_instance : InstanceState → InstanceMetaData
new_instance s = meta s zero never

abbrev pub with_state : InstanceMetaData → InstanceState → NotAliveGenerationCounts → InstanceMetaData
with_state i s c = meta s c (accessed_of i)

-- "a decision over nine pairs of old and new state": from, to, and the counts
abbrev pub counts_after : InstanceState → InstanceState → NotAliveGenerationCounts → NotAliveGenerationCounts
counts_after Alive Alive c = c
counts_after Alive NotAliveDisposed c = c
counts_after Alive NotAliveNoWriters c = c
counts_after NotAliveDisposed Alive c = disposed_plus c
counts_after NotAliveDisposed NotAliveDisposed c = c
counts_after NotAliveDisposed NotAliveNoWriters c = c
counts_after NotAliveNoWriters Alive c = no_writers_plus c
counts_after NotAliveNoWriters NotAliveDisposed c = c
counts_after NotAliveNoWriters NotAliveNoWriters c = c

abbrev pub is_alive : InstanceState → Bool
is_alive Alive = true
is_alive NotAliveDisposed = false
is_alive NotAliveNoWriters = false

-- a rebirth: a dead instance becomes Alive
abbrev pub is_reborn : InstanceState → InstanceState → Bool
is_reborn Alive new = false
is_reborn NotAliveDisposed new = is_alive new
is_reborn NotAliveNoWriters new = is_alive new

-- refusal 7: "rebirth from total 2,147,483,647"
abbrev pub is_last : InstanceMetaData → InstanceState → Bool
is_last i new = is_reborn (state_of i) new && leb 2147483647 (total (counts_of i))

abbrev pub becomes : InstanceMetaData → InstanceState → InstanceMetaData
becomes i new = with_state i new (counts_after (state_of i) new (counts_of i))

unfoldable pub lifecycle_of : InstanceMetaData → InstanceState → Option InstanceMetaData
lifecycle_of i new = cond (is_last i new) None (Some (becomes i new))

-- what the lent record is afterwards: a refused step changes nothing
unfoldable pub stepped_of : InstanceMetaData → InstanceState → InstanceMetaData
stepped_of i new = cond (is_last i new) i (becomes i new)

-- "a no-writers event turns Alive into NotAliveNoWriters and leaves a dead instance as it is"
abbrev pub left_by : InstanceState → InstanceState
left_by Alive = NotAliveNoWriters
left_by NotAliveDisposed = NotAliveDisposed
left_by NotAliveNoWriters = NotAliveNoWriters

abbrev pub no_writers_of : InstanceMetaData → InstanceMetaData
no_writers_of i = with_state i (left_by (state_of i)) (counts_of i)

-- the number of a step: refusal 7, or 0
abbrev pub lifecycle_number : InstanceMetaData → InstanceState → ℕ
lifecycle_number i new = cond (is_last i new) 7 0

-- document 01's number for a refused step, 0 for one that is not
abbrev pub stepped_number : Option InstanceMetaData → ℕ
stepped_number (Some i) = 0
stepped_number None = 7
