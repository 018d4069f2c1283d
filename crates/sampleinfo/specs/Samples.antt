-- The sample record.
use Rattle.std.specs.Prelude.{false, true, cond, List, ℕ, replicate}
use Rattle.sampleinfo.specs.Counts.{zero, total}
use Rattle.sampleinfo.specs.declared.NotAliveGenerationCounts.{NotAliveGenerationCounts}
use Rattle.sampleinfo.specs.declared.SampleState.{SampleState}
use Rattle.sampleinfo.specs.declared.SampleState.TheVariants.{Read, NotRead}
use Rattle.sampleinfo.specs.declared.Body.{Body}
use Rattle.sampleinfo.specs.declared.Body.TheVariants.{Value}
use Rattle.sampleinfo.specs.declared.Sample.{Sample}

-- a sample that nobody has read, with the counts that it keeps
abbrev pub unread : NotAliveGenerationCounts → List ℕ → ℕ → Body → Sample
unread c writer seq body = record { generation_counts = c; writer_guid = writer; sequence_number = seq; sample_has_been_read = false; body = body }

-- "the empty record (all numbers 0, a value's body, unread)"
abbrev pub empty_sample : Sample
empty_sample = unread zero (replicate 16 0) 0 (Value 0)

-- "Read marks samples Read"
abbrev pub marked_read : Sample → Sample
marked_read s = record { generation_counts = s.generation_counts; writer_guid = s.writer_guid; sequence_number = s.sequence_number; sample_has_been_read = true; body = s.body }

-- DDS 1.4, 2.2.2.5.1.2: READ once the sample was read, NOT_READ before
abbrev pub sample_state_of : Sample → SampleState
sample_state_of s = cond s.sample_has_been_read Read NotRead

abbrev pub total_of : Sample → ℕ
total_of s = total s.generation_counts
