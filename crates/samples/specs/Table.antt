-- The sample table as a list of records.
use Rattle.std.specs.Prelude.{Bool, cond, List, ℕ, zero, suc, ◌+◌, ◌*◌, get_or, set, replicate}
use Rattle.sampleinfo.specs.States.{sample_bit}
use Rattle.sampleinfo.specs.Samples.{empty_sample, marked_read, sample_state_of, total_of}
use Rattle.sampleinfo.specs.declared.Sample.{Sample}

-- the record in slot i, the empty record past the end
abbrev pub peek_at : List Sample → ℕ → Sample
peek_at t i = get_or t i empty_sample

-- the old slot is emptied, then the other gets its record
abbrev pub swapped : List Sample → ℕ → ℕ → Sample → List Sample
swapped t old slot s = set (set t old empty_sample) slot s

-- "Read marks samples Read; take removes them", and "a freed slot gets it back", the empty record
abbrev pub touched : List Sample → ℕ → Bool → List Sample
touched t i take = set t i (cond take empty_sample (marked_read (peek_at t i)))

-- "starts as 256 copies of the empty record"
abbrev pub empty_table : List Sample
empty_table = replicate 256 empty_sample

-- ---- what a choice asks of a record

abbrev pub put_seen : List ℕ → ℕ → Sample → List ℕ
put_seen l i s = set (set (set l (3 * i) s.sequence_number) (3 * i + 1) (sample_bit (sample_state_of s))) (3 * i + 2) (total_of s)

-- of the n slots from k on, one after the other
unfoldable pub gathered : ℕ → ℕ → List Sample → List ℕ → List ℕ
gathered zero k t l = l
gathered (suc n) k t l = gathered n (k + 1) t (put_seen l k (peek_at t k))
