-- The generation counts: DDS 1.4, 2.2.2.5.1.5.
use Rattle.std.specs.Prelude.{ℕ, ◌+◌}
use Rattle.sampleinfo.specs.declared.NotAliveGenerationCounts.{NotAliveGenerationCounts}

abbrev pub counts : ℕ → ℕ → NotAliveGenerationCounts
counts d n = record { disposed_generation_count = d; no_writers_generation_count = n }

abbrev pub disposed_count : NotAliveGenerationCounts → ℕ
disposed_count c = c.disposed_generation_count

abbrev pub no_writers_count : NotAliveGenerationCounts → ℕ
no_writers_count c = c.no_writers_generation_count

-- "initialized to zero when the DataReader first detects the presence of a never-seen-before instance"
abbrev pub zero : NotAliveGenerationCounts
zero = counts 0 0

abbrev pub total : NotAliveGenerationCounts → ℕ
total c = disposed_count c + no_writers_count c

-- "incremented each time the instance_state changes from NOT_ALIVE_DISPOSED to ALIVE"
abbrev pub disposed_plus : NotAliveGenerationCounts → NotAliveGenerationCounts
disposed_plus c = counts (disposed_count c + 1) (no_writers_count c)

-- "incremented each time the instance_state changes from NOT_ALIVE_NO_WRITERS to ALIVE"
abbrev pub no_writers_plus : NotAliveGenerationCounts → NotAliveGenerationCounts
no_writers_plus c = counts (disposed_count c) (no_writers_count c + 1)

-- "last accessed total, which starts at -2": it is kept with 2 added, so that never is 0
abbrev pub never : ℕ
never = 0

abbrev pub accessed_at : ℕ → ℕ
accessed_at t = t + 2
