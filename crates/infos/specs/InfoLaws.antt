-- The info of a sample and the ranks of its place, as the code meets them; and they are the model's.
use Rattle.std.specs.Prelude.{◌≡◌, List, ℕ, ℤ, length}
use Rattle.sampleinfo.specs.Counts.{total}
use Rattle.sampleinfo.specs.Lifecycle.{state_of, accessed_of}
use Rattle.sampleinfo.specs.Samples.{sample_state_of, total_of}
use Rattle.sampleinfo.specs.declared.NotAliveGenerationCounts.{NotAliveGenerationCounts}
use Rattle.sampleinfo.specs.declared.InstanceMetaData.{InstanceMetaData}
use Rattle.sampleinfo.specs.declared.SampleState.{SampleState}
use Rattle.sampleinfo.specs.declared.ViewState.{ViewState}
use Rattle.sampleinfo.specs.declared.Sample.{Sample}
use Rattle.sampleinfo.specs.declared.Ranks.{Ranks}
use Rattle.sampleinfo.specs.declared.Info.{Info}
use Rattle.model.specs.Pairs.{Pair}
use Rattle.model.specs.Views.{view_of, rank_from}
use Rattle.model.specs.Model.{Model, Instance, Live, lives, latest, latest_total, last_total, by_the_rust, ranks_at, info_of}
use Rattle.infos.specs.declared.Ranking.{Ranking}
use Rattle.infos.specs.Infos.{ranks_from, info_from}

-- what the callees answer makes the ranks
pub ranked : (l : Ranking) (follow : ℕ) (counts : NotAliveGenerationCounts) (g a : ℤ) → g ≡ rank_from (total l.mrsic_generations) (total counts) → a ≡ rank_from (total l.mrs_generations) (total counts)
    → ◌≡◌ {A = Ranks} (record { sample_rank = follow; generation_rank = g; absolute_generation_rank = a }) (ranks_from l follow counts)
unfolding ranks_from
ranked l follow counts g a p q = rw (p, q)

-- and the info
pub made : (s : Sample) (i : InstanceMetaData) (r : Ranks) (state : SampleState) (view : ViewState) → state ≡ sample_state_of s → view ≡ view_of (accessed_of i) (total_of s)
    → ◌≡◌ {A = Info} (record {
      body = s.body;
      sample_state = state;
      view_state = view;
      instance_state = state_of i;
      generation_counts = s.generation_counts;
      sample_rank = r.sample_rank;
      generation_rank = r.generation_rank;
      absolute_generation_rank = r.absolute_generation_rank;
      publication_handle = s.writer_guid;
      sequence_number = s.sequence_number;
    }) (info_from s i r)
unfolding info_from
made s i r state view p q = rw (p, q)

-- the model's info, of any instance with that record and any live sample with that record
pub info-of-model : (i : Instance) (l : Live) (s : Sample) (imd : InstanceMetaData) (r : Ranks) → i.meta ≡ imd → l.sample ≡ s → info_from s imd r ≡ info_of r i l
unfolding info_from
info-of-model i l s imd r e h = rw (← e, ← h)

-- the model's ranks in edition 1, of any list whose two latest totals are those of the counts
pub ranks-of-model : (m : Model) (whole behind : List Pair) (i : Instance) (l : Live) (r : Ranking) (follow : ℕ) (counts : NotAliveGenerationCounts)
    → total r.mrsic_generations ≡ last_total m whole → total r.mrs_generations ≡ latest_total (latest (lives m.instances)) → follow ≡ length behind → l.sample.generation_counts ≡ counts
    → ranks_from r follow counts ≡ ranks_at by_the_rust m whole behind i l
unfolding ranks_from ranks_at
ranks-of-model m whole behind i l r follow counts g a f e = rw (g, a, f, ← e)
