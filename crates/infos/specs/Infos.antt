-- The ranks of a place and the info of a sample, from the records that the code has in hand.
use Rattle.std.specs.Prelude.{ℕ}
use Rattle.sampleinfo.specs.Counts.{total}
use Rattle.sampleinfo.specs.Lifecycle.{state_of, accessed_of}
use Rattle.sampleinfo.specs.Samples.{sample_state_of, total_of}
use Rattle.sampleinfo.specs.declared.NotAliveGenerationCounts.{NotAliveGenerationCounts}
use Rattle.sampleinfo.specs.declared.InstanceMetaData.{InstanceMetaData}
use Rattle.sampleinfo.specs.declared.Sample.{Sample}
use Rattle.sampleinfo.specs.declared.Ranks.{Ranks}
use Rattle.sampleinfo.specs.declared.Info.{Info}
use Rattle.model.specs.Views.{view_of, rank_from}
use Rattle.infos.specs.declared.Ranking.{Ranking}

-- "generation_rank is the latest total of the last pair's instance minus the sample's total; absolute_generation_rank is the total of
-- the latest-keyed live sample of the whole cache minus the sample's"
unfoldable pub ranks_from : Ranking → ℕ → NotAliveGenerationCounts → Ranks
ranks_from r follow counts = record {
  sample_rank = follow;
  generation_rank = rank_from (total r.mrsic_generations) (total counts);
  absolute_generation_rank = rank_from (total r.mrs_generations) (total counts);
}

unfoldable pub info_from : Sample → InstanceMetaData → Ranks → Info
info_from s i r = record {
  body = s.body;
  sample_state = sample_state_of s;
  view_state = view_of (accessed_of i) (total_of s);
  instance_state = state_of i;
  generation_counts = s.generation_counts;
  sample_rank = r.sample_rank;
  generation_rank = r.generation_rank;
  absolute_generation_rank = r.absolute_generation_rank;
  publication_handle = s.writer_guid;
  sequence_number = s.sequence_number;
}
