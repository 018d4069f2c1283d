-- Views and ranks, written from datasample_cache.rs, as document 01 amends it.
use Rattle.std.specs.Prelude.{cond, ℕ, max, ltb, ℤ}
use Rattle.std.proofs.Math.Option.{Option, some, none}
use Rattle.std.proofs.Math.IntN.{sub_ℕ}
use Rattle.sampleinfo.specs.Counts.{accessed_at}
use Rattle.sampleinfo.specs.declared.ViewState.{ViewState}
use Rattle.sampleinfo.specs.declared.ViewState.TheVariants.{New, NotNew}

-- make_sample_info: `if dswm.generation_counts.total() > imd.last_generation_accessed.total() { New } else { NotNew }`
-- "A sample is New if its total is greater than its instance's last accessed total"
abbrev pub view_of : ℕ → ℕ → ViewState
view_of accessed total = cond (ltb accessed (accessed_at total)) New NotNew

-- record_instance_generation_viewed: the greater of what the list showed so far and this
abbrev pub greater : Option ℕ → ℕ → Option ℕ
greater none t = some t
greater (some u) t = some (max u t)

-- mark_instances_viewed: `imd.last_generation_accessed = *gen`
-- "the greatest total that this list showed for it, even if that is lower than before"; an instance of which it showed none stays
abbrev pub viewed : ℕ → Option ℕ → ℕ
viewed accessed none = accessed
viewed accessed (some t) = accessed_at t

-- make_sample_info: `generation_rank: mrsic_generations - dswm.generation_counts.total()`, and the same with mrs_generations
-- "Both may be negative"
abbrev pub rank_from : ℕ → ℕ → ℤ
rank_from latest total = sub_ℕ latest total
