-- What reading and taking a list of pairs does to the store and to the table, slot by slot.
use Rattle.std.specs.Prelude.{cond, List, [], ◌∷◌, map, ℕ, zero, suc, max, length, get_or, set, eqb}
use Rattle.sampleinfo.specs.Counts.{total, accessed_at}
use Rattle.sampleinfo.specs.Lifecycle.{state_of, counts_of, accessed_of}
use Rattle.sampleinfo.specs.Samples.{empty_sample, marked_read, sample_state_of, total_of}
use Rattle.sampleinfo.specs.declared.Sample.{Sample}
use Rattle.sampleinfo.specs.declared.Info.{Info}
use Rattle.sampleinfo.specs.declared.Ranks.{Ranks}
use Rattle.model.specs.Pairs.{Pair}
use Rattle.model.specs.Views.{view_of, rank_from}
use Rattle.model.specs.Model.{Edition, by_the_rust}
use Rattle.store.specs.Store.{Inst, Store, inst_at, slot_named, freed, accessed_in, latest_slot}

-- the slots that a list names
abbrev pub slots_named : Store → List Pair → List ℕ
slots_named s ps = map (slot_named s) ps

-- the slots freed one after the other, each with its owner
unfoldable pub freed_all : Store → List ℕ → Store
unfolding freed
freed_all s [] = s
freed_all s (k ∷ ks) = freed_all (freed s (get_or s.owners k 0) k) ks

unfoldable pub cleared_all : List Sample → List ℕ → List Sample
cleared_all t [] = t
cleared_all t (k ∷ ks) = cleared_all (set t k empty_sample) ks

unfoldable pub marked_all : List Sample → List ℕ → List Sample
marked_all t [] = t
marked_all t (k ∷ ks) = marked_all (set t k (marked_read (get_or t k empty_sample))) ks

-- the greatest total that the slots show for the instance at a place, as it is kept; 0 where they show none
unfoldable pub seen_at : List Sample → List ℕ → List ℕ → ℕ → ℕ
seen_at t owners [] at = 0
seen_at t owners (k ∷ ks) at = max (seen_at t owners ks at) (cond (eqb (get_or owners k 0) at) (accessed_at (total_of (get_or t k empty_sample))) 0)

-- each of the first n instances gets what was seen of it as its last accessed total, if anything was
unfoldable pub viewed_rows : ℕ → (ℕ → ℕ) → Store → Store
viewed_rows zero f s = s
viewed_rows (suc n) f s = let r : Store = viewed_rows n f s in cond (eqb (f n) 0) r (accessed_in r n (f n))

-- ---- the infos: "with everything as before the call"

abbrev pub info_with : Ranks → Inst → Sample → Info
info_with r i x = record {
  body = x.body;
  sample_state = sample_state_of x;
  view_state = view_of (accessed_of i.meta) (total_of x);
  instance_state = state_of i.meta;
  generation_counts = x.generation_counts;
  sample_rank = r.sample_rank;
  generation_rank = r.generation_rank;
  absolute_generation_rank = r.absolute_generation_rank;
  publication_handle = x.writer_guid;
  sequence_number = x.sequence_number;
}

-- the instance of a slot's sample
abbrev pub owner_at : Store → ℕ → Inst
owner_at s k = inst_at s (get_or s.owners k 0)

-- "the latest total of the last pair's instance"
unfoldable pub last_owned : Store → List ℕ → ℕ
last_owned s [] = 0
last_owned s (k ∷ []) = total (counts_of (owner_at s k).meta)
last_owned s (k ∷ l ∷ ks) = last_owned s (l ∷ ks)

-- the ranks of a place of the list `whole`: `behind` are the slots after it, k is its own
-- "sample_rank is m-1-p; generation_rank is the latest total of the last pair's instance minus the sample's total;
-- absolute_generation_rank is the total of the latest-keyed live sample of the whole cache minus the sample's"
unfoldable pub ranks_on : Edition → Store → List Sample → List ℕ → List ℕ → ℕ → Ranks
ranks_on by_the_rust s t whole behind k = record {
  sample_rank = length behind;
  generation_rank = rank_from (last_owned s whole) (total_of (get_or t k empty_sample));
  absolute_generation_rank = rank_from (total_of (get_or t (latest_slot s) empty_sample)) (total_of (get_or t k empty_sample));
}

-- the infos of the slots that are left of the list `whole`, place by place
unfoldable pub slot_infos : Edition → Store → List Sample → List ℕ → List ℕ → List Info
slot_infos e s t whole [] = []
slot_infos e s t whole (k ∷ ks) = info_with (ranks_on e s t whole ks k) (owner_at s k) (get_or t k empty_sample) ∷ slot_infos e s t whole ks

abbrev pub infos_at : Store → List Sample → List ℕ → List Info
infos_at s t ks = slot_infos by_the_rust s t ks ks
