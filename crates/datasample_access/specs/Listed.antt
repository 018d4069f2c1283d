-- What reading or taking a list answers and leaves, against the model's step.
use Rattle.std.specs.Prelude.{◌≡◌, Bool, false, cond, List, [], ◌∷◌, ℕ, length, replicate}
use Rattle.sampleinfo.specs.declared.NotAliveGenerationCounts.{NotAliveGenerationCounts}
use Rattle.sampleinfo.specs.declared.Sample.{Sample}
use Rattle.model.specs.Model as M
use Rattle.model.specs.Model.{Model, Answer, Step, Call, step, refuse}
use Rattle.pairs.specs.Flat.{pairs_of, whole_pairs}
use Rattle.store.specs.Store.{Store, latest_slot}
use Rattle.index.specs.Memory.{Tied}
use Rattle.index.specs.declared.Cache.{Cache}
use Rattle.infos.specs.Words.{put_infos, infos_then}
use Rattle.infos.specs.declared.Ranking.{Ranking}
use Rattle.samples.specs.Table.{peek_at, touched}
use Rattle.memory.specs.Lies.{Lies}
use Rattle.access.specs.Access.{run, infos_by, noted_all, last_counts, settled}
use Rattle.std.specs.declared.result.Result.{Result}
use Rattle.std.specs.declared.result.Result.TheVariants.{Ok, Err}
use Rattle.refusals.specs.Numbers.{number_of}
use Rattle.refusals.specs.declared.Refusal.{Refusal}
use Rattle.refusals.specs.declared.Refusal.TheVariants as refusal

-- document 01's answer: the infos stand first in the result buffer, and "Result places past the answer keep what they held"; a refusal
-- "returns its number only; state and lent buffers stay as found"
abbrev pub Told : Answer → Result ℕ Refusal → List ℕ → List ℕ → Type 0
Told (M.infos xs) (Ok n) out after = (n ≡ length xs) × (after ≡ infos_then out xs)
Told (M.infos xs) (Err e) out after = ⊥
Told (M.refused n) (Ok x) out after = ⊥
Told (M.refused n) (Err e) out after = (number_of e ≡ n) × (after ≡ out)
Told M.ok x out after = ⊥
Told (M.added k s e) x out after = ⊥
Told (M.selected ps) x out after = ⊥
Told (M.next n) x out after = ⊥

-- refusal 1 where the "key list [is] not of whole pairs", else the model's step
unfoldable pub listing : Model → Bool → List ℕ → ℕ → Step
unfolding step pairs_of whole_pairs
listing m take list room = let done : Step = step m (Call.read_or_take take (pairs_of list) room) in cond (whole_pairs list) done (refuse m 1)

pub record Came (st : Step) (r : Result ℕ Refusal) (h : Cache) (ws : List ℕ) (t : List Sample) (out after : List ℕ) : Type 0 where
  pub answer : Told st.answer r out after
  pub lies : Lies st.then h ws t

-- ---- the steps of the code

abbrev pub not_listed : Result ℕ Refusal
not_listed = Err refusal.Malformed

-- refusal 1, whatever lies in memory: "sample table not 256 records, key list not of whole pairs"
pub data Unfit (t : List Sample) (list : List ℕ) : Type 0 where
  no_table : (length t ≡ 256 → ⊥) → Unfit t list
  odd : whole_pairs list ≡ false → Unfit t list

-- the slots touched one after the other
unfoldable pub touched_all : List Sample → Bool → List ℕ → List Sample
touched_all t take [] = t
touched_all t take (k ∷ ks) = touched_all (touched t k take) take ks

-- what the ranks of a list are counted from: "the total of the latest-keyed live sample of the whole cache", "the latest total of the last pair's instance"
abbrev pub ranking_of : Sample → NotAliveGenerationCounts → Ranking
ranking_of latest mrsic = record { mrs_generations = latest.generation_counts; mrsic_generations = mrsic }

-- "with everything as before the call": the infos and what they show are made of the table and the words at entry
pub record Served (s : Store) (take : Bool) (n : ℕ) (slots ws : List ℕ) (t : List Sample) (out : List ℕ) (r : Cache) (words : List ℕ) (table : List Sample) (after : List ℕ) : Type 0 where
  pub tied : Tied (settled s take (run n 0 slots) (noted_all ws t (replicate 32 0) (run n 0 slots))) r words
  pub touched : table ≡ touched_all t take (run n 0 slots)
  pub infos : after ≡ put_infos out 0 (infos_by ws t (ranking_of (peek_at t (latest_slot s)) (last_counts ws slots n)) (run n 0 slots))
