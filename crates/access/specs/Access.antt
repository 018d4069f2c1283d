-- Reading and taking a list, on the store and on the words.
use Rattle.std.specs.Prelude.{◌≡◌, Bool, false, cond, List, [], ◌∷◌, ◌++◌, ℕ, zero, suc, ◌+◌, ◌-◌, ◌*◌, length, get_or, set, take, drop, ltb, eqb, Some, None}
use Rattle.std.specs.Prelude as rust
use Rattle.std.specs.declared.result.Result.{Result}
use Rattle.std.specs.declared.result.Result.TheVariants.{Err}
use Rattle.std.proofs.Math.Option.{Option, some, none}
use Rattle.refusals.specs.declared.Refusal.{Refusal}
use Rattle.refusals.specs.declared.Refusal.TheVariants.{Malformed}
use Rattle.sampleinfo.specs.Counts as counts
use Rattle.sampleinfo.specs.Counts.{accessed_at}
use Rattle.sampleinfo.specs.Lifecycle.{counts_of}
use Rattle.sampleinfo.specs.Samples.{empty_sample, total_of}
use Rattle.sampleinfo.specs.declared.NotAliveGenerationCounts.{NotAliveGenerationCounts}
use Rattle.sampleinfo.specs.declared.Sample.{Sample}
use Rattle.sampleinfo.specs.declared.Info.{Info}
use Rattle.model.specs.Pairs.{Pair, Bad, not_live, twice, bad_from, first_bad}
use Rattle.pairs.specs.Flat.{pairs_of, whole_pairs}
use Rattle.pairs.specs.Repeat.{first_dead, place_in}
use Rattle.store.specs.Store.{Store, is_held}
use Rattle.index.specs.Words.{metas_in, owners_in, meta_at, put_meta_word}
use Rattle.index.specs.Memory.{Tied}
use Rattle.index.specs.declared.Cache.{Cache}
use Rattle.change.specs.Change.{code_of, freed_at}
use Rattle.refine.specs.Lists.{slots_named, viewed_rows}
use Rattle.infos.specs.Infos.{info_from, ranks_from}
use Rattle.access.specs.declared.Bad as code
use Rattle.access.specs.declared.Bad.TheVariants.{NotLive, Twice}
use Rattle.infos.specs.declared.Ranking.{Ranking}

-- the slot at a place, 256 past the last
abbrev pub slot_at : List ℕ → ℕ → ℕ
slot_at slots p = cond (ltb p 256) (get_or slots p 0) 256

-- the n places from p on
unfoldable pub run : ℕ → ℕ → List ℕ → List ℕ
run zero p slots = []
run (suc n) p slots = slot_at slots p ∷ run n (p + 1) slots

-- ---- what is refused

-- the slots that the pairs name, first of all places
abbrev pub named_first : Store → List Pair → List ℕ → List ℕ
named_first s ps slots = slots_named s ps ++ drop (length ps) slots

-- the pairs before the first that is not live
abbrev pub live_first : Store → List Pair → List Pair
live_first s ps = take (first_dead (is_held s) ps) ps

pub record Found (s : Store) (ps : List Pair) (r : rust.Option ℕ) (slots after : List ℕ) : Type 0 where
  pub place : r ≡ place_in (length ps) (first_dead (is_held s) ps)
  pub names : after ≡ named_first s (live_first s ps) slots

-- the first bad pair as the code has it
abbrev pub bad_of : rust.Option code.Bad → Option Bad
bad_of None = none
bad_of (Some (NotLive p)) = some (record { place = p; fault = not_live })
bad_of (Some (Twice p)) = some (record { place = p; fault = twice })

-- 8: "key list names a pair not live, or a pair twice"
abbrev pub number_of : Option Bad → ℕ
number_of none = 0
number_of (some b) = 8

abbrev pub or_short : ℕ → ℕ → ℕ → ℕ
or_short zero room n = cond (ltb room n) 9 0
or_short (suc k) room n = suc k

-- 1: "key list not of whole pairs"; then the number of the first bad pair; 9: "lent result buffer too short for the whole answer".
-- No more than 256 pairs are live, so of more one is bad
unfoldable pub list_refusal : Store → List ℕ → ℕ → ℕ
unfolding pairs_of whole_pairs bad_from
list_refusal s list room =
    cond (whole_pairs list)
    (cond (ltb 256 (length (pairs_of list))) 8
    (or_short (number_of (first_bad (is_held s) (pairs_of list))) room (length (pairs_of list)))) 1

-- a list that is refused for its form or its length names no slot
unfoldable pub slots_after : Store → List ℕ → List ℕ → List ℕ
unfolding pairs_of whole_pairs first_dead
slots_after s list slots = cond (whole_pairs list) (cond (ltb 256 (length (pairs_of list))) slots (named_first s (live_first s (pairs_of list)) slots)) slots

pub record Refuses (s : Store) (list : List ℕ) (room : ℕ) (r : Result Unit Refusal) (slots after : List ℕ) : Type 0 where
  pub number : code_of r ≡ list_refusal s list room
  pub names : after ≡ slots_after s list slots

-- on the memory of a store its refusal; 1 for a "key list not of whole pairs" on any memory
pub record Judges (h : Cache) (ws list : List ℕ) (room : ℕ) (r : Result Unit Refusal) (slots after : List ℕ) : Type 0 where
  pub tied : (s : Store) → length slots ≡ 256 → Tied s h ws → Refuses s list room r slots after
  pub odd : whole_pairs list ≡ false → r ≡ Err Malformed

-- ---- what is shown

unfoldable pub last_counts : List ℕ → List ℕ → ℕ → NotAliveGenerationCounts
last_counts ws slots n = cond (eqb n 0) counts.zero (counts_of (meta_at (metas_in ws) (get_or (owners_in ws) (slot_at slots (n - 1)) 0)))

-- "the greatest total that this list showed for it"
unfoldable pub noted : List ℕ → ℕ → ℕ → List ℕ
noted seen row a = cond (ltb row 32) (cond (ltb (get_or seen row 0) a) (set seen row a) seen) seen

-- the slots one after the other
unfoldable pub noted_all : List ℕ → List Sample → List ℕ → List ℕ → List ℕ
unfolding noted
noted_all ws t seen [] = seen
noted_all ws t seen (k ∷ ks) = noted_all ws t (noted seen (get_or (owners_in ws) k 0) (accessed_at (total_of (get_or t k empty_sample)))) ks

unfoldable pub infos_by : List ℕ → List Sample → Ranking → List ℕ → List Info
infos_by ws t r [] = []
infos_by ws t r (k ∷ ks) =
    info_from (get_or t k empty_sample) (meta_at (metas_in ws) (get_or (owners_in ws) k 0)) (ranks_from r (length ks) (get_or t k empty_sample).generation_counts) ∷ infos_by ws t r ks

-- ---- what is left

-- each slot freed with its owner, where that is held
unfoldable pub freed_each : Store → List ℕ → Store
freed_each s [] = s
freed_each s (k ∷ ks) = freed_each (freed_at s (get_or s.owners k 0) k) ks

abbrev pub viewed_word : List ℕ → ℕ → ℕ → List ℕ
viewed_word ws row a = cond (eqb a 0) ws (put_meta_word ws (4 * row + 3) a)

-- "Afterwards each instance in the list gets as last accessed the greatest total that this list showed for it"
abbrev pub viewed_by : List ℕ → Store → Store
viewed_by seen s = viewed_rows (length s.insts) (λ r. get_or seen r 0) s

abbrev pub settled : Store → Bool → List ℕ → List ℕ → Store
settled s take ks seen = viewed_by seen (cond take (freed_each s ks) s)
