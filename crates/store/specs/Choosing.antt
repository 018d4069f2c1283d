-- Choosing on numbers and records: slot by slot.
use Rattle.std.specs.Prelude.{Bool, true, ◌&&◌, cond, List, [], ◌∷◌, ◌++◌, ℕ, zero, suc, ◌+◌, eqb, get_or}
use Rattle.std.proofs.Math.Option.{Option, some, none}
use Rattle.sampleinfo.specs.Lifecycle.{state_of, accessed_of}
use Rattle.sampleinfo.specs.Samples.{empty_sample, sample_state_of, total_of}
use Rattle.sampleinfo.specs.declared.Sample.{Sample}
use Rattle.slots.specs.Bits.{free_at}
use Rattle.readcondition.specs.Masks.{chosen_by}
use Rattle.readcondition.specs.declared.ReadCondition.{ReadCondition}
use Rattle.model.specs.Pairs.{Hit}
use Rattle.model.specs.Views.{view_of}
use Rattle.store.specs.Store.{Inst, Store, inst_at}

-- over all instances, or within one
abbrev pub in_scope : Option ℕ → ℕ → Bool
in_scope none n = true
in_scope (some k) n = eqb n k

-- "all three of its states are in the masks"
abbrev pub chosen_in : ReadCondition → Inst → Sample → Bool
chosen_in c i r = chosen_by c (sample_state_of r) (view_of (accessed_of i.meta) (total_of r)) (state_of i.meta)

abbrev pub hit_in : ℕ → Inst → Sample → Hit
hit_in key i r = record { seq = r.sequence_number; pair = record { key = key; name = i.name } }

-- the hit of slot k: none where it is free, out of scope or not chosen
unfoldable pub hit_at : Store → List Sample → ReadCondition → Option ℕ → ℕ → List Hit
hit_at s t c w k =
    let i : Inst = inst_at s (get_or s.owners k 0) in
    let r : Sample = get_or t k empty_sample in
    cond (free_at s.free k) [] (cond (in_scope w i.name && chosen_in c i r) (hit_in (get_or s.keys k 0) i r ∷ []) [])

-- of the n slots from k on, in their order
unfoldable pub hits_from : ℕ → ℕ → Store → List Sample → ReadCondition → Option ℕ → List Hit
unfolding hit_at
hits_from zero k s t c w = []
hits_from (suc n) k s t c w = hit_at s t c w k ++ hits_from n (k + 1) s t c w
