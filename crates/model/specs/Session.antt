-- Document 01's session S1: its thirteen calls after set-up, computed from the definitions.
use Rattle.std.specs.Prelude.{◌≡◌, refl, cond, true, false, List, [], ◌∷◌, ℕ, eqb, pos, replicate}
use Rattle.std.proofs.Math.Option.{some, none}
use Rattle.sampleinfo.specs.Counts.{counts}
use Rattle.sampleinfo.specs.States.{instance_of_bit}
use Rattle.sampleinfo.specs.declared.SampleState.TheVariants.{Read, NotRead}
use Rattle.sampleinfo.specs.declared.ViewState.TheVariants.{New, NotNew}
use Rattle.sampleinfo.specs.declared.Body.TheVariants.{Value, Dispose}
use Rattle.sampleinfo.specs.declared.Info.{Info}
use Rattle.readcondition.specs.Masks.{condition}
use Rattle.readcondition.specs.Masks as Masks
use Rattle.keys.specs.Keys as Keys
use Rattle.model.specs.Pairs.{Pair}
use Rattle.model.specs.Pairs as Pairs
use Rattle.model.specs.Model.{Model, Call, add, no_writers, choose, read_or_take, next_key, refused, added, selected, infos, next, fresh, answers}
use Rattle.model.specs.Model

-- every writer is 16 bytes of 0
abbrev writer : List ℕ
writer = replicate 16 0

abbrev arr : ℕ → ℕ → ℕ → ℕ → ℕ → Call
arr n s t k h = add (record { name = n; writer = writer; seq = s; time = t; kind = k; handle = h })

abbrev masks : ℕ → ℕ → ℕ → Call
masks s v i = choose none (condition s v i) 256

abbrev read : List Pair → Call
read ps = read_or_take false ps 256

abbrev take' : List Pair → Call
take' ps = read_or_take true ps 256

abbrev at : ℕ → ℕ → Pair
at k n = record { key = k; name = n }

-- an info line as it is printed: handle, kind, sample, view and instance state, both counts, three ranks; and the sequence number, which is not printed
abbrev line : ℕ → ℕ → ℕ → ℕ → ℕ → ℕ → ℕ → ℕ → ℕ → ℕ → ℕ → Info
line h k s v l a b r g x seq = record {
  body = cond (eqb k 1) (Value h) (Dispose h);
  sample_state = cond (eqb s 1) Read NotRead;
  view_state = cond (eqb v 1) New NotNew;
  instance_state = instance_of_bit l;
  generation_counts = counts a b;
  sample_rank = r;
  generation_rank = pos g;
  absolute_generation_rank = pos x;
  publication_handle = writer;
  sequence_number = seq;
}

s1 : answers (fresh (some 2) 4) (arr 7 1 100 1 11 ∷ arr 9 1 100 1 12 ∷ arr 7 2 90 2 13 ∷ arr 7 3 200 1 14
    ∷ masks 3 3 7 ∷ read (at 101 9 ∷ at 102 7 ∷ at 200 7 ∷ []) ∷ read (at 102 7 ∷ []) ∷ masks 3 1 7 ∷ take' (at 200 7 ∷ [])
    ∷ arr 7 4 150 1 15 ∷ next_key 7 ∷ next_key 9 ∷ no_writers 8 ∷ [])
    ≡ added 100 0 none ∷ added 101 1 none ∷ added 102 2 none ∷ added 200 0 (some 11)
    ∷ selected (at 101 9 ∷ at 102 7 ∷ at 200 7 ∷ [])
    ∷ infos (line 12 1 2 1 1 0 0 2 1 1 1 ∷ line 13 2 2 1 1 0 0 1 1 1 2 ∷ line 14 1 2 1 1 1 0 0 0 0 3 ∷ [])
    ∷ infos (line 13 2 1 2 1 0 0 0 1 1 2 ∷ [])
    ∷ selected (at 200 7 ∷ [])
    ∷ infos (line 14 1 1 1 1 1 0 0 0 0 3 ∷ [])
    ∷ added 201 0 (some 13) ∷ next (some 9) ∷ next none ∷ refused 3 ∷ []
unfolding Model.answers Model.step Model.adding Model.accept Model.old_of Model.well_formed Model.arrived Model.roomy Model.slot_of Model.refusal_of Model.find Model.put Model.next_name Model.live_in Model.lives Model.count Model.lowest_from Model.push Model.pushed_out Model.window Model.hits_in Model.hits Model.choosing Model.keyed Model.latest Model.last_total Model.ranks_at Model.infos_of Model.shown Model.access Model.accessing Pairs.among Pairs.bad_from Pairs.insert Pairs.sorted Masks.chosen_by Masks.is_valid Keys.key_of
s1 = refl
