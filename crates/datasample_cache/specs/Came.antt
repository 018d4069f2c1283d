-- What an add answers and leaves, against the model's step.
use Rattle.std.specs.Prelude.{◌≡◌, false, List, ℕ, length, option_map}
use Rattle.std.proofs.Math.Option.{Option, some, none}
use Rattle.std.specs.declared.option.Option as the_code
use Rattle.std.specs.declared.option.Option.TheVariants.{None, Some}
use Rattle.std.specs.declared.result.Result.{Result}
use Rattle.std.specs.declared.result.Result.TheVariants.{Ok, Err}
use Rattle.refusals.specs.Numbers.{number_of}
use Rattle.refusals.specs.declared.Refusal.{Refusal}
use Rattle.refusals.specs.declared.Refusal.TheVariants as refusal
use Rattle.sampleinfo.specs.States.{handle_of}
use Rattle.sampleinfo.specs.declared.Sample.{Sample}
use Rattle.model.specs.Model.{Answer, Arrival, refused, added, Step, well_formed}
use Rattle.index.specs.declared.Cache.{Cache}
use Rattle.memory.specs.Lies.{Lies}
use Rattle.datasample_cache.specs.declared.Added.{Added}

-- "the handle pushed out, if any"
abbrev pub evicted_as : the_code.Option ℕ → Option ℕ
evicted_as (Some h) = some h
evicted_as None = none

-- document 01's number and values of each answer
abbrev pub added_as : Result Added Refusal → Answer
added_as (Ok a) = added a.key a.slot (evicted_as a.evicted)
added_as (Err e) = refused (number_of e)

pub record Came (st : Step) (r : Result Added Refusal) (h : Cache) (ws : List ℕ) (t : List Sample) : Type 0 where
  pub answer : added_as r ≡ st.answer
  pub lies : Lies st.then h ws t

-- the handle of the record that was in the slot pushed out
abbrev pub evicted_of : the_code.Option ℕ → Sample → the_code.Option ℕ
evicted_of old s = option_map (λ i. handle_of s.body) old

-- refusal 1, whatever lies in memory: "kind not 1 or 2, sequence number out of range, .. sample table not 256 records"
pub data Unfit (t : List Sample) (a : Arrival) : Type 0 where
  no_table : (length t ≡ 256 → ⊥) → Unfit t a
  malformed : well_formed a ≡ false → Unfit t a

abbrev pub not_added : Result Added Refusal
not_added = Err refusal.Malformed
