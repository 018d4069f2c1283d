-- The answer where nothing is asked of the memory.
use Rattle.std.specs.Prelude.{◌≡◌, false, List, length, ℕ}
use Rattle.sampleinfo.specs.declared.Sample.{Sample}
use Rattle.readcondition.specs.Masks.{is_valid}
use Rattle.readcondition.specs.declared.ReadCondition.{ReadCondition}
use Rattle.std.specs.declared.result.Result.{Result}
use Rattle.std.specs.declared.result.Result.TheVariants.{Err}
use Rattle.refusals.specs.declared.Refusal.{Refusal}
use Rattle.refusals.specs.declared.Refusal.TheVariants as refusal

-- refusal 1, whatever lies in memory: "mask beyond 3, 3, 7, sample table not 256 records"
pub data Unfit (t : List Sample) (c : ReadCondition) : Type 0 where
  no_table : (length t ≡ 256 → ⊥) → Unfit t c
  beyond : is_valid c ≡ false → Unfit t c

abbrev pub not_chosen : Result ℕ Refusal
not_chosen = Err refusal.Malformed
