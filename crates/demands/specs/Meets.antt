-- What a call of the code does to what the caller holds, against the model's step.
use Rattle.std.specs.Prelude.{◌≡◌, List, ℕ}
use Rattle.sampleinfo.specs.declared.Sample.{Sample}
use Rattle.model.specs.Model.{Model, Call, Answer, step}
use Rattle.index.specs.declared.Cache.{Cache}
use Rattle.refine.specs.Good.{Good}
use Rattle.memory.specs.Lies.{Lies}
use Rattle.datasample_access.specs.Listed.{Told}
use Rattle.std.specs.declared.result.Result.{Result}
use Rattle.refusals.specs.declared.Refusal.{Refusal}

-- what the caller holds between two calls: the header and the words, and the table that it lends
pub record Memory : Type 0 where
  pub head : Cache
  pub words : List ℕ
  pub table : List Sample

abbrev pub Holds : Model → Memory → Type 0
Holds m x = Lies m x.head x.words x.table

-- what the caller sees of an answer: its number and values, or, of a read or a take, the result buffer before and after too
pub data Seen : Type 0 where
  said : Answer → Seen
  shown : Result ℕ Refusal → List ℕ → List ℕ → Seen

abbrev pub Means : Seen → Answer → Type 0
Means (said a) b = a ≡ b
Means (shown r out after) b = Told b r out after

-- one call: on the memory of any cache that only the calls have changed, the answer and the memory left are the model's
abbrev pub Meets : Call → Memory → Seen → Memory → Type 0
Meets c x a y = (m : Model) → Good m → Holds m x → Means a (step m c).answer × Holds (step m c).then y

-- a call that the model does not have, a key list not of whole pairs: refusal 1, and all stays
abbrev pub Stays : Memory → Seen → Memory → Type 0
Stays x a y = (m : Model) → Good m → Holds m x → Means a (Answer.refused 1) × Holds m y
