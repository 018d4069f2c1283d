-- What a set-up, a no-writers event and a question for the next key answer and leave, against the model's step.
use Rattle.std.specs.Prelude.{◌≡◌, true, false, cond, List, ℕ, ℤ, pos, negsuc, eqb, length}
use Rattle.std.proofs.Math.Option.{some, none}
use Rattle.std.specs.declared.option.Option.{Option}
use Rattle.std.specs.declared.option.Option.TheVariants.{None, Some}
use Rattle.std.specs.declared.result.Result.{Result}
use Rattle.std.specs.declared.result.Result.TheVariants.{Ok, Err}
use Rattle.refusals.specs.Numbers.{number_of}
use Rattle.refusals.specs.declared.Refusal.{Refusal}
use Rattle.refusals.specs.declared.Refusal.TheVariants as refusal
use Rattle.sampleinfo.specs.declared.Sample.{Sample}
use Rattle.model.specs.Model.{Answer, refused, ok, next, Step, SetUp, within, keep_of, fresh}
use Rattle.store.specs.Fit.{depth_of}
use Rattle.index.specs.declared.Cache.{Cache}
use Rattle.index.specs.declared.Index.{Index}
use Rattle.memory.specs.Lies.{Lies}

-- document 01's number of each answer
abbrev pub reply_as : {A : Type 0} → Result A Refusal → Answer
reply_as (Ok x) = ok
reply_as (Err e) = refused (number_of e)

abbrev pub next_as : Option ℕ → Answer
next_as (Some k) = next (some k)
next_as None = next none

-- ---- set-up

abbrev pub set_up_of : ℕ → ℤ → ℕ → SetUp
set_up_of mode keep i = record { mode = mode; keep = keep; instances = i }

-- the keep field as a count
abbrev pub count_in : ℤ → Option ℕ
count_in (pos d) = Some d
count_in (negsuc d) = None

abbrev pub kept_in : ℕ → ℕ → ℕ
kept_in mode depth = cond (eqb mode 3) 0 (cond (eqb mode 4) 1 depth)

-- the depth of the windows, 0 for no keep count; none where the set-up is out of its bounds
abbrev pub depth_in : SetUp → Option ℕ
depth_in u = cond (within u) (Some (depth_of (keep_of u))) None

-- "An accepted set-up makes the cache fresh"; a refused one leaves the table as found, and hands out no index
pub record SetsUp (u : SetUp) (r : Result Index Refusal) (t then : List Sample) : Type 0 where
  pub accepted : length t ≡ 256 → within u ≡ true → (x : Index) × ((r ≡ Ok x) × Lies (fresh (keep_of u) u.instances) x.head x.words then)
  pub out-of-bounds : length t ≡ 256 → within u ≡ false → (r ≡ Err refusal.OutOfBounds) × (then ≡ t)
  pub no_table : (length t ≡ 256 → ⊥) → (r ≡ Err refusal.Malformed) × (then ≡ t)

-- ---- the no-writers event: the header and the table stay
pub record Dies (st : Step) (r : Result Unit Refusal) (h : Cache) (ws : List ℕ) (t : List Sample) : Type 0 where
  pub answer : reply_as r ≡ st.answer
  pub lies : Lies st.then h ws t
