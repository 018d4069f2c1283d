-- Demands 1 to 3, said of the code: after an accepted set-up any calls of the public functions, each on what the one before left, answer as the model does;
-- so demand 3 holds of them, and on the common ground they answer as the Rust does. The theorems stand in `proofs/Runs`.
use Rattle.std.specs.Prelude.{◌≡◌, List, [], ◌∷◌, map, ℕ, length}
use Rattle.std.proofs.Math.Option.{Option}
use Rattle.std.specs.Borrow.{MutBor}
use Rattle.sampleinfo.specs.declared.Sample.{Sample}
use Rattle.model.specs.Model.{Model, SetUp, Call, Answer, fresh, answers}
use Rattle.model.specs.Bounds.{Bounds}
use Rattle.model.specs.Story.{run, trace, live_at}
use Rattle.model.specs.Demand3.{Demand3}
use Rattle.rust_model.specs.Maps.{gives}
use Rattle.rust_model.specs.DataSampleCache.{DataSampleCache, new}
use Rattle.rust_model.specs.Equal as rust
use Rattle.index.specs.declared.Index.{Index}
use Rattle.std.specs.declared.result.Result.{Result}
use Rattle.refusals.specs.declared.Refusal.{Refusal}
use Rattle.demands.specs.Meets.{Memory, Holds, Seen, Means}
use Rattle.demands.specs.Calls.{holding, begun, SetUpCall, Called, OddCalled}

-- calls in a row, each on what the one before left: the calls, what was seen of each, and the memory at the end. Calls with an odd key list may stand between
pub data Calls : Memory → List Call → List Seen → Memory → Type 0 where
  done : {x : Memory} → Calls x [] [] x
  then : {x y z : Memory} {c : Call} {cs : List Call} {ss : List Seen} (a : Seen) → Called c x a y → Calls y cs ss z → Calls x (c ∷ cs) (a ∷ ss) z
  odd : {x y z : Memory} {cs : List Call} {ss : List Seen} (a : Seen) → OddCalled x a y → Calls y cs ss z → Calls x cs ss z

-- from a set-up within document 01's bounds, with keep count d, on any memory with a table of 256 records
pub record Runs (u : SetUp) (d : Option ℕ) (cs : List Call) (ss : List Seen) (z : Memory) : Type 0 where
  pub bounds : Bounds u d
  pub index : Index
  pub table : MutBor (List Sample)
  pub long : length table.now ≡ 256
  pub table' : MutBor (List Sample)
  pub outcome : Result Index Refusal
  pub set-up : SetUpCall table u outcome table'
  pub calls : Calls (holding (begun index outcome) table'.now) cs ss z

-- each is what was seen of the answer beside it
abbrev pub Agree : List Seen → List Answer → Type 0
Agree [] [] = Unit {0}
Agree [] (b ∷ bs) = ⊥
Agree (a ∷ ss) [] = ⊥
Agree (a ∷ ss) (b ∷ bs) = Means a b × Agree ss bs

abbrev pub made : Option ℕ → SetUp → Model
made d u = fresh d u.instances

-- demand 3 of what the code left and of the answers that were seen of it
pub record Kept3 (u : SetUp) (d : Option ℕ) (cs : List Call) (ss : List Seen) (z : Memory) : Type 0 where
  pub seen : Agree ss (answers (made d u) cs)
  pub left : Holds (run (made d u) cs) z
  pub kept : Demand3 d (run (made d u) cs) (trace (made d u) cs)

-- "All of it equals the Rust on the common ground": what was seen of the code is what the Rust replies, slots excepted; the Rust does not panic; and the
-- memory is that of a cache whose instances hold what the Rust holds of them, under the same keys
pub record AsTheRust (u : SetUp) (cs : List Call) (ss : List Seen) (z : Memory) : Type 0 where
  pub said : List Answer
  pub seen : Agree ss said
  pub same-answers : rust.replies (new (rust.qos_of u)) cs ≡ map rust.seen said
  pub model : Model
  pub left : Holds model z
  pub same-held : (now : DataSampleCache) × (rust.cache_after (new (rust.qos_of u)) cs ≡ gives now) × ((n : ℕ) → rust.held_of n now.datasamples ≡ map rust.keyed_sample (live_at n model))
