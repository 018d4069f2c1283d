-- Demands 1 to 3, proved of the code: what each theorem says is in `specs/Runs`.
use Rattle.std.specs.Prelude.{◌≡◌, true, List, [], ℕ}
use Rattle.std.proofs.Common.{subst}
use Rattle.std.proofs.Math.Option.{Option}
use Rattle.model.specs.Model.{Model, SetUp, Call, within, keep_of, step, answers}
use Rattle.model.proofs.Bounds.{accepted}
use Rattle.model.specs.Story.{run, trace}
use Rattle.model.specs.Demand3.{Demand3}
use Rattle.model.proofs.Demand3.{demand3}
use Rattle.rust_model.specs.DataSampleCache.{new}
use Rattle.rust_model.specs.Ground.{Ground}
use Rattle.rust_model.specs.Equal as rust
use Rattle.rust_model.proofs.Equal.{equal-to-the-rust}
use Rattle.refine.specs.Good.{Good}
use Rattle.refine.proofs.GoodLaws.{good-step, good-run}
use Rattle.demands.specs.Meets.{Memory, Holds, Seen, Means}
use Rattle.demands.specs.Calls.{holding, begun}
use Rattle.demands.proofs.Calls.{called-meets, odd-stays, set-up-begins}
use Rattle.demands.specs.Runs.{Calls, done, then, odd, Runs, Agree, made, Kept3, AsTheRust}

calls-from : {x z : Memory} {cs : List Call} {ss : List Seen} → Calls x cs ss z → (m : Model) → Good m → Holds m x → Agree ss (answers m cs) × Holds (run m cs) z
unfolding run answers
calls-from done m g l = (tt, l)
calls-from (then {y = y} {z = z} {c = c} {cs = cs} {ss = ss} a h r) m g l =
    let one : Means a (step m c).answer × Holds (step m c).then y = called-meets h m g l in
    let rest : Agree ss (answers (step m c).then cs) × Holds (run (step m c).then cs) z = calls-from r (step m c).then (good-step m g c) one.1 in
    ((one.0, rest.0), rest.1)
calls-from (odd a h r) m g l = calls-from r m g (odd-stays h m g l).1

-- the test that the code makes, and the keep count that it finds
passes : {u : SetUp} {d : Option ℕ} {cs : List Call} {ss : List Seen} {z : Memory} → Runs u d cs ss z → (within u ≡ true) × (keep_of u ≡ d)
passes {u = u} {d = d} r = (accepted u d).1 r.bounds

-- the answers are the model's, and the memory at the end is the model's
pub code_runs : {u : SetUp} {d : Option ℕ} {cs : List Call} {ss : List Seen} {z : Memory} → Runs u d cs ss z → Agree ss (answers (made d u) cs) × Holds (run (made d u) cs) z
unfolding run
code_runs {u = u} {d = d} {cs = cs} {ss = ss} {z = z} r =
    let w : (within u ≡ true) × (keep_of u ≡ d) = passes r in
    let x : Holds (made (keep_of u) u) (holding (begun r.index r.outcome) r.table'.now) =
    set-up-begins r.index r.table r.table' u r.outcome r.long w.0 r.set-up in
    subst (λ k. Agree ss (answers (made k u) cs) × Holds (run (made k u) cs) z) w.1 (calls-from r.calls (made (keep_of u) u) (good-run u w.0 []) x)

pub code-demand3 : {u : SetUp} {d : Option ℕ} {cs : List Call} {ss : List Seen} {z : Memory} → Runs u d cs ss z → Kept3 u d cs ss z
code-demand3 {u = u} {d = d} {cs = cs} r =
    let all = code_runs r in
    let w : (within u ≡ true) × (keep_of u ≡ d) = passes r in
    record { seen = all.0; left = all.1; kept = subst (λ k. Demand3 k (run (made k u) cs) (trace (made k u) cs)) w.1 (demand3 u w.0 cs) }

pub code-equals-the-rust : {u : SetUp} {d : Option ℕ} {cs : List Call} {ss : List Seen} {z : Memory} → Runs u d cs ss z → Ground (made d u) [] cs → AsTheRust u cs ss z
code-equals-the-rust {u = u} {d = d} {cs = cs} r g =
    let all = code_runs r in
    let w : (within u ≡ true) × (keep_of u ≡ d) = passes r in
    let same = subst (λ k. Ground (made k u) [] cs → rust.Equal (made k u) (new (rust.qos_of u)) cs) w.1 (equal-to-the-rust u w.0 cs) g in
    record {
      said = answers (made d u) cs;
      seen = all.0;
      same-answers = same.same-answers;
      model = run (made d u) cs;
      left = all.1;
      same-held = same.same-held;
    }
