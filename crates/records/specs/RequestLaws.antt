-- Refusal 1, as the code meets it and as the model does.
use Rattle.std.specs.Prelude.{◌≡◌, refl, Bool, true, false, not, List, [], ℕ, Option, Some, None, is_none, cond}
use Rattle.std.proofs.Common.{arith}
use Rattle.std.proofs.lemmas.Bool.{not-true}
use Rattle.sampleinfo.specs.Formed.{formed, body_for, arrived_body}
use Rattle.sampleinfo.specs.declared.Body.{Body}
use Rattle.model.specs.Pairs.{Pair}
use Rattle.model.specs.Model.{Model, Call, set_up, add, no_writers, choose, read_or_take, next_key, well_formed, step, refuse, adding, refusal_of, choosing}
use Rattle.readcondition.specs.Masks.{is_valid}
use Rattle.records.specs.Format.{request_of, list_pairs, arrival_meant, op_meant, call_meant, call_of, faulty, bad}
use Rattle.records.specs.declared.Arrival.{Arrival}
use Rattle.records.specs.declared.Request.{Request}
use Rattle.records.specs.declared.Request.TheVariants as request

-- ---- refusal 1

abbrev pub faulty_arrival : Arrival → Bool
faulty_arrival a = not (well_formed (arrival_meant a))

pub arrival_faulty : (a : Arrival) (b : Option Body) (r : Bool) → b ≡ arrived_body a.kind a.handle a.sequence_number → r ≡ is_none b → r ≡ faulty_arrival a
unfolding well_formed
arrival_faulty a b r e q = rw (q, e) (go (formed a.kind a.sequence_number))
  where
    go : (y : Bool) → is_none (cond y (Some (body_for a.kind a.handle)) None) ≡ not y
    go true = refl
    go false = refl

-- the pairs have no part in it
fault-means : (q : Request) (ps : List Pair) → faulty (op_meant q ps) ≡ faulty (op_meant q [])
fault-means (request.SetUp u) ps = refl
fault-means (request.Add a) ps = refl
fault-means (request.NoWriters n) ps = refl
fault-means (request.Choose c) ps = refl
fault-means (request.ChooseWithin n c) ps = refl
fault-means (request.Read n) ps = refl
fault-means (request.Take n) ps = refl
fault-means (request.NextKey n) ps = refl

pub bad-means : (q : Option Request) (ps : List Pair) → bad (call_meant q ps) ≡ bad (call_meant q [])
bad-means (Some q) ps = fault-means q ps
bad-means None ps = refl

-- a record is bad where its request is
pub request-bad : (rec : List ℕ) → bad (call_of rec) ≡ bad (call_meant (request_of rec) [])
request-bad rec = bad-means (request_of rec) (list_pairs rec)

-- whatever the cache holds, a faulty call is refused with 1 and changes nothing
pub faulty-refused : (m : Model) (c : Call) → faulty c ≡ true → step m c ≡ refuse m 1
unfolding step adding refusal_of choosing
faulty-refused m (add a) e = rw (e)
faulty-refused m (choose w c room) e = rw (not-true (is_valid c) e)
faulty-refused m (set_up u) e = let z : ◌≡◌ {A = ℕ} 0 1 = cc in absurd (omega arith)
faulty-refused m (no_writers n) e = let z : ◌≡◌ {A = ℕ} 0 1 = cc in absurd (omega arith)
faulty-refused m (read_or_take t ps room) e = let z : ◌≡◌ {A = ℕ} 0 1 = cc in absurd (omega arith)
faulty-refused m (next_key n) e = let z : ◌≡◌ {A = ℕ} 0 1 = cc in absurd (omega arith)
