-- A session as document 01's step 8 describes it: what each record answers, and what stands after it.
use Rattle.std.specs.Prelude.{cond, List, [], ◌∷◌, ◌++◌, ℕ}
use Rattle.std.proofs.Math.Option.{Option, some, none}
use Rattle.model.specs.Model.{Model, Call, set_up, add, no_writers, choose, read_or_take, next_key, Answer, refused, ok, Step, step, within, fresh, keep_of}
use Rattle.records.specs.Format.{call_of, faulty}
use Rattle.printing.specs.Printout.{printed}

-- an answer, and what stands behind it: no accepted set-up yet, or a cache
pub record Turn : Type 0 where
  pub answer : Answer
  pub then : Option Model

abbrev pub refuse : Option Model → ℕ → Turn
refuse st n = record { answer = refused n; then = st }

abbrev pub made : Step → Turn
made s = record { answer = s.answer; then = some s.then }

-- 10: "another record before an accepted set-up, or a set-up after one"
unfoldable pub answering : Option Model → Call → Turn
answering none (set_up u) = cond (within u) (record { answer = ok; then = some (fresh (keep_of u) u.instances) }) (refuse none 2)
answering none (add a) = refuse none 10
answering none (no_writers n) = refuse none 10
answering none (choose w c room) = refuse none 10
answering none (read_or_take t ps room) = refuse none 10
answering none (next_key n) = refuse none 10
answering (some m) (set_up u) = refuse (some m) 10
answering (some m) (add a) = made (step m (add a))
answering (some m) (no_writers n) = made (step m (no_writers n))
answering (some m) (choose w c room) = made (step m (choose w c room))
answering (some m) (read_or_take t ps room) = made (step m (read_or_take t ps room))
answering (some m) (next_key n) = made (step m (next_key n))

-- "1 comes first everywhere." "Program: 10, then the rest."
unfoldable pub turn_of : Option Model → Option Call → Turn
turn_of st none = refuse st 1
turn_of st (some c) = let rest : Turn = answering st c in cond (faulty c) (refuse st 1) rest

abbrev pub turn : Option Model → List ℕ → Turn
turn st rec = turn_of st (call_of rec)

-- what a session prints, record by record
unfoldable pub printout : Option Model → List (List ℕ) → List ℕ
printout st [] = []
printout st (rec ∷ recs) = printed (turn st rec).answer ++ printout (turn st rec).then recs
