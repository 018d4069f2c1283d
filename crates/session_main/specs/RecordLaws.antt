-- A turn of the program: which record it answered, and with what; and that something stands in memory before each record and after it.
use Rattle.std.specs.Prelude.{◌≡◌, List, ℕ, ◌≤◌, length, take, None, Result, Ok, IsErr}
use Rattle.std.proofs.Math.Option.{Option}
use Rattle.sampleinfo.specs.declared.Sample.{Sample}
use Rattle.samples.specs.Table.{empty_table}
use Rattle.model.specs.Model.{Model}
use Rattle.records.specs.Format.{number_at}
use Rattle.session.specs.Session.{turn}
use Rattle.session.specs.Stands.{Standing, Responds}
use Rattle.replies.specs.declared.Session.{Session}
use Rattle.frames.specs.declared.Stop.{Stop}
use Rattle.frames.specs.declared.Told.{Told}

-- what is told of a record that was answered: the bytes handed to the output are the answer's, where the lent bytes hold them
abbrev pub Tells : ℕ → List ℕ → Told → Type 0
Tells n line r = n ≤ length line → r.size ≡ n

-- what a turn of the program leaves: no whole record came, and all is as found; or one came, as many bytes as its two length bytes say, and was answered:
-- as many of the lent bytes as were handed to the output are its printout
pub data Turned (st : Option Model) (s : Session) (t : List Sample) (two rec ps is was : List ℕ) (r : Result Told Stop) (s' : Session) (then : List Sample) (qs js line : List ℕ) : Type 0 where
  ended : IsErr r → s' ≡ s → then ≡ t → qs ≡ ps → js ≡ is → line ≡ was → Turned st s t two rec ps is was r s' then qs js line
  answered : (a : Told) → r ≡ Ok a → number_at 2 two 0 ≤ length rec
      → Responds (turn st (take (number_at 2 two 0) rec)) s t ps is was a.size s' then qs js line
      → Turned st s t two rec ps is was r s' then qs js line

-- ---- the loop

-- what holds before each record: the table, the length bytes and the record's bytes keep their lengths, something stands, and until a set-up is accepted the
-- table is as it started: "256 copies of the empty record"
pub record Going (s : Session) (t : List Sample) (two rec : List ℕ) : Type 0 where
  pub table : length t ≡ 256
  pub head : length two ≡ 2
  pub bytes : length rec ≡ 65535
  pub standing : Standing s t
  pub start : s.index ≡ None → t ≡ empty_table
