-- A line laid into a lent buffer.
use Rattle.std.specs.Prelude.{◌≡◌, Bool, cond, List, ◌++◌, ℕ, ◌+◌, ◌≤◌, leb, length, take, drop}
use Rattle.std.specs.Prelude.{Some, None}
use Rattle.text.specs.declared.Page.{Page}
use Rattle.std.specs.Prelude as std
use Rattle.std.proofs.Math.Option.{Option, some, none}

-- the code's number or none is the model's
abbrev pub number_in : std.Option ℕ → Option ℕ
number_in (Some n) = some n
number_in None = none

-- the room that is asked for a line: more than any line has
abbrev pub line_room : ℕ
line_room = 256

-- a line is laid in where there is that room
abbrev pub room_for_line : List ℕ → ℕ → Bool
room_for_line l at = leb (at + line_room) (length l)

-- l with the line s from place at on; where there is no room, l
unfoldable pub lined : List ℕ → ℕ → List ℕ → List ℕ
lined l at s = cond (room_for_line l at) (take at l ++ s ++ drop (at + length s) l) l

-- the place behind the line; where there is no room, at
unfoldable pub line_end : List ℕ → ℕ → List ℕ → ℕ
line_end l at s = cond (room_for_line l at) (at + length s) at

-- what a function that lays in a line leaves and answers
pub record Lined (l : List ℕ) (at : ℕ) (s out : List ℕ) (r : ℕ) : Type 0 where
  pub bytes : out ≡ lined l at s
  pub place : r ≡ line_end l at s

-- the bytes s stand in out from place at on, and the rest is as in l; r is the place behind them
pub record Laid (l : List ℕ) (at : ℕ) (s out : List ℕ) (r : ℕ) : Type 0 where
  pub fits : at + length s ≤ length l
  pub bytes : out ≡ take at l ++ s ++ drop (at + length s) l
  pub place : r ≡ at + length s
  pub long : length out ≡ length l

-- the same of a page, which keeps its lent bytes
pub record AddsLine (old : Page) (s : List ℕ) (new : Page) : Type 0 where
  pub line : Lined old.bytes.now old.at s new.bytes.now new.at
  pub same : new.bytes.ghost_name ≡ old.bytes.ghost_name

pub record Adds (old : Page) (s : List ℕ) (new : Page) : Type 0 where
  pub laid : Laid old.bytes.now old.at s new.bytes.now new.at
  pub same : new.bytes.ghost_name ≡ old.bytes.ghost_name
