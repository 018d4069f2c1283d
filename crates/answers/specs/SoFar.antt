-- What the lines of an answer leave on a page, and what the loops keep: behind the line that says how many there are, which ends at place from, the lines of the first p stand in out.
use Rattle.std.specs.Prelude.{◌≡◌, List, ℕ, ◌≤◌, length, take}
use Rattle.sampleinfo.specs.declared.Info.{Info}
use Rattle.text.specs.declared.Page.{Page}
use Rattle.pairs.specs.Flat.{pairs_of}
use Rattle.printing.specs.Printout.{pair_lines, info_lines}
use Rattle.printing.specs.Lines.{line_room, Laid}
use Rattle.answers.specs.Sizes.{most, lines_size}
use Rattle.answers.specs.Says.{Shown}

-- a page with nothing on it, and room for each line
abbrev pub IsBlank : Page → Type 0
IsBlank p = (p.at ≡ 0) × (length p.bytes.now ≡ lines_size)

-- the bytes s are laid in
abbrev pub Lays : Page → List ℕ → Page → Type 0
Lays old s new = Laid old.bytes.now old.at s new.bytes.now new.at

pub record PairsTo (ps : List ℕ) (n : ℕ) (l : List ℕ) (from : ℕ) (out : List ℕ) (at p : ℕ) : Type 0 where
  pub here : p ≤ n
  pub long : length l ≡ lines_size
  pub near : from ≤ line_room
  pub laid : n ≤ most → n ≤ length (pairs_of ps) → Laid l from (pair_lines (take p (pairs_of ps))) out at

pub record InfosTo (is : List ℕ) (n : ℕ) (l : List ℕ) (from : ℕ) (out : List ℕ) (at p : ℕ) : Type 0 where
  pub here : p ≤ n
  pub long : length l ≡ lines_size
  pub near : from ≤ line_room
  pub laid : (xs : List Info) → Shown n is xs → Laid l from (info_lines (take p xs)) out at
