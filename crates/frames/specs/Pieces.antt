-- What is made of the bytes that came.
use Rattle.std.specs.Prelude.{Bool, cond, ℕ, eqb, Result, Ok, Err}
use Rattle.std.specs.declared.io.Error.{Error}
use Rattle.frames.specs.declared.Stop.{Stop}
use Rattle.frames.specs.declared.Stop.TheVariants.{Over, Cut, Failed}

-- a piece of the input: it came whole, or why it did not
abbrev pub Piece : Type 0
Piece = Result (Unit {0}) Stop

abbrev whole : Piece
whole = Ok tt

abbrev cut_off : Piece
cut_off = Err Cut

-- the input ends here, and may
abbrev over : Piece
over = Err Over

-- all that was wanted came; or nothing, where the input may end; or else "a cut-off record"
unfoldable pub piece_of : Result ℕ Error → ℕ → Bool → Piece
piece_of (Err why) wanted end = Err (Failed why)
piece_of (Ok n) wanted end = cond (eqb n wanted) whole (cond (eqb n 0) (cond end over cut_off) cut_off)

-- "one version byte 1"; "a missing or wrong version byte or a cut-off record prints it and stops"
unfoldable pub version_of : Piece → ℕ → Piece
version_of (Ok came) version = cond (eqb version 1) (Ok came) cut_off
version_of (Err why) version = Err why
