-- The sizes of the lent buffers, named as in the code (src/lib.rt).
use Rattle.std.specs.Prelude.{ℕ, ◌+◌, ◌*◌}
use Rattle.printing.specs.Lines.{line_room}

-- an answer has as many pairs or infos as there are slots, and no more
abbrev pub most : ℕ
most = 256

-- a pair is two words
abbrev pub pairs_size : ℕ
pairs_size = 2 * most

-- an info's words: `InfoWords::WORDS` of crate infos
abbrev pub info_size : ℕ
info_size = 27

abbrev pub infos_size : ℕ
infos_size = info_size * most

-- the line that says how many there are, a line for each, and as much room again as is asked for one
abbrev pub lines_size : ℕ
lines_size = line_room * (most + 2)
