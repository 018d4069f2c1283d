-- The free slots as a list with a place for each slot, 1 where the slot is free and 0 where not, and what is asked of it.
use Rattle.std.specs.Prelude.{Option, List, [], ◌∷◌, ◌++◌, Bool, ℕ, zero, suc, ◌+◌, ◌/◌, ◌%◌, eqb, ltb, get_or}
use Rattle.std.specs.Bool.{then_some}

-- the d lowest binary digits of n, lowest first
unfoldable pub digits : ℕ → ℕ → List ℕ
digits zero n = []
digits (suc d) n = n % 2 ∷ digits d (n / 2)

-- the digits of words of 64, the first word's first
unfoldable pub bits_of : List ℕ → List ℕ
bits_of [] = []
bits_of (w ∷ ws) = digits 64 w ++ bits_of ws

-- the slot is free; none past the last is
abbrev pub free_at : List ℕ → ℕ → Bool
free_at bits slot = eqb (get_or bits slot 0) 1

-- "the number free": how many are free
unfoldable pub total : List ℕ → ℕ
total [] = 0
total (b ∷ bs) = b + total bs

-- one place further where d is 0, and here where it is not
abbrev pub after : ℕ → ℕ → ℕ
after zero t = suc t
after (suc d) t = zero

-- the lowest free slot; where none is free, how many slots there are
unfoldable pub first_one : List ℕ → ℕ
first_one [] = 0
first_one (b ∷ bs) = after b (first_one bs)

-- the slot of an add, by what was free before it and what is free once it has made room: "then the lowest free slot is used"
abbrev pub slot_for : List ℕ → List ℕ → ℕ
slot_for free roomy = first_one roomy

-- a number from 256 on is no slot
abbrev pub slot_in : ℕ → Option ℕ
slot_in n = then_some (ltb n 256) n
