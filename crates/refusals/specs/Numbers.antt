-- The number of each refusal.
use Rattle.std.specs.Prelude.{ℕ}
use Rattle.refusals.specs.declared.Refusal.{Refusal}
use Rattle.refusals.specs.declared.Refusal.TheVariants as refusal

abbrev pub number_of : Refusal → ℕ
number_of refusal.Malformed = 1
number_of refusal.OutOfBounds = 2
number_of refusal.UnknownInstance = 3
number_of refusal.NoMoreInstances = 4
number_of refusal.NoFreeSlot = 5
number_of refusal.NoLaterKey = 6
number_of refusal.NoMoreGenerations = 7
number_of refusal.BadList = 8
number_of refusal.NoRoom = 9
number_of refusal.OutOfTurn = 10
