-- Every word has all its bits set: computed.
use mathlib.Core.Path.{refl}
use Rattle.slots.specs.Bits.{bits_of, digits}
use Rattle.slots.proofs.Free.all.Goals as goal

pub returns : goal.returns
unfolding bits_of digits
returns c = refl
