-- Refusals with one number are one refusal.
use Rattle.std.specs.Prelude.{◌≡◌, cond, ℕ, ◌<◌, eqb}
use Rattle.std.proofs.Common.{sym, ◌∙◌, ap, refl, arith}
use Rattle.refusals.specs.Numbers.{number_of}
use Rattle.refusals.specs.declared.Refusal.{Refusal}
use Rattle.refusals.specs.declared.Refusal.TheVariants as refusal

numbered : ℕ → Refusal
numbered n =
    cond (eqb n 1) refusal.Malformed
    (cond (eqb n 2) refusal.OutOfBounds
    (cond (eqb n 3) refusal.UnknownInstance
    (cond (eqb n 4) refusal.NoMoreInstances
    (cond (eqb n 5) refusal.NoFreeSlot
    (cond (eqb n 6) refusal.NoLaterKey
    (cond (eqb n 7) refusal.NoMoreGenerations
    (cond (eqb n 8) refusal.BadList
    (cond (eqb n 9) refusal.NoRoom refusal.OutOfTurn))))))))

numbered-back : (e : Refusal) → numbered (number_of e) ≡ e
unfolding numbered
numbered-back refusal.Malformed = refl
numbered-back refusal.OutOfBounds = refl
numbered-back refusal.UnknownInstance = refl
numbered-back refusal.NoMoreInstances = refl
numbered-back refusal.NoFreeSlot = refl
numbered-back refusal.NoLaterKey = refl
numbered-back refusal.NoMoreGenerations = refl
numbered-back refusal.BadList = refl
numbered-back refusal.NoRoom = refl
numbered-back refusal.OutOfTurn = refl

pub same-refusal : (a b : Refusal) → number_of a ≡ number_of b → a ≡ b
same-refusal a b e = sym (numbered-back a) ∙ ap numbered e ∙ numbered-back b

-- 0 is no refusal's number
pub number-above-0 : (e : Refusal) → 0 < number_of e
number-above-0 refusal.Malformed = omega arith
number-above-0 refusal.OutOfBounds = omega arith
number-above-0 refusal.UnknownInstance = omega arith
number-above-0 refusal.NoMoreInstances = omega arith
number-above-0 refusal.NoFreeSlot = omega arith
number-above-0 refusal.NoLaterKey = omega arith
number-above-0 refusal.NoMoreGenerations = omega arith
number-above-0 refusal.BadList = omega arith
number-above-0 refusal.NoRoom = omega arith
number-above-0 refusal.OutOfTurn = omega arith
