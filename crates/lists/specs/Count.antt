-- How many of a list pass a test.
use Rattle.std.specs.Prelude.{◌≡◌, Bool, cond}
use Rattle.std.proofs.Math.Bool.{true, false}
use mathlib.Core.List.{List, [], ◌∷◌, ◌++◌}
use Prim.Native.Nat.{ℕ, suc, ◌+◌, ◌≤◌}
use native.Mathlib.Omega.{arith}
use Rattle.std.proofs.Math.ListN.{length}

abbrev pub bit : Bool → ℕ
bit b = cond b 1 0

module _ {A : Type 0} (p : A → Bool) where
  unfoldable pub count : List A → ℕ
  count [] = 0
  count (x ∷ xs) = bit (p x) + count xs

  pub count-append : (xs ys : List A) → count (xs ++ ys) ≡ count xs + count ys
  unfolding count
  count-append [] ys = omega arith
  count-append (x ∷ xs) ys = omega (arith, count-append xs ys)

  pub count-le : (xs : List A) → count xs ≤ length xs
  unfolding count
  count-le [] = omega arith
  count-le (x ∷ xs) = go (p x) (count-le xs)
    where
      go : (b : Bool) → count xs ≤ length xs → bit b + count xs ≤ suc (length xs)
      go true h = omega arith
      go false h = omega arith
