-- Ranks: a difference of two totals, and two's complement.
use Rattle.std.specs.Prelude.{◌≡◌, refl, Bool, true, false, cond, ℕ, zero, suc, ◌-◌, ◌<◌, ◌^◌, ltb, ℤ, pos, negsuc, ◌-ℤ◌}
use Rattle.std.proofs.Common.{ap, ◌∙◌, arith, lt-ltb, le-ltb, SFits, to_z, of_z, to_z-of_z}
use Rattle.std.specs.Int.Signed.{mag}
use Rattle.std.specs.Int.{w64}
use Rattle.std.proofs.Math.Facts.{to_z_pos}
use Rattle.model.specs.Views.{rank_from}
use Rattle.infos.specs.Words.{word_of_rank, rank_of_word}

-- ---- the difference of two totals

pub mag-rank : (a b H : ℕ) → a < H → b < H → mag (rank_from a b) < H
mag-rank a b H h k = go (ltb a b)
  where
    go : (t : Bool) → mag (cond t (negsuc (b - suc a)) (pos (a - b))) < H
    go true = omega arith
    go false = omega arith

is-rank : (a b : ℕ) → pos a -ℤ pos b ≡ rank_from a b
is-rank a zero = rw (le-ltb a 0 (omega arith)) (ap pos (omega arith))
is-rank a (suc b) = refl

-- a and b: the totals as the code has them, of two counts of 32 bits each
module _ (a b : ℕ) (h : a < 2 ^ 33) (k : b < 2 ^ 33) where
  pub rank-fits : SFits w64 (to_z w64 a -ℤ to_z w64 b)
  rank-fits = rw (to_z_pos w64 {n = a} (omega arith), to_z_pos w64 {n = b} (omega arith), is-rank a b) (record { sfits = mag-rank a b (2 ^ 63) (omega arith) (omega arith) })

  pub rank_is : to_z w64 (of_z w64 (to_z w64 a -ℤ to_z w64 b)) ≡ rank_from a b
  rank_is = to_z-of_z rank-fits ∙ rw (to_z_pos w64 {n = a} (omega arith), to_z_pos w64 {n = b} (omega arith)) (is-rank a b)

-- ---- two's complement: the two undo each other

pub rank-back : (z : ℤ) → SFits w64 z → rank_of_word (word_of_rank z) ≡ z
rank-back (pos n) f = rw (lt-ltb n (2 ^ 63) f.sfits)
rank-back (negsuc n) f =
    let h : n < 2 ^ 63 = f.sfits in
    let e : 2 ^ 64 - suc (2 ^ 64 - suc n) ≡ n = omega arith in
    rw (le-ltb (2 ^ 64 - suc n) (2 ^ 63) (omega arith)) (ap negsuc e)
