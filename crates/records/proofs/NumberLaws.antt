-- Big-endian numbers as the library makes them of bytes, and the signed number of 32 bits.
use Rattle.std.specs.Prelude.{◌≡◌, refl, cond, List, ℕ, suc, ◌+◌, ◌-◌, ◌<◌, ◌≤◌, ltb, length, take, set, pos, negsuc}
use Rattle.std.proofs.Common.{sym, ap, ◌∙◌, add-one, arith, to_z, take-suc-set, take_all}
use Rattle.std.specs.Int.{w16, w32, w64, from_be_bytes}
use Rattle.records.specs.Format.{byte_at, number_at, twos, bytes_at}

-- ---- the bytes of a place

module _ (rec : List ℕ) (at : ℕ) where
  pub bytes-start : (b : List ℕ) → take 0 b ≡ bytes_at 0 rec at
  unfolding bytes_at
  bytes-start b = refl

  pub bytes-turn : (b : List ℕ) (i x : ℕ) → take i b ≡ bytes_at i rec at → i < length b → x ≡ byte_at rec (at + i) → take (i + 1) (set b i x) ≡ bytes_at (i + 1) rec at
  unfolding bytes_at
  bytes-turn b i x e h f = rw (add-one i, take-suc-set b i x h, e, f)

  pub bytes-end : (b : List ℕ) (i n : ℕ) → take i b ≡ bytes_at i rec at → length b ≡ n → n ≤ i → i ≤ n → b ≡ bytes_at n rec at
  bytes-end b i n e l h k = let z : i ≡ n = omega arith in sym (take_all n b (omega arith)) ∙ (rw z at e)

-- ---- their number

module _ (rec : List ℕ) (at : ℕ) (b : List ℕ) where
  pub be-16 : b ≡ bytes_at 2 rec at → from_be_bytes w16 b ≡ number_at 2 rec at
  unfolding bytes_at number_at
  be-16 e = rw e (omega arith)

  pub be-32 : b ≡ bytes_at 4 rec at → from_be_bytes w32 b ≡ number_at 4 rec at
  unfolding bytes_at number_at
  be-32 e = rw e (omega arith)

  pub be-64 : b ≡ bytes_at 8 rec at → from_be_bytes w64 b ≡ number_at 8 rec at
  unfolding bytes_at number_at
  be-64 e = rw e (omega arith)

-- ---- the signed number of 32 bits

pub twos-is : (n : ℕ) → to_z w32 n ≡ twos n
unfolding twos
twos-is n = let e : 4294967296 - suc n ≡ 4294967295 - n = omega arith in ap (λ (k : ℕ). cond (ltb n 2147483648) (pos n) (negsuc k)) e

pub be-signed : (rec : List ℕ) (at : ℕ) (b : List ℕ) → b ≡ bytes_at 4 rec at → to_z w32 (from_be_bytes w32 b) ≡ twos (number_at 4 rec at)
be-signed rec at b e = rw (be-32 rec at b e) (twos-is (number_at 4 rec at))
