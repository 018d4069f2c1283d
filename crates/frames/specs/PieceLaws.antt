-- What is made of the bytes that came, as the code meets it.
use Rattle.std.proofs.Common.{◌≡◌, refl, arith}
use Rattle.std.specs.Prelude.{Bool, true, false, cond, ℕ, ◌≤◌, eqb, Result, Ok, Err, IfOk, OnOk}
use borrow.Author.Tests.{eqb-true}
use Rattle.std.specs.declared.io.Error.{Error}
use Rattle.frames.specs.declared.Stop.{Stop}
use Rattle.frames.specs.declared.Stop.TheVariants.{Over, Cut}
use Rattle.frames.specs.Pieces.{piece_of, version_of}

-- what holds of a read of just what was wanted holds of a piece that came whole
whole-has : (P : Type 0) (n wanted : ℕ) (end : Bool) → (n ≡ wanted → P) → OnOk (piece_of (Ok n) wanted end) P
unfolding piece_of
whole-has P n wanted end f = go (eqb n wanted) refl (eqb n 0) end tt
  where
    go : (y : Bool) → eqb n wanted ≡ y → (z b : Bool) (x : Unit {0}) → OnOk (cond y (Ok x) (cond z (cond b (Err Over) (Err Cut)) (Err Cut))) P
    go true k z b x = f (eqb-true n wanted k)
    go false k true true x = tt
    go false k true false x = tt
    go false k false b x = tt

-- a piece that came whole is as long as was wanted
pub piece-long : (got : Result ℕ Error) (wanted : ℕ) (end : Bool) → IfOk got (λ n. OnOk (piece_of got wanted end) (n ≡ wanted))
piece-long (Err why) wanted end = tt
piece-long (Ok n) wanted end = whole-has (n ≡ wanted) n wanted end (λ e. e)

-- so the place that it came to has room for it
pub piece-room : (got : Result ℕ Error) (wanted : ℕ) (end : Bool) (room : ℕ) → IfOk got (λ n. n ≤ room) → OnOk (piece_of got wanted end) (wanted ≤ room)
unfolding piece_of
piece-room (Err why) wanted end room h = tt
piece-room (Ok n) wanted end room h = whole-has (wanted ≤ room) n wanted end (λ e. omega (arith, e, h))

-- a session goes on behind version 1 alone
pub version-known : (came : Result (Unit {0}) Stop) (version : ℕ) → OnOk (version_of came version) (version ≡ 1)
unfolding version_of
version-known (Err why) version = tt
version-known (Ok x) version = go (eqb version 1) refl
  where
    go : (y : Bool) → eqb version 1 ≡ y → OnOk (cond y (Ok x) (Err Cut)) (version ≡ 1)
    go true k = eqb-true version 1 k
    go false k = tt
