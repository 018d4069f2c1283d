-- Keep limits, as the code meets them: one law for each return.
use Rattle.std.specs.Prelude.{◌≡◌, Bool, true, false, cond, List, T, leb, length}
use Rattle.std.proofs.Math.Option.{Option, some, none}
use Prim.Native.Nat.{ℕ, ◌-◌, ◌%◌, ◌≤◌, ◌<◌, max, min}
use mathlib.Core.Logic.{◌⊎◌}
use Rattle.std.proofs.Common.{inl, inr}
use native.Mathlib.Omega.{arith}
use borrow.Author.Tests.{le-leb, lt-leb, eq-eqb, ne_eqb}
use Rattle.std.proofs.Common.{leb→le}
use Rattle.model.specs.Topic.{Entry, Limits, places, may_for, removal, count_below, collect_every}
use Rattle.dds_cache.specs.Header.{drops_for}

-- ---- removal

may-le : (o : Option ℕ) (must held : ℕ) → must ≤ held → may_for o must held ≤ held
may-le none must held h = h
may-le (some d) must held h = omega arith

pub removal-le : (o : Option ℕ) (held most must may below low r : ℕ) → must ≡ held - most → may ≡ may_for o must held → low ≡ min may below → r ≡ max must low → r ≤ held
removal-le o held most must may below low r p q u v = let z : may_for o must held ≤ held = may-le o must held (omega arith) in omega (arith, p, q, u, v)

pub removal-is : (l : Limits) (t : ℕ) (es : List Entry) (held must may below low r : ℕ) → held ≡ length es → must ≡ held - l.most → may ≡ may_for l.depth must held → below ≡ count_below t es → low ≡ min may below → r ≡ max must low
    → r ≡ removal l t es
unfolding removal
removal-is l t es held must may below low r n p q b u v = rw (v, u, b, q, p, n)

-- ---- the collection before an add

pub every-pos : (size m : ℕ) → m ≡ collect_every size → 0 < m
every-pos size m e = rw e (go (leb size 1024) (leb size 65536))
  where
    go : (a b : Bool) → 0 < cond a 64 (cond b 8 1)
    go true b = omega arith
    go false true = omega arith
    go false false = omega arith

module _ (l : Limits) (es : List Entry) (sn size m held r : ℕ) (e : m ≡ collect_every size) (g : held ≡ length es) where
  pub drops-now : (sn % m ≡ 0) ⊎ ((sn % m ≡ 0 → ⊥) × (places ≤ held)) → r ≡ removal l 0 es → r ≡ drops_for l es sn size
  unfolding drops_for
  drops-now (inl z) q = rw (← e, eq-eqb (sn % m) 0 z) q
  drops-now (inr f) q = rw (← e, ne_eqb (sn % m) 0 f.0, le-leb places (length es) (omega (arith, f.1, g))) q

  pub drops-none : (sn % m ≡ 0 → ⊥) → held < places → 0 ≡ drops_for l es sn size
  unfolding drops_for
  drops-none n f = rw (← e, ne_eqb (sn % m) 0 n, lt-leb places (length es) (omega (arith, g)))

pub ruleset drops = (every-pos, drops-now, drops-none)

-- ---- the step by the payload's length, by the tests that the code makes

pub every-small : (size n : ℕ) → size < n → T (leb n 1025) → 64 ≡ collect_every size
every-small size n h p = rw (le-leb size 1024 (omega (arith, leb→le n 1025 p)))

pub every-middle : (size m n : ℕ) → m ≤ size → size < n → T (leb 1025 m) → T (leb n 65537) → 8 ≡ collect_every size
every-middle size m n h k p q = rw (lt-leb size 1024 (omega (arith, leb→le 1025 m p)), le-leb size 65536 (omega (arith, leb→le n 65537 q)))

pub every-large : (size m : ℕ) → m ≤ size → T (leb 65537 m) → 1 ≡ collect_every size
every-large size m h p = rw (lt-leb size 1024 (omega (arith, leb→le 65537 m p)), lt-leb size 65536 (omega (arith, leb→le 65537 m p)))

pub ruleset every = (every-small, every-middle, every-large)
