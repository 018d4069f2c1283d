-- Which set-ups are accepted, in document 01's words ("Setting up"), and the keep count that each then has. All others are refused with 2: `Demand3`, `Sets`.
use Rattle.std.specs.Prelude.{◌≡◌, ◌↔◌, ◌⊎◌, Bool, true, false, ◌&&◌, ◌||◌, ℕ, ◌*◌, ◌≤◌, leb, eqb, ℤ, pos, negsuc}
use Rattle.std.proofs.Math.Path.{refl}
use Rattle.std.proofs.Common.{inl, inr, leb-true, le-leb, eqb-true, eq-eqb}
use Rattle.std.proofs.Math.Bool.{and-eq-true_iff}
use Rattle.std.proofs.Math.Option.{Option, some, none}
use Rattle.model.specs.Model.{SetUp, within}

-- ---- the bounds

-- mode by mode, with i instances: the keep field, and the keep count
pub data Keeping (i : ℕ) : ℕ → ℤ → Option ℕ → Type 0 where
  -- "Mode 1 KeepLast, keep count d." "In modes 1 and 2: d at least 1 and i*d at most 256."
  keep-last : (d : ℕ) → 1 ≤ d → i * d ≤ 256 → Keeping i 1 (pos d) (some d)
  -- "Mode 2 KeepAll with a per-instance limit, which acts as d."
  keep-to-a-limit : (d : ℕ) → 1 ≤ d → i * d ≤ 256 → Keeping i 2 (pos d) (some d)
  -- "Mode 3 KeepAll without one: no keep count, keep field 0."
  keep_all : Keeping i 3 (pos 0) none
  -- "Mode 4 no history policy: d = 1, keep field 0."
  no-policy : Keeping i 4 (pos 0) (some 1)

-- u is within the bounds, and its keep count is d
pub record Bounds (u : SetUp) (d : Option ℕ) : Type 0 where
  -- "Instances i: 1 to 32."
  pub instances : (1 ≤ u.instances) × (u.instances ≤ 32)
  pub keeping : Keeping u.instances u.mode u.keep d

-- ---- a test and what it tests
module _ {a b : Bool} {P Q : Type 0} (p : (a ≡ true) ↔ P) (q : (b ≡ true) ↔ Q) where
  pub and_is : (a && b ≡ true) ↔ (P × Q)
  and_is = let i = and-eq-true_iff a b in (λ e. (p.0 (i.0 e).0, q.0 (i.0 e).1), λ e. i.1 (p.1 e.0, q.1 e.1))

  pub or_is : (a || b ≡ true) ↔ (P ⊎ Q)
  or_is = (λ e. or-in a refl e, out)
    where
      or-in : (x : Bool) → a ≡ x → x || b ≡ true → P ⊎ Q
      or-in true h e = inl (p.0 h)
      or-in false h e = inr (q.0 e)

      absorb : (x : Bool) → x || true ≡ true
      absorb true = refl
      absorb false = refl

      out : P ⊎ Q → a || b ≡ true
      out (inl x) = rw (p.1 x)
      out (inr y) = rw (q.1 y) (absorb a)

pub le_is : (m n : ℕ) → (leb m n ≡ true) ↔ (m ≤ n)
le_is m n = (leb-true m n, le-leb m n)

pub eq_is : (m n : ℕ) → (eqb m n ≡ true) ↔ (m ≡ n)
eq_is m n = (eqb-true m n, eq-eqb m n)

-- ---- members, and their nearest neighbours outside
abbrev pub at : ℕ → ℤ → ℕ → Bool
at mode keep i = within (record { mode = mode; keep = keep; instances = i })

pub members : (at 1 (pos 8) 32 ≡ true) × (at 1 (pos 256) 1 ≡ true) × (at 2 (pos 1) 32 ≡ true) × (at 3 (pos 0) 32 ≡ true) × (at 4 (pos 0) 1 ≡ true)
unfolding within
members = (refl, refl, refl, refl, refl)

pub outside : (at 1 (pos 9) 32 ≡ false) × (at 2 (pos 257) 1 ≡ false) × (at 1 (pos 0) 1 ≡ false) × (at 2 (negsuc 0) 1 ≡ false)
    × (at 3 (pos 1) 1 ≡ false) × (at 4 (pos 1) 1 ≡ false) × (at 3 (pos 0) 33 ≡ false) × (at 4 (pos 0) 0 ≡ false)
    × (at 0 (pos 1) 1 ≡ false) × (at 5 (pos 0) 1 ≡ false)
unfolding within
outside = (refl, refl, refl, refl, refl, refl, refl, refl, refl, refl)
