-- The model's test of a set-up, and its keep count, are document 01's bounds.
use Rattle.std.specs.Prelude.{◌≡◌, ◌↔◌, ◌⊎◌, true, ℕ, ◌*◌, ◌≤◌, ℤ, pos, negsuc}
use Rattle.std.proofs.Math.Path.{refl}
use Rattle.std.proofs.Common.{sym, ap, subst, inl, inr, true≢false, eqb-true, eq-eqb}
use Rattle.std.proofs.Math.Option.{Option}
use Rattle.model.specs.Model.{SetUp, keep_fits, is_zero, within, keep_of}
use Rattle.model.specs.Bounds.{Keeping, keep-last, keep-to-a-limit, keep_all, no-policy, Bounds, and_is, or_is, le_is, eq_is}

-- the keep field of modes 1 and 2
abbrev Counted : ℤ → ℕ → Type 0
Counted keep i = (d : ℕ) × (keep ≡ pos d) × (1 ≤ d) × (i * d ≤ 256)

count-is : (k : ℤ) (i : ℕ) → (keep_fits k i ≡ true) ↔ Counted k i
count-is (pos d) i = let x = and_is (le_is 1 d) (le_is (i * d) 256) in
    (λ e. (d, refl, (x.0 e).0, (x.0 e).1), λ (c, e, l, m). let s : d ≡ c = cc in x.1 (rw s l, rw s m))
count-is (negsuc d) i = (λ e. absurd (true≢false (sym e)), λ (c, e, l, m). cc)

zero_is : (k : ℤ) → (is_zero k ≡ true) ↔ (k ≡ pos 0)
zero_is (pos d) = (λ e. ap pos (eqb-true d 0 e), λ e. eq-eqb d 0 cc)
zero_is (negsuc d) = (λ e. absurd (true≢false (sym e)), λ e. cc)

-- ---- the model's test and keep count are the bounds
module _ (i : ℕ) where
  abbrev set : ℕ → ℤ → SetUp
  set mode keep = record { mode = mode; keep = keep; instances = i }

  abbrev Passed : ℕ → ℤ → Type 0
  Passed mode keep = (((mode ≡ 1) ⊎ (mode ≡ 2)) × Counted keep i) ⊎ (((mode ≡ 3) ⊎ (mode ≡ 4)) × (keep ≡ pos 0))

  abbrev Kept : ℕ → ℤ → Type 0
  Kept mode keep = Keeping i mode keep (keep_of (set mode keep))

  test-is : (mode : ℕ) (keep : ℤ) → (within (set mode keep) ≡ true) ↔ (((1 ≤ i) × (i ≤ 32)) × Passed mode keep)
  unfolding within
  test-is mode keep = and_is (and_is (le_is 1 i) (le_is i 32))
      (or_is (and_is (or_is (eq_is mode 1) (eq_is mode 2)) (count-is keep i)) (and_is (or_is (eq_is mode 3) (eq_is mode 4)) (zero_is keep)))

  kept : {mode : ℕ} {keep : ℤ} → Passed mode keep → Kept mode keep
  unfolding keep_of
  kept (inl (inl m, (d, k, l, h))) = rw (m, k) (keep-last d l h)
  kept (inl (inr m, (d, k, l, h))) = rw (m, k) (keep-to-a-limit d l h)
  kept (inr (inl m, k)) = rw (m, k) keep_all
  kept (inr (inr m, k)) = rw (m, k) no-policy

  passed : {mode : ℕ} {keep : ℤ} {d : Option ℕ} → Keeping i mode keep d → Passed mode keep × (keep_of (set mode keep) ≡ d)
  unfolding keep_of
  passed (keep-last d l h) = (inl (inl refl, (d, refl, l, h)), refl)
  passed (keep-to-a-limit d l h) = (inl (inr refl, (d, refl, l, h)), refl)
  passed keep_all = (inr (inl refl, refl), refl)
  passed no-policy = (inr (inr refl, refl), refl)

-- a set-up is accepted exactly within the bounds, and `keep_of` is its keep count
pub accepted : (u : SetUp) (d : Option ℕ) → ((within u ≡ true) × (keep_of u ≡ d)) ↔ Bounds u d
accepted u d = (there, back)
  where
    test : (within u ≡ true) ↔ (((1 ≤ u.instances) × (u.instances ≤ 32)) × Passed u.instances u.mode u.keep)
    test = test-is u.instances u.mode u.keep

    there : (within u ≡ true) × (keep_of u ≡ d) → Bounds u d
    there (e, k) = record { instances = (test.0 e).0; keeping = subst (Keeping u.instances u.mode u.keep) k (kept u.instances (test.0 e).1) }

    back : Bounds u d → (within u ≡ true) × (keep_of u ≡ d)
    back b = let p = passed u.instances b.keeping in (test.1 (b.instances, p.0), p.1)
