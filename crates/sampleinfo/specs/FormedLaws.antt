-- What the answer of an add that is looked at for refusal 1 says.
use Rattle.std.specs.Prelude.{◌≡◌, refl, Bool, true, false, cond, ℕ, Option, Some, None}
use Rattle.std.proofs.Common.{sym, ◌∙◌}
use Rattle.sampleinfo.specs.declared.Body.{Body}
use Rattle.sampleinfo.specs.Formed.{formed, body_for, arrived_body}

module _ (k h n : ℕ) (r : Option Body) (e : r ≡ arrived_body k h n) where
  pub not-formed : r ≡ None → formed k n ≡ false
  not-formed q = go (formed k n) (sym e ∙ q)
    where
      go : (y : Bool) → cond y (Some (body_for k h)) None ≡ None → y ≡ false
      go true p = cc
      go false p = refl

  pub is-formed : (b : Body) → r ≡ Some b → formed k n ≡ true
  is-formed b q = go (formed k n) (sym e ∙ q)
    where
      go : (y : Bool) → cond y (Some (body_for k h)) None ≡ Some b → y ≡ true
      go true p = refl
      go false p = cc

  pub formed-body : (b : Body) → r ≡ Some b → b ≡ body_for k h
  formed-body b q = go (formed k n) (sym e ∙ q)
    where
      go : (y : Bool) → cond y (Some (body_for k h)) None ≡ Some b → b ≡ body_for k h
      go true p = cc
      go false p = cc
