-- What holds of every element of a list.
use mathlib.Core.List.{List, [], ◌∷◌, ◌++◌}

module _ {A : Type 0} where
  unfoldable pub Every : (A → Type 0) → List A → Type 0
  Every P [] = Unit {0}
  Every P (x ∷ xs) = P x × Every P xs

  pub every_map : (P Q : A → Type 0) (xs : List A) → ((x : A) → P x → Q x) → Every P xs → Every Q xs
  unfolding Every
  every_map P Q [] f e = tt
  every_map P Q (x ∷ xs) f e = (f x e.0, every_map P Q xs f e.1)

  pub every_append : (P : A → Type 0) (xs ys : List A) → Every P xs → Every P ys → Every P (xs ++ ys)
  unfolding Every
  every_append P [] ys e f = f
  every_append P (x ∷ xs) ys e f = (e.0, every_append P xs ys e.1 f)
