-- No pair of a list is bad exactly if all are live and none stands in it twice.
use Rattle.std.specs.Prelude.{◌≡◌, Bool, ◌&&◌, ◌||◌, cond, ℕ, length}
use Rattle.std.proofs.Math.Path.{refl, ap}
use Rattle.std.proofs.Common.{sym, ◌∙◌, arith}
use Rattle.std.proofs.Math.Bool.{true, false, not, and-false}
use mathlib.Core.List.{List, [], ◌∷◌, ◌++◌}
use Rattle.std.proofs.Math.Option.{Option, some, none}
use Rattle.std.proofs.lemmas.Bool.{not-true}
use Rattle.model.specs.Pairs.{Pair, same_pair, among, repeats, not_live, twice, Bad, bad_from, first_bad, none_bad, or_later}
use Rattle.model.specs.Model.{Model, is_live, fine}
use Rattle.model.specs.BadLaws.{all_of, all_live, meets, same-sym}

among-more : (q p : Pair) (l : List Pair) → among q (l ++ p ∷ []) ≡ among q l || same_pair q p
unfolding among
among-more q p [] = go (same_pair q p)
  where
    go : (a : Bool) → a || false ≡ false || a
    go true = refl
    go false = refl
among-more q p (x ∷ l) = ap (λ (b : Bool). same_pair q x || b) (among-more q p l) ∙ go (same_pair q x) (among q l) (same_pair q p)
  where
    go : (a b c : Bool) → a || (b || c) ≡ (a || b) || c
    go true b c = refl
    go false b c = refl

meets-more : (before : List Pair) (p : Pair) (ps : List Pair) → meets (before ++ p ∷ []) ps ≡ meets before ps || among p ps
unfolding meets among
meets-more before p [] = refl
meets-more before p (q ∷ ps) = rw (among-more q p before, meets-more before p ps, same-sym q p) (go (among q before) (same_pair p q) (meets before ps) (among p ps))
  where
    go : (a b c d : Bool) → (a || b) || (c || d) ≡ (a || c) || (b || d)
    go true b c d = refl
    go false true true d = refl
    go false true false d = refl
    go false false c d = refl

module _ (live : Pair → Bool) where
  none_from : (before ps : List Pair) → none_bad (bad_from live before ps) ≡ all_of live ps && not (meets before ps || repeats ps)
  unfolding bad_from all_of meets repeats
  none_from before [] = refl
  none_from before (p ∷ ps) =
      go (live p) (among p before) (bad_from live (before ++ p ∷ []) ps) (none_from (before ++ p ∷ []) ps ∙ ap (λ (b : Bool). all_of live ps && not (b || repeats ps)) (meets-more before p ps))
    where
      bools : (a b c : Bool) → not ((a || b) || c) ≡ not (a || (b || c))
      bools true b c = refl
      bools false b c = refl

      go : (l a : Bool) (r : Option Bad) → none_bad r ≡ all_of live ps && not ((meets before ps || among p ps) || repeats ps)
          → none_bad (or_later (length before) (cond l (cond a (some twice) none) (some not_live)) r) ≡ (l && all_of live ps) && not ((a || meets before ps) || (among p ps || repeats ps))
      go false a r e = refl
      go true true r e = sym (and-false (all_of live ps))
      go true false r e = e ∙ ap (λ (b : Bool). all_of live ps && b) (bools (meets before ps) (among p ps) (repeats ps))

  none-met : (ps : List Pair) → meets [] ps ≡ false
  unfolding meets among
  none-met [] = refl
  none-met (p ∷ ps) = none-met ps

  pub none-bad : (ps : List Pair) → none_bad (first_bad live ps) ≡ all_of live ps && not (repeats ps)
  none-bad ps = none_from [] ps ∙ rw (none-met ps)

both : (a b : Bool) → a && b ≡ true → (a ≡ true) × (b ≡ true)
both true true h = (refl, refl)
both true false h = (refl, h)
both false b h = (h, go h)
  where
    go : false ≡ true → b ≡ true
    go e = let z : ◌≡◌ {A = ℕ} 0 1 = cc in absurd (omega arith)

all-live-of : (m : Model) (ps : List Pair) → all_of (is_live m) ps ≡ all_live m ps
unfolding all_of all_live
all-live-of m [] = refl
all-live-of m (p ∷ ps) = ap (λ (b : Bool). is_live m p && b) (all-live-of m ps)

module _ (m : Model) (ps : List Pair) where
  pub fine-is-both : fine m ps ≡ all_live m ps && not (repeats ps)
  fine-is-both = none-bad (is_live m) ps ∙ ap (λ (b : Bool). b && not (repeats ps)) (all-live-of m ps)

  pub fine-live : fine m ps ≡ true → all_live m ps ≡ true
  fine-live e = (both (all_live m ps) (not (repeats ps)) (sym fine-is-both ∙ e)).0

  pub fine-once : fine m ps ≡ true → repeats ps ≡ false
  fine-once e = not-true (repeats ps) (both (all_live m ps) (not (repeats ps)) (sym fine-is-both ∙ e)).1
