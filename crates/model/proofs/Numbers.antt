-- The numbers that the leaves give for a kind, a lifecycle step and a condition are those that the model answers.
use mathlib.Core.Path.{◌≡◌, refl}
use mathlib.Core.Bool.{Bool, true, false, not, ◌&&◌, ◌||◌, cond}
use mathlib.Core.Option.{Option}
use Prim.Native.Nat.{ℕ, ◌^◌}
use lib.Dec.{leb, ltb, eqb}
use lib.ListN.{length}
use Rattle.sampleinfo.specs.States.{kind_number}
use Rattle.sampleinfo.specs.Lifecycle.{is_last, lifecycle_number}
use Rattle.readcondition.specs.Masks.{is_valid, condition_number}
use Rattle.readcondition.specs.declared.ReadCondition.{ReadCondition}
use Rattle.model.specs.Model.{Model, Arrival, Answer, refused, choose, well_formed, no_key, issue_of, is_new, find, old_of, state_in, refusal_of, choosing, step}

module _ (m : Model) where
  -- 1: "kind not 1 or 2"
  pub kind-number : (a : Arrival) → (kind_number a.kind ≡ 0 → ⊥) → refusal_of m a ≡ kind_number a.kind
  unfolding refusal_of well_formed
  kind-number a n = go (eqb a.kind 1 || eqb a.kind 2) _ n
    where
      go : (b : Bool) (rest : ℕ) → (◌≡◌ {A = ℕ} (cond b 0 1) 0 → ⊥) → cond (not (b && (leb 1 a.seq && ltb a.seq (2 ^ 63)))) 1 rest ≡ cond b 0 1
      go true rest n = absurd (n refl)
      go false rest n = refl

  -- 7: "rebirth from total 2,147,483,647", where 1, 6 and 4 are not given
  pub step-number : (a : Arrival) → well_formed a ≡ true → no_key (issue_of m a) ≡ false → is_new (find a.name m.instances) && leb m.room (length m.instances) ≡ false
      → (lifecycle_number (old_of m a).meta (state_in a) ≡ 0 → ⊥) → refusal_of m a ≡ lifecycle_number (old_of m a).meta (state_in a)
  unfolding refusal_of
  step-number a w k r n = rw (w, k, r) (go (is_last (old_of m a).meta (state_in a)) _ n)
    where
      go : (b : Bool) (rest : ℕ) → (◌≡◌ {A = ℕ} (cond b 7 0) 0 → ⊥) → cond b 7 rest ≡ cond b 7 0
      go true rest n = refl
      go false rest n = absurd (n refl)

  -- 1: "mask beyond 3, 3, 7"
  pub mask-number : (w : Option ℕ) (c : ReadCondition) (room : ℕ) → (condition_number c ≡ 0 → ⊥) → (step m (choose w c room)).answer ≡ refused (condition_number c)
  unfolding step choosing
  mask-number w c room n = go (is_valid c) _ n
    where
      go : (b : Bool) (chosen : Answer) → (◌≡◌ {A = ℕ} (cond b 0 1) 0 → ⊥) → cond b chosen (refused 1) ≡ refused (cond b 0 1)
      go true chosen n = absurd (n refl)
      go false chosen n = refl
