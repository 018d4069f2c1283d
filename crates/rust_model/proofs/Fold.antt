-- The model goes through its instances, each with its own samples; the Rust goes through all samples in order of keys. A fold whose steps can be
-- exchanged comes to the same both ways: sorting is one, finding the latest sample another.
use Rattle.std.proofs.Common.{◌≡◌, ℕ, ◌+◌, ◌<◌, ◌≤◌, Bool, true, false, cond, ◌||◌, eqb, List, [], ◌∷◌, sym, refl, ap, ◌∙◌, true≢false, arith, eq-eqb, eqb-true}
use mathlib.Core.Option.{Option, some, none}
use Rattle.model.specs.Model.{Instance, find}
use Rattle.model.specs.Story.{Every}
use Rattle.model.specs.Demand3.{times_held}
use Rattle.model.proofs.Laws.{find-here, find-there}
use Rattle.model.specs.PairLaws.{split}
use Rattle.rust_model.proofs.MapLaws.{same-eqb, eqb_swap}
use Rattle.rust_model.proofs.Alike.{Kept, key_at, Rising}

abbrev pub known : Option Instance → Bool
known none = false
known (some i) = true

none-times : (n : ℕ) (is : List Instance) → times_held n is ≡ 0 → known (find n is) ≡ false
unfolding times_held find
none-times n [] h = refl
none-times n (i ∷ is) h = split (eqb i.name n)
    (λ e. absurd (one (times_held n is) (rw e at h)))
    (λ e. rw e (none-times n is (omega arith)))
  where
    one : (t : ℕ) → 1 + t ≡ 0 → ⊥
    one t q = omega arith

-- where each name stands once, each instance is found by its own
pub own-found : (is : List Instance) → ((n : ℕ) → times_held n is ≤ 1) → Every (λ i. find i.name is ≡ some i) is
unfolding times_held
own-found [] h = tt
own-found (i ∷ is) h = (find-here i.name i is (same-eqb i.name), on is (own-found is (λ n. omega (arith, h n))))
  where
    alone : known (find i.name is) ≡ false
    alone = none-times i.name is (rest (rw (same-eqb i.name) at (h i.name)))
      where
        rest : {t : ℕ} → 1 + t ≤ 1 → t ≡ 0
        rest q = omega arith

    other : (j : Instance) → find j.name is ≡ some j → eqb i.name j.name ≡ false
    other j f = split (eqb i.name j.name)
        (λ e. absurd (true≢false (sym (ap known f) ∙ ap (λ (n : ℕ). known (find n is)) (sym (eqb-true i.name j.name e)) ∙ alone)))
        (λ e. e)

    on : (l : List Instance) → Every (λ j. find j.name is ≡ some j) l → Every (λ j. find j.name (i ∷ is) ≡ some j) l
    on [] q = tt
    on (j ∷ l) q = (find-there j.name i is (other j q.0) ∙ q.0, on l q.1)

module _ {R : Type 0} (F : Kept → R → R) where
  -- over the entries whose names pass a test, the last first
  unfoldable pub fold_log : (ℕ → Bool) → R → List Kept → R
  fold_log p r [] = r
  fold_log p r (k ∷ log) = cond (p k.name) (F k (fold_log p r log)) (fold_log p r log)

  pub fold-ext : (p q : ℕ → Bool) (r : R) (log : List Kept) → Every (λ k. p k.name ≡ q k.name) log → fold_log p r log ≡ fold_log q r log
  unfolding fold_log
  fold-ext p q r [] h = refl
  fold-ext p q r (k ∷ log) h = rw (h.0, fold-ext p q r log h.1)

  fold-none : (r : R) (log : List Kept) → fold_log (λ n. false) r log ≡ r
  unfolding fold_log
  fold-none r [] = refl
  fold-none r (k ∷ log) = fold-none r log

  module _ (swap : (x y : Kept) (r : R) → key_at x < key_at y → F x (F y r) ≡ F y (F x r)) where
    fold-move : (p : ℕ → Bool) (x : Kept) (r : R) (log : List Kept) → Every (λ y. key_at x < key_at y) log → fold_log p (F x r) log ≡ F x (fold_log p r log)
    unfolding fold_log
    fold-move p x r [] h = refl
    fold-move p x r (k ∷ log) h = split (p k.name)
        (λ e. rw e (ap (F k) (fold-move p x r log h.1) ∙ sym (swap x k (fold_log p r log) h.0)))
        (λ e. rw e (fold-move p x r log h.1))

    fold-both : (p q : ℕ → Bool) → ((n : ℕ) → p n ≡ true → q n ≡ false) → (r : R) (log : List Kept) → Rising log → fold_log p (fold_log q r log) log ≡ fold_log (λ n. p n || q n) r log
    unfolding fold_log
    fold-both p q d r [] h = refl
    fold-both p q d r (k ∷ log) h = split (p k.name)
        (λ e. let inner : fold_log q r (k ∷ log) ≡ fold_log q r log = rw (d k.name e) in
        rw e (ap (λ (x : R). F k (fold_log p x log)) inner ∙ ap (F k) (fold-both p q d r log h.1)))
        (λ e. split (q k.name)
        (λ f. let inner : fold_log q r (k ∷ log) ≡ F k (fold_log q r log) = rw f in
        rw (e, f) (ap (λ (x : R). fold_log p x log) inner ∙ fold-move p k (fold_log q r log) log h.0 ∙ ap (F k) (fold-both p q d r log h.1)))
        (λ f. let inner : fold_log q r (k ∷ log) ≡ fold_log q r log = rw f in
        rw (e, f) (ap (λ (x : R). fold_log p x log) inner ∙ fold-both p q d r log h.1)))

    -- instance by instance
    unfoldable pub gather : R → List Kept → List Instance → R
    gather r log [] = r
    gather r log (i ∷ is) = fold_log (λ n. eqb n i.name) (gather r log is) log

    pub gather-all : (r : R) (log : List Kept) → Rising log → (is : List Instance) → ((n : ℕ) → times_held n is ≤ 1) → gather r log is ≡ fold_log (λ n. known (find n is)) r log
    unfolding gather times_held
    gather-all r log h [] o = unfold find in (sym (fold-none r log))
    gather-all r log h (i ∷ is) o = ap (λ (x : R). fold_log mine x log) (gather-all r log h is (λ n. omega (arith, o n)))
        ∙ fold-both mine rest apart r log h ∙ fold-ext (λ n. mine n || rest n) (λ n. known (find n (i ∷ is))) r log (all log)
      where
        mine : ℕ → Bool
        mine n = eqb n i.name

        rest : ℕ → Bool
        rest n = known (find n is)

        back : (n : ℕ) → eqb n i.name ≡ true → eqb i.name n ≡ true
        back n e = eq-eqb i.name n (sym (eqb-true n i.name e))

        apart : (n : ℕ) → mine n ≡ true → rest n ≡ false
        apart n e = none-times n is (zero_of (rw (back n e) at (o n)))
          where
            zero_of : {t : ℕ} → 1 + t ≤ 1 → t ≡ 0
            zero_of q = omega arith

        each : (n : ℕ) → mine n || rest n ≡ known (find n (i ∷ is))
        each n = split (eqb n i.name)
            (λ e. rw (e, find-here n i is (back n e)))
            (λ e. rw (e, find-there n i is (eqb_swap n i.name e)))

        all : (l : List Kept) → Every (λ k. mine k.name || rest k.name ≡ known (find k.name (i ∷ is))) l
        all [] = tt
        all (k ∷ l) = (each k.name, all l)
