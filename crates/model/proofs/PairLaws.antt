-- Standing in a list as the model tests it, and that sorting sorts.
use Rattle.std.specs.Prelude.{◌≡◌, refl, ◌↔◌, ◌⊎◌, Bool, true, false, ◌||◌, List, [], ◌∷◌}
use Rattle.std.proofs.Common.{sym, ◌∙◌, inl, inr, true≢false}
use Rattle.model.specs.Pairs.{Pair, same_pair, among, repeats, Hit, earlier, insert, sorted}
use Rattle.model.specs.Story.{Every}
use Rattle.model.specs.Demand3.{In, Distinct}
use Rattle.model.specs.PairLaws.{same-pair, Before, earlier-before, before-not, before-trans, Sorted, split}

pub among_in : (p : Pair) (ps : List Pair) → (among p ps ≡ true) ↔ In p ps
unfolding among
among_in p [] = (λ h. absurd (true≢false (sym h)), λ h. absurd h)
among_in p (q ∷ qs) = (there (among p qs) (among_in p qs).0, back (among p qs) (among_in p qs).1)
  where
    there : (b : Bool) → (b ≡ true → In p qs) → same_pair p q || b ≡ true → (p ≡ q) ⊎ In p qs
    there b again h = split (same_pair p q)
        (λ e. inl ((same-pair p q).0 e))
        (λ e. inr (again (rw e at h)))

    back : (b : Bool) → (In p qs → b ≡ true) → (p ≡ q) ⊎ In p qs → same_pair p q || b ≡ true
    back b again (inl e) = rw ((same-pair p q).1 e)
    back b again (inr h) = split (same_pair p q) (λ e. rw e) (λ e. rw e (again h))

pub not-among : (p : Pair) (ps : List Pair) → among p ps ≡ false → ¬ In p ps
not-among p ps e h = true≢false (sym ((among_in p ps).1 h) ∙ e)

pub repeats-distinct : (ps : List Pair) → (repeats ps ≡ false) ↔ Distinct ps
unfolding repeats
repeats-distinct [] = (λ h. tt, λ h. refl)
repeats-distinct (p ∷ ps) = (there (repeats ps) (repeats-distinct ps).0, back (repeats ps) (repeats-distinct ps).1)
  where
    there : (b : Bool) → (b ≡ false → Distinct ps) → among p ps || b ≡ false → (¬ In p ps) × Distinct ps
    there b again h = split (among p ps)
        (λ e. absurd (true≢false (rw e at h)))
        (λ e. (not-among p ps e, again (rw e at h)))

    back : (b : Bool) → (Distinct ps → b ≡ false) → (¬ In p ps) × Distinct ps → among p ps || b ≡ false
    back b again h = split (among p ps)
        (λ e. absurd (h.0 ((among_in p ps).0 e)))
        (λ e. rw e (again h.1))

-- ---- the order
pub not_earlier : (a b : Hit) → earlier a b ≡ false → ¬ Before a b
not_earlier a b e h = true≢false (sym ((earlier-before a b).1 h) ∙ e)

-- ---- sorting
every-insert : (P : Hit → Type 0) (x : Hit) (l : List Hit) → P x → Every P l → Every P (insert x l)
unfolding insert
every-insert P x [] p h = (p, tt)
every-insert P x (y ∷ l) p h = split (earlier x y)
    (λ e. rw e (p, h))
    (λ e. rw e (h.0, every-insert P x l p h.1))

later-all : (x y : Hit) (l : List Hit) → earlier x y ≡ true → Every (λ z. earlier z y ≡ false) l → Every (λ z. earlier z x ≡ false) l
later-all x y [] e h = tt
later-all x y (z ∷ l) e h = (split (earlier z x) (λ q. absurd (not_earlier z y h.0 (before-trans z x y ((earlier-before z x).0 q) ((earlier-before x y).0 e)))) (λ q. q), later-all x y l e h.1)

insert-sorted : (x : Hit) (l : List Hit) → Sorted l → Sorted (insert x l)
unfolding insert
insert-sorted x [] h = (tt, tt)
insert-sorted x (y ∷ l) h = split (earlier x y)
    (λ e. rw e ((back e, later-all x y l e h.0), h))
    (λ e. rw e (every-insert (λ z. earlier z y ≡ false) x l e h.0, insert-sorted x l h.1))
  where
    back : earlier x y ≡ true → earlier y x ≡ false
    back e = split (earlier y x) (λ q. absurd (before-not x y ((earlier-before x y).0 e) ((earlier-before y x).0 q))) (λ q. q)

pub sorted-sorted : (l : List Hit) → Sorted (sorted l)
unfolding sorted
sorted-sorted [] = tt
sorted-sorted (x ∷ l) = insert-sorted x (sorted l) (sorted-sorted l)
