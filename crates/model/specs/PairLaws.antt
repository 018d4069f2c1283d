-- Laws of pairs and of the order of choices: standing in a list, standing there twice, sorting.
use Rattle.std.specs.Prelude.{◌≡◌, refl, ◌↔◌, ◌⊎◌, Bool, true, false, cond, List, [], ◌∷◌, ◌++◌, map, ℕ, ◌+◌, ◌≤◌, ◌<◌, eqb, ltb}
use Rattle.std.proofs.Common.{sym, ◌∙◌, ap, inl, inr, true≢false, arith, eqb-true, eq-eqb, ltb-true, lt-ltb}
use Rattle.model.specs.Pairs.{Pair, same_pair, Hit, earlier, insert, sorted, pairs_in}
use Rattle.model.specs.Story.{Every}
use Rattle.model.specs.Demand3.{In, Distinct}

pub split {ℓ} : {C : Type ℓ} (b : Bool) → (b ≡ true → C) → (b ≡ false → C) → C
split true t f = t refl
split false t f = f refl

-- ---- standing in a list
pub in-append : {A : Type 0} (a : A) (l r : List A) → In a (l ++ r) ↔ (In a l ⊎ In a r)
in-append a [] r = (inr, go)
  where
    go : ⊥ ⊎ In a r → In a r
    go (inl h) = absurd h
    go (inr h) = h
in-append a (x ∷ l) r = (there (in-append a l r).0, back (in-append a l r).1)
  where
    on : In a l ⊎ In a r → ((a ≡ x) ⊎ In a l) ⊎ In a r
    on (inl q) = inl (inr q)
    on (inr q) = inr q

    there : (In a (l ++ r) → In a l ⊎ In a r) → (a ≡ x) ⊎ In a (l ++ r) → ((a ≡ x) ⊎ In a l) ⊎ In a r
    there again (inl e) = inl (inl e)
    there again (inr h) = on (again h)

    back : (In a l ⊎ In a r → In a (l ++ r)) → ((a ≡ x) ⊎ In a l) ⊎ In a r → (a ≡ x) ⊎ In a (l ++ r)
    back again (inl (inl e)) = inl e
    back again (inl (inr h)) = inr (again (inl h))
    back again (inr h) = inr (again (inr h))

pub in_map : {A B : Type 0} (f : A → B) (b : B) (l : List A) → In b (map f l) ↔ ((a : A) × In a l × (b ≡ f a))
in_map f b [] = (λ h. absurd h, λ h. absurd h.1)
in_map {A} f b (x ∷ l) = (there (in_map f b l).0, λ h. back (in_map f b l).1 h.0 h.1 h.2)
  where
    there : (In b (map f l) → (a : A) × In a l × (b ≡ f a)) → (b ≡ f x) ⊎ In b (map f l) → (a : A) × ((a ≡ x) ⊎ In a l) × (b ≡ f a)
    there again (inl e) = (x, inl refl, e)
    there again (inr h) = ((again h).0, inr (again h).1, (again h).2)

    back : ((a : A) × In a l × (b ≡ f a) → In b (map f l)) → (a : A) → (a ≡ x) ⊎ In a l → b ≡ f a → (b ≡ f x) ⊎ In b (map f l)
    back again a (inl e) h = inl (h ∙ ap f e)
    back again a (inr q) h = inr (again (a, q, h))

pub every_in : {A : Type 0} (P : A → Type 0) (l : List A) → ((a : A) → In a l → P a) → Every P l
every_in P [] h = tt
every_in P (x ∷ l) h = (h x (inl refl), every_in P l (λ a q. h a (inr q)))

-- ---- pairs
pub pair_is : (p : Pair) (k n : ℕ) → k ≡ p.key → n ≡ p.name → p ≡ record { key = k; name = n }
pair_is p k n e f = rw (e, f)

-- two pairs are the same if key and instance are
pub same-pair : (p q : Pair) → (same_pair p q ≡ true) ↔ (p ≡ q)
same-pair p q = (there, back)
  where
    there : same_pair p q ≡ true → p ≡ q
    there h = split (eqb p.key q.key)
        (λ e. split (eqb p.name q.name)
        (λ f. pair_is p q.key q.name (sym (eqb-true p.key q.key e)) (sym (eqb-true p.name q.name f)))
        (λ f. absurd (true≢false (sym (rw (e, f) at h)))))
        (λ e. absurd (true≢false (sym (rw e at h))))

    back : p ≡ q → same_pair p q ≡ true
    back e = rw (e, eq-eqb q.key q.key refl, eq-eqb q.name q.name refl)

-- ---- the order
-- by sequence number, equal ones by key
abbrev pub Before : Hit → Hit → Type 0
Before a b = (a.seq < b.seq) ⊎ ((a.seq ≡ b.seq) × (a.pair.key < b.pair.key))

pub earlier-before : (a b : Hit) → (earlier a b ≡ true) ↔ Before a b
earlier-before a b = (there, back)
  where
    there : earlier a b ≡ true → Before a b
    there h = split (ltb a.seq b.seq)
        (λ e. inl (ltb-true a.seq b.seq e))
        (λ e. split (eqb a.seq b.seq)
        (λ f. split (ltb a.pair.key b.pair.key)
        (λ g. inr (eqb-true a.seq b.seq f, ltb-true a.pair.key b.pair.key g))
        (λ g. absurd (true≢false (sym (rw (e, f, g) at h)))))
        (λ f. absurd (true≢false (sym (rw (e, f) at h)))))

    back : Before a b → earlier a b ≡ true
    back (inl h) = rw (lt-ltb a.seq b.seq h)
    back (inr h) = split (ltb a.seq b.seq)
        (λ e. rw e)
        (λ e. rw (e, eq-eqb a.seq b.seq h.0, lt-ltb a.pair.key b.pair.key h.1))

pub before-not : (a b : Hit) → Before a b → Before b a → ⊥
before-not a b (inl h) (inl k) = omega arith
before-not a b (inl h) (inr k) = omega (arith, k.0)
before-not a b (inr h) (inl k) = omega (arith, h.0)
before-not a b (inr h) (inr k) = omega (arith, h.1, k.1)

pub before-trans : (a b c : Hit) → Before a b → Before b c → Before a c
before-trans a b c (inl h) (inl k) = inl (omega arith)
before-trans a b c (inl h) (inr k) = inl (omega (arith, k.0))
before-trans a b c (inr h) (inl k) = inl (omega (arith, h.0))
before-trans a b c (inr h) (inr k) = inr (h.0 ∙ k.0, omega (arith, h.1, k.1))

-- ---- sorting
-- none that follows is earlier
abbrev pub Sorted : List Hit → Type 0
Sorted [] = Unit {0}
Sorted (x ∷ l) = Every (λ y. earlier y x ≡ false) l × Sorted l

in_insert : (h x : Hit) (l : List Hit) → In h (insert x l) ↔ ((h ≡ x) ⊎ In h l)
unfolding insert
in_insert h x [] = (λ q. q, λ q. q)
in_insert h x (y ∷ l) = split (earlier x y)
    (λ e. rw e (λ q. q, λ q. q))
    (λ e. rw e (there (insert x l) (in_insert h x l).0, back (insert x l) (in_insert h x l).1))
  where
    on : (h ≡ x) ⊎ In h l → (h ≡ x) ⊎ ((h ≡ y) ⊎ In h l)
    on (inl r) = inl r
    on (inr r) = inr (inr r)

    there : (r : List Hit) → (In h r → (h ≡ x) ⊎ In h l) → (h ≡ y) ⊎ In h r → (h ≡ x) ⊎ ((h ≡ y) ⊎ In h l)
    there r again (inl q) = inr (inl q)
    there r again (inr q) = on (again q)

    back : (r : List Hit) → ((h ≡ x) ⊎ In h l → In h r) → (h ≡ x) ⊎ ((h ≡ y) ⊎ In h l) → (h ≡ y) ⊎ In h r
    back r again (inl q) = inr (again (inl q))
    back r again (inr (inl q)) = inl q
    back r again (inr (inr q)) = inr (again (inr q))

-- sorting keeps each
pub in-sorted : (h : Hit) (l : List Hit) → In h (sorted l) ↔ In h l
unfolding sorted
in-sorted h [] = (λ q. q, λ q. q)
in-sorted h (x ∷ l) = (λ q. on (in-sorted h l).0 ((in_insert h x (sorted l)).0 q), λ q. (in_insert h x (sorted l)).1 (on (in-sorted h l).1 q))
  where
    on : {A B : Type 0} → (A → B) → (h ≡ x) ⊎ A → (h ≡ x) ⊎ B
    on f (inl e) = inl e
    on f (inr q) = inr (f q)

-- how many have key k
unfoldable pub times_key : ℕ → List Hit → ℕ
times_key k [] = 0
times_key k (h ∷ hs) = cond (eqb h.pair.key k) 1 0 + times_key k hs

times-insert : (k : ℕ) (x : Hit) (l : List Hit) → times_key k (insert x l) ≡ cond (eqb x.pair.key k) 1 0 + times_key k l
unfolding insert times_key
times-insert k x [] = refl
times-insert k x (y ∷ l) = split (earlier x y)
    (λ e. rw e)
    (λ e. rw e (omega (arith, times-insert k x l)))

-- and keeps how many have a key
pub times-sorted : (k : ℕ) (l : List Hit) → times_key k (sorted l) ≡ times_key k l
unfolding sorted times_key
times-sorted k [] = refl
times-sorted k (x ∷ l) = omega (arith, times-insert k x (sorted l), times-sorted k l)

pub times-append : (k : ℕ) (l r : List Hit) → times_key k (l ++ r) ≡ times_key k l + times_key k r
unfolding times_key
times-append k [] r = omega arith
times-append k (x ∷ l) r = omega (arith, times-append k l r)

pub in-times : (p : Pair) (hs : List Hit) → In p (pairs_in hs) → 1 ≤ times_key p.key hs
unfolding times_key
in-times p [] h = absurd h
in-times p (x ∷ hs) (inl e) = rw (eq-eqb x.pair.key p.key (ap (λ (q : Pair). q.key) (sym e))) (omega arith)
in-times p (x ∷ hs) (inr h) = omega (arith, in-times p hs h)

-- where no key stands twice, no pair does
pub distinct-keys : (hs : List Hit) → ((k : ℕ) → times_key k hs ≤ 1) → Distinct (pairs_in hs)
unfolding times_key
distinct-keys [] h = tt
distinct-keys (x ∷ hs) h = (λ q. more (rw (eq-eqb x.pair.key x.pair.key refl) at (h x.pair.key)) (in-times x.pair hs q), distinct-keys hs (λ k. omega (arith, h k)))
  where
    more : {t : ℕ} → 1 + t ≤ 1 → 1 ≤ t → ⊥
    more p q = omega arith
