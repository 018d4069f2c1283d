-- Choosing answers exactly the live samples whose states are in the masks, each once, in order; next_key answers the least name above.
use mathlib.Core.Path.{◌≡◌, refl, sym, ◌∙◌, ap, subst}
use mathlib.Core.Logic.{◌↔◌, ◌⊎◌, inl, inr}
use mathlib.Core.Bool.{Bool, true, false, cond}
use mathlib.Core.List.{List, [], ◌∷◌}
use mathlib.Core.Option.{Option, some, none}
use Prim.Native.Nat.{ℕ, ◌+◌, ◌≤◌, ◌<◌}
use native.Mathlib.Omega.{arith}
use lib.ListN.{length}
use lib.Dec.{eqb, ltb}
use borrow.Author.Tests.{eqb-true, eq-eqb, ne_eqb, ltb-true, ltb-false, le-leb, lt-leb}
use Rattle.readcondition.specs.Masks.{is_valid}
use Rattle.readcondition.specs.declared.ReadCondition.{ReadCondition}
use Rattle.model.specs.Pairs.{Pair, Hit, earlier, sorted, pairs_in}
use Rattle.model.specs.PairLaws.{in-append, in_map, in-sorted, pair_is, Sorted, times_key, times-sorted, times-append, distinct-keys, every_in, split}
use Rattle.model.proofs.PairLaws.{not_earlier, sorted-sorted}
use Rattle.model.specs.Model.{Model, Instance, Live, selected, next, choose, next_key, find, live_in, lives, count, chosen, hit_of, hits_in, hits, one, scope, choices, choosing, least, next_name, step}
use Rattle.model.specs.Story.{Every, lives_of, live_at}
use Rattle.model.specs.Demand3.{In, IsAt, has_key, InScope, Chosen, Precedes, Ordered, Selection, Looks, Nexts, times_held}
use Rattle.model.proofs.Laws.{find-here, find-there, find-name}
use Rattle.model.proofs.Refusals.{none-some}
use Rattle.model.proofs.Counting.{count-append}
use Rattle.model.proofs.Slots.{here-is}

-- ---- what is found stands in the list, and the other way round where each name stands once
pub found_in : (n : ℕ) (is : List Instance) (i : Instance) → find n is ≡ some i → In i is
unfolding find
found_in n [] i h = let z : ◌≡◌ {A = ℕ} 0 1 = cc in absurd (omega arith)
found_in n (j ∷ is) i h = split (eqb j.name n)
    (λ e. inl (sym (same (find-here n j is e))))
    (λ e. inr (found_in n is i (sym (find-there n j is e) ∙ h)))
  where
    same : find n (j ∷ is) ≡ some j → j ≡ i
    same e = cc

in_held : (is : List Instance) (i : Instance) → In i is → 1 ≤ times_held i.name is
unfolding times_held
in_held [] i h = absurd h
in_held (j ∷ is) i (inl e) = rw (eq-eqb j.name i.name (ap (λ (k : Instance). k.name) (sym e))) (omega arith)
in_held (j ∷ is) i (inr h) = omega (arith, in_held is i h)

pub in-found : (is : List Instance) → ((n : ℕ) → times_held n is ≤ 1) → (i : Instance) → In i is → find i.name is ≡ some i
unfolding times_held
in-found [] o i h = absurd h
in-found (j ∷ is) o i (inl e) = find-here i.name j is (eq-eqb j.name i.name (ap (λ (k : Instance). k.name) (sym e))) ∙ ap some (sym e)
in-found (j ∷ is) o i (inr h) = split (eqb j.name i.name)
    (λ e. absurd (twice (rw e at (o i.name)) (in_held is i h)))
    (λ e. find-there i.name j is e ∙ in-found is (λ n. omega (arith, o n)) i h)
  where
    twice : {t : ℕ} → 1 + t ≤ 1 → 1 ≤ t → ⊥
    twice p q = omega arith

pub count-found : (p : Live → Bool) (n : ℕ) (is : List Instance) (i : Instance) → find n is ≡ some i → count p (live_in i.places) ≤ count p (lives is)
unfolding lives find
count-found p n [] i h = let z : ◌≡◌ {A = ℕ} 0 1 = cc in absurd (omega arith)
count-found p n (j ∷ is) i h = rw count-append (split (eqb j.name n)
    (λ e. let q : j ≡ i = cc (find-here n j is e) in rw q (omega arith))
    (λ e. omega (arith, count-found p n is i (sym (find-there n j is e) ∙ h))))

-- ---- one sample to a key
in_count : (ss : List Live) (s : Live) → In s ss → 1 ≤ count (has_key s.key) ss
unfolding count
in_count [] s h = absurd h
in_count (x ∷ ss) s (inl e) = rw (eq-eqb x.key s.key (ap (λ (k : Live). k.key) (sym e))) (omega arith)
in_count (x ∷ ss) s (inr h) = omega (arith, in_count ss s h)

one_key : (ss : List Live) → ((k : ℕ) → count (has_key k) ss ≤ 1) → (s t : Live) → In s ss → In t ss → s.key ≡ t.key → s ≡ t
unfolding count
one_key [] o s t p q e = absurd p
one_key (x ∷ ss) o s t (inl p) (inl q) e = p ∙ sym q
one_key (x ∷ ss) o s t (inl p) (inr q) e = absurd (twice x t (sym (ap (λ (k : Live). k.key) p) ∙ e) (o t.key) (in_count ss t q))
  where
    twice : (y z : Live) → y.key ≡ z.key → cond (eqb y.key z.key) 1 0 + count (has_key z.key) ss ≤ 1 → 1 ≤ count (has_key z.key) ss → ⊥
    twice y z e h k = omega (arith, rw (eq-eqb y.key z.key e) at h)
one_key (x ∷ ss) o s t (inr p) (inl q) e = absurd (twice x s (sym (ap (λ (k : Live). k.key) q) ∙ sym e) (o s.key) (in_count ss s p))
  where
    twice : (y z : Live) → y.key ≡ z.key → cond (eqb y.key z.key) 1 0 + count (has_key z.key) ss ≤ 1 → 1 ≤ count (has_key z.key) ss → ⊥
    twice y z e h k = omega (arith, rw (eq-eqb y.key z.key e) at h)
one_key (x ∷ ss) o s t (inr p) (inr q) e = one_key ss (λ k. omega (arith, o k)) s t p q e

-- ---- the hits
module _ (c : ReadCondition) where
  abbrev HitIn : Instance → List Live → Hit → Type 0
  HitIn i ss h = (s : Live) × In s ss × (chosen c i s ≡ true) × (h ≡ hit_of i s)

  hits-here : (i : Instance) (s : Live) (ss : List Live) → chosen c i s ≡ true → hits_in c i (s ∷ ss) ≡ hit_of i s ∷ hits_in c i ss
  unfolding hits_in
  hits-here i s ss e = rw e

  hits-past : (i : Instance) (s : Live) (ss : List Live) → chosen c i s ≡ false → hits_in c i (s ∷ ss) ≡ hits_in c i ss
  unfolding hits_in
  hits-past i s ss e = rw e

  hits-none : (i : Instance) → hits_in c i [] ≡ []
  unfolding hits_in
  hits-none i = refl

  hit-in : (i : Instance) (ss : List Live) (h : Hit) → In h (hits_in c i ss) → HitIn i ss h
  hit-in i [] h q = absurd (rw (hits-none i) at q)
  hit-in i (s ∷ ss) h q = split (chosen c i s)
      (λ e. there e (hit-in i ss h) (rw (hits-here i s ss e) at q))
      (λ e. more (hit-in i ss h (rw (hits-past i s ss e) at q)))
    where
      more : HitIn i ss h → HitIn i (s ∷ ss) h
      more x = (x.0, inr x.1, x.2, x.3)

      there : {R : Type 0} → chosen c i s ≡ true → (R → HitIn i ss h) → (h ≡ hit_of i s) ⊎ R → HitIn i (s ∷ ss) h
      there e again (inl x) = (s, inl refl, e, x)
      there e again (inr x) = more (again x)

  in-hit : (i : Instance) (ss : List Live) (t : Live) → In t ss → chosen c i t ≡ true → In (hit_of i t) (hits_in c i ss)
  in-hit i [] t q e = absurd q
  in-hit i (s ∷ ss) t (inl q) e = rw (hits-here i s ss (ap (chosen c i) (sym q) ∙ e)) (inl (ap (hit_of i) q))
  in-hit i (s ∷ ss) t (inr q) e = split (chosen c i s)
      (λ f. rw (hits-here i s ss f) (inr (in-hit i ss t q e)))
      (λ f. rw (hits-past i s ss f) (in-hit i ss t q e))

  abbrev HitOf : List Instance → Hit → Type 0
  HitOf is h = (i : Instance) × In i is × HitIn i (live_in i.places) h

  in-hits : (is : List Instance) (i : Instance) (s : Live) → In i is → In s (live_in i.places) → chosen c i s ≡ true → In (hit_of i s) (hits c is)
  unfolding hits
  in-hits [] i s p q e = absurd p
  in-hits (j ∷ is) i s (inl p) q e = (in-append (hit_of i s) (hits_in c j (live_in j.places)) (hits c is)).1 (inl (subst (λ k. In (hit_of i s) (hits_in c k (live_in k.places))) p (in-hit i (live_in i.places) s q e)))
  in-hits (j ∷ is) i s (inr p) q e = (in-append (hit_of i s) (hits_in c j (live_in j.places)) (hits c is)).1 (inr (in-hits is i s p q e))

  hits-of : (is : List Instance) (h : Hit) → In h (hits c is) → HitOf is h
  unfolding hits
  hits-of [] h q = absurd q
  hits-of (i ∷ is) h q = there (hits-of is h) ((in-append h (hits_in c i (live_in i.places)) (hits c is)).0 q)
    where
      there : {R : Type 0} → (R → HitOf is h) → In h (hits_in c i (live_in i.places)) ⊎ R → HitOf (i ∷ is) h
      there again (inl x) = (i, inl refl, hit-in i (live_in i.places) h x)
      there again (inr x) = ((again x).0, inr (again x).1, (again x).2)

  times-hits-in : (k : ℕ) (i : Instance) (ss : List Live) → times_key k (hits_in c i ss) ≤ count (has_key k) ss
  unfolding hits_in times_key count
  times-hits-in k i [] = omega arith
  times-hits-in k i (s ∷ ss) = split (chosen c i s)
      (λ e. rw e (omega (arith, times-hits-in k i ss)))
      (λ e. rw e (omega (arith, times-hits-in k i ss)))

  times-hits : (k : ℕ) (is : List Instance) → times_key k (hits c is) ≤ count (has_key k) (lives is)
  unfolding hits lives times_key
  times-hits k [] = omega arith
  times-hits k (i ∷ is) = rw (times-append k (hits_in c i (live_in i.places)) (hits c is), count-append) (omega (arith, times-hits-in k i (live_in i.places), times-hits k is))

-- ---- the order of pairs is that of their samples
module _ (m : Model) where
  -- a hit has the sequence number of the live sample that its pair names
  abbrev Right : Hit → Type 0
  Right h = (s : Live) → IsAt m h.pair s → s.sample.sequence_number ≡ h.seq

  precedes : (x y : Hit) → Right x → Right y → earlier y x ≡ false → (x.pair.key ≡ y.pair.key → ⊥) → Precedes m x.pair y.pair
  precedes x y p q e d s t a b = split (ltb x.seq y.seq)
      (λ f. inl (rw (p s a, q t b) (ltb-true x.seq y.seq f)))
      (λ f. inr (
        p s a ∙ level x.seq y.seq (ltb-false x.seq y.seq f) (λ l. not_earlier y x e (inl l)) ∙ sym (q t b),
        lower x.seq y.seq x.pair.key y.pair.key (ltb-false x.seq y.seq f) (λ l. not_earlier y x e (inl l)) (λ v l. not_earlier y x e (inr (v, l))) d,
      ))
    where
      level : (a b : ℕ) → b ≤ a → (b < a → ⊥) → a ≡ b
      level a b h u = omega arith

      lower : (a b j k : ℕ) → b ≤ a → (b < a → ⊥) → (b ≡ a → k < j → ⊥) → (j ≡ k → ⊥) → j < k
      lower a b j k h u v w = split (ltb j k)
          (λ e. ltb-true j k e)
          (λ e. absurd (v (sym (level a b h u)) (past j k (ltb-false j k e) w)))
        where
          past : (j k : ℕ) → k ≤ j → (j ≡ k → ⊥) → k < j
          past j k h w = omega arith

  all-precede : (x : Hit) (hs : List Hit) → Right x → Every Right hs → Every (λ y. earlier y x ≡ false) hs → times_key x.pair.key hs ≡ 0 → Every (Precedes m x.pair) (pairs_in hs)
  unfolding times_key
  all-precede x [] p r h z = tt
  all-precede x (y ∷ hs) p r h z = (precedes x y p r.0 h.0 (λ e. other (eq-eqb y.pair.key x.pair.key (sym e))), all-precede x hs p r.1 h.1 (omega arith))
    where
      other : eqb y.pair.key x.pair.key ≡ true → ⊥
      other e = omega (arith, rw e at z)

  in_order : (hs : List Hit) → Every Right hs → ((k : ℕ) → times_key k hs ≤ 1) → Sorted hs → Ordered m (pairs_in hs)
  unfolding times_key
  in_order [] r o h = tt
  in_order (x ∷ hs) r o h = (all-precede x hs r.0 r.1 h.0 (rest (rw (eq-eqb x.pair.key x.pair.key refl) at (o x.pair.key))), in_order hs r.1 (λ k. omega (arith, o k)) h.1)
    where
      rest : {t : ℕ} → 1 + t ≤ 1 → t ≡ 0
      rest q = omega arith

-- ---- all instances, or the one named
module _ (is : List Instance) (once : (n : ℕ) → times_held n is ≤ 1) where
  in_scope : (w : Option ℕ) (i : Instance) → In i (scope w is) ↔ ((find i.name is ≡ some i) × InScope w i.name)
  in_scope none i = (λ h. (in-found is once i h, tt), λ h. found_in i.name is i h.0)
  in_scope (some n) i = go (find n is) refl
    where
      there : (j : Instance) → find n is ≡ some j → (i ≡ j) ⊎ ⊥ → (find i.name is ≡ some i) × (i.name ≡ n)
      there j f (inl e) = subst (λ k. (find k.name is ≡ some k) × (k.name ≡ n)) (sym e) (here-is n is j f, find-name n is j f)
      there j f (inr h) = absurd h

      same : (j : Instance) → find n is ≡ some j → find n is ≡ some i → i ≡ j
      same j f g = cc

      go : (o : Option Instance) → find n is ≡ o → In i (one o) ↔ ((find i.name is ≡ some i) × (i.name ≡ n))
      go none f = (λ h. absurd h, λ h. none-some (find n is) f (ap (λ (k : ℕ). find k is) (sym h.1) ∙ h.0))
      go (some j) f = (there j f, λ h. inl (same j f (ap (λ (k : ℕ). find k is) (sym h.1) ∙ h.0)))

  few-keys : ((k : ℕ) → count (has_key k) (lives is) ≤ 1) → (w : Option ℕ) (k : ℕ) → count (has_key k) (lives (scope w is)) ≤ 1
  few-keys keys none k = keys k
  few-keys keys (some n) k = go (find n is) refl
    where
      go : (o : Option Instance) → find n is ≡ o → count (has_key k) (lives (one o)) ≤ 1
      go none f = unfold lives count in (omega arith)
      go (some j) f = unfold lives count in (rw (count-append (has_key k) (live_in j.places) []) (omega (arith, count-found (has_key k) n is j f, keys k)))

-- ---- the selection
module _ (m : Model) (once : (n : ℕ) → times_held n m.instances ≤ 1) (keys : (k : ℕ) → count (has_key k) (lives m.instances) ≤ 1) (w : Option ℕ) (c : ReadCondition) where
  abbrev scoped : List Instance
  scoped = scope w m.instances

  abbrev found : List Hit
  found = sorted (hits c scoped)

  at-found : (i : Instance) (s : Live) → find i.name m.instances ≡ some i → In s (live_at i.name m) ↔ In s (live_in i.places)
  at-found i s f = (λ h. subst (λ o. In s (lives_of o)) f h, λ h. subst (λ o. In s (lives_of o)) (sym f) h)

  right-hit : (i : Instance) (s : Live) → find i.name m.instances ≡ some i → In s (live_in i.places) → Right m (hit_of i s)
  right-hit i s f h t q = ap (λ (x : Live). x.sample.sequence_number)
      (one_key (live_in i.places) (λ k. omega (arith, count-found (has_key k) i.name m.instances i f, keys k)) t s ((at-found i t f).0 q.0) h q.1)

  from_found : (h : Hit) → In h found → HitOf c scoped h
  from_found h q = hits-of c scoped h ((in-sorted h (hits c scoped)).0 q)

  right : Every (Right m) found
  right = every_in (Right m) found (λ h q. go h (from_found h q))
    where
      go : (h : Hit) → HitOf c scoped h → Right m h
      go h x = subst (Right m) (sym x.2.3) (right-hit x.0 x.2.0 ((in_scope m.instances once w x.0).0 x.1).0 x.2.1)

  few : (k : ℕ) → times_key k found ≤ 1
  few k = omega (arith, times-sorted k (hits c scoped), times-hits c k scoped, few-keys m.instances once keys w k)

  chosen_of : (i : Instance) (s : Live) → In i scoped → In s (live_in i.places) → chosen c i s ≡ true → Chosen m w c (hit_of i s).pair
  chosen_of i s p q e = let x : (find i.name m.instances ≡ some i) × InScope w i.name = (in_scope m.instances once w i).0 p in
      (i, s, x.0, ((at-found i s x.0).1 q, refl), x.1, e)

  there : (p : Pair) → In p (pairs_in found) → Chosen m w c p
  there p h = go ((in_map (λ (x : Hit). x.pair) p found).0 h)
    where
      on : (x : Hit) → HitOf c scoped x → Chosen m w c x.pair
      on x y = subst (λ z. Chosen m w c z.pair) (sym y.2.3) (chosen_of y.0 y.2.0 y.1 y.2.1 y.2.2)

      go : (x : Hit) × In x found × (p ≡ x.pair) → Chosen m w c p
      go y = subst (Chosen m w c) (sym y.2) (on y.0 (from_found y.0 y.1))

  back : (p : Pair) → Chosen m w c p → In p (pairs_in found)
  back p (i, s, f, a, v, e) = (in_map (λ (x : Hit). x.pair) p found).1 (hit_of i s, (in-sorted (hit_of i s) (hits c scoped)).1 stands, pair_is p s.key i.name a.1 (find-name p.name m.instances i f))
    where
      named : find i.name m.instances ≡ some i
      named = here-is p.name m.instances i f

      stands : In (hit_of i s) (hits c scoped)
      stands = in-hits c scoped i s ((in_scope m.instances once w i).1 (named, subst (InScope w) (sym (find-name p.name m.instances i f)) v)) (subst (λ o. In s (lives_of o)) f a.0) e

  selection : Selection m w c (choices c scoped)
  selection = record { once = distinct-keys found few; exact = λ p. (there p, back p); in_order = in_order m found right few (sorted-sorted (hits c scoped)) }

  pub looks-step : (room : ℕ) → Looks m w c room (step m (choose w c room))
  unfolding step choosing
  looks-step room = record {
    unchanged = refl;
    answers = (choices c scoped, selection, λ v. rw v, λ v h. rw (v, lt-leb (length (choices c scoped)) room h), λ v h. rw (v, le-leb (length (choices c scoped)) room h));
  }

-- "Choosing within an unknown instance gives an empty answer."
pub unknown-empty : (m : Model) (n : ℕ) (c : ReadCondition) (room : ℕ) → is_valid c ≡ true → find n m.instances ≡ none → (step m (choose (some n) c room)).answer ≡ selected []
unfolding step choosing hits sorted
unknown-empty m n c room v f = rw (f, v, le-leb 0 room (omega arith))

-- ---- next_key
abbrev Held : ℕ → List Instance → Type 0
Held n is = ¬ (find n is ≡ none)

-- what the answer says of the names held
abbrev NextIs : ℕ → List Instance → Option ℕ → Type 0
NextIs n is none = (j : ℕ) → n < j → find j is ≡ none
NextIs n is (some k) = (n < k) × Held k is × ((j : ℕ) → n < j → Held j is → k ≤ j)

held-here : (n : ℕ) (i : Instance) (is : List Instance) → eqb i.name n ≡ true → Held n (i ∷ is)
held-here n i is e h = none-some (find n (i ∷ is)) h (find-here n i is e)

held-there : (n : ℕ) (i : Instance) (is : List Instance) → eqb i.name n ≡ false → Held n (i ∷ is) → Held n is
held-there n i is e h q = h (find-there n i is e ∙ q)

held_more : (n : ℕ) (i : Instance) (is : List Instance) → Held n is → Held n (i ∷ is)
held_more n i is h q = split (eqb i.name n)
    (λ e. held-here n i is e q)
    (λ e. h (sym (find-there n i is e) ∙ q))

-- the name in front is above
next-above : (n : ℕ) (i : Instance) (is : List Instance) → n < i.name → (o : Option ℕ) → NextIs n is o → NextIs n (i ∷ is) (least o i.name)
next-above n i is l none h = (
  l,
  held-here i.name i is (eq-eqb i.name i.name refl),
  λ j p q. split (eqb i.name j)
      (λ e. omega (arith, eqb-true i.name j e))
      (λ e. absurd (held-there j i is e q (h j p))),
)
next-above n i is l (some k) h = split (ltb i.name k)
    (λ e. rw e (
      l,
      held-here i.name i is (eq-eqb i.name i.name refl),
      λ j p q. split (eqb i.name j)
          (λ f. omega (arith, eqb-true i.name j f))
          (λ f. omega (arith, ltb-true i.name k e, h.2 j p (held-there j i is f q))),
    ))
    (λ e. rw e (
      h.0,
      held_more k i is h.1,
      λ j p q. split (eqb i.name j)
          (λ f. omega (arith, eqb-true i.name j f, ltb-false i.name k e))
          (λ f. h.2 j p (held-there j i is f q)),
    ))

-- the name in front is not above
next_past : (n : ℕ) (i : Instance) (is : List Instance) → i.name ≤ n → (o : Option ℕ) → NextIs n is o → NextIs n (i ∷ is) o
next_past n i is l none h = λ j p. find-there j i is (ne_eqb i.name j (λ e. omega arith)) ∙ h j p
next_past n i is l (some k) h = (h.0, held_more k i is h.1, λ j p q. h.2 j p (held-there j i is (ne_eqb i.name j (λ e. omega arith)) q))

next-is : (n : ℕ) (is : List Instance) → NextIs n is (next_name n is)
unfolding next_name find
next-is n [] = λ j p. refl
next-is n (i ∷ is) = split (ltb n i.name)
    (λ e. rw e (next-above n i is (ltb-true n i.name e) (next_name n is) (next-is n is)))
    (λ e. rw e (next_past n i is (ltb-false n i.name e) (next_name n is) (next-is n is)))

pub nexts-step : (m : Model) (n : ℕ) → Nexts m n (step m (next_key n))
unfolding step
nexts-step m n = go (next_name n m.instances) (next-is n m.instances)
  where
    go : (o : Option ℕ) → NextIs n m.instances o → Nexts m n (record { answer = next o; then = m })
    go none h = record {
      unchanged = refl;
      least = λ k. (λ e. let z : ◌≡◌ {A = ℕ} 0 1 = cc in absurd (omega arith), λ x. absurd (x.1 (h k x.0)));
      none_above = (λ e. h, λ x. refl);
    }
    go (some l) h = record {
      unchanged = refl;
      least = λ k. (λ e. let p : l ≡ k = cc in rw p at h, λ x. ap (λ (y : ℕ). next (some y)) (level l k (h.2 k x.0 x.1) (x.2 l h.0 h.1)));
      none_above = (λ e. let z : ◌≡◌ {A = ℕ} 0 1 = cc in absurd (omega arith), λ x. absurd (h.1 (x l h.0)));
    }
      where
        level : (a b : ℕ) → a ≤ b → b ≤ a → a ≡ b
        level a b p q = omega arith
