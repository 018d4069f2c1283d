-- The infos of an accepted list: each is that of its pair, field by field.
use mathlib.Core.Path.{◌≡◌, refl, sym, ◌∙◌, ap, subst}
use mathlib.Core.Logic.{◌↔◌, ◌⊎◌, inl, inr}
use mathlib.Core.Bool.{Bool, true, false, cond, true≢false}
use mathlib.Core.List.{List, [], ◌∷◌, ◌++◌}
use mathlib.Core.Option.{Option, some, none}
use Prim.Native.Nat.{ℕ, zero, suc, ◌-◌, ◌≤◌, ◌<◌}
use native.Mathlib.Omega.{arith}
use lib.ListN.{length, drop, length-drop}
use lib.Dec.{eqb, ltb}
use lib.IntN.{pos, ◌-ℤ◌}
use borrow.Author.Tests.{eqb-true, ltb-true, ltb-false, le-ltb}
use Rattle.sampleinfo.specs.Counts.{total, accessed_at}
use Rattle.sampleinfo.specs.Lifecycle.{counts_of, accessed_of}
use Rattle.sampleinfo.specs.Samples.{total_of}
use Rattle.sampleinfo.specs.declared.SampleState.TheVariants.{Read, NotRead}
use Rattle.sampleinfo.specs.declared.ViewState.TheVariants.{New, NotNew}
use Rattle.sampleinfo.specs.declared.Info.{Info}
use Rattle.model.specs.Pairs.{Pair}
use Rattle.model.specs.Views.{rank_from}
use Rattle.model.specs.PairLaws.{in-append, split}
use Rattle.model.specs.Model.{Model, Instance, Live, find, live_in, lives, keyed, named, present, is_live, later, latest, latest_total, instance_total, last_total, info_of, info_at, infos_of, infos_for, Edition, by_the_rust, ranks_at}
use Rattle.model.specs.BadLaws.{all_live}
use Rattle.model.specs.Story.{lives_of, live_at}
use Rattle.model.specs.Demand3.{In, IsAt, AtPlace, Latest, Shows, times_held}
use Rattle.model.proofs.Refusals.{both, none-some}
use Rattle.model.proofs.Choices.{found_in, in-found}

-- ---- the latest-keyed sample of a list
abbrev LatestIn : List Live → Option Live → Type 0
LatestIn ss none = (x : Live) → In x ss → ⊥
LatestIn ss (some t) = In t ss × ((x : Live) → In x ss → x.key ≤ t.key)

latest-in : (ss : List Live) → LatestIn ss (latest ss)
unfolding latest
latest-in [] = λ x h. h
latest-in (s ∷ ss) = go (latest ss) (latest-in ss)
  where
    most : (t : Live) → s.key ≤ t.key → ((x : Live) → In x ss → x.key ≤ t.key) → (x : Live) → (x ≡ s) ⊎ In x ss → x.key ≤ t.key
    most t l h x (inl e) = rw e l
    most t l h x (inr q) = h x q

    up : {a b c : ℕ} → a ≤ b → b ≤ c → a ≤ c
    up p q = omega arith

    chosen : (t : Live) → LatestIn ss (some t) → (b : Bool) → ltb s.key t.key ≡ b → LatestIn (s ∷ ss) (some (cond b t s))
    chosen t h true e = (inr h.0, most t (omega (arith, ltb-true s.key t.key e)) h.1)
    chosen t h false e = (inl refl, most s (omega arith) (λ x q. up (h.1 x q) (ltb-false s.key t.key e)))

    go : (o : Option Live) → LatestIn ss o → LatestIn (s ∷ ss) (later o s)
    go none h = (inl refl, most s (omega arith) (λ x q. absurd (h x q)))
    go (some t) h = chosen t h (ltb s.key t.key) refl

-- ---- the live samples of the whole cache are those of its instances
in_lives : (is : List Instance) (i : Instance) (s : Live) → In i is → In s (live_in i.places) → In s (lives is)
unfolding lives
in_lives [] i s p q = absurd p
in_lives (j ∷ is) i s (inl e) q = (in-append s (live_in j.places) (lives is)).1 (inl (subst (λ k. In s (live_in k.places)) e q))
in_lives (j ∷ is) i s (inr p) q = (in-append s (live_in j.places) (lives is)).1 (inr (in_lives is i s p q))

lives-of : (is : List Instance) (s : Live) → In s (lives is) → (i : Instance) × In i is × In s (live_in i.places)
unfolding lives
lives-of [] s h = absurd h
lives-of (j ∷ is) s h = there (lives-of is s) ((in-append s (live_in j.places) (lives is)).0 h)
  where
    there : {R : Type 0} → (R → (i : Instance) × In i is × In s (live_in i.places))
        → In s (live_in j.places) ⊎ R → (i : Instance) × ((i ≡ j) ⊎ In i is) × In s (live_in i.places)
    there again (inl q) = (j, inl refl, q)
    there again (inr q) = ((again q).0, inr (again q).1, (again q).2)

module _ (m : Model) where
  live-lives : (n : ℕ) (s : Live) → In s (live_at n m) → In s (lives m.instances)
  live-lives n s h = go (find n m.instances) refl h
    where
      go : (o : Option Instance) → find n m.instances ≡ o → In s (lives_of o) → In s (lives m.instances)
      go none f q = absurd q
      go (some i) f q = in_lives m.instances i s (found_in n m.instances i f) q

  is-latest : ((n : ℕ) → times_held n m.instances ≤ 1) → (n : ℕ) (s : Live) → In s (live_at n m)
      → (t : Live) × Latest m t × (latest_total (latest (lives m.instances)) ≡ total_of t.sample)
  is-latest once n s h = go (latest (lives m.instances)) (latest-in (lives m.instances))
    where
      held_at : (t : Live) → (i : Instance) × In i m.instances × In t (live_in i.places) → (k : ℕ) × In t (live_at k m)
      held_at t (i, p, q) = (i.name, subst (λ o. In t (lives_of o)) (sym (in-found m.instances once i p)) q)

      go : (o : Option Live) → LatestIn (lives m.instances) o → (t : Live) × Latest m t × (latest_total o ≡ total_of t.sample)
      go none q = absurd (q s (live-lives n s h))
      go (some t) q = (t, (held_at t (lives-of m.instances t q.0), λ k x r. q.1 x (live-lives k x r)), refl)

  -- ---- the sample that a pair names
  abbrev Named : Pair → Instance → Live → Type 0
  Named p i s = (find p.name m.instances ≡ some i) × (keyed p.key (live_in i.places) ≡ some s) × IsAt m p s

  keyed-is : (k : ℕ) (ss : List Live) (s : Live) → keyed k ss ≡ some s → In s ss × (s.key ≡ k)
  unfolding keyed
  keyed-is k [] s h = absurd (none-some none refl h)
  keyed-is k (x ∷ ss) s h = split (eqb x.key k)
      (λ e. let p : some x ≡ some s = rw e at h in let q : x ≡ s = cc in (inl (sym q), ap (λ (y : Live). y.key) (sym q) ∙ eqb-true x.key k e))
      (λ e. more (keyed-is k ss s (rw e at h)))
    where
      more : In s ss × (s.key ≡ k) → ((s ≡ x) ⊎ In s ss) × (s.key ≡ k)
      more q = (inr q.0, q.1)

  has_named : (p : Pair) → is_live m p ≡ true → (i : Instance) × (s : Live) × Named p i s
  has_named p h = go (find p.name m.instances) refl h
    where
      on : (i : Instance) → find p.name m.instances ≡ some i → (o : Option Live) → keyed p.key (live_in i.places) ≡ o → present o ≡ true
          → (i : Instance) × (s : Live) × Named p i s
      on i f none g q = absurd (true≢false (sym q))
      on i f (some s) g q = let r = keyed-is p.key (live_in i.places) s g in (i, s, (f, g, (subst (λ o. In s (lives_of o)) (sym f) r.0, r.1)))

      go : (o : Option Instance) → find p.name m.instances ≡ o → present (named p o) ≡ true → (i : Instance) × (s : Live) × Named p i s
      go none f q = absurd (true≢false (sym q))
      go (some i) f q = on i f (keyed p.key (live_in i.places)) refl q

  -- ---- the last pair
  abbrev LastIs : Pair → List Pair → Pair → Instance → Type 0
  LastIs p ps q i = AtPlace (length ps) (p ∷ ps) q × (find q.name m.instances ≡ some i) × (last_total m (p ∷ ps) ≡ total (counts_of i.meta))

  last-is : (p : Pair) (ps : List Pair) → all_live m (p ∷ ps) ≡ true → (q : Pair) × (i : Instance) × LastIs p ps q i
  unfolding last_total all_live
  last-is p [] h = let x = has_named p (both (is_live m p) true h).0 in (p, x.0, (refl, x.2.0, ap instance_total x.2.0))
  last-is p (q ∷ ps) h = last-is q ps (both (is_live m p) (all_live m (q ∷ ps)) h).1

  -- ---- a pair and its info, in any edition: `whole` is the list, ps what is left of it
  module _ (e : Edition) (whole : List Pair) where
    abbrev FromPair : List Pair → ℕ → Pair → Info → Type 0
    FromPair ps place p y = (i : Instance) × (s : Live) × Named p i s × (y ≡ info_of (ranks_at e m whole (drop (suc place) ps) i s) i s)

    one-info : (ps : List Pair) (p : Pair) (i : Instance) (s : Live) → Named p i s
        → info_at (ranks_at e m whole ps) (find p.name m.instances) (named p (find p.name m.instances)) ≡ info_of (ranks_at e m whole ps i s) i s ∷ []
    one-info ps p i s (f, k, h) = rw (f, k)

    from-pair : (ps : List Pair) → all_live m ps ≡ true → (place : ℕ) (p : Pair) (y : Info)
        → AtPlace place ps p → AtPlace place (infos_of e m whole ps) y → FromPair ps place p y
    unfolding infos_of all_live
    from-pair [] h place p y u v = absurd u
    from-pair (q ∷ ps) h place p y u v = go (has_named q b.0) place u v (λ n. from-pair ps b.1 n p y)
      where
        b : (is_live m q ≡ true) × (all_live m ps ≡ true)
        b = both (is_live m q) (all_live m ps) h

        first : List Info
        first = info_at (ranks_at e m whole ps) (find q.name m.instances) (named q (find q.name m.instances))

        on : (i : Instance) (s : Live) → Named q i s → (n : ℕ) → AtPlace n (q ∷ ps) p → AtPlace n (info_of (ranks_at e m whole ps i s) i s ∷ infos_of e m whole ps) y
            → ((n : ℕ) → AtPlace n ps p → AtPlace n (infos_of e m whole ps) y → FromPair ps n p y) → FromPair (q ∷ ps) n p y
        on i s k zero u v again = (i, s, subst (λ r. Named r i s) (sym u) k, v)
        on i s k (suc n) u v again = again n u v

        go : (i : Instance) × (s : Live) × Named q i s → (n : ℕ) → AtPlace n (q ∷ ps) p → AtPlace n (first ++ infos_of e m whole ps) y
            → ((n : ℕ) → AtPlace n ps p → AtPlace n (infos_of e m whole ps) y → FromPair ps n p y) → FromPair (q ∷ ps) n p y
        go (i, s, k) n u v again = on i s k n u (subst (λ l. AtPlace n (l ++ infos_of e m whole ps) y) (one-info ps q i s k) v) again

-- ---- the fields
rank_is : (a b : ℕ) → rank_from a b ≡ pos a -ℤ pos b
rank_is a zero = rw (le-ltb a 0 (omega arith)) (ap pos (omega arith))
rank_is a (suc b) = refl

read_is : (b : Bool) → (cond b Read NotRead ≡ Read) ↔ (b ≡ true)
read_is true = (λ e. refl, λ e. refl)
read_is false = (λ e. let z : ◌≡◌ {A = ℕ} 0 1 = cc in absurd (omega arith), λ e. absurd (true≢false (sym e)))

new_is : (a b : ℕ) → (cond (ltb a b) New NotNew ≡ New) ↔ (a < b)
new_is a b = split (ltb a b)
    (λ e. rw e (λ h. ltb-true a b e, λ h. refl))
    (λ e. rw e (λ h. let z : ◌≡◌ {A = ℕ} 0 1 = cc in absurd (omega arith), λ h. absurd (omega (arith, ltb-false a b e))))

module _ (m : Model) (once : (n : ℕ) → times_held n m.instances ≤ 1) where
  shows-info : (p : Pair) (ps : List Pair) (place : ℕ) (r : Pair) (i : Instance) (s : Live) → all_live m (p ∷ ps) ≡ true → Named m r i s
      → Shows m (p ∷ ps) place r (info_of (ranks_at by_the_rust m (p ∷ ps) (drop (suc place) (p ∷ ps)) i s) i s)
  unfolding ranks_at
  shows-info p ps place r i s h k =
      let l = last-is m p ps h in
      let t = is-latest m once r.name s k.2.0 in
      let f : length ps ≡ length (p ∷ ps) - 1 = omega arith in
      record {
        live = s;
        instance = i;
        is_live = k.2;
        is_held = k.0;
        body = refl;
        sample-state = read_is s.sample.sample_has_been_read;
        counts = refl;
        writer = refl;
        sequence-number = refl;
        view-state = new_is (accessed_of i.meta) (accessed_at (total_of s.sample));
        instance-state = refl;
        sample-rank = rw (length-drop place ps) (omega arith);
        generation-rank = (l.0, l.1, subst (λ n. AtPlace n (p ∷ ps) l.0) f l.2.0, l.2.1, ranked l.2.2);
        absolute-rank = (t.0, t.1, ranked t.2);
      }
    where
      ranked : {a b : ℕ} → a ≡ b → rank_from a (total_of s.sample) ≡ pos b -ℤ pos (total_of s.sample)
      ranked {a} {b} q = ap (λ (n : ℕ). rank_from n (total_of s.sample)) q ∙ rank_is b (total_of s.sample)

  pub infos-shown : (ps : List Pair) → all_live m ps ≡ true → (place : ℕ) (p : Pair) (y : Info)
      → AtPlace place ps p → AtPlace place (infos_for m ps) y → Shows m ps place p y
  infos-shown [] h place p y u v = absurd u
  infos-shown (q ∷ ps) h place p y u v =
      let x = from-pair m by_the_rust (q ∷ ps) (q ∷ ps) h place p y u v in
      subst (Shows m (q ∷ ps) place p) (sym x.3) (shows-info q ps place p x.0 x.1 h x.2)
