-- A list is refused exactly for a pair not live, a pair twice, or too short a buffer; else exactly the samples that it names are marked or leave.
use mathlib.Core.Path.{◌≡◌, refl, sym, ◌∙◌, ap, subst}
use mathlib.Core.Logic.{◌↔◌, ◌⊎◌, inl, inr}
use mathlib.Core.Bool.{Bool, true, false, and-eq-true_iff, true≢false}
use mathlib.Core.List.{List, [], ◌∷◌, map}
use mathlib.Core.Option.{Option, some, none}
use Prim.Native.Nat.{ℕ, ◌≤◌, ◌<◌}
use native.Mathlib.Omega.{arith}
use lib.ListN.{length, length-append}
use lib.Dec.{eqb, leb}
use borrow.Author.Tests.{eqb-true, eq-eqb, leb-true, leb-false}
use Rattle.sampleinfo.specs.Counts.{accessed_at}
use Rattle.sampleinfo.specs.Lifecycle.{state_of, counts_of, accessed_of}
use Rattle.sampleinfo.specs.Samples.{total_of}
use Rattle.sampleinfo.specs.declared.Info.{Info}
use Rattle.sampleinfo.specs.declared.Ranks.{Ranks}
use Rattle.model.specs.Pairs.{Pair}
use Rattle.model.specs.Views.{greater, viewed}
use Rattle.model.specs.PairLaws.{split}
use Rattle.model.proofs.PairLaws.{among_in, repeats-distinct}
use Rattle.model.specs.Model.{Model, Instance, Live, Place, gone, held, Step, refused, infos, read_or_take, refuse, find, live_in, keyed, named, present, as_read, is_live, fine, info_at, infos_of, infos_for, touch, listed_in, shown, accessed, listed, access, accessing, step, Edition, ranks_at}
use Rattle.model.specs.BadLaws.{all_live}
use Rattle.model.proofs.BadLaws.{fine-is-both, fine-live, fine-once}
use Rattle.model.specs.Story.{Every, map_o, lives_of, live_at}
use Rattle.model.specs.Demand3.{In, LivePair, Sound, names, takes, remains, Greatest, Viewed, AtPlace, Lists, times_held}
use Rattle.model.proofs.Laws.{find-map, find-name}
use Rattle.model.proofs.Refusals.{number, ill, both}
use Rattle.model.proofs.Infos.{infos-shown}

-- ---- a pair is live: its instance has a live sample under its key
keyed-in : (k : ℕ) (ss : List Live) → present (keyed k ss) ≡ true → (s : Live) × (In s ss × (s.key ≡ k))
unfolding keyed
keyed-in k [] h = absurd (true≢false (sym h))
keyed-in k (x ∷ ss) h = split (eqb x.key k)
    (λ e. (x, (inl refl, eqb-true x.key k e)))
    (λ e. more (keyed-in k ss (rw e at h)))
  where
    more : (s : Live) × (In s ss × (s.key ≡ k)) → (s : Live) × (((s ≡ x) ⊎ In s ss) × (s.key ≡ k))
    more q = (q.0, (inr q.1.0, q.1.1))

in-keyed : (k : ℕ) (ss : List Live) (s : Live) → In s ss → s.key ≡ k → present (keyed k ss) ≡ true
unfolding keyed
in-keyed k [] s h e = absurd h
in-keyed k (x ∷ ss) s (inl q) e = rw (eq-eqb x.key k (ap (λ (y : Live). y.key) (sym q) ∙ e))
in-keyed k (x ∷ ss) s (inr q) e = split (eqb x.key k) (λ f. rw f) (λ f. rw f (in-keyed k ss s q e))

module _ (m : Model) where
  live-pair : (p : Pair) → (is_live m p ≡ true) ↔ LivePair m p
  live-pair p = go (find p.name m.instances)
    where
      go : (o : Option Instance) → (present (named p o) ≡ true) ↔ ((s : Live) × (In s (lives_of o) × (s.key ≡ p.key)))
      go none = (λ h. absurd (true≢false (sym h)), λ h. absurd h.1.0)
      go (some i) = (λ h. keyed-in p.key (live_in i.places) h, λ h. in-keyed p.key (live_in i.places) h.0 h.1.0 h.1.1)

  all_live_lem : (ps : List Pair) → (all_live m ps ≡ true) ↔ Every (LivePair m) ps
  unfolding all_live
  all_live_lem [] = (λ h. tt, λ h. refl)
  all_live_lem (p ∷ ps) = (
    λ h. there ((and-eq-true_iff (is_live m p) (all_live m ps)).0 h) (all_live_lem ps).0,
    λ h. (and-eq-true_iff (is_live m p) (all_live m ps)).1 ((live-pair p).1 h.0, (all_live_lem ps).1 h.1),
  )
    where
      there : {b : Bool} → (is_live m p ≡ true) × (b ≡ true) → (b ≡ true → Every (LivePair m) ps) → LivePair m p × Every (LivePair m) ps
      there h again = ((live-pair p).0 h.0, again h.1)

  fine-sound : (ps : List Pair) → (fine m ps ≡ true) ↔ Sound m ps
  fine-sound ps = (there, back)
    where
      there : fine m ps ≡ true → Sound m ps
      there h = ((all_live_lem ps).0 (fine-live m ps h), (repeats-distinct ps).0 (fine-once m ps h))

      back : Sound m ps → fine m ps ≡ true
      back h = fine-is-both m ps ∙ rw ((all_live_lem ps).1 h.0, (repeats-distinct ps).1 h.1)

  -- ---- as many infos as pairs
  info-one : (ranks : Instance → Live → Ranks) (p : Pair) → is_live m p ≡ true → length (info_at ranks (find p.name m.instances) (named p (find p.name m.instances))) ≡ 1
  info-one ranks p h = go (find p.name m.instances) h
    where
      on : (i : Instance) (s : Option Live) → present s ≡ true → length (info_at ranks (some i) s) ≡ 1
      on i none q = absurd (true≢false (sym q))
      on i (some s) q = refl

      go : (o : Option Instance) → present (named p o) ≡ true → length (info_at ranks o (named p o)) ≡ 1
      go none q = absurd (true≢false (sym q))
      go (some i) q = on i (named p (some i)) q

  infos-length : (e : Edition) (whole ps : List Pair) → all_live m ps ≡ true → length (infos_of e m whole ps) ≡ length ps
  unfolding infos_of all_live
  infos-length e whole [] h = refl
  infos-length e whole (p ∷ ps) h = let b : (is_live m p ≡ true) × (all_live m ps ≡ true) = both (is_live m p) (all_live m ps) h in
      simp length-append (omega (arith, info-one (ranks_at e m whole ps) p b.0, infos-length e whole ps b.1))

-- ---- what stays of the live samples
touch-live : (t : Bool) (n : ℕ) (ps : List Pair) (qs : List Place) → live_in (map (touch t n ps) qs) ≡ remains t ps n (live_in qs)
unfolding live_in takes
touch-live true n ps [] = refl
touch-live true n ps (gone ∷ qs) = touch-live true n ps qs
touch-live true n ps (held s ∷ qs) = split (listed_in n ps s)
    (λ e. rw e (touch-live true n ps qs))
    (λ e. rw e (ap (s ∷◌) (touch-live true n ps qs)))
touch-live false n ps [] = refl
touch-live false n ps (gone ∷ qs) = touch-live false n ps qs
touch-live false n ps (held s ∷ qs) = split (listed_in n ps s)
    (λ e. rw e (ap (as_read s ∷◌) (touch-live false n ps qs)))
    (λ e. rw e (ap (s ∷◌) (touch-live false n ps qs)))

remains-none : (t : Bool) (ps : List Pair) (n : ℕ) → [] ≡ remains t ps n []
unfolding takes
remains-none true ps n = refl
remains-none false ps n = refl

-- ---- an instance that the list does not name
not_listed : (n : ℕ) (ps : List Pair) → ((p : Pair) → In p ps → eqb p.name n ≡ false) → (s : Live) → listed_in n ps s ≡ false
not_listed n ps h s = split (listed_in n ps s)
    (λ e. absurd (ill (eqb n n) (h (record { key = s.key; name = n }) ((among_in (record { key = s.key; name = n }) ps).0 e)) (eq-eqb n n refl)))
    (λ e. e)

module _ (n : ℕ) (ps : List Pair) (free : (s : Live) → listed_in n ps s ≡ false) where
  touch-free : (t : Bool) (qs : List Place) → map (touch t n ps) qs ≡ qs
  touch-free t [] = refl
  touch-free t (gone ∷ qs) = ap (gone ∷◌) (touch-free t qs)
  touch-free t (held s ∷ qs) = rw (free s, touch-free t qs)

  shown-free : (ss : List Live) → shown n ps ss ≡ none
  unfolding shown
  shown-free [] = refl
  shown-free (s ∷ ss) = rw (free s) (shown-free ss)

  listed_free : (t : Bool) (i : Instance) → i.name ≡ n → listed t ps i ≡ i
  listed_free t i e = ap (λ (k : ℕ). at k) e ∙ rw (touch-free t i.places, shown-free (live_in i.places))
    where
      at : ℕ → Instance
      at k = record { name = i.name; meta = accessed k ps (live_in i.places) i.meta; places = map (touch t k ps) i.places }

-- ---- the greatest total that the list shows
module _ (n : ℕ) (ps : List Pair) where
  abbrev ShownIs : List Live → Option ℕ → Type 0
  ShownIs ss none = (s : Live) → In s ss → names ps n s ≡ false
  ShownIs ss (some t) = (s : Live) × Greatest ps n ss s × (t ≡ total_of s.sample)

  shown-past : (s : Live) (ss : List Live) (o : Option ℕ) → names ps n s ≡ false → ShownIs ss o → ShownIs (s ∷ ss) o
  shown-past s ss none e h = λ x q. go x q
    where
      go : (x : Live) → (x ≡ s) ⊎ In x ss → names ps n x ≡ false
      go x (inl p) = ap (names ps n) p ∙ e
      go x (inr p) = h x p
  shown-past s ss (some t) e (y, g, f) = (y, (inr g.0, g.1, λ x q v. go x q v), f)
    where
      go : (x : Live) → (x ≡ s) ⊎ In x ss → names ps n x ≡ true → total_of x.sample ≤ total_of y.sample
      go x (inl p) v = absurd (ill (names ps n s) e (ap (names ps n) (sym p) ∙ v))
      go x (inr p) v = g.2 x p v

  shown-here : (s : Live) (ss : List Live) (o : Option ℕ) → names ps n s ≡ true → ShownIs ss o → ShownIs (s ∷ ss) (greater o (total_of s.sample))
  shown-here s ss none e h = (s, (inl refl, e, λ x q v. go x q v), refl)
    where
      go : (x : Live) → (x ≡ s) ⊎ In x ss → names ps n x ≡ true → total_of x.sample ≤ total_of s.sample
      go x (inl p) v = rw p (omega arith)
      go x (inr p) v = absurd (ill (names ps n x) (h x p) v)
  shown-here s ss (some t) e (y, g, f) = split (leb (total_of y.sample) (total_of s.sample))
      (λ l. (s, (inl refl, e, λ x q v. most s (omega arith) (leb-true (total_of y.sample) (total_of s.sample) l) x q v), omega (arith, leb-true (total_of y.sample) (total_of s.sample) l)))
      (λ l. (y, (inr g.0, g.1, λ x q v. most y (below l) (omega arith) x q v), omega (arith, leb-false (total_of y.sample) (total_of s.sample) l)))
    where
      below : leb (total_of y.sample) (total_of s.sample) ≡ false → total_of s.sample ≤ total_of y.sample
      below l = omega (arith, leb-false (total_of y.sample) (total_of s.sample) l)

      most : (z : Live) → total_of s.sample ≤ total_of z.sample → total_of y.sample ≤ total_of z.sample → (x : Live) → (x ≡ s) ⊎ In x ss → names ps n x ≡ true → total_of x.sample ≤ total_of z.sample
      most z a b x (inl p) v = rw p a
      most z a b x (inr p) v = omega (arith, g.2 x p v)

  shown-is : (ss : List Live) → ShownIs ss (shown n ps ss)
  unfolding shown
  shown-is [] = λ s q. absurd q
  shown-is (s ∷ ss) = split (names ps n s)
      (λ e. rw e (shown-here s ss (shown n ps ss) e (shown-is ss)))
      (λ e. rw e (shown-past s ss (shown n ps ss) e (shown-is ss)))

  viewed-is : (ss : List Live) (old : ℕ) (o : Option ℕ) → ShownIs ss o → Viewed ps n ss old (viewed old o)
  viewed-is ss old none h = inl (h, refl)
  viewed-is ss old (some t) (s, g, f) = inr (s, g, ap accessed_at f)

-- ---- each answer
module _ (m : Model) (once : (n : ℕ) → times_held n m.instances ≤ 1) (t : Bool) (ps : List Pair) (room : ℕ) where
  abbrev Says : Step → Type 0
  Says x = Lists m t ps room x

  refused-infos {ℓ} : {C : Type ℓ} {r : ℕ} {is : List Info} → refused r ≡ infos is → C
  refused-infos e = let z : ◌≡◌ {A = ℕ} 0 1 = cc in absurd (omega arith)

  over : {a b : ℕ} → a ≤ b → b < a → ⊥
  over p q = omega arith

  same_some : {o : Option Instance} {i j : Instance} → o ≡ some i → o ≡ some j → j ≡ i
  same_some p q = cc

  turned-8 : fine m ps ≡ false → Says (refuse m 8)
  turned-8 e = record {
    by_8 = (λ h s. ill (fine m ps) e ((fine-sound m ps).1 s), λ h. refl);
    by-9 = (λ h. absurd (omega (arith, number h)), λ h. absurd (ill (fine m ps) e ((fine-sound m ps).1 h.0)));
    by-no-other = λ r h. inl (sym (number h));
    answers = λ s l. absurd (ill (fine m ps) e ((fine-sound m ps).1 s));
    as_many = λ is h. refused-infos h;
    shows = λ is h. refused-infos h;
    exactly-those = λ s l n. absurd (ill (fine m ps) e ((fine-sound m ps).1 s));
    last-accessed = λ s l n i j f g. absurd (ill (fine m ps) e ((fine-sound m ps).1 s));
    lives-on = λ n i j f g. rw (same_some f g) (refl, refl);
    others-stay = λ n h. refl;
    last-stays = refl;
  }

  turned-9 : fine m ps ≡ true → leb (length ps) room ≡ false → Says (refuse m 9)
  turned-9 e l = record {
    by_8 = (λ h. absurd (omega (arith, number h)), λ h. absurd (h ((fine-sound m ps).0 e)));
    by-9 = (λ h. ((fine-sound m ps).0 e, leb-false (length ps) room l), λ h. refl);
    by-no-other = λ r h. inr (sym (number h));
    answers = λ s q. absurd (over q (leb-false (length ps) room l));
    as_many = λ is h. refused-infos h;
    shows = λ is h. refused-infos h;
    exactly-those = λ s q n. absurd (over q (leb-false (length ps) room l));
    last-accessed = λ s q n i j f g. absurd (over q (leb-false (length ps) room l));
    lives-on = λ n i j f g. rw (same_some f g) (refl, refl);
    others-stay = λ n h. refl;
    last-stays = refl;
  }

  find-listed : (n : ℕ) → find n (access t m ps).then.instances ≡ map_o (listed t ps) (find n m.instances)
  unfolding access
  find-listed n = find-map (listed t ps) (λ i. refl) n m.instances

  stays : (n : ℕ) → live_at n (access t m ps).then ≡ remains t ps n (live_at n m)
  stays n = rw (find-listed n) (go (find n m.instances) refl)
    where
      go : (o : Option Instance) → find n m.instances ≡ o → lives_of (map_o (listed t ps) o) ≡ remains t ps n (lives_of o)
      go none f = remains-none t ps n
      go (some i) f = ap (λ (k : ℕ). live_in (map (touch t k ps) i.places)) (find-name n m.instances i f) ∙ touch-live t n ps i.places

  life-stays : (n : ℕ) (i j : Instance) → find n m.instances ≡ some i → find n (access t m ps).then.instances ≡ some j → (state_of j.meta ≡ state_of i.meta) × (counts_of j.meta ≡ counts_of i.meta)
  life-stays n i j f g = subst (λ k. (state_of k.meta ≡ state_of i.meta) × (counts_of k.meta ≡ counts_of i.meta)) (sym (same_some (find-listed n ∙ ap (map_o (listed t ps)) f) g)) (refl, refl)

  views : (n : ℕ) (i j : Instance) → find n m.instances ≡ some i → find n (access t m ps).then.instances ≡ some j → Viewed ps n (live_in i.places) (accessed_of i.meta) (accessed_of j.meta)
  views n i j f g = subst (λ k. Viewed ps n (live_in i.places) (accessed_of i.meta) (accessed_of k.meta)) (sym (same_some (find-listed n ∙ ap (map_o (listed t ps)) f) g))
      (subst (λ k. Viewed ps n (live_in i.places) (accessed_of i.meta) (viewed (accessed_of i.meta) (shown k ps (live_in i.places)))) (sym (find-name n m.instances i f))
      (viewed-is n ps (live_in i.places) (accessed_of i.meta) (shown n ps (live_in i.places)) (shown-is n ps (live_in i.places))))

  rest-stays : (n : ℕ) → ((p : Pair) → In p ps → eqb p.name n ≡ false) → find n (access t m ps).then.instances ≡ find n m.instances
  rest-stays n h = find-listed n ∙ go (find n m.instances) refl
    where
      go : (o : Option Instance) → find n m.instances ≡ o → map_o (listed t ps) o ≡ o
      go none f = refl
      go (some i) f = ap some (listed_free n ps (not_listed n ps h) t i (find-name n m.instances i f))

  went-through : fine m ps ≡ true → leb (length ps) room ≡ true → Says (access t m ps)
  unfolding access
  went-through e l = record {
    by_8 = (λ h. refused-infos (sym h), λ h. absurd (h ((fine-sound m ps).0 e)));
    by-9 = (λ h. refused-infos (sym h), λ h. absurd (over (leb-true (length ps) room l) h.1));
    by-no-other = λ r h. refused-infos (sym h);
    answers = λ s q. (infos_for m ps, refl);
    as_many = λ is h. let q : infos_for m ps ≡ is = cc in ap length (sym q) ∙ infos-length m _ _ ps (fine-live m ps e);
    shows = λ is h place p y u v.
        let q : infos_for m ps ≡ is = cc in
        infos-shown m once ps (fine-live m ps e) place p y u (subst (λ l. AtPlace place l y) (sym q) v);
    exactly-those = λ s q n. stays n;
    last-accessed = λ s q n i j f g. views n i j f g;
    lives-on = life-stays;
    others-stay = rest-stays;
    last-stays = refl;
  }

  pub lists-step : Lists m t ps room (step m (read_or_take t ps room))
  unfolding step accessing
  lists-step = split (fine m ps)
      (λ e. split (leb (length ps) room) (λ l. rw (e, l) (went-through e l)) (λ l. rw (e, l) (turned-9 e l)))
      (λ e. rw e (turned-8 e))
