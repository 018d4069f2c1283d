-- Choosing on states that are alike: over all instances, and within one.
use Rattle.std.proofs.Common.{◌≡◌, ℕ, ◌≤◌, Bool, true, false, cond, eqb, ◌⊎◌, List, [], ◌∷◌, sym, refl, ap, ◌∙◌, subst, inl, inr, arith}
use mathlib.Core.Option.{Option, some, none}
use Rattle.readcondition.specs.declared.ReadCondition.{ReadCondition}
use Rattle.model.specs.Pairs.{Pair, Hit, sorted, pairs_in}
use Rattle.model.specs.Model.{Model, Live, Instance, find, live_in, chosen, hits, one, scope, choices}
use Rattle.model.specs.Story.{Entry as Told, Every, untaken}
use Rattle.model.specs.Demand3.{times_held}
use Rattle.model.proofs.Laws.{every-imp, find-name}
use Rattle.model.specs.PairLaws.{split}
use Rattle.rust_model.specs.Maps.{Outcome, gives, try, get}
use Rattle.rust_model.specs.DataSampleCache.{InstanceMetaData, DataSamples, DataSampleCache, sort_by_sequence_number, selected_keys, select_keys_for_access, selected_stamps, selected_within, select_instance_keys_for_access}
use Rattle.rust_model.proofs.MapLaws.{same-eqb}
use Rattle.rust_model.proofs.Alike.{Kept, mine, samples, Matches, Twins, Alike}
use Rattle.rust_model.proofs.Log.{get-samples, live-mine}
use Rattle.rust_model.proofs.Fold.{known, own-found, fold_log, fold-ext, gather, gather-all}
use Rattle.rust_model.proofs.Chosen.{selector-same, put_in, put-swap, choice-sorted, Sees, selected-all, selected-own, Shows, sorted-gather}

-- ---- what is true of each instance that has no entry, or else of its own, is true of each entry's
pub every-name : (P : ℕ → Type 0) (log : List Kept) → ((n : ℕ) → (mine n log ≡ []) ⊎ P n) → Every (λ k. P k.name) log
unfolding mine
every-name P [] h = tt
every-name P (k ∷ log) h = (here (h k.name), every-name P log (λ n. there n (h n)))
  where
    some-here : {e : Told} {es : List Told} → e ∷ es ≡ [] → ⊥
    some-here q = let z : ◌≡◌ {A = ℕ} 0 1 = cc in omega arith

    here : (cond (eqb k.name k.name) (k.told ∷ mine k.name log) (mine k.name log) ≡ []) ⊎ P k.name → P k.name
    here (inl q) = absurd (some-here (rw (same-eqb k.name) at q))
    here (inr q) = q

    there : (n : ℕ) → (cond (eqb k.name n) (k.told ∷ mine n log) (mine n log) ≡ []) ⊎ P n → (mine n log ≡ []) ⊎ P n
    there n (inl q) = split (eqb k.name n) (λ e. absurd (some-here (rw e at q))) (λ e. inl (rw e at q))
    there n (inr q) = inr q

module _ (m : Model) (c : DataSampleCache) (log : List Kept) (h : Alike m c log) where
  -- both have the instance
  pub record Both (n : ℕ) : Type 0 where
    pub here : Instance
    pub there : InstanceMetaData
    pub is-here : find n m.instances ≡ some here
    pub is-there : get n c.instance_map ≡ some there
    pub matches : Matches m.keep (mine n log) here there

  pub both-or-none : (n : ℕ) → (mine n log ≡ []) ⊎ Both n
  both-or-none n = go (find n m.instances) (get n c.instance_map) refl refl (h.twins n)
    where
      go : (o : Option Instance) (d : Option InstanceMetaData) → find n m.instances ≡ o → get n c.instance_map ≡ d → Twins m.keep (mine n log) o d → (mine n log ≡ []) ⊎ Both n
      go none none p q t = inl t.0
      go none (some d) p q t = absurd t
      go (some i) none p q t = absurd t
      go (some i) (some d) p q t = inr (record { here = i; there = d; is-here = p; is-there = q; matches = t })

  pub both_found : (n : ℕ) (i : Instance) → find n m.instances ≡ some i → (d : InstanceMetaData) × (get n c.instance_map ≡ some d) × Matches m.keep (mine n log) i d
  both_found n i f = go (get n c.instance_map) refl (subst (λ o. Twins m.keep (mine n log) o (get n c.instance_map)) f (h.twins n))
    where
      go : (d : Option InstanceMetaData) → get n c.instance_map ≡ d → Twins m.keep (mine n log) (some i) d → (d : InstanceMetaData) × (get n c.instance_map ≡ some d) × Matches m.keep (mine n log) i d
      go none q t = absurd t
      go (some d) q t = (d, q, t)

  pub every-both : Every (λ k. Both k.name) log
  every-both = every-name Both log both-or-none

  pub live-is : (n : ℕ) (i : Instance) → find n m.instances ≡ some i → live_in i.places ≡ untaken (mine n log)
  live-is n i f = live-mine m.keep (mine n log) i (both_found n i f).2.places (both_found n i f).2.few

  module _ (once : (n : ℕ) → times_held n m.instances ≤ 1) (rc : ReadCondition) where
    abbrev chosen_in : Option Instance → Live → Bool
    chosen_in none s = false
    chosen_in (some i) s = chosen rc i s

    abbrev picks : ℕ → Live → Bool
    picks n s = chosen_in (find n m.instances) s

    shows : (i : Instance) → find i.name m.instances ≡ some i → Shows picks rc log i
    shows i f = (live-is i.name i f, λ s. ap (λ (o : Option Instance). chosen_in o s) f)

    sees : Every (Sees picks rc c.instance_map) log
    sees = every-imp (λ k b. (b.there, b.is-there, selector-same rc m.keep (mine k.name log) b.here b.there b.matches k.told.sample ∙ ap (λ (o : Option Instance). chosen_in o k.told.sample) (sym b.is-here))) log every-both

    all_known : Every (λ k. true ≡ known (find k.name m.instances)) log
    all_known = every-imp (λ k b. ap known (sym b.is-here)) log every-both

    pub look-all : select_keys_for_access c rc ≡ gives (choices rc m.instances)
    unfolding select_keys_for_access
    look-all = ap (λ (d : DataSamples). try (selected_keys rc c.instance_map d) (sort_by_sequence_number d)) h.holds
        ∙ ap (λ (x : Outcome (List Pair)). try x (sort_by_sequence_number (samples log))) (selected-all picks rc c.instance_map log sees)
        ∙ choice-sorted picks (λ n. true) log h.rises
        ∙ ap (λ (l : List Hit). gives (pairs_in l)) (fold-ext (put_in picks) (λ n. true) (λ n. known (find n m.instances)) [] log all_known
        ∙ sym (sorted-gather picks rc log m.instances (every-imp shows m.instances (own-found m.instances once)) ∙ gather-all (put_in picks) (put-swap picks) [] log h.rises m.instances once))

    within-one : (n : ℕ) (i : Instance) (d : InstanceMetaData) → find n m.instances ≡ some i → Matches m.keep (mine n log) i d
        → sort_by_sequence_number c.datasamples (selected_stamps rc c.datasamples n d d.instance_samples) ≡ gives (choices rc (i ∷ []))
    unfolding gather
    within-one n i d f t = ap (λ (x : DataSamples). sort_by_sequence_number x (selected_stamps rc x n d d.instance_samples)) h.holds
        ∙ ap (λ (l : List ℕ). sort_by_sequence_number (samples log) (selected_stamps rc (samples log) n d l)) t.stamps
        ∙ ap (sort_by_sequence_number (samples log)) (selected-own picks rc (samples log) n d (λ s. selector-same rc m.keep (mine n log) i d t s ∙ ap (λ (o : Option Instance). chosen_in o s) (sym f)) log (get-samples log h.rises))
        ∙ choice-sorted picks (λ o. eqb o n) log h.rises
        ∙ ap (λ (o : ℕ). gives (pairs_in (fold_log (put_in picks) (λ x. eqb x o) [] log))) (sym name)
        ∙ ap (λ (l : List Hit). gives (pairs_in l)) (sym (sorted-gather picks rc log (i ∷ []) (shows i (ap (λ (o : ℕ). find o m.instances) name ∙ f), tt)))
      where
        name : i.name ≡ n
        name = find-name n m.instances i f

    pub look-within : (n : ℕ) → select_instance_keys_for_access c n rc ≡ gives (choices rc (scope (some n) m.instances))
    unfolding hits sorted
    look-within n = go (find n m.instances) (get n c.instance_map) refl (h.twins n)
      where
        go : (o : Option Instance) (d : Option InstanceMetaData) → find n m.instances ≡ o → Twins m.keep (mine n log) o d → selected_within c n rc d ≡ gives (choices rc (one o))
        go none none f t = refl
        go none (some d) f t = absurd t
        go (some i) none f t = absurd t
        go (some i) (some d) f t = within-one n i d f t
