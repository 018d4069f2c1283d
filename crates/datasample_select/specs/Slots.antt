-- The choices of a good cache are those found by going through its slots, put in order one after the other.
use Rattle.std.proofs.Math.Path.{◌≡◌, refl, ap}
use Rattle.std.proofs.Common.{sym, ◌∙◌, zero-add, add-zero, eqb-true}
use Rattle.std.specs.Prelude.{Bool, ◌&&◌, length, get_or}
use Rattle.std.proofs.Math.Bool.{true, false, cond}
use mathlib.Core.List.{List, [], ◌∷◌, ◌++◌, map}
use Rattle.std.proofs.Math.Option.{Option, some, none}
use Prim.Native.Nat.{ℕ, zero, suc, ◌+◌, ◌≤◌, ◌<◌}
use native.Mathlib.Omega.{arith}
use Rattle.std.proofs.lemmas.Bool.{eqb-false}
use Rattle.std.proofs.Math.ListN.{get_or-map}
use Rattle.std.proofs.Math.Dec.{eqb}
use Rattle.lists.specs.Every.{Every, every_append}
use Rattle.lists.specs.Count.{bit}
use Rattle.lists.specs.Sort.{Distinct}
use Rattle.readcondition.specs.declared.ReadCondition.{ReadCondition}
use Rattle.model.specs.Pairs.{Hit, sorted}
use Rattle.model.specs.Model.{Model, Instance, Live, find, live_in, count, chosen, hit_of, hits_in, hits, one, scope}
use Rattle.model.specs.Demand3.{times_held, has_key}
use Rattle.model.specs.PairLaws.{split}
use Rattle.pairs.specs.OrderLaws.{OtherKey}
use Rattle.store.specs.Store.{no_inst, inst_at}
use Rattle.store.specs.Choosing.{in_scope, chosen_in, hit_in, hit_at, hits_from}
use Rattle.refine.specs.Layout.{inst_of, Entry, entry, entries_from, entries_of, look_up, free_of, key_of, owner_of, sample_of, store_of, table_of}
use Rattle.refine.specs.Good.{Good}
use Rattle.refine.specs.Tables.{lives_in}
use Rattle.refine.specs.Entries.{lives-of, insts}
use Rattle.refine.proofs.FitOf.{nobody}
use Rattle.refine.proofs.Found.{every-under, every-look, entry-slots}
use Rattle.refine.proofs.Unique.{none-counted}
use Rattle.refine.proofs.Named.{free-at, key-at, owner_at, record-at, key-once}
use Rattle.refine.proofs.Choosing.{pick, in_turn, by_slot, turn-append, slot-order}
use Rattle.select.specs.Ordered.{insert_all}
use Rattle.select.specs.OrderedLaws.{all-sorted}

-- ---- entries in different slots have different keys

abbrev Keyed : ℕ → Entry → Type 0
Keyed k e = e.live.key ≡ k → ⊥

module _ (k j : ℕ) (apart : k ≡ j → ⊥) where
  unkeyed : (e : Entry) (es : List Entry) → count (has_key e.live.key) (lives_in (e ∷ es)) ≤ 1 → Every (Keyed e.live.key) es
  unfolding count
  unkeyed e es d =
      every-under (λ (s : Live). s.key ≡ e.live.key → ⊥) (λ (x : Entry). x.live) es
      (none-counted e.live.key (lives_in es) (go (eqb e.live.key e.live.key) refl d))
    where
      go : (b : Bool) → eqb e.live.key e.live.key ≡ b → bit b + count (has_key e.live.key) (lives_in es) ≤ 1 → count (has_key e.live.key) (lives_in es) ≡ 0
      go true q h = omega arith
      go false q h = absurd (eqb-false e.live.key e.live.key q refl)

  -- two slots, two keys
  slots-keys : (es : List Entry) (x y : Entry) → ((n : ℕ) → count (has_key n) (lives_in es) ≤ 1) → look_up k es ≡ some x → look_up j es ≡ some y → x.live.key ≡ y.live.key → ⊥
  unfolding look_up count
  slots-keys [] x y d p q s = let z : ◌≡◌ {A = ℕ} 0 1 = cc in omega arith
  slots-keys (e ∷ es) x y d p q s =
      go (eqb e.live.slot k) refl (eqb e.live.slot j) refl p q
      (λ p q. slots-keys es x y (λ n. omega (arith, d n)) p q s)
    where
      rest : Every (Keyed e.live.key) es
      rest = unkeyed e es (d e.live.key)

      go : (a : Bool) → eqb e.live.slot k ≡ a → (b : Bool) → eqb e.live.slot j ≡ b → cond a (some e) (look_up k es) ≡ some x → cond b (some e) (look_up j es) ≡ some y
          → (look_up k es ≡ some x → look_up j es ≡ some y → ⊥) → ⊥
      go true a true b p q f = apart (sym (eqb-true e.live.slot k a) ∙ eqb-true e.live.slot j b)
      go true a false b p q f =
          let same : e ≡ x = cc in
          every-look (Keyed e.live.key) j es y rest q (sym s ∙ ap (λ (z : Entry). z.live.key) (sym same))
      go false a true b p q f =
          let same : e ≡ y = cc in
          every-look (Keyed e.live.key) k es x rest p (s ∙ ap (λ (z : Entry). z.live.key) (sym same))
      go false a false b p q f = f p q

-- ---- the hits of a good cache, slot by slot, have different keys

module _ (test : Entry → Bool) (hit : Entry → Hit) (by_key : (e : Entry) → (hit e).pair.key ≡ e.live.key) (es : List Entry) (keys : (n : ℕ) → count (has_key n) (lives_in es) ≤ 1) where
  later-keys : (k : ℕ) (e : Entry) → look_up k es ≡ some e → (n j : ℕ) → k < j → Every (OtherKey (hit e)) (by_slot test hit n j es)
  unfolding by_slot Every
  later-keys k e p zero j h = tt
  later-keys k e p (suc n) j h = every_append (OtherKey (hit e)) (pick test hit (look_up j es)) (by_slot test hit n (suc j) es) (go (look_up j es) refl) (later-keys k e p n (suc j) (omega arith))
    where
      go : (o : Option Entry) → look_up j es ≡ o → Every (OtherKey (hit e)) (pick test hit o)
      go none q = tt
      go (some x) q = split (test x)
          (λ r. rw r (λ s. slots-keys k j (λ z. omega arith) es e x keys p q (sym (by_key e) ∙ s ∙ by_key x), tt))
          (λ r. rw r tt)

  pub slots-distinct : (n k : ℕ) → Distinct OtherKey (by_slot test hit n k es)
  unfolding by_slot Distinct Every
  slots-distinct zero k = tt
  slots-distinct (suc n) k = go (look_up k es) refl (slots-distinct n (suc k))
    where
      go : (o : Option Entry) → look_up k es ≡ o → Distinct OtherKey (by_slot test hit n (suc k) es) → Distinct OtherKey (pick test hit o ++ by_slot test hit n (suc k) es)
      go none q r = r
      go (some e) q r = split (test e)
          (λ z. rw z (later-keys k e q n (suc k) (omega arith), r))
          (λ z. rw z r)

-- ---- the model's hits, entry by entry

abbrev test_of : ReadCondition → Option ℕ → (ℕ → Instance) → Entry → Bool
test_of c w F e = in_scope w (F e.at).name && chosen c (F e.at) e.live

abbrev hits_of : (ℕ → Instance) → Entry → Hit
hits_of F e = hit_of (F e.at) e.live

module _ (c : ReadCondition) (w : Option ℕ) (F : ℕ → Instance) where
  -- an instance in scope shows its hits, and another none
  one-turn : (b : Bool) (n : ℕ) (i : Instance) (ss : List Live) → F n ≡ i → in_scope w i.name ≡ b → in_turn (test_of c w F) (hits_of F) (map (entry n) ss) ≡ cond b (hits_in c i ss) []
  unfolding in_turn hits_in
  one-turn true n i [] f q = refl
  one-turn false n i [] f q = refl
  one-turn true n i (s ∷ ss) f q = rw (f, q, one-turn true n i ss f q) (split (chosen c i s) (λ z. rw z) (λ z. rw z))
  one-turn false n i (s ∷ ss) f q = rw (f, q, one-turn false n i ss f q)

  unfoldable scoped : List Instance → List Hit
  scoped [] = []
  scoped (i ∷ is) = cond (in_scope w i.name) (hits_in c i (live_in i.places)) [] ++ scoped is

  all-turns : (n : ℕ) (is : List Instance) → ((r : ℕ) → r < length is → F (n + r) ≡ get_or is r nobody) → in_turn (test_of c w F) (hits_of F) (entries_from n is) ≡ scoped is
  unfolding entries_from scoped in_turn
  all-turns n [] h = refl
  all-turns n (i ∷ is) h =
      turn-append (test_of c w F) (hits_of F) (map (entry n) (live_in i.places)) (entries_from (suc n) is)
      ∙ rw (
        one-turn (in_scope w i.name) n i (live_in i.places) (ap F (sym (add-zero n)) ∙ h 0 (omega arith)) refl,
        all-turns (suc n) is (λ r l. ap F (omega arith) ∙ h (suc r) (omega arith)),
      )

module _ (c : ReadCondition) (F : ℕ → Instance) where
  scoped-all : (is : List Instance) → scoped c none F is ≡ hits c is
  unfolding scoped hits
  scoped-all [] = refl
  scoped-all (i ∷ is) = rw (scoped-all is)

  module _ (n : ℕ) where
    scoped-none : (is : List Instance) → times_held n is ≡ 0 → scoped c (some n) F is ≡ []
    unfolding scoped times_held
    scoped-none [] h = refl
    scoped-none (i ∷ is) h = split (eqb i.name n)
        (λ q. absurd (omega (arith, rw q at h)))
        (λ q. rw q (scoped-none is (omega (arith, rw q at h))))

    -- the name is held once at most
    scoped-one : (is : List Instance) → times_held n is ≤ 1 → scoped c (some n) F is ≡ hits c (one (find n is))
    unfolding scoped times_held find hits
    scoped-one [] h = refl
    scoped-one (i ∷ is) h = split (eqb i.name n)
        (λ q. rw (q, scoped-none is (omega (arith, rw q at h))))
        (λ q. rw q (scoped-one is (omega (arith, rw q at h))))

-- ---- the whole

module _ (m : Model) (g : Good m) (c : ReadCondition) (w : Option ℕ) where
  abbrev F : ℕ → Instance
  F r = get_or m.instances r nobody

  abbrev es : List Entry
  es = entries_of m

  turns-scope : in_turn (test_of c w F) (hits_of F) es ≡ hits c (scope w m.instances)
  turns-scope = all-turns c w F 0 m.instances (λ r l. ap F (zero-add r)) ∙ go w
    where
      go : (v : Option ℕ) → scoped c v F m.instances ≡ hits c (scope v m.instances)
      go none = scoped-all c F m.instances
      go (some n) = scoped-one c F n m.instances (g.names n)

  no-inst : (k : Option ℕ) → no_inst ≡ inst_of k nobody
  no-inst none = refl
  no-inst (some d) = refl

  inst-at : (r : ℕ) → inst_at (store_of m) r ≡ inst_of m.keep (F r)
  unfolding store_of
  inst-at r = ap (get_or (insts m.keep m.instances) r) (no-inst m.keep) ∙ get_or-map (inst_of m.keep) m.instances r nobody

  slot-hit : (k : ℕ) → k < 256 → hit_at (store_of m) (table_of m) c w k ≡ pick (test_of c w F) (hits_of F) (look_up k es)
  unfolding hit_at
  slot-hit k h = rw (free-at m g k h, owner_at m g k h, key-at m g k h, record-at m g k h) (go (look_up k es))
    where
      go : (o : Option Entry)
          → cond (eqb (free_of o) 1) [] (cond (in_scope w (inst_at (store_of m) (owner_of o)).name && chosen_in c (inst_at (store_of m) (owner_of o)) (sample_of o)) (hit_in (key_of o) (inst_at (store_of m) (owner_of o)) (sample_of o) ∷ []) [])
          ≡ pick (test_of c w F) (hits_of F) o
      go none = refl
      go (some e) = rw (inst-at e.at)

  slots-are : (n k : ℕ) → k + n ≤ 256 → hits_from n k (store_of m) (table_of m) c w ≡ by_slot (test_of c w F) (hits_of F) n k es
  unfolding hits_from by_slot
  slots-are zero k h = refl
  slots-are (suc n) k h =
      let e : k + 1 ≡ suc k = omega arith in
      rw (slot-hit k (omega arith), e) (ap (λ (r : List Hit). pick (test_of c w F) (hits_of F) (look_up k es) ++ r) (slots-are n (suc k) (omega arith)))

  entry-keys : (k : ℕ) → count (has_key k) (lives_in es) ≤ 1
  entry-keys k = omega (arith, ap (count (has_key k)) (lives-of 0 m.instances), key-once m g k)

  -- put in order one after the other, slot by slot, they are the model's choices
  pub slots-sorted : insert_all (hits_from 256 0 (store_of m) (table_of m) c w) [] ≡ sorted (hits c (scope w m.instances))
  slots-sorted =
      ap (λ (l : List Hit). insert_all l []) (slots-are 256 0 (omega arith))
      ∙ all-sorted (by_slot (test_of c w F) (hits_of F) 256 0 es) (slots-distinct (test_of c w F) (hits_of F) (λ e. refl) es entry-keys 256 0)
      ∙ slot-order (test_of c w F) (hits_of F) (λ e. refl) es (entry-slots m g) entry-keys
      ∙ ap sorted turns-scope
