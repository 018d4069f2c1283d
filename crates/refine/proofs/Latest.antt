-- The latest-keyed live sample stands in the slot that the store calls the latest.
use Rattle.std.specs.Prelude.{Some, None, ◌≡◌, Bool, true, false, length, get_or, eqb, ltb}
use Rattle.std.proofs.Math.Path.{refl, sym, ap}
use Rattle.std.proofs.Common.{◌∙◌, subst, arith, eq-eqb, eqb-true, lt-ltb, ltb-true, ltb-false, leb-true}
use mathlib.Core.List.{List, [], ◌∷◌, ◌++◌, append_assoc}
use Rattle.std.proofs.Math.Option.{Option, some, none}
use Prim.Native.Nat.{ℕ, zero, suc, ◌+◌, ◌≤◌, ◌<◌}
use Rattle.std.proofs.lemmas.Bool.{eqb-false}
use Rattle.std.proofs.Math.ListN.{get_or-eq_default}
use Rattle.lists.specs.Every.{Every, every_map}
use Rattle.lists.specs.Count.{bit}
use Rattle.slots.specs.Bits.{free_at}
use Rattle.sampleinfo.specs.Samples.{empty_sample, total_of}
use Rattle.keys.specs.Keys.{Last}
use Rattle.model.specs.Model.{Model, Live, lives, count, keyed, later, latest, latest_total}
use Rattle.model.proofs.Counting.{count-append}
use Rattle.model.proofs.Slots.{reached}
use Rattle.model.specs.Demand3.{has_key}
use Rattle.model.specs.PairLaws.{split}
use Rattle.store.specs.Store.{Store, later_slot, greatest_from, latest_slot}
use Rattle.refine.specs.Layout.{Entry, entries_of, look_up, slot_or_none, free_of, key_of, sample_of, newest_of, store_of, table_of}
use Rattle.refine.specs.Good.{Good}
use Rattle.refine.proofs.GoodLaws.{all-reached}
use Rattle.refine.specs.Tables.{length-slots}
use Rattle.refine.specs.Entries.{lives-of}
use Rattle.refine.proofs.Add.{keyed-here}
use Rattle.refine.proofs.Found.{every-over, every-under, every-keyed, every-look, look-slot, keyed-key, Placed, every-placed}
use Rattle.refine.proofs.Named.{free-at, key-at, record-at, key-once}

-- ---- the latest of a list

pub every-latest : (P : Live → Type 0) (ss : List Live) (t : Live) → Every P ss → latest ss ≡ some t → P t
unfolding latest Every
every-latest P [] t h e = let z : ◌≡◌ {A = ℕ} 0 1 = cc in absurd (omega arith)
every-latest P (s ∷ ss) t h e = go (latest ss) e (every-latest P ss t h.1)
  where
    go : (o : Option Live) → later o s ≡ some t → (o ≡ some t → P t) → P t
    go none q f = let p : s ≡ t = cc in rw p at h.0
    go (some u) q f = split (ltb s.key u.key)
        (λ b. f (rw b at q))
        (λ b. let p : s ≡ t = cc (rw b at q) in rw p at h.0)

pub latest-none : (P : Live → Type 0) (ss : List Live) → latest ss ≡ none → Every P ss
unfolding latest Every
latest-none P [] e = tt
latest-none P (s ∷ ss) e = absurd (go (latest ss) e)
  where
    go : (o : Option Live) → later o s ≡ none → ⊥
    go none q = let z : ◌≡◌ {A = ℕ} 0 1 = cc in omega arith
    go (some u) q = let z : ◌≡◌ {A = ℕ} 0 1 = cc in omega arith

pub latest-most : (ss : List Live) (t : Live) → latest ss ≡ some t → Every (λ x. x.key ≤ t.key) ss
unfolding latest Every
latest-most [] t e = tt
latest-most (s ∷ ss) t e = go (latest ss) refl e (latest-most ss)
  where
    go : (o : Option Live) → latest ss ≡ o → later o s ≡ some t → ((u : Live) → latest ss ≡ some u → Every (λ x. x.key ≤ u.key) ss) → (s.key ≤ t.key) × Every (λ x. x.key ≤ t.key) ss
    go none f q r = let p : s ≡ t = cc in (omega (arith, ap (λ (x : Live). x.key) p), latest-none (λ x. x.key ≤ t.key) ss f)
    go (some u) f q r = split (ltb s.key u.key)
        (λ b. let p : u ≡ t = cc (rw b at q) in
        let k : u.key ≡ t.key = ap (λ (x : Live). x.key) p in
        (omega (arith, ltb-true s.key u.key b), every_map (λ x. x.key ≤ u.key) (λ x. x.key ≤ t.key) ss (λ x h. omega arith) (r u f)))
        (λ b. let p : s ≡ t = cc (rw b at q) in
        let k : s.key ≡ t.key = ap (λ (x : Live). x.key) p in
        let l : u.key ≤ s.key = ltb-false s.key u.key b in
        (omega arith, every_map (λ x. x.key ≤ u.key) (λ x. x.key ≤ t.key) ss (λ x h. omega arith) (r u f)))

-- ---- keys tell samples apart

module _ (all : List Live) (once : (k : ℕ) → count (has_key k) all ≤ 1) where
  keyed-from : (a b : List Live) → all ≡ a ++ b → Every (λ x. keyed x.key all ≡ some x) b
  unfolding Every count
  keyed-from a [] q = tt
  keyed-from a (x ∷ b) q = (head, keyed-from (a ++ x ∷ []) b (q ∙ sym (append_assoc a (x ∷ []) b)))
    where
      head : keyed x.key all ≡ some x
      head = ap (keyed x.key) q ∙ keyed-here x.key a b x
          (omega (arith, once x.key, ap (count (has_key x.key)) q, count-append (has_key x.key) a (x ∷ b), ap bit (eq-eqb x.key x.key refl))) refl

  pub self-keyed : Every (λ x. keyed x.key all ≡ some x) all
  self-keyed = keyed-from [] all refl

  same_key : (s t : Live) → keyed s.key all ≡ some s → keyed t.key all ≡ some t → s.key ≡ t.key → s ≡ t
  same_key s t p q e = let r : some s ≡ some t = sym p ∙ ap (λ (k : ℕ). keyed k all) e ∙ q in cc

  -- the one with the greatest key is the latest
  pub latest-is : (s : Live) → keyed s.key all ≡ some s → Every (λ x. x.key ≤ s.key) all → latest all ≡ some s
  latest-is s p most = go (latest all) refl
    where
      go : (o : Option Live) → latest all ≡ o → latest all ≡ some s
      go none f = absurd (every-keyed (λ x. ⊥) s.key all s (latest-none (λ x. ⊥) all f) p)
      go (some t) f =
          let a : t.key ≤ s.key = every-latest (λ x. x.key ≤ s.key) all t most f in
          let b : s.key ≤ t.key = every-keyed (λ x. x.key ≤ t.key) s.key all s (latest-most all t f) p in
          f ∙ ap some (same_key t s (every-latest (λ x. keyed x.key all ≡ some x) all t self-keyed f) p (omega arith))

-- ---- the search through the slots

module _ (s : Store) where
  abbrev key : ℕ → ℕ
  key j = get_or s.keys j 0

  abbrev free : ℕ → Bool
  free j = free_at s.free j

  data Greatest (n k : ℕ) : ℕ → Type 0 where
    nothing : ((j : ℕ) → k ≤ j → j < k + n → free j ≡ true) → Greatest n k 256
    most : (r : ℕ) → k ≤ r → r < k + n → free r ≡ false → ((j : ℕ) → k ≤ j → j < k + n → free j ≡ false → key j ≤ key r) → Greatest n k r

  at_or_after : {C : Type 0} (k j : ℕ) → k ≤ j → (k ≡ j → C) → (k + 1 ≤ j → C) → C
  at_or_after k j h f g = split (eqb k j) (λ q. f (eqb-true k j q)) (λ q. g (past k j h (eqb-false k j q)))
    where
      past : (k j : ℕ) → k ≤ j → (k ≡ j → ⊥) → k + 1 ≤ j
      past k j p q = omega arith

  contra : {C : Type 0} (b : Bool) → b ≡ true → b ≡ false → C
  contra b p q = let z : ◌≡◌ {A = Bool} true false = sym p ∙ q in let w : ◌≡◌ {A = ℕ} 0 1 = cc in absurd (omega arith)

  one_free : (n k r : ℕ) → free k ≡ true → Greatest n (k + 1) r → Greatest (suc n) k r
  one_free n k r e (nothing h) = nothing (λ j p q. at_or_after k j p (λ x. rw x at e) (λ l. h j l (omega arith)))
  one_free n k r e (most t a b f h) = most t (omega arith) (omega arith) f (λ j p q w. at_or_after k j p (λ x. contra (free j) (rw x at e) w) (λ l. h j l (omega arith) w))

  one-used : (n k r : ℕ) → k + suc n ≤ 256 → free k ≡ false → Greatest n (k + 1) r → Greatest (suc n) k (later_slot s.keys k r)
  one-used n k r u e (nothing h) = most k (omega arith) (omega arith) e
      (λ j p q w. at_or_after k j p (λ x. rw x (omega arith)) (λ l. contra (free j) (h j l (omega arith)) w))
  one-used n k r u e (most t a b f h) = rw (lt-ltb t 256 (omega arith)) (split (ltb (key k) (key t))
      (λ c. rw c (most t (omega arith) (omega arith) f (λ j p q w. at_or_after k j p (λ x. let y : key k ≡ key j = ap key x in omega (arith, ltb-true (key k) (key t) c)) (λ l. h j l (omega arith) w))))
      (λ c. rw c (most k (omega arith) (omega arith) e (λ j p q w. at_or_after k j p (λ x. let y : key k ≡ key j = ap key x in omega arith) (λ l. omega (arith, ltb-false (key k) (key t) c, h j l (omega arith) w))))))

  greatest : (n k : ℕ) → k + n ≤ 256 → Greatest n k (greatest_from n k s)
  unfolding greatest_from
  greatest zero k u = nothing (λ j p q. absurd (omega arith))
  greatest (suc n) k u = split (free k)
      (λ e. rw e (one_free n k (greatest_from n (k + 1) s) e (greatest n (k + 1) (omega arith))))
      (λ e. rw e (one-used n k (greatest_from n (k + 1) s) u e (greatest n (k + 1) (omega arith))))

-- ---- in the store of a model

-- what the store and the table hold of a live sample
pub record Stored (m : Model) (s : Live) : Type 0 where
  pub below : s.slot < 256
  pub taken : free_at (store_of m).free s.slot ≡ false
  pub key : get_or (store_of m).keys s.slot 0 ≡ s.key
  pub sample : get_or (table_of m) s.slot empty_sample ≡ s.sample

module _ (m : Model) (g : Good m) where
  abbrev ss : List Live
  ss = lives m.instances

  over-lives : (P : Live → Type 0) → Every (λ e. P e.live) (entries_of m) → Every P ss
  over-lives P h = subst (λ (l : List Live). Every P l) (lives-of 0 m.instances) (every-over P (λ (e : Entry). e.live) (entries_of m) h)

  under-lives : (P : Live → Type 0) → Every P ss → Every (λ e. P e.live) (entries_of m)
  under-lives P h = every-under P (λ (e : Entry). e.live) (entries_of m) (subst (λ (l : List Live). Every P l) (sym (lives-of 0 m.instances)) h)

  pub all-stored : Every (Stored m) ss
  all-stored = over-lives (Stored m) (every_map (Placed (entries_of m)) (λ e. Stored m e.live) (entries_of m) stored (every-placed m g))
    where
      stored : (e : Entry) → Placed (entries_of m) e → Stored m e.live
      stored e h = record {
        below = h.0;
        taken = ap (λ (b : ℕ). eqb b 1) (free-at m g e.live.slot h.0 ∙ ap free_of h.1);
        key = key-at m g e.live.slot h.0 ∙ ap key_of h.1;
        sample = record-at m g e.live.slot h.0 ∙ ap sample_of h.1;
      }

  abbrev at_slot : ℕ → Option Entry
  at_slot k = look_up k (entries_of m)

  -- a slot that is not free holds one of them
  used-slot : (r : ℕ) → r < 256 → free_at (store_of m).free r ≡ false → (x : Entry) × (at_slot r ≡ some x)
  used-slot r b f = go (at_slot r) refl (sym (ap (λ (n : ℕ). eqb n 1) (free-at m g r b)) ∙ f)
    where
      go : (o : Option Entry) → at_slot r ≡ o → eqb (free_of o) 1 ≡ false → (x : Entry) × (at_slot r ≡ some x)
      go none q h = let w : ◌≡◌ {A = ℕ} 0 1 = cc in absurd (omega arith)
      go (some x) q h = (x, q)

  not-both : {C : Type 0} (b : Bool) → b ≡ true → b ≡ false → C
  not-both b p q = let z : ◌≡◌ {A = Bool} true false = sym p ∙ q in let w : ◌≡◌ {A = ℕ} 0 1 = cc in absurd (omega arith)

  greatest-is : (r : ℕ) → Greatest (store_of m) 256 0 r → (o : Option Live) → latest ss ≡ o → r ≡ slot_or_none o
  greatest-is r (nothing h) none e = refl
  greatest-is r (nothing h) (some t) e =
      let q : Stored m t = every-latest (Stored m) ss t all-stored e in not-both (free_at (store_of m).free t.slot) (h t.slot (omega arith) (omega (arith, q.below))) q.taken
  greatest-is z (most r a b f h) none e =
      let u : (x : Entry) × (at_slot r ≡ some x) = used-slot r (omega arith) f in
      absurd (every-look (λ x. ⊥) r (entries_of m) u.0 (under-lives (λ x. ⊥) (latest-none (λ x. ⊥) ss e)) u.1)
  greatest-is z (most r a b f h) (some t) e =
      let u : (x : Entry) × (at_slot r ≡ some x) = used-slot r (omega arith) f in
      let q : Stored m t = every-latest (Stored m) ss t all-stored e in
      let kr : get_or (store_of m).keys r 0 ≡ u.0.live.key = key-at m g r (omega arith) ∙ ap key_of u.1 in
      let up : get_or (store_of m).keys t.slot 0 ≤ get_or (store_of m).keys r 0 = h t.slot (omega arith) (omega (arith, q.below)) q.taken in
      let down : u.0.live.key ≤ t.key = every-look (λ y. y.live.key ≤ t.key) r (entries_of m) u.0 (under-lives (λ y. y.key ≤ t.key) (latest-most ss t e)) u.1 in
      let self : keyed u.0.live.key ss ≡ some u.0.live = every-look (λ y. keyed y.live.key ss ≡ some y.live) r (entries_of m) u.0 (under-lives (λ y. keyed y.key ss ≡ some y) (self-keyed ss (key-once m g))) u.1 in
      let same : u.0.live ≡ t = same_key ss (key-once m g) u.0.live t self (every-latest (λ y. keyed y.key ss ≡ some y) ss t (self-keyed ss (key-once m g)) e) (omega (arith, q.key)) in
      sym (look-slot r (entries_of m) u.0 u.1) ∙ ap (λ (y : Live). y.slot) same

  newest-is : (l : Last) → m.last ≡ l → newest_of l ss < 256 → newest_of l ss ≡ slot_or_none (latest ss)
  newest-is None e h = absurd (omega arith)
  newest-is (Some k) e h = go (keyed k ss) refl h
    where
      all-up-to : (s : Live) → s.key ≡ k → Every (λ x. x.key ≤ s.key) ss
      all-up-to s q = every_map (λ x. reached (Some k) x.key ≡ true) (λ x. x.key ≤ s.key) ss (λ x p. omega (arith, leb-true x.key k p))
          (all-reached (Some k) ss (λ j. subst (λ (l : Last). count (has_key j) ss ≤ bit (reached l j)) e (g.keys j)))

      go : (o : Option Live) → keyed k ss ≡ o → slot_or_none o < 256 → slot_or_none o ≡ slot_or_none (latest ss)
      go none q b = absurd (omega arith)
      go (some s) q b =
          let sk : s.key ≡ k = keyed-key k ss s q in
          ap slot_or_none (sym (latest-is ss (key-once m g) s (ap (λ (j : ℕ). keyed j ss) sk ∙ q) (all-up-to s sk)))

  newest-of : (store_of m).newest ≡ newest_of m.last ss
  unfolding store_of
  newest-of = refl

  table-length : length (table_of m) ≡ 256
  unfolding table_of
  table-length = length-slots sample_of (entries_of m)

  pub latest-slot : latest_slot (store_of m) ≡ slot_or_none (latest ss)
  unfolding latest_slot
  latest-slot = rw newest-of (split (ltb (newest_of m.last ss) 256)
      (λ b. rw b (newest-is m.last refl (ltb-true (newest_of m.last ss) 256 b)))
      (λ b. rw b (greatest-is (greatest_from 256 0 (store_of m)) (greatest (store_of m) 256 0 (omega arith)) (latest ss) refl)))

  -- "the total of the latest-keyed live sample of the whole cache"; the empty record's where none is live
  pub latest-total : total_of (get_or (table_of m) (latest_slot (store_of m)) empty_sample) ≡ latest_total (latest ss)
  latest-total = rw latest-slot (go (latest ss) refl)
    where
      past : get_or (table_of m) 256 empty_sample ≡ empty_sample
      past = get_or-eq_default (table_of m) empty_sample (omega (arith, table-length))

      go : (o : Option Live) → latest ss ≡ o → total_of (get_or (table_of m) (slot_or_none o) empty_sample) ≡ latest_total o
      go none e = ap total_of past
      go (some t) e = ap total_of (every-latest (Stored m) ss t all-stored e).sample
