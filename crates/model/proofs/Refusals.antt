-- Which adds are refused, and with which number; that a refused call changes nothing; what a set-up answers.
use Rattle.std.specs.Prelude.{Some, None}
use mathlib.Core.Path.{◌≡◌, refl, sym, ap, ◌∙◌}
use mathlib.Core.Logic.{◌↔◌, ◌⊎◌, inl, inr}
use mathlib.Core.Bool.{Bool, true, false, not, ◌&&◌, cond, and-eq-true_iff, true≢false}
use mathlib.Core.Option.{Option, some, none}
use Prim.Native.Nat.{ℕ, ◌^◌, ◌≤◌, ◌<◌}
use native.Mathlib.Decide.{dec_lt}
use native.Mathlib.Omega.{arith}
use lib.ListN.{length}
use lib.Dec.{leb, eqb}
use borrow.Author.Tests.{ltb-true, lt-ltb, leb-true, leb-false, le-leb}
use Rattle.sampleinfo.specs.States.{made_by}
use Rattle.sampleinfo.specs.Counts.{total}
use Rattle.sampleinfo.specs.Lifecycle.{state_of, counts_of, is_reborn, is_last}
use Rattle.sampleinfo.specs.declared.Body.{Body}
use Rattle.sampleinfo.specs.declared.Body.TheVariants.{Value, Dispose}
use Rattle.keys.specs.Keys.{Issued, key_of, issued_number}
use Rattle.keys.specs.KeyLaws.{key-later, key_fits, refused_none}
use Rattle.model.specs.Model.{Model, Instance, SetUp, Arrival, Call, Step, set_up, add, Answer, refused, ok, added, find, lives, is_new, unkept, no_key, key_in, issue_of, state_in, well_formed, old_of, refusal_of, within, keep_of, fresh, setting_up, accept, adding, access, step}
use Rattle.model.specs.Bounds.{and_is, or_is, le_is, eq_is}
use Rattle.model.proofs.Bounds.{accepted}
use Rattle.model.specs.Demand3.{Sets, WellFormed, NoLaterKey, NoRoom, LastRebirth, NoSlot, Exactly}
use Rattle.model.proofs.Laws.{Done, turned, began, came, lost, looked, went, asked, done}
use Rattle.model.specs.PairLaws.{split}

-- ---- a refused call changes nothing
refused-done : {m : Model} {c : Call} {x : Step} (r : ℕ) → Done m c x → x.answer ≡ refused r → x.then ≡ m
unfolding accept access
refused-done r (turned c q) h = refl
refused-done r (began u e) h = cc
refused-done r (came a e) h = cc
refused-done r (lost k i e) h = cc
refused-done r (looked w k room q) h = refl
refused-done r (went t ps room e) h = cc
refused-done r (asked k q) h = refl

pub refused-same : (m : Model) (c : Call) (r : ℕ) → (step m c).answer ≡ refused r → (step m c).then ≡ m
refused-same m c r h = refused-done r (done m c) h

pub ill : (b : Bool) → b ≡ false → b ≡ true → ⊥
ill b p q = true≢false (sym q ∙ p)

-- ---- setting up
pub number : {r q : ℕ} → refused r ≡ refused q → r ≡ q
number e = cc

pub not-ok {ℓ} : {C : Type ℓ} {r : ℕ} → ok ≡ refused r → C
not-ok e = let z : ◌≡◌ {A = ℕ} 0 1 = cc in absurd (omega arith)

pub set-up-step : (m : Model) (u : SetUp) → Sets m u (step m (set_up u))
unfolding step setting_up
set-up-step m u = split (within u)
    (λ e. rw e (record {
      makes-fresh = λ d b. ap started ((accepted u d).1 b).1;
      by_2 = (λ h. not-ok h, λ h. absurd (h (keep_of u) ((accepted u (keep_of u)).0 (e, refl))));
      by-no-other = λ r h. not-ok h;
    }))
    (λ e. rw e (record {
      makes-fresh = λ d b. absurd (ill (within u) e ((accepted u d).1 b).0);
      by_2 = (λ h d b. ill (within u) e ((accepted u d).1 b).0, λ h. refl);
      by-no-other = λ r h. sym (number h);
    }))
  where
    started : Option ℕ → Step
    started d = record { answer = ok; then = fresh d u.instances }

-- ---- why an add is refused
pub formed-is : (a : Arrival) → (well_formed a ≡ true) ↔ WellFormed a
unfolding well_formed
formed-is a =
    let x = and_is (or_is (eq_is a.kind 1) (eq_is a.kind 2)) (and_is (le_is 1 a.seq) (ltb-true a.seq (2 ^ 63), lt-ltb a.seq (2 ^ 63))) in
    (λ e. record { kind = (x.0 e).0; seq = (x.0 e).1 }, λ h. x.1 (h.kind, h.seq))

pub issue-given : (x : Issued) → no_key x ≡ false → x ≡ Some (key_in x)
issue-given (Some k) e = refl
issue-given None e = absurd (true≢false e)

issue-refused : (x : Issued) → no_key x ≡ true → x ≡ None
issue-refused (Some k) e = absurd (true≢false (sym e))
issue-refused None e = refl

no-later : (m : Model) (a : Arrival) → no_key (issue_of m a) ≡ true → NoLaterKey m
no-later m a e k h = go (dec_lt k (2 ^ 64))
  where
    go : Dec (k < 2 ^ 64) → 2 ^ 64 ≤ k
    go (yes q) = absurd (refused_none m.last a.time (ap issued_number (issue-refused (issue_of m a) e)) k q h)
    go (no q) = omega arith

some-later : (m : Model) (a : Arrival) → a.time < 2 ^ 64 → no_key (issue_of m a) ≡ false → ¬ NoLaterKey m
some-later m a w e h = over (key_in (issue_of m a)) (2 ^ 64) (key_fits m.last a.time (key_in (issue_of m a)) w g) (h (key_in (issue_of m a)) (key-later m.last a.time (key_in (issue_of m a)) g))
  where
    g : key_of m.last a.time ≡ Some (key_in (issue_of m a))
    g = issue-given (issue_of m a) e

    over : (x y : ℕ) → x < y → y ≤ x → ⊥
    over x y p q = omega arith

-- each answer that an add can get, with what is then the case
pub data Verdict (m : Model) (a : Arrival) : Answer → Type 0 where
  one : well_formed a ≡ false → Verdict m a (refused 1)
  six : well_formed a ≡ true → NoLaterKey m → Verdict m a (refused 6)
  four : well_formed a ≡ true → ¬ NoLaterKey m → NoRoom m a → Verdict m a (refused 4)
  seven : well_formed a ≡ true → ¬ NoLaterKey m → LastRebirth m a → Verdict m a (refused 7)
  five : well_formed a ≡ true → ¬ NoLaterKey m → ¬ NoRoom m a → ¬ LastRebirth m a → NoSlot m → Verdict m a (refused 5)
  fits : well_formed a ≡ true → ¬ NoLaterKey m → ¬ NoRoom m a → ¬ LastRebirth m a → ¬ NoSlot m → (k s : ℕ) (o : Option ℕ) → Verdict m a (added k s o)

reborn-self : (b : Body) → is_reborn (made_by b) (made_by b) ≡ false
reborn-self (Value h) = refl
reborn-self (Dispose h) = refl

pub none-some {ℓ} : {A : Type ℓ} {i : A} (o : Option A) → o ≡ none → o ≡ some i → ⊥
none-some o p q = let z : ◌≡◌ {A = ℕ} 0 1 = cc in omega arith

is-unkept : (k : Option ℕ) → (unkept k ≡ true) ↔ (k ≡ none)
is-unkept none = (λ e. refl, λ e. refl)
is-unkept (some d) = (λ e. absurd (true≢false (sym e)), λ e. absurd (none-some (some d) e refl))

over : (x y : ℕ) → x < y → y ≤ x → ⊥
over x y p q = omega arith

pub both : (a b : Bool) → a && b ≡ true → (a ≡ true) × (b ≡ true)
both a b e = (and-eq-true_iff a b).0 e

pub not-both : (a b : Bool) → a && b ≡ false → a ≡ true → b ≡ true → ⊥
not-both a b e p q = true≢false (sym ((and-eq-true_iff a b).1 (p, q)) ∙ e)

module _ (m : Model) (a : Arrival) (w : a.time < 2 ^ 64) where
  abbrev Given : Type 0
  Given = Verdict m a (step m (add a)).answer

  abbrev spent : Instance → Bool
  spent i = is_reborn (state_of i.meta) (state_in a) && leb 2147483647 (total (counts_of i.meta))

  abbrev crowded : Bool
  crowded = unkept m.keep && leb 256 (length (lives m.instances))

  no_slot : crowded ≡ true → NoSlot m
  no_slot q = let b : (unkept m.keep ≡ true) × (leb 256 (length (lives m.instances)) ≡ true) = both _ _ q in ((is-unkept m.keep).0 b.0, leb-true 256 (length (lives m.instances)) b.1)

  some-slot : crowded ≡ false → ¬ NoSlot m
  some-slot q h = not-both (unkept m.keep) (leb 256 (length (lives m.instances))) q ((is-unkept m.keep).1 h.0) (le-leb 256 (length (lives m.instances)) h.1)

  last-rebirth : (i : Instance) → find a.name m.instances ≡ some i → spent i ≡ true → LastRebirth m a
  last-rebirth i f q = let b : (is_reborn (state_of i.meta) (state_in a) ≡ true) × (leb 2147483647 (total (counts_of i.meta)) ≡ true) = both _ _ q in (i, f, b.0, leb-true 2147483647 (total (counts_of i.meta)) b.1)

  no-last-rebirth : (i : Instance) → find a.name m.instances ≡ some i → spent i ≡ false → ¬ LastRebirth m a
  no-last-rebirth i f q (j, g, r, t) = let p : j ≡ i = cc in not-both (is_reborn (state_of i.meta) (state_in a)) (leb 2147483647 (total (counts_of i.meta))) q (rw p at r) (rw p at (le-leb 2147483647 (total (counts_of j.meta)) t))

  verdict-found : well_formed a ≡ true → no_key (issue_of m a) ≡ false → (o : Option Instance) → find a.name m.instances ≡ o → Given
  unfolding step adding accept refusal_of old_of
  verdict-found v e none f = split (leb m.room (length m.instances))
      (λ q. rw (v, e, f, q) (four v (some-later m a w e) (f, leb-true m.room (length m.instances) q)))
      (λ q. split crowded
      (λ c. rw (v, e, f, q, reborn-self, c) (five v (some-later m a w e) (roomy q) (λ h. none-some (find a.name m.instances) f h.1) (no_slot c)))
      (λ c. rw (v, e, f, q, reborn-self, c) (fits v (some-later m a w e) (roomy q) (λ h. none-some (find a.name m.instances) f h.1) (some-slot c) _ _ _)))
    where
      roomy : leb m.room (length m.instances) ≡ false → ¬ NoRoom m a
      roomy q h = over (length m.instances) m.room (leb-false m.room (length m.instances) q) h.1
  verdict-found v e (some i) f = split (spent i)
      (λ q. rw (v, e, f, q) (seven v (some-later m a w e) (last-rebirth i f q)))
      (λ q. split crowded
      (λ c. rw (v, e, f, q, c) (five v (some-later m a w e) (λ h. none-some (find a.name m.instances) h.0 f) (no-last-rebirth i f q) (no_slot c)))
      (λ c. rw (v, e, f, q, c) (fits v (some-later m a w e) (λ h. none-some (find a.name m.instances) h.0 f) (no-last-rebirth i f q) (some-slot c) _ _ _)))

  pub verdict : Given
  unfolding step adding accept refusal_of
  verdict = split (well_formed a)
      (λ v. split (no_key (issue_of m a))
      (λ e. rw (v, e) (six v (no-later m a e)))
      (λ e. verdict-found v e (find a.name m.instances) refl))
      (λ v. rw v (one v))

-- ---- the tests of an add, in order
abbrev numbered : Bool → Bool → Bool → Bool → Bool → ℕ
numbered w n r s c = cond w 1 (cond n 6 (cond r 4 (cond s 7 (cond c 5 0))))

none_so : (w n r s c : Bool) → numbered w n r s c ≡ 0 → (w ≡ false) × (n ≡ false) × (r ≡ false) × (s ≡ false) × (c ≡ false)
none_so true n r s c h = absurd (omega arith)
none_so false true r s c h = absurd (omega arith)
none_so false false true s c h = absurd (omega arith)
none_so false false false true c h = absurd (omega arith)
none_so false false false false true h = absurd (omega arith)
none_so false false false false false h = (refl, refl, refl, refl, refl)

-- what an accepted add passed
pub record Passed (m : Model) (a : Arrival) : Type 0 where
  pub formed : not (well_formed a) ≡ false
  pub keyed : no_key (issue_of m a) ≡ false
  pub roomed : is_new (find a.name m.instances) && leb m.room (length m.instances) ≡ false
  pub young : is_last (old_of m a).meta (state_in a) ≡ false
  pub slotted : unkept m.keep && leb 256 (length (lives m.instances)) ≡ false

pub passed : (m : Model) (a : Arrival) → refusal_of m a ≡ 0 → Passed m a
unfolding refusal_of
passed m a e = record { formed = q.0; keyed = q.1; roomed = q.2; young = q.3; slotted = q.4 }
  where
    q : (not (well_formed a) ≡ false) × (no_key (issue_of m a) ≡ false) × (is_new (find a.name m.instances) && leb m.room (length m.instances) ≡ false)
        × (is_last (old_of m a).meta (state_in a) ≡ false) × (unkept m.keep && leb 256 (length (lives m.instances)) ≡ false)
    q = none_so _ _ _ _ _ e

-- ---- an add is refused exactly so
pub not-added {ℓ} : {C : Type ℓ} {k s : ℕ} {o : Option ℕ} {r : ℕ} → added k s o ≡ refused r → C
not-added e = let z : ◌≡◌ {A = ℕ} 0 1 = cc in absurd (omega arith)

rebirth-held : (m : Model) (a : Arrival) → NoRoom m a → LastRebirth m a → ⊥
rebirth-held m a p q = none-some (find a.name m.instances) p.0 q.1

exactly : {m : Model} {a : Arrival} {x : Answer} → Verdict m a x → Exactly m a x
exactly {m} {a} (one v) = record {
  by-1 = (λ e. v, λ k. refl);
  by-6 = (λ e. absurd (omega (arith, number e)), λ k. absurd (ill (well_formed a) v k.0));
  by_4 = (λ e. absurd (omega (arith, number e)), λ k. absurd (ill (well_formed a) v k.0));
  by-7 = (λ e. absurd (omega (arith, number e)), λ k. absurd (ill (well_formed a) v k.0));
  by-5 = (λ e. absurd (omega (arith, number e)), λ k. absurd (ill (well_formed a) v k.0));
  by-no-other = λ r e. inl (sym (number e));
}
exactly {m} {a} (six v h) = record {
  by-1 = (λ e. absurd (omega (arith, number e)), λ k. absurd (ill (well_formed a) k v));
  by-6 = (λ e. (v, h), λ k. refl);
  by_4 = (λ e. absurd (omega (arith, number e)), λ k. absurd (k.1 h));
  by-7 = (λ e. absurd (omega (arith, number e)), λ k. absurd (k.1 h));
  by-5 = (λ e. absurd (omega (arith, number e)), λ k. absurd (k.1 h));
  by-no-other = λ r e. inr (inl (sym (number e)));
}
exactly {m} {a} (four v h p) = record {
  by-1 = (λ e. absurd (omega (arith, number e)), λ k. absurd (ill (well_formed a) k v));
  by-6 = (λ e. absurd (omega (arith, number e)), λ k. absurd (h k.1));
  by_4 = (λ e. (v, h, p), λ k. refl);
  by-7 = (λ e. absurd (omega (arith, number e)), λ k. absurd (rebirth-held m a p k.2));
  by-5 = (λ e. absurd (omega (arith, number e)), λ k. absurd (k.2 p));
  by-no-other = λ r e. inr (inr (inl (sym (number e))));
}
exactly {m} {a} (seven v h p) = record {
  by-1 = (λ e. absurd (omega (arith, number e)), λ k. absurd (ill (well_formed a) k v));
  by-6 = (λ e. absurd (omega (arith, number e)), λ k. absurd (h k.1));
  by_4 = (λ e. absurd (omega (arith, number e)), λ k. absurd (rebirth-held m a k.2 p));
  by-7 = (λ e. (v, h, p), λ k. refl);
  by-5 = (λ e. absurd (omega (arith, number e)), λ k. absurd (k.3 p));
  by-no-other = λ r e. inr (inr (inr (inl (sym (number e)))));
}
exactly {m} {a} (five v h p q c) = record {
  by-1 = (λ e. absurd (omega (arith, number e)), λ k. absurd (ill (well_formed a) k v));
  by-6 = (λ e. absurd (omega (arith, number e)), λ k. absurd (h k.1));
  by_4 = (λ e. absurd (omega (arith, number e)), λ k. absurd (p k.2));
  by-7 = (λ e. absurd (omega (arith, number e)), λ k. absurd (q k.2));
  by-5 = (λ e. (v, h, p, q, c), λ k. refl);
  by-no-other = λ r e. inr (inr (inr (inr (sym (number e)))));
}
exactly {m} {a} (fits v h p q c k s o) = record {
  by-1 = (not-added, λ y. absurd (ill (well_formed a) y v));
  by-6 = (not-added, λ y. absurd (h y.1));
  by_4 = (not-added, λ y. absurd (p y.2));
  by-7 = (not-added, λ y. absurd (q y.2));
  by-5 = (not-added, λ y. absurd (c y.4));
  by-no-other = λ r e. not-added e;
}

pub refused-exactly : (m : Model) (a : Arrival) → a.time < 2 ^ 64 → Exactly m a (step m (add a)).answer
refused-exactly m a w = exactly (verdict m a w)

-- ---- under a keep count: a well-formed add is refused if and only if one of three things is so
refused-if : {m : Model} {a : Arrival} {x : Answer} → Verdict m a x → NoLaterKey m ⊎ NoRoom m a ⊎ LastRebirth m a → (r : ℕ) × (x ≡ refused r)
refused-if (one v) c = (1, refl)
refused-if (six v h) c = (6, refl)
refused-if (four v h p) c = (4, refl)
refused-if (seven v h p) c = (7, refl)
refused-if (five v h p q s) c = (5, refl)
refused-if (fits v h p q s k t o) (inl c) = absurd (h c)
refused-if (fits v h p q s k t o) (inr (inl c)) = absurd (p c)
refused-if (fits v h p q s k t o) (inr (inr c)) = absurd (q c)

refused-only-if : {m : Model} {a : Arrival} {x : Answer} (d : ℕ) → m.keep ≡ some d → well_formed a ≡ true → Verdict m a x → (r : ℕ) × (x ≡ refused r) → NoLaterKey m ⊎ NoRoom m a ⊎ LastRebirth m a
refused-only-if {m} {a} d keeps f (one v) c = absurd (ill (well_formed a) v f)
refused-only-if d keeps f (six v h) c = inl h
refused-only-if d keeps f (four v h p) c = inr (inl p)
refused-only-if d keeps f (seven v h p) c = inr (inr p)
refused-only-if {m} d keeps f (five v h p q s) c = absurd (none-some m.keep s.0 keeps)
refused-only-if d keeps f (fits v h p q s k t o) c = not-added c.1

pub refused-iff : (m : Model) (d : ℕ) → m.keep ≡ some d → (a : Arrival) → well_formed a ≡ true → a.time < 2 ^ 64
    → ((r : ℕ) × ((step m (add a)).answer ≡ refused r)) ↔ (NoLaterKey m ⊎ NoRoom m a ⊎ LastRebirth m a)
refused-iff m d keeps a f w = (refused-only-if d keeps f (verdict m a w), refused-if (verdict m a w))

-- never 5, whatever the add
not-5 : (k : Option ℕ) (d : ℕ) (w n r s l : Bool) → k ≡ some d → numbered w n r s (unkept k && l) ≡ 5 → ⊥
not-5 none d w n r s l e h = none-some none refl e
not-5 (some k) d true n r s l e h = omega arith
not-5 (some k) d false true r s l e h = omega arith
not-5 (some k) d false false true s l e h = omega arith
not-5 (some k) d false false false true l e h = omega arith
not-5 (some k) d false false false false l e h = omega arith

refusal-not-5 : (m : Model) (d : ℕ) → m.keep ≡ some d → (a : Arrival) → refusal_of m a ≡ 5 → ⊥
unfolding refusal_of
refusal-not-5 m d keeps a e = not-5 m.keep d (not (well_formed a)) (no_key (issue_of m a)) (is_new (find a.name m.instances) && leb m.room (length m.instances))
    (is_last (old_of m a).meta (state_in a)) (leb 256 (length (lives m.instances))) keeps e

pub never-5 : (m : Model) (d : ℕ) → m.keep ≡ some d → (a : Arrival) → ¬ ((step m (add a)).answer ≡ refused 5)
unfolding step adding accept
never-5 m d keeps a h = split (eqb (refusal_of m a) 0)
    (λ e. not-added (rw e at h))
    (λ e. refusal-not-5 m d keeps a (number (rw e at h)))
