-- Counting live samples, whatever is counted: one law for each change.
use Rattle.std.specs.Prelude.{◌≡◌, refl, Bool, true, List, [], ◌∷◌, ℕ, zero, suc, ◌≤◌, ◌<◌, eqb, ltb, length}
use Rattle.std.proofs.Math.Option.{Option, some, none}
use Rattle.std.proofs.Common.{arith, eqb-true, ltb-false, le-ltb}
use Rattle.std.proofs.lemmas.Bool.{eqb-false}
use Rattle.lists.specs.Count.{bit}
use Rattle.model.specs.Model.{Model, Live, Arrival, Place, gone, live_in, lives, count, in_slot, lowest_from, push, old_of, arrived, roomy}
use Rattle.model.proofs.Slots.{count-below, below, lowest-free}
use Rattle.model.proofs.Counting.{old-count, count-append, count-put}
use Rattle.model.specs.PairLaws.{split}
use Rattle.refine.specs.Tables.{bit_le}
use Rattle.refine.specs.Entries.{live-append}

-- ---- find and put, a step at a time

-- ---- an accepted add

-- with no keep count it frees none
push-all : (p : Live → Bool) (k : Option ℕ) (ps : List Place) → k ≡ none → count p (live_in (push k ps gone)) ≡ count p (live_in ps)
unfolding push live_in count
push-all p none ps q = rw (live-append ps (gone ∷ []), count-append p) (omega arith)
push-all p (some d) ps q = let z : ◌≡◌ {A = ℕ} 0 1 = cc in absurd (omega arith)

pub roomy-all : (m : Model) (a : Arrival) (p : Live → Bool) → m.keep ≡ none → count p (lives (roomy m a)) ≡ count p (lives m.instances)
unfolding roomy arrived
roomy-all m a p e = omega (arith, count-put p (arrived m.keep (old_of m a) a gone) m.instances, push-all p m.keep (old_of m a).places e, old-count m a p)

-- ---- the lowest free slot

-- ---- as many in the slots below n as are in each

-- where each slot is used once at most, n slots of which one is free have fewer than n samples
none_below : (ss : List Live) → count (below 0) ss ≡ 0
unfolding count
none_below [] = refl
none_below (s ∷ ss) = rw (le-ltb s.slot 0 (omega arith)) (omega (arith, none_below ss))

few-used : (n : ℕ) (ss : List Live) → ((j : ℕ) → count (in_slot j) ss ≤ 1) → count (below n) ss ≤ n
few-used zero ss h = omega (arith, none_below ss)
few-used (suc n) ss h = omega (arith, count-below n ss, h n, few-used n ss h)

fewer-used : (n : ℕ) (ss : List Live) → ((j : ℕ) → count (in_slot j) ss ≤ 1) → (k : ℕ) → k < n → count (in_slot k) ss ≡ 0 → count (below n) ss < n
fewer-used zero ss h k l z = absurd (omega arith)
fewer-used (suc n) ss h k l z = split (eqb k n)
    (λ e. let q : count (in_slot n) ss ≡ 0 = rw (eqb-true k n e) at z in omega (arith, count-below n ss, few-used n ss h))
    (λ e. omega (arith, count-below n ss, h n, fewer-used n ss h k (less k n l (eqb-false k n e)) z))
  where
    less : (k n : ℕ) → k < suc n → (k ≡ n → ⊥) → k < n
    less k n p q = omega arith

same : (x : ℕ) → eqb x x ≡ true
same x = split (eqb x x) (λ q. q) (λ q. absurd (eqb-false x x q refl))

-- where none is in a slot past n, all are below it
all-below : (n : ℕ) (ss : List Live) → ((j : ℕ) → n ≤ j → count (in_slot j) ss ≡ 0) → count (below n) ss ≡ length ss
unfolding count
all-below n [] h = refl
all-below n (s ∷ ss) h = split (ltb s.slot n)
    (λ e. rw e (omega (arith, all-below n ss (λ j p. omega (arith, h j p)))))
    (λ e. absurd (omega (arith, rw (same s.slot) at (h s.slot (ltb-false s.slot n e)))))

pub short-of : (n : ℕ) (ss : List Live) → ((j : ℕ) → count (in_slot j) ss ≤ bit (ltb j n)) → lowest_from n 0 ss < n → length ss < n
short-of n ss h l =
    omega (
      arith,
      all-below n ss (λ j p. omega (arith, rw (le-ltb j n p) at (h j))),
      fewer-used n ss (λ j. omega (arith, h j, bit_le (ltb j n))) (lowest_from n 0 ss) l (lowest-free n 0 ss (omega arith)),
    )
