-- What stands in a slot, and in the tables over the slots, when a live sample comes, goes or changes.
use Rattle.std.specs.Prelude.{◌≡◌, Bool, true, false, List, [], ◌∷◌, ◌++◌, map, ◌≢◌, length, get_or, set, eqb}
use Rattle.std.proofs.Math.Path.{refl, sym, ap}
use Rattle.std.proofs.Common.{◌∙◌, not-suc-le-zero, le_of_suc-le-suc, add-zero, arith, eq-eqb, ne_eqb, eqb-true, length-set, get_or-set_same, get_or-set_other, ext_get_or}
use Rattle.std.proofs.Math.Option.{Option, some, none}
use Prim.Native.Nat.{ℕ, zero, suc, ◌+◌, ◌≤◌, ◌<◌}
use Rattle.std.proofs.lemmas.Bool.{eqb-false}
use Rattle.lists.specs.Count.{bit}
use Rattle.model.specs.Model.{Live, count, in_slot}
use Rattle.model.specs.PairLaws.{split}
use Rattle.refine.specs.Layout.{Entry, look_up, tab_from, slots_of}

pub bit_le : (b : Bool) → bit b ≤ 1
bit_le true = omega arith
bit_le false = omega arith

-- ---- what is in a slot

abbrev pub lives_in : List Entry → List Live
lives_in es = map (λ (e : Entry). e.live) es

-- how many are in slot k
abbrev pub uses : ℕ → List Entry → ℕ
uses k es = count (in_slot k) (lives_in es)

pub uses-append : (k : ℕ) (a b : List Entry) → uses k (a ++ b) ≡ uses k a + uses k b
unfolding count
uses-append k [] b = omega arith
uses-append k (e ∷ a) b = omega (arith, uses-append k a b)

pub uses-here : (k : ℕ) (a b : List Entry) (e : Entry) → e.live.slot ≡ k → uses k (a ++ e ∷ b) ≡ suc (uses k (a ++ b))
unfolding count
uses-here k [] b e h = rw (eq-eqb e.live.slot k h) (omega arith)
uses-here k (x ∷ a) b e h = omega (arith, uses-here k a b e h)

pub uses-other : (k : ℕ) (a b : List Entry) (e : Entry) → e.live.slot ≢ k → uses k (a ++ e ∷ b) ≡ uses k (a ++ b)
unfolding count
uses-other k [] b e h = rw (ne_eqb e.live.slot k h) (omega arith)
uses-other k (x ∷ a) b e h = omega (arith, uses-other k a b e h)

pub look_none : (k : ℕ) (es : List Entry) → uses k es ≡ 0 → look_up k es ≡ none
unfolding look_up count
look_none k [] h = refl
look_none k (e ∷ es) h = split (eqb e.live.slot k)
    (λ q. absurd (omega (arith, rw q at h)))
    (λ q. rw q (look_none k es (omega (arith, rw q at h))))

-- where no earlier one is in its slot, it is found
pub look-here : (k : ℕ) (a b : List Entry) (e : Entry) → uses k a ≡ 0 → e.live.slot ≡ k → look_up k (a ++ e ∷ b) ≡ some e
unfolding look_up count
look-here k [] b e z h = rw (eq-eqb e.live.slot k h)
look-here k (x ∷ a) b e z h = split (eqb x.live.slot k)
    (λ q. absurd (omega (arith, rw q at z)))
    (λ q. rw q (look-here k a b e (omega (arith, rw q at z)) h))

pub look-other : (k : ℕ) (a b : List Entry) (e : Entry) → e.live.slot ≢ k → look_up k (a ++ e ∷ b) ≡ look_up k (a ++ b)
unfolding look_up
look-other k [] b e h = rw (ne_eqb e.live.slot k h)
look-other k (x ∷ a) b e h = rw (look-other k a b e h)

-- ---- tables

module _ {A : Type 0} where
  pub length-tab : (n k : ℕ) (f : ℕ → A) → length (tab_from n k f) ≡ n
  unfolding tab_from
  length-tab zero k f = refl
  length-tab (suc n) k f = ap suc (length-tab n (suc k) f)

  tab-from : (d : A) (n k : ℕ) (f : ℕ → A) (i : ℕ) → i < n → get_or (tab_from n k f) i d ≡ f (k + i)
  unfolding tab_from
  tab-from d zero k f i h = absurd (not-suc-le-zero h)
  tab-from d (suc n) k f zero h = rw (add-zero k)
  tab-from d (suc n) k f (suc i) h = tab-from d n (suc k) f i (le_of_suc-le-suc h) ∙ ap f (omega arith)

  pub tab-at : (d : A) (n : ℕ) (f : ℕ → A) (i : ℕ) → i < n → get_or (tab_from n 0 f) i d ≡ f i
  tab-at d n f i h = tab-from d n 0 f i h ∙ ap f (omega arith)

  -- a table with one place changed is the table of a function that differs there alone
  pub tab-set : (d : A) (n : ℕ) (f g : ℕ → A) (o : ℕ) (v : A) → (o < n → g o ≡ v) → ((k : ℕ) → o ≢ k → g k ≡ f k) → set (tab_from n 0 f) o v ≡ tab_from n 0 g
  tab-set d n f g o v a b =
      ext_get_or d (set (tab_from n 0 f) o v) (tab_from n 0 g) (length-set (tab_from n 0 f) o v ∙ length-tab n 0 f ∙ sym (length-tab n 0 g)) each
    where
      each : (i : ℕ) → i < length (set (tab_from n 0 f) o v) → get_or (set (tab_from n 0 f) o v) i d ≡ get_or (tab_from n 0 g) i d
      each i h =
          let l : i < n = omega (arith, length-set (tab_from n 0 f) o v, length-tab n 0 f) in
          split (eqb o i)
          (λ q. let e : o ≡ i = eqb-true o i q in
          rw (← e) (get_or-set_same (tab_from n 0 f) o v d (omega (arith, length-tab n 0 f)) ∙ sym (tab-at d n g o (omega arith) ∙ a (omega arith))))
          (λ q. get_or-set_other (tab_from n 0 f) o i v d (λ e. eqb-false o i q (sym e)) ∙ tab-at d n f i l ∙ sym (tab-at d n g i l ∙ b i (eqb-false o i q)))

-- ---- tables over the slots

module _ {A : Type 0} (f : Option Entry → A) where
  pub length-slots : (es : List Entry) → length (slots_of f es) ≡ 256
  unfolding slots_of
  length-slots es = length-tab 256 0 (λ k. f (look_up k es))

  pub slot_at : (d : A) (es : List Entry) (k : ℕ) → k < 256 → get_or (slots_of f es) k d ≡ f (look_up k es)
  unfolding slots_of
  slot_at d es k h = tab-at d 256 (λ j. f (look_up j es)) k h

  module _ (a b : List Entry) (e : Entry) (alone : uses e.live.slot (a ++ b) ≡ 0) where
    -- one comes
    pub slots-more : set (slots_of f (a ++ b)) e.live.slot (f (some e)) ≡ slots_of f (a ++ e ∷ b)
    unfolding slots_of
    slots-more = tab-set (f none) 256 (λ k. f (look_up k (a ++ b))) (λ k. f (look_up k (a ++ e ∷ b))) e.live.slot (f (some e))
        (λ h. ap f (look-here e.live.slot a b e (omega (arith, uses-append e.live.slot a b)) refl))
        (λ k n. ap f (look-other k a b e n))

    -- one goes
    pub slots-less : set (slots_of f (a ++ e ∷ b)) e.live.slot (f none) ≡ slots_of f (a ++ b)
    unfolding slots_of
    slots-less = tab-set (f none) 256 (λ k. f (look_up k (a ++ e ∷ b))) (λ k. f (look_up k (a ++ b))) e.live.slot (f none)
        (λ h. ap f (look_none e.live.slot (a ++ b) alone))
        (λ k n. ap f (sym (look-other k a b e n)))

    -- one changes, in the same slot
    pub slots-swap : (x : Entry) → x.live.slot ≡ e.live.slot → set (slots_of f (a ++ e ∷ b)) e.live.slot (f (some x)) ≡ slots_of f (a ++ x ∷ b)
    unfolding slots_of
    slots-swap x q = tab-set (f none) 256 (λ k. f (look_up k (a ++ e ∷ b))) (λ k. f (look_up k (a ++ x ∷ b))) e.live.slot (f (some x))
        (λ h. ap f (look-here e.live.slot a b x (omega (arith, uses-append e.live.slot a b)) q))
        (λ k n. ap f (look-other k a b x (λ h. n (sym q ∙ h)) ∙ sym (look-other k a b e n)))
