-- Entries in their order, and in the order of their slots: sorted, the same hits. What a choice is of, `datasample_select/specs/Slots.antt` says.
use Rattle.std.specs.Prelude.{◌≡◌, Bool, true, false, cond, eqb, ltb}
use Rattle.std.proofs.Math.Path.{refl, ap}
use Rattle.std.proofs.Common.{sym, ◌∙◌, subst}
use mathlib.Core.List.{List, [], ◌∷◌, ◌++◌, append_assoc}
use Rattle.std.proofs.Math.Option.{Option, some, none}
use Prim.Native.Nat.{ℕ, zero, suc, ◌+◌, ◌≤◌, ◌<◌}
use native.Mathlib.Omega.{arith}
use borrow.Author.Tests.{eq-eqb, ne_eqb, eqb-true, eqb-false, ltb-true, lt-ltb}
use Rattle.lists.specs.Every.{Every, every_append, every_map}
use Rattle.lists.specs.Count.{bit}
use Rattle.model.specs.Pairs.{Hit, insert, sorted}
use Rattle.pairs.specs.OrderLaws.{OtherKey, sorted-move}
use Rattle.model.specs.Model.{Live, count}
use Rattle.model.specs.Demand3.{has_key}
use Rattle.model.specs.PairLaws.{split}
use Rattle.refine.specs.Layout.{Entry, look_up}
use Rattle.refine.specs.Tables.{lives_in, uses, look_none, look-here}
use Rattle.refine.proofs.GoodLaws.{bit-one}
use Rattle.refine.proofs.Unique.{none-counted}
use Rattle.refine.proofs.Found.{every-left, every-under, every-look}

module _ (test : Entry → Bool) (hit : Entry → Hit) where
  abbrev pub pick : Option Entry → List Hit
  pick none = []
  pick (some e) = cond (test e) (hit e ∷ []) []

  unfoldable pub in_turn : List Entry → List Hit
  in_turn [] = []
  in_turn (e ∷ es) = pick (some e) ++ in_turn es

  unfoldable pub by_slot : ℕ → ℕ → List Entry → List Hit
  by_slot zero k es = []
  by_slot (suc n) k es = pick (look_up k es) ++ by_slot n (suc k) es

  pub turn-append : (a b : List Entry) → in_turn (a ++ b) ≡ in_turn a ++ in_turn b
  unfolding in_turn
  turn-append [] b = refl
  turn-append (e ∷ a) b = rw (turn-append a b) (sym (append_assoc (pick (some e)) (in_turn a) (in_turn b)))

  every-slot : (P : Hit → Type 0) (n k : ℕ) (es : List Entry) → Every (λ e. P (hit e)) es → Every P (by_slot n k es)
  unfolding by_slot Every
  every-slot P zero k es h = tt
  every-slot P (suc n) k es h = every_append P (pick (look_up k es)) (by_slot n (suc k) es) (go (look_up k es) refl) (every-slot P n (suc k) es h)
    where
      go : (o : Option Entry) → look_up k es ≡ o → Every P (pick o)
      go none e = tt
      go (some x) e = split (test x) (λ q. rw q (every-look (λ y. P (hit y)) k es x h e, tt)) (λ q. rw q tt)

  look-past : (k : ℕ) (e : Entry) (es : List Entry) → (e.live.slot ≡ k → ⊥) → look_up k (e ∷ es) ≡ look_up k es
  unfolding look_up
  look-past k e es h = rw (ne_eqb e.live.slot k h)

  slot-past : (n k : ℕ) (e : Entry) (es : List Entry) → e.live.slot < k → by_slot n k (e ∷ es) ≡ by_slot n k es
  unfolding by_slot
  slot-past zero k e es h = refl
  slot-past (suc n) k e es h = rw (look-past k e es (λ q. omega arith), slot-past n (suc k) e es (omega arith))

  -- where one more entry stands among the slots
  record Gap (n k : ℕ) (e : Entry) (es : List Entry) : Type 0 where
    x : List Hit
    y : List Hit
    whole : by_slot n k (e ∷ es) ≡ x ++ (pick (some e) ++ y)
    rest : by_slot n k es ≡ x ++ y

  gap : (n k : ℕ) (e : Entry) (es : List Entry) → uses e.live.slot es ≡ 0 → k ≤ e.live.slot → e.live.slot < k + n → Gap n k e es
  unfolding by_slot count
  gap zero k e es z l r = absurd (omega arith)
  gap (suc n) k e es z l r = go (eqb e.live.slot k) refl (λ w. gap n (suc k) e es z w (omega arith))
    where
      more : (s k : ℕ) → k ≤ s → (s ≡ k → ⊥) → suc k ≤ s
      more s k p q = omega arith

      go : (b : Bool) → eqb e.live.slot k ≡ b → (suc k ≤ e.live.slot → Gap n (suc k) e es) → Gap (suc n) k e es
      go true q f =
          let w : e.live.slot ≡ k = eqb-true e.live.slot k q in
          record {
            x = [];
            y = by_slot n (suc k) es;
            whole = rw (look-here k [] es e refl w, slot-past n (suc k) e es (omega arith));
            rest = rw (look_none k es (rw w at z));
          }
      go false q f =
          let g : Gap n (suc k) e es = f (more e.live.slot k l (eqb-false e.live.slot k q)) in
          record {
            x = pick (look_up k es) ++ g.x;
            y = g.y;
            whole = rw (look-past k e es (eqb-false e.live.slot k q), g.whole) (sym (append_assoc (pick (look_up k es)) g.x (pick (some e) ++ g.y)));
            rest = rw g.rest (sym (append_assoc (pick (look_up k es)) g.x g.y));
          }

  module _ (by_key : (e : Entry) → (hit e).pair.key ≡ e.live.key) where
    apart : (e : Entry) (es : List Entry) → count (has_key e.live.key) (lives_in es) ≡ 0 → Every (λ x. OtherKey (hit x) (hit e)) es
    apart e es z = every_map (λ x. x.live.key ≡ e.live.key → ⊥) (λ x. OtherKey (hit x) (hit e)) es (λ x h q. h (sym (by_key x) ∙ q ∙ by_key e))
        (every-under (λ (s : Live). s.key ≡ e.live.key → ⊥) (λ (x : Entry). x.live) es (none-counted e.live.key (lives_in es) z))

    moved : (e : Entry) (es : List Entry) (g : Gap 256 0 e es) → count (has_key e.live.key) (lives_in es) ≡ 0 → sorted (by_slot 256 0 es) ≡ sorted (in_turn es) → sorted (by_slot 256 0 (e ∷ es)) ≡ sorted (pick (some e) ++ in_turn es)
    unfolding sorted
    moved e es g z r = split (test e)
        (λ q. ap sorted g.whole ∙ rw q (sorted-move (hit e) g.x g.y
        (every-left (λ h. OtherKey h (hit e)) g.x g.y (subst (λ (l : List Hit). Every (λ h. OtherKey h (hit e)) l) g.rest (every-slot (λ h. OtherKey h (hit e)) 256 0 es (apart e es z))))
        ∙ ap (insert (hit e)) (ap sorted (sym g.rest) ∙ r)))
        (λ q. ap sorted g.whole ∙ rw q (ap sorted (sym g.rest) ∙ r))

    nowhere : (n k : ℕ) → by_slot n k [] ≡ []
    unfolding by_slot look_up
    nowhere zero k = refl
    nowhere (suc n) k = nowhere n (suc k)

    -- the order of the slots does not matter
    pub slot-order : (es : List Entry) → ((k : ℕ) → uses k es ≤ bit (ltb k 256)) → ((k : ℕ) → count (has_key k) (lives_in es) ≤ 1) → sorted (by_slot 256 0 es) ≡ sorted (in_turn es)
    unfolding in_turn count
    slot-order [] u d = ap sorted (nowhere 256 0)
    slot-order (e ∷ es) u d =
        let here : bit (eqb e.live.slot e.live.slot) ≡ 1 = ap bit (eq-eqb e.live.slot e.live.slot refl) in
        let key : bit (eqb e.live.key e.live.key) ≡ 1 = ap bit (eq-eqb e.live.key e.live.key refl) in
        let below : e.live.slot < 256 = ltb-true e.live.slot 256 (bit-one (ltb e.live.slot 256) (omega (arith, u e.live.slot))) in
        let alone : uses e.live.slot es ≡ 0 = omega (arith, u e.live.slot, ap bit (lt-ltb e.live.slot 256 below)) in
        moved e es (gap 256 0 e es alone (omega arith) (omega arith)) (omega (arith, d e.live.key))
        (slot-order es (λ k. omega (arith, u k)) (λ k. omega (arith, d k)))
