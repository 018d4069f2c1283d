-- The refusals of a list, as the code meets them.
use Rattle.std.specs.Prelude.{◌≡◌, Bool, List, Some, None}
use Rattle.std.specs.Prelude as rust
use Rattle.std.specs.Option.{is_some}
use Rattle.std.specs.declared.result.Result.{Result}
use Rattle.std.specs.declared.result.Result.TheVariants.{Ok, Err}
use Rattle.std.proofs.Math.Path.{refl, sym, ap}
use Rattle.std.proofs.Common.{◌∙◌, true≢false}
use Rattle.std.proofs.Math.Bool.{true, false}
use Rattle.std.proofs.Math.Option.{Option}
use Prim.Native.Nat.{ℕ, ◌/◌, ◌≤◌, ◌<◌}
use native.Mathlib.Omega.{arith}
use borrow.Author.Tests.{lt-ltb, le-ltb}
use Rattle.std.proofs.Math.ListN.{length}
use Rattle.std.proofs.Math.Dec.{ltb}
use Rattle.refusals.specs.declared.Refusal.{Refusal}
use Rattle.refusals.specs.declared.Refusal.TheVariants.{Malformed, BadList, NoRoom}
use Rattle.model.specs.Pairs.{Bad, first_bad}
use Rattle.pairs.specs.Flat.{pairs_of, whole_pairs}
use Rattle.pairs.specs.FlatLaws.{length_pairs}
use Rattle.pairs.specs.Repeat.{first_repeat, first_dead, place_in, bad_by}
use Rattle.pairs.specs.BadLaws.{bad-by, dead-le}
use Rattle.pairs.specs.RepeatLaws.{repeat-le}
use Rattle.store.specs.Store.{Store, is_held}
use Rattle.index.specs.Memory.{Tied}
use Rattle.index.specs.declared.Cache.{Cache}
use Rattle.change.specs.Change.{code_of}
use Rattle.access.specs.declared.Bad as code
use Rattle.access.specs.declared.Bad.TheVariants.{NotLive, Twice}
use Rattle.access.specs.Access.{Found, bad_of, number_of, or_short, list_refusal, slots_after, Refuses, Judges}

module _ (h : Cache) (ws list slots : List ℕ) (room : ℕ) where
  pub refuse-odd : (w : Bool) → w ≡ whole_pairs list → w ≡ false → Judges h ws list room (Err Malformed) slots slots
  unfolding list_refusal slots_after
  refuse-odd w e n = record { tied = λ s long t. record { number = rw (sym e ∙ n); names = rw (sym e ∙ n) }; odd = λ z. refl }

  module _ (w : Bool) (e : w ≡ whole_pairs list) (n : w ≡ true) where
    whole : whole_pairs list ≡ true
    whole = sym e ∙ n

    -- the list is of whole pairs
    judged : (r : Result Unit Refusal) (after : List ℕ) → ((s : Store) → length slots ≡ 256 → Tied s h ws → Refuses s list room r slots after) → Judges h ws list room r slots after
    judged r after f = record { tied = f; odd = λ z. absurd (true≢false (sym whole ∙ z)) }

    pub refuse-many : 256 < length list / 2 → Judges h ws list room (Err BadList) slots slots
    unfolding list_refusal slots_after
    refuse-many l = judged (Err BadList) slots (λ s long t.
        let b : ltb 256 (length (pairs_of list)) ≡ true = lt-ltb 256 (length (pairs_of list)) (omega (arith, length_pairs list)) in
        record { number = rw (whole, b); names = rw (whole, b) })

    module _ (few : length list / 2 ≤ 256) (d : rust.Option ℕ) (after : List ℕ) (f : (z : Store) → length slots ≡ 256 → Tied z h ws → Found z (pairs_of list) d slots after)
        (r : rust.Option ℕ) (g : r ≡ place_in (length list / 2) (first_repeat (pairs_of list))) (x : rust.Option code.Bad)
        (o : (n a b : ℕ) → a ≤ n → b ≤ n → d ≡ place_in n a → r ≡ place_in n b → bad_of x ≡ bad_by a b n) where
      first-is : (s : Store) → length slots ≡ 256 → Tied s h ws → bad_of x ≡ first_bad (is_held s) (pairs_of list)
      first-is s long t =
          o (length (pairs_of list)) (first_dead (is_held s) (pairs_of list)) (first_repeat (pairs_of list)) (dead-le (is_held s) (pairs_of list)) (repeat-le (pairs_of list)) (f s long t).place
          (g ∙ ap (λ (n : ℕ). place_in n (first_repeat (pairs_of list))) (sym (length_pairs list)))
          ∙ sym (bad-by (is_held s) (pairs_of list))

      -- what is refused for no bad pair is refused with 9
      by_number : (y : Result Unit Refusal) → code_of y ≡ or_short (number_of (bad_of x)) room (length (pairs_of list)) → Judges h ws list room y slots after
      unfolding list_refusal slots_after
      by_number y e = judged y after (λ s long t.
          let fits : ltb 256 (length (pairs_of list)) ≡ false = le-ltb 256 (length (pairs_of list)) (omega (arith, length_pairs list)) in
          record {
            number = e ∙ rw (whole, fits) (ap (λ (b : Option Bad). or_short (number_of b) room (length (pairs_of list))) (first-is s long t));
            names = (f s long t).names ∙ rw (whole, fits);
          })

      module _ (b : Bool) (q : b ≡ is_some x) where
        pub refuse-bad : b ≡ true → Judges h ws list room (Err BadList) slots after
        refuse-bad z = by_number (Err BadList) (go x (sym q ∙ z))
          where
            go : (y : rust.Option code.Bad) → is_some y ≡ true → ◌≡◌ {A = ℕ} 8 (or_short (number_of (bad_of y)) room (length (pairs_of list)))
            go None e = absurd (true≢false (sym e))
            go (Some (NotLive p)) e = refl
            go (Some (Twice p)) e = refl

        none-is : b ≡ false → number_of (bad_of x) ≡ 0
        none-is z = go x (sym q ∙ z)
          where
            go : (y : rust.Option code.Bad) → is_some y ≡ false → number_of (bad_of y) ≡ 0
            go None e = refl
            go (Some y) e = absurd (true≢false e)

        pub refuse-short : b ≡ false → room < length list / 2 → Judges h ws list room (Err NoRoom) slots after
        refuse-short z l = by_number (Err NoRoom) (rw (none-is z, lt-ltb room (length (pairs_of list)) (omega (arith, length_pairs list))))

        pub refuse-none : b ≡ false → length list / 2 ≤ room → Judges h ws list room (Ok tt) slots after
        refuse-none z l = by_number (Ok tt) (rw (none-is z, le-ltb room (length (pairs_of list)) (omega (arith, length_pairs list))))
