-- A text laid into a buffer.
use Rattle.std.specs.Prelude.{◌≡◌, List, ℕ, ◌+◌, ◌-◌, ◌^◌, ◌≤◌, ◌<◌, length, take, drop, min}
use Rattle.std.proofs.Common.{sym, arith, le-leb, drop-drop}
use mathlib.Core.List.{append_assoc}
use borrow.Rule.Slice.PartMut.{put_mid}
use Rattle.std.proofs.lemmas.Bool.{lt-leb}
use Rattle.text.specs.Text.{written, place_after}

-- end is the place after the text, as far as a number goes
module _ (l : List ℕ) (at : ℕ) (s : List ℕ) (end : ℕ) (e : end ≡ min (at + length s) (2 ^ 64 - 1)) where
  end-small : end ≤ at + length s
  end-small = omega arith

  pub kept-place : length l < end → at ≡ place_after l at s
  unfolding place_after
  kept-place h = rw (lt-leb (at + length s) (length l) (omega (arith, end-small)))

  pub kept-bytes : length l < end → l ≡ written l at s
  unfolding written
  kept-bytes h = rw (lt-leb (at + length s) (length l) (omega (arith, end-small)))

  pub put-place : end ≤ length l → length l < 2 ^ 63 → end ≡ place_after l at s
  unfolding place_after
  put-place h k = rw (le-leb (at + length s) (length l) (omega arith)) (omega arith)

  pub put-bytes : (mid : List ℕ) → end ≤ length l → length l < 2 ^ 63 → mid ≡ s → put_mid at (end - at) l mid ≡ written l at s
  unfolding written
  put-bytes mid h k f =
      let q : end - at ≡ length s = omega arith in
      rw (f, q, le-leb (at + length s) (length l) (omega arith), drop-drop (length s) at l) (sym (append_assoc (take at l) s (drop (at + length s) l)))
