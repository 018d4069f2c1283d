-- An info put into a buffer, word by word.
use Rattle.std.specs.Prelude.{◌≡◌, ℕ, ◌+◌, ◌*◌, ◌≤◌, ◌<◌, get_or, take, drop, set, replicate}
use Rattle.std.proofs.Math.Path.{sym, ap}
use borrow.Rule.Slice.PartMut.{put_mid}
use Rattle.std.proofs.Common.{append-nil, drop_of_length-le, ◌∙◌, lt-ltb, le-ltb, drop_at, drop-drop, length-take-le}
use mathlib.Core.List.{List, [], ◌++◌, append_assoc}
use Rattle.std.proofs.Math.Numerals.{add-one}
use native.Mathlib.Omega.{arith}
use Rattle.std.proofs.Math.ListN.{length, length-append}
use Rattle.std.proofs.Math.Seq.{paste, paste-zero, paste-suc, take_all, take_at}
use Rattle.sampleinfo.specs.declared.Info.{Info}
use Rattle.infos.specs.Words.{state_words, rank_words, head_words, writer_words, info_words, places_in, laid, put_info}

-- ---- a copy: the first j of s

unfoldable pub copied : List ℕ → ℕ → List ℕ → ℕ → List ℕ
copied l at s j = paste l at s j

module _ (l : List ℕ) (at : ℕ) (s : List ℕ) where
  pub copied-start : l ≡ copied l at s 0
  unfolding copied
  copied-start = paste-zero l at s

  -- n: where the loop stops
  pub copied-turn : (now : List ℕ) (j n : ℕ) → now ≡ copied l at s j → j < n → n ≤ 16 → length s ≡ 16 → at + 16 ≤ length l → set now (at + j) (get_or s j 0) ≡ copied l at s (j + 1)
  unfolding copied
  copied-turn now j n e h b k fits = rw (e, add-one j) (paste-suc l at s j 0 (omega arith) (omega arith))

  pub copied-end : (now : List ℕ) (j : ℕ) → now ≡ copied l at s j → 16 ≤ j → j ≤ 16 → length s ≡ 16 → now ≡ laid l at s
  unfolding copied laid
  copied-end now j e h k n =
      let q : j ≡ length s = omega arith in
      rw (e, q, take_all (length s) s (omega arith))

-- ---- one run laid behind another

module _ (l : List ℕ) (at : ℕ) (a b : List ℕ) (fits : at + length a ≤ length l) where
  front : length (take at l ++ a) ≡ at + length a
  front = length-append (take at l) a ∙ rw (length-take-le at l (omega arith))

  behind : drop (at + length a + length b) (laid l at a) ≡ drop (at + length a + length b) l
  unfolding laid
  behind = sym (drop-drop (length b) (at + length a) _) ∙ rw (drop_at (take at l ++ a) _ (at + length a) front) (drop-drop (length b) (at + length a) l)

  pub laid-laid : laid (laid l at a) (at + length a) b ≡ laid l at (a ++ b)
  unfolding laid
  laid-laid =
      let e : at + length (a ++ b) ≡ at + length a + length b = omega (arith, length-append a b) in
      rw (behind, take_at (take at l ++ a) (drop (at + length a) l) (at + length a) front, e, append_assoc (take at l) a b)

pub writer-is : (w : List ℕ) → length w ≡ 16 → writer_words w ≡ w
writer-is w e = take_at w (replicate 16 0) 16 e

-- ---- the whole info

mid-laid : (l : List ℕ) (at k : ℕ) (ys : List ℕ) → k ≡ length ys → put_mid at k l ys ≡ laid l at ys
unfolding laid
mid-laid l at k ys q = rw (q, drop-drop) (sym (append_assoc (take at l) ys (drop (at + length ys) l)))

all-laid : (l s : List ℕ) → length l ≡ length s → laid l 0 s ≡ s
unfolding laid
all-laid l s e =
    let z : drop (0 + length s) l ≡ [] = drop_of_length-le l (omega (arith, e)) in
    rw (z, append-nil)

-- states, ranks and writer, one behind the other
pub words_put : (l a b c : List ℕ) (x : Info) → a ≡ laid l 0 (state_words x) → b ≡ laid a 5 (rank_words x) → c ≡ laid b 11 x.publication_handle
    → length l ≡ 27 → length x.publication_handle ≡ 16 → c ≡ info_words x
unfolding info_words
words_put l a b c x p q r k w =
    let all : laid l 0 (head_words x ++ x.publication_handle) ≡ head_words x ++ x.publication_handle = all-laid l (head_words x ++ x.publication_handle) (omega (arith, k, w, length-append (head_words x) x.publication_handle)) in
    r ∙ ap (λ (m : List ℕ). laid m 11 x.publication_handle) (q ∙ ap (λ (m : List ℕ). laid m 5 (rank_words x)) p ∙ laid-laid l 0 (state_words x) (rank_words x) (omega arith))
    ∙ laid-laid l 0 (head_words x) x.publication_handle (omega arith) ∙ rw (all, writer-is x.publication_handle w)

module _ (l : List ℕ) (p : ℕ) (x : Info) where
  -- room: how many the code finds place for
  pub put_done : (k : ℕ) (ys : List ℕ) (room : ℕ) → k ≡ length ys → ys ≡ info_words x → room ≡ places_in l → p < room → put_mid (27 * p) k l ys ≡ put_info l p x
  unfolding put_info
  put_done k ys room q e r h = mid-laid l (27 * p) k ys q ∙ rw (e, ← r, lt-ltb p room h)

  pub put_kept : (room : ℕ) → room ≡ places_in l → room ≤ p → l ≡ put_info l p x
  unfolding put_info
  put_kept room r h = rw (← r, le-ltb p room h)
