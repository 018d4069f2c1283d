-- The lines of an answer one behind the other: a law for the start of each loop, its turn and its end, and for each arm of print.
use Rattle.std.specs.Prelude.{◌≡◌, refl, List, [], ◌∷◌, ℕ, zero, suc, ◌+◌, ◌*◌, ◌/◌, ◌≤◌, ◌<◌, get_or, take, min}
use Rattle.std.proofs.Common.{sym, subst, ap, ◌∙◌, append-nil, zero-le, add-zero, add-one, take-append-drop, take-suc, length-take-le}
use Rattle.std.proofs.lemmas.List.{get_or-take}
use native.Mathlib.Omega.{arith}
use Rattle.std.proofs.Math.ListN.{length}
use Rattle.std.proofs.Math.Seq.{take-length}
use Rattle.sampleinfo.specs.declared.Info.{Info}
use Rattle.model.specs.Model.{Answer, refused, ok, added, selected, infos, next}
use Rattle.model.specs.Pairs.{Pair}
use Rattle.pairs.specs.Flat.{pair_at, pairs_of}
use Rattle.pairs.specs.FlatLaws.{no_pair, length_pairs}
use Rattle.std.specs.Simd.{first_chunks}
use Rattle.infos.specs.Words.{no_info, get_info}
use Rattle.std.specs.Prelude.{Result, Ok, Err}
use Rattle.std.specs.Prelude as std
use Rattle.printing.specs.Printout.{selected_word, samples_word, number_line, pair_line, pair_lines, info_line, info_lines, printed}
use Rattle.printing.specs.Lines.{line_room, number_in, Lined, Laid}
use Rattle.printing.specs.LineLaws.{laid_then}
use Rattle.printing.specs.AnswerLaws.{number-line-length, pair-lines-length, info-lines-length, refused-length, ok-length, added-length, next-length, line-laid, pairs-turn, infos-turn}
use Rattle.answers.specs.declared.Reply.{Reply}
use Rattle.answers.specs.declared.Reply.TheVariants as reply
use Rattle.answers.specs.Sizes.{most, pairs_size, infos_size, lines_size}
use Rattle.answers.specs.Says.{Shown, Shows, Says}
use Rattle.answers.specs.SoFar.{PairsTo, InfosTo}
use Rattle.answers.specs.BackLaws.{few, line_at}

-- ---- no lines yet, and the first

laid_none : (l : List ℕ) (at : ℕ) → at ≤ length l → Laid l at [] l at
laid_none l at h = record { fits = omega arith; bytes = sym (rw (add-zero at, append-nil (take at l)) (take-append-drop at l)); place = omega arith; long = refl }

-- from the top on there is room for a line
module _ (l out : List ℕ) (top q : ℕ) (first : top ≡ 0) (room : length l ≡ lines_size) where
  first-laid : (s : List ℕ) → Lined l top s out q → length s ≤ line_room → Laid l top s out q
  first-laid s a h = line-laid l top s out q a (omega arith) h

  -- the line that says how many there are
  count-laid : (w : List ℕ) (n : ℕ) → length w ≤ 8 → Lined l top (number_line w n) out q → Laid l top (number_line w n) out q
  count-laid w n h a = first-laid (number_line w n) a (omega (arith, number-line-length w n))

  -- what the loops start with
  pub pairs_start : (ps : List ℕ) (n : ℕ) → Lined l top (number_line selected_word n) out q → PairsTo ps n out q out q 0
  unfolding pair_lines
  pairs_start ps n a =
      let b : Laid l top (number_line selected_word n) out q = count-laid selected_word n (omega arith) a in
      record { here = zero-le; long = b.long ∙ room; near = omega (arith, b.place, number-line-length selected_word n); laid = λ few h. laid_none out q (omega (arith, b.place, b.fits, b.long)) }

  pub infos-start : (is : List ℕ) (n : ℕ) → Lined l top (number_line samples_word n) out q → InfosTo is n out q out q 0
  unfolding info_lines
  infos-start is n a =
      let b : Laid l top (number_line samples_word n) out q = count-laid samples_word n (omega arith) a in
      record { here = zero-le; long = b.long ∙ room; near = omega (arith, b.place, number-line-length samples_word n); laid = λ xs s. laid_none out q (omega (arith, b.place, b.fits, b.long)) }

-- ---- a turn of each loop

-- the words of a pair, as `as_chunks` gives them
chunk-pair : (l : List ℕ) (i : ℕ) (d : List ℕ) (x y : ℕ) → i < length l / 2
    → pair_at (get_or (get_or (first_chunks 2 (length l / 2) l) i d) 0 x) (get_or (get_or (first_chunks 2 (length l / 2) l) i d) 1 y) ≡ get_or (pairs_of l) i no_pair
unfolding pairs_of
chunk-pair [] i d x y h = absurd (omega arith)
chunk-pair (k ∷ []) i d x y h = absurd (omega arith)
chunk-pair (k ∷ m ∷ l) zero d x y h = let half : length (k ∷ m ∷ l) / 2 ≡ suc (length l / 2) = omega arith in rw half refl
chunk-pair (k ∷ m ∷ l) (suc i) d x y h =
    let half : length (k ∷ m ∷ l) / 2 ≡ suc (length l / 2) = omega arith in
    rw half (chunk-pair l i d x y (omega arith))

-- m of the pairs are gone over: n, or all that there are
module _ (l mid : List ℕ) (n from at p m : ℕ) (ps : List ℕ) (cs : List (List ℕ)) (e : cs ≡ first_chunks 2 (length ps / 2) ps) (all : length cs ≡ length ps / 2)
    (f : m ≡ min n (length cs)) (s : PairsTo ps n l from mid at p) where
  within : length (take m cs) ≡ m
  within = length-take-le m cs (omega arith)

  pub pairs_next : (out : List ℕ) (q : ℕ) (d : List ℕ) (x y : ℕ) → p < length (take m cs)
      → Lined mid at (pair_line (pair_at (get_or (get_or (take m cs) p d) 0 x) (get_or (get_or (take m cs) p d) 1 y))) out q → PairsTo ps n l from out q (p + 1)
  pairs_next out q d x y less b = record { here = omega (arith, within); long = s.long; near = s.near; laid = next }
    where
      next : n ≤ most → n ≤ length (pairs_of ps) → Laid l from (pair_lines (take (p + 1) (pairs_of ps))) out q
      next little h =
          let a : Laid l from (pair_lines (take p (pairs_of ps))) mid at = s.laid little h in
          let k : p < length ps / 2 = omega (arith, within) in
          let short : length (pair_lines (take p (pairs_of ps))) ≤ 42 * p =
          rw (length-take-le p (pairs_of ps) (omega (arith, length_pairs ps))) at (pair-lines-length (take p (pairs_of ps))) in
          let given = rw (get_or-take m cs p d (omega (arith, within)), e) at b in
          let same : Lined mid at (pair_line (get_or (pairs_of ps) p no_pair)) out q = subst (λ (w : Pair). Lined mid at (pair_line w) out q) (chunk-pair ps p d x y k) given in
          rw (add-one p, take-suc (pairs_of ps) p no_pair (omega (arith, length_pairs ps)))
          (pairs-turn l from [] mid out at q (take p (pairs_of ps)) (get_or (pairs_of ps) p no_pair) a same (omega (arith, a.place, s.near, s.long, within)))

module _ (l mid out : List ℕ) (n from at p q : ℕ) where
  pub infos-next : (is : List ℕ) (i : Info) → InfosTo is n l from mid at p → i ≡ get_info is p → Lined mid at (info_line i) out q
      → p < n → length is ≡ infos_size → InfosTo is n l from out q (p + 1)
  infos-next is i s e b less words = record { here = omega arith; long = s.long; near = s.near; laid = next }
    where
      next : (xs : List Info) → Shown n is xs → Laid l from (info_lines (take (p + 1) xs)) out q
      next xs x =
          let a : Laid l from (info_lines (take p xs)) mid at = s.laid xs x in
          let k : p < length xs = omega (arith, x.count) in
          let short : length (info_lines (take p xs)) ≤ 212 * p = rw (length-take-le p xs (omega arith)) at (info-lines-length (take p xs)) in
          let same : info_line i ≡ info_line (get_or xs p no_info) = ap info_line e ∙ line_at n is xs x p less in
          rw (add-one p, take-suc xs p no_info k)
          (infos-turn l from [] mid out at q (take p xs) (get_or xs p no_info) a (rw same at b) (omega (arith, a.place, s.near, s.long, few n is xs x)))

-- ---- the ends of the loops

module _ (l mid out : List ℕ) (n top from at p : ℕ) (first : top ≡ 0) (room : length l ≡ lines_size) where
  pub pairs_end : (ps : List ℕ) (cs : List (List ℕ)) (m : ℕ) → Lined l top (number_line selected_word n) mid from → PairsTo ps n mid from out at p
      → length cs ≡ length ps / 2 → m ≡ min n (length cs) → length (take m cs) ≤ p
      → n ≤ most → n ≤ length (pairs_of ps) → Laid l top (printed (selected (take n (pairs_of ps)))) out at
  unfolding printed
  pairs_end ps cs m a s all f last few h =
      let e : p ≡ n = omega (arith, length_pairs ps, s.here, length-take-le m cs (omega arith)) in
      rw (length-take-le n (pairs_of ps) h)
      (laid_then l top (number_line selected_word n) mid from (pair_lines (take n (pairs_of ps))) out at (count-laid l mid top from first room selected_word n (omega arith) a) (rw e at (s.laid few h)))

  pub infos-end : (is : List ℕ) → Lined l top (number_line samples_word n) mid from → InfosTo is n mid from out at p → n ≤ p
      → (xs : List Info) → Shown n is xs → Laid l top (printed (infos xs)) out at
  unfolding printed
  infos-end is a s last xs x =
      let e : p ≡ length xs = omega (arith, x.count) in
      let b : Laid mid from (info_lines (take (length xs) xs)) out at = rw e at (s.laid xs x) in
      rw (← x.count)
      (laid_then l top (number_line samples_word n) mid from (info_lines xs) out at (count-laid l mid top from first room samples_word n (omega arith) a) (rw (take-length xs) at b))

-- ---- the arms of print

module _ (l out ps is : List ℕ) (top q : ℕ) (r : Result Reply ℕ) (first : top ≡ 0) (room : length l ≡ lines_size) where
  pub refused-said : (n : ℕ) → r ≡ Err n → Lined l top (printed (refused n)) out q → (a : Answer) → Says r ps is a → Laid l top (printed a) out q
  refused-said n e b a s = let z : a ≡ refused n = rw e at s in rw z (first-laid l out top q first room (printed (refused n)) b (refused-length n))

  pub ok-said : r ≡ Ok reply.Ok → Lined l top (printed ok) out q → (a : Answer) → Says r ps is a → Laid l top (printed a) out q
  ok-said e b a s = let z : a ≡ ok = rw e at s in rw z (first-laid l out top q first room (printed ok) b ok-length)

  pub added-said : (k s : ℕ) (x : std.Option ℕ) → r ≡ Ok (reply.Added k s x) → Lined l top (printed (added k s (number_in x))) out q → (a : Answer) → Says r ps is a → Laid l top (printed a) out q
  added-said k s x e b a t = let z : a ≡ added k s (number_in x) = rw e at t in rw z (first-laid l out top q first room (printed (added k s (number_in x))) b (added-length k s (number_in x)))

  pub next-said : (x : std.Option ℕ) → r ≡ Ok (reply.Next x) → Lined l top (printed (next (number_in x))) out q → (a : Answer) → Says r ps is a → Laid l top (printed a) out q
  next-said x e b a s = let z : a ≡ next (number_in x) = rw e at s in rw z (first-laid l out top q first room (printed (next (number_in x))) b (next-length (number_in x)))

module _ (l out ps is : List ℕ) (top q n : ℕ) (r : Result Reply ℕ) where
  pub selected-said : r ≡ Ok (reply.Selected n) → (n ≤ most → n ≤ length (pairs_of ps) → Laid l top (printed (selected (take n (pairs_of ps)))) out q) → length ps ≡ pairs_size → (a : Answer) → Says r ps is a → Laid l top (printed a) out q
  selected-said e f words a s =
      let z : (a ≡ selected (take n (pairs_of ps))) × (n ≤ length (pairs_of ps)) = rw e at s in
      rw z.0 (f (omega (arith, length_pairs ps)) z.1)

  pub infos-said : r ≡ Ok (reply.Infos n) → ((xs : List Info) → Shown n is xs → Laid l top (printed (infos xs)) out q) → (a : Answer) → Says r ps is a → Laid l top (printed a) out q
  infos-said e f a s = go a (rw e at s)
    where
      go : (a : Answer) → Shows n is a → Laid l top (printed a) out q
      go (infos xs) x = f xs x
      go (refused k) x = absurd x
      go ok x = absurd x
      go (added k s e) x = absurd x
      go (selected ps) x = absurd x
      go (next k) x = absurd x
