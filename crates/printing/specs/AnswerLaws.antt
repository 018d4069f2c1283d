-- For a caller that prints an answer line by line: how long lines are, and one more line each turn.
use Rattle.std.specs.Prelude.{◌≡◌, List, [], ◌∷◌, ◌++◌, ℕ, ◌+◌, ◌*◌, ◌≤◌, length, take, drop, ℤ}
use Rattle.std.proofs.Common.{sym, ap, ◌∙◌, append_assoc, append-nil, zero-le, arith, le-leb, length-append}
use Rattle.std.proofs.Math.Option.{Option, some, none}
use Rattle.text.specs.Text.{decimal_of, signed_of}
use Rattle.text.specs.NumberLaws.{decimal-length, signed-length}
use Rattle.sampleinfo.specs.States.{sample_bit, view_bit, instance_bit, kind_of, handle_of}
use Rattle.sampleinfo.specs.declared.Info.{Info}
use Rattle.model.specs.Pairs.{Pair}
use Rattle.model.specs.Model.{refused, ok, added, next}
use Rattle.printing.specs.Printout.{line_of, refused_word, or_dash, number_line, pair_line, pair_lines, info_line, info_lines, printed}
use Rattle.printing.specs.Lines.{line_room, lined, line_end, Lined, Laid}
use Rattle.printing.specs.LineLaws.{laid-long, laid_then}

-- ---- how long

pub number-line-length : (w : List ℕ) (n : ℕ) → length (number_line w n) ≤ length w + 22
unfolding line_of
number-line-length w n = simp length-append (omega (arith, decimal-length n))

pub pair-line-length : (p : Pair) → length (pair_line p) ≤ 42
unfolding line_of
pair-line-length p = simp length-append (omega (arith, decimal-length p.key, decimal-length p.name))

pub info-line-length : (i : Info) → length (info_line i) ≤ 212
unfolding line_of
info-line-length i =
    simp length-append (omega (
      arith,
      decimal-length (handle_of i.body),
      decimal-length (kind_of i.body),
      decimal-length (sample_bit i.sample_state),
      decimal-length (view_bit i.view_state),
      decimal-length (instance_bit i.instance_state),
      decimal-length i.generation_counts.disposed_generation_count,
      decimal-length i.generation_counts.no_writers_generation_count,
      decimal-length i.sample_rank,
      signed-length i.generation_rank,
      signed-length i.absolute_generation_rank,
    ))

-- two numbers
pub two-words-fit : (a b : ℕ) → length (line_of (decimal_of a ∷ decimal_of b ∷ [])) ≤ line_room
unfolding line_of
two-words-fit a b = simp length-append (omega (arith, decimal-length a, decimal-length b))

-- eight numbers and two that may be below 0
pub ten-words-fit : (a b c d e f g h : ℕ) (y z : ℤ)
    → length (line_of (decimal_of a ∷ decimal_of b ∷ decimal_of c ∷ decimal_of d ∷ decimal_of e ∷ decimal_of f ∷ decimal_of g ∷ decimal_of h ∷ signed_of y ∷ signed_of z ∷ [])) ≤ line_room
unfolding line_of
ten-words-fit a b c d e f g h y z =
    simp length-append (omega (
      arith,
      decimal-length a,
      decimal-length b,
      decimal-length c,
      decimal-length d,
      decimal-length e,
      decimal-length f,
      decimal-length g,
      decimal-length h,
      signed-length y,
      signed-length z,
    ))

pub pair-lines-length : (ps : List Pair) → length (pair_lines ps) ≤ 42 * length ps
unfolding pair_lines
pair-lines-length [] = zero-le
pair-lines-length (p ∷ ps) = rw (length-append (pair_line p) (pair_lines ps)) (omega (arith, pair-line-length p, pair-lines-length ps))

pub info-lines-length : (is : List Info) → length (info_lines is) ≤ 212 * length is
unfolding info_lines
info-lines-length [] = zero-le
info-lines-length (i ∷ is) = rw (length-append (info_line i) (info_lines is)) (omega (arith, info-line-length i, info-lines-length is))

-- the answers of one line
pub refused-length : (n : ℕ) → length (printed (refused n)) ≤ line_room
unfolding printed
refused-length n = omega (arith, number-line-length refused_word n)

pub ok-length : length (printed ok) ≤ line_room
unfolding printed line_of
ok-length = omega arith

dash-length : (o : Option ℕ) → length (or_dash o) ≤ 20
dash-length none = omega arith
dash-length (some n) = decimal-length n

pub added-length : (key slot : ℕ) (out : Option ℕ) → length (printed (added key slot out)) ≤ line_room
unfolding printed line_of
added-length key slot out = simp length-append (omega (arith, decimal-length key, decimal-length slot, dash-length out))

pub next-length : (n : Option ℕ) → length (printed (next n)) ≤ line_room
unfolding printed line_of
next-length n = simp length-append (omega (arith, dash-length n))

-- ---- a line that had room

pub line-laid : (l : List ℕ) (at : ℕ) (s out : List ℕ) (r : ℕ) → Lined l at s out r → at + line_room ≤ length l → length s ≤ line_room → Laid l at s out r
unfolding lined line_end
line-laid l at s out r a h k =
    let b : out ≡ take at l ++ s ++ drop (at + length s) l = a.bytes ∙ rw (le-leb (at + line_room) (length l) h) in
    record { fits = omega arith; bytes = b; place = a.place ∙ rw (le-leb (at + line_room) (length l) h); long = ap length b ∙ laid-long l at s (omega arith) }

-- ---- one more line

pub pair-lines-more : (ps : List Pair) (p : Pair) → pair_lines (ps ++ p ∷ []) ≡ pair_lines ps ++ pair_line p
unfolding pair_lines
pair-lines-more [] p = append-nil (pair_line p)
pair-lines-more (q ∷ ps) p = ap (λ (x : List ℕ). pair_line q ++ x) (pair-lines-more ps p) ∙ sym (append_assoc (pair_line q) (pair_lines ps) (pair_line p))

pub info-lines-more : (is : List Info) (i : Info) → info_lines (is ++ i ∷ []) ≡ info_lines is ++ info_line i
unfolding info_lines
info-lines-more [] i = append-nil (info_line i)
info-lines-more (j ∷ is) i = ap (λ (x : List ℕ). info_line j ++ x) (info-lines-more is i) ∙ sym (append_assoc (info_line j) (info_lines is) (info_line i))

-- a head line and the lines so far, and then one more
module _ (l : List ℕ) (at : ℕ) (head mid out : List ℕ) (r q : ℕ) where
  pub pairs-turn : (ps : List Pair) (p : Pair) → Laid l at (head ++ pair_lines ps) mid r → Lined mid r (pair_line p) out q → r + line_room ≤ length l → Laid l at (head ++ pair_lines (ps ++ p ∷ [])) out q
  pairs-turn ps p a b h =
      rw (pair-lines-more ps p, ← append_assoc head (pair_lines ps) (pair_line p))
      (laid_then l at (head ++ pair_lines ps) mid r (pair_line p) out q a (line-laid mid r (pair_line p) out q b (omega (arith, a.long)) (omega (arith, pair-line-length p))))

  pub infos-turn : (is : List Info) (i : Info) → Laid l at (head ++ info_lines is) mid r → Lined mid r (info_line i) out q → r + line_room ≤ length l → Laid l at (head ++ info_lines (is ++ i ∷ [])) out q
  infos-turn is i a b h =
      rw (info-lines-more is i, ← append_assoc head (info_lines is) (info_line i))
      (laid_then l at (head ++ info_lines is) mid r (info_line i) out q a (line-laid mid r (info_line i) out q b (omega (arith, a.long)) (omega (arith, info-line-length i))))
