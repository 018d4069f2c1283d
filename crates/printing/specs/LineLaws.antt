-- Words laid one behind the other are a line.
use Rattle.std.specs.Prelude.{◌≡◌, refl, ℕ, suc, ◌+◌, ◌-◌, ◌≤◌, ◌<◌, length, take, drop, map, get_or}
use Rattle.std.proofs.Common.{sym, ap, ◌∙◌, arith, le-leb, length-append, length-take, length-drop, take_at, drop_at, drop-drop, append-nil, add-zero, take-append-drop, drop-cons}
use Rattle.std.proofs.lemmas.List.{map-append, map_more}
use Rattle.std.proofs.Math.Seq.{take_all}
use mathlib.Core.List.{List, [], ◌∷◌, ◌++◌, append_assoc}
use Rattle.std.proofs.lemmas.Bool.{lt-leb}
use Rattle.text.specs.declared.Word.{Word}
use Rattle.text.specs.Text.{word_text, written, place_after}
use Rattle.printing.specs.Printout.{spaced, line_of}
use Rattle.printing.specs.Lines.{line_room, lined, line_end, Lined, Laid}

-- ---- bytes one behind the other

pub laid-long : (l : List ℕ) (at : ℕ) (s : List ℕ) → at + length s ≤ length l → length (take at l ++ s ++ drop (at + length s) l) ≡ length l
laid-long l at s h = simp (length-append, length-take, length-drop) (omega arith)

-- a text put where it has room
pub written-laid : (l : List ℕ) (at : ℕ) (s out : List ℕ) (r : ℕ) → out ≡ written l at s → r ≡ place_after l at s → at + length s ≤ length l → Laid l at s out r
unfolding written place_after
written-laid l at s out r e p h =
    let b : out ≡ take at l ++ s ++ drop (at + length s) l = e ∙ rw (le-leb (at + length s) (length l) h) in
    record { fits = h; bytes = b; place = p ∙ rw (le-leb (at + length s) (length l) h); long = ap length b ∙ laid-long l at s h }

module _ (l : List ℕ) (at : ℕ) (s mid : List ℕ) (r : ℕ) (t out : List ℕ) (q : ℕ) (a : Laid l at s mid r) (b : Laid mid r t out q) where
  both_long : length (s ++ t) ≡ length s + length t
  both_long = length-append s t

  both-fits : at + length (s ++ t) ≤ length l
  both-fits = rw both_long (omega (arith, a.long, a.place, b.fits))

  head-long : length (take at l ++ s) ≡ r
  head-long = simp (length-append, length-take) (omega (arith, a.fits, a.place))

  front : take r mid ≡ take at l ++ s
  front = rw a.bytes (take_at (take at l ++ s) (drop (at + length s) l) r head-long)

  tail : drop r mid ≡ drop (at + length s) l
  tail = rw a.bytes (drop_at (take at l ++ s) (drop (at + length s) l) r head-long)

  back : drop (r + length t) mid ≡ drop (at + length (s ++ t)) l
  back =
      let e : at + length s + length t ≡ at + length (s ++ t) = omega (arith, both_long) in
      sym (drop-drop (length t) r mid) ∙ ap (drop (length t)) tail ∙ drop-drop (length t) (at + length s) l ∙ ap (λ (k : ℕ). drop k l) e

  pub laid_then : Laid l at (s ++ t) out q
  laid_then = record {
    fits = both-fits;
    bytes = b.bytes ∙ rw (front, back) (ap (λ (x : List ℕ). x ++ drop (at + length (s ++ t)) l) (append_assoc (take at l) s t));
    place = omega (arith, b.place, a.place, both_long);
    long = b.long ∙ a.long;
  }

-- ---- a word and the byte behind it, as the code puts them

pub word-laid : (l mid out s : List ℕ) (at behind r end : ℕ) → mid ≡ written l at s → behind ≡ place_after l at s
    → out ≡ written mid behind (end ∷ []) → r ≡ place_after mid behind (end ∷ []) → at + length s + 1 ≤ length l → Laid l at (s ++ end ∷ []) out r
word-laid l mid out s at behind r end p q u v h =
    let a : Laid l at s mid behind = written-laid l at s mid behind p q (omega arith) in
    laid_then l at s mid behind (end ∷ []) out r a (written-laid mid behind (end ∷ []) out r u v (omega (arith, a.long, a.place)))

-- ---- lines, where x bytes are left

module _ (l : List ℕ) (at x : ℕ) (e : x ≡ length l - at) where
  pub line_kept : (s : List ℕ) → x < line_room → Lined l at s l at
  unfolding lined line_end
  line_kept s h = record { bytes = rw (lt-leb (at + line_room) (length l) (omega arith)); place = rw (lt-leb (at + line_room) (length l) (omega arith)) }

  pub line-done : (s out : List ℕ) (r : ℕ) → line_room ≤ x → Laid l at s out r → Lined l at s out r
  unfolding lined line_end
  line-done s out r h a = record { bytes = rw (le-leb (at + line_room) (length l) (omega arith)) a.bytes; place = rw (le-leb (at + line_room) (length l) (omega arith)) a.place }

-- ---- words

spaced-append : (ws vs : List (List ℕ)) → spaced ws ++ spaced vs ≡ spaced (ws ++ vs)
unfolding spaced
spaced-append [] vs = refl
spaced-append (w ∷ ws) vs = append_assoc w (32 ∷ spaced ws) (spaced vs) ∙ ap (λ (x : List ℕ). w ++ 32 ∷ x) (spaced-append ws vs)

line-append : (ws : List (List ℕ)) (v : List ℕ) (vs : List (List ℕ)) → spaced ws ++ line_of (v ∷ vs) ≡ line_of (ws ++ v ∷ vs)
unfolding spaced line_of
line-append [] v vs = refl
line-append (w ∷ []) v vs = append_assoc w (32 ∷ []) (line_of (v ∷ vs))
line-append (w ∷ u ∷ ws) v vs = append_assoc w (32 ∷ spaced (u ∷ ws)) (line_of (v ∷ vs)) ∙ ap (λ (x : List ℕ). w ++ 32 ∷ x) (line-append (u ∷ ws) v vs)

spaced-more : (ws : List (List ℕ)) (w : List ℕ) → spaced (ws ++ w ∷ []) ≡ spaced ws ++ (w ++ 32 ∷ [])
unfolding spaced
spaced-more ws w = sym (spaced-append ws (w ∷ []))

line-behind : (v : List ℕ) (vs : List (List ℕ)) → length v + 1 ≤ length (line_of (v ∷ vs))
unfolding line_of
line-behind v [] = omega (arith, length-append v (10 ∷ []))
line-behind v (u ∷ us) = omega (arith, length-append v (32 ∷ line_of (u ∷ us)))

-- a word of a line, and those before it, are no longer than the line
words-within : (ws : List (List ℕ)) (v : List ℕ) (vs : List (List ℕ)) → length (spaced ws) + (length v + 1) ≤ length (line_of (ws ++ v ∷ vs))
words-within ws v vs = rw (← line-append ws v vs, length-append (spaced ws) (line_of (v ∷ vs))) (omega (arith, line-behind v vs))

-- ---- the words of a line, one after the other: the last of them behind those in front

module _ (l : List ℕ) (at x : ℕ) (words front : List Word) (last : Word) (e : x ≡ length l - at) (room : line_room ≤ x)
    (whole : words ≡ front ++ last ∷ []) (short : length (line_of (map word_text words)) ≤ line_room) where
  split : (i : ℕ) (d : Word) → i < length front → words ≡ take i front ++ get_or front i d ∷ (drop (suc i) front ++ last ∷ [])
  split i d h =
      let apart : front ≡ take i front ++ get_or front i d ∷ drop (suc i) front = sym (take-append-drop i front) ∙ rw (drop-cons front i d h) in
      whole ∙ ap (λ (f : List Word). f ++ last ∷ []) apart ∙ append_assoc (take i front) (get_or front i d ∷ drop (suc i) front) (last ∷ [])

  within : (i : ℕ) (d : Word) → i < length front → length (spaced (map word_text (take i front))) + (length (word_text (get_or front i d)) + 1) ≤ line_room
  within i d h =
      let behind : List Word = drop (suc i) front ++ last ∷ [] in
      let q : map word_text words ≡ map word_text (take i front) ++ word_text (get_or front i d) ∷ map word_text behind =
      ap (map word_text) (split i d h) ∙ map-append word_text (take i front) (get_or front i d ∷ behind) in
      let k = rw q at short in
      omega (arith, k, words-within (map word_text (take i front)) (word_text (get_or front i d)) (map word_text behind))

  -- before the words
  pub words_start : Laid l at (spaced (map word_text (take 0 front))) l at
  unfolding spaced
  words_start = record { fits = omega arith; bytes = sym (rw (add-zero at, append-nil (take at l)) (take-append-drop at l)); place = omega arith; long = refl }

  module _ (mid : List ℕ) (r i : ℕ) (a : Laid l at (spaced (map word_text (take i front))) mid r) where
    pub turn_fits : (d : Word) → i < length front → r + length (word_text (get_or front i d)) + 1 ≤ length mid
    turn_fits d h = omega (arith, within i d h, a.place, a.long)

    pub words_turn : (out : List ℕ) (q : ℕ) (d : Word) → i < length front → Laid mid r (word_text (get_or front i d) ++ 32 ∷ []) out q
        → Laid l at (spaced (map word_text (take (i + 1) front))) out q
    words_turn out q d h b =
        rw (map_more word_text front i d h, spaced-more (map word_text (take i front)) (word_text (get_or front i d)))
        (laid_then l at (spaced (map word_text (take i front))) mid r (word_text (get_or front i d) ++ 32 ∷ []) out q a b)

    all : length front ≤ i → take i front ≡ front
    all h = take_all i front h

    ends : map word_text words ≡ map word_text front ++ word_text last ∷ []
    ends = ap (map word_text) whole ∙ map-append word_text front (last ∷ [])

    pub last_fits : length front ≤ i → r + length (word_text last) + 1 ≤ length mid
    last_fits h =
        let k = rw ends at short in
        let p = rw (all h) at a.place in
        omega (arith, k, p, a.long, words-within (map word_text front) (word_text last) [])

    pub words_end : (out : List ℕ) (q : ℕ) → length front ≤ i → Laid mid r (word_text last ++ 10 ∷ []) out q → Lined l at (line_of (map word_text words)) out q
    unfolding line_of
    words_end out q h b =
        let f = rw (all h) at a in
        rw (ends, ← line-append (map word_text front) (word_text last) [])
        (line-done l at x e (spaced (map word_text front) ++ (word_text last ++ 10 ∷ [])) out q room
        (laid_then l at (spaced (map word_text front)) mid r (word_text last ++ 10 ∷ []) out q f b))

-- a line with no word
pub words_none : (l out : List ℕ) (at x q : ℕ) (words : List Word) → x ≡ length l - at → line_room ≤ x → length words ≡ 0 → Laid l at (10 ∷ []) out q → Lined l at (line_of (map word_text words)) out q
unfolding line_of
words_none l out at x q [] e room n a = line-done l at x e (10 ∷ []) out q room a
words_none l out at x q (w ∷ ws) e room n a = absurd (omega arith)
