-- Infos put one after the other.
use Rattle.std.specs.Prelude.{◌≡◌, refl, List, [], ◌∷◌, ◌++◌, ℕ, zero, suc, ◌+◌, ◌*◌, ◌≤◌, ◌<◌, get_or, take, drop}
use Rattle.std.proofs.Common.{sym, ◌∙◌, append_assoc, append-nil, le_of_suc-le-suc, not-suc-le-zero, add-one, arith, lt-ltb, take_at, drop_at, drop-drop, take-suc, length-take-le}
use Rattle.std.proofs.Math.ListN.{length, length-append, length-drop}
use Rattle.sampleinfo.specs.declared.Info.{Info}
use Rattle.infos.specs.Words.{info_words, Typed, places_in, laid, put_info, get_info, put_infos, words_of_infos, infos_then}
use Rattle.infos.specs.BackLaws.{words_long, info-back}

pub length-words : (xs : List Info) → length (words_of_infos xs) ≡ 27 * length xs
unfolding words_of_infos
length-words [] = refl
length-words (x ∷ xs) = length-append (info_words x) (words_of_infos xs) ∙ omega (arith, words_long x, length-words xs)

pub words_append : (xs ys : List Info) → words_of_infos (xs ++ ys) ≡ words_of_infos xs ++ words_of_infos ys
unfolding words_of_infos
words_append [] ys = refl
words_append (x ∷ xs) ys = rw (words_append xs ys) (sym (append_assoc (info_words x) (words_of_infos xs) (words_of_infos ys)))

pub words_more : (xs : List Info) (x : Info) → words_of_infos (xs ++ (x ∷ [])) ≡ words_of_infos xs ++ info_words x
unfolding words_of_infos
words_more xs x = words_append xs (x ∷ []) ∙ rw append-nil

-- no info yet
pub then-none : (l : List ℕ) → l ≡ infos_then l []
unfolding infos_then words_of_infos
then-none l = refl

module _ (l : List ℕ) (xs : List Info) (h : length xs ≤ places_in l) where
  pub length-then : length (infos_then l xs) ≡ length l
  unfolding infos_then
  length-then = length-append (words_of_infos xs) (drop (27 * length xs) l) ∙ omega (arith, length-words xs, length-drop (27 * length xs) l)

-- one more
pub put-more : (l : List ℕ) (xs : List Info) (x : Info) → length xs < places_in l → put_info (infos_then l xs) (length xs) x ≡ infos_then l (xs ++ (x ∷ []))
unfolding put_info laid infos_then
put-more l xs x h =
    let n : ℕ = 27 * length xs in
    let front : length (words_of_infos xs) ≡ n = length-words xs in
    let room : length xs < places_in (infos_then l xs) = rw (length-then l xs (omega arith)) h in
    let rest : drop (n + 27) (words_of_infos xs ++ drop n l) ≡ drop (n + 27) l =
    sym (drop-drop 27 n (words_of_infos xs ++ drop n l)) ∙ rw (drop_at (words_of_infos xs) (drop n l) n front) (drop-drop 27 n l) in
    let more : 27 * length (xs ++ (x ∷ [])) ≡ n + 27 = omega (arith, length-append xs (x ∷ [])) in
    rw (lt-ltb (length xs) (places_in (infos_then l xs)) room, words_long x, rest, take_at (words_of_infos xs) (drop n l) n front, more, words_more xs x)

-- a turn of the loop that writes xs: the first i stand there, and the next one goes in
pub put-turn : (l now : List ℕ) (xs : List Info) (i : ℕ) (x d : Info) → now ≡ infos_then l (take i xs) → x ≡ get_or xs i d → i < length xs → length xs ≤ places_in l
    → put_info now i x ≡ infos_then l (take (i + 1) xs)
put-turn l now xs i x d e q h k =
    let n : length (take i xs) ≡ i = length-take-le i xs (omega arith) in
    let more : put_info (infos_then l (take i xs)) (length (take i xs)) x ≡ infos_then l (take i xs ++ (x ∷ [])) = put-more l (take i xs) x (omega arith) in
    rw (e, add-one i, take-suc xs i d h, ← q) (rw n at more)

-- all of them, from the first place on: their words, and then what stood behind
put_rest : (l : List ℕ) (xs ys : List Info) → length xs + length ys ≤ places_in l → put_infos (infos_then l xs) (length xs) ys ≡ infos_then l (xs ++ ys)
unfolding put_infos
put_rest l xs [] h = rw append-nil
put_rest l xs (y ∷ ys) h =
    let n : length (xs ++ (y ∷ [])) ≡ length xs + 1 = length-append xs (y ∷ []) in
    let more : put_infos (infos_then l (xs ++ (y ∷ []))) (length (xs ++ (y ∷ []))) ys ≡ infos_then l ((xs ++ (y ∷ [])) ++ ys) = put_rest l (xs ++ (y ∷ [])) ys (omega arith) in
    rw (put-more l xs y (omega arith), ← n) (more ∙ rw append_assoc)

pub put_all : (l : List ℕ) (xs : List Info) → length xs ≤ places_in l → put_infos l 0 xs ≡ words_of_infos xs ++ drop (27 * length xs) l
unfolding infos_then
put_all l xs h = rw (then-none l) (put_rest l [] xs (omega arith))

-- ---- got back

words-split : (xs : List Info) (i : ℕ) (d : Info) → i < length xs → words_of_infos xs ≡ words_of_infos (take i xs) ++ (info_words (get_or xs i d) ++ words_of_infos (drop (suc i) xs))
unfolding words_of_infos
words-split [] i d h = absurd (not-suc-le-zero h)
words-split (x ∷ xs) zero d h = refl
words-split (x ∷ xs) (suc i) d h = rw (words-split xs i d (le_of_suc-le-suc h)) (sym (append_assoc (info_words x) (words_of_infos (take i xs)) _))

-- what stands at a place is the info that was put there
pub get_at : (l : List ℕ) (xs : List Info) (i : ℕ) (d : Info) → i < length xs → length xs ≤ places_in l → Typed (get_or xs i d) → get_info (infos_then l xs) i ≡ get_or xs i d
unfolding get_info infos_then
get_at l xs i d h k t =
    let a : List ℕ = words_of_infos (take i xs) in
    let n : length a ≡ 27 * i = length-words (take i xs) ∙ rw (length-take-le i xs (omega arith)) in
    let r : List ℕ = words_of_infos (drop (suc i) xs) ++ drop (27 * length xs) l in
    let room : i < places_in (infos_then l xs) = rw (length-then l xs k) (omega arith) in
    let split : infos_then l xs ≡ a ++ (info_words (get_or xs i d) ++ r) =
    rw (words-split xs i d h, append_assoc a _ (drop (27 * length xs) l), append_assoc (info_words (get_or xs i d)) _ _) in
    rw (lt-ltb i (places_in (infos_then l xs)) room, split, ← n) (info-back (get_or xs i d) t a r)
