-- An info that is read back off the words prints the line of the info that was put there, whatever bytes its writer has: no line shows them.
use Rattle.std.specs.Prelude.{◌≡◌, refl, replicate}
use Rattle.std.proofs.Math.Path.{sym, ap}
use Rattle.std.proofs.Common.{◌∙◌, not-suc-le-zero, le_of_suc-le-suc, arith, lt-ltb, take-append-drop, get_or-append-add, drop-cons, length-take-le}
use mathlib.Core.List.{List, [], ◌∷◌, ◌++◌, append_assoc}
use Prim.Native.Nat.{ℕ, zero, suc, ◌*◌, ◌≤◌, ◌<◌}
use Rattle.std.proofs.Math.ListN.{length, get_or, take, drop, length-append}
use Rattle.lists.specs.Every.{Every}
use Rattle.sampleinfo.specs.declared.Info.{Info}
use Rattle.infos.specs.Words.{info_words, info_in, no_info, Typed, places_in, get_info, words_of_infos, infos_then}
use Rattle.infos.specs.BackLaws.{info-back}
use Rattle.infos.specs.FlatLaws.{length-words, words_append}
use Rattle.printing.specs.Printout.{info_line}
use Rattle.bounds.specs.Small.{SmallInfo}
use Rattle.answers.specs.Sizes.{info_size}
use Rattle.answers.specs.Says.{Shown}

-- ---- one info

-- x with a writer of zeros
abbrev unwritten : Info → Info
unwritten x = record {
  body = x.body;
  sample_state = x.sample_state;
  view_state = x.view_state;
  instance_state = x.instance_state;
  generation_counts = x.generation_counts;
  sample_rank = x.sample_rank;
  generation_rank = x.generation_rank;
  absolute_generation_rank = x.absolute_generation_rank;
  publication_handle = replicate 16 0;
  sequence_number = x.sequence_number;
}

zeros : (n i : ℕ) → ◌≡◌ {A = ℕ} (get_or (replicate n 0) i 0) 0
zeros zero i = refl
zeros (suc n) zero = refl
zeros (suc n) (suc i) = zeros n i

typed : (x : Info) → SmallInfo x → Typed (unwritten x)
typed x s = record {
  handle = s.handle;
  disposed = s.disposed;
  no_writers = s.no_writers;
  generation = s.generation;
  absolute = s.absolute;
  sixteen = refl;
  bytes = λ i. omega (arith, zeros 16 i);
}

-- the words that a line shows stand before those of the writer
line-back : (x : Info) (a r : List ℕ) → SmallInfo x → info_line (info_in (a ++ (info_words x ++ r)) (length a)) ≡ info_line x
unfolding info_in info_words
line-back x a r s =
    let same : info_line (info_in (a ++ (info_words x ++ r)) (length a)) ≡ info_line (info_in (a ++ (info_words (unwritten x) ++ r)) (length a)) = simp get_or-append-add in
    same ∙ ap info_line (info-back (unwritten x) (typed x s) a r)

-- ---- the infos that stand first in the words

every-at : (xs : List Info) (i : ℕ) → Every SmallInfo xs → i < length xs → SmallInfo (get_or xs i no_info)
unfolding Every
every-at [] i e h = absurd (not-suc-le-zero h)
every-at (x ∷ xs) zero e h = e.0
every-at (x ∷ xs) (suc i) e h = every-at xs i e.1 (le_of_suc-le-suc h)

module _ (n : ℕ) (is : List ℕ) (xs : List Info) (s : Shown n is xs) where
  -- each info has 27 words of its own
  pub few : n ≤ places_in is
  unfolding infos_then
  few =
      let whole : length is ≡ length (words_of_infos xs ++ drop (info_size * length xs) is) = ap length s.words in
      omega (arith, s.count, whole, length-append (words_of_infos xs) (drop (info_size * length xs) is), length-words xs)

  pub line_at : (p : ℕ) → p < n → info_line (get_info is p) ≡ info_line (get_or xs p no_info)
  unfolding get_info infos_then words_of_infos
  line_at p h =
      let k : p < length xs = omega (arith, s.count) in
      let x : Info = get_or xs p no_info in
      let a : List ℕ = words_of_infos (take p xs) in
      let long : length a ≡ info_size * p = length-words (take p xs) ∙ rw (length-take-le p xs (omega arith)) in
      let rest : List ℕ = words_of_infos (drop (suc p) xs) ++ drop (info_size * length xs) is in
      let apart : xs ≡ take p xs ++ x ∷ drop (suc p) xs = sym (take-append-drop p xs) ∙ rw (drop-cons xs p no_info k) in
      let words : words_of_infos xs ≡ a ++ (info_words x ++ words_of_infos (drop (suc p) xs)) = ap words_of_infos apart ∙ words_append (take p xs) (x ∷ drop (suc p) xs) in
      let split : is ≡ a ++ (info_words x ++ rest) =
      s.words ∙ ap (λ (w : List ℕ). w ++ drop (info_size * length xs) is) words ∙ simp append_assoc in
      rw (lt-ltb p (places_in is) (omega (arith, few))) (ap (λ (l : List ℕ). info_line (info_in l (info_size * p))) split ∙ rw (← long) (line-back x a rest (every-at xs p s.small k)))
