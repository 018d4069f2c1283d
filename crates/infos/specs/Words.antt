-- An info as 27 words, and infos as words of a buffer: 0 handle, 1 kind, 2 sample state, 3 view, 4 instance state, 5 and 6 the counts,
-- 7 sample_rank, 8 generation_rank, 9 absolute_generation_rank, 10 sequence number, 11 to 26 the bytes of the writer.
use Rattle.std.specs.Prelude.{cond, List, [], ◌∷◌, ◌++◌, map, ◌≡◌, ℕ, suc, ◌+◌, ◌-◌, ◌*◌, ◌/◌, ◌%◌, ◌^◌, ◌<◌, ltb, eqb, length, get_or, take, drop, replicate, ℤ, pos, negsuc}
use Rattle.std.specs.Int.{w64}
use Rattle.std.proofs.Common.{SFits}
use Rattle.sampleinfo.specs.States.{sample_bit, sample_of_bit, view_bit, view_of_bit, instance_bit, instance_of_bit, kind_of, handle_of}
use Rattle.sampleinfo.specs.Counts.{counts, zero, disposed_count, no_writers_count}
use Rattle.sampleinfo.specs.declared.NotAliveGenerationCounts.{NotAliveGenerationCounts}
use Rattle.sampleinfo.specs.declared.SampleState.TheVariants.{NotRead}
use Rattle.sampleinfo.specs.declared.ViewState.TheVariants.{NotNew}
use Rattle.sampleinfo.specs.declared.InstanceState.TheVariants.{Alive}
use Rattle.sampleinfo.specs.declared.Body.{Body}
use Rattle.sampleinfo.specs.declared.Body.TheVariants.{Value, Dispose}
use Rattle.sampleinfo.specs.declared.Info.{Info}

-- ---- from an info to words

-- a rank in two's complement: "Both may be negative"
abbrev pub word_of_rank : ℤ → ℕ
word_of_rank (pos n) = n
word_of_rank (negsuc n) = 2 ^ 64 - suc n

-- what an info line has, in its order, and the sequence number
abbrev pub state_words : Info → List ℕ
state_words x = handle_of x.body ∷ kind_of x.body ∷ sample_bit x.sample_state ∷ view_bit x.view_state ∷ instance_bit x.instance_state ∷ []

abbrev pub rank_words : Info → List ℕ
rank_words x =
    disposed_count x.generation_counts ∷ no_writers_count x.generation_counts
    ∷ x.sample_rank ∷ word_of_rank x.generation_rank ∷ word_of_rank x.absolute_generation_rank
    ∷ x.sequence_number ∷ []

abbrev pub head_words : Info → List ℕ
head_words x = state_words x ++ rank_words x

-- "writer 16 bytes": always 16 words
abbrev pub writer_words : List ℕ → List ℕ
writer_words w = take 16 (w ++ replicate 16 0)

unfoldable pub info_words : Info → List ℕ
info_words x = head_words x ++ writer_words x.publication_handle

-- ---- from words to an info, whatever they hold

abbrev pub rank_of_word : ℕ → ℤ
rank_of_word w = cond (ltb w (2 ^ 63)) (pos w) (negsuc (2 ^ 64 - suc w))

abbrev pub body_of_words : ℕ → ℕ → Body
body_of_words kind handle = cond (eqb kind 2) (Dispose handle) (Value handle)

abbrev pub bytes_of : List ℕ → List ℕ
bytes_of ws = map (λ w. w % 256) ws

abbrev pub counts_in : List ℕ → ℕ → NotAliveGenerationCounts
counts_in l at = counts (get_or l (at + 5) 0 % 2 ^ 32) (get_or l (at + 6) 0 % 2 ^ 32)

-- the info of the 27 words from at on
unfoldable pub info_in : List ℕ → ℕ → Info
info_in l at = record {
  body = body_of_words (get_or l (at + 1) 0) (get_or l (at + 0) 0 % 2 ^ 32);
  sample_state = sample_of_bit (get_or l (at + 2) 0);
  view_state = view_of_bit (get_or l (at + 3) 0);
  instance_state = instance_of_bit (get_or l (at + 4) 0);
  generation_counts = counts_in l at;
  sample_rank = get_or l (at + 7) 0;
  generation_rank = rank_of_word (get_or l (at + 8) 0);
  absolute_generation_rank = rank_of_word (get_or l (at + 9) 0);
  publication_handle = bytes_of (take 16 (drop (at + 11) l));
  sequence_number = get_or l (at + 10) 0;
}

-- past the end: all numbers 0, a value's body
abbrev pub no_info : Info
no_info = record {
  body = Value 0;
  sample_state = NotRead;
  view_state = NotNew;
  instance_state = Alive;
  generation_counts = zero;
  sample_rank = 0;
  generation_rank = pos 0;
  absolute_generation_rank = pos 0;
  publication_handle = replicate 16 0;
  sequence_number = 0;
}

-- what the types say of an info: a handle and counts of 32 bits, ranks of 64, 16 bytes
pub record Typed (x : Info) : Type 0 where
  pub handle : handle_of x.body < 2 ^ 32
  pub disposed : disposed_count x.generation_counts < 2 ^ 32
  pub no_writers : no_writers_count x.generation_counts < 2 ^ 32
  pub generation : SFits w64 x.generation_rank
  pub absolute : SFits w64 x.absolute_generation_rank
  pub sixteen : length x.publication_handle ≡ 16
  pub bytes : (i : ℕ) → get_or x.publication_handle i 0 < 256

-- ---- a buffer of infos

-- how many infos a buffer has room for
abbrev pub places_in : List ℕ → ℕ
places_in l = length l / 27

-- l with s from word at on
unfoldable pub laid : List ℕ → ℕ → List ℕ → List ℕ
laid l at s = take at l ++ s ++ drop (at + length s) l

-- x at place p, words 27 p to 27 p + 26; where there is no room for the whole of it, nothing changes
unfoldable pub put_info : List ℕ → ℕ → Info → List ℕ
unfolding laid info_words
put_info l p x = cond (ltb p (places_in l)) (laid l (27 * p) (info_words x)) l

unfoldable pub get_info : List ℕ → ℕ → Info
unfolding info_in
get_info l p = cond (ltb p (places_in l)) (info_in l (27 * p)) no_info

-- x and those behind it at p and the places behind that, one after the other
unfoldable pub put_infos : List ℕ → ℕ → List Info → List ℕ
unfolding put_info
put_infos l p [] = l
put_infos l p (x ∷ xs) = put_infos (put_info l p x) (p + 1) xs

-- infos one after the other
unfoldable pub words_of_infos : List Info → List ℕ
unfolding info_words
words_of_infos [] = []
words_of_infos (x ∷ xs) = info_words x ++ words_of_infos xs

-- "Result places past the answer keep what they held."
unfoldable pub infos_then : List ℕ → List Info → List ℕ
unfolding words_of_infos
infos_then l xs = words_of_infos xs ++ drop (27 * length xs) l
