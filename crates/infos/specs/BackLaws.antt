-- The words of an info lose nothing: what was put is got back.
use Rattle.std.specs.Prelude.{◌≡◌, length, get_or, take, replicate}
use Rattle.std.proofs.Math.Path.{refl}
use Rattle.std.proofs.Common.{sym, ap, ◌∙◌, arith, lt-ltb, length-append, length-drop, get_or-append-add, length-take-le}
use mathlib.Core.List.{List, [], ◌∷◌, ◌++◌, append_assoc}
use Prim.Native.Nat.{ℕ, suc, ◌+◌, ◌*◌, ◌%◌, ◌<◌, ◌^◌}
use Rattle.std.proofs.Math.ListN.{drop}
use Rattle.std.proofs.Math.Seq.{take_at, drop_at, drop-drop}
use Rattle.sampleinfo.specs.States.{kind_of, handle_of}
use Rattle.sampleinfo.specs.StateLaws.{sample-back, view-back, of-bit-bit}
use Rattle.sampleinfo.specs.Counts.{counts, total, disposed_count, no_writers_count}
use Rattle.sampleinfo.specs.Samples.{total_of}
use Rattle.sampleinfo.specs.declared.NotAliveGenerationCounts.{NotAliveGenerationCounts}
use Rattle.sampleinfo.specs.declared.InstanceMetaData.{InstanceMetaData}
use Rattle.sampleinfo.specs.declared.Body.{Body}
use Rattle.sampleinfo.specs.declared.Body.TheVariants.{Value, Dispose}
use Rattle.sampleinfo.specs.declared.Sample.{Sample}
use Rattle.sampleinfo.specs.declared.Info.{Info}
use Rattle.infos.specs.declared.Ranking.{Ranking}
use Rattle.infos.specs.Infos.{ranks_from, info_from}
use Rattle.infos.specs.Words.{body_of_words, bytes_of, writer_words, info_words, Typed, places_in, laid, put_info, info_in, get_info}
use Rattle.infos.specs.RankLaws.{rank-back, mag-rank}
use Rattle.infos.specs.PutLaws.{writer-is}

-- ---- part by part

low : (n : ℕ) → n < 2 ^ 32 → n % 2 ^ 32 ≡ n
low n h = omega arith

body_back : (b : Body) → handle_of b < 2 ^ 32 → body_of_words (kind_of b) (handle_of b % 2 ^ 32) ≡ b
body_back (Value h) k = ap Value (low h k)
body_back (Dispose h) k = ap Dispose (low h k)

counts-back : (c : NotAliveGenerationCounts) → disposed_count c < 2 ^ 32 → no_writers_count c < 2 ^ 32 → counts (disposed_count c % 2 ^ 32) (no_writers_count c % 2 ^ 32) ≡ c
counts-back c h k = λ i. counts (low (disposed_count c) h i) (low (no_writers_count c) k i)

bytes_back : (w : List ℕ) → ((i : ℕ) → get_or w i 0 < 256) → bytes_of w ≡ w
bytes_back [] h = refl
bytes_back (x ∷ w) h =
    let e : x % 256 ≡ x = omega (arith, h 0) in
    rw (e, bytes_back w (λ i. h (suc i)))

same-info : (x y : Info) → x.body ≡ y.body → x.sample_state ≡ y.sample_state → x.view_state ≡ y.view_state
    → x.instance_state ≡ y.instance_state → x.generation_counts ≡ y.generation_counts → x.sample_rank ≡ y.sample_rank
    → x.generation_rank ≡ y.generation_rank → x.absolute_generation_rank ≡ y.absolute_generation_rank
    → x.publication_handle ≡ y.publication_handle → x.sequence_number ≡ y.sequence_number → x ≡ y
same-info x y a b c d e f g h k m = λ i. record {
  body = a i;
  sample_state = b i;
  view_state = c i;
  instance_state = d i;
  generation_counts = e i;
  sample_rank = f i;
  generation_rank = g i;
  absolute_generation_rank = h i;
  publication_handle = k i;
  sequence_number = m i;
}

-- ---- the whole info, behind any words

writer-long : (w : List ℕ) → length (writer_words w) ≡ 16
writer-long w = length-take-le 16 (w ++ replicate 16 0) (omega (arith, length-append w (replicate 16 0)))

pub words_long : (x : Info) → length (info_words x) ≡ 27
unfolding info_words
words_long x = omega (arith, writer-long x.publication_handle)

module _ (x : Info) (t : Typed x) (a r : List ℕ) where
  word : (k : ℕ) → get_or (a ++ (info_words x ++ r)) (length a + k) 0 ≡ get_or (info_words x ++ r) k 0
  word k = get_or-append-add a (info_words x ++ r) k 0

  writer : bytes_of (take 16 (drop (length a + 11) (a ++ (info_words x ++ r)))) ≡ x.publication_handle
  unfolding info_words
  writer =
      let w : List ℕ = x.publication_handle in
      rw (← drop-drop 11 (length a) (a ++ (info_words x ++ r)), drop_at a (info_words x ++ r) (length a) refl, take_at (writer_words w) r 16 (writer-long w), writer-is w t.sixteen)
      (bytes_back w t.bytes)

  pub info-back : info_in (a ++ (info_words x ++ r)) (length a) ≡ x
  unfolding info_in info_words
  info-back =
      same-info (info_in (a ++ (info_words x ++ r)) (length a)) x
      (rw (word 1, word 0) (body_back x.body t.handle))
      (rw (word 2) (sample-back x.sample_state))
      (rw (word 3) (view-back x.view_state))
      (rw (word 4) (of-bit-bit x.instance_state))
      (rw (word 5, word 6) (counts-back x.generation_counts t.disposed t.no_writers))
      (word 7)
      (rw (word 8) (rank-back x.generation_rank t.generation))
      (rw (word 9) (rank-back x.absolute_generation_rank t.absolute))
      writer
      (word 10)

-- two infos with the same words are the same
pub words-tell : (x y : Info) → Typed x → Typed y → info_words x ≡ info_words y → x ≡ y
words-tell x y t u e = sym (info-back x t [] []) ∙ ap (λ (w : List ℕ). info_in (w ++ []) 0) e ∙ info-back y u [] []

-- ---- got after it was put

module _ (l : List ℕ) (p : ℕ) (x : Info) (h : p < places_in l) where
  front : length (take (27 * p) l) ≡ 27 * p
  front = length-take-le (27 * p) l (omega arith)

  pub put_is : put_info l p x ≡ take (27 * p) l ++ (info_words x ++ drop (27 * p + 27) l)
  unfolding put_info laid
  put_is = rw (lt-ltb p (places_in l) h, words_long x) (append_assoc (take (27 * p) l) (info_words x) (drop (27 * p + 27) l))

  pub length-put : length (put_info l p x) ≡ length l
  length-put =
      rw put_is
      (omega (arith, front, words_long x, length-append (take (27 * p) l) (info_words x ++ drop (27 * p + 27) l), length-append (info_words x) (drop (27 * p + 27) l), length-drop (27 * p + 27) l))

  pub get-put : Typed x → get_info (put_info l p x) p ≡ x
  unfolding get_info
  get-put t =
      let b : p < places_in (put_info l p x) = rw length-put h in
      rw (lt-ltb p (places_in (put_info l p x)) b, put_is) (ap (info_in (take (27 * p) l ++ (info_words x ++ drop (27 * p + 27) l))) (sym front) ∙ info-back x t (take (27 * p) l) (drop (27 * p + 27) l))

-- ---- the info of a sample is of its types, where the records that it is made from are

pub typed-from : (s : Sample) (i : InstanceMetaData) (l : Ranking) (follow : ℕ)
    → handle_of s.body < 2 ^ 32 → disposed_count s.generation_counts < 2 ^ 32 → no_writers_count s.generation_counts < 2 ^ 32
    → length s.writer_guid ≡ 16 → ((k : ℕ) → get_or s.writer_guid k 0 < 256)
    → total l.mrs_generations < 2 ^ 33 → total l.mrsic_generations < 2 ^ 33 → Typed (info_from s i (ranks_from l follow s.generation_counts))
unfolding info_from ranks_from
typed-from s i l follow h d n w b m c = record {
  handle = h;
  disposed = d;
  no_writers = n;
  generation = record { sfits = mag-rank (total l.mrsic_generations) (total_of s) (2 ^ 63) (omega arith) (omega arith) };
  absolute = record { sfits = mag-rank (total l.mrs_generations) (total_of s) (2 ^ 63) (omega arith) (omega arith) };
  sixteen = w;
  bytes = b;
}
