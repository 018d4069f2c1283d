-- The table past its end, and the loops over it, as the code meets them.
use Rattle.std.specs.Prelude.{◌≡◌, refl, Bool, true, false, List, [], ◌∷◌, ◌++◌, ℕ, zero, suc, ◌+◌, ◌-◌, ◌≤◌, ◌<◌, length, drop, set, replicate}
use Rattle.std.proofs.Common.{sym, ap, ◌∙◌, append-nil, add-one, arith, not-suc-le-zero, le_of_suc-le-suc, length-set}
use Rattle.std.proofs.Math.Seq.{set_out, drop-length}
use Rattle.sampleinfo.specs.Samples.{empty_sample, marked_read}
use Rattle.sampleinfo.specs.declared.Sample.{Sample}
use Rattle.samples.specs.Table.{peek_at, swapped, touched, empty_table, put_seen, gathered}

module _ (t : List Sample) (i : ℕ) (h : length t ≤ i) where
  pub set_past : (s : Sample) → t ≡ set t i s
  set_past s = sym (set_out t i s h)

pub swap-done : (t u v w : List Sample) (old slot : ℕ) (s : Sample) → u ≡ set t old empty_sample → v ≡ set u slot s → v ≡ swapped t old slot s
swap-done t u v w old slot s e f = f ∙ ap (λ (x : List Sample). set x slot s) e

module _ (t : List Sample) (i : ℕ) where
  pub touch-past : (b : Bool) → length t ≤ i → t ≡ touched t i b
  touch-past b h = sym (set_out t i _ h)

  pub touch-take : (u : List Sample) (b : Bool) → u ≡ set t i empty_sample → b ≡ true → u ≡ touched t i b
  touch-take u b e h = rw h e

  pub touch-read : (u : List Sample) (b : Bool) → u ≡ set t i (marked_read (peek_at t i)) → b ≡ false → u ≡ touched t i b
  touch-read u b e h = rw h e

-- ---- every record the empty one

fill_suc : (n : ℕ) (t : List Sample) → n < length t → set (replicate n empty_sample ++ drop n t) n empty_sample ≡ replicate (suc n) empty_sample ++ drop (suc n) t
fill_suc n [] l = absurd (not-suc-le-zero l)
fill_suc zero (x ∷ t) l = refl
fill_suc (suc n) (x ∷ t) l = ap (λ (r : List Sample). empty_sample ∷ r) (fill_suc n t (le_of_suc-le-suc l))

pub fill-turn : (t u v : List Sample) (i : ℕ) → u ≡ replicate i empty_sample ++ drop i t → i < length u → length u ≡ length t → v ≡ set u i empty_sample
    → v ≡ replicate (i + 1) empty_sample ++ drop (i + 1) t
fill-turn t u v i e h l q = q ∙ rw (e, add-one) (fill_suc i t (omega arith))

pub fill-length : (t u v : List Sample) (i : ℕ) → length u ≡ length t → v ≡ set u i empty_sample → length v ≡ length t
fill-length t u v i l q = ap length q ∙ length-set u i empty_sample ∙ l

pub fill_end : (t u : List Sample) (i : ℕ) → u ≡ replicate i empty_sample ++ drop i t → i ≤ length u → length u ≤ i → length u ≡ length t → u ≡ replicate (length t) empty_sample
fill_end t u i e h k l =
    let q : i ≡ length t = omega arith in
    e ∙ rw (q, drop-length t) (append-nil (replicate (length t) empty_sample))

-- "256 copies of the empty record"
pub fill-256 : (t u : List Sample) (i : ℕ) → u ≡ replicate i empty_sample ++ drop i t → i ≤ length u → length u ≤ i → length u ≡ length t
    → length t ≡ 256 → u ≡ empty_table
fill-256 t u i e h k l n = fill_end t u i e h k l ∙ ap (λ (j : ℕ). replicate j empty_sample) n

-- ---- three numbers of each record

pub gather-turn : (t : List Sample) (l m all : List ℕ) (i : ℕ) (s : Sample) → gathered (256 - i) i t l ≡ all → i < 256 → s ≡ peek_at t i → m ≡ put_seen l i s
    → gathered (256 - (i + 1)) (i + 1) t m ≡ all
unfolding gathered
gather-turn t l m all i s inv h e q =
    let r : 256 - i ≡ suc (256 - (i + 1)) = omega arith in
    ap (gathered (256 - (i + 1)) (i + 1) t) (q ∙ ap (put_seen l i) e) ∙ sym (ap (λ (k : ℕ). gathered k i t l) r) ∙ inv

pub gather-end : (t : List Sample) (l all : List ℕ) (i : ℕ) → gathered (256 - i) i t l ≡ all → 256 ≤ i → l ≡ all
unfolding gathered
gather-end t l all i inv h = let r : 256 - i ≡ 0 = omega arith in sym (ap (λ (k : ℕ). gathered k i t l) r) ∙ inv
