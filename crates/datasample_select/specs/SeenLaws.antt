-- What was gathered of the table's records is what a choice asks of them.
use Rattle.std.specs.Prelude.{◌≡◌, length, get_or, set}
use Rattle.std.proofs.Math.Path.{refl}
use Rattle.std.proofs.Common.{◌∙◌, subst, arith, length-set, get_or-set_same, get_or-set_other}
use mathlib.Core.List.{List}
use Prim.Native.Nat.{ℕ, zero, suc, ◌+◌, ◌*◌, ◌≤◌, ◌<◌}
use Rattle.std.proofs.Math.Decide.{ℕ_discrete}
use Rattle.sampleinfo.specs.States.{sample_bit}
use Rattle.sampleinfo.specs.Samples.{sample_state_of, total_of}
use Rattle.sampleinfo.specs.declared.Sample.{Sample}
use Rattle.samples.specs.Table.{peek_at, put_seen, gathered}
use Rattle.select.specs.Choice.{SeenAt, Seen}

module _ (l : List ℕ) (j : ℕ) (s : Sample) where
  seen-long : length (put_seen l j s) ≡ length l
  seen-long = simp length-set

  -- the words before those of slot j stay
  seen-before : (i : ℕ) → i < 3 * j → get_or (put_seen l j s) i 0 ≡ get_or l i 0
  seen-before i h =
      get_or-set_other (set (set l (3 * j) s.sequence_number) (3 * j + 1) (sample_bit (sample_state_of s))) (3 * j + 2) i (total_of s) 0 (λ e. omega arith)
      ∙ get_or-set_other (set l (3 * j) s.sequence_number) (3 * j + 1) i (sample_bit (sample_state_of s)) 0 (λ e. omega arith)
      ∙ get_or-set_other l (3 * j) i s.sequence_number 0 (λ e. omega arith)

  module _ (h : 3 * j + 2 < length l) where
    abbrev one : List ℕ
    one = set l (3 * j) s.sequence_number

    abbrev two : List ℕ
    two = set one (3 * j + 1) (sample_bit (sample_state_of s))

    seen-seq : get_or (put_seen l j s) (3 * j) 0 ≡ s.sequence_number
    seen-seq = get_or-set_other two (3 * j + 2) (3 * j) (total_of s) 0 (λ e. omega arith)
        ∙ get_or-set_other one (3 * j + 1) (3 * j) (sample_bit (sample_state_of s)) 0 (λ e. omega arith)
        ∙ get_or-set_same l (3 * j) s.sequence_number 0 (omega arith)

    seen-state : get_or (put_seen l j s) (3 * j + 1) 0 ≡ sample_bit (sample_state_of s)
    seen-state = get_or-set_other two (3 * j + 2) (3 * j + 1) (total_of s) 0 (λ e. omega arith)
        ∙ get_or-set_same one (3 * j + 1) (sample_bit (sample_state_of s)) 0 (omega (arith, length-set l (3 * j) s.sequence_number))

    seen-total : get_or (put_seen l j s) (3 * j + 2) 0 ≡ total_of s
    seen-total = get_or-set_same two (3 * j + 2) (total_of s) 0
        (omega (arith, length-set l (3 * j) s.sequence_number, length-set one (3 * j + 1) (sample_bit (sample_state_of s))))

module _ (t : List Sample) where
  gathered-before : (n j : ℕ) (l : List ℕ) (i : ℕ) → i < 3 * j → get_or (gathered n j t l) i 0 ≡ get_or l i 0
  unfolding gathered
  gathered-before zero j l i h = refl
  gathered-before (suc n) j l i h = gathered-before n (j + 1) (put_seen l j (peek_at t j)) i (omega arith) ∙ seen-before l j (peek_at t j) i h

  gathered-at : (n j : ℕ) (l : List ℕ) (k : ℕ) → 3 * (j + n) ≤ length l → j ≤ k → k < j + n → SeenAt t (gathered n j t l) k
  unfolding gathered
  gathered-at zero j l k f a b = absurd (omega arith)
  gathered-at (suc n) j l k f a b =
      go (ℕ_discrete j k) (λ e. gathered-at n (j + 1) (put_seen l j (peek_at t j)) k (omega (arith, seen-long l j (peek_at t j))) (omega arith) (omega arith))
    where
      next : List ℕ
      next = put_seen l j (peek_at t j)

      here : SeenAt t (gathered n (j + 1) t next) j
      here = record {
        seq = gathered-before n (j + 1) next (3 * j) (omega arith) ∙ seen-seq l j (peek_at t j) (omega arith);
        state = gathered-before n (j + 1) next (3 * j + 1) (omega arith) ∙ seen-state l j (peek_at t j) (omega arith);
        total = gathered-before n (j + 1) next (3 * j + 2) (omega arith) ∙ seen-total l j (peek_at t j) (omega arith);
      }

      go : Dec (j ≡ k) → ((j ≡ k → ⊥) → SeenAt t (gathered n (j + 1) t next) k) → SeenAt t (gathered n (j + 1) t next) k
      go (yes e) f = subst (λ (i : ℕ). SeenAt t (gathered n (j + 1) t next) i) e here
      go (no e) f = f e

  pub gathered-seen : (l : List ℕ) → length l ≡ 768 → Seen t (gathered 256 0 t l)
  gathered-seen l h k b = gathered-at 256 0 l k (omega arith) (omega arith) (omega arith)
