-- No contract of this crate leaves a choice, and the words lose nothing of the entries.
use Rattle.std.specs.Prelude.{◌≡◌, List, ℕ, ◌<◌, length, get_or}
use Rattle.std.proofs.Common.{sym, ap, ◌∙◌, arith, ext_get_or}
use Rattle.model.specs.Topic.{Entry}
use Rattle.changes.specs.declared.Row.{Row}
use Rattle.changes.specs.Places.{none, row_of, guid_of, Writer, Written, Holds}
use Rattle.changes.specs.WordLaws.{row-at}
use Rattle.changes.specs.ResultLaws.{guid-back}

-- each contract says of the answer, or of the words or results at exit, that they are one term of the entries
pub one-outcome : {A : Type 0} (x a b : A) → a ≡ x → b ≡ x → a ≡ b
one-outcome x a b p q = p ∙ sym q

-- a row is of one entry alone
pub row_one : (d e : Entry) → Writer d.writer → Writer e.writer → row_of d ≡ row_of e → d ≡ e
row_one d e p q h =
    let w : d.writer ≡ e.writer = sym (guid-back d.writer p) ∙ ap (λ (x : Row). guid_of x.low x.high) h ∙ guid-back e.writer q in
    same d.key e.key d.writer e.writer d.seq e.seq d.handle e.handle d.size e.size (ap (λ (x : Row). x.key) h) w (ap (λ (x : Row). x.seq) h) (ap (λ (x : Row). x.handle) h) (ap (λ (x : Row). x.size) h)
  where
    same : (k l : ℕ) (v w : List ℕ) (s t h i a b : ℕ) → k ≡ l → v ≡ w → s ≡ t → h ≡ i → a ≡ b
        → ◌≡◌ {A = Entry} (record { key = k; writer = v; seq = s; handle = h; size = a }) (record { key = l; writer = w; seq = t; handle = i; size = b })
    same k l v w s t h i a b p q u x y = rw (p, q, u, x, y)

-- header and words are those of one list of entries alone
pub words-one : (es fs : List Entry) (held : ℕ) (ws : List ℕ) → Holds es held ws → Holds fs held ws → Written es → Written fs → es ≡ fs
unfolding Written
words-one es fs held ws p q v w = ext_get_or none es fs (sym p.number ∙ q.number) at_i
  where
    at_i : (i : ℕ) → i < length es → get_or es i none ≡ get_or fs i none
    at_i i h =
        let m : i < held = omega (arith, p.number) in
        row_one (get_or es i none) (get_or fs i none) (v i h) (w i (omega (arith, p.number, q.number))) (sym (row-at p i m) ∙ row-at q i m)
