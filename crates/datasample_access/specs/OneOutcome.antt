-- Two outcomes of one call are equal: the answer, the header, the index, the table and the result buffer.
use Rattle.std.specs.Prelude.{◌≡◌, List, ℕ}
use Rattle.std.proofs.Common.{sym, ap, ◌∙◌}
use Rattle.slots.specs.FreeLaws.{Whole}
use Rattle.sampleinfo.specs.declared.Sample.{Sample}
use Rattle.model.specs.Model as M
use Rattle.model.specs.Model.{Answer, Step}
use Rattle.index.specs.Keeping.{same_head}
use Rattle.index.specs.declared.Cache.{Cache}
use Rattle.std.specs.declared.result.Result.{Result}
use Rattle.std.specs.declared.result.Result.TheVariants.{Ok, Err}
use Rattle.refusals.specs.NumberLaws.{same-refusal}
use Rattle.refusals.specs.declared.Refusal.{Refusal}
use Rattle.datasample_access.specs.Listed.{Told, Came}

one_told : (x : Answer) (a b : Result ℕ Refusal) (out p q : List ℕ) → Told x a out p → Told x b out q → (a ≡ b) × (p ≡ q)
one_told (M.infos xs) (Ok a) (Ok b) out p q h k = (ap Ok (h.0 ∙ sym k.0), h.1 ∙ sym k.1)
one_told (M.infos xs) (Ok a) (Err e) out p q h k = absurd k
one_told (M.infos xs) (Err e) b out p q h k = absurd h
one_told (M.refused n) (Ok a) b out p q h k = absurd h
one_told (M.refused n) (Err e) (Ok b) out p q h k = absurd k
one_told (M.refused n) (Err e) (Err f) out p q h k = (ap Err (same-refusal e f (h.0 ∙ sym k.0)), h.1 ∙ sym k.1)
one_told M.ok a b out p q h k = absurd h
one_told (M.added n s e) a b out p q h k = absurd h
one_told (M.selected ps) a b out p q h k = absurd h
one_told (M.next n) a b out p q h k = absurd h

-- the free words of a header are words of 64 bits each
pub one-outcome : (st : Step) (r q : Result ℕ Refusal) (h k : Cache) (v w : List ℕ) (t u : List Sample) (out a b : List ℕ) → Whole h.free → Whole k.free
    → Came st r h v t out a → Came st q k w u out b → (r ≡ q) × (h ≡ k) × (v ≡ w) × (t ≡ u) × (a ≡ b)
one-outcome st r q h k v w t u out a b f g m n =
    let one : (r ≡ q) × (a ≡ b) = one_told st.answer r q out a b m.answer n.answer in
    (one.0, same_head h k f g (m.lies.head ∙ sym n.lies.head), m.lies.words ∙ sym n.lies.words, m.lies.table ∙ sym n.lies.table, one.1)
