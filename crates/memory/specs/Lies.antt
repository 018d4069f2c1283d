-- What lies in memory for a cache of the model: the header, the index and the sample table are functions of it.
use Rattle.std.specs.Prelude.{◌≡◌, List, ℕ, length}
use Rattle.std.proofs.Common.{sym, ap, ◌∙◌}
use Rattle.sampleinfo.specs.declared.Sample.{Sample}
use Rattle.slots.specs.FreeLaws.{Whole}
use Rattle.model.specs.Model.{Model}
use Rattle.index.specs.Memory.{Tied, shown, head_of, index_of}
use Rattle.index.specs.Keeping.{same_head}
use Rattle.index.specs.declared.Cache.{Cache}
use Rattle.index.specs.declared.Index.{Index}
use Rattle.refine.specs.Good.{Good}
use Rattle.refine.proofs.FitOf.{fit_of}
use Rattle.refine.specs.Layout.{store_of, table_of, sample_of, entries_of}
use Rattle.refine.specs.Tables.{length-slots}

pub record Lies (m : Model) (h : Cache) (ws : List ℕ) (t : List Sample) : Type 0 where
  pub head : shown h ≡ head_of (store_of m)
  pub words : ws ≡ index_of (store_of m)
  pub table : t ≡ table_of m

-- so the numbers are those of the model's store
pub tied : (m : Model) (h : Cache) (ws : List ℕ) (t : List Sample) → Good m → Lies m h ws t → Tied (store_of m) h ws
tied m h ws t g l = record { fit = fit_of m g; head = l.head; words = l.words }

-- the table has 256 records
pub table-long : (m : Model) (h : Cache) (ws : List ℕ) (t : List Sample) → Lies m h ws t → length t ≡ 256
unfolding table_of
table-long m h ws t l = ap length l.table ∙ length-slots sample_of (entries_of m)

-- one possible content: what lies in memory for a cache is determined. `Whole` of a header's free slots says that it has four words of 64 bits, as every
-- value of that type has
pub one-memory : (m : Model) (h k : Cache) (v w : List ℕ) (t u : List Sample) → Whole h.free → Whole k.free → Lies m h v t → Lies m k w u → (h ≡ k) × (v ≡ w) × (t ≡ u)
one-memory m h k v w t u p q a b = (same_head h k p q (a.head ∙ sym b.head), a.words ∙ sym b.words, a.table ∙ sym b.table)

made : Cache → List ℕ → Index
made h ws = record { head = h; words = ws }

same-index : (x y : Index) → x.head ≡ y.head → x.words ≡ y.words → x ≡ y
unfolding made
same-index x y e f = let whole : made x.head x.words ≡ made y.head y.words = rw (e, f) in whole

-- the same, of header and words in one
pub one-index : (m : Model) (x y : Index) (t u : List Sample) → Whole x.head.free → Whole y.head.free → Lies m x.head x.words t → Lies m y.head y.words u → (x ≡ y) × (t ≡ u)
one-index m x y t u p q a b =
    let z : (x.head ≡ y.head) × (x.words ≡ y.words) × (t ≡ u) = one-memory m x.head y.head x.words y.words t u p q a b in (same-index x y z.0 z.1, z.2)
