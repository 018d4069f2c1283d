use Rattle.std.proofs.Common.{◌≡◌, ℕ, List, length, get_or, rules}
use mir.Val.{Fits}
use mir.Syntax.{w8}
use Rattle.changes.specs.Places.{half, Writer}
use Rattle.changes.specs.WriterLaws.{low-half, high-half}
use Rattle.changes.proofs.RowFromKept.from.Goals as goal

writer : (guid : List ℕ) → length guid ≡ 16 → ((i : ℕ) → Fits w8 (get_or guid i 0)) → Writer guid
writer guid long fits = record { sixteen = long; bytes = λ i. (fits i).fits }

pub returns : goal.returns
returns c =
    let w : Writer c.args.kept.change.writer_guid = writer _ (search rules) (search rules) in
    let low : c.from_le_bytes.result ≡ half 0 c.args.kept.change.writer_guid = low-half _ w _ c.as_chunks.ensures.front _ _ c.from_le_bytes.ensures in
    let high : c.from_le_bytes-2.result ≡ half 8 c.args.kept.change.writer_guid = high-half _ w _ c.as_chunks.ensures.front _ _ c.from_le_bytes-2.ensures in
    (rw (low, high, c.from.ensures, c.from-2.ensures), w)
