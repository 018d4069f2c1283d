use Rattle.std.proofs.Common.{◌≡◌, ℕ, List, length, get_or, rules}
use mir.Val.{Fits}
use mir.Syntax.{w8}
use Rattle.changes.specs.Places.{Writer}
use Rattle.dds_cache.specs.CallLaws.{adds-bad, adds-good}
use Rattle.dds_cache.proofs.TopicCache.add_change.Goals as goal

writer : (guid : List ℕ) → length guid ≡ 16 → ((i : ℕ) → Fits w8 (get_or guid i 0)) → Writer guid
writer guid long fits = record { sixteen = long; bytes = λ i. (fits i).fits }

pub returns-then-not-sequence_number_fits : goal.returns-then-not-sequence_number_fits
returns-then-not-sequence_number_fits c = adds-bad _ _ _ _ (writer c.args.cache_change.writer_guid (search rules) (search rules)) _ c.sequence_number_fits.ensures c.if-not-sequence_number_fits.true

pub returns : goal.returns
returns c = adds-good _ _ _ _ (writer c.args.cache_change.writer_guid (search rules) (search rules)) _ c.sequence_number_fits.ensures c.if-not-sequence_number_fits.false _ _ c.add_change_internal.ensures
