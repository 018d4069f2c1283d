use Rattle.std.proofs.Common.{ap, ◌∙◌, arith}
use Rattle.changes.specs.Places.{cells, entry_of}
use Rattle.changes.specs.WordLaws.{put-more}
use Rattle.changes.proofs.insert.Goals as goal

pub returns-then-at-lt-PLACES : goal.returns-then-at-lt-PLACES
returns-then-at-lt-PLACES c = λ es h k. put-more es _ _ _ _ (entry_of c.args.cc c.args.key) h k (omega arith) (c.copy_from_slice.ensures.after ∙ c.from-cells.ensures ∙ ap cells c.from-row.ensures.0)
