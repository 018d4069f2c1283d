use Rattle.changes.specs.WordLaws.{rows-are}
use Rattle.changes.proofs.rows.Goals as goal

pub returns : goal.returns
returns c = λ es h. rows-are es _ _ _ _ h c.as_chunks.ensures.front c.as_chunks.ensures.front_len c.min.ensures
