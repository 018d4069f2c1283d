-- The place of the first name that fits, or how many there are.
use Rattle.index.specs.MemoryLaws.{find-done}
use Rattle.index.proofs.find.Goals as goal

pub returns : goal.returns
returns c s t = find-done s _ _ t _ _ _ _ c.unwrap_or.ensures c.place_in.ensures c.names-names.ensures
