use Rattle.std.proofs.Common.{refl, ◌∙◌}
use Rattle.changes.specs.ResultLaws.{guid-is}
use Rattle.changes.proofs.guid_of.Goals as goal

pub returns : goal.returns
returns c = guid-is _ _ _ _ _ refl (c.copy_from_slice.ensures.after ∙ c.to_le_bytes.ensures) (c.copy_from_slice-2.ensures.after ∙ c.to_le_bytes-2.ensures)
