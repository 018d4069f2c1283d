use Rattle.std.proofs.Common.{rules, refl}
use Rattle.text.specs.PutLaws.{kept-place, kept-bytes, put-place, put-bytes}
use Rattle.text.proofs.Page.put_bytes.Goals as goal

pub returns-then-end-self : goal.returns-then-end-self
returns-then-end-self c = record { bytes = search (rules, put-bytes); place = search (rules, put-place); same = refl }

pub returns-else-end-self : goal.returns-else-end-self
returns-else-end-self c = record { bytes = search (rules, kept-bytes); place = search (rules, kept-place); same = refl }
