use Rattle.std.proofs.Common.{rules}
use Rattle.records.proofs.NumberLaws.{be-signed}
use Rattle.records.proofs.i32_at.Goals as goal

pub returns : goal.returns
returns c = search (rules, be-signed)
