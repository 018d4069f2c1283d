use Rattle.std.proofs.Common.{rules}
use Rattle.records.proofs.NumberLaws.{be-32}
use Rattle.records.proofs.u32_at.Goals as goal

pub returns : goal.returns
returns c = search (rules, be-32)
