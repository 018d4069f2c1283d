use Rattle.std.proofs.Common.{rules}
use Rattle.records.proofs.NumberLaws.{be-64}
use Rattle.records.proofs.u64_at.Goals as goal

pub returns : goal.returns
returns c = search (rules, be-64)
