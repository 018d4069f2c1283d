use Rattle.std.proofs.Common.{rules}
use Rattle.records.proofs.NumberLaws.{be-16}
use Rattle.records.proofs.u16_at.Goals as goal

pub returns : goal.returns
returns c = search (rules, be-16)
