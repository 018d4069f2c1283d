-- A number's text is the library's, and of one that is not below 0 it is that of its distance from 0.
use Rattle.std.proofs.Common.{rules}
use Rattle.text.specs.NumberLaws.{unsigned-is, signed-held}
use Rattle.text.proofs.Page.put_signed.Goals as goal

pub returns-then-x-ge0 : goal.returns-then-x-ge0
returns-then-x-ge0 c = rw (unsigned-is c.args.x c.ranges.x c.if-x-ge0.true) (search rules)

pub returns : goal.returns
returns c = rw (signed-held c.args.x c.ranges.x) (search rules)
