-- A number's text is the library's, and of one digit it is that digit.
use Rattle.std.proofs.Common.{rules}
use Rattle.text.specs.NumberLaws.{decimal-is, digit-reads}
use Rattle.text.proofs.Page.put_number.Goals as goal

pub returns-then-n-lt10 : goal.returns-then-n-lt10
returns-then-n-lt10 c = rw (digit-reads c.args.n (search rules)) (search rules)

pub returns : goal.returns
returns c = rw (decimal-is c.args.n (search rules)) (search rules)
