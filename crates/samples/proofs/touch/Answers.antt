use Rattle.std.proofs.Common.{rules}
use Rattle.samples.specs.TableLaws.{touch-past, touch-take, touch-read}
use Rattle.samples.proofs.touch.Goals as goal

pub returns-then-take : goal.returns-then-take
returns-then-take c = search (rules, touch-past, touch-take, touch-read)

pub returns-else-take : goal.returns-else-take
returns-else-take c = search (rules, touch-past, touch-take, touch-read)

pub returns-else-i-t : goal.returns-else-i-t
returns-else-i-t c = search (rules, touch-past, touch-take, touch-read)
