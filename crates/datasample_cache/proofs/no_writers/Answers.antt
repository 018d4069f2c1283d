use Rattle.datasample_cache.specs.OtherLaws.{dies}
use Rattle.datasample_cache.proofs.no_writers.Goals as goal

pub returns-clause-dies : goal.returns-clause-dies
returns-clause-dies c m t g l = rw c.no_writers.ensures.head_as_found (dies c.args.x.now.head c.args.x.now.words c.no_writers.new.x.words c.args.instance _ c.no_writers.ensures.left m t g l)
