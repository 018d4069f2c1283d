-- So many of the region's words from the front.
use Rattle.std.proofs.Common.{arith}
use Rattle.index.specs.MemoryLaws.{names-part}
use Rattle.index.proofs.names.Goals as goal

pub returns : goal.returns
returns c = names-part c.args.ws.now c.args.held _ (omega (arith, c.rows_held.ensures))
