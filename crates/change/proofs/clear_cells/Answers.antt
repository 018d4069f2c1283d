-- The region alone is filled.
use Rattle.change.specs.ChangeLaws.{cells_filled}
use Rattle.change.proofs.clear_cells.Goals as goal

pub returns : goal.returns
returns c = cells_filled c.args.ws.now c.fill.new.self c.told-ws (c.fill.ensures.after (λ y e. e))
