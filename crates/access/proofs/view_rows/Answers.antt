-- The rows passed have what was seen.
use Rattle.std.proofs.Common.{arith, refl}
use Rattle.access.specs.AccessLaws.{views-start, views-next, views-last}
use Rattle.access.proofs.view_rows.Goals as goal

pub loop-row-init : goal.loop-row-init
loop-row-init c = (views-start _ _ _, refl)

pub loop-row-preserved : goal.loop-row-preserved
loop-row-preserved c = (views-next _ _ _ _ _ c.loop-row.invariant.0 _ c.rows_held.ensures _ c.told-seen c.view_row.ensures c.loop-row-test.true, c.loop-row.invariant.1)

pub returns-clause-viewed : goal.returns-clause-viewed
returns-clause-viewed c = views-last _ _ _ _ _ c.loop-row.invariant.0 _ c.rows_held.ensures c.told-seen c.loop-row.auto.row-end (omega (arith, c.loop-row-test.false))
