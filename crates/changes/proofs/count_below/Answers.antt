use Rattle.std.proofs.Common.{List, ℕ, length, ap, ◌∙◌, take_all}
use Rattle.std.specs.List.{filter}
use Rattle.changes.specs.LookLaws.{below, below-is, below-more}
use Rattle.changes.proofs.count_below.Goals as goal

pub loop-row-preserved : goal.loop-row-preserved
loop-row-preserved c =
    let m = below-more c.args.before _ _ _ c.rows-row-items.result.now c.loop-row.invariant.counted c.loop-row.invariant.few c.loop-row-test.true c.from-n.ensures in
    record { few = m.0; counted = m.1 }

pub returns : goal.returns
returns c = λ es h.
    c.loop-row.invariant.counted
    ∙ ap (λ (l : List (List ℕ)). length (filter (below c.args.before) l)) (take_all _ _ c.loop-row-test.false ∙ c.rows-row-items.ensures es h)
    ∙ below-is c.args.before es
