use mathlib.Core.Path.{refl}
use Rattle.datasample_access.proofs.ListedLaws.{latest-of, serve-done}
use Rattle.datasample_access.proofs.serve.Goals as goal

pub returns : goal.returns
returns c =
    serve-done c.args.x.now.head _ c.args.take c.args.n c.args.slots.now c.args.x.now.words _ c.args.t.now _ c.args.out.now _ _ _ _ _ _ _
    c.collect.ensures.out_after c.collect.ensures.seen_after refl c.ranking_of-ranking.ensures (latest-of _ _ _ c.requires c.record_in-latest.ensures) c.last_counts.ensures
    c.touch_all.ensures c.latest_slot.ensures c.requires c.settle.ensures
