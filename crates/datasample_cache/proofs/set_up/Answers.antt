use Rattle.std.proofs.Common.{to_z-of_z}
use Rattle.datasample_cache.specs.Others.{set_up_of}
use Rattle.datasample_cache.specs.OtherLaws.{set-done}
use Rattle.datasample_cache.proofs.set_up.Goals as goal

pub returns : goal.returns
returns c =
    set-done (set_up_of c.args.mode c.args.keep c.args.instances) c.args.t.now c.if-t-ne-SLOTS.false _ (rw (to_z-of_z c.ranges.keep) at c.depth_in.ensures) _ c.ok_or.ensures.value
    _ _ c.in_ok-depth.was c.from.ensures c.set_up.result c.fill.new.t c.set_up.ensures c.fill.ensures.1
