use Rattle.std.proofs.Common.{rules, ◌∙◌}
use Rattle.datasample_cache.specs.OtherLaws.{depth-below, depth-within}
use Rattle.datasample_cache.proofs.depth_in.Goals as goal

pub returns-in_err-keep : goal.returns-in_err-keep
returns-in_err-keep c = c.from_residual.ensures ∙ depth-below c.args.mode c.args.keep c.args.instances c.ranges.keep _ c.count_in.ensures c.in_err-keep.was

pub returns : goal.returns
returns c = search (rules, depth-within)
