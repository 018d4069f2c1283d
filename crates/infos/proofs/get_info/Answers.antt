use Rattle.std.proofs.Common.{◌/◌, ◌≤◌, ◌<◌, length, sym, ltb-true, ltb-false, arith}
use Rattle.infos.specs.GetLaws.{get_here, get_past}
use Rattle.infos.proofs.get_info.Goals as goal

pub returns-in-Some : goal.returns-in-Some
returns-in-Some c =
    let h = c.in-Some.ensures in
    let low : c.args.p < length c.args.out.now / 27 = omega (arith, ltb-true _ _ (sym h.lookup.0), c.as_chunks.ensures.front_len) in
    get_here _ _ _ _ _ c.as_chunks.ensures.front low h.lookup.1 c.info_of.ensures

pub returns-in-None : goal.returns-in-None
returns-in-None c =
    let h = c.in-None.ensures in
    let high : length c.args.out.now / 27 ≤ c.args.p = omega (arith, ltb-false _ _ (sym h.lookup.0), c.as_chunks.ensures.front_len) in
    get_past _ _ _ c.no_info.ensures high
