use Rattle.std.proofs.Common.{◌/◌, ◌≤◌, ◌<◌, length, sym, ltb-true, ltb-false, arith}
use Rattle.changes.specs.ResultLaws.{kept-none, kept-some}
use Rattle.changes.proofs.kept_at.Goals as goal

pub returns-in-Some : goal.returns-in-Some
returns-in-Some c =
    let h = c.in-Some.ensures in
    let low : c.args.i < length c.args.out.now / 6 = omega (arith, ltb-true _ _ (sym h.lookup.0), c.as_chunks.ensures.front_len) in
    kept-some _ _ _ _ _ _ c.as_chunks.ensures.front low h.lookup.1 c.from.ensures c.from-in-Some.ensures

pub returns-in-None : goal.returns-in-None
returns-in-None c =
    let h = c.in-None.ensures in
    let d = c.default.ensures in
    let high : length c.args.out.now / 6 ≤ c.args.i = omega (arith, ltb-false _ _ (sym h.lookup.0), c.as_chunks.ensures.front_len) in
    kept-none _ _ _ high d.0 d.1.0.long (λ i h. d.1.0.at i 0 h) d.1.1.0 d.1.1.1.0 d.1.1.1.1
