-- The four words of the row's chunk.
use Rattle.std.proofs.Common.{rules, arith, refl, sym, ltb-true}
use Rattle.index.specs.WordLaws.{meta-past, meta_taken}
use Rattle.index.proofs.meta_at.Goals as goal

pub returns-in-Some : goal.returns-in-Some
returns-in-Some c =
    let h = c.in-Some.ensures in
    meta_taken _ _ _ _ _ _ _ _ _ c.as_chunks.ensures.front (omega (arith, ltb-true _ _ (sym h.lookup.0), c.as_chunks.ensures.front_len)) h.lookup.1 c.from.ensures c.count_of.ensures c.count_of-in-Some.ensures refl

pub returns-in-None : goal.returns-in-None
returns-in-None c = search (rules, meta-past)
