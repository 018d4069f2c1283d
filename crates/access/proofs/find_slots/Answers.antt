-- The slots of the pairs passed stand in their places.
use Rattle.std.proofs.Common.{rules, refl, arith}
use Rattle.access.specs.AccessLaws.{finds-start, finds-on, finds-dead, finds-end}
use Rattle.access.proofs.find_slots.Goals as goal

pub loop-i-init : goal.loop-i-init
loop-i-init c = search (rules, finds-start)

pub returns-in_default : goal.returns-in_default
returns-in_default c =
    finds-dead _ _ _ _ _ _ _ c.loop-i.invariant refl _ c.as_chunks.ensures.front _ _ _ _ c.locate.ensures (omega (arith, c.loop-i-test.true, c.as_chunks.ensures.front_len)) c.in_default.is

pub loop-i-preserved : goal.loop-i-preserved
loop-i-preserved c =
    finds-on _ _ _ _ _ _ _ c.loop-i.invariant refl _ c.as_chunks.ensures.front _ _ _ _ c.locate.ensures (omega (arith, c.loop-i-test.true, c.as_chunks.ensures.front_len)) _ c.in-Some.is c.requires

pub returns : goal.returns
returns c =
    finds-end _ _ _ _ _ _ _ c.loop-i.invariant refl (omega (arith, c.loop-i.auto.i-end, c.as_chunks.ensures.front_len)) (omega (arith, c.loop-i-test.false, c.as_chunks.ensures.front_len))
