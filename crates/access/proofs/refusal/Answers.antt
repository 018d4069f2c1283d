-- One law for each refusal.
use Rattle.std.proofs.Common.{rules}
use Rattle.access.proofs.RefusalLaws.{refuse-odd, refuse-many, refuse-bad, refuse-short, refuse-none}
use Rattle.access.proofs.refusal.Goals as goal

pub returns-then-not-whole : goal.returns-then-not-whole
returns-then-not-whole c = search (rules, refuse-odd)

pub returns-then-n-gt-SLOTS : goal.returns-then-n-gt-SLOTS
returns-then-n-gt-SLOTS c = search (rules, refuse-many)

pub returns-then-is_some : goal.returns-then-is_some
returns-then-is_some c =
    refuse-bad _ _ _ _ _ _ c.whole.ensures c.if-not-whole.false c.if-n-gt-SLOTS.false _ _ c.find_slots-dead.ensures _ c.first_repeat-twice.ensures _ c.first_bad.ensures _ c.is_some.ensures c.if-is_some.true

pub returns-then-room-n : goal.returns-then-room-n
returns-then-room-n c =
    refuse-short _ _ _ _ _ _ c.whole.ensures c.if-not-whole.false c.if-n-gt-SLOTS.false _ _ c.find_slots-dead.ensures _ c.first_repeat-twice.ensures _ c.first_bad.ensures _ c.is_some.ensures c.if-is_some.false c.if-room-n.true

pub returns : goal.returns
returns c =
    refuse-none _ _ _ _ _ _ c.whole.ensures c.if-not-whole.false c.if-n-gt-SLOTS.false _ _ c.find_slots-dead.ensures _ c.first_repeat-twice.ensures _ c.first_bad.ensures _ c.is_some.ensures c.if-is_some.false c.if-room-n.false
