use Rattle.changes.specs.WordLaws.{removed, removed-none}
use Rattle.changes.proofs.drop_oldest.Goals as goal

pub returns-then-n-eq0 : goal.returns-then-n-eq0
returns-then-n-eq0 c = λ es h k. removed-none es _ _ _ h c.if-n-eq0.true

pub returns-then-held-le-PLACES : goal.returns-then-held-le-PLACES
returns-then-held-le-PLACES c = λ es h k. removed es _ _ _ h k _ _ c.copy_within.ensures.len c.copy_within.ensures.after (c.fill.ensures.after (λ y e. e))
