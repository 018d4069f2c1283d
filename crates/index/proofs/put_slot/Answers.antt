-- The two stores.
use Rattle.index.specs.Words.{put_slot}
use Rattle.index.proofs.put_slot.Goals as goal

pub returns : goal.returns
unfolding put_slot
returns c = cc
