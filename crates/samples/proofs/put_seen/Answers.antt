use Rattle.samples.proofs.put_seen.Goals as goal

pub returns : goal.returns
returns c = cc
