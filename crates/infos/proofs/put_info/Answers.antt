use Rattle.std.proofs.Common.{rules}
use Rattle.infos.specs.PutLaws.{put_done, put_kept}
use Rattle.infos.proofs.put_info.Goals as goal

pub returns-then-p-places : goal.returns-then-p-places
returns-then-p-places c = search (rules, put_done)

pub returns-else-p-places : goal.returns-else-p-places
returns-else-p-places c = search (rules, put_kept)
