use Rattle.frames.specs.PieceLaws.{version-known}
use Rattle.frames.proofs.next_version.Goals as goal

pub returns : goal.returns
returns g c = record { version = rw (c.known.ensures, ← c.byte.ensures) (version-known c.came_of-came.result c.byte.result) }
