use mathlib.Core.Path.{◌≡◌}
use lib.ListN.{length}
use Rattle.infos.specs.PutLaws.{copied}
use Rattle.infos.proofs.put_writer.Given as goal

abbrev pub invariant-loop-j : goal.invariant-loop-j
invariant-loop-j l = (length l.fn.writer ≡ 16) × (length l.words ≡ 27) × (l.words ≡ copied l.initial.words 11 l.fn.writer l.j)
