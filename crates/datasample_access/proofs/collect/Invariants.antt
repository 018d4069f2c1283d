use mathlib.Core.Path.{◌≡◌}
use Prim.Native.Nat.{◌-◌}
use lib.ListN.{length}
use Rattle.infos.specs.Words.{put_infos}
use Rattle.access.specs.Access.{run, infos_by, noted_all}
use Rattle.datasample_access.proofs.collect.Given as goal

abbrev pub invariant-loop-p : goal.invariant-loop-p
invariant-loop-p l = (put_infos l.out l.p (infos_by l.ws l.t l.ranking (run (l.n - l.p) l.p l.slots)) ≡ put_infos l.initial.out 0 (infos_by l.ws l.t l.ranking (run l.n 0 l.slots))) × (noted_all l.ws l.t l.seen (run (l.n - l.p) l.p l.slots) ≡ noted_all l.ws l.t l.initial.seen (run l.n 0 l.slots)) × (length l.out ≡ length l.initial.out)
