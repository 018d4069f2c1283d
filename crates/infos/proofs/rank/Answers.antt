use mathlib.Core.Path.{◌∙◌}
use native.Mathlib.Omega.{arith}
use Rattle.infos.specs.RankLaws.{rank-fits, rank_is}
use Rattle.infos.proofs.rank.Goals as goal

pub overflow_sub-result : goal.overflow_sub-result
overflow_sub-result c = rank-fits c.total.result c.total-2.result (omega arith) (omega arith)

pub returns : goal.returns
returns c = rank_is c.total.result c.total-2.result (omega arith) (omega arith) ∙ rw (c.total.ensures, c.total-2.ensures)
