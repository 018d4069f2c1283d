use Rattle.std.proofs.Common.{◌≡◌}
use Rattle.records.specs.Words.{words_in}
use Rattle.records.specs.PairLaws.{filled}
use Rattle.records.proofs.pairs_of.Given as goal

abbrev pub invariant-loop-i : goal.invariant-loop-i
invariant-loop-i l = l.out ≡ filled l.initial.out (words_in l.rec) l.i
