use Rattle.std.proofs.Common.{◌≡◌, ◌≤◌, length, take}
use Rattle.std.specs.List.{filter}
use Rattle.changes.specs.LookLaws.{below}
use Rattle.changes.proofs.count_below.Given as goal

abbrev pub invariant-loop-row : goal.invariant-loop-row
invariant-loop-row l = record {
  few : l.n ≤ l.row-index;
  counted : l.n ≡ length (filter (below l.before) (take l.row-index l.row-items));
}
