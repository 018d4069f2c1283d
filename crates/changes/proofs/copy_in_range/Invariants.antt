use Rattle.std.proofs.Common.{◌≡◌, ◌*◌, ◌≤◌, List, length, take}
use Rattle.model.specs.Topic.{Entry, within}
use Rattle.changes.specs.Places.{Holds, shown_in}
use Rattle.changes.proofs.copy_in_range.Given as goal

abbrev pub invariant-loop-n : goal.invariant-loop-n
invariant-loop-n l = record {
  copied : (es : List Entry) → Holds es l.fn.held l.fn.words → 6 * length (within l.fn.start l.fn.end es) ≤ length l.initial.out
      → l.out ≡ shown_in (take (length l.yielded) (within l.fn.start l.fn.end es)) l.initial.out;
  nothing : l.fn.end ≤ l.fn.start → l.out ≡ l.initial.out;
}
