use Rattle.std.proofs.Common.{◌≡◌, List, ℕ, length, ap, ◌∙◌, rules}
use Rattle.std.specs.List.{filter}
use Rattle.std.proofs.lemmas.List.{length-map}
use Rattle.std.proofs.lemmas.Iterator.{YieldsList-from_slice}
use Rattle.std.proofs.lemmas.Iterator.Consumers.{YieldsList-at, YieldsList-from_filter, count_from_yields_List}
use borrow.Author.Tests.{tests}
use Rattle.changes.specs.Places.{line_of}
use Rattle.changes.specs.LookLaws.{ranged, ranged-is, ranged-none}
use Rattle.changes.proofs.count_in_range.Goals as goal

pub returns : goal.returns
returns c =
    let n : c.count.result ≡ length (filter (ranged c.args.start c.args.end) c.rows.result.now) =
    count_from_yields_List _ _ c.count.ensures.ran
    (YieldsList-from_filter _ (ranged c.args.start c.args.end) (YieldsList-at c.filter.ensures.source (YieldsList-from_slice c.rows.result.now cc)) c.filter.ensures.closure (λ x b q k. search (rules, tests))) in
    record {
      counted = λ es h. n ∙ ap (λ (l : List (List ℕ)). length (filter (ranged c.args.start c.args.end) l)) (c.rows.ensures es h) ∙ ap length (ranged-is c.args.start c.args.end es) ∙ length-map _ line_of;
      nothing = λ h. n ∙ ap length (ranged-none c.args.start c.args.end c.rows.result.now h);
    }
