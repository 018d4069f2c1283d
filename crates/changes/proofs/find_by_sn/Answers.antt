use Rattle.std.proofs.Common.{List, ℕ, ap, ◌∙◌, rules}
use Rattle.std.specs.List.{list_any}
use Rattle.std.proofs.lemmas.List.{drop-map}
use Rattle.std.proofs.lemmas.Iterator.{YieldsList-from_slice}
use Rattle.std.proofs.lemmas.Iterator.Adapters.{YieldsList-from_skip}
use Rattle.std.proofs.lemmas.Iterator.Consumers.{YieldsList-at}
use Rattle.std.proofs.lemmas.Iterator.Search.{any_from_yields_List}
use borrow.Author.Tests.{tests}
use Rattle.std.specs.Prelude.{drop}
use Rattle.changes.specs.Places.{entry_of}
use Rattle.changes.specs.WriterLaws.{written-drop}
use Rattle.changes.specs.LookLaws.{alike, alike-is}
use Rattle.changes.proofs.find_by_sn.Goals as goal

pub returns : goal.returns
returns c = λ es h w.
    any_from_yields_List (alike c.from.result) _ _ _ c.any.ensures.ran
    (YieldsList-from_skip c.args.from (YieldsList-at c.skip.ensures.source (YieldsList-from_slice c.rows.result.now cc)) c.skip.ensures.count)
    (λ x b q k. search (rules, tests))
    ∙ ap (λ (l : List (List ℕ)). list_any (alike c.from.result) (drop c.args.from l)) (c.rows.ensures es h)
    ∙ rw (drop-map, c.from.ensures.0) (alike-is (entry_of c.args.cc 0) (drop c.args.from es) c.from.ensures.1 (written-drop c.args.from es w))
