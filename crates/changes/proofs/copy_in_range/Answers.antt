use Rattle.std.proofs.Common.{◌≡◌, ◌<◌, ℕ, List, length, get_or, take, refl, ap, sym, ◌∙◌, take_all, arith, rules}
use mathlib.Core.List.{map}
use Rattle.std.specs.List.{filter}
use Rattle.std.proofs.lemmas.List.{length-map, length_push}
use Rattle.std.proofs.lemmas.List.FromFn.{length-enumerate_from}
use Rattle.std.proofs.lemmas.Iterator.{YieldsList-from_slice}
use Rattle.std.proofs.lemmas.Iterator.Consumers.{YieldsList-at, YieldsList-from_filter, YieldsList-from_enumerate, YieldsList-turn, YieldsList-end}
use borrow.Author.Tests.{tests}
use Rattle.model.specs.Topic.{Entry, within}
use Rattle.changes.specs.Places.{line_of, shown_in}
use Rattle.changes.specs.LookLaws.{ranged, ranged-is, ranged-none, turned, copied-start, copied-turn, six-words}
use Rattle.changes.proofs.copy_in_range.Goals as goal

pub loop-n-init : goal.loop-n-init
loop-n-init c = record { copied = λ es h r. copied-start (within c.args.start c.args.end es) _; nothing = λ h. refl }

-- By search and with `six-words`, so that a body that lays the six words of a row one by one is taken too: result_swaps_words is refused for the word alone.
pub loop-n-preserved-then-n-out : goal.loop-n-preserved-then-n-out
loop-n-preserved-then-n-out c =
    let found : List (List ℕ) = filter (ranged c.args.start c.args.end) c.rows.result.now in
    let t : (length c.loop-n.yielded < length found) × (c.in-Some.n ≡ length c.loop-n.yielded) × (c.in-Some.row.now ≡ get_or found (length c.loop-n.yielded) c.in-Some.row.now) =
    turned _ _ _ _ (YieldsList-turn (YieldsList-at c.into_iter-n-iterator.ensures.into_iter_gives (YieldsList-from_enumerate (YieldsList-at c.enumerate-n-items.ensures.source
    (YieldsList-from_filter _ (ranged c.args.start c.args.end) (YieldsList-at c.filter-found.ensures.source (YieldsList-from_slice c.rows.result.now cc)) c.filter-found.ensures.closure (λ x b q k. search (rules, tests))))
    c.enumerate-n-items.ensures.count)) c.loop-n.yielded _ c.loop-n.yielded_by _ _ (c.in-Some.n, c.in-Some.row) c.in-Some.is c.next.ensures.steps) in
    record {
      copied = λ es h r.
          let ws : List Entry = within c.args.start c.args.end es in
          let f : found ≡ map line_of ws = ap (filter (ranged c.args.start c.args.end)) (c.rows.ensures es h) ∙ ranged-is c.args.start c.args.end es in
          copied-turn ws _ _ _ _ _ _ _ (c.loop-n.invariant.copied es h r) (omega (arith, t.0, ap length f, length-map ws line_of)) t.1
          (c.copy_from_slice.ensures.after ∙ search (rules, six-words) ∙ t.2 ∙ ap (λ (l : List (List ℕ)). get_or l (length c.loop-n.yielded) c.in-Some.row.now) f) (omega arith)
          ∙ ap (λ (m : ℕ). shown_in (take m ws) c.args.out.now) (sym (length_push c.loop-n.yielded (c.in-Some.n, c.in-Some.row)));
      nothing = λ h. absurd (omega (arith, t.0, ap length (ranged-none c.args.start c.args.end c.rows.result.now h)));
    }

pub loop-n-preserved : goal.loop-n-preserved
loop-n-preserved c =
    let found : List (List ℕ) = filter (ranged c.args.start c.args.end) c.rows.result.now in
    let t : (length c.loop-n.yielded < length found) × (c.in-Some.n ≡ length c.loop-n.yielded) × (c.in-Some.row.now ≡ get_or found (length c.loop-n.yielded) c.in-Some.row.now) =
    turned _ _ _ _ (YieldsList-turn (YieldsList-at c.into_iter-n-iterator.ensures.into_iter_gives (YieldsList-from_enumerate (YieldsList-at c.enumerate-n-items.ensures.source
    (YieldsList-from_filter _ (ranged c.args.start c.args.end) (YieldsList-at c.filter-found.ensures.source (YieldsList-from_slice c.rows.result.now cc)) c.filter-found.ensures.closure (λ x b q k. search (rules, tests))))
    c.enumerate-n-items.ensures.count)) c.loop-n.yielded _ c.loop-n.yielded_by _ _ (c.in-Some.n, c.in-Some.row) c.in-Some.is c.next.ensures.steps) in
    record {
      copied = λ es h r.
          let ws : List Entry = within c.args.start c.args.end es in
          let f : found ≡ map line_of ws = ap (filter (ranged c.args.start c.args.end)) (c.rows.ensures es h) ∙ ranged-is c.args.start c.args.end es in
          absurd (omega (arith, t.0, t.1, ap length f, length-map ws line_of, c.loop-n.auto.out));
      nothing = λ h. absurd (omega (arith, t.0, ap length (ranged-none c.args.start c.args.end c.rows.result.now h)));
    }

pub returns : goal.returns
returns c =
    let found : List (List ℕ) = filter (ranged c.args.start c.args.end) c.rows.result.now in
    let e = YieldsList-end (YieldsList-at c.into_iter-n-iterator.ensures.into_iter_gives (YieldsList-from_enumerate (YieldsList-at c.enumerate-n-items.ensures.source
    (YieldsList-from_filter _ (ranged c.args.start c.args.end) (YieldsList-at c.filter-found.ensures.source (YieldsList-from_slice c.rows.result.now cc)) c.filter-found.ensures.closure (λ x b q k. search (rules, tests))))
    c.enumerate-n-items.ensures.count)) c.loop-n.yielded _ c.loop-n.yielded_by _ _ c.in-None.is c.next.ensures.steps in
    record {
      copied = λ es h r.
          let ws : List Entry = within c.args.start c.args.end es in
          let f : found ≡ map line_of ws = ap (filter (ranged c.args.start c.args.end)) (c.rows.ensures es h) ∙ ranged-is c.args.start c.args.end es in
          c.loop-n.invariant.copied es h r ∙ ap (λ (l : List Entry). shown_in l c.args.out.now) (take_all _ ws (omega (arith, e.1, length-enumerate_from 0 found, ap length f, length-map ws line_of)));
      nothing = c.loop-n.invariant.nothing;
    }
