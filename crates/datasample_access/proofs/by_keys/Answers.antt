use Rattle.std.proofs.Common.{rules, refl}
use Rattle.std.proofs.lemmas.Result.{err_from_is_err_and}
use Rattle.datasample_access.proofs.ListedLaws.{came-no-table, came-declined, came-listed, odd-declined, odd-not-served}
use Rattle.datasample_access.proofs.by_keys.Goals as goal

pub returns-then-t-ne-SLOTS : goal.returns-then-t-ne-SLOTS
returns-then-t-ne-SLOTS c = search (rules, came-no-table)

pub returns-in_err-refusal : goal.returns-in_err-refusal
returns-in_err-refusal c =
    let p = err_from_is_err_and c.from_residual.result c.from_residual.ensures.1 in
    record {
      came = rw (p.1, p.2) (came-declined c.args.x.now.head c.args.x.now.words c.args.t.now c.args.list.now c.args.out.now c.args.take _ _ _ _ c.refusal.ensures refl c.places.ensures _ c.in_err-refusal.was);
      value = rw (p.1, p.2) (odd-declined _ _ _ _ _ _ _ _ _ c.refusal.ensures c.in_err-refusal.was c.if-t-ne-SLOTS.false);
      as_found = search rules;
    }

pub returns : goal.returns
returns c = record {
  came = came-listed c.args.x.now.head c.args.x.now.words c.args.t.now c.args.list.now c.args.out.now c.args.take _ _ _ _ c.refusal.ensures refl c.places.ensures _ c.in_ok-refusal.was _ _ _ _ c.serve.ensures;
  value = odd-not-served _ _ _ _ _ _ _ _ _ _ c.refusal.ensures c.in_ok-refusal.was c.if-t-ne-SLOTS.false;
  as_found = search rules;
}
