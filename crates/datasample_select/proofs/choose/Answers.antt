use Rattle.std.proofs.Common.{rules}
use Rattle.datasample_select.specs.ChooseLaws.{choose-done, choose-no-table, choose-unfit, told-err}
use Rattle.datasample_select.proofs.choose.Goals as goal

pub returns-then-t-ne-SLOTS : goal.returns-then-t-ne-SLOTS
returns-then-t-ne-SLOTS c = search (rules, choose-no-table)

pub returns : goal.returns
returns c = record {
  told = search (rules, choose-done);
  value = λ n. choose-unfit _ _ _ _ _ _ _ c.select.ensures.told (search rules) n;
  as_found = told-err _ _ _ _ c.select.ensures.told;
}
