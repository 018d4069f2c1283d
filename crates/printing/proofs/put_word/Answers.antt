use Rattle.std.proofs.Common.{rules, ◌∙◌}
use Rattle.printing.specs.LineLaws.{word-laid}
use Rattle.printing.proofs.put_word.Goals as goal

pub returns : goal.returns
returns c = record { laid = search (rules, word-laid); same = c.put_bytes.ensures.same ∙ c.put.ensures.same }
