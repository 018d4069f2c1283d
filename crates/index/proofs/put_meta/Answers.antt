-- The four stores.
use Rattle.std.proofs.Common.{rules, ◌∙◌}
use Rattle.index.specs.WordLaws.{put-meta-past, put-meta-done}
use Rattle.index.proofs.put_meta.Goals as goal

pub returns-then-row-lt-ROWS : goal.returns-then-row-lt-ROWS
returns-then-row-lt-ROWS c = put-meta-done _ _ _ _ _ _ _ _ _ _ c.put_meta_word-then-row-lt-ROWS-3.ensures c.put_meta_word-then-row-lt-ROWS-2.ensures c.put_meta_word-then-row-lt-ROWS.ensures c.put_meta_word.ensures (c.from.ensures ∙ c.bit.ensures) c.from-then-row-lt-ROWS.ensures c.from-then-row-lt-ROWS-2.ensures

pub returns-else-row-lt-ROWS : goal.returns-else-row-lt-ROWS
returns-else-row-lt-ROWS c = search (rules, put-meta-past)
