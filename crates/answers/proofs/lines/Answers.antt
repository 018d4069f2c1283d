-- Each arm says what the reply stands for.
use Rattle.std.proofs.Common.{rules}
use Rattle.answers.specs.PrintLaws.{refused-said, ok-said, added-said, selected-said, infos-said, next-said}
use Rattle.answers.proofs.lines.Goals as goal

pub returns-in-Err-clause-told : goal.returns-in-Err-clause-told
returns-in-Err-clause-told c = refused-said _ _ _ _ _ _ _ c.requires.0 c.requires.1 c.in-Err.n c.in-Err.is c.refused_line.ensures.line

pub returns-in-Ok-Ok-clause-told : goal.returns-in-Ok-Ok-clause-told
returns-in-Ok-Ok-clause-told c = ok-said _ _ _ _ _ _ _ c.requires.0 c.requires.1 (search rules) c.ok_line.ensures.line

pub returns-in-Ok-Added-clause-told : goal.returns-in-Ok-Added-clause-told
returns-in-Ok-Added-clause-told c =
    added-said _ _ _ _ _ _ _ c.requires.0 c.requires.1 c.in-Ok-Added.key c.in-Ok-Added.slot c.in-Ok-Added.evicted (search rules) c.key_line.ensures.line

pub returns-in-Ok-Selected-clause-told : goal.returns-in-Ok-Selected-clause-told
returns-in-Ok-Selected-clause-told c = selected-said _ _ _ _ _ _ c.in-Ok-Selected.n _ (search rules) c.pair_lines.ensures.told (search rules)

pub returns-in-Ok-Infos-clause-told : goal.returns-in-Ok-Infos-clause-told
returns-in-Ok-Infos-clause-told c = infos-said _ _ _ _ _ _ c.in-Ok-Infos.n _ (search rules) c.info_lines.ensures.told

pub returns-in-Ok-Next-clause-told : goal.returns-in-Ok-Next-clause-told
returns-in-Ok-Next-clause-told c = next-said _ _ _ _ _ _ _ c.requires.0 c.requires.1 c.in-Ok-Next.key (search rules) c.next_line.ensures.line
