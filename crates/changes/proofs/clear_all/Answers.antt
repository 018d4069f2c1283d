use Rattle.std.proofs.Common.{◌≡◌, ℕ, length, replicate, ap, ◌∙◌, rules}
use Rattle.changes.specs.WordLaws.{none-words}
use Rattle.changes.proofs.clear_all.Goals as goal

pub returns : goal.returns
returns c =
    let long : length c.args.words.now ≡ 2304 = search rules in
    c.fill.ensures.after (λ y e. e) ∙ ap (λ (n : ℕ). replicate {A = ℕ} n 0) long ∙ none-words
