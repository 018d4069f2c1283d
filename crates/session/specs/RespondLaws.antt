-- A record's reply, printed.
use Rattle.std.specs.Prelude.{◌≡◌, refl, List, ℕ}
use Rattle.sampleinfo.specs.declared.Sample.{Sample}
use Rattle.model.specs.Model.{Answer, refused}
use Rattle.printing.specs.Printout.{printed}
use Rattle.printing.specs.Lines.{Laid}
use Rattle.answers.specs.Says.{Says, numbered}
use Rattle.session.specs.Session.{turn}
use Rattle.session.specs.Stands.{Answers, Turns, Responded}
use Rattle.std.specs.declared.result.Result.{Result}
use Rattle.refusals.specs.declared.Refusal.{Refusal}
use Rattle.replies.specs.declared.Session.{Session}
use Rattle.answers.specs.declared.Reply.{Reply}

pub responds : (s s' : Session) (t then : List Sample) (rec ps is qs js was line : List ℕ) (r : Result Reply Refusal) (q : Result Reply ℕ) (n : ℕ) → q ≡ numbered r
    → ((a : Answer) → Says q qs js a → Laid was 0 (printed a) line n) → Turns rec s t ps is r s' then qs js → Responded rec s t ps is was n s' then qs js line
responds s s' t then rec ps is qs js was line r q n e p f = record {
  stood = λ st h l.
      let y : Answers (turn st rec) s t ps is r s' then qs js = f.stood st h l in
      record { lines = p (turn st rec).answer (rw e y.says); stands = y.stands; kept = y.kept; pairs = y.pairs; infos = y.infos };
  malformed = λ b.
      let y = f.malformed b in
      (p (refused 1) (rw (e, y.0) refl), y.1, y.2, y.3, y.4);
}
