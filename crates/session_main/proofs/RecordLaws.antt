-- What a turn of the program leaves, from what its calls ensure; and that something stands in memory before each record and after it.
use Rattle.std.specs.Prelude.{◌≡◌, refl, List, ℕ, ◌≤◌, ◌<◌, length, take, replicate, None, is_some, Result, Ok, IsErr}
use Rattle.std.proofs.Common.{sym, ap, ◌∙◌, true≢false, arith, length-take}
use Rattle.std.proofs.Math.Option.{Option, some, none}
use Rattle.std.proofs.lemmas.List.{length-replicate}
use Rattle.sampleinfo.specs.Samples.{empty_sample}
use Rattle.sampleinfo.specs.declared.Sample.{Sample}
use Rattle.samples.specs.Table.{empty_table}
use Rattle.model.specs.Model.{Model}
use Rattle.records.specs.Format.{number_at}
use Rattle.session.specs.Session.{turn}
use Rattle.session.specs.Stands.{Stands, Kept, Standing, Responds, Responded}
use Rattle.replies.specs.declared.Session.{Session}
use Rattle.replies.specs.Steps.{starting}
use Rattle.frames.specs.declared.Stop.{Stop}
use Rattle.frames.specs.declared.Told.{Told}
use Rattle.session_main.specs.RecordLaws.{Tells, Turned, ended, answered, Going}

pub turn_stopped : (s : Session) (t : List Sample) (two rec ps is was : List ℕ) (r : Result Told Stop) → IsErr r
    → (st : Option Model) → Stands st s t → Turned st s t two rec ps is was r s t ps is was
turn_stopped s t two rec ps is was r e st l = ended e refl refl refl refl refl

pub turn-answered : (s s' : Session) (t then : List Sample) (two rec ps is was qs js line : List ℕ) (n size : ℕ) (r : Told)
    → (n ≤ length rec) × (n < 65536) → n ≡ number_at 2 two 0
    → Responded (take n rec) s t ps is was size s' then qs js line → Tells size line r
    → (st : Option Model) → Stands st s t → Turned st s t two rec ps is was (Ok r) s' then qs js line
turn-answered s s' t then two rec ps is was qs js line n size r h e f k st l =
    let y : Responds (turn st (take n rec)) s t ps is was size s' then qs js line = f.stood st (omega (arith, h.1, length-take n rec)) l in
    let z : r.size ≡ size = k (omega (arith, y.lines.fits, y.lines.place, y.lines.long)) in
    answered r refl (rw (← e) h.0) (rw (← e, z) y)

-- ---- the loop

-- before the first one no set-up was accepted
pub begins : (s : Session) (e : Sample) (b : ℕ) → s ≡ starting → e ≡ empty_sample → Going s (replicate 256 e) (replicate 2 b) (replicate 65535 b)
begins s e b h k = record {
  table = length-replicate 256 e;
  head = length-replicate 2 b;
  bytes = length-replicate 65535 b;
  standing = record { what = none; stands = record { unready = ap (λ (x : Session). x.index) h; long = length-replicate 256 e } };
  start = λ z. ap (replicate 256) k;
}

-- a turn leaves something standing, and the table of the start where no set-up was accepted
module _ (s s' : Session) (t then : List Sample) (two rec ps is was qs js line : List ℕ) (r : Result Told Stop)
    (f : (st : Option Model) → Stands st s t → Turned st s t two rec ps is was r s' then qs js line) (x : Standing s t) where
  pub still-standing : Standing s' then
  still-standing = go (f x.what x.stands)
    where
      go : Turned x.what s t two rec ps is was r s' then qs js line → Standing s' then
      go (ended e a b c d l) = rw (a, b) x
      go (answered q e a y) = record { what = (turn x.what (take (number_at 2 two 0) rec)).then; stands = y.stands }

  pub still-fresh : (s.index ≡ None → t ≡ empty_table) → s'.index ≡ None → then ≡ empty_table
  still-fresh start z = go (f x.what x.stands)
    where
      by : (st : Option Model) → Stands st s' then → Kept st s t s' then → then ≡ empty_table
      by none y k = k.1 ∙ start (sym (ap (λ (q : Session). q.index) k.0) ∙ z)
      by (some m) y k = absurd (true≢false (sym y.ready ∙ ap is_some z))

      go : Turned x.what s t two rec ps is was r s' then qs js line → then ≡ empty_table
      go (ended e a b c d l) = b ∙ start (rw a at z)
      go (answered q e a y) = by (turn x.what (take (number_at 2 two 0) rec)).then y.stands y.kept

pub goes_on : (s s' : Session) (t then : List Sample) (two rec ps is was qs js line : List ℕ) (r : Result Told Stop)
    → ((st : Option Model) → Stands st s t → Turned st s t two rec ps is was r s' then qs js line)
    → (two₀ rec₀ : List ℕ) → Going s t two₀ rec₀ → length then ≡ length t → length two ≡ length two₀ → length rec ≡ length rec₀ → Going s' then two rec
goes_on s s' t then two rec ps is was qs js line r f two₀ rec₀ g e h k = record {
  table = e ∙ g.table;
  head = h ∙ g.head;
  bytes = k ∙ g.bytes;
  standing = still-standing s s' t then two rec ps is was qs js line r f g.standing;
  start = still-fresh s s' t then two rec ps is was qs js line r f g.standing g.start;
}
