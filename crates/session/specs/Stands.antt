-- What lies in memory for what stands, and what answering a record is to leave.
use Rattle.std.specs.Prelude.{◌≡◌, true, List, is_some, ◌++◌, ℕ, ◌*◌, ◌<◌, length, drop}
use Rattle.std.proofs.Math.Option.{Option, some, none}
use Rattle.std.specs.declared.option.Option as the_code
use Rattle.std.specs.declared.option.Option.TheVariants.{None, Some}
use Rattle.std.specs.declared.result.Result.{Result}
use Rattle.std.specs.declared.result.Result.TheVariants.{Err}
use Rattle.refusals.specs.declared.Refusal.{Refusal}
use Rattle.refusals.specs.declared.Refusal.TheVariants as refusal
use Rattle.sampleinfo.specs.declared.Sample.{Sample}
use Rattle.model.specs.Model.{Model, Answer, refused, ok, added, selected, infos, next}
use Rattle.refine.specs.Good.{Good}
use Rattle.index.specs.declared.Index.{Index}
use Rattle.memory.specs.Lies.{Lies}
use Rattle.pairs.specs.Flat.{pair_words}
use Rattle.infos.specs.Words.{infos_then}
use Rattle.records.specs.Format.{too_long, call_of, bad}
use Rattle.bounds.specs.Small.{AllSmall}
use Rattle.printing.specs.Printout.{printed}
use Rattle.printing.specs.Lines.{Laid}
use Rattle.answers.specs.Says.{Says, numbered}
use Rattle.session.specs.Session.{Turn, turn}
use Rattle.replies.specs.declared.Session.{Session}
use Rattle.answers.specs.declared.Reply.{Reply}

-- in the index that a session holds
abbrev pub Held : Model → the_code.Option Index → List Sample → Type 0
Held m None t = ⊥
Held m (Some x) t = Lies m x.head x.words t

-- a cache that only the calls have changed, as it lies in memory
pub record Ready (m : Model) (s : Session) (t : List Sample) : Type 0 where
  pub ready : is_some s.index ≡ true
  pub good : Good m
  pub small : AllSmall m
  pub lies : Held m s.index t

-- before an accepted set-up there is only the room for the table
pub record Unready (s : Session) (t : List Sample) : Type 0 where
  pub unready : s.index ≡ None
  pub long : length t ≡ 256

abbrev pub Stands : Option Model → Session → List Sample → Type 0
Stands none s t = Unready s t
Stands (some m) s t = Ready m s t

-- memory in which something stands
pub record Standing (s : Session) (t : List Sample) : Type 0 where
  pub what : Option Model
  pub stands : Stands what s t

-- where nothing stands afterwards, all is as found: "Every refusal returns its number only; state and lent buffers stay as found." Where a cache stands,
-- `Stands` says what lies there
abbrev pub Kept : Option Model → Session → List Sample → Session → List Sample → Type 0
Kept none s t s' then = (s' ≡ s) × (then ≡ t)
Kept (some m) s t s' then = Unit {0}

-- the result buffers: an answer stands first in its own one, "Result places past the answer keep what they held", and what has no pairs or infos
-- leaves them, every refusal among it
abbrev pub pairs_left : Answer → List ℕ → List ℕ
pairs_left (selected ps) was = pair_words ps ++ drop (2 * length ps) was
pairs_left (refused n) was = was
pairs_left ok was = was
pairs_left (added k n e) was = was
pairs_left (infos xs) was = was
pairs_left (next k) was = was

abbrev pub infos_left : Answer → List ℕ → List ℕ
infos_left (infos xs) was = infos_then was xs
infos_left (refused n) was = was
infos_left ok was = was
infos_left (added k n e) was = was
infos_left (selected ps) was = was
infos_left (next k) was = was

-- the reply, with the pairs and the infos beside it, says the answer. As found: s, t, and the buffers ps and is; as left: s', then, qs and js
pub record Answers (u : Turn) (s : Session) (t : List Sample) (ps is : List ℕ) (r : Result Reply Refusal) (s' : Session) (then : List Sample) (qs js : List ℕ) : Type 0 where
  pub says : Says (numbered r) qs js u.answer
  pub stands : Stands u.then s' then
  pub kept : Kept u.then s t s' then
  pub pairs : qs ≡ pairs_left u.answer ps
  pub infos : js ≡ infos_left u.answer is

-- a record's reply: its turn, where something stands; and a malformed record is refused with 1 and leaves all as found, whatever lies in memory
pub record Turns (rec : List ℕ) (s : Session) (t : List Sample) (ps is : List ℕ) (r : Result Reply Refusal) (s' : Session) (then : List Sample) (qs js : List ℕ) : Type 0 where
  pub stood : (st : Option Model) → length rec < too_long → Stands st s t → Answers (turn st rec) s t ps is r s' then qs js
  pub malformed : bad (call_of rec) ≡ true → (r ≡ Err refusal.Malformed) × (s' ≡ s) × (then ≡ t) × (qs ≡ ps) × (js ≡ is)

-- the lines of the answer stand first in the lent bytes, and the rest of them is as it was; n is how many bytes they are
pub record Responds (u : Turn) (s : Session) (t : List Sample) (ps is was : List ℕ) (n : ℕ) (s' : Session) (then : List Sample) (qs js line : List ℕ) : Type 0 where
  pub lines : Laid was 0 (printed u.answer) line n
  pub stands : Stands u.then s' then
  pub kept : Kept u.then s t s' then
  pub pairs : qs ≡ pairs_left u.answer ps
  pub infos : js ≡ infos_left u.answer is

pub record Responded (rec : List ℕ) (s : Session) (t : List Sample) (ps is was : List ℕ) (n : ℕ) (s' : Session) (then : List Sample) (qs js line : List ℕ) : Type 0 where
  pub stood : (st : Option Model) → length rec < too_long → Stands st s t → Responds (turn st rec) s t ps is was n s' then qs js line
  pub malformed : bad (call_of rec) ≡ true → Laid was 0 (printed (refused 1)) line n × (s' ≡ s) × (then ≡ t) × (qs ≡ ps) × (js ≡ is)
