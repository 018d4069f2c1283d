-- A record's turn: refused with 1 or 10 before the cache is asked, or answered by one call.
use Rattle.std.specs.Prelude.{◌≡◌, refl, Bool, true, false, cond, is_some, [], List, ℕ, ◌<◌, length}
use Rattle.std.proofs.Common.{sym, ap, subst, ◌∙◌}
use Rattle.std.proofs.Math.Option.{Option, some, none}
use Rattle.std.specs.Option.{ok_or}
use Rattle.std.specs.declared.option.Option as the_code
use Rattle.std.specs.declared.option.Option.TheVariants.{None, Some}
use Rattle.std.specs.declared.result.Result.{Result}
use Rattle.std.specs.declared.result.Result.TheVariants.{Ok, Err}
use Rattle.refusals.specs.Numbers.{number_of}
use Rattle.refusals.specs.declared.Refusal.{Refusal}
use Rattle.refusals.specs.declared.Refusal.TheVariants as refusal
use Rattle.index.specs.declared.Index.{Index}
use Rattle.sampleinfo.specs.declared.Sample.{Sample}
use Rattle.model.specs.Pairs.{Pair}
use Rattle.model.specs.Model.{Model, Call}
use Rattle.records.specs.Format.{too_long, request_of, list_pairs, op_meant, call_meant, call_of, bad}
use Rattle.records.specs.RequestLaws.{request-bad}
use Rattle.records.specs.declared.SetUp.{SetUp}
use Rattle.records.specs.declared.Request.{Request}
use Rattle.records.specs.declared.Request.TheVariants as request
use Rattle.session.specs.Session.{answering, turn_of, turn, refuse}
use Rattle.session.specs.Stands.{Ready, Stands, Kept, Answers, Turns}
use Rattle.replies.specs.Steps.{session_of, is_set_up, same, admitted_by}
use Rattle.replies.specs.declared.Session.{Session}
use Rattle.answers.specs.declared.Reply.{Reply}

-- ---- before the cache is asked

turn-bad : (st : Option Model) (c : Option Call) → bad c ≡ true → turn_of st c ≡ refuse st 1
unfolding turn_of
turn-bad st none h = refl
turn-bad st (some c) h = rw h refl

turn-asked : (st : Option Model) (c : Call) → bad (some c) ≡ false → turn_of st (some c) ≡ answering st c
unfolding turn_of
turn-asked st c h = rw h refl

no : {A : Type 0} → true ≡ false → A
no e = absurd (subst (λ b. cond b (Unit {0}) ⊥) e tt)

abbrev is_ready : Option Model → Bool
is_ready none = false
is_ready (some m) = true

by-ready : (st : Option Model) (s : Session) (t : List Sample) → Stands st s t → is_some s.index ≡ is_ready st
by-ready none s t l = ap is_some l.unready
by-ready (some m) s t l = l.ready

kept_same : (st : Option Model) (s : Session) (t : List Sample) → Kept st s t s t
kept_same none s t = (refl, refl)
kept_same (some m) s t = tt

-- a set-up where there was one, or another call where there was none
turn-ten : (st : Option Model) (o : the_code.Option Request) (ps : List Pair) → bad (call_meant o ps) ≡ false → same (is_set_up o) (is_ready st) ≡ true → turn_of st (call_meant o ps) ≡ refuse st 10
unfolding turn_of answering
turn-ten none (Some (request.SetUp u)) ps b k = no (sym k)
turn-ten none (Some (request.Add a)) ps b k = rw b refl
turn-ten none (Some (request.NoWriters n)) ps b k = refl
turn-ten none (Some (request.Choose c)) ps b k = rw b refl
turn-ten none (Some (request.ChooseWithin n c)) ps b k = rw b refl
turn-ten none (Some (request.Read n)) ps b k = refl
turn-ten none (Some (request.Take n)) ps b k = refl
turn-ten none (Some (request.NextKey n)) ps b k = refl
turn-ten none None ps b k = no b
turn-ten (some m) (Some (request.SetUp u)) ps b k = refl
turn-ten (some m) (Some (request.Add a)) ps b k = no (sym k)
turn-ten (some m) (Some (request.NoWriters n)) ps b k = no (sym k)
turn-ten (some m) (Some (request.Choose c)) ps b k = no (sym k)
turn-ten (some m) (Some (request.ChooseWithin n c)) ps b k = no (sym k)
turn-ten (some m) (Some (request.Read n)) ps b k = no (sym k)
turn-ten (some m) (Some (request.Take n)) ps b k = no (sym k)
turn-ten (some m) (Some (request.NextKey n)) ps b k = no (sym k)
turn-ten (some m) None ps b k = no b

-- ---- what is admitted

admitted-ok : (ready : Bool) (q : the_code.Option Request) (x : Request) → admitted_by ready q ≡ Ok x → (bad (call_meant q []) ≡ false) × (q ≡ Some x)
unfolding admitted_by
admitted-ok ready q x e = go (bad (call_meant q [])) (same (is_set_up q) ready) e
  where
    given : (o : the_code.Option Request) → ok_or o refusal.Malformed ≡ Ok x → o ≡ Some x
    given (Some y) g = cc
    given None g = cc

    go : (b y : Bool) → cond b (Err refusal.Malformed) (cond y (Err refusal.OutOfTurn) (ok_or q refusal.Malformed)) ≡ Ok x → (b ≡ false) × (q ≡ Some x)
    go true y g = cc
    go false true g = cc
    go false false g = (refl, given q g)

-- a record that is not malformed has its request
none-lost : (o : the_code.Option Request) (ps : List Pair) (x : Refusal) → bad (call_meant o ps) ≡ false → ok_or o refusal.Malformed ≡ Err x → ⊥
none-lost (Some y) ps x b g = cc
none-lost None ps x b g = no b

module _ (s : Session) (t : List Sample) (rec : List ℕ) (q : the_code.Option Request) (n : Result Request Refusal) (e : q ≡ request_of rec) (f : n ≡ admitted_by (is_some s.index) q) where
  known : n ≡ admitted_by (is_some s.index) (request_of rec)
  known = rw e at f

  -- of a malformed record the refusal is 1, whatever stands
  bad-first : bad (call_of rec) ≡ true → n ≡ Err refusal.Malformed
  unfolding admitted_by
  bad-first b = rw (sym (request-bad rec) ∙ b) at known

  declined-turn : (x : Refusal) → n ≡ Err x → (st : Option Model) → Stands st s t → turn st rec ≡ refuse st (number_of x)
  unfolding admitted_by
  declined-turn x p st l = go (bad (call_of rec)) refl (same (is_set_up (request_of rec)) (is_ready st)) refl (sym told ∙ p)
    where
      told : n ≡ cond (bad (call_of rec)) (Err refusal.Malformed) (cond (same (is_set_up (request_of rec)) (is_ready st)) (Err refusal.OutOfTurn) (ok_or (request_of rec) refusal.Malformed))
      told = rw (request-bad rec, ← by-ready st s t l) known

      go : (b : Bool) → bad (call_of rec) ≡ b → (y : Bool) → same (is_set_up (request_of rec)) (is_ready st) ≡ y
          → cond b (Err refusal.Malformed) (cond y (Err refusal.OutOfTurn) (ok_or (request_of rec) refusal.Malformed)) ≡ Err x → turn st rec ≡ refuse st (number_of x)
      go true b y k g = let z : x ≡ refusal.Malformed = cc in rw z (turn-bad st (call_of rec) b)
      go false b true k g = let z : x ≡ refusal.OutOfTurn = cc in rw z (turn-ten st (request_of rec) (list_pairs rec) b k)
      go false b false k g = absurd (none-lost (request_of rec) (list_pairs rec) x b g)

  pub turn-declined : (x : Refusal) → n ≡ Err x → (ps is : List ℕ) → Turns rec s t ps is (Err x) s t ps is
  turn-declined x p ps is = record {
    stood = λ st h l. rw (declined-turn x p st l) (record { says = refl; stands = l; kept = kept_same st s t; pairs = refl; infos = refl });
    malformed = λ b. (let z : ◌≡◌ {A = Result Request Refusal} (Err x) (Err refusal.Malformed) = sym p ∙ bad-first b in let y : x ≡ refusal.Malformed = cc in ap Err y, refl, refl, refl, refl);
  }

  -- the cache is asked: the record is a call
  module _ (x : Request) (p : n ≡ Ok x) where
    request-of : request_of rec ≡ Some x
    request-of = (admitted-ok (is_some s.index) (request_of rec) x (sym known ∙ p)).1

    fine : bad (call_of rec) ≡ false
    fine = request-bad rec ∙ (admitted-ok (is_some s.index) (request_of rec) x (sym known ∙ p)).0

    call-is : call_of rec ≡ some (op_meant x (list_pairs rec))
    call-is = ap (λ (o : the_code.Option Request). call_meant o (list_pairs rec)) request-of

    call-turn : (st : Option Model) → turn st rec ≡ answering st (op_meant x (list_pairs rec))
    call-turn st = rw call-is (turn-asked st (op_meant x (list_pairs rec)) (rw call-is at fine))

    module _ (r : Result Reply Refusal) (s' : Session) (then : List Sample) (ps is qs js : List ℕ) where
      whole : ((st : Option Model) → length rec < too_long → Stands st s t → Answers (turn st rec) s t ps is r s' then qs js) → Turns rec s t ps is r s' then qs js
      whole g = record { stood = g; malformed = λ b. no (sym b ∙ fine) }

      pub turn-begin : s.index ≡ None → ((us : List Pair) → Stands none s t → Answers (answering none (op_meant x us)) s t ps is r s' then qs js) → Turns rec s t ps is r s' then qs js
      turn-begin k g = whole (λ st h l. go st l)
        where
          go : (st : Option Model) → Stands st s t → Answers (turn st rec) s t ps is r s' then qs js
          go none l = rw (call-turn none) (g (list_pairs rec) l)
          go (some m) l = no (sym (rw k at l.ready))

      pub turn-ask : (i : Index) → s.index ≡ Some i → ((m : Model) → length rec < too_long → Stands (some m) (session_of (Some i)) t
          → Answers (answering (some m) (op_meant x (list_pairs rec))) (session_of (Some i)) t ps is r s' then qs js) → Turns rec s t ps is r s' then qs js
      turn-ask i k g = whole (λ st b l. go b st l)
        where
          same-session : s ≡ session_of (Some i)
          same-session = ap session_of k

          go : length rec < too_long → (st : Option Model) → Stands st s t → Answers (turn st rec) s t ps is r s' then qs js
          go b none l = let z : ◌≡◌ {A = the_code.Option Index} (Some i) None = sym k ∙ l.unready in cc
          go b (some m) l = rw (call-turn (some m))
              (subst (λ (y : Session). Answers (answering (some m) (op_meant x (list_pairs rec))) y t ps is r s' then qs js) (sym same-session) (g m b (subst (λ (y : Session). Ready m y t) same-session l)))

-- ---- out of turn

turn-set-up-late : (m : Model) (i : Index) (t : List Sample) (u : SetUp) (us : List Pair) (ps is : List ℕ) → Stands (some m) (session_of (Some i)) t
    → Answers (answering (some m) (op_meant (request.SetUp u) us)) (session_of (Some i)) t ps is (Err refusal.OutOfTurn) (session_of (Some i)) t ps is
unfolding answering
turn-set-up-late m i t u us ps is l = record { says = refl; stands = l; kept = tt; pairs = refl; infos = refl }

pub set-up-late : (m : Model) (i : Index) (t : List Sample) (q : Request) (u : SetUp) → q ≡ request.SetUp u → (us : List Pair) (ps is : List ℕ) → Stands (some m) (session_of (Some i)) t
    → Answers (answering (some m) (op_meant q us)) (session_of (Some i)) t ps is (Err refusal.OutOfTurn) (session_of (Some i)) t ps is
set-up-late m i t q u e us ps is l = rw e (turn-set-up-late m i t u us ps is l)

early-refused : (q : Request) (us : List Pair) → ((u : SetUp) → q ≡ request.SetUp u → ⊥) → answering none (op_meant q us) ≡ refuse none 10
unfolding answering
early-refused (request.SetUp u) us n = absurd (n u refl)
early-refused (request.Add a) us n = refl
early-refused (request.NoWriters i) us n = refl
early-refused (request.Choose c) us n = refl
early-refused (request.ChooseWithin i c) us n = refl
early-refused (request.Read i) us n = refl
early-refused (request.Take i) us n = refl
early-refused (request.NextKey i) us n = refl

pub call-early : (s : Session) (t : List Sample) (q : Request) → ((u : SetUp) → q ≡ request.SetUp u → ⊥) → (us : List Pair) (ps is : List ℕ) → Stands none s t
    → Answers (answering none (op_meant q us)) s t ps is (Err refusal.OutOfTurn) s t ps is
call-early s t q n us ps is l = rw (early-refused q us n) (record { says = refl; stands = l; kept = (refl, refl); pairs = refl; infos = refl })
