-- The steps of the code, on values.
use Rattle.std.specs.Prelude.{Bool, true, false, cond, not, [], ℕ, Option, Some, None, Result, Ok, Err}
use Rattle.std.specs.Option.{ok_or}
use Rattle.refusals.specs.declared.Refusal.{Refusal}
use Rattle.refusals.specs.declared.Refusal.TheVariants as refusal
use Rattle.index.specs.declared.Index.{Index}
use Rattle.datasample_cache.specs.declared.Added.{Added}
use Rattle.records.specs.Format.{call_meant, bad}
use Rattle.records.specs.declared.Request.{Request}
use Rattle.records.specs.declared.Request.TheVariants as request
use Rattle.answers.specs.declared.Reply.{Reply}
use Rattle.answers.specs.declared.Reply.TheVariants as reply
use Rattle.replies.specs.declared.Session.{Session}

abbrev pub session_of : Option Index → Session
session_of x = record { index = x }

-- a refused set-up leaves the session as it is
abbrev pub session_after : Session → Result Index Refusal → Session
session_after s (Ok x) = session_of (Some x)
session_after s (Err e) = s

abbrev pub set_up_done : Result Index Refusal → Result Reply Refusal
set_up_done (Ok x) = Ok reply.Ok
set_up_done (Err e) = Err e

abbrev pub add_done : Result Added Refusal → Result Reply Refusal
add_done (Ok a) = Ok (reply.Added a.key a.slot a.evicted)
add_done (Err e) = Err e

abbrev pub event_done : Result Unit Refusal → Result Reply Refusal
event_done (Ok x) = Ok reply.Ok
event_done (Err e) = Err e

abbrev pub choose_done : Result ℕ Refusal → Result Reply Refusal
choose_done (Ok n) = Ok (reply.Selected n)
choose_done (Err e) = Err e

abbrev pub list_done : Result ℕ Refusal → Result Reply Refusal
list_done (Ok n) = Ok (reply.Infos n)
list_done (Err e) = Err e

abbrev pub is_set_up : Option Request → Bool
is_set_up (Some (request.SetUp u)) = true
is_set_up (Some (request.Add a)) = false
is_set_up (Some (request.NoWriters n)) = false
is_set_up (Some (request.Choose c)) = false
is_set_up (Some (request.ChooseWithin n c)) = false
is_set_up (Some (request.Read n)) = false
is_set_up (Some (request.Take n)) = false
is_set_up (Some (request.NextKey n)) = false
is_set_up None = false

-- before the first record: no set-up was accepted
abbrev pub starting : Session
starting = session_of None

-- both, or neither
abbrev pub same : Bool → Bool → Bool
same a b = cond a b (not b)

-- 1 first, then 10; else the request
unfoldable pub admitted_by : Bool → Option Request → Result Request Refusal
admitted_by ready q = cond (bad (call_meant q [])) (Err refusal.Malformed) (cond (same (is_set_up q) ready) (Err refusal.OutOfTurn) (ok_or q refusal.Malformed))
