-- What the cache on numbers is asked and says for an add, in the model's terms.
use Rattle.std.specs.Prelude.{cond, List, ℕ, get_or, ltb, eqb}
use Rattle.std.proofs.Math.Option.{Option, some, none}
use Rattle.sampleinfo.specs.States.{handle_of}
use Rattle.sampleinfo.specs.Lifecycle.{counts_of, becomes}
use Rattle.sampleinfo.specs.Samples.{unread, empty_sample}
use Rattle.sampleinfo.specs.declared.Sample.{Sample}
use Rattle.sampleinfo.specs.declared.InstanceMetaData.{InstanceMetaData}
use Rattle.model.specs.Model as M
use Rattle.model.specs.Model.{Model, Arrival, Answer, state_in, body_in, old_of, issue_of, key_in, refusal_of, slot_of, adding}
use Rattle.store.specs.Store.{Wanted, Said, refused, added, Step, oldest}
use Rattle.refine.specs.Layout.{cells_of, store_of}

-- what the index sees of an arrival
abbrev pub wanted_of : Arrival → Wanted
wanted_of a = record { name = a.name; time = a.time; state = state_in a }

-- "the slot that was pushed out (256 for none)"
abbrev pub out_slot : Model → Arrival → ℕ
out_slot m a = oldest m.keep (cells_of m.keep (old_of m a).places)

-- the instance's record after the step
abbrev pub meta_after : Model → Arrival → InstanceMetaData
meta_after m a = becomes (old_of m a).meta (state_in a)

-- the record that the slot given gets
abbrev pub record_for : Model → Arrival → Sample
record_for m a = unread (counts_of (meta_after m a)) a.writer a.seq (body_in a)

abbrev pub said_of : Model → Arrival → Said
said_of m a = cond (eqb (refusal_of m a) 0) (added (key_in (issue_of m a)) (slot_of m a) (out_slot m a) (counts_of (meta_after m a))) (refused (refusal_of m a))

abbrev pub step_of : Model → Arrival → Step
step_of m a = record { said = said_of m a; then = store_of (adding m a).then }

-- the handle that the table holds in the slot pushed out
abbrev pub evicted : List Sample → ℕ → Option ℕ
evicted table old = cond (ltb old 256) (some (handle_of (get_or table old empty_sample).body)) none

-- the model's answer, from what the index says and the table as the call finds it
abbrev pub answer_of : List Sample → Said → Answer
answer_of table (refused n) = M.refused n
answer_of table (added key slot old c) = M.added key slot (evicted table old)
