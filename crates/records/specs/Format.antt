-- The records of a session, said once: the bytes behind the two length bytes, "an operation byte, big-endian fields", to a request in the code's own types
-- (src/lib.rt), and the call of the model that a request means.
use Rattle.std.specs.Prelude.{Bool, true, false, not, cond, List, [], ◌∷◌, ◌++◌, ℕ, zero, suc, ◌+◌, ◌-◌, ◌*◌, ltb, eqb, length, get_or, ℤ, pos, negsuc, Some, None}
use Rattle.std.proofs.Math.Option.{Option, some, none}
use Rattle.std.specs.Prelude.{Option as Option'}
use Rattle.readcondition.specs.declared.ReadCondition.{ReadCondition}
use Rattle.readcondition.specs.Masks.{condition, is_valid}
use Rattle.model.specs.Pairs.{Pair}
use Rattle.model.specs.Model as model
use Rattle.records.specs.declared.SetUp.{SetUp}
use Rattle.records.specs.declared.Arrival.{Arrival}
use Rattle.records.specs.declared.Request.{Request}
use Rattle.records.specs.declared.Request.TheVariants as request

-- ---- fields

-- "(mode, kind and masks one byte each)"
abbrev pub byte_at : List ℕ → ℕ → ℕ
byte_at rec at = get_or rec at 0

-- "big-endian fields": n bytes from place at on, the first the highest
unfoldable pub number_at : ℕ → List ℕ → ℕ → ℕ
number_at zero rec at = 0
number_at (suc n) rec at = number_at n rec at * 256 + byte_at rec (at + n)

-- "keep (i32)": the signed number of 32 bits
unfoldable pub twos : ℕ → ℤ
twos n = cond (ltb n 2147483648) (pos n) (negsuc (4294967295 - n))

-- "writer 16 bytes, carried unread": n bytes from place at on, as they stand
unfoldable pub bytes_at : ℕ → List ℕ → ℕ → List ℕ
bytes_at zero rec at = []
bytes_at (suc n) rec at = bytes_at n rec at ++ (byte_at rec (at + n) ∷ [])

-- "three mask bytes"
abbrev pub masks_at : List ℕ → ℕ → ReadCondition
masks_at rec at = condition (byte_at rec at) (byte_at rec (at + 1)) (byte_at rec (at + 2))

-- an instance stands first behind the operation byte, in every record that has one
abbrev pub instance_in : List ℕ → ℕ
instance_in rec = number_at 8 rec 1

-- "two-byte big-endian length": the least that two bytes do not tell
abbrev pub too_long : ℕ
too_long = 65536

-- ---- the records: what each holds behind its operation byte, and its size with that byte

-- "0 set-up: mode, keep (i32), instances (u16)"
abbrev pub set_up_size : ℕ
set_up_size = 8

abbrev pub set_up_in : List ℕ → SetUp
set_up_in rec = record { mode = byte_at rec 1; keep = twos (number_at 4 rec 2); instances = number_at 2 rec 6 }

-- "1 add: instance, writer, sequence number, time, kind (1 value, 2 dispose), handle"
abbrev pub add_size : ℕ
add_size = 46

abbrev pub writer_in : List ℕ → List ℕ
writer_in rec = bytes_at 16 rec 9

abbrev pub arrival_in : List ℕ → Arrival
arrival_in rec = record {
  instance = instance_in rec;
  writer = writer_in rec;
  sequence_number = number_at 8 rec 25;
  time = number_at 8 rec 33;
  kind = byte_at rec 41;
  handle = number_at 4 rec 42;
}

-- "2 no writers: instance"
abbrev pub no_writers_size : ℕ
no_writers_size = 9

-- "3 choose: three mask bytes"
abbrev pub choose_size : ℕ
choose_size = 4

-- "4 choose within: instance, masks"
abbrev pub choose_within_size : ℕ
choose_within_size = 12

-- "5 read, 6 take: count (u16), pairs"
abbrev pub count_in : List ℕ → ℕ
count_in rec = number_at 2 rec 1

abbrev pub pairs_at : ℕ
pairs_at = 3

abbrev pub pair_size : ℕ
pair_size = 16

abbrev pub list_size : ℕ → ℕ
list_size n = pairs_at + pair_size * n

-- "7 next key", which has an instance
abbrev pub next_key_size : ℕ
next_key_size = 9

-- ---- the request

-- "A wrong length": malformed
abbrev pub sized_op : ℕ → List ℕ → Request → Option' Request
sized_op n rec q = cond (eqb (length rec) n) (Some q) None

-- "A wrong .. operation": malformed too
unfoldable pub op_at : ℕ → List ℕ → Option' Request
op_at o rec =
    cond (eqb o 0) (sized_op set_up_size rec (request.SetUp (set_up_in rec)))
    (cond (eqb o 1) (sized_op add_size rec (request.Add (arrival_in rec)))
    (cond (eqb o 2) (sized_op no_writers_size rec (request.NoWriters (instance_in rec)))
    (cond (eqb o 3) (sized_op choose_size rec (request.Choose (masks_at rec 1)))
    (cond (eqb o 4) (sized_op choose_within_size rec (request.ChooseWithin (instance_in rec) (masks_at rec 9)))
    (cond (eqb o 5) (sized_op (list_size (count_in rec)) rec (request.Read (count_in rec)))
    (cond (eqb o 6) (sized_op (list_size (count_in rec)) rec (request.Take (count_in rec)))
    (cond (eqb o 7) (sized_op next_key_size rec (request.NextKey (instance_in rec)))
    None)))))))

abbrev pub request_of : List ℕ → Option' Request
request_of rec = op_at (byte_at rec 0) rec

-- ---- the pairs of a list record, a key and its instance each

abbrev pub count_of : Option' Request → ℕ
count_of (Some (request.SetUp u)) = 0
count_of (Some (request.Add a)) = 0
count_of (Some (request.NoWriters n)) = 0
count_of (Some (request.Choose c)) = 0
count_of (Some (request.ChooseWithin n c)) = 0
count_of (Some (request.Read n)) = n
count_of (Some (request.Take n)) = n
count_of (Some (request.NextKey n)) = 0
count_of None = 0

unfoldable pub pairs_from : ℕ → List ℕ → ℕ → List Pair
pairs_from zero rec at = []
pairs_from (suc n) rec at = record { key = number_at 8 rec at; name = number_at 8 rec (at + 8) } ∷ pairs_from n rec (at + pair_size)

abbrev pub list_count : List ℕ → ℕ
list_count rec = count_of (request_of rec)

abbrev pub list_pairs : List ℕ → List Pair
list_pairs rec = pairs_from (list_count rec) rec pairs_at

-- ---- the call that a request means, with the pairs beside it

-- the program's result buffers hold 256 pairs or infos, as many as there are slots
abbrev pub buffer : ℕ
buffer = 256

abbrev pub set_up_meant : SetUp → model.SetUp
set_up_meant u = record { mode = u.mode; keep = u.keep; instances = u.instances }

abbrev pub arrival_meant : Arrival → model.Arrival
arrival_meant a = record { name = a.instance; writer = a.writer; seq = a.sequence_number; time = a.time; kind = a.kind; handle = a.handle }

abbrev pub op_meant : Request → List Pair → model.Call
op_meant (request.SetUp u) ps = model.set_up (set_up_meant u)
op_meant (request.Add a) ps = model.add (arrival_meant a)
op_meant (request.NoWriters n) ps = model.no_writers n
op_meant (request.Choose c) ps = model.choose none c buffer
op_meant (request.ChooseWithin n c) ps = model.choose (some n) c buffer
op_meant (request.Read n) ps = model.read_or_take false ps buffer
op_meant (request.Take n) ps = model.read_or_take true ps buffer
op_meant (request.NextKey n) ps = model.next_key n

abbrev pub call_meant : Option' Request → List Pair → Option model.Call
call_meant (Some q) ps = some (op_meant q ps)
call_meant None ps = none

-- a record's call; none where it is malformed
abbrev pub call_of : List ℕ → Option model.Call
call_of rec = call_meant (request_of rec) (list_pairs rec)

-- ---- refusal 1, which "comes first everywhere"

-- "kind not 1 or 2, sequence number out of range, mask beyond 3, 3, 7"
abbrev pub faulty : model.Call → Bool
faulty (model.set_up u) = false
faulty (model.add a) = not (model.well_formed a)
faulty (model.no_writers n) = false
faulty (model.choose w c room) = not (is_valid c)
faulty (model.read_or_take t ps room) = false
faulty (model.next_key n) = false

-- or "bad session record"
abbrev pub bad : Option model.Call → Bool
bad none = true
bad (some c) = faulty c
