-- The format of oracle/src/topic/format.rs: what a record asks for, what refuses it before the cache is asked, and a writer's digits.
use Rattle.std.specs.Prelude.{Bool, cond, ◌&&◌, List, [], ◌∷◌, ℕ, ◌+◌, ◌/◌, ◌%◌, eqb, ltb, leb, length}
use Rattle.sampleinfo.specs.Formed.{seq_fits}
use Rattle.records.specs.Format.{byte_at, number_at, bytes_at}
use Rattle.changes.specs.declared.CacheChange.{CacheChange}
use Rattle.dds_cache.specs.declared.History.{History}
use Rattle.dds_cache.specs.declared.History.TheVariants.{KeepAll, KeepLast}
use Rattle.std.specs.declared.result.Result.{Result}
use Rattle.std.specs.declared.result.Result.TheVariants.{Ok, Err}
use Rattle.refusals.specs.declared.Refusal.{Refusal}
use Rattle.refusals.specs.declared.Refusal.TheVariants as refusal
use Rattle.refusals.specs.Numbers.{number_of}
use Rattle.topic_records.specs.declared.Op.{Op}
use Rattle.topic_records.specs.declared.Op.TheVariants as op

-- ---- records: the size of each, operation byte and fields

abbrev pub limits_size : ℕ
limits_size = 11

abbrev pub add_size : ℕ
add_size = 41

abbrev pub remove_size : ℕ
remove_size = 9

abbrev pub range_size : ℕ
range_size = 17

-- a wrong length is malformed
unfoldable pub sized_op : ℕ → ℕ → Op → Result Op Refusal
sized_op wanted size o = cond (eqb size wanted) (Ok o) (Err refusal.Malformed)

-- "keep (0 default, 1 KeepLast, 2 KeepAll) .. whether max_samples is given (0 or 1)"
unfoldable pub tags_fit : List ℕ → Bool
tags_fit rec = leb (byte_at rec 1) 2 && leb (byte_at rec 6) 1

-- a byte that names nothing is malformed too
unfoldable pub limits_op : List ℕ → Op → Result Op Refusal
limits_op rec o = cond (tags_fit rec) (sized_op limits_size (length rec) o) (Err refusal.Malformed)

abbrev pub sequence_in : List ℕ → ℕ
sequence_in rec = number_at 8 rec 17

-- "sequence number out of range" is refused with 1, as a malformed record is
unfoldable pub add_op : List ℕ → Result Op Refusal
add_op rec = cond (seq_fits (sequence_in rec)) (sized_op add_size (length rec) op.Add) (Err refusal.Malformed)

-- "0 new and 1 update .. 2 add .. 3 remove before .. 4 range"
unfoldable pub op_at : ℕ → List ℕ → Result Op Refusal
op_at o rec =
    cond (eqb o 0) (limits_op rec op.New)
    (cond (eqb o 1) (limits_op rec op.Update)
    (cond (eqb o 2) (add_op rec)
    (cond (eqb o 3) (sized_op remove_size (length rec) op.RemoveBefore)
    (cond (eqb o 4) (sized_op range_size (length rec) op.Range)
    (Err refusal.Malformed)))))

abbrev pub op_in : List ℕ → Result Op Refusal
op_in rec = op_at (byte_at rec 0) rec

-- "writer (16), sequence number (8), handle (4), payload length (4)"; the time behind them is read where the add is made
abbrev pub change_in : List ℕ → CacheChange
change_in rec = record {
  writer_guid = bytes_at 16 rec 1;
  sequence_number = sequence_in rec;
  handle = number_at 4 rec 25;
  payload_size = number_at 4 rec 29;
}

-- ---- limits, "defaults depth 1 and 64"

unfoldable pub history_asked : ℕ → ℕ → History
history_asked keep depth = cond (eqb keep 0) (KeepLast 1) (cond (eqb keep 1) (KeepLast depth) KeepAll)

unfoldable pub most_asked : ℕ → ℕ → ℕ
most_asked given most = cond (eqb given 0) 64 most

abbrev pub history_in : List ℕ → History
history_in rec = history_asked (byte_at rec 1) (number_at 4 rec 2)

abbrev pub most_in : List ℕ → ℕ
most_in rec = most_asked (byte_at rec 6) (number_at 4 rec 7)

-- ---- refusals before the cache is asked: "1 comes first everywhere", then "A call before the first accepted new is refused with 10"; 0 is none

abbrev pub ten_unless : Bool → ℕ
ten_unless ready = cond ready 0 10

abbrev pub refusal_for : Result Op Refusal → Bool → ℕ
refusal_for (Ok op.New) ready = 0
refusal_for (Ok op.Update) ready = ten_unless ready
refusal_for (Ok op.Add) ready = ten_unless ready
refusal_for (Ok op.RemoveBefore) ready = ten_unless ready
refusal_for (Ok op.Range) ready = ten_unless ready
refusal_for (Err e) ready = number_of e

abbrev pub code_of : Result Unit Refusal → ℕ
code_of (Ok u) = 0
code_of (Err e) = number_of e

-- ---- "writer (32 hex digits)": 0 to 9, then a to f

unfoldable pub digit_of : ℕ → ℕ
digit_of n = cond (ltb n 10) (48 + n) (87 + n)

unfoldable pub hex_text : List ℕ → List ℕ
hex_text [] = []
hex_text (b ∷ bs) = digit_of (b / 16) ∷ digit_of (b % 16) ∷ hex_text bs
