-- How the entries of a topic cache lie in the lent words.
use Rattle.std.specs.Prelude.{◌≡◌, cond, List, [], ◌∷◌, ◌++◌, map, ℕ, zero, suc, ◌+◌, ◌*◌, ◌/◌, ◌%◌, ◌≤◌, ◌<◌, length, get_or, take, drop, replicate, leb}
use Rattle.lists.specs.Blocks.{flat, filled}
use Rattle.model.specs.Topic.{Entry, within, places}
use Rattle.changes.specs.declared.Row.{Row}
use Rattle.changes.specs.declared.CacheChange.{CacheChange}
use Rattle.changes.specs.declared.Kept.{Kept}

-- what stands past the last entry
abbrev pub none : Entry
none = record { key = 0; writer = []; seq = 0; handle = 0; size = 0 }

-- "writer 16 bytes, carried unread": two words hold them, each eight bytes, the first the lowest
unfoldable pub pack : List ℕ → ℕ
pack [] = 0
pack (b ∷ bs) = b + 256 * pack bs

unfoldable pub half : ℕ → List ℕ → ℕ
half at w = pack (take 8 (drop at w))

abbrev pub Bytes : List ℕ → Type 0
Bytes w = (i : ℕ) → get_or w i 0 < 256

pub record Writer (w : List ℕ) : Type 0 where
  pub sixteen : length w ≡ 16
  pub bytes : Bytes w

unfoldable pub Written : List Entry → Type 0
Written es = (i : ℕ) → i < length es → Writer (get_or es i none).writer

-- "An entry has writer, sequence number, handle and payload length", and its key
abbrev pub entry_of : CacheChange → ℕ → Entry
entry_of x key = record { key = key; writer = x.writer_guid; seq = x.sequence_number; handle = x.handle; size = x.payload_size }

abbrev pub row_of : Entry → Row
row_of e = record { key = e.key; seq = e.seq; low = half 0 e.writer; high = half 8 e.writer; handle = e.handle; size = e.size }

abbrev pub cells : Row → List ℕ
cells x = x.key ∷ x.seq ∷ x.low ∷ x.high ∷ x.handle ∷ x.size ∷ []

abbrev pub line_of : Entry → List ℕ
line_of e = cells (row_of e)

-- "384 places", six words each
abbrev pub table_size : ℕ
table_size = 6 * places

-- the oldest first, and zeros behind the last
unfoldable pub words_of : List Entry → List ℕ
words_of es = filled 6 table_size 0 (map line_of es)

-- the words are those of the entries, and held is their number
pub record Holds (es : List Entry) (held : ℕ) (ws : List ℕ) : Type 0 where
  pub few : length es ≤ places
  pub number : held ≡ length es
  pub words : ws ≡ words_of es

-- the results: the entries found, and "places past the answer keep what they held"
unfoldable pub shown_in : List Entry → List ℕ → List ℕ
shown_in es out = flat (map line_of es) ++ drop (6 * length es) out

-- the held keys above start and up to end, counted; "with start above end, nothing", whatever the words hold
pub record Ranging (ws : List ℕ) (held start end n : ℕ) : Type 0 where
  pub counted : (es : List Entry) → Holds es held ws → n ≡ length (within start end es)
  pub nothing : end ≤ start → n ≡ 0

-- their entries, copied to the results
pub record Copying (ws : List ℕ) (held start end : ℕ) (out after : List ℕ) : Type 0 where
  pub copied : (es : List Entry) → Holds es held ws → 6 * length (within start end es) ≤ length out → after ≡ shown_in (within start end es) out
  pub nothing : end ≤ start → after ≡ out

-- ---- a result read back

abbrev pub row_at : List ℕ → ℕ → Row
row_at ws a = record { key = get_or ws a 0; seq = get_or ws (a + 1) 0; low = get_or ws (a + 2) 0; high = get_or ws (a + 3) 0; handle = get_or ws (a + 4) 0; size = get_or ws (a + 5) 0 }

-- the n lowest bytes of a word, the lowest first
unfoldable pub unpack : ℕ → ℕ → List ℕ
unpack zero w = []
unpack (suc n) w = (w % 256) ∷ unpack n (w / 256)

unfoldable pub guid_of : ℕ → ℕ → List ℕ
guid_of low high = unpack 8 low ++ unpack 8 high

abbrev pub nothing_kept : Kept
nothing_kept = record { key = 0; change = record { writer_guid = replicate 16 0; sequence_number = 0; handle = 0; payload_size = 0 } }

abbrev pub kept_of : Row → Kept
kept_of x = record { key = x.key; change = record { writer_guid = guid_of x.low x.high; sequence_number = x.seq; handle = x.handle % 4294967296; payload_size = x.size % 4294967296 } }

-- an entry as its row tells it
abbrev pub entry_in : Row → Entry
entry_in x = record { key = x.key; writer = guid_of x.low x.high; seq = x.seq; handle = x.handle; size = x.size }

-- n entries read off the results, from place i on
unfoldable pub entries_in : ℕ → ℕ → List ℕ → List Entry
entries_in zero i out = []
entries_in (suc n) i out = entry_in (row_at out (6 * i)) ∷ entries_in n (i + 1) out

-- the i-th result, nothing past the last whole one
unfoldable pub kept_at : List ℕ → ℕ → Kept
kept_at out i = cond (leb (length out / 6) i) nothing_kept (kept_of (row_at out (6 * i)))
