-- The topic cache as document 01 describes it: limits, update, collection, adding, removal, range (the best-effort half of dds_cache.rs).
use Rattle.std.specs.Prelude.{Some, None, Bool, true, false, ◌&&◌, ◌||◌, cond, List, [], ◌∷◌, ◌++◌, ℕ, ◌+◌, ◌-◌, ◌%◌, max, min, length, drop, ltb, leb, eqb}
use Rattle.std.proofs.Math.Option.{Option, some, none}
use Rattle.sampleinfo.specs.Formed.{seq_fits}
use Rattle.keys.specs.Keys.{Last, Issued, key_of}

-- "An entry has writer, sequence number, handle and payload length"; with the key that it was given
pub record Entry : Type 0 where
  pub key : ℕ
  pub writer : List ℕ
  pub seq : ℕ
  pub handle : ℕ
  pub size : ℕ

-- "Limits: KeepAll, or KeepLast depth 1 to 256": no depth is KeepAll
pub record Limits : Type 0 where
  pub depth : Option ℕ
  pub most : ℕ

-- the entries in order of acceptance, oldest first
pub record Topic : Type 0 where
  pub limits : Limits
  pub last : Last
  pub entries : List Entry

-- "384 places"
abbrev pub places : ℕ
places = 384

-- ---- limits

abbrev pub in_bounds : ℕ → Bool
in_bounds n = leb 1 n && leb n 256

abbrev pub depth_fits : Option ℕ → Bool
depth_fits none = true
depth_fits (some d) = in_bounds d

-- refusal 2: limits outside their bounds
unfoldable pub limits_fit : Limits → Bool
limits_fit l = in_bounds l.most && depth_fits l.depth

-- "max_samples 1 to 256, raised to the depth if smaller"
abbrev pub raised_to : Option ℕ → ℕ → ℕ
raised_to none n = n
raised_to (some d) n = max d n

abbrev pub raised : Limits → Limits
raised l = record { depth = l.depth; most = raised_to l.depth l.most }

-- "An update only raises: KeepAll stands above every depth."
abbrev pub deeper : Option ℕ → Option ℕ → Option ℕ
deeper none e = none
deeper (some d) none = none
deeper (some d) (some e) = some (max d e)

abbrev pub wider : Limits → Limits → Limits
wider l k = record { depth = deeper l.depth k.depth; most = max l.most k.most }

-- "defaults depth 1 and 64"
abbrev pub defaults : Limits
defaults = record { depth = some 1; most = 64 }

-- ---- removal

-- "must = held minus max_samples, not below 0"
abbrev pub must_remove : Limits → ℕ → ℕ
must_remove l held = held - l.most

-- "may is must for KeepAll, else the greater of must and held minus depth, not below 0"
abbrev pub may_for : Option ℕ → ℕ → ℕ → ℕ
may_for none must held = must
may_for (some d) must held = max must (held - d)

abbrev pub may_remove : Limits → ℕ → ℕ
may_remove l held = may_for l.depth (must_remove l held) held

-- held keys below t
unfoldable pub count_below : ℕ → List Entry → ℕ
count_below t [] = 0
count_below t (e ∷ es) = cond (ltb e.key t) 1 0 + count_below t es

-- "Removal before time t drops, from the oldest, max(must, min(may, held keys below t))"
unfoldable pub removal : Limits → ℕ → List Entry → ℕ
removal l t es = max (must_remove l (length es)) (min (may_remove l (length es)) (count_below t es))

abbrev pub removed_before : ℕ → Topic → Topic
removed_before t c = record { limits = c.limits; last = c.last; entries = drop (removal c.limits t c.entries) c.entries }

-- "A collection is removal before 0."
abbrev pub collected : Topic → Topic
collected c = removed_before 0 c

-- ---- adding

pub record Change : Type 0 where
  pub time : ℕ
  pub writer : List ℕ
  pub seq : ℕ
  pub handle : ℕ
  pub size : ℕ

-- "a multiple of 64 (payload up to 1,024 bytes) or of 8 (up to 65,536), always above that"
abbrev pub collect_every : ℕ → ℕ
collect_every size = cond (leb size 1024) 64 (cond (leb size 65536) 8 1)

-- "and, added here, whenever the table is full"
unfoldable pub collects : Topic → Change → Bool
collects c x = eqb (x.seq % collect_every x.size) 0 || leb places (length c.entries)

abbrev pub collected_for : Topic → Change → Topic
collected_for c x = cond (collects c x) (collected c) c

-- "A held pair of writer and sequence number"
unfoldable pub same_bytes : List ℕ → List ℕ → Bool
same_bytes [] [] = true
same_bytes [] (y ∷ ys) = false
same_bytes (x ∷ xs) [] = false
same_bytes (x ∷ xs) (y ∷ ys) = eqb x y && same_bytes xs ys

unfoldable pub holds_pair : List ℕ → ℕ → List Entry → Bool
holds_pair w s [] = false
holds_pair w s (e ∷ es) = (eqb e.seq s && same_bytes e.writer w) || holds_pair w s es

abbrev pub entry_of : Change → ℕ → Entry
entry_of x key = record { key = key; writer = x.writer; seq = x.seq; handle = x.handle; size = x.size }

-- ---- calls and answers

pub data Call : Type 0 where
  update : Limits → Call
  add : Change → Call
  remove_before : ℕ → Call
  -- start, end, and the room of the lent result buffer, in entries
  range : ℕ → ℕ → ℕ → Call

pub data Answer : Type 0 where
  refused : ℕ → Answer
  ok : Answer
  key : ℕ → Answer
  held_already : Answer
  found : List Entry → Answer

pub record Step : Type 0 where
  pub answer : Answer
  pub then : Topic

abbrev pub refuse : Topic → ℕ → Step
refuse c n = record { answer = refused n; then = c }

-- "the key rule above, starting from last key 0"; "Refusal 6 undoes the collection too."
abbrev pub issuing : Topic → Topic → Change → Issued → Step
issuing was now x None = refuse was 6
issuing was now x (Some k) = record { answer = key k; then = record { limits = now.limits; last = Some k; entries = now.entries ++ entry_of x k ∷ [] } }

-- "Topic add: the held test, 6." after 1; "the collection stands"
abbrev pub adding : Topic → Topic → Change → Step
adding was now x =
    cond (holds_pair x.writer x.seq now.entries) (record { answer = held_already; then = now }) (issuing was now x (key_of now.last x.time))

-- "The range gives the entries with keys above start and up to end, in key order"
unfoldable pub within : ℕ → ℕ → List Entry → List Entry
within start end [] = []
within start end (e ∷ es) = let r : List Entry = within start end es in cond (ltb start e.key && leb e.key end) (e ∷ r) r

abbrev pub fresh : Limits → Topic
fresh l = record { limits = raised l; last = Some 0; entries = [] }

unfoldable pub step : Topic → Call → Step
step c (update l) = cond (limits_fit l) (record { answer = ok; then = record { limits = wider c.limits (raised l); last = c.last; entries = c.entries } }) (refuse c 2)
step c (add x) = cond (seq_fits x.seq) (adding c (collected_for c x) x) (refuse c 1)
step c (remove_before t) = record { answer = ok; then = removed_before t c }
step c (range start end room) = let es : List Entry = within start end c.entries in cond (leb (length es) room) (record { answer = found es; then = c }) (refuse c 9)
