-- The cache on numbers alone: what the header and the index say, and what each call makes of it. A slot's record is not here.
use Rattle.std.specs.Prelude.{Bool, ◌&&◌, not, cond, List, [], ◌∷◌, ◌++◌, ℕ, zero, suc, ◌+◌, length, get_or, set, drop, replicate, ltb, leb, eqb, Some, None}
use Rattle.std.proofs.Math.Option.{Option, some, none}
use Rattle.std.specs.Prelude as rust
use Rattle.lists.specs.Blocks.{put_at}
use Rattle.slots.specs.Bits.{first_one, slot_for, free_at}
use Rattle.keys.specs.Keys.{Last, Issued, key_of}
use Rattle.sampleinfo.specs.Lifecycle.{meta, state_of, counts_of, new_instance, lifecycle_of, no_writers_of}
use Rattle.sampleinfo.specs.declared.InstanceState.{InstanceState}
use Rattle.sampleinfo.specs.declared.InstanceState.TheVariants.{Alive}
use Rattle.sampleinfo.specs.declared.NotAliveGenerationCounts.{NotAliveGenerationCounts}
use Rattle.sampleinfo.specs.declared.InstanceMetaData.{InstanceMetaData}
use Rattle.model.specs.Pairs.{Pair}
use Rattle.model.specs.Model.{least}

-- a cell for each of the last d places, oldest first: the slot, or 256 where there is none; with no keep count there are no cells
pub record Inst : Type 0 where
  pub name : ℕ
  pub meta : InstanceMetaData
  pub cells : List ℕ

-- newest is the slot of the last accepted sample while that is live, else 256; free, keys and owners have a place for each of the 256 slots:
-- whether it is free (1), the key of its sample and the place of its instance (0 where it is free)
pub record Store : Type 0 where
  pub keep : Option ℕ
  pub room : ℕ
  pub last : Last
  pub newest : ℕ
  pub insts : List Inst
  pub free : List ℕ
  pub keys : List ℕ
  pub owners : List ℕ

-- ---- instances by place

-- the place of the first instance of that name, or their number
unfoldable pub place_of : ℕ → List Inst → ℕ
place_of n [] = 0
place_of n (i ∷ is) = let r : ℕ = place_of n is in cond (eqb i.name n) 0 (suc r)

abbrev pub cells_for : Option ℕ → List ℕ
cells_for none = []
cells_for (some d) = replicate d 256

abbrev pub fresh_inst : Option ℕ → ℕ → InstanceState → Inst
fresh_inst k n s = record { name = n; meta = new_instance s; cells = cells_for k }

-- for a place where there is none
abbrev pub no_inst : Inst
no_inst = record { name = 0; meta = new_instance Alive; cells = [] }

abbrev pub with_meta : Inst → InstanceMetaData → Inst
with_meta i x = record { name = i.name; meta = x; cells = i.cells }

abbrev pub with_inst : Store → ℕ → Inst → Store
with_inst s at i = record { keep = s.keep; room = s.room; last = s.last; newest = s.newest; insts = put_at at i s.insts; free = s.free; keys = s.keys; owners = s.owners }

-- ---- adding

pub record Wanted : Type 0 where
  pub name : ℕ
  pub time : ℕ
  pub state : InstanceState

-- the key, the slot, the slot that was pushed out (256 for none) and the counts after the step
pub data Said : Type 0 where
  refused : ℕ → Said
  added : ℕ → ℕ → ℕ → NotAliveGenerationCounts → Said

pub record Step : Type 0 where
  pub said : Said
  pub then : Store

abbrev pub declined : ℕ → Store → Step
declined n s = record { said = refused n; then = s }

-- the cell that an add pushes out
abbrev pub oldest : Option ℕ → List ℕ → ℕ
oldest none cs = 256
oldest (some d) cs = get_or cs 0 256

-- the window moves on by one
abbrev pub moved_on : Option ℕ → List ℕ → ℕ → List ℕ
moved_on none cs slot = cs
moved_on (some d) cs slot = drop 1 (cs ++ slot ∷ [])

unfoldable pub filling : Store → ℕ → Inst → ℕ → ℕ → ℕ → Step
unfolding put_at
filling s at y key old slot = record {
  said = added key slot old (counts_of y.meta);
  then = record {
    keep = s.keep;
    room = s.room;
    last = Some key;
    newest = slot;
    insts = put_at at (record { name = y.name; meta = y.meta; cells = moved_on s.keep y.cells slot }) s.insts;
    free = set (set s.free old 1) slot 0;
    keys = set (set s.keys old 0) slot key;
    owners = set (set s.owners old 0) slot at;
  };
}

-- "Room is made first, then the lowest free slot is used."
unfoldable pub placing : Store → ℕ → Inst → ℕ → Step
unfolding filling first_one
placing s at y key =
    let old : ℕ = oldest s.keep y.cells in
    let slot : ℕ = slot_for s.free (set s.free old 1) in
    cond (ltb slot 256) (filling s at y key old slot) (declined 5 s)

abbrev pub living : Store → ℕ → Inst → ℕ → rust.Option InstanceMetaData → Step
living s at y key None = declined 7 s
living s at y key (Some j) = placing s at (with_meta y j) key

unfoldable pub keying : Store → Wanted → ℕ → Step
unfolding place_of placing lifecycle_of
keying s a key =
    let at : ℕ = place_of a.name s.insts in
    let old : Inst = get_or s.insts at (fresh_inst s.keep a.name a.state) in
    cond (leb (length s.insts) at && leb s.room (length s.insts)) (declined 4 s) (living s at old key (lifecycle_of old.meta a.state))

abbrev pub issuing : Store → Wanted → Issued → Step
issuing s a None = declined 6 s
issuing s a (Some key) = keying s a key

unfoldable pub adding : Store → Wanted → Step
unfolding keying key_of
adding s a = issuing s a (key_of s.last a.time)

-- ---- the no-writers event: 0, or 3 for an unknown instance

pub record Event : Type 0 where
  pub code : ℕ
  pub then : Store

abbrev pub inst_at : Store → ℕ → Inst
inst_at s at = get_or s.insts at no_inst

unfoldable pub dying : Store → ℕ → Event
unfolding place_of put_at
dying s n =
    let at : ℕ = place_of n s.insts in
    let i : Inst = inst_at s at in
    cond (ltb at (length s.insts)) (record { code = 0; then = with_inst s at (with_meta i (no_writers_of i.meta)) }) (record { code = 3; then = s })

-- ---- the next name

unfoldable pub next_name : ℕ → List Inst → Option ℕ
next_name n [] = none
next_name n (i ∷ is) = let r : Option ℕ = next_name n is in cond (ltb n i.name) (least r i.name) r

-- ---- the slot that a pair names, or 256

-- with a keep count: among the instance's cells
unfoldable pub cell_keyed : ℕ → List ℕ → List ℕ → ℕ
cell_keyed key keys [] = 256
cell_keyed key keys (c ∷ cs) = let r : ℕ = cell_keyed key keys cs in cond (ltb c 256 && eqb (get_or keys c 0) key) c r

-- with none: among the n slots from k on, those of the instance at that place
unfoldable pub slot_keyed : ℕ → ℕ → ℕ → ℕ → Store → ℕ
slot_keyed zero k key at s = k
slot_keyed (suc n) k key at s =
    let r : ℕ = slot_keyed n (k + 1) key at s in
    cond (not (free_at s.free k) && (eqb (get_or s.keys k 0) key && eqb (get_or s.owners k 0) at)) k r

abbrev pub slot_of_key : Option ℕ → Store → ℕ → ℕ → ℕ
slot_of_key none s at key = slot_keyed 256 0 key at s
slot_of_key (some d) s at key = cell_keyed key s.keys (inst_at s at).cells

unfoldable pub slot_named : Store → Pair → ℕ
unfolding place_of cell_keyed slot_keyed
slot_named s p = let at : ℕ = place_of p.name s.insts in cond (ltb at (length s.insts)) (slot_of_key s.keep s at p.key) 256

abbrev pub is_held : Store → Pair → Bool
is_held s p = ltb (slot_named s p) 256

-- ---- taking, and what was accessed

-- the slot is in none of the cells any more
unfoldable pub emptied : ℕ → List ℕ → List ℕ
emptied k [] = []
emptied k (c ∷ cs) = cond (eqb c k) 256 c ∷ emptied k cs

unfoldable pub freed : Store → ℕ → ℕ → Store
unfolding put_at emptied
freed s at k =
    let i : Inst = inst_at s at in
    record {
      keep = s.keep;
      room = s.room;
      last = s.last;
      newest = cond (eqb s.newest k) 256 s.newest;
      insts = put_at at (record { name = i.name; meta = i.meta; cells = emptied k i.cells }) s.insts;
      free = set s.free k 1;
      keys = set s.keys k 0;
      owners = set s.owners k 0;
    }

abbrev pub with_accessed : InstanceMetaData → ℕ → InstanceMetaData
with_accessed x a = meta (state_of x) (counts_of x) a

abbrev pub accessed_in : Store → ℕ → ℕ → Store
accessed_in s at a = with_inst s at (with_meta (inst_at s at) (with_accessed (inst_at s at).meta a))

-- ---- the slot of the latest key: that of the last accepted sample while it is live, else the live slot with the greatest key; 256 where none is live

abbrev pub later_slot : List ℕ → ℕ → ℕ → ℕ
later_slot keys k r = cond (ltb r 256 && ltb (get_or keys k 0) (get_or keys r 0)) r k

unfoldable pub greatest_from : ℕ → ℕ → Store → ℕ
greatest_from zero k s = 256
greatest_from (suc n) k s = let r : ℕ = greatest_from n (k + 1) s in cond (free_at s.free k) r (later_slot s.keys k r)

unfoldable pub latest_slot : Store → ℕ
unfolding greatest_from
latest_slot s = cond (ltb s.newest 256) s.newest (greatest_from 256 0 s)
