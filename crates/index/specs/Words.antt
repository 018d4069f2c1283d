-- The lent words: five regions one behind the other, what is read in a region and what a store in it makes; the words of an instance record.
use Rattle.std.specs.Prelude.{cond, List, [], ◌∷◌, ◌++◌, ℕ, suc, ◌+◌, ◌-◌, ◌*◌, ◌%◌, length, get_or, set, take, drop, replicate, ltb, eqb}
use Rattle.lists.specs.Regions.{join}
pub use Rattle.slots.specs.Bits.{slot_in}
use Rattle.sampleinfo.specs.States.{instance_bit, instance_of_bit}
use Rattle.sampleinfo.specs.Counts.{counts, disposed_count, no_writers_count}
use Rattle.sampleinfo.specs.Lifecycle.{meta, state_of, counts_of, accessed_of}
use Rattle.sampleinfo.specs.declared.InstanceMetaData.{InstanceMetaData}

-- the n words from b on
unfoldable pub region : ℕ → ℕ → List ℕ → List ℕ
region b n ws = take n (drop b ws)

-- the word at i of the n from b on anew; nothing past them
unfoldable pub store : ℕ → ℕ → List ℕ → ℕ → ℕ → List ℕ
store b n ws i v = cond (ltb i n) (set ws (b + i) v) ws

-- names at 0, instance records at 32, cells at 160, the slots' keys at 416, the slots' owners at 672
abbrev pub names_in : List ℕ → List ℕ
names_in ws = region 0 32 ws

abbrev pub metas_in : List ℕ → List ℕ
metas_in ws = region 32 128 ws

abbrev pub cells_in : List ℕ → List ℕ
cells_in ws = region 160 256 ws

abbrev pub keys_in : List ℕ → List ℕ
keys_in ws = region 416 256 ws

abbrev pub owners_in : List ℕ → List ℕ
owners_in ws = region 672 256 ws

abbrev pub put_name : List ℕ → ℕ → ℕ → List ℕ
put_name ws i v = store 0 32 ws i v

abbrev pub put_meta_word : List ℕ → ℕ → ℕ → List ℕ
put_meta_word ws i v = store 32 128 ws i v

abbrev pub put_cell : List ℕ → ℕ → ℕ → List ℕ
put_cell ws i v = store 160 256 ws i v

abbrev pub put_key : List ℕ → ℕ → ℕ → List ℕ
put_key ws i v = store 416 256 ws i v

abbrev pub put_owner : List ℕ → ℕ → ℕ → List ℕ
put_owner ws i v = store 672 256 ws i v

-- a slot's key and owner
unfoldable pub put_slot : List ℕ → ℕ → ℕ → ℕ → List ℕ
unfolding store
put_slot ws slot key row = put_owner (put_key ws slot key) slot row

unfoldable pub words : List ℕ → List ℕ → List ℕ → List ℕ → List ℕ → List ℕ
unfolding join
words names metas cells keys owners = join names metas cells (keys ++ owners)

-- filled up with 0 to n
unfoldable pub padded : ℕ → List ℕ → List ℕ
padded n l = l ++ replicate (n - length l) 0

-- ---- the four words of an instance record: the state's bit, the disposed count, the no-writers count, what was last accessed

abbrev pub meta_line : InstanceMetaData → List ℕ
meta_line x = instance_bit (state_of x) ∷ disposed_count (counts_of x) ∷ no_writers_count (counts_of x) ∷ accessed_of x ∷ []

-- a count is read from the low half of its word
abbrev pub meta_of : ℕ → ℕ → ℕ → ℕ → InstanceMetaData
meta_of b d n a = meta (instance_of_bit b) (counts (d % 4294967296) (n % 4294967296)) a

unfoldable pub meta_at : List ℕ → ℕ → InstanceMetaData
meta_at ms i = meta_of (get_or ms (4 * i) 0) (get_or ms (4 * i + 1) 0) (get_or ms (4 * i + 2) 0) (get_or ms (4 * i + 3) 0)

-- the same four stores, in the words and in the region alone
unfoldable pub put_meta : List ℕ → ℕ → InstanceMetaData → List ℕ
unfolding store
put_meta ws i x = put_meta_word (put_meta_word (put_meta_word (put_meta_word ws (4 * i) (instance_bit (state_of x))) (4 * i + 1) (disposed_count (counts_of x))) (4 * i + 2) (no_writers_count (counts_of x))) (4 * i + 3) (accessed_of x)

unfoldable pub set_meta : List ℕ → ℕ → InstanceMetaData → List ℕ
set_meta ms i x = set (set (set (set ms (4 * i) (instance_bit (state_of x))) (4 * i + 1) (disposed_count (counts_of x))) (4 * i + 2) (no_writers_count (counts_of x))) (4 * i + 3) (accessed_of x)

-- ---- names

-- the place of the first that is equal, or their number
unfoldable pub name_index : ℕ → List ℕ → ℕ
name_index n [] = 0
name_index n (x ∷ xs) = let r : ℕ = name_index n xs in cond (eqb x n) 0 (suc r)

-- the names of the instances held
unfoldable pub held_names : ℕ → List ℕ → List ℕ
unfolding region
held_names held ws = take held (names_in ws)
