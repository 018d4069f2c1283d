-- The store as it lies in the header and in the lent words: one content of both for each store.
use Rattle.std.specs.Prelude.{None, ◌≡◌, List, [], map, ℕ, length, replicate}
use Rattle.std.proofs.Math.Option.{Option}
use Rattle.lists.specs.Blocks.{filled}
use Rattle.slots.specs.Bits.{bits_of}
use Rattle.keys.specs.Keys.{Last}
use Rattle.store.specs.Store.{Inst, Store}
use Rattle.store.specs.Fit.{Fit, depth_of}
use Rattle.index.specs.Words.{words, padded, meta_line}
use Rattle.index.specs.declared.Cache.{Cache}

abbrev pub name_of : Inst → ℕ
name_of i = i.name

abbrev pub line_of : Inst → List ℕ
line_of i = meta_line i.meta

abbrev pub cells_of : Inst → List ℕ
cells_of i = i.cells

-- the instances' names and records, 0 where there is none; the windows one behind the other, each as long as the keep count, 256 where there is none;
-- the slots' keys and owners
unfoldable pub index_of : Store → List ℕ
unfolding words padded filled
index_of s = words (padded 32 (map name_of s.insts)) (filled 4 128 0 (map line_of s.insts)) (filled (depth_of s.keep) 256 256 (map cells_of s.insts)) s.keys s.owners

-- the header, with its free slots as a list
pub record View : Type 0 where
  pub depth : ℕ
  pub room : ℕ
  pub held : ℕ
  pub last : Last
  pub newest : ℕ
  pub free : List ℕ

abbrev pub shown : Cache → View
shown h = record { depth = h.depth; room = h.room; held = h.held; last = h.last; newest = h.newest; free = bits_of h.free.words }

abbrev pub head_of : Store → View
head_of s = record { depth = depth_of s.keep; room = s.room; held = length s.insts; last = s.last; newest = s.newest; free = s.free }

-- the header and the words are those of a store that is fit
pub record Tied (s : Store) (h : Cache) (ws : List ℕ) : Type 0 where
  pub fit : Fit s
  pub head : shown h ≡ head_of s
  pub words : ws ≡ index_of s

-- the same, where of the header only the number of instances held is at hand
pub record Held (s : Store) (held : ℕ) (ws : List ℕ) : Type 0 where
  pub fit : Fit s
  pub count : held ≡ length s.insts
  pub words : ws ≡ index_of s

-- "An accepted set-up makes the cache fresh"
abbrev pub fresh_store : Option ℕ → ℕ → Store
fresh_store keep room = record { keep = keep; room = room; last = None; newest = 256; insts = []; free = replicate 256 1; keys = replicate 256 0; owners = replicate 256 0 }
