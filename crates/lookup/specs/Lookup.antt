-- The answers of the searches, and what they are asked of.
use Rattle.std.specs.Prelude.{◌≡◌, cond, List, ℕ, ◌<◌, length, ltb, Option, Some, None}
use Rattle.std.proofs.Math.Option as model
use Rattle.slots.specs.Bits.{bits_of}
use Rattle.model.specs.Pairs.{Pair}
use Rattle.store.specs.Store.{Store}
use Rattle.store.specs.Fit.{Fit, depth_of}
use Rattle.index.specs.Memory.{index_of}
pub use Rattle.index.specs.Words.{slot_in}

abbrev pub pair_of : ℕ → ℕ → Pair
pair_of key name = record { key = key; name = name }

abbrev pub next_of : model.Option ℕ → Option ℕ
next_of model.none = None
next_of (model.some n) = Some n

abbrev pub least_of : Option ℕ → ℕ → Option ℕ
least_of None n = Some n
least_of (Some m) n = Some (cond (ltb n m) n m)

abbrev pub nearer_of : ℕ → ℕ → Option ℕ → Option ℕ
nearer_of given name best = cond (ltb given name) (least_of best name) best

-- the words are those of a store, with that many cells to an instance, and the row is held
pub record Windowed (s : Store) (depth row : ℕ) (ws : List ℕ) : Type 0 where
  pub fit : Fit s
  pub deep : depth ≡ depth_of s.keep
  pub held : row < length s.insts
  pub words : ws ≡ index_of s

-- the free slots and the words are those of a store
pub record Slotted (s : Store) (bits ws : List ℕ) : Type 0 where
  pub fit : Fit s
  pub free : bits_of bits ≡ s.free
  pub words : ws ≡ index_of s
