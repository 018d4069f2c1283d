-- What holds of the store of every cache that only the calls have changed.
use Rattle.std.specs.Prelude.{◌≡◌, ℕ, ◌*◌, ◌≤◌, ◌<◌, length, get_or}
use Rattle.std.proofs.Math.Option.{Option, some, none}
use Rattle.sampleinfo.specs.Counts.{total}
use Rattle.sampleinfo.specs.Lifecycle.{counts_of}
use Rattle.store.specs.Store.{Store, no_inst}

-- the number of cells of an instance: 0 stands for no keep count
abbrev pub depth_of : Option ℕ → ℕ
depth_of none = 0
depth_of (some d) = d

-- "d at least 1 and i*d at most 256"
abbrev pub Deep : Option ℕ → ℕ → Type 0
Deep none room = Unit {0}
Deep (some d) room = (0 < d) × (d * room ≤ 256)

pub record Fit (s : Store) : Type 0 where
  pub few : length s.insts ≤ s.room
  pub rooms : s.room ≤ 32
  pub deep : Deep s.keep s.room
  pub even : (i : ℕ) → i < length s.insts → length (get_or s.insts i no_inst).cells ≡ depth_of s.keep
  pub totals : (i : ℕ) → i < length s.insts → total (counts_of (get_or s.insts i no_inst).meta) ≤ 2147483647
  pub newest : s.newest ≤ 256
  pub free : length s.free ≡ 256
  pub keys : length s.keys ≡ 256
  pub owners : length s.owners ≡ 256
