-- What holds of every cache that only the calls have changed.
use Rattle.std.specs.Prelude.{◌≡◌, List, [], ◌∷◌, ℕ, ◌≤◌, ◌<◌, length, ltb}
use Rattle.std.proofs.Math.Option.{Option, some, none}
use Rattle.lists.specs.Every.{Every}
use Rattle.lists.specs.Count.{bit}
use Rattle.sampleinfo.specs.Counts.{total}
use Rattle.sampleinfo.specs.Lifecycle.{counts_of}
use Rattle.model.specs.Model.{Live, Instance, Model, live_in, lives, count, in_slot}
use Rattle.model.proofs.Slots.{reached}
use Rattle.model.specs.Demand3.{times_held, has_key}
use Rattle.store.specs.Fit.{Deep}

-- under a keep count there are always d places
abbrev pub Sized : Option ℕ → Instance → Type 0
Sized none i = Unit {0}
Sized (some d) i = length i.places ≡ d

-- the keys of an instance's live samples rise
unfoldable pub Rising : List Live → Type 0
unfolding Every
Rising [] = Unit {0}
Rising (s ∷ ss) = Every (λ x. s.key < x.key) ss × Rising ss

abbrev pub Bounded : Instance → Type 0
Bounded i = total (counts_of i.meta) ≤ 2147483647

abbrev pub InOrder : Instance → Type 0
InOrder i = Rising (live_in i.places)

pub record Good (m : Model) : Type 0 where
  pub few : length m.instances ≤ m.room
  pub rooms : m.room ≤ 32
  pub deep : Deep m.keep m.room
  pub even : Every (Sized m.keep) m.instances
  pub names : (n : ℕ) → times_held n m.instances ≤ 1
  pub totals : Every Bounded m.instances
  pub orders : Every InOrder m.instances
  -- each slot below 256 is used once at most, and no other
  pub slots : (k : ℕ) → count (in_slot k) (lives m.instances) ≤ bit (ltb k 256)
  -- no key is live twice, or later than the last
  pub keys : (k : ℕ) → count (has_key k) (lives m.instances) ≤ bit (reached m.last k)
