-- The model's cache as it lies in memory: its store of numbers, and the table of its sample records. Both are functions of the model.
use Rattle.std.specs.Prelude.{Some, None, List, [], ◌∷◌, ◌++◌, map, cond, ℕ, zero, suc, eqb}
use Rattle.std.proofs.Math.Option.{Option, some, none}
use Rattle.sampleinfo.specs.Samples.{empty_sample}
use Rattle.sampleinfo.specs.declared.Sample.{Sample}
use Rattle.keys.specs.Keys.{Last}
use Rattle.model.specs.Model.{Live, Place, gone, held, Instance, Model, live_in, lives, keyed}
use Rattle.store.specs.Store.{Inst, Store}

-- ---- cells

-- a place as its cell: "256 where there is none"
abbrev pub cell_of : Place → ℕ
cell_of gone = 256
cell_of (held s) = s.slot

-- "with no keep count there are no cells"
abbrev pub cells_of : Option ℕ → List Place → List ℕ
cells_of none ps = []
cells_of (some d) ps = map cell_of ps

abbrev pub inst_of : Option ℕ → Instance → Inst
inst_of k i = record { name = i.name; meta = i.meta; cells = cells_of k i.places }

-- ---- slots

-- a live sample, and the place of its instance
pub record Entry : Type 0 where
  pub at : ℕ
  pub live : Live

abbrev pub entry : ℕ → Live → Entry
entry n s = record { at = n; live = s }

-- the live samples, instance by instance, the first instance being at place n
unfoldable pub entries_from : ℕ → List Instance → List Entry
unfolding live_in
entries_from n [] = []
entries_from n (i ∷ is) = map (entry n) (live_in i.places) ++ entries_from (suc n) is

-- the one in slot k
unfoldable pub look_up : ℕ → List Entry → Option Entry
look_up k [] = none
look_up k (e ∷ es) = let r : Option Entry = look_up k es in cond (eqb e.live.slot k) (some e) r

unfoldable pub tab_from : {A : Type 0} → ℕ → ℕ → (ℕ → A) → List A
tab_from zero k f = []
tab_from (suc n) k f = f k ∷ tab_from n (suc k) f

-- a place for each of the 256 slots, made of what is in the slot
unfoldable pub slots_of : {A : Type 0} → (Option Entry → A) → List Entry → List A
unfolding tab_from look_up
slots_of f es = tab_from 256 0 (λ k. f (look_up k es))

-- "whether it is free (1), the key of its sample and the place of its instance (0 where it is free)"
abbrev pub free_of : Option Entry → ℕ
free_of none = 1
free_of (some e) = 0

abbrev pub key_of : Option Entry → ℕ
key_of none = 0
key_of (some e) = e.live.key

abbrev pub owner_of : Option Entry → ℕ
owner_of none = 0
owner_of (some e) = e.at

-- "a freed slot gets it back": the empty record
abbrev pub sample_of : Option Entry → Sample
sample_of none = empty_sample
sample_of (some e) = e.live.sample

-- ---- the last accepted sample

abbrev pub slot_or_none : Option Live → ℕ
slot_or_none none = 256
slot_or_none (some s) = s.slot

-- the slot of the live sample under the last key issued, 256 where there is none
abbrev pub newest_of : Last → List Live → ℕ
newest_of None ss = 256
newest_of (Some k) ss = slot_or_none (keyed k ss)

-- ---- the whole

abbrev pub entries_of : Model → List Entry
entries_of m = entries_from 0 m.instances

unfoldable pub store_of : Model → Store
unfolding slots_of entries_from lives keyed
store_of m = record {
  keep = m.keep;
  room = m.room;
  last = m.last;
  newest = newest_of m.last (lives m.instances);
  insts = map (inst_of m.keep) m.instances;
  free = slots_of free_of (entries_of m);
  keys = slots_of key_of (entries_of m);
  owners = slots_of owner_of (entries_of m);
}

unfoldable pub table_of : Model → List Sample
unfolding slots_of entries_from
table_of m = slots_of sample_of (entries_of m)
