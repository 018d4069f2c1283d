-- What an add answers and writes, on the header and the lent words.
use Rattle.std.specs.Prelude.{◌≡◌, List, map, ℕ, zero, suc, ◌+◌, ◌*◌, ◌≤◌, ◌<◌, length, get_or, set, replicate}
use Rattle.std.specs.declared.result.Result.{Result}
use Rattle.std.specs.declared.result.Result.TheVariants.{Ok, Err}
use Rattle.refusals.specs.Numbers.{number_of}
use Rattle.refusals.specs.declared.Refusal.{Refusal}
use Rattle.sampleinfo.specs.declared.InstanceState.{InstanceState}
use Rattle.sampleinfo.specs.declared.InstanceMetaData.{InstanceMetaData}
use Rattle.store.specs.Store.{Inst, Store, Wanted, Said, refused, added, Step}
use Rattle.store.specs.Fit.{depth_of}
use Rattle.index.specs.Words.{cells_in, put_cell, put_name, put_meta, put_slot, slot_in}
use Rattle.index.specs.Memory.{cells_of, index_of, head_of, shown}
use Rattle.index.specs.declared.Cache.{Cache}
use Rattle.plan.specs.declared.Planned.{Planned}

abbrev pub wanted : ℕ → ℕ → InstanceState → Wanted
wanted n t s = record { name = n; time = t; state = s }

-- "An add answers key, slot and the handle pushed out, if any": here the slot that is pushed out, and the counts after the step
abbrev pub Says : Said → Result Planned Refusal → Type 0
Says (refused n) (Err e) = number_of e ≡ n
Says (refused n) (Ok p) = ⊥
Says (added key slot old counts) (Err e) = ⊥
Says (added key slot old counts) (Ok p) = p ≡ record { key = key; slot = slot; old = slot_in old; counts = counts }

-- what an outcome says, the header and the words are those of a step
pub record Made (st : Step) (r : Result Planned Refusal) (h : Cache) (ws : List ℕ) : Type 0 where
  pub answer : Says st.said r
  pub head : shown h ≡ head_of st.then
  pub words : ws ≡ index_of st.then

-- an instance that may be put in a row: the window there is its window
pub record Ready (s : Store) (row : ℕ) (i : Inst) : Type 0 where
  pub place : row ≤ length s.insts
  pub space : row < s.room
  pub window : get_or (map cells_of s.insts) row (replicate (depth_of s.keep) 256) ≡ i.cells

-- n of the cells from b on take what their next one held; in the words, and in a window alone
unfoldable pub shifting : List ℕ → ℕ → ℕ → List ℕ
shifting ws b zero = ws
shifting ws b (suc n) = let w : List ℕ = shifting ws b n in put_cell w (b + n) (get_or (cells_in w) (b + (n + 1)) 0)

unfoldable pub shift_block : List ℕ → ℕ → List ℕ
shift_block cs zero = cs
shift_block cs (suc n) = let w : List ℕ = shift_block cs n in set w n (get_or w (n + 1) 0)

-- and the last takes the slot
unfoldable pub moved_along : List ℕ → ℕ → ℕ → ℕ → List ℕ
unfolding shifting
moved_along ws b zero slot = ws
moved_along ws b (suc n) slot = put_cell (shifting ws b n) (b + n) slot

unfoldable pub committed : List ℕ → ℕ → ℕ → ℕ → InstanceMetaData → ℕ → ℕ → ℕ → List ℕ
unfolding moved_along
committed ws depth row name x key slot old = put_slot (put_slot (moved_along (put_meta (put_name ws row name) row x) (depth * row) depth slot) old 0 0) slot key row
