-- What a set-up, a no-writers event and a freed slot leave in the header and in the lent words.
use Rattle.std.specs.Prelude.{◌≡◌, cond, List, ℕ, zero, suc, ◌+◌, length, get_or, set, take, drop, replicate, ◌++◌, ltb, eqb}
use Rattle.std.specs.declared.result.Result.{Result}
use Rattle.std.specs.declared.result.Result.TheVariants.{Ok, Err}
use Rattle.refusals.specs.Numbers.{number_of}
use Rattle.refusals.specs.declared.Refusal.{Refusal}
use Rattle.store.specs.Store.{Store, Event, freed}
use Rattle.index.specs.Words.{cells_in, put_cell}
use Rattle.index.specs.Memory.{index_of, head_of, shown}
use Rattle.index.specs.declared.Cache.{Cache}

-- the number of a refusal, 0 for an event that is accepted
abbrev pub code_of : Result Unit Refusal → ℕ
code_of (Ok u) = 0
code_of (Err r) = number_of r

-- the answer and the words of an event; the header stays as it is
pub record Left (e : Event) (r : Result Unit Refusal) (ws : List ℕ) : Type 0 where
  pub code : code_of r ≡ e.code
  pub words : ws ≡ index_of e.then

-- the header and the words are those of the store
pub record Kept (s : Store) (h : Cache) (ws : List ℕ) : Type 0 where
  pub head : shown h ≡ head_of s
  pub words : ws ≡ index_of s

-- freed in a row that is held; no other row changes anything
abbrev pub freed_at : Store → ℕ → ℕ → Store
freed_at s row slot = cond (ltb row (length s.insts)) (freed s row slot) s

-- every cell holds no slot
abbrev pub cleared : List ℕ → List ℕ
cleared ws = take 160 ws ++ (replicate 256 256 ++ drop 416 ws)

-- ---- as the loop goes

abbrev pub empty_cell : ℕ → ℕ → ℕ
empty_cell slot c = cond (eqb c slot) 256 c

-- of the cells from b on n hold the slot no more; in the words, and in a window alone
unfoldable pub emptying : List ℕ → ℕ → ℕ → ℕ → List ℕ
emptying ws b slot zero = ws
emptying ws b slot (suc n) = let w : List ℕ = emptying ws b slot n in put_cell w (b + n) (empty_cell slot (get_or (cells_in w) (b + n) 0))

unfoldable pub empty_block : List ℕ → ℕ → ℕ → List ℕ
empty_block cs slot zero = cs
empty_block cs slot (suc n) = let w : List ℕ = empty_block cs slot n in set w n (empty_cell slot (get_or w n 0))
