-- The first repeat in a list of pairs, the first that is not live, and the first bad pair by these two.
use Rattle.std.specs.Prelude.{Bool, cond, List, [], ◌∷◌, ◌++◌, ℕ, suc, ltb}
use Rattle.std.specs.Prelude as rust
use Rattle.std.specs.Bool.{then_some}
use Rattle.std.proofs.Math.Option.{Option, some, none}
use Rattle.model.specs.Pairs.{Pair, among, Bad, not_live, twice}

-- how many pairs stand before the first that is among the earlier ones, those before the list given first
unfoldable pub repeat_from : List Pair → List Pair → ℕ
unfolding among
repeat_from before [] = 0
repeat_from before (p ∷ ps) = let r : ℕ = suc (repeat_from (before ++ (p ∷ [])) ps) in cond (among p before) 0 r

-- "a pair given twice": the place of the first that stands earlier too, or how many pairs there are
unfoldable pub first_repeat : List Pair → ℕ
unfolding repeat_from
first_repeat ps = repeat_from [] ps

-- how many pairs stand before the first that is not live
unfoldable pub first_dead : (Pair → Bool) → List Pair → ℕ
first_dead live [] = 0
first_dead live (p ∷ ps) = let r : ℕ = suc (first_dead live ps) in cond (live p) r 0

-- a place of a list of n, and none past its end
abbrev pub place_in : ℕ → ℕ → rust.Option ℕ
place_in n p = then_some (ltb p n) p

-- of n pairs the first that is not live stands at d and the first repeat at r, or at n where there is none
abbrev pub bad_by : ℕ → ℕ → ℕ → Option Bad
bad_by d r n = cond (ltb r d) (some (record { place = r; fault = twice })) (cond (ltb d n) (some (record { place = d; fault = not_live })) none)
