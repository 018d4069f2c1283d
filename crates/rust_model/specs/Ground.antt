-- The common ground with the Rust: which calls in a row are compared. Document 01, "Common ground with the Rust".
use Rattle.std.specs.Prelude.{Some, None, ◌≡◌, ℕ, ◌<◌, true, ◌⊎◌, List, [], ◌∷◌, ◌++◌}
use Rattle.model.specs.Model.{Model, Call, set_up, add, no_writers, choose, read_or_take, next_key, step}
use Rattle.model.specs.Story.{Every, run, trace, accepted, all_keys, last_key}
use Rattle.model.specs.Demand3.{LivePair}

-- "the last key issued is still live": ks are the keys issued so far
abbrev pub LastLives : Model → List ℕ → Type 0
LastLives m ks = (k : ℕ) × (n : ℕ) × (last_key None ks ≡ Some k) × LivePair m (record { key = k; name = n })

-- "without no-writers events, where each add's time is later than every key issued so far, or the last key issued is still live";
-- set-up once, at the start
abbrev pub Stands : Model → List ℕ → Call → Type 0
Stands m ks (set_up u) = ⊥
Stands m ks (add a) = Every (λ k. k < a.time) ks ⊎ LastLives m ks
Stands m ks (no_writers n) = ⊥
Stands m ks (choose w c room) = Unit {0}
Stands m ks (read_or_take t ps room) = Unit {0}
Stands m ks (next_key n) = Unit {0}

-- "Any sequence without refusals": of a cache that is fresh from its set-up, the calls so far, and those to come
abbrev pub Ground : Model → List Call → List Call → Type 0
Ground start past [] = Unit {0}
Ground start past (c ∷ cs) = Stands (run start past) (all_keys (trace start past)) c × (accepted (step (run start past) c).answer ≡ true) × Ground start (past ++ c ∷ []) cs
