-- What refuses an add with 1 before anything else is asked: "kind not 1 or 2, sequence number out of range".
use Rattle.std.specs.Prelude.{Bool, ◌&&◌, ◌||◌, cond, ℕ, ◌^◌, leb, ltb, eqb, Option, Some, None}
use Rattle.sampleinfo.specs.declared.Body.{Body}
use Rattle.sampleinfo.specs.declared.Body.TheVariants.{Value, Dispose}

-- "sequence number 1 to 2^63-1", in the cache and in the topic cache
abbrev pub seq_fits : ℕ → Bool
seq_fits n = leb 1 n && ltb n (2 ^ 63)

-- "kind (1 value, 2 dispose)"
abbrev pub kind_fits : ℕ → Bool
kind_fits kind = eqb kind 1 || eqb kind 2

abbrev pub formed : ℕ → ℕ → Bool
formed kind seq = kind_fits kind && seq_fits seq

-- the body of an add that is not refused: what is no dispose is a value
abbrev pub body_for : ℕ → ℕ → Body
body_for kind handle = cond (eqb kind 2) (Dispose handle) (Value handle)

abbrev pub arrived_body : ℕ → ℕ → ℕ → Option Body
arrived_body kind handle seq = cond (formed kind seq) (Some (body_for kind handle)) None
