-- The key of the next sample, and refusal 6.
use Rattle.std.specs.Prelude.{Option, Some, None, cond, ℕ, ◌+◌, ◌<◌, ltb}

-- the last key issued, if any was
abbrev pub Last : Type 0
Last = Option ℕ

-- the key of a new sample, or none: refusal 6
abbrev pub Issued : Type 0
Issued = Option ℕ

-- the last key there is, 2 ^ 64 - 1
abbrev pub top_key : ℕ
top_key = 18446744073709551615

-- "The first sample's key is its time. Later, the time if it is greater than the last key issued, otherwise last key plus 1."
-- It amends datasample_cache.rs, `if receive_timestamp <= latest {` .. `latest.to_ticks().wrapping_add(1)`, whose latest is that of the samples
-- still held; here "the last key survives takes", and past the last key there is refusal 6: "no key later than the last issued exists".
unfoldable pub key_of : Last → ℕ → Issued
key_of None time = Some time
key_of (Some k) time = cond (ltb k time) (Some time) (cond (ltb k top_key) (Some (k + 1)) None)

-- the key comes after the last one issued
abbrev pub Later : Last → ℕ → Type 0
Later None key = Unit {0}
Later (Some k) key = k < key

-- "starting from last key 0"
abbrev pub topic_last : Last
topic_last = Some 0

-- the paper's refusal number, 0 where a key is issued
abbrev pub issued_number : Issued → ℕ
issued_number (Some k) = 0
issued_number None = 6
