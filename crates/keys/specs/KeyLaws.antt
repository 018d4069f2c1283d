-- Laws of the key rule: what holds of every key issued.
use Rattle.std.specs.Prelude.{Some, None, ◌≡◌, refl, Bool, true, false, cond, ℕ, ◌+◌, ◌≤◌, ◌<◌, ◌^◌, ltb}
use Rattle.std.proofs.Common.{sym, arith, lt-ltb, ltb-true, ltb-false}
use Rattle.keys.specs.Keys.{Last, Issued, key_of, top_key, Later, topic_last, issued_number}

-- ---- which of the three it was

pub data Ruled (k time : ℕ) : Issued → Type 0 where
  on-time : k < time → Ruled k time (Some time)
  one_more : time ≤ k → k < top_key → Ruled k time (Some (k + 1))
  spent : time ≤ k → top_key ≤ k → Ruled k time None

pub ruled : (k time : ℕ) → Ruled k time (key_of (Some k) time)
unfolding key_of
ruled k time = go (ltb k time) (ltb k top_key) refl refl
  where
    go : (a b : Bool) → ltb k time ≡ a → ltb k top_key ≡ b → Ruled k time (cond a (Some time) (cond b (Some (k + 1)) None))
    go true b p q = on-time (ltb-true k time p)
    go false true p q = one_more (ltb-false k time p) (ltb-true k top_key q)
    go false false p q = spent (ltb-false k time p) (ltb-false k top_key q)

clash : (k : ℕ) → Some k ≡ None → ⊥
clash k e = let z : ◌≡◌ {A = ℕ} 0 1 = cc in omega arith

-- ---- keys rise

later : (k time n : ℕ) (o : Issued) → Ruled k time o → o ≡ Some n → k < n
later k time n o (on-time h) e = let p : time ≡ n = cc in omega arith
later k time n o (one_more h l) e = let p : k + 1 ≡ n = cc in omega arith
later k time n o (spent h l) e = absurd (clash n (sym e))

-- a key issued is later than the last one
pub key-later : (l : Last) (time n : ℕ) → key_of l time ≡ Some n → Later l n
unfolding key_of
key-later None time n e = tt
key-later (Some k) time n e = later k time n _ (ruled k time) e

-- it fits 64 bits if the time does
pub key_fits : (l : Last) (time n : ℕ) → time < 2 ^ 64 → key_of l time ≡ Some n → n < 2 ^ 64
unfolding key_of
key_fits None time n h e = let p : time ≡ n = cc in omega arith
key_fits (Some k) time n h e = go _ (ruled k time) e
  where
    go : (o : Issued) → Ruled k time o → o ≡ Some n → n < 2 ^ 64
    go o (on-time l) e = let p : time ≡ n = cc in omega arith
    go o (one_more l m) e = let p : k + 1 ≡ n = cc in omega arith
    go o (spent l m) e = absurd (clash n (sym e))

-- it is the time exactly where the time is later: so says `key-later` the other way round
pub key-is-time : (l : Last) (time : ℕ) → Later l time → key_of l time ≡ Some time
unfolding key_of
key-is-time None time h = refl
key-is-time (Some k) time h = rw (lt-ltb k time h)

-- and else the first that is later than the last
pub key-least : (l : Last) (time n m : ℕ) → (Later l time → ⊥) → key_of l time ≡ Some n → Later l m → n ≤ m
unfolding key_of
key-least None time n m h e w = absurd (h tt)
key-least (Some k) time n m h e w = go _ (ruled k time) e
  where
    go : (o : Issued) → Ruled k time o → o ≡ Some n → n ≤ m
    go o (on-time l) e = absurd (h l)
    go o (one_more l q) e = let p : k + 1 ≡ n = cc in omega arith
    go o (spent l q) e = absurd (clash n (sym e))

-- ---- refusal 6: given exactly if no key of 64 bits is later than the last

pub refused_none : (l : Last) (time : ℕ) → issued_number (key_of l time) ≡ 6 → (n : ℕ) → n < 2 ^ 64 → Later l n → ⊥
unfolding key_of
refused_none None time e n h w = omega arith
refused_none (Some k) time e n h w = go _ (ruled k time) e
  where
    go : (o : Issued) → Ruled k time o → issued_number o ≡ 6 → ⊥
    go o (on-time l) e = omega arith
    go o (one_more l q) e = omega arith
    go o (spent l q) e = omega arith

pub none-refused : (l : Last) (time : ℕ) → time < 2 ^ 64 → ((n : ℕ) → n < 2 ^ 64 → Later l n → ⊥) → issued_number (key_of l time) ≡ 6
unfolding key_of
none-refused None time h no-later = absurd (no-later 0 (omega arith) tt)
none-refused (Some k) time h no-later = go _ (ruled k time)
  where
    go : (o : Issued) → Ruled k time o → issued_number o ≡ 6
    go o (on-time l) = absurd (no-later time h l)
    go o (one_more l q) = absurd (no-later (k + 1) (omega arith) (omega arith))
    go o (spent l q) = refl

-- ---- the topic cache

-- "time 0 gets key 1"
pub topic-first : key_of topic_last 0 ≡ Some 1
unfolding key_of
topic-first = refl
