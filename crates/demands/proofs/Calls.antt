-- Each function's contract is what `Meets` says of its call.
use Rattle.std.specs.Prelude.{◌≡◌, refl, Bool, true, false, cond, List, ℕ, length}
use Rattle.std.proofs.Common.{sym, ap, subst}
use Rattle.std.specs.Borrow.{MutBor}
use Rattle.sampleinfo.specs.declared.Sample.{Sample}
use Rattle.model.specs.Model as M
use Rattle.model.specs.Model.{Model, Call, SetUp, Step, within, keep_of, fresh, step, setting_up}
use Rattle.index.specs.declared.Index.{Index}
use Rattle.infos.specs.Words.{places_in}
use Rattle.pairs.specs.Flat.{pairs_of, whole_pairs}
use Rattle.memory.specs.Lies.{Lies, table-long}
use Rattle.datasample_cache.specs.Others.{reply_as, SetsUp}
use Rattle.std.specs.declared.result.Result.{Result}
use Rattle.refusals.specs.declared.Refusal.{Refusal}
use Rattle.datasample_access.specs.Listed as list
use Rattle.datasample_access.specs.Listed.{listing}
use Rattle.demands.specs.Meets.{Memory, Holds, Seen, Meets, Stays, said}
use Rattle.demands.specs.Calls.{holding, begun, SetUpCall, Called, set-up, add, no-writers, next-key, choose, choose-within, read, take, OddCalled}

by-set-up : (u : SetUp) (i : Index) (r : Result Index Refusal) (t then : List Sample) → SetsUp u r t then
    → Meets (M.set_up u) (holding i t) (said (reply_as r)) (holding (begun i r) then)
unfolding step setting_up
by-set-up u i r t then f m g l = go (within u) refl
  where
    made : Bool → Step
    made b = cond b (record { answer = M.ok; then = fresh (keep_of u) u.instances }) (M.refuse m 2)

    go : (b : Bool) → within u ≡ b → (reply_as r ≡ (made b).answer) × Lies (made b).then (begun i r).head (begun i r).words then
    go true w = let x = f.accepted (table-long m i.head i.words t l) w in rw x.1.0 (refl, x.1.1)
    go false w = let x = f.out-of-bounds (table-long m i.head i.words t l) w in rw (x.0, x.1) (refl, l)

-- a list of whole pairs, and any other
listing-whole : (m : Model) (b : Bool) (keys : List ℕ) (room : ℕ) (P : Step → Type 0) → whole_pairs keys ≡ true → P (listing m b keys room) → P (step m (M.read_or_take b (pairs_of keys) room))
unfolding listing
listing-whole m b keys room P w x = subst (λ (c : Bool). P (cond c (step m (M.read_or_take b (pairs_of keys) room)) (M.refuse m 1))) w x

listing-odd : (m : Model) (b : Bool) (keys : List ℕ) (room : ℕ) (P : Step → Type 0) → whole_pairs keys ≡ false → P (listing m b keys room) → P (M.refuse m 1)
unfolding listing
listing-odd m b keys room P w x = subst (λ (c : Bool). P (cond c (step m (M.read_or_take b (pairs_of keys) room)) (M.refuse m 1))) w x

pub called-meets : {c : Call} {x y : Memory} {a : Seen} → Called c x a y → Meets c x a y
unfolding M.step
called-meets (set-up i t t' u r k) = by-set-up u i r t.now t'.now k.told
called-meets (add κs i i' t t' n w q time kind x r f) = λ m g l. ((f.0 m g l).answer, (f.0 m g l).lies)
called-meets (no-writers κs i i' t n r f) = λ m g l. ((f.0 m t g l).answer, (f.0 m t g l).lies)
called-meets (next-key κs i t n r f) = λ m g l. (sym (ap (λ (s : Step). s.answer) (f m t g l)), l)
called-meets (choose κs i t w c out out' r f) = λ m g l. ((f.0 m g l).answer, l)
called-meets (choose-within κs i t n c out out' r f) = λ m g l. ((f.0 m g l).answer, l)
called-meets (read κs i i' t t' keys out out' r w f) = λ m g l.
    let x = listing-whole m false keys.now (places_in out.now) (λ s. list.Came s r i'.now.head i'.now.words t'.now out.now out'.now) w (f.0 m g l) in (x.answer, x.lies)
called-meets (take κs i i' t t' keys out out' r w f) = λ m g l.
    let x = listing-whole m true keys.now (places_in out.now) (λ s. list.Came s r i'.now.head i'.now.words t'.now out.now out'.now) w (f.0 m g l) in (x.answer, x.lies)

pub odd-stays : {x y : Memory} {a : Seen} → OddCalled x a y → Stays x a y
odd-stays (read κs i i' t t' keys out out' r w f) = λ m g l.
    let x = listing-odd m false keys.now (places_in out.now) (λ s. list.Came s r i'.now.head i'.now.words t'.now out.now out'.now) w (f.0 m g l) in (x.answer, x.lies)
odd-stays (take κs i i' t t' keys out out' r w f) = λ m g l.
    let x = listing-odd m true keys.now (places_in out.now) (λ s. list.Came s r i'.now.head i'.now.words t'.now out.now out'.now) w (f.0 m g l) in (x.answer, x.lies)

-- an accepted set-up makes a fresh cache, whatever lay in memory
pub set-up-begins : (i : Index) (t t' : MutBor (List Sample)) (u : SetUp) (r : Result Index Refusal) → length t.now ≡ 256 → within u ≡ true → SetUpCall t u r t'
    → Holds (fresh (keep_of u) u.instances) (holding (begun i r) t'.now)
set-up-begins i t t' u r long w k = let x = k.told.accepted long w in rw x.1.0 x.1.1
