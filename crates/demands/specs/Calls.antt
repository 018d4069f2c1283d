-- A call of each public function, with the function's own contract: `Learnt` is what a caller learns, as the checker made it of the source's `ensures`.
-- So a changed contract is refused here, where it no longer says what `Meets` says of the call. `κs` are the lifetimes of a call's references, and a
-- primed reference is one after the call.
use Rattle.std.specs.Prelude.{◌≡◌, true, false, List, ℕ, ◌/◌, length}
use Rattle.std.proofs.Math.Option.{some}
use contract.Lifetimes.{Lfts}
use Rattle.std.specs.declared.option.Option as the_code
use Rattle.std.specs.declared.result.Result.{Result}
use Rattle.std.specs.declared.result.Result.TheVariants.{Ok, Err}
use Rattle.refusals.specs.declared.Refusal.{Refusal}
use Rattle.std.specs.Borrow.{Bor, MutBor}
use Rattle.sampleinfo.specs.declared.Sample.{Sample}
use Rattle.readcondition.specs.declared.ReadCondition.{ReadCondition}
use Rattle.model.specs.Model as M
use Rattle.model.specs.Model.{Call, SetUp}
use Rattle.index.specs.declared.Index.{Index}
use Rattle.select.specs.Choice.{scope_of}
use Rattle.select.specs.Told.{answer_of}
use Rattle.infos.specs.Words.{places_in}
use Rattle.pairs.specs.Flat.{pairs_of, whole_pairs}
use Rattle.datasample_cache.specs.Came.{added_as}
use Rattle.datasample_cache.specs.declared.Added.{Added}
use Rattle.datasample_cache.specs.Others.{reply_as, next_as}
use Rattle.datasample_cache.specs.Adding.{arrival}
use Rattle.datasample_cache.proofs.add.Reads as of-add
use Rattle.datasample_cache.proofs.set_up.Reads as of-set-up
use Rattle.datasample_cache.proofs.no_writers.Reads as of-no-writers
use Rattle.datasample_cache.proofs.next_key.Reads as of-next-key
use Rattle.datasample_select.proofs.choose.Reads as of-choose
use Rattle.datasample_select.proofs.choose_within.Reads as of-choose-within
use Rattle.datasample_access.proofs.read_by_keys.Reads as of-read
use Rattle.datasample_access.proofs.take_by_keys.Reads as of-take
use Rattle.demands.specs.Meets.{Memory, Seen, said, shown}

abbrev pub holding : Index → List Sample → Memory
holding x t = record { head = x.head; words = x.words; table = t }

-- the index of an accepted set-up; a refused one leaves the caller's
abbrev pub begun : Index → Result Index Refusal → Index
begun x (Ok y) = y
begun x (Err e) = x

-- ---- the calls: the model's call, what was held before, what was seen, what is held after

module _ (t : MutBor (List Sample)) where
  pub record SetUpCall (u : SetUp) (r : Result Index Refusal) (t' : MutBor (List Sample)) : Type 0 where
    pub κs : Lfts 1
    pub told : of-set-up.Learnt κs (t, (u.mode, (u.keep, (u.instances, tt)))) r (t', (u.mode, (u.keep, (u.instances, tt))))

pub data Called : Call → Memory → Seen → Memory → Type 0 where
  set-up : (x : Index) (t t' : MutBor (List Sample)) (u : SetUp) (r : Result Index Refusal) → SetUpCall t u r t'
      → Called (M.set_up u) (holding x t.now) (said (reply_as r)) (holding (begun x r) t'.now)
  add : (κs : Lfts 2) (x x' : MutBor Index) (t t' : MutBor (List Sample)) (n : ℕ) (w : List ℕ) (q time kind k : ℕ) (r : Result Added Refusal)
      → of-add.Learnt κs (x, (t, (n, (w, (q, (time, (kind, (k, tt)))))))) r (x', (t', (n, (w, (q, (time, (kind, (k, tt))))))))
      → Called (M.add (arrival n w q time kind k)) (holding x.now t.now) (said (added_as r)) (holding x'.now t'.now)
  no-writers : (κs : Lfts 1) (x x' : MutBor Index) (t : List Sample) (n : ℕ) (r : Result Unit Refusal)
      → of-no-writers.Learnt κs (x, (n, tt)) r (x', (n, tt))
      → Called (M.no_writers n) (holding x.now t) (said (reply_as r)) (holding x'.now t)
  next-key : (κs : Lfts 1) (x : Bor Index) (t : List Sample) (n : ℕ) (r : the_code.Option ℕ)
      → of-next-key.Learnt κs (x, (n, tt)) r (x, (n, tt))
      → Called (M.next_key n) (holding x.now t) (said (next_as r)) (holding x.now t)
  choose : (κs : Lfts 3) (x : Bor Index) (t : Bor (List Sample)) (w : the_code.Option ℕ) (c : ReadCondition) (out out' : MutBor (List ℕ)) (r : Result ℕ Refusal)
      → of-choose.Learnt κs (x, (t, (w, (c, (out, tt))))) r (x, (t, (w, (c, (out', tt)))))
      → Called (M.choose (scope_of w) c (length out.now / 2)) (holding x.now t.now) (said (answer_of r out'.now)) (holding x.now t.now)
  choose-within : (κs : Lfts 3) (x : Bor Index) (t : Bor (List Sample)) (n : ℕ) (c : ReadCondition) (out out' : MutBor (List ℕ)) (r : Result ℕ Refusal)
      → of-choose-within.Learnt κs (x, (t, (n, (c, (out, tt))))) r (x, (t, (n, (c, (out', tt)))))
      → Called (M.choose (some n) c (length out.now / 2)) (holding x.now t.now) (said (answer_of r out'.now)) (holding x.now t.now)
  read : (κs : Lfts 4) (x x' : MutBor Index) (t t' : MutBor (List Sample)) (keys : Bor (List ℕ)) (out out' : MutBor (List ℕ)) (r : Result ℕ Refusal)
      → whole_pairs keys.now ≡ true → of-read.Learnt κs (x, (t, (keys, (out, tt)))) r (x', (t', (keys, (out', tt))))
      → Called (M.read_or_take false (pairs_of keys.now) (places_in out.now)) (holding x.now t.now) (shown r out.now out'.now) (holding x'.now t'.now)
  take : (κs : Lfts 4) (x x' : MutBor Index) (t t' : MutBor (List Sample)) (keys : Bor (List ℕ)) (out out' : MutBor (List ℕ)) (r : Result ℕ Refusal)
      → whole_pairs keys.now ≡ true → of-take.Learnt κs (x, (t, (keys, (out, tt)))) r (x', (t', (keys, (out', tt))))
      → Called (M.read_or_take true (pairs_of keys.now) (places_in out.now)) (holding x.now t.now) (shown r out.now out'.now) (holding x'.now t'.now)

-- a call with a key list not of whole pairs
pub data OddCalled : Memory → Seen → Memory → Type 0 where
  read : (κs : Lfts 4) (x x' : MutBor Index) (t t' : MutBor (List Sample)) (keys : Bor (List ℕ)) (out out' : MutBor (List ℕ)) (r : Result ℕ Refusal)
      → whole_pairs keys.now ≡ false → of-read.Learnt κs (x, (t, (keys, (out, tt)))) r (x', (t', (keys, (out', tt))))
      → OddCalled (holding x.now t.now) (shown r out.now out'.now) (holding x'.now t'.now)
  take : (κs : Lfts 4) (x x' : MutBor Index) (t t' : MutBor (List Sample)) (keys : Bor (List ℕ)) (out out' : MutBor (List ℕ)) (r : Result ℕ Refusal)
      → whole_pairs keys.now ≡ false → of-take.Learnt κs (x, (t, (keys, (out, tt)))) r (x', (t', (keys, (out', tt))))
      → OddCalled (holding x.now t.now) (shown r out.now out'.now) (holding x'.now t'.now)
