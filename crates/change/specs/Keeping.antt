-- What a set-up, a no-writers event and a freed slot leave is fit again; and two outcomes of one of them are equal.
use Rattle.std.specs.Prelude.{◌≡◌, Bool, List, ℕ, ◌≤◌, ◌<◌, ltb, eqb}
use Rattle.std.proofs.Math.Path.{refl}
use Rattle.std.proofs.Common.{sym, ap, ◌∙◌, arith, length-set}
use Rattle.std.proofs.Math.Bool.{true, false, cond}
use Rattle.std.proofs.Math.Option.{Option}
use borrow.Author.Tests.{ltb-true}
use Rattle.std.proofs.Math.ListN.{length}
use Rattle.std.specs.declared.result.Result.{Result}
use Rattle.std.specs.declared.result.Result.TheVariants.{Ok, Err}
use Rattle.refusals.specs.declared.Refusal.{Refusal}
use Rattle.refusals.specs.NumberLaws.{same-refusal, number-above-0}
use Rattle.lists.specs.Blocks.{length-put-in}
use Rattle.slots.specs.FreeLaws.{Whole}
use Rattle.sampleinfo.specs.Counts.{total}
use Rattle.sampleinfo.specs.Lifecycle.{counts_of, no_writers_of}
use Rattle.store.specs.Store.{Inst, Store, Event, place_of, inst_at, with_inst, with_meta, dying, emptied, freed}
use Rattle.store.specs.Fit.{Fit, Deep, depth_of}
use Rattle.index.specs.Memory.{head_of, Tied, fresh_store}
use Rattle.index.specs.Keeping.{all-put, fit-with, head-with, same_head}
use Rattle.index.specs.declared.Cache.{Cache}
use Rattle.change.specs.Change.{code_of, Left, Kept, freed_at}
use Rattle.change.specs.ChangeLaws.{length-emptied}

-- ---- set-up

pub fit-fresh : (keep : Option ℕ) (room : ℕ) → Deep keep room → room ≤ 32 → Fit (fresh_store keep room)
fit-fresh keep room d h = record {
  few = omega arith;
  rooms = h;
  deep = d;
  even = λ i l. absurd (omega arith);
  totals = λ i l. absurd (omega arith);
  newest = omega arith;
  free = refl;
  keys = refl;
  owners = refl;
}

-- the header and the words that are kept of a fit store are tied to it
pub tied-kept : (s : Store) (h : Cache) (ws : List ℕ) → Fit s → Kept s h ws → Tied s h ws
tied-kept s h ws f k = record { fit = f; head = k.head; words = k.words }

-- ---- the no-writers event

module _ (s : Store) (f : Fit s) (n : ℕ) where
  at : ℕ
  unfolding place_of
  at = place_of n s.insts

  then-of : Bool → Store
  unfolding at
  then-of b = cond b (with_inst s at (with_meta (inst_at s at) (no_writers_of (inst_at s at).meta))) s

  dying-then : (dying s n).then ≡ then-of (ltb at (length s.insts))
  unfolding dying at then-of
  dying-then = go (ltb (place_of n s.insts) (length s.insts))
    where
      go : (b : Bool) → (cond {A = Event} b (record { code = 0; then = with_inst s at (with_meta (inst_at s at) (no_writers_of (inst_at s at).meta)) }) (record { code = 3; then = s })).then ≡ then-of b
      go true = refl
      go false = refl

  fit_then : (b : Bool) → ltb at (length s.insts) ≡ b → (Fit (then-of b)) × (head_of (then-of b) ≡ head_of s)
  unfolding then-of at
  fit_then true e =
      let l : at < length s.insts = ltb-true at (length s.insts) e in
      (fit-with s f at l (no_writers_of (inst_at s at).meta) (f.totals at l), head-with s f at l (no_writers_of (inst_at s at).meta))
  fit_then false e = (f, refl)

  pub fit-dying : Fit (dying s n).then
  fit-dying = rw dying-then (fit_then (ltb at (length s.insts)) refl).0

  pub head-dying : head_of (dying s n).then ≡ head_of s
  head-dying = rw dying-then (fit_then (ltb at (length s.insts)) refl).1

pub tied-dying : (s : Store) (h : Cache) (ws end : List ℕ) (n : ℕ) (r : Result Unit Refusal) → Tied s h ws → Left (dying s n) r end → Tied (dying s n).then h end
tied-dying s h ws end n r t l = record { fit = fit-dying s t.fit n; head = t.head ∙ sym (head-dying s t.fit n); words = l.words }

one-answer : (r q : Result Unit Refusal) → code_of r ≡ code_of q → r ≡ q
one-answer (Ok u) (Ok v) e = refl
one-answer (Ok u) (Err b) e = absurd (omega (arith, number-above-0 b))
one-answer (Err a) (Ok v) e = absurd (omega (arith, number-above-0 a))
one-answer (Err a) (Err b) e = ap Err (same-refusal a b e)

pub one_left : (e : Event) (r q : Result Unit Refusal) (v w : List ℕ) → Left e r v → Left e q w → (r ≡ q) × (v ≡ w)
one_left e r q v w m n = (one-answer r q (m.code ∙ sym n.code), m.words ∙ sym n.words)

-- ---- a slot that becomes free

small : (n slot : ℕ) → n ≤ 256 → cond (eqb n slot) 256 n ≤ 256
small n slot h = go (eqb n slot)
  where
    go : (b : Bool) → cond b 256 n ≤ 256
    go true = omega arith
    go false = h

pub fit-freed : (s : Store) (row slot : ℕ) → Fit s → row < length s.insts → Fit (freed s row slot)
unfolding freed
fit-freed s row slot f h = record {
  few = rw (length-put-in s.insts row (record { name = (inst_at s row).name; meta = (inst_at s row).meta; cells = emptied slot (inst_at s row).cells }) h) f.few;
  rooms = f.rooms;
  deep = f.deep;
  even = all-put (λ (i : Inst). length i.cells ≡ depth_of s.keep) s.insts row _ f.even (length-emptied slot (inst_at s row).cells ∙ f.even row h);
  totals = all-put (λ (i : Inst). total (counts_of i.meta) ≤ 2147483647) s.insts row _ f.totals (f.totals row h);
  newest = small s.newest slot f.newest;
  free = simp length-set f.free;
  keys = simp length-set f.keys;
  owners = simp length-set f.owners;
}

pub fit-freed-at : (s : Store) (row slot : ℕ) → Fit s → Fit (freed_at s row slot)
fit-freed-at s row slot f = go (ltb row (length s.insts)) refl
  where
    go : (b : Bool) → ltb row (length s.insts) ≡ b → Fit (cond b (freed s row slot) s)
    go true e = fit-freed s row slot f (ltb-true row (length s.insts) e)
    go false e = f

pub one_kept : (s : Store) (h k : Cache) (v w : List ℕ) → Whole h.free → Whole k.free → Kept s h v → Kept s k w → (h ≡ k) × (v ≡ w)
one_kept s h k v w x y m n = (same_head h k x y (m.head ∙ sym n.head), m.words ∙ sym n.words)
