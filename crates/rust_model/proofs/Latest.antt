-- The latest-keyed live sample of the model is the last of the Rust's `datasamples`.
use Rattle.std.proofs.Common.{◌≡◌, ℕ, ◌<◌, true, cond, eqb, ltb, List, [], ◌∷◌, ◌++◌, refl, ap, ◌∙◌, arith, ltb-false, le-ltb, lt-ltb}
use mathlib.Core.Option.{Option, some, none}
use Rattle.model.specs.Model.{Live, Instance, live_in, lives, later, latest}
use Rattle.model.specs.Story.{Every, untaken}
use Rattle.model.specs.PairLaws.{split}
use Rattle.rust_model.specs.Maps.{Entry, entry, last_entry, or_last}
use Rattle.rust_model.specs.DataSampleCache.{SampleWithMetaData}
use Rattle.rust_model.proofs.Alike.{Kept, key_at, mine, stored, samples, Rising}
use Rattle.rust_model.proofs.Log.{every-samples}
use Rattle.rust_model.proofs.Adds.{OnLast, on-last}
use Rattle.rust_model.proofs.Fold.{fold_log, gather}

abbrev pub over : Kept → Option Live → Option Live
over k o = cond k.told.taken o (later o k.told.sample)

later-swap : (o : Option Live) (x y : Live) → x.key < y.key → later (later o y) x ≡ later (later o x) y
later-swap none x y h = rw (lt-ltb x.key y.key h, le-ltb y.key x.key (omega arith))
later-swap (some t) x y h = split (ltb x.key t.key)
    (λ a. split (ltb y.key t.key)
    (λ b. rw (b, a, b))
    (λ b. rw (b, a, lt-ltb x.key y.key h, b)))
    (λ a. rw (le-ltb y.key t.key (omega (arith, ltb-false x.key t.key a)), a, lt-ltb x.key y.key h, le-ltb y.key x.key (omega arith)))

pub over-swap : (x y : Kept) (o : Option Live) → key_at x < key_at y → over x (over y o) ≡ over y (over x o)
over-swap x y o h = split x.told.taken
    (λ a. rw a)
    (λ a. split y.told.taken (λ b. rw (a, b)) (λ b. rw (a, b) (later-swap o x.told.sample y.told.sample h)))

latest-own : (n : ℕ) (ss : List Live) (log : List Kept) → latest (untaken (mine n log) ++ ss) ≡ fold_log over (λ o. eqb o n) (latest ss) log
unfolding mine untaken latest fold_log
latest-own n ss [] = refl
latest-own n ss (k ∷ log) = split (eqb k.name n)
    (λ a. split k.told.taken
    (λ b. rw (a, b) (latest-own n ss log))
    (λ b. rw (a, b) (ap (λ (o : Option Live). later o k.told.sample) (latest-own n ss log))))
    (λ a. rw a (latest-own n ss log))

pub latest-gather : (log : List Kept) (is : List Instance) → Every (λ i. live_in i.places ≡ untaken (mine i.name log)) is → latest (lives is) ≡ gather over over-swap none log is
unfolding lives gather latest
latest-gather log [] h = refl
latest-gather log (i ∷ is) h = ap (λ (ss : List Live). latest (ss ++ lives is)) h.0 ∙ latest-own i.name (lives is) log
    ∙ ap (λ (o : Option Live). fold_log over (λ n. eqb n i.name) o log) (latest-gather log is h.1)

-- ---- the last of the log
abbrev pub SameLast : Option Live → Option (Entry SampleWithMetaData) → Type 0
SameLast none none = Unit {0}
SameLast (some s) (some e) = (s.key ≡ e.at) × (s.sample ≡ e.item.sample)
SameLast none (some e) = ⊥
SameLast (some s) none = ⊥

pub latest-last : (log : List Kept) → Rising log → SameLast (fold_log over (λ n. true) none log) (last_entry (samples log))
unfolding fold_log samples last_entry
latest-last [] r = tt
latest-last (k ∷ log) r = split k.told.taken
    (λ a. rw a (latest-last log r.1))
    (λ a. rw a (go (fold_log over (λ n. true) none log) (last_entry (samples log)) (latest-last log r.1) (on-last (λ j. key_at k < j) (samples log) (every-samples (λ j. key_at k < j) log r.0))))
  where
    go : (o : Option Live) (e : Option (Entry SampleWithMetaData)) → SameLast o e → OnLast (λ j. key_at k < j) e → SameLast (later o k.told.sample) (or_last (entry (key_at k) (stored k)) e)
    go none none h q = (refl, refl)
    go none (some e) h q = absurd h
    go (some t) none h q = absurd h
    go (some t) (some e) h q = rw (lt-ltb (key_at k) t.key (omega (arith, h.0))) h
