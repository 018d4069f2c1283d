-- Laws of the log.
use Rattle.std.proofs.Common.{◌≡◌, ℕ, ◌-◌, ◌<◌, ◌≤◌, true, false, cond, eqb, List, [], ◌∷◌, ◌++◌, length, drop, sym, refl, subst, ap, ◌∙◌, arith, eqb-true}
use mathlib.Core.Option.{Option, some, none}
use Rattle.model.specs.Model.{Instance, live_in}
use Rattle.model.specs.Story.{Entry as Told, Every, untaken, entry_keys, last_by}
use Rattle.model.proofs.Laws.{places_of, places-hold}
use Rattle.model.specs.PairLaws.{split}
use Rattle.rust_model.specs.Maps.{Entry, entry, get, remove}
use Rattle.rust_model.specs.DataSampleCache.{SampleWithMetaData, DataSamples}
use Rattle.rust_model.proofs.MapLaws.{same-eqb, above-eqb, get_none, remove-none}
use Rattle.rust_model.proofs.Alike.{Kept, key_at, mine, stored, samples, Rising, Few}

-- ---- one more entry at the end
pub mine-on : (n : ℕ) (log : List Kept) (k : Kept) → eqb k.name n ≡ true → mine n (log ++ k ∷ []) ≡ mine n log ++ k.told ∷ []
unfolding mine
mine-on n [] k e = rw e
mine-on n (j ∷ log) k e = split (eqb j.name n)
    (λ q. rw q (ap (j.told ∷◌) (mine-on n log k e)))
    (λ q. rw q (mine-on n log k e))

pub mine-past : (n : ℕ) (log : List Kept) (k : Kept) → eqb k.name n ≡ false → mine n (log ++ k ∷ []) ≡ mine n log
unfolding mine
mine-past n [] k e = rw e
mine-past n (j ∷ log) k e = split (eqb j.name n)
    (λ q. rw q (ap (j.told ∷◌) (mine-past n log k e)))
    (λ q. rw q (mine-past n log k e))

pub samples-on : (log : List Kept) (k : Kept) → k.told.taken ≡ false → samples (log ++ k ∷ []) ≡ samples log ++ entry (key_at k) (stored k) ∷ []
unfolding samples
samples-on [] k e = rw e
samples-on (j ∷ log) k e = split j.told.taken
    (λ q. rw q (samples-on log k e))
    (λ q. rw q (ap (entry (key_at j) (stored j) ∷◌) (samples-on log k e)))

pub rising-on : (log : List Kept) (k : Kept) → Rising log → Every (λ j. key_at j < key_at k) log → Rising (log ++ k ∷ [])
rising-on [] k r h = (tt, tt)
rising-on (j ∷ log) k r h = (on log r.0, rising-on log k r.1 h.1)
  where
    on : (l : List Kept) → Every (λ x. key_at j < key_at x) l → Every (λ x. key_at j < key_at x) (l ++ k ∷ [])
    on [] q = (h.0, tt)
    on (x ∷ l) q = (q.0, on l q.1)

-- ---- what holds of every key of the log holds of what is read off it
pub every-samples : (P : ℕ → Type 0) (log : List Kept) → Every (λ k. P (key_at k)) log → Every (λ e. P e.at) (samples log)
unfolding samples
every-samples P [] h = tt
every-samples P (k ∷ log) h = split k.told.taken
    (λ q. rw q (every-samples P log h.1))
    (λ q. rw q (h.0, every-samples P log h.1))

pub every-stamps : (P : ℕ → Type 0) (n : ℕ) (log : List Kept) → Every (λ k. P (key_at k)) log → Every P (entry_keys (mine n log))
unfolding mine
every-stamps P n [] h = tt
every-stamps P n (k ∷ log) h = split (eqb k.name n)
    (λ q. rw q (h.0, every-stamps P n log h.1))
    (λ q. rw q (every-stamps P n log h.1))

-- ---- an entry's key finds its sample, unless it was taken
abbrev pub sample_at : Kept → Option SampleWithMetaData
sample_at k = cond k.told.taken none (some (stored k))

pub get-samples : (log : List Kept) → Rising log → Every (λ k. get (key_at k) (samples log) ≡ sample_at k) log
unfolding samples get
get-samples [] r = tt
get-samples (k ∷ log) r = split k.told.taken
    (λ q. let same : samples (k ∷ log) ≡ samples log = rw q in
    subst Found (sym same) (rw q (get_none (key_at k) (samples log) (every-samples (λ j. key_at k < j) log r.0)), get-samples log r.1))
    (λ q. let same : samples (k ∷ log) ≡ entry (key_at k) (stored k) ∷ samples log = rw q in
    subst Found (sym same) (rw (q, same-eqb), past (samples log) log r.0 (get-samples log r.1)))
  where
    Found : DataSamples → Type 0
    Found m = Every (λ j. get (key_at j) m ≡ sample_at j) (k ∷ log)

    past : (m : List (Entry SampleWithMetaData)) (l : List Kept) → Every (λ j. key_at k < key_at j) l → Every (λ j. get (key_at j) m ≡ sample_at j) l
        → Every (λ j. cond (eqb (key_at k) (key_at j)) (some (stored k)) (get (key_at j) m) ≡ sample_at j) l
    past m [] h g = tt
    past m (j ∷ l) h g = (rw (above-eqb (key_at k) (key_at j) h.0) g.0, past m l h.1 g.1)

-- ---- the first entry of an instance leaves
unfoldable pub drop_first : ℕ → List Kept → List Kept
drop_first n [] = []
drop_first n (k ∷ log) = cond (eqb k.name n) log (k ∷ drop_first n log)

pub drop-mine : (n : ℕ) (log : List Kept) → mine n (drop_first n log) ≡ drop 1 (mine n log)
unfolding drop_first mine
drop-mine n [] = refl
drop-mine n (k ∷ log) = split (eqb k.name n) (λ q. rw q) (λ q. rw q (rw q (drop-mine n log)))

pub drop-other : (n o : ℕ) (log : List Kept) → eqb n o ≡ false → mine o (drop_first n log) ≡ mine o log
unfolding drop_first mine
drop-other n o [] h = refl
drop-other n o (k ∷ log) h = split (eqb k.name n)
    (λ q. rw (q, eqb-true k.name n q, h))
    (λ q. rw q (split (eqb k.name o) (λ p. rw p (ap (k.told ∷◌) (drop-other n o log h))) (λ p. rw p (drop-other n o log h))))

pub every-dropped : (P : Kept → Type 0) (n : ℕ) (log : List Kept) → Every P log → Every P (drop_first n log)
unfolding drop_first
every-dropped P n [] h = tt
every-dropped P n (k ∷ log) h = split (eqb k.name n) (λ q. rw q h.1) (λ q. rw q (h.0, every-dropped P n log h.1))

pub rising-dropped : (n : ℕ) (log : List Kept) → Rising log → Rising (drop_first n log)
unfolding drop_first
rising-dropped n [] r = tt
rising-dropped n (k ∷ log) r = split (eqb k.name n)
    (λ q. rw q r.1)
    (λ q. rw q (every-dropped (λ j. key_at k < key_at j) n log r.0, rising-dropped n log r.1))

-- removing its key from `datasamples` is all that happens there
pub drop-samples : (n : ℕ) (log : List Kept) (e : Told) (es : List Told) → Rising log → mine n log ≡ e ∷ es → remove e.sample.key (samples log) ≡ samples (drop_first n log)
unfolding drop_first mine samples remove
drop-samples n [] e es r h = let z : ◌≡◌ {A = ℕ} 0 1 = cc in absurd (omega arith)
drop-samples n (k ∷ log) e es r h = split (eqb k.name n)
    (λ q. rw q (first (rw q at h)))
    (λ q. rw q (later (drop-samples n log e es r.1) (rw q at h)))
  where
    same : k.told ∷ mine n log ≡ e ∷ es → k.told ≡ e
    same h = cc

    alone : remove (key_at k) (samples log) ≡ samples log
    alone = remove-none (key_at k) (samples log) (every-samples (λ j. key_at k < j) log r.0)

    first : k.told ∷ mine n log ≡ e ∷ es → remove e.sample.key (samples (k ∷ log)) ≡ samples log
    first h = ap (λ (x : Told). remove x.sample.key (samples (k ∷ log))) (sym (same h)) ∙ split k.told.taken
        (λ t. rw t alone)
        (λ t. rw (t, same-eqb (key_at k)) alone)

    later : (mine n log ≡ e ∷ es → remove e.sample.key (samples log) ≡ samples (drop_first n log)) → mine n log ≡ e ∷ es
        → remove e.sample.key (samples (k ∷ log)) ≡ samples (k ∷ drop_first n log)
    later again h = split k.told.taken
        (λ t. rw t (again h))
        (λ t. rw (t, above-eqb (key_at k) e.sample.key (over e.sample.key (rw h at (every-stamps (λ j. key_at k < j) n log r.0)))) (ap (entry (key_at k) (stored k) ∷◌) (again h)))
      where
        over : (x : ℕ) → (key_at k < x) × Every (λ j. key_at k < j) (entry_keys es) → key_at k < x
        over x q = q.0

-- ---- the live samples of an instance
few-last : (keep : Option ℕ) (es : List Told) → Few keep es → last_by keep es ≡ es
few-last none es h = refl
few-last (some d) es h = ap (λ (n : ℕ). drop n es) (zero_of (length es) d h.0)
  where
    zero_of : (a b : ℕ) → a ≤ b → a - b ≡ 0
    zero_of a b q = omega arith

pub live-mine : (keep : Option ℕ) (es : List Told) (i : Instance) → i.places ≡ places_of keep es → Few keep es → live_in i.places ≡ untaken es
live-mine keep es i p f = ap live_in p ∙ places-hold keep es ∙ ap untaken (few-last keep es f)
