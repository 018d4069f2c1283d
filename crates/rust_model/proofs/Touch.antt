-- Reading or taking in the log: the entries that the list names are marked.
use Rattle.std.proofs.Common.{◌≡◌, ℕ, ◌<◌, Bool, true, false, eqb, List, [], ◌∷◌, map, refl, ap, ◌∙◌, eqb-true}
use Rattle.model.specs.Pairs.{Pair, same_pair, among}
use Rattle.model.specs.Model.{listed_in}
use Rattle.model.specs.Story.{Entry as Told, Every, entry_keys, touch_entry}
use Rattle.model.proofs.Laws.{map-map, map-ext}
use Rattle.model.specs.PairLaws.{split}
use Rattle.rust_model.specs.Maps.{entry, remove, modify}
use Rattle.rust_model.specs.DataSampleCache.{has_been_read, accessed}
use Rattle.rust_model.proofs.Alike.{Kept, key_at, mine, stored, samples, Rising}

abbrev pub touch_kept : Bool → List Pair → Kept → Kept
touch_kept t ps k = record { name = k.name; told = touch_entry t k.name ps k.told }

-- the log after a list
abbrev pub touched : Bool → List Pair → List Kept → List Kept
touched t ps log = map (touch_kept t ps) log

-- keys stay
entry_key : (t : Bool) (n : ℕ) (ps : List Pair) (e : Told) → (touch_entry t n ps e).sample.key ≡ e.sample.key
entry_key true n ps e = split (listed_in n ps e.sample) (λ l. rw l) (λ l. rw l)
entry_key false n ps e = split (listed_in n ps e.sample) (λ l. rw l) (λ l. rw l)

pub stamps-touched : (t : Bool) (n : ℕ) (ps : List Pair) (es : List Told) → entry_keys (map (touch_entry t n ps) es) ≡ entry_keys es
stamps-touched t n ps es = map-map _ (touch_entry t n ps) es ∙ map-ext _ _ (entry_key t n ps) es

pub every-touched : (P : ℕ → Type 0) (t : Bool) (ps : List Pair) (log : List Kept) → Every (λ k. P (key_at k)) log → Every (λ k. P (key_at k)) (touched t ps log)
every-touched P t ps [] h = tt
every-touched P t ps (k ∷ log) h = (rw (entry_key t k.name ps k.told) h.0, every-touched P t ps log h.1)

pub rising-touched : (t : Bool) (ps : List Pair) (log : List Kept) → Rising log → Rising (touched t ps log)
rising-touched t ps [] r = tt
rising-touched t ps (k ∷ log) r = (rw (entry_key t k.name ps k.told) (every-touched (λ j. key_at k < j) t ps log r.0), rising-touched t ps log r.1)

pub mine-touched : (t : Bool) (n : ℕ) (ps : List Pair) (log : List Kept) → mine n (touched t ps log) ≡ map (touch_entry t n ps) (mine n log)
unfolding mine
mine-touched t n ps [] = refl
mine-touched t n ps (k ∷ log) = split (eqb k.name n)
    (λ e. rw (e, eqb-true k.name n e) (ap (touch_entry t n ps k.told ∷◌) (mine-touched t n ps log)))
    (λ e. rw e (mine-touched t n ps log))

pub touched_none : (t : Bool) (log : List Kept) → touched t [] log ≡ log
unfolding among
touched_none t [] = refl
touched_none t (k ∷ log) = ap (k ∷◌) (touched_none t log)

-- one pair, then the others
touch-twice : (t : Bool) (p : Pair) (ps : List Pair) (k : Kept) → touch_kept t ps (touch_kept t (p ∷ []) k) ≡ touch_kept t (p ∷ ps) k
unfolding among
touch-twice true p ps k = split (same_pair (record { key = key_at k; name = k.name }) p)
    (λ a. split (among (record { key = key_at k; name = k.name }) ps) (λ b. rw (a, b)) (λ b. rw (a, b)))
    (λ a. rw a)
touch-twice false p ps k = split (same_pair (record { key = key_at k; name = k.name }) p)
    (λ a. split (among (record { key = key_at k; name = k.name }) ps) (λ b. rw (a, b)) (λ b. rw (a, b)))
    (λ a. rw a)

pub touched-twice : (t : Bool) (p : Pair) (ps : List Pair) (log : List Kept) → touched t ps (touched t (p ∷ []) log) ≡ touched t (p ∷ ps) log
touched-twice t p ps log = map-map (touch_kept t ps) (touch_kept t (p ∷ [])) log ∙ map-ext _ _ (touch-twice t p ps) log

-- ---- in the Rust: by the key alone, which is enough where the key is the pair's own
abbrev pub Owns : Pair → Kept → Type 0
Owns p k = eqb (key_at k) p.key ≡ same_pair (record { key = key_at k; name = k.name }) p

pub owns-touched : (q : Pair) (t : Bool) (ps : List Pair) (log : List Kept) → Every (Owns q) log → Every (Owns q) (touched t ps log)
owns-touched q t ps [] h = tt
owns-touched q t ps (k ∷ log) h = (rw (entry_key t k.name ps k.told) h.0, owns-touched q t ps log h.1)

pub samples-touched : (t : Bool) (p : Pair) (log : List Kept) → Every (Owns p) log → accessed t p.key (samples log) ≡ samples (touched t (p ∷ []) log)
unfolding among samples remove modify
samples-touched true p [] h = refl
samples-touched true p (k ∷ log) h = split (eqb (key_at k) p.key)
    (λ a. split k.told.taken
    (λ b. rw (← h.0, a, b) (samples-touched true p log h.1))
    (λ b. rw (← h.0, a, b) (rw a (samples-touched true p log h.1))))
    (λ a. split k.told.taken
    (λ b. rw (← h.0, a, b) (samples-touched true p log h.1))
    (λ b. rw (← h.0, a, b) (rw a (ap (entry (key_at k) (stored k) ∷◌) (samples-touched true p log h.1)))))
samples-touched false p [] h = refl
samples-touched false p (k ∷ log) h = split (eqb (key_at k) p.key)
    (λ a. split k.told.taken
    (λ b. rw (← h.0, a, b) (samples-touched false p log h.1))
    (λ b. rw (← h.0, a, b) (rw a (ap (entry (key_at k) (has_been_read (stored k)) ∷◌) (samples-touched false p log h.1)))))
    (λ a. split k.told.taken
    (λ b. rw (← h.0, a, b) (samples-touched false p log h.1))
    (λ b. rw (← h.0, a, b) (rw a (ap (entry (key_at k) (stored k) ∷◌) (samples-touched false p log h.1)))))
