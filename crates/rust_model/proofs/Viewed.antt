-- What a list showed of each instance: the Rust's hash map of generations, filled pair by pair, has the model's greatest totals.
use Rattle.std.proofs.Common.{◌≡◌, ℕ, ◌<◌, max, true, false, cond, eqb, ltb, List, [], ◌∷◌, sym, refl, ap, ◌∙◌, arith, ltb-false, ltb-true, eq-eqb, ne_eqb, eqb-true}
use mathlib.Core.Bool.{and-false}
use mathlib.Core.Option.{Option, some, none}
use borrow.Author.Tests.{eqb-false}
use Rattle.sampleinfo.specs.Counts.{total, zero}
use Rattle.sampleinfo.specs.Samples.{total_of}
use Rattle.sampleinfo.specs.declared.NotAliveGenerationCounts.{NotAliveGenerationCounts}
use Rattle.model.specs.Pairs.{Pair, same_pair, among}
use Rattle.model.specs.Views.{greater, viewed}
use Rattle.model.specs.Model.{Live, keyed, shown}
use Rattle.model.specs.Story.{Every, map_o, untaken}
use Rattle.model.proofs.Laws.{every-imp}
use Rattle.model.specs.PairLaws.{split}
use Rattle.rust_model.specs.Maps.{gives, get, modify, first_above, upsert}
use Rattle.rust_model.specs.DataSampleCache.{InstanceMetaData, SampleWithMetaData, DataSamples, InstanceMap, Generations, record_instance_generation_viewed, accessed_now, mark_instances_viewed}
use Rattle.rust_model.proofs.MapLaws.{eqb_swap, below-eqb, get-here, get-there, get-modify, above-modify}
use Rattle.rust_model.proofs.Alike.{Kept, key_at, mine, Rising, ticks}

-- ---- the greater of two
max_of : (a b : ℕ) → cond (ltb a b) b a ≡ max a b
max_of a b = split (ltb a b) (λ e. rw e (omega (arith, ltb-true a b e))) (λ e. rw e (omega (arith, ltb-false a b e)))

greater-swap : (o : Option ℕ) (a b : ℕ) → greater (greater o a) b ≡ greater (greater o b) a
greater-swap none a b = ap some (omega arith)
greater-swap (some t) a b = ap some (omega arith)

abbrev join : Option ℕ → Option ℕ → Option ℕ
join none o = o
join (some a) none = some a
join (some a) (some b) = some (max a b)

join-greater : (o x : Option ℕ) (t : ℕ) → join (greater o t) x ≡ join o (greater x t)
join-greater none none t = refl
join-greater none (some b) t = ap some (omega arith)
join-greater (some a) none t = refl
join-greater (some a) (some b) t = ap some (omega arith)

-- ---- the hash map, by totals
abbrev pub total_at : ℕ → Generations → Option ℕ
total_at n gens = map_o total (get n gens)

total-upsert : (n k : ℕ) (c : NotAliveGenerationCounts) (gens : Generations) → total_at n (record_instance_generation_viewed gens c k) ≡ cond (eqb k n) (greater (total_at n gens) (total c)) (total_at n gens)
unfolding record_instance_generation_viewed upsert get
total-upsert n k c [] = split (eqb k n) (λ e. rw e) (λ e. rw e)
total-upsert n k c (g ∷ gens) = split (eqb g.at k)
    (λ a. rw (a, eqb-true g.at k a) (split (eqb k n)
    (λ b. rw b (ap some (raised g.item)))
    (λ b. rw b)))
    (λ a. rw a (split (eqb g.at n)
    (λ b. rw (b, ne_eqb k n (λ q. eqb-false g.at k a (eqb-true g.at n b ∙ sym q))))
    (λ b. rw b (total-upsert n k c gens))))
  where
    raised : (old : NotAliveGenerationCounts) → total (cond (ltb (total old) (total c)) c old) ≡ max (total old) (total c)
    raised old = split (ltb (total old) (total c)) (λ e. rw e (omega (arith, ltb-true (total old) (total c) e))) (λ e. rw e (omega (arith, ltb-false (total old) (total c) e)))

-- ---- the model's greatest total, one pair more
module _ (n : ℕ) (p : Pair) (ps : List Pair) where
  shown-other : (ss : List Live) → Every (λ s. same_pair (record { key = s.key; name = n }) p ≡ false) ss → shown n (p ∷ ps) ss ≡ shown n ps ss
  unfolding shown among
  shown-other [] h = refl
  shown-other (s ∷ ss) h = rw (h.0, shown-other ss h.1)

  key-differs : (s : Live) → eqb s.key p.key ≡ false → same_pair (record { key = s.key; name = n }) p ≡ false
  key-differs s e = rw e

  name-differs : (s : Live) → eqb n p.name ≡ false → same_pair (record { key = s.key; name = n }) p ≡ false
  name-differs s e = rw e (and-false (eqb s.key p.key))

not_listed : (n k : ℕ) (ps : List Pair) → Every (λ q. eqb k q.key ≡ false) ps → among (record { key = k; name = n }) ps ≡ false
unfolding among
not_listed n k [] h = refl
not_listed n k (q ∷ ps) h = rw h.0 (not_listed n k ps h.1)

pub none-shown : (n : ℕ) (ss : List Live) → shown n [] ss ≡ none
unfolding shown among
none-shown n [] = refl
none-shown n (s ∷ ss) = none-shown n ss

abbrev LivesRise : List Live → Type 0
LivesRise [] = Unit {0}
LivesRise (s ∷ ss) = Every (λ x. s.key < x.key) ss × LivesRise ss

shown-more : (n : ℕ) (p : Pair) (ps : List Pair) (s : Live) (ss : List Live) → p.name ≡ n → Every (λ q. eqb p.key q.key ≡ false) ps → LivesRise ss → keyed p.key ss ≡ some s
    → shown n (p ∷ ps) ss ≡ greater (shown n ps ss) (total_of s.sample)
unfolding keyed shown among
shown-more n p ps s [] e d r h = cc
shown-more n p ps s (x ∷ ss) e d r h = split (eqb x.key p.key)
    (λ a. here a (rw a at h))
    (λ a. rw (a, shown-more n p ps s ss e d r.1 (rw a at h)) (split (among (record { key = x.key; name = n }) ps)
    (λ b. rw b (greater-swap (shown n ps ss) (total_of s.sample) (total_of x.sample)))
    (λ b. rw b)))
  where
    here : eqb x.key p.key ≡ true → some x ≡ some s → shown n (p ∷ ps) (x ∷ ss) ≡ greater (shown n ps (x ∷ ss)) (total_of s.sample)
    here a g = let q : x ≡ s = cc in
        rw (a, eq-eqb n p.name (sym e), not_listed n x.key ps (rw (eqb-true x.key p.key a) d), shown-other n p ps ss (every-imp (λ y l. key-differs n p ps y (rw (← eqb-true x.key p.key a) (below-eqb x.key y.key l))) ss r.0))
        (ap (λ (y : Live). greater (shown n ps ss) (total_of y.sample)) q)

lives-above : (P : ℕ → Type 0) (n : ℕ) (log : List Kept) → Every (λ k. P (key_at k)) log → Every (λ s. P s.key) (untaken (mine n log))
unfolding mine untaken
lives-above P n [] h = tt
lives-above P n (k ∷ log) h = split (eqb k.name n)
    (λ a. split k.told.taken (λ b. rw (a, b) (lives-above P n log h.1)) (λ b. rw (a, b) (h.0, lives-above P n log h.1)))
    (λ a. rw a (lives-above P n log h.1))

lives-rise : (n : ℕ) (log : List Kept) → Rising log → LivesRise (untaken (mine n log))
unfolding mine untaken
lives-rise n [] r = tt
lives-rise n (k ∷ log) r = split (eqb k.name n)
    (λ a. split k.told.taken (λ b. rw (a, b) (lives-rise n log r.1)) (λ b. rw (a, b) (lives-above (λ j. key_at k < j) n log r.0, lives-rise n log r.1)))
    (λ a. rw a (lives-rise n log r.1))

-- ---- the whole list
abbrev counts_in : Option SampleWithMetaData → NotAliveGenerationCounts
counts_in none = zero
counts_in (some v) = v.sample.generation_counts

unfoldable pub gens_after : DataSamples → Generations → List Pair → Generations
gens_after all gens [] = gens
gens_after all gens (p ∷ ps) = gens_after all (record_instance_generation_viewed gens (counts_in (get p.key all)) p.name) ps

-- the pairs' keys are distinct
abbrev pub KeysApart : List Pair → Type 0
KeysApart [] = Unit {0}
KeysApart (p ∷ ps) = Every (λ q. eqb p.key q.key ≡ false) ps × KeysApart ps

-- a pair names this live sample of its instance
abbrev pub Names : DataSamples → List Kept → Pair → Type 0
Names all log p = (s : Live) × (keyed p.key (untaken (mine p.name log)) ≡ some s) × (get p.key all ≡ some (record { key = p.name; sample = s.sample }))

module _ (all : DataSamples) (log : List Kept) (r : Rising log) (n : ℕ) where
  shown-cons : (p : Pair) (ps : List Pair) → Names all log p → Every (λ q. eqb p.key q.key ≡ false) ps
      → shown n (p ∷ ps) (untaken (mine n log)) ≡ cond (eqb p.name n) (greater (shown n ps (untaken (mine n log))) (total (counts_in (get p.key all)))) (shown n ps (untaken (mine n log)))
  shown-cons p ps (s, k, g) d = split (eqb p.name n)
      (λ e. rw (e, g) (shown-more n p ps s (untaken (mine n log)) (eqb-true p.name n e) d (lives-rise n log r) (rw (eqb-true p.name n e) at k)))
      (λ e. rw e (shown-other n p ps (untaken (mine n log)) (every-all (λ x. name-differs n p ps x (eqb_swap p.name n e)) (untaken (mine n log)))))
    where
      every-all : {P : Live → Type 0} → ((x : Live) → P x) → (l : List Live) → Every P l
      every-all f [] = tt
      every-all f (x ∷ l) = (f x, every-all f l)

  pub gens-shown : (gens : Generations) (ps : List Pair) → Every (Names all log) ps → KeysApart ps → total_at n (gens_after all gens ps) ≡ join (total_at n gens) (shown n ps (untaken (mine n log)))
  unfolding gens_after
  gens-shown gens [] h d = nothing (total_at n gens) (untaken (mine n log))
    where
      nothing : (o : Option ℕ) (ss : List Live) → o ≡ join o (shown n [] ss)
      nothing none ss = sym (none-shown n ss)
      nothing (some a) ss = rw (none-shown n ss)
  gens-shown gens (p ∷ ps) h d = gens-shown (record_instance_generation_viewed gens (counts_in (get p.key all)) p.name) ps h.1 d.1
      ∙ ap (λ (o : Option ℕ). join o (shown n ps (untaken (mine n log)))) (total-upsert n p.name (counts_in (get p.key all)) gens)
      ∙ split (eqb p.name n)
      (λ e. rw e (join-greater (total_at n gens) (shown n ps (untaken (mine n log))) (total (counts_in (get p.key all))) ∙ ap (join (total_at n gens)) (sym (rw e at (shown-cons p ps h.0 d.0)))))
      (λ e. rw e (ap (join (total_at n gens)) (sym (rw e at (shown-cons p ps h.0 d.0)))))

-- ---- mark_instances_viewed
unfoldable pub marked : Generations → InstanceMap → InstanceMap
marked [] imds = imds
marked (g ∷ gens) imds = modify g.at (accessed_now g.item) (marked gens imds)

abbrev pub seen_by : Option NotAliveGenerationCounts → InstanceMetaData → InstanceMetaData
seen_by none d = d
seen_by (some g) d = accessed_now g d

pub get-marked : (n : ℕ) (gens : Generations) (imds : InstanceMap) → get n (marked gens imds) ≡ map_o (seen_by (get n gens)) (get n imds)
unfolding marked
get-marked n [] imds = unfold get in (same (get n imds))
  where
    same : (o : Option InstanceMetaData) → o ≡ map_o (seen_by none) o
    same none = refl
    same (some d) = refl
get-marked n (g ∷ gens) imds = get-modify g.at n (accessed_now g.item) (marked gens imds) ∙ split (eqb g.at n)
    (λ e. rw (e, get-here n g gens e, get-marked n gens imds) (again (get n gens) (get n imds)))
    (λ e. rw (e, get-there n g gens e) (get-marked n gens imds))
  where
    again : (o : Option NotAliveGenerationCounts) (d : Option InstanceMetaData) → map_o (accessed_now g.item) (map_o (seen_by o) d) ≡ map_o (seen_by (some g.item)) d
    again none none = refl
    again none (some d) = refl
    again (some c) none = refl
    again (some c) (some d) = refl

pub above-marked : (n : ℕ) (gens : Generations) (imds : InstanceMap) → first_above n (marked gens imds) ≡ first_above n imds
unfolding marked
above-marked n [] imds = refl
above-marked n (g ∷ gens) imds = above-modify g.at n (accessed_now g.item) (marked gens imds) ∙ above-marked n gens imds

abbrev pub Held : InstanceMap → ℕ → Type 0
Held imds n = (d : InstanceMetaData) × (get n imds ≡ some d)

pub mark-is : (gens : Generations) (imds : InstanceMap) → Every (λ g. Held imds g.at) gens → mark_instances_viewed gens imds ≡ gives (marked gens imds)
unfolding mark_instances_viewed marked
mark-is [] imds h = refl
mark-is (g ∷ gens) imds h = rw (mark-is gens imds h.1, get-marked g.at gens imds, h.0.1)

held-upsert : (imds : InstanceMap) (gens : Generations) (c : NotAliveGenerationCounts) (k : ℕ) → Held imds k → Every (λ g. Held imds g.at) gens → Every (λ g. Held imds g.at) (record_instance_generation_viewed gens c k)
unfolding record_instance_generation_viewed upsert
held-upsert imds [] c k p h = (p, tt)
held-upsert imds (g ∷ gens) c k p h = split (eqb g.at k)
    (λ e. rw e h)
    (λ e. rw e (h.0, held-upsert imds gens c k p h.1))

pub gens-held : (all : DataSamples) (imds : InstanceMap) (gens : Generations) (ps : List Pair) → Every (λ p. Held imds p.name) ps → Every (λ g. Held imds g.at) gens → Every (λ g. Held imds g.at) (gens_after all gens ps)
unfolding gens_after
gens-held all imds gens [] q h = h
gens-held all imds gens (p ∷ ps) q h = gens-held all imds (record_instance_generation_viewed gens (counts_in (get p.key all)) p.name) ps q.1 (held-upsert imds gens (counts_in (get p.key all)) p.name q.0 h)

-- what was last accessed is then the model's
pub ticks-seen : (o : Option NotAliveGenerationCounts) (d : InstanceMetaData) → ticks (seen_by o d).last_generation_accessed ≡ viewed (ticks d.last_generation_accessed) (map_o total o)
ticks-seen none d = refl
ticks-seen (some c) d = refl
