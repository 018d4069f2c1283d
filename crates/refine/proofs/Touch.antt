-- A list taken or read one pair after the other: on the model, what one pair changes.
use Rattle.std.specs.Prelude.{◌≡◌, refl, Bool, true, false, cond, List, [], ◌∷◌, map, ℕ, suc, ◌≤◌, eqb}
use Rattle.std.proofs.Common.{sym, ap, ◌∙◌, arith, eq-eqb, ne_eqb}
use Rattle.std.proofs.Math.Option.{Option, some, none}
use Rattle.std.proofs.lemmas.Bool.{eqb-false}
use Rattle.std.proofs.lemmas.List.{length-map}
use Rattle.lists.specs.Every.{Every}
use Rattle.lists.specs.Blocks.{put_at}
use Rattle.model.specs.Pairs.{Pair, among, same_pair}
use Rattle.model.specs.Model.{Model, Instance, Live, Place, gone, held, find, lives, count, in_slot, as_read, mark, listed_in, touch}
use Rattle.model.proofs.Counting.{count-append, count-touch}
use Rattle.model.specs.Demand3.{times_held, has_key}
use Rattle.model.proofs.Laws.{map-ext}
use Rattle.model.specs.PairLaws.{split}
use Rattle.store.specs.Store.{place_of}
use Rattle.refine.specs.Good.{Good, Sized, Bounded, InOrder}
use Rattle.refine.proofs.GoodLaws.{rising-touch}
use Rattle.refine.specs.Entries.{insts}

-- the places that the list names are touched, and no instance's record
abbrev pub touched_in : Bool → List Pair → Instance → Instance
touched_in t ps i = record { name = i.name; meta = i.meta; places = map (touch t i.name ps) i.places }

abbrev pub touched_by : Bool → Model → List Pair → Model
touched_by t m ps = record { keep = m.keep; room = m.room; last = m.last; instances = map (touched_in t ps) m.instances }

-- ---- one after the other

pub map-map {ℓ} : {A B C : Type ℓ} (f : B → C) (g : A → B) (l : List A) → map f (map g l) ≡ map (λ a. f (g a)) l
map-map f g [] = refl
map-map f g (a ∷ l) = ap (λ r. f (g a) ∷ r) (map-map f g l)

touch-more : (t : Bool) (n : ℕ) (p : Pair) (ps : List Pair) (x : Place) → touch t n (p ∷ ps) x ≡ touch t n ps (touch t n (p ∷ []) x)
unfolding among
touch-more t n p ps gone = refl
touch-more true n p ps (held s) = split (same_pair (record { key = s.key; name = n }) p) (λ q. rw q) (λ q. rw q)
touch-more false n p ps (held s) = split (same_pair (record { key = s.key; name = n }) p)
    (λ q. rw q (split (listed_in n ps s) (λ r. rw r) (λ r. rw r)))
    (λ q. rw q)

touch-none : (t : Bool) (n : ℕ) (x : Place) → touch t n [] x ≡ x
unfolding among
touch-none t n gone = refl
touch-none t n (held s) = refl

same_map {ℓ} : {A : Type ℓ} (f : A → A) → ((a : A) → f a ≡ a) → (l : List A) → map f l ≡ l
same_map f e [] = refl
same_map f e (a ∷ l) = rw (e a, same_map f e l)

pub touched_none : (t : Bool) (m : Model) → touched_by t m [] ≡ m
touched_none t m = ap (λ (is : List Instance). record { keep = m.keep; room = m.room; last = m.last; instances = is })
    (same_map (touched_in t []) (λ i. ap (λ (qs : List Place). record { name = i.name; meta = i.meta; places = qs }) (same_map (touch t i.name []) (touch-none t i.name) i.places)) m.instances)

pub touched-more : (t : Bool) (m : Model) (p : Pair) (ps : List Pair) → touched_by t m (p ∷ ps) ≡ touched_by t (touched_by t m (p ∷ [])) ps
touched-more t m p ps = ap (λ (is : List Instance). record { keep = m.keep; room = m.room; last = m.last; instances = is })
    (map-ext (touched_in t (p ∷ ps)) (λ i. touched_in t ps (touched_in t (p ∷ []) i)) one m.instances ∙ sym (map-map (touched_in t ps) (touched_in t (p ∷ [])) m.instances))
  where
    one : (i : Instance) → touched_in t (p ∷ ps) i ≡ touched_in t ps (touched_in t (p ∷ []) i)
    one i = ap (λ (qs : List Place). record { name = i.name; meta = i.meta; places = qs })
        (map-ext (touch t i.name (p ∷ ps)) (λ x. touch t i.name ps (touch t i.name (p ∷ []) x)) (touch-more t i.name p ps) i.places
        ∙ sym (map-map (touch t i.name ps) (touch t i.name (p ∷ [])) i.places))

-- ---- it keeps the cache good

times-touched : (n : ℕ) (t : Bool) (ps : List Pair) (is : List Instance) → times_held n (map (touched_in t ps) is) ≡ times_held n is
unfolding times_held
times-touched n t ps [] = refl
times-touched n t ps (i ∷ is) = omega (arith, times-touched n t ps is)

count-touched : (p : Live → Bool) → ((s : Live) → p (as_read s) ≡ p s) → (t : Bool) (ps : List Pair) (is : List Instance) → count p (lives (map (touched_in t ps) is)) ≤ count p (lives is)
unfolding lives
count-touched p b t ps [] = omega arith
count-touched p b t ps (i ∷ is) = simp (count-append p) (omega (arith, count-touch p b t i.name ps i.places, count-touched p b t ps is))

every-touched : (P : Instance → Type 0) (t : Bool) (ps : List Pair) → ((i : Instance) → P i → P (touched_in t ps i)) → (is : List Instance) → Every P is → Every P (map (touched_in t ps) is)
unfolding Every
every-touched P t ps f [] h = tt
every-touched P t ps f (i ∷ is) h = (f i h.0, every-touched P t ps f is h.1)

touched-sized : (k : Option ℕ) (t : Bool) (ps : List Pair) (i : Instance) → Sized k i → Sized k (touched_in t ps i)
touched-sized none t ps i h = tt
touched-sized (some d) t ps i h = length-map i.places (touch t i.name ps) ∙ h

pub good-touched : (t : Bool) (m : Model) → Good m → (ps : List Pair) → Good (touched_by t m ps)
good-touched t m g ps = record {
  few = omega (arith, length-map m.instances (touched_in t ps), g.few);
  rooms = g.rooms;
  deep = g.deep;
  even = every-touched (Sized m.keep) t ps (touched-sized m.keep t ps) m.instances g.even;
  names = λ n. omega (arith, times-touched n t ps m.instances, g.names n);
  totals = every-touched Bounded t ps (λ i h. h) m.instances g.totals;
  orders = every-touched InOrder t ps (λ i h. rising-touch t i.name ps i.places h) m.instances g.orders;
  slots = λ k. omega (arith, count-touched (in_slot k) (λ s. refl) t ps m.instances, g.slots k);
  keys = λ k. omega (arith, count-touched (has_key k) (λ s. refl) t ps m.instances, g.keys k);
}

-- ---- one pair changes its own instance alone

pub touch-other : (t : Bool) (n : ℕ) (p : Pair) → (n ≡ p.name → ⊥) → (x : Place) → touch t n (p ∷ []) x ≡ x
unfolding among
touch-other t n p h gone = refl
touch-other t n p h (held s) = rw (ne_eqb n p.name h) (split (eqb s.key p.key) (λ q. rw q) (λ q. rw q))

-- the pair's own: by key
pub touch-own : (t : Bool) (n : ℕ) (p : Pair) → n ≡ p.name → (s : Live) → touch t n (p ∷ []) (held s) ≡ cond (eqb s.key p.key) (mark t s) (held s)
unfolding among
touch-own t n p h s = rw (eq-eqb n p.name h) (split (eqb s.key p.key) (λ q. rw q) (λ q. rw q))

touched-other : (t : Bool) (p : Pair) (i : Instance) → (i.name ≡ p.name → ⊥) → touched_in t (p ∷ []) i ≡ i
touched-other t p i h = ap (λ (qs : List Place). record { name = i.name; meta = i.meta; places = qs }) (same_map (touch t i.name (p ∷ [])) (touch-other t i.name p h) i.places)

all-other : (t : Bool) (p : Pair) (is : List Instance) → times_held p.name is ≡ 0 → map (touched_in t (p ∷ [])) is ≡ is
unfolding times_held
all-other t p [] z = refl
all-other t p (i ∷ is) z = split (eqb i.name p.name)
    (λ q. absurd (omega (arith, rw q at z)))
    (λ q. rw (touched-other t p i (eqb-false i.name p.name q), all-other t p is (omega (arith, rw q at z))))

pub touched-one : (k : Option ℕ) (t : Bool) (p : Pair) (is : List Instance) (i : Instance) → times_held p.name is ≤ 1 → find p.name is ≡ some i
    → map (touched_in t (p ∷ [])) is ≡ put_at (place_of p.name (insts k is)) (touched_in t (p ∷ []) i) is
unfolding times_held find place_of put_at
touched-one k t p [] i h e = let z : ◌≡◌ {A = ℕ} 0 1 = cc in absurd (omega arith)
touched-one k t p (j ∷ is) i h e = go (eqb j.name p.name) refl e (touched-one k t p is i (omega arith)) (all-other t p is)
  where
    go : (b : Bool) → eqb j.name p.name ≡ b → cond b (some j) (find p.name is) ≡ some i
        → (find p.name is ≡ some i → map (touched_in t (p ∷ [])) is ≡ put_at (place_of p.name (insts k is)) (touched_in t (p ∷ []) i) is)
        → (times_held p.name is ≡ 0 → map (touched_in t (p ∷ [])) is ≡ is)
        → touched_in t (p ∷ []) j ∷ map (touched_in t (p ∷ [])) is ≡ put_at (cond b 0 (suc (place_of p.name (insts k is)))) (touched_in t (p ∷ []) i) (j ∷ is)
    go true q f r z = let s : j ≡ i = cc in rw (z (omega (arith, rw q at h)), s)
    go false q f r z = rw (touched-other t p j (eqb-false j.name p.name q), r f)
