-- Laws of the model's definitions, each proved once.
use mathlib.Core.Path.{◌≡◌, refl, sym, ◌∙◌, ap}
use mathlib.Core.Bool.{Bool, true, false, cond}
use mathlib.Core.List.{List, [], ◌∷◌, ◌++◌, map, append_assoc, append-nil}
use mathlib.Core.Option.{Option, some, none}
use Prim.Native.Nat.{ℕ, zero, suc, ◌-◌}
use native.Mathlib.Omega.{arith}
use native.Mathlib.Nat.{zero-sub, sub-zero, suc-sub-suc}
use lib.ListN.{length, drop, replicate, length-append, length-replicate, length-map}
use lib.Seq.{drop-append-le, drop-drop}
use lib.Dec.{eqb, leb}
use borrow.Author.Tests.{eqb-true, eq-eqb}
use Rattle.readcondition.specs.declared.ReadCondition.{ReadCondition}
use Rattle.model.specs.Pairs.{Pair}
use Rattle.model.specs.Model.{Model, SetUp, Arrival, Answer, Call, Step, set_up, add, no_writers, choose, read_or_take, next_key, ok, within, keep_of, fresh, setting_up, refusal_of, accept, refuse, reply, dying, adding, access, accessing, fine, step, next, next_name, choosing, scope, Instance, Place, gone, held, Live, find, put, live_in, push, window, listed_in, touch}
use Rattle.model.specs.Story.{Every, Entry, untaken, holds, last_by, touch_entry, map_o}
use Rattle.model.specs.PairLaws.{split}

-- ---- a test is true or false
-- ---- find and put
pub put-here : (j i : Instance) (is : List Instance) → eqb i.name j.name ≡ true → put j (i ∷ is) ≡ j ∷ is
unfolding put
put-here j i is e = rw e

pub put-there : (j i : Instance) (is : List Instance) → eqb i.name j.name ≡ false → put j (i ∷ is) ≡ i ∷ put j is
unfolding put
put-there j i is e = rw e

pub find-here : (n : ℕ) (i : Instance) (is : List Instance) → eqb i.name n ≡ true → find n (i ∷ is) ≡ some i
unfolding find
find-here n i is e = rw e

pub find-there : (n : ℕ) (i : Instance) (is : List Instance) → eqb i.name n ≡ false → find n (i ∷ is) ≡ find n is
unfolding find
find-there n i is e = rw e

pub find-put-same : (j : Instance) (n : ℕ) (is : List Instance) → j.name ≡ n → find n (put j is) ≡ some j
unfolding put
find-put-same j n [] h = find-here n j [] (eq-eqb j.name n h)
find-put-same j n (i ∷ is) h = split (eqb i.name j.name)
    (λ e. rw (put-here j i is e) (find-here n j is (eq-eqb j.name n h)))
    (λ e. rw (put-there j i is e, find-there n i (put j is) (rw h at e)) (find-put-same j n is h))

pub find-put-other : (j : Instance) (n : ℕ) (is : List Instance) → eqb j.name n ≡ false → find n (put j is) ≡ find n is
unfolding put
find-put-other j n [] h = find-there n j [] h
find-put-other j n (i ∷ is) h = split (eqb i.name j.name)
    (λ e. rw (put-here j i is e, find-there n j is h, find-there n i is (rw (eqb-true i.name j.name e) h)))
    (λ e. rw (put-there j i is e) (split (eqb i.name n)
    (λ q. rw (find-here n i (put j is) q, find-here n i is q))
    (λ q. rw (find-there n i (put j is) q, find-there n i is q) (find-put-other j n is h))))

-- what is found has the name that was looked for
pub find-name : (n : ℕ) (is : List Instance) (i : Instance) → find n is ≡ some i → i.name ≡ n
unfolding find
find-name n [] i h = let z : ◌≡◌ {A = ℕ} 0 1 = cc in absurd (omega arith)
find-name n (j ∷ is) i h = split (eqb j.name n)
    (λ e. let p : j ≡ i = cc (find-here n j is e) in ap (λ (k : Instance). k.name) (sym p) ∙ eqb-true j.name n e)
    (λ e. find-name n is i (sym (find-there n j is e) ∙ h))

abbrev pub newcomer : Option Instance → ℕ
newcomer none = 1
newcomer (some i) = 0

-- a change that keeps names
pub find-map : (f : Instance → Instance) → ((i : Instance) → (f i).name ≡ i.name) → (n : ℕ) (is : List Instance) → find n (map f is) ≡ map_o f (find n is)
unfolding find
find-map f k n [] = refl
find-map f k n (i ∷ is) = split (eqb i.name n)
    (λ e. rw (find-here n (f i) (map f is) (rw (k i) e), find-here n i is e))
    (λ e. rw (find-there n (f i) (map f is) (rw (k i) e), find-there n i is e) (find-map f k n is))

-- ---- lists
pub map-append {ℓ κ} : {A : Type ℓ} {B : Type κ} (f : A → B) (s t : List A) → map f (s ++ t) ≡ map f s ++ map f t
map-append f [] t = refl
map-append f (a ∷ s) t = ap (f a ∷◌) (map-append f s t)

pub map-drop {ℓ κ} : {A : Type ℓ} {B : Type κ} (f : A → B) (n : ℕ) (l : List A) → map f (drop n l) ≡ drop n (map f l)
map-drop f zero l = refl
map-drop f (suc n) [] = refl
map-drop f (suc n) (a ∷ l) = map-drop f n l

pub map-map {ℓ} : {A B C : Type ℓ} (f : B → C) (g : A → B) (l : List A) → map f (map g l) ≡ map (λ a. f (g a)) l
map-map f g [] = refl
map-map f g (a ∷ l) = ap (f (g a) ∷◌) (map-map f g l)

pub map-ext {ℓ} : {A B : Type ℓ} (f g : A → B) → ((a : A) → f a ≡ g a) → (l : List A) → map f l ≡ map g l
map-ext f g e [] = refl
map-ext f g e (a ∷ l) = rw (e a, map-ext f g e l)

pub map-replicate {ℓ κ} : {A : Type ℓ} {B : Type κ} (f : A → B) (n : ℕ) (a : A) → map f (replicate n a) ≡ replicate n (f a)
map-replicate f zero a = refl
map-replicate f (suc n) a = ap (f a ∷◌) (map-replicate f n a)

pub drop-replicate-append {ℓ} : {A : Type ℓ} (d n : ℕ) (a : A) (l : List A) → drop n (replicate d a ++ l) ≡ replicate (d - n) a ++ drop (n - d) l
drop-replicate-append zero n a l = simp (zero-sub, sub-zero)
drop-replicate-append (suc d) zero a l = simp (zero-sub, sub-zero)
drop-replicate-append (suc d) (suc n) a l = simp suc-sub-suc (drop-replicate-append d n a l)

-- ---- what holds of every element
pub every-imp {ℓ} : {A : Type ℓ} {P Q : A → Type 0} → ((a : A) → P a → Q a) → (l : List A) → Every P l → Every Q l
every-imp f [] h = tt
every-imp f (a ∷ l) h = (f a h.0, every-imp f l h.1)

pub every_append {ℓ} : {A : Type ℓ} (P : A → Type 0) (s t : List A) → Every P s → Every P t → Every P (s ++ t)
every_append P [] t h k = k
every_append P (a ∷ s) t h k = (h.0, every_append P s t h.1 k)

pub every_map {ℓ κ} : {A : Type ℓ} {B : Type κ} (P : B → Type 0) (f : A → B) (l : List A) → Every P (map f l) → Every (λ a. P (f a)) l
every_map P f [] h = tt
every_map P f (a ∷ l) h = (h.0, every_map P f l h.1)

pub every_drop {ℓ} : {A : Type ℓ} (P : A → Type 0) (n : ℕ) (l : List A) → Every P l → Every P (drop n l)
every_drop P zero l h = h
every_drop P (suc n) [] h = h
every_drop P (suc n) (a ∷ l) h = every_drop P n l h.1

pub every-untaken : (P : Live → Type 0) (es : List Entry) → Every (λ e. P e.sample) es → Every P (untaken es)
unfolding untaken
every-untaken P [] h = tt
every-untaken P (e ∷ es) h = split e.taken
    (λ k. rw k (every-untaken P es h.1))
    (λ k. rw k (h.0, every-untaken P es h.1))

pub every-find : (P : Instance → Type 0) (n : ℕ) (is : List Instance) (i : Instance) → Every P is → find n is ≡ some i → P i
unfolding find
every-find P n [] i h e = let z : ◌≡◌ {A = ℕ} 0 1 = cc in absurd (omega arith)
every-find P n (j ∷ is) i h e = split (eqb j.name n)
    (λ q. let p : j ≡ i = cc (find-here n j is q) in rw p at h.0)
    (λ q. every-find P n is i h.1 (sym (find-there n j is q) ∙ e))

pub every-put : (P : Instance → Type 0) (j : Instance) (is : List Instance) → P j → Every P is → Every P (put j is)
unfolding put
every-put P j [] p h = (p, tt)
every-put P j (i ∷ is) p h = split (eqb i.name j.name)
    (λ e. rw (put-here j i is e) (p, h.1))
    (λ e. rw (put-there j i is e) (h.0, every-put P j is p h.1))

-- ---- the last d, or all
pub every-last {ℓ} : {A : Type ℓ} (P : A → Type 0) (d : Option ℕ) (l : List A) → Every P l → Every P (last_by d l)
every-last P none l h = h
every-last P (some d) l h = every_drop P (length l - d) l h

-- ---- the window of an instance's last d places, from its story
abbrev pub place_of : Entry → Place
place_of e = cond e.taken gone (held e.sample)

unfoldable pub places_of : Option ℕ → List Entry → List Place
places_of none es = map place_of es
places_of (some d) es = drop (length es) (replicate d gone ++ map place_of es)

pub places-none : (d : Option ℕ) → window d ≡ places_of d []
unfolding places_of window
places-none none = refl
places-none (some d) = sym (append-nil (replicate d gone))

pub places-push : (d : Option ℕ) (es : List Entry) (e : Entry) → push d (places_of d es) (place_of e) ≡ places_of d (es ++ e ∷ [])
unfolding places_of push
places-push none es e = rw map-append
places-push (some d) es e = rw (length-append, map-append place_of es (e ∷ []), ← append_assoc, ← drop-drop, drop-append-le (length es) (replicate d gone ++ map place_of es) (place_of e ∷ []) (simp (length-append, length-replicate, length-map) (omega arith)))

pub touch-place : (t : Bool) (n : ℕ) (ps : List Pair) (e : Entry) → touch t n ps (place_of e) ≡ place_of (touch_entry t n ps e)
touch-place true n ps e = split e.taken
    (λ k. split (listed_in n ps e.sample) (λ l. rw (k, l)) (λ l. rw (k, l)))
    (λ k. split (listed_in n ps e.sample) (λ l. rw (k, l)) (λ l. rw (k, l)))
touch-place false n ps e = split e.taken
    (λ k. split (listed_in n ps e.sample) (λ l. rw (k, l)) (λ l. rw (k, l)))
    (λ k. split (listed_in n ps e.sample) (λ l. rw (k, l)) (λ l. rw (k, l)))

touch-places : (t : Bool) (n : ℕ) (ps : List Pair) (es : List Entry) → map (touch t n ps) (map place_of es) ≡ map place_of (map (touch_entry t n ps) es)
touch-places t n ps es = map-map (touch t n ps) place_of es ∙ map-ext _ _ (touch-place t n ps) es ∙ sym (map-map place_of (touch_entry t n ps) es)

pub places-touch : (t : Bool) (n : ℕ) (ps : List Pair) (d : Option ℕ) (es : List Entry) → map (touch t n ps) (places_of d es) ≡ places_of d (map (touch_entry t n ps) es)
unfolding places_of
places-touch t n ps none es = touch-places t n ps es
places-touch t n ps (some d) es = rw (map-drop, map-append, map-replicate, length-map, touch-places t n ps es)

pub lives-placed : (es : List Entry) → live_in (map place_of es) ≡ untaken es
unfolding live_in untaken
lives-placed [] = refl
lives-placed (e ∷ es) = split e.taken
    (λ k. rw (k, lives-placed es))
    (λ k. rw (k, lives-placed es))

pub lives-gone : (n : ℕ) (ps : List Place) → live_in (replicate n gone ++ ps) ≡ live_in ps
unfolding live_in
lives-gone zero ps = refl
lives-gone (suc n) ps = lives-gone n ps

pub places-hold : (d : Option ℕ) (es : List Entry) → live_in (places_of d es) ≡ holds d es
unfolding places_of
places-hold none es = lives-placed es
places-hold (some d) es = rw (drop-replicate-append d (length es) gone (map place_of es), lives-gone, ← map-drop) (lives-placed (drop (length es - d) es))

-- ---- what a call does: it is turned down, or one of six things happens
pub data Done (m : Model) : Call → Step → Type 0 where
  turned : (c : Call) (r : ℕ) → Done m c (refuse m r)
  began : (u : SetUp) → within u ≡ true → Done m (set_up u) (record { answer = ok; then = fresh (keep_of u) u.instances })
  came : (a : Arrival) → refusal_of m a ≡ 0 → Done m (add a) (accept m a)
  lost : (n : ℕ) (i : Instance) → find n m.instances ≡ some i → Done m (no_writers n) (dying m (some i))
  looked : (w : Option ℕ) (k : ReadCondition) (room : ℕ) (x : Answer) → Done m (choose w k room) (reply m x)
  went : (t : Bool) (ps : List Pair) (room : ℕ) → fine m ps ≡ true → Done m (read_or_take t ps room) (access t m ps)
  asked : (n : ℕ) (x : Answer) → Done m (next_key n) (reply m x)

pub done : (m : Model) (c : Call) → Done m c (step m c)
unfolding step setting_up adding accessing
done m (set_up u) = split (within u) (λ e. rw e (began u e)) (λ e. rw e (turned (set_up u) 2))
done m (add a) = split (eqb (refusal_of m a) 0) (λ e. rw e (came a (eqb-true (refusal_of m a) 0 e))) (λ e. rw e (turned (add a) (refusal_of m a)))
done m (no_writers n) = go (find n m.instances) refl
  where
    go : (o : Option Instance) → find n m.instances ≡ o → Done m (no_writers n) (dying m o)
    go none e = turned (no_writers n) 3
    go (some i) e = lost n i e
done m (choose w k room) = looked w k room (choosing k room (scope w m.instances))
done m (read_or_take t ps room) = split (fine m ps)
    (λ e. split (leb (length ps) room) (λ l. rw (e, l) (went t ps room e)) (λ l. rw (e, l) (turned (read_or_take t ps room) _)))
    (λ e. split (leb (length ps) room) (λ l. simp (e, l) (turned (read_or_take t ps room) _)) (λ l. simp (e, l) (turned (read_or_take t ps room) _)))
done m (next_key n) = asked n (next (next_name n m.instances))
