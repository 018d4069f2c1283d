-- Memory says all: two good models with the same store and table have the same instances with the same live samples, in order.
use Rattle.std.specs.Prelude.{◌≡◌, refl, List, [], ◌∷◌, ◌++◌, map, ◌⊎◌, ℕ, zero, suc, ◌+◌, ◌≤◌, ◌<◌, length, get_or, drop, ltb}
use Rattle.std.proofs.Common.{sym, ◌∙◌, subst, inl, inr, not-suc-le-zero, le_of_suc-le-suc, zero-add, arith, ltb-true, ltb-false, le-ltb, ext_get_or}
use Rattle.std.proofs.Math.Path.{ap}
use Rattle.std.proofs.Math.Option.{Option, some, none}
use Rattle.std.proofs.lemmas.List.{length-map}
use Rattle.lists.specs.Every.{Every, every_append, every_map}
use Rattle.sampleinfo.specs.Samples.{empty_sample}
use Rattle.sampleinfo.specs.declared.Sample.{Sample}
use Rattle.sampleinfo.specs.declared.InstanceMetaData.{InstanceMetaData}
use Rattle.keys.specs.Keys.{Last}
use Rattle.model.specs.Model.{Model, Instance, Live, Place, gone, held, live_in}
use Rattle.model.specs.PairLaws.{split}
use Rattle.model.proofs.Laws.{map-ext}
use Rattle.store.specs.Store.{Inst, Store, no_inst}
use Rattle.refine.specs.Layout.{cell_of, cells_of, inst_of, Entry, entry, entries_of, look_up, free_of, key_of, owner_of, sample_of, store_of, table_of}
use Rattle.refine.specs.Good.{Good, Rising, InOrder}
use Rattle.refine.specs.Tables.{look_none}
use Rattle.refine.specs.Entries.{insts, before, behind, entries_at}
use Rattle.refine.proofs.FitOf.{every-at, get-inst, nobody}
use Rattle.refine.proofs.Dying.{nobody-live}
use Rattle.refine.proofs.Unique.{places-below, places-from}
use Rattle.refine.proofs.Found.{every-left, every-right, every-under, every-over, every-look, look-slot, Placed, entry-slots, every-placed}
use Rattle.refine.proofs.Named.{free-at, key-at, owner_at, record-at, insts-of}

-- ---- rising lists of the same samples are the same

abbrev Has : List Live → Live → Type 0
Has [] s = ⊥
Has (x ∷ l) s = (s ≡ x) ⊎ Has l s

every-has : (l : List Live) (P : Live → Type 0) (s : Live) → Every P l → Has l s → P s
unfolding Every
every-has [] P s h k = absurd k
every-has (x ∷ l) P s h (inl e) = subst P (sym e) h.0
every-has (x ∷ l) P s h (inr k) = every-has l P s h.1 k

all-has : (l : List Live) → Every (Has l) l
unfolding Every
all-has [] = tt
all-has (x ∷ l) = (inl refl, every_map (Has l) (Has (x ∷ l)) l (λ s h. inr h) (all-has l))

less-than : (x s : Live) → x.key < s.key → s ≡ x → ⊥
less-than x s h e = let q : s.key ≡ x.key = ap (λ (y : Live). y.key) e in omega arith

-- those that are later than x stand behind it
behind-it : (x : Live) (l rest : List Live) → Every (λ s. x.key < s.key) l → Every (Has (x ∷ rest)) l → Every (Has rest) l
unfolding Every
behind-it x [] rest h k = tt
behind-it x (s ∷ l) rest h k = (go k.0, behind-it x l rest h.1 k.1)
  where
    go : (s ≡ x) ⊎ Has rest s → Has rest s
    go (inl e) = absurd (less-than x s h.0 e)
    go (inr q) = q

pub rising-same : (a b : List Live) → Rising a → Rising b → Every (Has b) a → Every (Has a) b → a ≡ b
unfolding Rising Every
rising-same [] [] ra rb h k = refl
rising-same [] (y ∷ b) ra rb h k = absurd k.0
rising-same (x ∷ a) [] ra rb h k = absurd h.0
rising-same (x ∷ a) (y ∷ b) ra rb h k =
    let e : x ≡ y = heads h.0 k.0 in
    let hb : Every (Has (x ∷ b)) a = subst (λ (z : Live). Every (Has (z ∷ b)) a) (sym e) h.1 in
    let ka : Every (Has (x ∷ a)) b = k.1 in
    let later : Every (λ s. x.key < s.key) b = subst (λ (z : Live). Every (λ s. z.key < s.key) b) (sym e) rb.0 in
    ap (λ (z : Live). z ∷ a) e ∙ ap (λ (l : List Live). y ∷ l) (rising-same a b ra.1 rb.1 (behind-it x a b ra.0 hb) (behind-it x b a later ka))
  where
    heads : (x ≡ y) ⊎ Has b x → (y ≡ x) ⊎ Has a y → x ≡ y
    heads (inl e) q = e
    heads (inr p) (inl e) = sym e
    heads (inr p) (inr q) = absurd (both (every-has b (λ s. y.key < s.key) x rb.0 p) (every-has a (λ s. x.key < s.key) y ra.0 q))
      where
        both : y.key < x.key → x.key < y.key → ⊥
        both p q = omega arith

-- ---- what is in a slot is told by the store and the table

told : (k : ℕ) (o p : Option Entry) → ((x : Entry) → o ≡ some x → x.live.slot ≡ k) → ((x : Entry) → p ≡ some x → x.live.slot ≡ k)
    → free_of o ≡ free_of p → key_of o ≡ key_of p → owner_of o ≡ owner_of p → sample_of o ≡ sample_of p → o ≡ p
told k none none a b f q w s = refl
told k none (some y) a b f q w s = absurd (omega arith)
told k (some x) none a b f q w s = absurd (omega arith)
told k (some x) (some y) a b f q w s = ap some (same x.at y.at x.live.key y.live.key x.live.slot y.live.slot x.live.sample y.live.sample w q (a x refl ∙ sym (b y refl)) s)
  where
    same : (a b c d e f : ℕ) (s t : Sample) → a ≡ b → c ≡ d → e ≡ f → s ≡ t
        → ◌≡◌ {A = Entry} (record { at = a; live = record { key = c; slot = e; sample = s } }) (record { at = b; live = record { key = d; slot = f; sample = t } })
    same a b c d e f s t p q r u = rw (p, q, r, u)

module _ (m n : Model) (g : Good m) (h : Good n) (store : store_of m ≡ store_of n) (table : table_of m ≡ table_of n) where
  past-none : (m : Model) → Good m → (k : ℕ) → 256 ≤ k → look_up k (entries_of m) ≡ none
  past-none m g k b = look_none k (entries_of m) (omega (arith, rw (le-ltb k 256 b) at (entry-slots m g k)))

  look-same : (k : ℕ) → look_up k (entries_of m) ≡ look_up k (entries_of n)
  look-same k = split (ltb k 256)
      (λ q. let b : k < 256 = ltb-true k 256 q in
      told k (look_up k (entries_of m)) (look_up k (entries_of n)) (look-slot k (entries_of m)) (look-slot k (entries_of n))
      (sym (free-at m g k b) ∙ ap (λ (s : Store). get_or s.free k 0) store ∙ free-at n h k b)
      (sym (key-at m g k b) ∙ ap (λ (s : Store). get_or s.keys k 0) store ∙ key-at n h k b)
      (sym (owner_at m g k b) ∙ ap (λ (s : Store). get_or s.owners k 0) store ∙ owner_at n h k b)
      (sym (record-at m g k b) ∙ ap (λ (t : List Sample). get_or t k empty_sample) table ∙ record-at n h k b))
      (λ q. past-none m g k (ltb-false k 256 q) ∙ sym (past-none n h k (ltb-false k 256 q)))

-- ---- the live samples at a place

module _ (m : Model) (g : Good m) (r : ℕ) (b : r < length m.instances) where
  abbrev at : List Live
  at = live_in (get_or m.instances r nobody).places

  parted : entries_of m ≡ before 0 r m.instances ++ (map (entry r) at ++ behind 0 r m.instances)
  parted = entries_at 0 r m.instances nobody nobody-live (omega arith) ∙ ap (λ (k : ℕ). before 0 r m.instances ++ (map (entry k) at ++ behind 0 r m.instances)) (zero-add r)

  -- each is found in its slot
  found : Every (λ s. look_up s.slot (entries_of m) ≡ some (entry r s)) at
  found = every_map (λ s. Placed (entries_of m) (entry r s)) (λ s. look_up s.slot (entries_of m) ≡ some (entry r s)) at (λ s p. p.1)
      (every-under (Placed (entries_of m)) (entry r) at (every-left (Placed (entries_of m)) (map (entry r) at) (behind 0 r m.instances)
      (every-right (Placed (entries_of m)) (before 0 r m.instances) (map (entry r) at ++ behind 0 r m.instances) (subst (λ (l : List Entry). Every (Placed (entries_of m)) l) parted (every-placed m g)))))

  -- whatever a slot holds of this place is one of them
  holds : Every (λ x. x.at ≡ r → Has at x.live) (entries_of m)
  holds = subst (λ (l : List Entry). Every Here l) (sym parted)
      (every_append Here (before 0 r m.instances) (map (entry r) at ++ behind 0 r m.instances)
      (every_map (λ x. x.at < 0 + r) Here (before 0 r m.instances) (λ x p q. absurd (omega arith)) (places-below 0 r m.instances))
      (every_append Here (map (entry r) at) (behind 0 r m.instances)
      (every-over Here (entry r) at (every_map (Has at) (λ s. r ≡ r → Has at s) at (λ s p q. p) (all-has at)))
      (every_map (λ x. suc (0 + r) ≤ x.at) Here (behind 0 r m.instances) (λ x p q. absurd (omega arith)) (places-from (suc (0 + r)) (drop (suc r) m.instances)))))
    where
      Here : Entry → Type 0
      Here x = x.at ≡ r → Has at x.live

  rising : Rising at
  rising = every-at InOrder m.instances r nobody g.orders b

-- ---- one content

-- what a caller can come to know of an instance
pub record Shown : Type 0 where
  pub name : ℕ
  pub meta : InstanceMetaData
  pub live : List Live

abbrev pub shown_of : Instance → Shown
shown_of i = record { name = i.name; meta = i.meta; live = live_in i.places }

abbrev no_shown : Shown
no_shown = record { name = 0; meta = no_inst.meta; live = [] }

module _ (m n : Model) (g : Good m) (h : Good n) (store : store_of m ≡ store_of n) (table : table_of m ≡ table_of n) where
  insts_same : insts m.keep m.instances ≡ insts n.keep n.instances
  insts_same = sym (insts-of m g) ∙ ap (λ (s : Store). s.insts) store ∙ insts-of n h

  as_many : length m.instances ≡ length n.instances
  as_many = sym (length-map m.instances (inst_of m.keep)) ∙ ap length insts_same ∙ length-map n.instances (inst_of n.keep)

  get-map : {A B : Type 0} (f : A → B) (xs : List A) (i : ℕ) (d : A) (b : B) → i < length xs → get_or (map f xs) i b ≡ f (get_or xs i d)
  get-map f [] i d b h = absurd (not-suc-le-zero h)
  get-map f (x ∷ xs) zero d b h = refl
  get-map f (x ∷ xs) (suc i) d b h = get-map f xs i d b (le_of_suc-le-suc h)

  module _ (r : ℕ) (b : r < length m.instances) where
    below : r < length n.instances
    below = omega (arith, as_many)

    i-m : Instance
    i-m = get_or m.instances r nobody

    i-n : Instance
    i-n = get_or n.instances r nobody

    inst_same : inst_of m.keep (get_or m.instances r nobody) ≡ inst_of n.keep (get_or n.instances r nobody)
    inst_same = sym (get-inst m.keep m.instances r no_inst nobody b) ∙ ap (λ (l : List Inst). get_or l r no_inst) insts_same ∙ get-inst n.keep n.instances r no_inst nobody below

    there : Every (Has (at n h r below)) (at m g r b)
    there = every_map (λ s. look_up s.slot (entries_of m) ≡ some (entry r s)) (Has (at n h r below)) (at m g r b)
        (λ s q. every-look (λ x. x.at ≡ r → Has (at n h r below) x.live) s.slot (entries_of n) (entry r s) (holds n h r below) (sym (look-same m n g h store table s.slot) ∙ q) refl) (found m g r b)

    back : Every (Has (at m g r b)) (at n h r below)
    back = every_map (λ s. look_up s.slot (entries_of n) ≡ some (entry r s)) (Has (at m g r b)) (at n h r below)
        (λ s q. every-look (λ x. x.at ≡ r → Has (at m g r b) x.live) s.slot (entries_of m) (entry r s) (holds m g r b) (look-same m n g h store table s.slot ∙ q) refl) (found n h r below)

    live_same : at m g r b ≡ at n h r below
    live_same = rising-same (at m g r b) (at n h r below) (rising m g r b) (rising n h r below) there back

    shown-same : shown_of (get_or m.instances r nobody) ≡ shown_of (get_or n.instances r nobody)
    shown-same = ap (λ (l : List Live). record { name = (get_or m.instances r nobody).name; meta = (get_or m.instances r nobody).meta; live = l }) live_same
        ∙ ap (λ (x : Inst). record { name = x.name; meta = x.meta; live = live_in (get_or n.instances r nobody).places }) inst_same

  pub keep_same : m.keep ≡ n.keep
  unfolding store_of
  keep_same = ap (λ (s : Store). s.keep) store

  pub room-same : m.room ≡ n.room
  unfolding store_of
  room-same = ap (λ (s : Store). s.room) store

  pub last-same : m.last ≡ n.last
  unfolding store_of
  last-same = ap (λ (s : Store). s.last) store

  -- the instances in order of arrival, each with its record and its live samples, oldest first
  pub one-content : map shown_of m.instances ≡ map shown_of n.instances
  one-content = ext_get_or no_shown (map shown_of m.instances) (map shown_of n.instances)
      (length-map m.instances shown_of ∙ as_many ∙ sym (length-map n.instances shown_of)) each
    where
      each : (r : ℕ) → r < length (map shown_of m.instances) → get_or (map shown_of m.instances) r no_shown ≡ get_or (map shown_of n.instances) r no_shown
      each r l =
          let b : r < length m.instances = omega (arith, length-map m.instances shown_of) in
          get-map shown_of m.instances r nobody no_shown b ∙ shown-same r b ∙ sym (get-map shown_of n.instances r nobody no_shown (omega (arith, as_many)))

-- ---- under a keep count the cells tell the places too, so that one model alone lies so in memory

abbrev place_for : Option Entry → Place
place_for none = gone
place_for (some e) = held e.live

places-from-cells : (es : List Entry) (r : ℕ) (ps : List Place) → look_up 256 es ≡ none → Every (λ s. look_up s.slot es ≡ some (entry r s)) (live_in ps)
    → map (λ c. place_for (look_up c es)) (map cell_of ps) ≡ ps
unfolding live_in Every
places-from-cells es r [] z h = refl
places-from-cells es r (gone ∷ ps) z h = rw (z, places-from-cells es r ps z h)
places-from-cells es r (held s ∷ ps) z h = rw (h.0, places-from-cells es r ps z h.1)

module _ (m n : Model) (g : Good m) (h : Good n) (store : store_of m ≡ store_of n) (table : table_of m ≡ table_of n) (d : ℕ) (kept : m.keep ≡ some d) where
  kept-too : n.keep ≡ some d
  kept-too = sym (keep_same m n g h store table) ∙ kept

  module _ (r : ℕ) (b : r < length m.instances) where
    there-too : r < length n.instances
    there-too = below m n g h store table r b

    places_of : (x : Model) (f : Good x) (l : r < length x.instances) → map (λ c. place_for (look_up c (entries_of x))) (map cell_of (get_or x.instances r nobody).places) ≡ (get_or x.instances r nobody).places
    places_of x f l = places-from-cells (entries_of x) r (get_or x.instances r nobody).places (past-none m n g h store table x f 256 (omega arith)) (found x f r l)

    cells_same : map cell_of (get_or m.instances r nobody).places ≡ map cell_of (get_or n.instances r nobody).places
    cells_same = sym (ap (λ (k : Option ℕ). cells_of k (get_or m.instances r nobody).places) kept) ∙ ap (λ (i : Inst). i.cells) (inst_same m n g h store table r b)
        ∙ ap (λ (k : Option ℕ). cells_of k (get_or n.instances r nobody).places) kept-too

    places_same : (get_or m.instances r nobody).places ≡ (get_or n.instances r nobody).places
    places_same = sym (places_of m g b)
        ∙ map-ext (λ c. place_for (look_up c (entries_of m))) (λ c. place_for (look_up c (entries_of n))) (λ c. ap place_for (look-same m n g h store table c)) (map cell_of (get_or m.instances r nobody).places)
        ∙ ap (map (λ c. place_for (look_up c (entries_of n)))) cells_same ∙ places_of n h there-too

    instance-same : get_or m.instances r nobody ≡ get_or n.instances r nobody
    instance-same = ap (λ (ps : List Place). record { name = (get_or m.instances r nobody).name; meta = (get_or m.instances r nobody).meta; places = ps }) places_same
        ∙ ap (λ (x : Inst). record { name = x.name; meta = x.meta; places = (get_or n.instances r nobody).places }) (inst_same m n g h store table r b)

  instances-same : m.instances ≡ n.instances
  instances-same = ext_get_or nobody m.instances n.instances (as_many m n g h store table) instance-same

  pub one-model : m ≡ n
  one-model = ap (λ (is : List Instance). record { keep = m.keep; room = m.room; last = m.last; instances = is }) instances-same
      ∙ ap (λ (k : Option ℕ). record { keep = k; room = m.room; last = m.last; instances = n.instances }) (keep_same m n g h store table)
      ∙ ap (λ (j : ℕ). record { keep = n.keep; room = j; last = m.last; instances = n.instances }) (room-same m n g h store table)
      ∙ ap (λ (l : Last). record { keep = n.keep; room = n.room; last = l; instances = n.instances }) (last-same m n g h store table)
