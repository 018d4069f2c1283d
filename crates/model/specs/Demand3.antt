-- Demand 3: statements alone, with document 01's words. `Demand3` at the end collects them: of the cache after any list of calls.
use Rattle.std.specs.Prelude.{Some, None, ◌≡◌, ◌↔◌, ◌⊎◌, Bool, true, false, cond, List, [], ◌∷◌, ◌++◌, map, ℕ, zero, suc, ◌+◌, ◌-◌, ◌*◌, ◌^◌, ◌≤◌, ◌<◌, min, length, eqb, pos, ◌-ℤ◌}
use Rattle.std.proofs.Math.Option.{Option, some, none}
use Rattle.sampleinfo.specs.States.{handle_of}
use Rattle.sampleinfo.specs.Counts.{total, accessed_at}
use Rattle.sampleinfo.specs.Lifecycle.{meta, state_of, counts_of, accessed_of, is_alive, is_reborn}
use Rattle.sampleinfo.specs.Samples.{sample_state_of, total_of}
use Rattle.sampleinfo.specs.declared.SampleState.TheVariants.{Read}
use Rattle.sampleinfo.specs.declared.ViewState.TheVariants.{New}
use Rattle.sampleinfo.specs.declared.InstanceState.TheVariants.{NotAliveNoWriters}
use Rattle.sampleinfo.specs.declared.Info.{Info}
use Rattle.readcondition.specs.Masks.{chosen_by, is_valid}
use Rattle.readcondition.specs.declared.ReadCondition.{ReadCondition}
use Rattle.keys.specs.Keys.{key_of, Later}
use Rattle.model.specs.Pairs.{Pair, among}
use Rattle.model.specs.Views.{view_of}
use Rattle.model.specs.Model.{Live, Instance, Model, SetUp, Arrival, Call, set_up, add, no_writers, choose, read_or_take, next_key, Answer, refused, ok, added, selected, infos, next}
use Rattle.model.specs.Model.{Step, step, fresh, find, live_in, lives, count, in_slot, well_formed, state_in, live_of, roomy, as_read}
use Rattle.model.specs.Bounds.{Bounds}
use Rattle.model.specs.Story.{Event, Entry, story_of, entries_of, untaken, last_of, live_at, all_keys, entry_keys, last_key, Rises, AtMost, Every}

-- ---- words
-- a stands in the list
abbrev pub In : {A : Type 0} → A → List A → Type 0
In a [] = ⊥
In a (b ∷ l) = (a ≡ b) ⊎ In a l

-- no pair stands in the list twice
abbrev pub Distinct : List Pair → Type 0
Distinct [] = Unit {0}
Distinct (p ∷ ps) = (¬ In p ps) × Distinct ps

-- s is the live sample that the pair names: of its instance, under its key
abbrev pub IsAt : Model → Pair → Live → Type 0
IsAt m p s = In s (live_at p.name m) × (s.key ≡ p.key)

abbrev pub LivePair : Model → Pair → Type 0
LivePair m p = (s : Live) × IsAt m p s

-- ---- setting up: "d at least 1 and i*d at most 256"; "Instances i: 1 to 32."
abbrev pub Bounded : Option ℕ → ℕ → Type 0
Bounded none i = (0 < i) × (i ≤ 32)
Bounded (some d) i = (0 < d) × (i * d ≤ 256) × (0 < i) × (i ≤ 32)

-- "An accepted set-up makes the cache fresh"; 2: "mode, set-up or keep limits outside their bounds". `Bounds u d` (Bounds.antt): u is within
-- them, and d is its keep count. `accepted` there says of the test `within`, which the theorems have as premise, and of `keep_of` that they are just this
pub record Sets (m : Model) (u : SetUp) (x : Step) : Type 0 where
  pub makes-fresh : (d : Option ℕ) → Bounds u d → x ≡ record { answer = ok; then = fresh d u.instances }
  pub by_2 : (x.answer ≡ refused 2) ↔ ((d : Option ℕ) → ¬ Bounds u d)
  pub by-no-other : (r : ℕ) → x.answer ≡ refused r → r ≡ 2

abbrev pub has_key : ℕ → Live → Bool
has_key k s = eqb s.key k

-- ---- why an add is refused
-- not 1: "kind not 1 or 2, sequence number out of range"; "sequence number 1 to 2^63-1"
pub record WellFormed (a : Arrival) : Type 0 where
  pub kind : (a.kind ≡ 1) ⊎ (a.kind ≡ 2)
  pub seq : (1 ≤ a.seq) × (a.seq < 2 ^ 63)

-- 6: "no key later than the last issued exists"
abbrev pub NoLaterKey : Model → Type 0
NoLaterKey m = (k : ℕ) → Later m.last k → 2 ^ 64 ≤ k

-- 4: "new instance, and i are held"
abbrev pub NoRoom : Model → Arrival → Type 0
NoRoom m a = (find a.name m.instances ≡ none) × (m.room ≤ length m.instances)

-- 7: "rebirth from total 2,147,483,647"
abbrev pub LastRebirth : Model → Arrival → Type 0
LastRebirth m a = (i : Instance) × (find a.name m.instances ≡ some i) × (is_reborn (state_of i.meta) (state_in a) ≡ true) × (2147483647 ≤ total (counts_of i.meta))

-- 5: "mode 3: all 256 slots hold live samples"
abbrev pub NoSlot : Model → Type 0
NoSlot m = (m.keep ≡ none) × (256 ≤ length (lives m.instances))

-- the answer to an add, refusal by refusal: 1 comes first; "for an add: 6, 4 or 7, 5"
pub record Exactly (m : Model) (a : Arrival) (x : Answer) : Type 0 where
  pub by-1 : (x ≡ refused 1) ↔ (well_formed a ≡ false)
  pub by-6 : (x ≡ refused 6) ↔ ((well_formed a ≡ true) × NoLaterKey m)
  pub by_4 : (x ≡ refused 4) ↔ ((well_formed a ≡ true) × (¬ NoLaterKey m) × NoRoom m a)
  pub by-7 : (x ≡ refused 7) ↔ ((well_formed a ≡ true) × (¬ NoLaterKey m) × LastRebirth m a)
  pub by-5 : (x ≡ refused 5) ↔ ((well_formed a ≡ true) × (¬ NoLaterKey m) × (¬ NoRoom m a) × (¬ LastRebirth m a) × NoSlot m)
  pub by-no-other : (r : ℕ) → x ≡ refused r → (r ≡ 1) ⊎ (r ≡ 6) ⊎ (r ≡ 4) ⊎ (r ≡ 7) ⊎ (r ≡ 5)

-- ---- an accepted add
-- s is one of the 256 slots, it is free, and every lower one is in use
pub record Lowest (s : ℕ) (ss : List Live) : Type 0 where
  pub is-slot : s < 256
  pub is_free : count (in_slot s) ss ≡ 0
  pub others : (j : ℕ) → j < s → 0 < count (in_slot j) ss

-- "the handle pushed out, if any": with none, nothing leaves; with one, it is that of the oldest live sample, which alone leaves
abbrev pub Pushes : List Live → Live → Option ℕ → List Live → Type 0
Pushes before new none now = now ≡ before ++ new ∷ []
Pushes before new (some h) now = (s : Live) × (rest : List Live) × (before ≡ s ∷ rest) × (now ≡ rest ++ new ∷ []) × (h ≡ handle_of s.sample.body)

pub record Adds (m : Model) (a : Arrival) (key slot : ℕ) (out : Option ℕ) (then : Model) : Type 0 where
  -- the key is document 01's, and is the last one issued from now on
  pub key-issued : key_of m.last a.time ≡ Some key
  pub key-last : then.last ≡ Some key
  -- "Room is made first, then the lowest free slot is used."
  pub slot-lowest : Lowest slot (lives (roomy m a))
  -- "Each sample keeps the counts as they stood after its own step."
  pub made : (i : Instance) × (find a.name then.instances ≡ some i) × Pushes (live_at a.name m) (live_of a i.meta key slot) out (live_in i.places)
  pub others-stay : (n : ℕ) → eqb a.name n ≡ false → find n then.instances ≡ find n m.instances

-- ---- the no-writers event: "turns Alive into NotAliveNoWriters and leaves a dead instance as it is. It makes no sample."
pub record Leaves (m : Model) (n : ℕ) (x : Step) : Type 0 where
  pub by-3 : (x.answer ≡ refused 3) ↔ (find n m.instances ≡ none)
  pub by-no-other : (r : ℕ) → x.answer ≡ refused r → r ≡ 3
  pub alive : (i : Instance) → find n m.instances ≡ some i → is_alive (state_of i.meta) ≡ true
      → find n x.then.instances ≡ some (record { name = n; meta = meta NotAliveNoWriters (counts_of i.meta) (accessed_of i.meta); places = i.places })
  pub dead-stays : (i : Instance) → find n m.instances ≡ some i → is_alive (state_of i.meta) ≡ false → x.then ≡ m
  pub others-stay : (k : ℕ) → eqb n k ≡ false → find k x.then.instances ≡ find k m.instances
  pub last-stays : x.then.last ≡ m.last

-- ---- choosing
abbrev pub InScope : Option ℕ → ℕ → Type 0
InScope none n = Unit {0}
InScope (some k) n = n ≡ k

-- "A sample is chosen if all three of its states are in the masks"
abbrev pub Chosen : Model → Option ℕ → ReadCondition → Pair → Type 0
Chosen m w c p =
    (i : Instance) × (s : Live) × (find p.name m.instances ≡ some i) × IsAt m p s × InScope w p.name
    × (chosen_by c (sample_state_of s.sample) (view_of (accessed_of i.meta) (total_of s.sample)) (state_of i.meta) ≡ true)

-- "Order: by sequence number, equal ones by key."
abbrev pub Precedes : Model → Pair → Pair → Type 0
Precedes m p q =
    (s t : Live) → IsAt m p s → IsAt m q t
    → (s.sample.sequence_number < t.sample.sequence_number) ⊎ ((s.sample.sequence_number ≡ t.sample.sequence_number) × (p.key < q.key))

abbrev pub Ordered : Model → List Pair → Type 0
Ordered m [] = Unit {0}
Ordered m (p ∷ ps) = Every (Precedes m p) ps × Ordered m ps

-- exactly the chosen ones, each once, in order
pub record Selection (m : Model) (w : Option ℕ) (c : ReadCondition) (ps : List Pair) : Type 0 where
  pub once : Distinct ps
  pub exact : (p : Pair) → In p ps ↔ Chosen m w c p
  pub in_order : Ordered m ps

-- 1 for a "mask beyond 3, 3, 7", 9 for a buffer "too short for the whole answer", else the selection; "Choosing changes nothing."
pub record Looks (m : Model) (w : Option ℕ) (c : ReadCondition) (room : ℕ) (x : Step) : Type 0 where
  pub unchanged : x.then ≡ m
  pub answers : (ps : List Pair) × Selection m w c ps
      × ((is_valid c ≡ false) → x.answer ≡ refused 1)
      × ((is_valid c ≡ true) → room < length ps → x.answer ≡ refused 9)
      × ((is_valid c ≡ true) → length ps ≤ room → x.answer ≡ selected ps)

-- "next_key gives the smallest held instance key above the given one, held or not."
pub record Nexts (m : Model) (n : ℕ) (x : Step) : Type 0 where
  pub unchanged : x.then ≡ m
  pub least : (k : ℕ) → (x.answer ≡ next (some k)) ↔ ((n < k) × (¬ (find k m.instances ≡ none)) × ((j : ℕ) → n < j → ¬ (find j m.instances ≡ none) → k ≤ j))
  pub none_above : (x.answer ≡ next none) ↔ ((j : ℕ) → n < j → find j m.instances ≡ none)

-- ---- reading and taking
-- every pair is live, and none stands twice
abbrev pub Sound : Model → List Pair → Type 0
Sound m ps = Every (LivePair m) ps × Distinct ps

-- the list names this live sample of instance n
abbrev pub names : List Pair → ℕ → Live → Bool
names ps n s = among (record { key = s.key; name = n }) ps

-- "Read marks samples Read": those that the list names, and no other
abbrev pub reads : List Pair → ℕ → List Live → List Live
reads ps n ss = map (λ (s : Live). cond (names ps n s) (as_read s) s) ss

-- "take removes them": those that the list names, and no other
unfoldable pub takes : List Pair → ℕ → List Live → List Live
takes ps n [] = []
takes ps n (s ∷ ss) = cond (names ps n s) (takes ps n ss) (s ∷ takes ps n ss)

abbrev pub remains : Bool → List Pair → ℕ → List Live → List Live
remains true ps n ss = takes ps n ss
remains false ps n ss = reads ps n ss

-- s has the greatest total of those that the list names
abbrev pub Greatest : List Pair → ℕ → List Live → Live → Type 0
Greatest ps n ss s = In s ss × (names ps n s ≡ true) × ((x : Live) → In x ss → names ps n x ≡ true → total_of x.sample ≤ total_of s.sample)

-- "each instance in the list gets as last accessed the greatest total that this list showed for it, even if that is lower than before"
abbrev pub Viewed : List Pair → ℕ → List Live → ℕ → ℕ → Type 0
Viewed ps n ss old new = (((s : Live) → In s ss → names ps n s ≡ false) × (new ≡ old)) ⊎ ((s : Live) × Greatest ps n ss s × (new ≡ accessed_at (total_of s.sample)))

-- what stands at a place of a list, the places counted from 0
abbrev pub AtPlace : {A : Type 0} → ℕ → List A → A → Type 0
AtPlace n [] a = ⊥
AtPlace zero (b ∷ l) a = a ≡ b
AtPlace (suc n) (b ∷ l) a = AtPlace n l a

-- "the latest-keyed live sample of the whole cache": it is live, and no live sample has a later key
abbrev pub Latest : Model → Live → Type 0
Latest m s = ((n : ℕ) × In s (live_at n m)) × ((n : ℕ) (x : Live) → In x (live_at n m) → x.key ≤ s.key)

-- the info x of the pair p at a place of the list ps, "with everything as before the call"
pub record Shows (m : Model) (ps : List Pair) (place : ℕ) (p : Pair) (x : Info) : Type 0 where
  -- the sample that the pair names, and its instance
  pub live : Live
  pub instance : Instance
  pub is_live : IsAt m p live
  pub is_held : find p.name m.instances ≡ some instance
  -- of the sample: handle and kind, whether it was read, its own counts, its writer and sequence number
  pub body : x.body ≡ live.sample.body
  pub sample-state : (x.sample_state ≡ Read) ↔ (live.sample.sample_has_been_read ≡ true)
  pub counts : x.generation_counts ≡ live.sample.generation_counts
  pub writer : x.publication_handle ≡ live.sample.writer_guid
  pub sequence-number : x.sequence_number ≡ live.sample.sequence_number
  -- of its instance: "A sample is New if its total is greater than its instance's last accessed total", which is kept with 2 added
  pub view-state : (x.view_state ≡ New) ↔ (accessed_of instance.meta < accessed_at (total_of live.sample))
  pub instance-state : x.instance_state ≡ state_of instance.meta
  -- "For place p of m: sample_rank is m-1-p"
  pub sample-rank : x.sample_rank ≡ length ps - 1 - place
  -- "generation_rank is the latest total of the last pair's instance minus the sample's total"
  pub generation-rank : (q : Pair) × (i : Instance) × AtPlace (length ps - 1) ps q × (find q.name m.instances ≡ some i)
      × (x.generation_rank ≡ pos (total (counts_of i.meta)) -ℤ pos (total_of live.sample))
  -- "absolute_generation_rank is the total of the latest-keyed live sample of the whole cache minus the sample's"
  pub absolute-rank : (s : Live) × Latest m s × (x.absolute_generation_rank ≡ pos (total_of s.sample) -ℤ pos (total_of live.sample))

-- 8: "key list names a pair not live, or a pair twice"; then 9
pub record Lists (m : Model) (t : Bool) (ps : List Pair) (room : ℕ) (x : Step) : Type 0 where
  pub by_8 : (x.answer ≡ refused 8) ↔ (¬ Sound m ps)
  pub by-9 : (x.answer ≡ refused 9) ↔ (Sound m ps × (room < length ps))
  pub by-no-other : (r : ℕ) → x.answer ≡ refused r → (r ≡ 8) ⊎ (r ≡ 9)
  -- else as many infos as pairs, each that of its pair
  pub answers : Sound m ps → length ps ≤ room → (is : List Info) × (x.answer ≡ infos is)
  pub as_many : (is : List Info) → x.answer ≡ infos is → length is ≡ length ps
  pub shows : (is : List Info) → x.answer ≡ infos is → (place : ℕ) (p : Pair) (y : Info) → AtPlace place ps p → AtPlace place is y → Shows m ps place p y
  pub exactly-those : Sound m ps → length ps ≤ room → (n : ℕ) → live_at n x.then ≡ remains t ps n (live_at n m)
  pub last-accessed : Sound m ps → length ps ≤ room → (n : ℕ) (i j : Instance) → find n m.instances ≡ some i → find n x.then.instances ≡ some j
      → Viewed ps n (live_in i.places) (accessed_of i.meta) (accessed_of j.meta)
  pub lives-on : (n : ℕ) (i j : Instance) → find n m.instances ≡ some i → find n x.then.instances ≡ some j
      → (state_of j.meta ≡ state_of i.meta) × (counts_of j.meta ≡ counts_of i.meta)
  pub others-stay : (n : ℕ) → ((p : Pair) → In p ps → eqb p.name n ≡ false) → find n x.then.instances ≡ find n m.instances
  pub last-stays : x.then.last ≡ m.last

-- ---- instances
unfoldable pub times_held : ℕ → List Instance → ℕ
times_held n [] = 0
times_held n (i ∷ is) = cond (eqb i.name n) 1 0 + times_held n is

-- ---- after any calls: the cache as it is now, and the calls and answers so far, from a set-up with keep count d
pub record Demand3 (d : Option ℕ) (now : Model) (seen : List Event) : Type 0 where
  -- (a) the live samples of each instance are the last min(k, n) of its n accepted ones, less those taken, in order of acceptance
  pub held : (k : ℕ) → now.keep ≡ some k → (n : ℕ) → live_at n now ≡ untaken (last_of k (entries_of d n seen))
  pub last-k : (k : ℕ) (es : List Entry) → length (last_of k es) ≡ min k (length es)
  pub held_all : now.keep ≡ none → (n : ℕ) → live_at n now ≡ untaken (entries_of d n seen)
  pub keep-told : (n : ℕ) → now.keep ≡ (story_of d n seen).keep
  pub bounds : Bounded now.keep now.room
  -- (b) keys rise strictly over the whole cache; "The last key survives takes."
  pub keys : Rises None (all_keys seen)
  pub own_keys : (n : ℕ) → Rises None (entry_keys (entries_of d n seen))
  pub last-key : now.last ≡ last_key None (all_keys seen)
  pub live-keys : (n : ℕ) → Every (λ s. AtMost now.last s.key) (live_at n now)
  -- (c) an add is refused exactly as demanded, under a keep count never with 5
  pub well-formed : (a : Arrival) → (well_formed a ≡ true) ↔ WellFormed a
  pub exactly : (a : Arrival) → a.time < 2 ^ 64 → Exactly now a (step now (add a)).answer
  pub refused-iff : (k : ℕ) → now.keep ≡ some k → (a : Arrival) → well_formed a ≡ true → a.time < 2 ^ 64
      → ((r : ℕ) × ((step now (add a)).answer ≡ refused r)) ↔ (NoLaterKey now ⊎ NoRoom now a ⊎ LastRebirth now a)
  pub never-5 : (k : ℕ) → now.keep ≡ some k → (a : Arrival) → ¬ ((step now (add a)).answer ≡ refused 5)
  -- (d) a refused call changes nothing
  pub unchanged : (c : Call) (r : ℕ) → (step now c).answer ≡ refused r → (step now c).then ≡ now
  -- instances: each held once, at most as many as set up, and those held are those that a sample was accepted for
  pub once : (n : ℕ) → times_held n now.instances ≤ 1
  pub within-room : length now.instances ≤ now.room
  pub known : (n : ℕ) → (find n now.instances ≡ none) ↔ ((story_of d n seen).story ≡ none)
  -- (e) live samples: one to a slot and one to a key, slots below 256, at most i*d of them, and never more than 256
  pub one-to-a-slot : (j : ℕ) → count (in_slot j) (lives now.instances) ≤ 1
  pub slots-below-256 : (j : ℕ) → 256 ≤ j → count (in_slot j) (lives now.instances) ≡ 0
  pub one-to-a-key : (k : ℕ) → count (has_key k) (lives now.instances) ≤ 1
  pub at_most : (k : ℕ) → now.keep ≡ some k → length (lives now.instances) ≤ now.room * k
  pub at-most-256 : length (lives now.instances) ≤ 256
  pub adds : (a : Arrival) (key slot : ℕ) (out : Option ℕ) → (step now (add a)).answer ≡ added key slot out → Adds now a key slot out (step now (add a)).then
  -- the no-writers event
  pub leaves : (n : ℕ) → Leaves now n (step now (no_writers n))
  -- (f) choosing, and next_key
  pub looks : (w : Option ℕ) (c : ReadCondition) (room : ℕ) → Looks now w c room (step now (choose w c room))
  pub unknown-empty : (n : ℕ) (c : ReadCondition) (room : ℕ) → is_valid c ≡ true → find n now.instances ≡ none → (step now (choose (some n) c room)).answer ≡ selected []
  pub nexts : (n : ℕ) → Nexts now n (step now (next_key n))
  -- (g) reading and taking
  pub lists : (t : Bool) (ps : List Pair) (room : ℕ) → Lists now t ps room (step now (read_or_take t ps room))
  -- a list names a sample where the pair of its key and its instance stands in it: by key alone is not enough
  pub names-is : (p : Pair) (ps : List Pair) → (among p ps ≡ true) ↔ In p ps
  -- (h) setting up
  pub sets : (u : SetUp) → Sets now u (step now (set_up u))
