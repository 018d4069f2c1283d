-- An instance's story: what the caller saw of it, call by call, with no look into the cache.
use Rattle.std.specs.Prelude.{Some, None, Bool, true, false, ◌&&◌, cond, List, [], ◌∷◌, ◌++◌, map, ℕ, ◌-◌, ◌≤◌, length, drop, eqb}
use Rattle.std.proofs.Math.Option.{Option, some, none}
use Rattle.sampleinfo.specs.Lifecycle.{new_instance, becomes, no_writers_of}
use Rattle.sampleinfo.specs.declared.InstanceState.{InstanceState}
use Rattle.sampleinfo.specs.declared.InstanceMetaData.{InstanceMetaData}
use Rattle.keys.specs.Keys.{Last, Later}
use Rattle.model.specs.Pairs.{Pair}
use Rattle.model.specs.Model.{Live, Instance, Model, Arrival, Call, set_up, add, no_writers, choose, read_or_take, next_key, Answer, refused, ok, added, selected, infos, next, keep_of, find, live_in, state_in, live_of, as_read, listed_in, accessed, step}

-- ---- the calls and what was answered
pub record Event : Type 0 where
  pub call : Call
  pub answer : Answer

-- the cache after the calls
unfoldable pub run : Model → List Call → Model
run m [] = m
run m (c ∷ cs) = run (step m c).then cs

unfoldable pub trace : Model → List Call → List Event
trace m [] = []
trace m (c ∷ cs) = record { call = c; answer = (step m c).answer } ∷ trace (step m c).then cs

abbrev pub accepted : Answer → Bool
accepted (refused n) = false
accepted ok = true
accepted (added k s o) = true
accepted (selected ps) = true
accepted (infos is) = true
accepted (next o) = true

abbrev pub key_given : Answer → ℕ
key_given (refused n) = 0
key_given ok = 0
key_given (added k s o) = k
key_given (selected ps) = 0
key_given (infos is) = 0
key_given (next o) = 0

abbrev pub slot_given : Answer → ℕ
slot_given (refused n) = 0
slot_given ok = 0
slot_given (added k s o) = s
slot_given (selected ps) = 0
slot_given (infos is) = 0
slot_given (next o) = 0

-- ---- the story
-- an accepted sample, and whether it was taken
pub record Entry : Type 0 where
  pub sample : Live
  pub taken : Bool

-- the record of an instance's life, and its accepted samples, oldest first
pub record Story : Type 0 where
  pub meta : InstanceMetaData
  pub entries : List Entry

abbrev pub last_of {ℓ} : {A : Type ℓ} → ℕ → List A → List A
last_of d l = drop (length l - d) l

unfoldable pub untaken : List Entry → List Live
untaken [] = []
untaken (e ∷ es) = cond e.taken (untaken es) (e.sample ∷ untaken es)

-- with no keep count, all of them
abbrev pub last_by {ℓ} : {A : Type ℓ} → Option ℕ → List A → List A
last_by none l = l
last_by (some d) l = last_of d l

-- "among the last d accepted of its instance (mode 3: any of them) and not taken"
abbrev pub holds : Option ℕ → List Entry → List Live
holds d es = untaken (last_by d es)

abbrev pub or_new : InstanceState → Option Story → Story
or_new l none = record { meta = new_instance l; entries = [] }
or_new l (some s) = s

abbrev pub map_o {ℓ κ} : {A : Type ℓ} {B : Type κ} → (A → B) → Option A → Option B
map_o f none = none
map_o f (some a) = some (f a)

abbrev pub came : Arrival → ℕ → ℕ → Story → Story
came a key slot s =
    let i : InstanceMetaData = becomes s.meta (state_in a) in
    record { meta = i; entries = s.entries ++ record { sample = live_of a i key slot; taken = false } ∷ [] }

abbrev pub bereft : Story → Story
bereft s = record { meta = no_writers_of s.meta; entries = s.entries }

abbrev pub mark_entry : Bool → Entry → Entry
mark_entry true e = record { sample = e.sample; taken = true }
mark_entry false e = record { sample = as_read e.sample; taken = e.taken }

abbrev pub touch_entry : Bool → ℕ → List Pair → Entry → Entry
touch_entry t n ps e = cond (listed_in n ps e.sample) (mark_entry t e) e

abbrev pub noted : Option ℕ → ℕ → Bool → List Pair → Story → Story
noted d n t ps s = record { meta = accessed n ps (holds d s.entries) s.meta; entries = map (touch_entry t n ps) s.entries }

-- the keep count, one call further: that of the last accepted set-up
abbrev pub keep_after : Option ℕ → Call → Answer → Option ℕ
keep_after d (set_up u) r = cond (accepted r) (keep_of u) d
keep_after d (add a) r = d
keep_after d (no_writers k) r = d
keep_after d (choose w k room) r = d
keep_after d (read_or_take t ps room) r = d
keep_after d (next_key k) r = d

-- instance n's story under keep count d, one call further; none before its first accepted sample, nor after a set-up:
-- "accepted samples, keys issued and instances held are counted from the last one"
unfoldable pub tell : Option ℕ → ℕ → Option Story → Call → Answer → Option Story
tell d n s (set_up u) r = cond (accepted r) none s
tell d n s (add a) r = cond (accepted r && eqb a.name n) (some (came a (key_given r) (slot_given r) (or_new (state_in a) s))) s
tell d n s (no_writers k) r = cond (accepted r && eqb k n) (map_o bereft s) s
tell d n s (choose w k room) r = s
tell d n s (read_or_take t ps room) r = cond (accepted r) (map_o (noted d n t ps) s) s
tell d n s (next_key k) r = s

-- the present keep count, and the story
pub record Told : Type 0 where
  pub keep : Option ℕ
  pub story : Option Story

unfoldable pub tell_all : Option ℕ → ℕ → Option Story → List Event → Told
tell_all d n s [] = record { keep = d; story = s }
tell_all d n s (e ∷ es) = tell_all (keep_after d e.call e.answer) n (tell d n s e.call e.answer) es

-- of a cache set up with keep count d
abbrev pub story_of : Option ℕ → ℕ → List Event → Told
story_of d n es = tell_all d n none es

abbrev pub entries_in : Option Story → List Entry
entries_in none = []
entries_in (some s) = s.entries

-- the accepted samples of instance n, in order of acceptance
abbrev pub entries_of : Option ℕ → ℕ → List Event → List Entry
entries_of d n es = entries_in (story_of d n es).story

-- the live samples of an instance
abbrev pub lives_of : Option Instance → List Live
lives_of none = []
lives_of (some i) = live_in i.places

abbrev pub live_at : ℕ → Model → List Live
live_at n m = lives_of (find n m.instances)

-- ---- the keys issued since the last accepted set-up, in order of acceptance: to the instances whose names pass a test
abbrev pub issued_to : (ℕ → Bool) → List ℕ → Call → Answer → List ℕ
issued_to p ks (set_up u) r = cond (accepted r) [] ks
issued_to p ks (add a) r = cond (accepted r && p a.name) (ks ++ key_given r ∷ []) ks
issued_to p ks (no_writers k) r = ks
issued_to p ks (choose w k room) r = ks
issued_to p ks (read_or_take t ps room) r = ks
issued_to p ks (next_key k) r = ks

unfoldable pub keys_from : (ℕ → Bool) → List ℕ → List Event → List ℕ
keys_from p ks [] = ks
keys_from p ks (e ∷ es) = keys_from p (issued_to p ks e.call e.answer) es

abbrev pub all_keys : List Event → List ℕ
all_keys es = keys_from (λ n. true) [] es

abbrev pub entry_keys : List Entry → List ℕ
entry_keys es = map (λ (e : Entry). e.sample.key) es

-- each key is later than the one before it
abbrev pub Rises : Last → List ℕ → Type 0
Rises o [] = Unit {0}
Rises o (k ∷ ks) = Later o k × Rises (Some k) ks

-- the last of some keys, or o if there is none
abbrev pub last_key : Last → List ℕ → Last
last_key o [] = o
last_key o (k ∷ ks) = last_key (Some k) ks

abbrev pub AtMost : Last → ℕ → Type 0
AtMost None k = ⊥
AtMost (Some l) k = k ≤ l

abbrev pub Every {ℓ} : {A : Type ℓ} → (A → Type 0) → List A → Type 0
Every P [] = Unit {0}
Every P (a ∷ l) = P a × Every P l
