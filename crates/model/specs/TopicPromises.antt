-- What the topic cache promises of any list of calls: statements alone, with document 01's words. `TopicPromises` at the end collects them.
use Rattle.std.specs.Prelude.{Some, ◌≡◌, ◌↔◌, ◌⊎◌, Bool, true, false, ◌&&◌, cond, List, [], ◌∷◌, ◌++◌, map, ℕ, ◌+◌, ◌-◌, ◌*◌, ◌^◌, ◌≤◌, ◌<◌, max, min, length, drop, eqb}
use Rattle.std.proofs.Math.Option.{Option, some, none}
use Rattle.keys.specs.Keys.{key_of, Later}
use Rattle.model.specs.Topic.{Entry, Limits, Topic, Change, Call, update, add, remove_before, range}
use Rattle.model.specs.Topic.{Answer, refused, ok, key, held_already, found, Step, step, fresh, places, limits_fit, defaults}
use Rattle.model.specs.Topic.{same_bytes, holds_pair, entry_of, count_below, removed_before, collected, within}

-- ---- words

-- the cache after a list of calls
unfoldable pub run : Topic → List Call → Topic
run c [] = c
run c (x ∷ xs) = run (step c x).then xs

-- the keys that a list of calls was answered, in order
abbrev pub key_in : Answer → List ℕ
key_in (key k) = k ∷ []
key_in (refused n) = []
key_in ok = []
key_in held_already = []
key_in (found es) = []

unfoldable pub issued_by : Topic → List Call → List ℕ
issued_by c [] = []
issued_by c (x ∷ xs) = key_in (step c x).answer ++ issued_by (step c x).then xs

-- each number is greater than the one before it, the first than k
abbrev pub Rises : ℕ → List ℕ → Type 0
Rises k [] = Unit {0}
Rises k (n ∷ ns) = (k < n) × Rises n ns

abbrev pub key_of_entry : Entry → ℕ
key_of_entry e = e.key

abbrev pub keys_of : List Entry → List ℕ
keys_of es = map key_of_entry es

-- how often a pair of writer and sequence number is held
abbrev pub is_pair : List ℕ → ℕ → Entry → Bool
is_pair w s e = eqb e.seq s && same_bytes e.writer w

unfoldable pub times : List ℕ → ℕ → List Entry → ℕ
times w s [] = 0
times w s (e ∷ es) = cond (is_pair w s e) 1 0 + times w s es

-- "KeepAll stands above every depth": the first is at least the second
abbrev pub AtLeast : Option ℕ → Option ℕ → Type 0
AtLeast none e = Unit {0}
AtLeast (some d) none = ⊥
AtLeast (some d) (some e) = e ≤ d

pub record Higher (l k : Limits) : Type 0 where
  pub depth : AtLeast l.depth k.depth
  pub most : k.most ≤ l.most

-- "Limits: KeepAll, or KeepLast depth 1 to 256; max_samples 1 to 256"
pub record LimitBounds (l : Limits) : Type 0 where
  pub most : (1 ≤ l.most) × (l.most ≤ 256)
  pub depth : (d : ℕ) → l.depth ≡ some d → (1 ≤ d) × (d ≤ 256)

-- what is kept of limits l: max_samples, "raised to the depth if smaller"; KeepAll has no depth, and raises nothing
pub record Raised (l kept : Limits) : Type 0 where
  pub depth : kept.depth ≡ l.depth
  pub smaller : (d : ℕ) → l.depth ≡ some d → l.most < d → kept.most ≡ d
  pub not-smaller : (d : ℕ) → l.depth ≡ some d → d ≤ l.most → kept.most ≡ l.most
  pub keep_all : l.depth ≡ none → kept.most ≡ l.most

-- "An update only raises": of the depths the greater one, and of max_samples
pub record Greater (old new l : Limits) : Type 0 where
  pub than-old : Higher l old
  pub than-new : Higher l new
  pub depth : (l.depth ≡ old.depth) ⊎ (l.depth ≡ new.depth)
  pub most : (l.most ≡ old.most) ⊎ (l.most ≡ new.most)

-- what an accepted add puts behind the last
abbrev pub new_in : Call → Answer → List Entry
new_in (add x) (key k) = entry_of x k ∷ []
new_in (add x) (refused n) = []
new_in (add x) ok = []
new_in (add x) held_already = []
new_in (add x) (found es) = []
new_in (update l) a = []
new_in (remove_before t) a = []
new_in (range s t room) a = []

-- what stands after a call is what stood before, without the oldest n, and then what is new
pub record FromTheOldest (c : Topic) (x : Call) (y : Step) : Type 0 where
  pub n : ℕ
  pub rest : y.then.entries ≡ drop n c.entries ++ new_in x y.answer

-- 6: "no key later than the last issued exists"
abbrev pub NoLaterKey : Topic → Type 0
NoLaterKey c = (k : ℕ) → k < 2 ^ 64 → Later c.last k → ⊥

-- not 1: "sequence number 1 to 2^63-1"
abbrev pub InRange : ℕ → Type 0
InRange s = (1 ≤ s) × (s < 2 ^ 63)

abbrev pub MultipleOf : ℕ → ℕ → Type 0
MultipleOf k n = (j : ℕ) × (n ≡ k * j)

-- when an add collects: "if the sequence number is
pub data Collects (c : Topic) (x : Change) : Type 0 where
  -- a multiple of 64 (payload up to 1,024 bytes)
  small : x.size ≤ 1024 → MultipleOf 64 x.seq → Collects c x
  -- or of 8 (up to 65,536),
  medium : 1024 < x.size → x.size ≤ 65536 → MultipleOf 8 x.seq → Collects c x
  -- always above that,
  large : 65536 < x.size → Collects c x
  -- and, added here, whenever the table is full"
  full : places ≤ length c.entries → Collects c x

-- what the add then works on: "An add first collects if .."
pub data First (c : Topic) (x : Change) : Topic → Type 0 where
  collecting : Collects c x → First c x (collected c)
  as-it-is : ¬ Collects c x → First c x c

abbrev pub held_in : Topic → Change → Bool
held_in c x = holds_pair x.writer x.seq c.entries

-- the answer to an add, of the cache `first` that it works on: 1 comes first; "Topic add: the held test, 6."
pub record AddAnswers (c first : Topic) (x : Change) (y : Step) : Type 0 where
  pub by-1 : (y.answer ≡ refused 1) ↔ (¬ InRange x.seq)
  -- "A held pair of writer and sequence number is then answered "held already"; the collection stands."
  pub again : (y.answer ≡ held_already) ↔ (InRange x.seq × (held_in first x ≡ true))
  pub stands : y.answer ≡ held_already → y.then ≡ first
  pub by-6 : (y.answer ≡ refused 6) ↔ (InRange x.seq × (held_in first x ≡ false) × NoLaterKey c)
  pub by-no-other : (n : ℕ) → y.answer ≡ refused n → (n ≡ 1 → ⊥) → n ≡ 6
  -- "Else the key rule above .., and the key is the answer"; the entry stands last
  pub accepted : (k : ℕ) → y.answer ≡ key k
      → (key_of c.last x.time ≡ Some k) × (y.then ≡ record { limits = c.limits; last = Some k; entries = first.entries ++ entry_of x k ∷ [] })

-- the answer to an update, and what it makes of the limits
pub record UpdateAnswers (c : Topic) (l : Limits) (y : Step) : Type 0 where
  pub by_2 : (y.answer ≡ refused 2) ↔ (¬ LimitBounds l)
  pub raises : LimitBounds l → (new then : Limits) × Raised l new × Greater c.limits new then
      × (y ≡ record { answer = ok; then = record { limits = then; last = c.last; entries = c.entries } })

-- the answer to a range
pub record RangeAnswers (c : Topic) (s t room : ℕ) (a : Answer) : Type 0 where
  pub by-9 : (a ≡ refused 9) ↔ (room < length (within s t c.entries))
  pub finds : length (within s t c.entries) ≤ room → a ≡ found (within s t c.entries)

-- how many a removal before t leaves: no more than max_samples; with a depth, that many are kept, and past it none below t; with KeepAll, no more go
-- than must
pub record Leaves (c : Topic) (t : ℕ) (left : ℕ) : Type 0 where
  pub within-most : left ≤ c.limits.most
  pub keeps-depth : (d : ℕ) → c.limits.depth ≡ some d → d ≤ c.limits.most → min d (length c.entries) ≤ left
  pub drops-old : (d : ℕ) → c.limits.depth ≡ some d → left ≤ max d (length c.entries - count_below t c.entries)
  pub keeps-all : c.limits.depth ≡ none → left ≡ min c.limits.most (length c.entries)
  pub keeps-late : min c.limits.most (length c.entries - count_below t c.entries) ≤ left

-- ---- the promises

pub record TopicPromises : Type 0 where
  -- "the key rule above, starting from last key 0": each key is greater than all before it, taken or not
  pub keys-rise : (l : Limits) (xs : List Call) → Rises 0 (issued_by (fresh l) xs)
  -- so the order of acceptance is "key order"
  pub in-key-order : (l : Limits) (xs : List Call) → Rises 0 (keys_of (run (fresh l) xs).entries)
  pub range-in-key-order : (l : Limits) (xs : List Call) (s t : ℕ) → Rises 0 (keys_of (within s t (run (fresh l) xs).entries))
  pub held-once : (l : Limits) (xs : List Call) (w : List ℕ) (s : ℕ) → times w s (run (fresh l) xs).entries ≤ 1
  -- "384 places"
  pub few : (l : Limits) (xs : List Call) → limits_fit l ≡ true → length (run (fresh l) xs).entries ≤ places
  -- "drops, from the oldest"
  pub from-the-oldest : (c : Topic) (x : Call) → FromTheOldest c x (step c x)
  pub leaves : (c : Topic) (t : ℕ) → Leaves c t (length (removed_before t c).entries)
  -- "Limits: KeepAll, or KeepLast depth 1 to 256; max_samples 1 to 256, raised to the depth if smaller; defaults depth 1 and 64."
  pub limits-fit : (l : Limits) → (limits_fit l ≡ true) ↔ LimitBounds l
  pub limits-raised : (l : Limits) → Raised l (fresh l).limits
  pub limits-default : ((fresh defaults).limits.depth ≡ some 1) × ((fresh defaults).limits.most ≡ 64)
  -- "An update only raises"
  pub limits-rise : (c : Topic) (xs : List Call) → Higher (run c xs).limits c.limits
  -- "whenever the table is full": then the collection leaves room
  pub room : (l : Limits) (xs : List Call) → limits_fit l ≡ true → length (collected (run (fresh l) xs)).entries ≤ 256
  -- "Every refusal returns its number only; state and lent buffers stay as found."
  pub refused-changes-nothing : (c : Topic) (x : Call) (n : ℕ) → (step c x).answer ≡ refused n → (step c x).then ≡ c
  pub add-first : (c : Topic) (x : Change) → (first : Topic) × First c x first
  pub add-answers : (c first : Topic) (x : Change) → First c x first → x.time < 2 ^ 64 → AddAnswers c first x (step c (add x))
  pub update-answers : (c : Topic) (l : Limits) → UpdateAnswers c l (step c (update l))
  pub range-answers : (c : Topic) (s t room : ℕ) → RangeAnswers c s t room (step c (range s t room)).answer
  -- "with start above end, nothing"
  pub start-above-end : (s t : ℕ) (es : List Entry) → t < s → within s t es ≡ []
