-- How a topic cache lies in its header and the lent words, and what each call answers and leaves there.
use Rattle.std.specs.Prelude.{Some, ◌≡◌, false, cond, ◌||◌, ◌↔◌, List, [], ℕ, ◌+◌, ◌-◌, ◌/◌, ◌%◌, ◌≤◌, ltb, leb, eqb, length}
use Rattle.std.proofs.Math.Option.{Option, some, none}
use Rattle.std.specs.declared.result.Result.{Result}
use Rattle.std.specs.declared.result.Result.TheVariants.{Ok, Err}
use Rattle.refusals.specs.declared.Refusal.{Refusal}
use Rattle.refusals.specs.declared.Refusal.TheVariants as refusal
use Rattle.refusals.specs.Numbers.{number_of}
use Rattle.keys.specs.Keys.{Last}
use Rattle.model.specs.Topic.{Topic, Entry, Limits, Change, Step, Answer, refused, ok, key, held_already, found, update, add, remove_before, range, step, places, limits_fit, raised, fresh, removal, collect_every, collected_for, adding}
use Rattle.sampleinfo.specs.Formed.{seq_fits}
use Rattle.changes.specs.Places.{Holds, Writer, Written, words_of, shown_in, entries_in}
use Rattle.changes.specs.declared.CacheChange.{CacheChange}
use Rattle.dds_cache.specs.declared.History.{History}
use Rattle.dds_cache.specs.declared.History.TheVariants.{KeepAll, KeepLast}
use Rattle.dds_cache.specs.declared.KeepLimits.{KeepLimits}
use Rattle.dds_cache.specs.declared.TopicCache.{TopicCache}
use Rattle.dds_cache.specs.declared.Added.{Added}
use Rattle.dds_cache.specs.declared.Added.TheVariants as added
use Rattle.dds_cache.specs.declared.Outcome.{Outcome}

-- ---- limits

abbrev pub depth_of : History → Option ℕ
depth_of KeepAll = none
depth_of (KeepLast d) = some d

abbrev pub limits_of : KeepLimits → Limits
limits_of l = record { depth = depth_of l.min_keep_samples; most = l.max_keep_samples }

-- limits as they are asked for
abbrev pub given : History → ℕ → Limits
given h most = record { depth = depth_of h; most = most }

-- the limits asked for, "raised to the depth if smaller", or none
unfoldable pub new_limits : Limits → Option Limits
new_limits l = cond (limits_fit l) (some (raised l)) none

abbrev pub limited_of : Result KeepLimits Refusal → Option Limits
limited_of (Ok l) = some (limits_of l)
limited_of (Err e) = none

-- ---- the header

pub record Head : Type 0 where
  pub limits : Limits
  pub last : Last
  pub held : ℕ

abbrev pub shown : TopicCache → Head
shown h = record { limits = limits_of h.limits; last = h.last_added_instant; held = h.held }

abbrev pub head_of : Topic → Head
head_of c = record { limits = c.limits; last = c.last; held = length c.entries }

-- the header and the words are those of the topic cache
pub record Tied (c : Topic) (h : TopicCache) (ws : List ℕ) : Type 0 where
  pub head : shown h ≡ head_of c
  pub words : ws ≡ words_of c.entries

-- what holds of a cache that only these calls have changed
pub record Fit (c : Topic) : Type 0 where
  pub few : length c.entries ≤ places
  pub most : c.limits.most ≤ 256
  pub writers : Written c.entries

-- the topic cache of a header and entries
abbrev pub topic_of : TopicCache → List Entry → Topic
topic_of h es = record { limits = limits_of h.limits; last = h.last_added_instant; entries = es }

-- ---- making one

abbrev pub created_of : Result TopicCache Refusal → Option Head
created_of (Ok h) = some (shown h)
created_of (Err e) = none

unfoldable pub made_of : Limits → Option Head
made_of l = cond (limits_fit l) (some (head_of (fresh l))) none

unfoldable pub cleared_if : Limits → List ℕ → List ℕ
cleared_if l ws = cond (limits_fit l) (words_of []) ws

-- ---- the paper's numbers, 0 for no refusal

-- refusal 2: "keep limits outside their bounds"
abbrev pub limits_number : Limits → ℕ
limits_number l = cond (limits_fit l) 0 2

abbrev pub limited_number : Result KeepLimits Refusal → ℕ
limited_number (Ok l) = 0
limited_number (Err e) = number_of e

abbrev pub created_number : Result TopicCache Refusal → ℕ
created_number (Ok h) = 0
created_number (Err e) = number_of e

abbrev pub update_of : Result TopicCache Refusal → Answer
update_of (Ok h) = ok
update_of (Err e) = refused (number_of e)

abbrev pub added_of : Added → Answer
added_of (added.Key k) = key k
added_of added.HeldAlready = held_already

abbrev pub outcome_of : Result Outcome Refusal → Answer
outcome_of (Ok o) = added_of o.answer
outcome_of (Err e) = refused (number_of e)

-- the entries found stand in the results
abbrev pub found_of : Result ℕ Refusal → List ℕ → Answer
found_of (Ok n) out = found (entries_in n 0 out)
found_of (Err e) out = refused (number_of e)

-- ---- the cache that the caller has after a call: a refusal hands out none, and the caller's stands

abbrev pub after_update : TopicCache → Result TopicCache Refusal → TopicCache
after_update h (Ok k) = k
after_update h (Err e) = h

abbrev pub after_add : TopicCache → Result Outcome Refusal → TopicCache
after_add h (Ok o) = o.cache
after_add h (Err e) = h

-- ---- what each call answers and leaves

abbrev pub change_of : ℕ → CacheChange → Change
change_of time x = record { time = time; writer = x.writer_guid; seq = x.sequence_number; handle = x.handle; size = x.payload_size }

pub record Limiting (l : Limits) (r : Result KeepLimits Refusal) : Type 0 where
  pub number : limited_number r ≡ limits_number l
  pub limits : limited_of r ≡ new_limits l

pub record Creating (l : Limits) (r : Result TopicCache Refusal) (ws after : List ℕ) : Type 0 where
  pub number : created_number r ≡ limits_number l
  pub head : created_of r ≡ made_of l
  pub words : after ≡ cleared_if l ws

pub record Raised (s : Step) (h : TopicCache) (r : Result TopicCache Refusal) : Type 0 where
  pub answer : update_of r ≡ s.answer
  pub head : shown (after_update h r) ≡ head_of s.then

pub record Came (s : Step) (h : TopicCache) (r : Result Outcome Refusal) (ws : List ℕ) : Type 0 where
  pub answer : outcome_of r ≡ s.answer
  pub tied : Tied s.then (after_add h r) ws

pub record Removed (s : Step) (r : TopicCache) (ws : List ℕ) : Type 0 where
  pub answer : ok ≡ s.answer
  pub tied : Tied s.then r ws

-- "Result places past the answer keep what they held."
abbrev pub results_of : Answer → List ℕ → List ℕ
results_of (found es) out = shown_in es out
results_of (refused n) out = out
results_of ok out = out
results_of (key k) out = out
results_of held_already out = out

pub record Shown (s : Step) (r : Result ℕ Refusal) (before after : List ℕ) : Type 0 where
  pub answer : found_of r after ≡ s.answer
  pub results : after ≡ results_of s.answer before

-- ---- the contracts: on any header and words what depends on the arguments alone, and on those of a topic cache what the model's step says

pub record Updates (l : Limits) (h : TopicCache) (r : Result TopicCache Refusal) : Type 0 where
  pub out-of-bounds : limits_fit l ≡ false → r ≡ Err refusal.OutOfBounds
  pub stepped : (c : Topic) → shown h ≡ head_of c → Raised (step c (update l)) h r

pub record Adds (time : ℕ) (x : CacheChange) (h : TopicCache) (ws : List ℕ) (r : Result Outcome Refusal) (after : List ℕ) : Type 0 where
  -- "writer 16 bytes", as its type has it: so what is held stays `Fit`
  pub writer : Writer x.writer_guid
  -- "sequence number out of range"
  pub by-1 : (outcome_of r ≡ refused 1) ↔ (seq_fits x.sequence_number ≡ false)
  -- "no key later than the last issued exists", and by no other number
  pub by-no-other : (n : ℕ) → outcome_of r ≡ refused n → (n ≡ 1 → ⊥) → n ≡ 6
  -- "Every refusal returns its number only; state and lent buffers stay as found."
  pub as-found : (n : ℕ) → outcome_of r ≡ refused n → (after_add h r ≡ h) × (after ≡ ws)
  pub stepped : (c : Topic) → Fit c → Tied c h ws → Came (step c (add (change_of time x))) h r after

pub record Removes (time : ℕ) (h : TopicCache) (ws : List ℕ) (r : TopicCache) (after : List ℕ) : Type 0 where
  -- a removal is never refused; limits and last key stay, and no more are held
  pub limits : r.limits ≡ h.limits
  pub last : r.last_added_instant ≡ h.last_added_instant
  pub fewer : r.held ≤ h.held
  pub stepped : (c : Topic) → Fit c → Tied c h ws → Removed (step c (remove_before time)) r after

pub record Ranges (start end : ℕ) (h : TopicCache) (ws : List ℕ) (r : Result ℕ Refusal) (out after : List ℕ) : Type 0 where
  -- "with start above end, nothing"
  pub nothing : end ≤ start → (found_of r after ≡ found []) × (after ≡ out)
  pub as-found : (n : ℕ) → found_of r after ≡ refused n → (n ≡ 9) × (after ≡ out)
  pub stepped : (c : Topic) → Fit c → Tied c h ws → Shown (step c (range start end (length out / 6))) r out after

-- ---- an add

-- how many entries the collection before an add drops, none without one
unfoldable pub drops_for : Limits → List Entry → ℕ → ℕ → ℕ
drops_for l es sn size = cond (eqb (sn % collect_every size) 0 || leb places (length es)) (removal l 0 es) 0

abbrev pub without : TopicCache → ℕ → TopicCache
without h n = record { limits = h.limits; last_added_instant = h.last_added_instant; held = h.held - n }

abbrev pub behind : ℕ → ℕ
behind at = cond (ltb at places) (at + 1) at

-- without its oldest n, and one more behind the last
abbrev pub inserted : TopicCache → ℕ → ℕ → TopicCache
inserted h n k = record { limits = h.limits; last_added_instant = Some k; held = behind (h.held - n) }

-- an add whose sequence number is in range
unfoldable pub Internal : TopicCache → List Entry → List ℕ → ℕ → CacheChange → Result Outcome Refusal → List ℕ → Type 0
Internal h es ws instant x r after =
    Holds es h.held ws → Written es → h.limits.max_keep_samples ≤ 256
    → Came (adding (topic_of h es) (collected_for (topic_of h es) (change_of instant x)) (change_of instant x)) h r after

-- past the test of the sequence number there is one refusal, and it leaves the header and the words, whatever they are
abbrev pub Refusing : TopicCache → List ℕ → Result Outcome Refusal → List ℕ → Type 0
Refusing h ws r after = (n : ℕ) → outcome_of r ≡ refused n → (n ≡ 6) × (after_add h r ≡ h) × (after ≡ ws)

pub record Inner (time : ℕ) (x : CacheChange) (h : TopicCache) (ws : List ℕ) (r : Result Outcome Refusal) (after : List ℕ) : Type 0 where
  pub refusing : Refusing h ws r after
  pub came : (es : List Entry) → Internal h es ws time x r after
