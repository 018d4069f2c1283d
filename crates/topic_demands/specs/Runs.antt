-- Said of the topic cache's code: after an accepted `new`, any calls, each on what the one before left, answer as the model does and leave the model's memory.
--
-- `Begun` and `Called` have a constructor for each public function, with what a caller learns from the function's own contract (`Learnt`, which the checker
-- made of the source). The theorems stand in proofs/Runs.antt: a contract that says something else is refused there.
use Rattle.std.specs.Prelude.{◌≡◌, true, List, [], ◌∷◌, ◌++◌, ℕ, ◌/◌, ◌≤◌, length}
use contract.Lifetimes.{Lfts}
use Rattle.std.specs.Borrow.{Bor, MutBor}
use Rattle.model.specs.Topic.{Topic, Entry, Limits, Call, update, add, remove_before, range, Answer, ok, Step, places, limits_fit, raised, fresh, step}
use Rattle.model.specs.TopicPromises.{run, key_in, Rises, keys_of, times, Higher, TopicPromises}
use Rattle.changes.specs.Places.{entries_in}
use Rattle.changes.specs.declared.CacheChange.{CacheChange}
use Rattle.dds_cache.specs.Header.{given, limits_of, Tied, Fit, update_of, outcome_of, found_of, after_update, after_add, change_of, Shown}
use Rattle.dds_cache.specs.declared.History.{History}
use Rattle.dds_cache.specs.declared.TopicCache.{TopicCache}
use Rattle.std.specs.declared.result.Result.{Result}
use Rattle.std.specs.declared.result.Result.TheVariants.{Ok}
use Rattle.refusals.specs.declared.Refusal.{Refusal}
use Rattle.dds_cache.specs.declared.Outcome.{Outcome}
use Rattle.dds_cache.proofs.TopicCache.new.Reads as of-new
use Rattle.dds_cache.proofs.TopicCache.update_keep_limits.Reads as of-update
use Rattle.dds_cache.proofs.TopicCache.add_change.Reads as of-add
use Rattle.dds_cache.proofs.TopicCache.remove_changes_before.Reads as of-remove
use Rattle.dds_cache.proofs.TopicCache.get_changes_in_range_best_effort.Reads as of_range

-- ---- words

-- what the caller holds between two calls: the header and the lent words
pub record Memory : Type 0 where
  pub head : TopicCache
  pub words : List ℕ

abbrev pub holding : TopicCache → List ℕ → Memory
holding h ws = record { head = h; words = ws }

abbrev pub Holds : Topic → Memory → Type 0
Holds m x = Tied m x.head x.words

-- the entries that lie in it
abbrev pub entries_of : Memory → List Entry
entries_of x = entries_in x.head.held 0 x.words

-- what the caller sees of an answer: its number and values; of a range, the lent results before and after too
pub data Seen : Type 0 where
  said : Answer → Seen
  listed : Result ℕ Refusal → List ℕ → List ℕ → Seen

abbrev pub Means : Seen → Step → Type 0
Means (said a) s = a ≡ s.answer
Means (listed r out after) s = Shown s r out after

-- each is what was seen of the model's answer to the call beside it
abbrev pub Agree : Topic → List Call → List Seen → Type 0
Agree m [] [] = Unit {0}
Agree m [] (a ∷ ss) = ⊥
Agree m (c ∷ cs) [] = ⊥
Agree m (c ∷ cs) (a ∷ ss) = Means a (step m c) × Agree (step m c).then cs ss

-- the answer itself, a range's with the entries read off the results
abbrev pub answer_in : Seen → Answer
answer_in (said a) = a
answer_in (listed r out after) = found_of r after

abbrev pub keys_seen : List Seen → List ℕ
keys_seen [] = []
keys_seen (a ∷ ss) = key_in (answer_in a) ++ keys_seen ss

-- ---- calls of the code; a primed reference is one after the call, `κs` are the lifetimes of the references

pub data Begun : Limits → Memory → Type 0 where
  new : (κs : Lfts 1) (history : History) (most : ℕ) (ws ws' : MutBor (List ℕ)) (h : TopicCache)
      → of-new.Learnt κs (history, (most, (ws, tt))) (Ok h) (history, (most, (ws', tt))) → Begun (given history most) (holding h ws'.now)

pub data Called : Call → Memory → Seen → Memory → Type 0 where
  update-keep-limits : (κs : Lfts 0) (h : TopicCache) (ws : List ℕ) (history : History) (most : ℕ) (r : Result TopicCache Refusal)
      → of-update.Learnt κs (h, (history, (most, tt))) r (h, (history, (most, tt)))
      → Called (update (given history most)) (holding h ws) (said (update_of r)) (holding (after_update h r) ws)
  add-change : (κs : Lfts 1) (h : TopicCache) (ws ws' : MutBor (List ℕ)) (time : ℕ) (x : CacheChange) (r : Result Outcome Refusal)
      → of-add.Learnt κs (h, (ws, (time, (x, tt)))) r (h, (ws', (time, (x, tt))))
      → Called (add (change_of time x)) (holding h ws.now) (said (outcome_of r)) (holding (after_add h r) ws'.now)
  remove-changes-before : (κs : Lfts 1) (h : TopicCache) (ws ws' : MutBor (List ℕ)) (time : ℕ) (r : TopicCache)
      → of-remove.Learnt κs (h, (ws, (time, tt))) r (h, (ws', (time, tt)))
      → Called (remove_before time) (holding h ws.now) (said ok) (holding r ws'.now)
  get-changes-in-range : (κs : Lfts 2) (h : TopicCache) (ws : Bor (List ℕ)) (start end : ℕ) (out out' : MutBor (List ℕ)) (r : Result ℕ Refusal)
      → of_range.Learnt κs (h, (ws, (start, (end, (out, tt))))) r (h, (ws, (start, (end, (out', tt)))))
      → Called (range start end (length out.now / 6)) (holding h ws.now) (listed r out.now out'.now) (holding h ws.now)

-- calls in a row, each on what the one before left: the calls, what was seen of each, and the memory at the end
pub data Runs : Memory → List Call → List Seen → Memory → Type 0 where
  done : {x : Memory} → Runs x [] [] x
  then : {x y z : Memory} {c : Call} {cs : List Call} {ss : List Seen} (a : Seen) → Called c x a y → Runs y cs ss z → Runs x (c ∷ cs) (a ∷ ss) z

-- ---- one call

-- on the memory of a cache that only these calls have changed, the answer and the memory left are the model's
abbrev pub Meets : Call → Memory → Seen → Memory → Type 0
Meets c x a y = (m : Topic) → Fit m → Holds m x → Means a (step m c) × Holds (step m c).then y

-- ---- calls in a row

pub record Went (m : Topic) (cs : List Call) (ss : List Seen) (z : Memory) : Type 0 where
  pub seen : Agree m cs ss
  pub left : Holds (run m cs) z
  pub fit : Fit (run m cs)

-- what was seen of the calls after an accepted `new`, what they left, and the promises of the model said of both
pub record Kept (l : Limits) (cs : List Call) (ss : List Seen) (z : Memory) : Type 0 where
  pub accepted : limits_fit l ≡ true
  pub seen : Agree (fresh l) cs ss
  pub left : Holds (run (fresh l) cs) z
  pub entries : entries_of z ≡ (run (fresh l) cs).entries
  pub promises : TopicPromises
  pub keys-rise : Rises 0 (keys_seen ss)
  pub in-key-order : Rises 0 (keys_of (entries_of z))
  pub held-once : (w : List ℕ) (s : ℕ) → times w s (entries_of z) ≤ 1
  pub few : z.head.held ≤ places
  pub limits-rise : Higher (limits_of z.head.limits) (raised l)
