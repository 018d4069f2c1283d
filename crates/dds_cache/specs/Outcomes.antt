-- A cache that only these calls have changed stays fit, and no contract leaves a choice: two outcomes that meet it are equal.
use Rattle.std.specs.Prelude.{◌≡◌, refl, Bool, true, false, cond, List, [], ◌++◌, ℕ, length, drop, replicate}
use Rattle.std.proofs.Common.{sym, ap, ◌∙◌, append-nil, arith}
use Rattle.std.proofs.Math.Option.{some, none}
use Rattle.std.proofs.lemmas.List.{length-replicate}
use Rattle.std.specs.declared.result.Result.{Result}
use Rattle.std.specs.declared.result.Result.TheVariants.{Ok, Err}
use Rattle.refusals.specs.declared.Refusal.{Refusal}
use Rattle.refusals.specs.Numbers.{number_of}
use Rattle.refusals.specs.NumberLaws.{same-refusal}
use Rattle.keys.specs.Keys.{Last}
use Rattle.model.specs.Topic.{Topic, Entry, Limits, Call, update, add, remove_before, range, Step, Answer, refused, ok, key, held_already, found, limits_fit, fresh, step}
use Rattle.model.specs.TopicPromises.{new_in, FromTheOldest}
use Rattle.model.proofs.Topic.{Fits, fits-step, fits_fresh, topic-promises}
use Rattle.changes.specs.Places.{Writer, Written, words_of, entries_in}
use Rattle.changes.specs.Places as places
use Rattle.changes.specs.ResultLaws.{length-entries}
use Rattle.changes.specs.WriterLaws.{written-drop, written-more}
use Rattle.dds_cache.specs.declared.History.{History}
use Rattle.dds_cache.specs.declared.History.TheVariants.{KeepAll, KeepLast}
use Rattle.dds_cache.specs.declared.KeepLimits.{KeepLimits}
use Rattle.dds_cache.specs.declared.TopicCache.{TopicCache}
use Rattle.dds_cache.specs.declared.Added.{Added}
use Rattle.dds_cache.specs.declared.Added.TheVariants as added
use Rattle.dds_cache.specs.declared.Outcome.{Outcome}
use Rattle.dds_cache.specs.Header.{depth_of, limits_of, limited_of, limited_number, Head, shown, head_of, Tied, Fit, created_of, created_number, made_of, cleared_if, update_of, added_of, outcome_of, found_of, after_update, after_add, topic_of, Limiting, Creating, Updates, Raised, Came, Removed, Shown}

-- ---- fit

-- what the type of a call's change says of its writer
abbrev pub Sent : Call → Type 0
Sent (add x) = Writer x.writer
Sent (update l) = Unit {0}
Sent (remove_before t) = Unit {0}
Sent (range s t room) = Unit {0}

written_new : (x : Call) (a : Answer) (es : List Entry) → Sent x → Written es → Written (es ++ new_in x a)
written_new (add x) (key k) es v w = written-more es _ w v
written_new (add x) (refused n) es v w = rw append-nil w
written_new (add x) ok es v w = rw append-nil w
written_new (add x) held_already es v w = rw append-nil w
written_new (add x) (found fs) es v w = rw append-nil w
written_new (update l) a es v w = rw append-nil w
written_new (remove_before t) a es v w = rw append-nil w
written_new (range s t room) a es v w = rw append-nil w

pub fit-step : (c : Topic) (x : Call) → Sent x → Fit c → Fit (step c x).then
fit-step c x v f =
    let m : Fits (step c x).then = fits-step c x (record { few = f.few; most = f.most }) in
    let o : FromTheOldest c x (step c x) = topic-promises.from-the-oldest c x in
    record { few = m.few; most = m.most; writers = rw o.rest (written_new x (step c x).answer (drop o.n c.entries) v (written-drop o.n c.entries f.writers)) }

pub fit-fresh : (l : Limits) → limits_fit l ≡ true → Fit (fresh l)
unfolding Written
fit-fresh l e = record { few = (fits_fresh l e).few; most = (fits_fresh l e).most; writers = λ i h. absurd (omega (arith, h)) }

-- an accepted `new` ties the header and the words to the fresh cache
pub new-tied : (l : Limits) (h : TopicCache) (ws after : List ℕ) → Creating l (Ok h) ws after → (limits_fit l ≡ true) × Tied (fresh l) h after
unfolding made_of cleared_if
new-tied l h ws after p = go (limits_fit l) p.head p.words
  where
    go : (b : Bool) → some (shown h) ≡ cond b (some (head_of (fresh l))) none → after ≡ cond b (words_of []) ws → (b ≡ true) × Tied (fresh l) h after
    go true p q = (refl, record { head = cc; words = q })
    go false p q = let z : ◌≡◌ {A = ℕ} 0 1 = cc in absurd (omega arith)

-- ---- no view loses anything

depth-one : (a b : History) → depth_of a ≡ depth_of b → a ≡ b
depth-one KeepAll KeepAll e = refl
depth-one KeepAll (KeepLast d) e = let z : ◌≡◌ {A = ℕ} 0 1 = cc in absurd (omega arith)
depth-one (KeepLast d) KeepAll e = let z : ◌≡◌ {A = ℕ} 0 1 = cc in absurd (omega arith)
depth-one (KeepLast d) (KeepLast n) e = let p : d ≡ n = cc in ap KeepLast p

pub limits-one : (a b : KeepLimits) → limits_of a ≡ limits_of b → a ≡ b
limits-one a b e = go a.min_keep_samples b.min_keep_samples a.max_keep_samples b.max_keep_samples (depth-one a.min_keep_samples b.min_keep_samples (ap (λ (l : Limits). l.depth) e)) (ap (λ (l : Limits). l.most) e)
  where
    go : (h k : History) (m n : ℕ) → h ≡ k → m ≡ n → ◌≡◌ {A = KeepLimits} (record { min_keep_samples = h; max_keep_samples = m }) (record { min_keep_samples = k; max_keep_samples = n })
    go h k m n p q = rw (p, q)

pub shown-one : (a b : TopicCache) → shown a ≡ shown b → a ≡ b
shown-one a b e = go a.limits b.limits a.last_added_instant b.last_added_instant a.held b.held (limits-one a.limits b.limits (ap (λ (v : Head). v.limits) e)) (ap (λ (v : Head). v.last) e) (ap (λ (v : Head). v.held) e)
  where
    go : (l k : KeepLimits) (i j : Last) (m n : ℕ) → l ≡ k → i ≡ j → m ≡ n
        → ◌≡◌ {A = TopicCache} (record { limits = l; last_added_instant = i; held = m }) (record { limits = k; last_added_instant = j; held = n })
    go l k i j m n p q r = rw (p, q, r)

abbrev added_back : Answer → Added
added_back (key k) = added.Key k
added_back (refused n) = added.HeldAlready
added_back ok = added.HeldAlready
added_back held_already = added.HeldAlready
added_back (found es) = added.HeldAlready

added-back : (a : Added) → added_back (added_of a) ≡ a
added-back (added.Key k) = refl
added-back added.HeldAlready = refl

-- one refusal for each number
refused-one : (a b : Refusal) → refused (number_of a) ≡ refused (number_of b) → a ≡ b
refused-one a b e = same-refusal a b (let p : number_of a ≡ number_of b = cc in p)

added-not : {A : Type 0} (a : Added) (n : ℕ) → added_of a ≡ refused n → A
added-not (added.Key k) n e = let z : ◌≡◌ {A = ℕ} 0 1 = cc in absurd (omega arith)
added-not added.HeldAlready n e = let z : ◌≡◌ {A = ℕ} 0 1 = cc in absurd (omega arith)

-- ---- one outcome for each call

pub limited-one : (l : Limits) (a b : Result KeepLimits Refusal) → Limiting l a → Limiting l b → a ≡ b
limited-one l a b p q = go a b (p.limits ∙ sym q.limits) (p.number ∙ sym q.number)
  where
    go : (a b : Result KeepLimits Refusal) → limited_of a ≡ limited_of b → limited_number a ≡ limited_number b → a ≡ b
    go (Ok l) (Ok k) e n = let p : limits_of l ≡ limits_of k = cc in ap Ok (limits-one l k p)
    go (Ok l) (Err y) e n = let z : ◌≡◌ {A = ℕ} 0 1 = cc in absurd (omega arith)
    go (Err x) (Ok k) e n = let z : ◌≡◌ {A = ℕ} 0 1 = cc in absurd (omega arith)
    go (Err x) (Err y) e n = ap Err (same-refusal x y n)

pub created-one : (l : Limits) (a b : Result TopicCache Refusal) (ws vs us : List ℕ) → Creating l a ws vs → Creating l b ws us → (a ≡ b) × (vs ≡ us)
created-one l a b ws vs us p q = (go a b (p.head ∙ sym q.head) (p.number ∙ sym q.number), p.words ∙ sym q.words)
  where
    go : (a b : Result TopicCache Refusal) → created_of a ≡ created_of b → created_number a ≡ created_number b → a ≡ b
    go (Ok h) (Ok k) e n = let p : shown h ≡ shown k = cc in ap Ok (shown-one h k p)
    go (Ok h) (Err y) e n = let z : ◌≡◌ {A = ℕ} 0 1 = cc in absurd (omega arith)
    go (Err x) (Ok k) e n = let z : ◌≡◌ {A = ℕ} 0 1 = cc in absurd (omega arith)
    go (Err x) (Err y) e n = ap Err (same-refusal x y n)

pub tied-one : (c : Topic) (h k : TopicCache) (ws vs : List ℕ) → Tied c h ws → Tied c k vs → (h ≡ k) × (ws ≡ vs)
tied-one c h k ws vs p q = (shown-one h k (p.head ∙ sym q.head), p.words ∙ sym q.words)

pub updated-one : (s : Step) (h : TopicCache) (a b : Result TopicCache Refusal) → Raised s h a → Raised s h b → a ≡ b
updated-one s h a b p q = go a b (p.head ∙ sym q.head) (p.answer ∙ sym q.answer)
  where
    go : (a b : Result TopicCache Refusal) → shown (after_update h a) ≡ shown (after_update h b) → update_of a ≡ update_of b → a ≡ b
    go (Ok j) (Ok k) e n = ap Ok (shown-one j k e)
    go (Ok j) (Err y) e n = let z : ◌≡◌ {A = ℕ} 0 1 = cc in absurd (omega arith)
    go (Err x) (Ok k) e n = let z : ◌≡◌ {A = ℕ} 0 1 = cc in absurd (omega arith)
    go (Err x) (Err y) e n = ap Err (refused-one x y n)

-- of an update on any header at all, since every header is that of some topic cache
any-header : (h : TopicCache) → shown h ≡ head_of (topic_of h (replicate h.held places.none))
any-header h = ap (λ (n : ℕ). record { limits = limits_of h.limits; last = h.last_added_instant; held = n }) (sym (length-replicate h.held places.none))

pub updates-one : (l : Limits) (h : TopicCache) (a b : Result TopicCache Refusal) → Updates l h a → Updates l h b → a ≡ b
updates-one l h a b p q =
    let c : Topic = topic_of h (replicate h.held places.none) in
    updated-one (step c (update l)) h a b (p.stepped c (any-header h)) (q.stepped c (any-header h))

pub added-one : (s : Step) (h : TopicCache) (a b : Result Outcome Refusal) (ws vs : List ℕ) → Came s h a ws → Came s h b vs → (a ≡ b) × (ws ≡ vs)
added-one s h a b ws vs p q =
    let t : (after_add h a ≡ after_add h b) × (ws ≡ vs) = tied-one s.then (after_add h a) (after_add h b) ws vs p.tied q.tied in
    (go a b t.0 (p.answer ∙ sym q.answer), t.1)
  where
    pair : (h k : TopicCache) (u v : Added) → h ≡ k → u ≡ v → ◌≡◌ {A = Result Outcome Refusal} (Ok (record { cache = h; answer = u })) (Ok (record { cache = k; answer = v }))
    pair h k u v p q = rw (p, q)

    go : (a b : Result Outcome Refusal) → after_add h a ≡ after_add h b → outcome_of a ≡ outcome_of b → a ≡ b
    go (Ok j) (Ok k) e n = pair j.cache k.cache j.answer k.answer e (sym (added-back j.answer) ∙ ap added_back n ∙ added-back k.answer)
    go (Ok j) (Err y) e n = added-not j.answer (number_of y) n
    go (Err x) (Ok k) e n = added-not k.answer (number_of x) (sym n)
    go (Err x) (Err y) e n = ap Err (refused-one x y n)

pub removed-one : (s : Step) (a b : TopicCache) (ws vs : List ℕ) → Removed s a ws → Removed s b vs → (a ≡ b) × (ws ≡ vs)
removed-one s a b ws vs p q = tied-one s.then a b ws vs p.tied q.tied

pub found-one : (s : Step) (a b : Result ℕ Refusal) (out xs ys : List ℕ) → Shown s a out xs → Shown s b out ys → (a ≡ b) × (xs ≡ ys)
found-one s a b out xs ys p q = let e : xs ≡ ys = p.results ∙ sym q.results in (go a b (p.answer ∙ sym q.answer ∙ ap (found_of b) (sym e)), e)
  where
    go : (a b : Result ℕ Refusal) → found_of a xs ≡ found_of b xs → a ≡ b
    go (Ok m) (Ok n) e =
        let l : entries_in m 0 xs ≡ entries_in n 0 xs = cc in
        ap Ok (sym (length-entries m 0 xs) ∙ ap length l ∙ length-entries n 0 xs)
    go (Ok m) (Err y) e = let z : ◌≡◌ {A = ℕ} 0 1 = cc in absurd (omega arith)
    go (Err x) (Ok n) e = let z : ◌≡◌ {A = ℕ} 0 1 = cc in absurd (omega arith)
    go (Err x) (Err y) e = ap Err (refused-one x y e)
