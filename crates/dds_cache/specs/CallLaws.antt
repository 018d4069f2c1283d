-- The calls: what each return answers and leaves is what the model's step answers and leaves.
use Rattle.std.proofs.Math.Path.{◌≡◌, refl, ap}
use Rattle.std.proofs.Common.{sym, ◌∙◌, subst, true≢false, arith, length-append}
use Rattle.std.specs.Prelude.{Some, None, ok_or, Bool, ◌||◌, ℕ, ◌-◌, ◌*◌, ◌/◌, ◌%◌, ◌≤◌, ◌<◌, eqb, drop}
use Rattle.std.proofs.Math.Bool.{true, false, cond}
use mathlib.Core.List.{List, [], ◌∷◌, ◌++◌}
use Rattle.std.proofs.Math.Option.{some, none}
use borrow.Author.Tests.{lt-ltb, le-leb, lt-leb, leb-false}
use Rattle.std.proofs.Math.Dec.{leb}
use Rattle.std.proofs.Math.ListN.{length, length-drop}
use Rattle.std.specs.declared.result.Result.{Result}
use Rattle.std.specs.declared.result.Result.TheVariants.{Ok, Err}
use Rattle.refusals.specs.declared.Refusal.{Refusal}
use Rattle.refusals.specs.declared.Refusal.TheVariants as refusal
use Rattle.refusals.specs.Numbers.{number_of}
use Rattle.refusals.specs.NumberLaws.{same-refusal}
use Rattle.keys.specs.Keys.{Last, Issued, key_of}
use Rattle.model.specs.Topic.{Topic, Entry, Limits, update, add, remove_before, range, refused, found, step, places, limits_fit, raised, wider, removal, collects, collect_every, collected_for, adding, holds_pair, within}
use Rattle.sampleinfo.specs.Formed.{seq_fits}
use Rattle.model.proofs.Topic.{must-le}
use Rattle.changes.specs.Places.{Holds, Writer, Written, words_of, shown_in, entries_in, entry_of, Ranging, Copying}
use Rattle.changes.specs.LookLaws.{written-within}
use Rattle.changes.specs.ResultLaws.{entries-back}
use Rattle.changes.specs.declared.CacheChange.{CacheChange}
use Rattle.dds_cache.specs.declared.KeepLimits.{KeepLimits}
use Rattle.dds_cache.specs.declared.TopicCache.{TopicCache}
use Rattle.dds_cache.specs.declared.Added.TheVariants as added
use Rattle.dds_cache.specs.declared.Outcome.{Outcome}
use Rattle.dds_cache.specs.Header.{limits_of, limited_of, limited_number, new_limits, limits_number, Head, shown, head_of, Tied, Fit, topic_of, made_of, cleared_if, Limiting, Creating, Raised, Came, Removed, Shown, Updates, Adds, Removes, Ranges, Refusing, Inner, change_of, drops_for, without, behind, inserted, Internal}

-- ---- the header and its topic cache

module _ (c : Topic) (h : TopicCache) (e : shown h ≡ head_of c) where
  limits-is : limits_of h.limits ≡ c.limits
  limits-is = ap (λ (v : Head). v.limits) e

  last-is : h.last_added_instant ≡ c.last
  last-is = ap (λ (v : Head). v.last) e

  held-is : h.held ≡ length c.entries
  held-is = ap (λ (v : Head). v.held) e

  pub topic-is : topic_of h c.entries ≡ c
  topic-is = same (limits_of h.limits) c.limits h.last_added_instant c.last limits-is last-is
    where
      same : (l m : Limits) (k j : Last) → l ≡ m → k ≡ j → ◌≡◌ {A = Topic} (record { limits = l; last = k; entries = c.entries }) (record { limits = m; last = j; entries = c.entries })
      same l m k j p q = rw (p, q)

pub holds_of : (c : Topic) (h : TopicCache) (ws : List ℕ) → Fit c → Tied c h ws → Holds c.entries h.held ws
holds_of c h ws f t = record { few = f.few; number = held-is c h t.head; words = t.words }

pub most-of : (c : Topic) (h : TopicCache) (ws : List ℕ) → Fit c → Tied c h ws → h.limits.max_keep_samples ≤ 256
most-of c h ws f t = omega (arith, f.most, ap (λ (v : Head). v.limits.most) t.head)

-- ---- making and updating

pub fits-yes : (l m : Limits) → some m ≡ new_limits l → (limits_fit l ≡ true) × (m ≡ raised l)
unfolding new_limits
fits-yes l m e = go (limits_fit l) e
  where
    go : (b : Bool) → some m ≡ cond b (some (raised l)) none → (b ≡ true) × (m ≡ raised l)
    go true e = (refl, cc)
    go false e = let z : ◌≡◌ {A = ℕ} 0 1 = cc in absurd (omega arith)

pub fits-no : (l : Limits) → none ≡ new_limits l → limits_fit l ≡ false
unfolding new_limits
fits-no l e = go (limits_fit l) e
  where
    go : (b : Bool) → none ≡ cond b (some (raised l)) none → b ≡ false
    go true e = let z : ◌≡◌ {A = ℕ} 0 1 = cc in absurd (omega arith)
    go false e = refl

-- refusal 2 is the model's
pub limits-number : (c : Topic) (l : Limits) → limits_fit l ≡ false → (step c (update l)).answer ≡ refused (limits_number l)
unfolding step
limits-number c l f = rw f

module _ (l : Limits) (r : Result KeepLimits Refusal) (e : Limiting l r) where
  refused-number : (x : Refusal) → r ≡ Err x → (limits_fit l ≡ false) × (number_of x ≡ 2)
  refused-number x o =
      let f : limits_fit l ≡ false = fits-no l (ap limited_of (sym o) ∙ e.limits) in
      (f, ap limited_number (sym o) ∙ e.number ∙ rw f)

  given-limits : (m : KeepLimits) → r ≡ Ok m → (limits_fit l ≡ true) × (limits_of m ≡ raised l)
  given-limits m o = fits-yes l (limits_of m) (ap limited_of (sym o) ∙ e.limits)

  pub made_none : (x : Refusal) → r ≡ Err x → (ws : List ℕ) → Creating l (Err x) ws ws
  unfolding made_of cleared_if
  made_none x o ws = let f : (limits_fit l ≡ false) × (number_of x ≡ 2) = refused-number x o in record { number = rw (f.0, f.1); head = rw f.0; words = rw f.0 }

  pub made_some : (m : KeepLimits) → r ≡ Ok m → (k : Last) (ws after : List ℕ) → k ≡ Some 0 → after ≡ words_of []
      → Creating l (Ok (record { limits = m; last_added_instant = k; held = 0 })) ws after
  unfolding made_of cleared_if
  made_some m o k ws after p q =
      let f : (limits_fit l ≡ true) × (limits_of m ≡ raised l) = given-limits m o in
      record { number = rw f.0; head = rw (f.0, f.1, p); words = rw (f.0, q) }

  module _ (c : Topic) (h : TopicCache) (t : shown h ≡ head_of c) where
    pub raised-none : (x : Refusal) → r ≡ Err x → Raised (step c (update l)) h (Err x)
    unfolding step
    raised-none x o = let f : (limits_fit l ≡ false) × (number_of x ≡ 2) = refused-number x o in rw f.0 (record { answer = rw f.1; head = t })

    pub raised-some : (m k : KeepLimits) → r ≡ Ok m → limits_of k ≡ wider (limits_of h.limits) (limits_of m)
        → Raised (step c (update l)) h (Ok (record { limits = k; last_added_instant = h.last_added_instant; held = h.held }))
    unfolding step
    raised-some m k o w =
        let f : (limits_fit l ≡ true) × (limits_of m ≡ raised l) = given-limits m o in
        rw f.0 (record { answer = refl; head = go (limits_of k) (limits_of h.limits) c.limits (limits_of m) (raised l) h.last_added_instant c.last h.held (length c.entries) w (limits-is c h t) f.1 (last-is c h t) (held-is c h t) })
      where
        go : (k l n m q : Limits) (j i : Last) (a b : ℕ) → k ≡ wider l m → l ≡ n → m ≡ q → j ≡ i → a ≡ b
            → ◌≡◌ {A = Head} (record { limits = k; last = j; held = a }) (record { limits = wider n q; last = i; held = b })
        go k l n m q j i a b u v w x y = rw (u, v, w, x, y)

  -- on any header
  pub updates-none : (x : Refusal) → r ≡ Err x → (h : TopicCache) → Updates l h (Err x)
  updates-none x o h = record {
    out-of-bounds = λ f. ap Err (same-refusal x refusal.OutOfBounds (refused-number x o).1);
    stepped = λ c t. raised-none c h t x o;
  }

  pub updates-some : (m k : KeepLimits) → r ≡ Ok m → (h : TopicCache) → limits_of k ≡ wider (limits_of h.limits) (limits_of m)
      → Updates l h (Ok (record { limits = k; last_added_instant = h.last_added_instant; held = h.held }))
  updates-some m k o h w = record {
    out-of-bounds = λ f. absurd (true≢false (sym (given-limits m o).0 ∙ f));
    stepped = λ c t. raised-some c h t m k o w;
  }

-- ---- removal

shown-all : (h : TopicCache) (es : List Entry) → h.held ≡ length es → shown h ≡ head_of (topic_of h es)
shown-all h es e = ap (λ (k : ℕ). record { limits = limits_of h.limits; last = h.last_added_instant; held = k }) e

-- the header without its oldest n is that of the entries without them
shown-without : (h : TopicCache) (es : List Entry) (n : ℕ) → h.held ≡ length es → shown (without h n) ≡ head_of (topic_of h (drop n es))
shown-without h es n e = shown-all (without h n) (drop n es) (simp length-drop (ap (λ (k : ℕ). k - n) e))

pub removed-before : (c : Topic) (h : TopicCache) (ws : List ℕ) (t n : ℕ) (r : TopicCache) (after : List ℕ) → Fit c → Tied c h ws
    → ((es : List Entry) → Holds es h.held ws → n ≡ removal (limits_of h.limits) t es) → r ≡ without h n → ((es : List Entry) → Holds es h.held ws → after ≡ words_of (drop n es))
    → Removed (step c (remove_before t)) r after
unfolding step
removed-before c h ws t n r after f d count q w =
    let o : Holds c.entries h.held ws = holds_of c h ws f d in
    let m : n ≡ removal c.limits t c.entries = count c.entries o ∙ ap (λ (l : Limits). removal l t c.entries) (limits-is c h d.head) in
    record {
      answer = refl;
      tied = record {
        head = ap shown q ∙ shown-without h c.entries n o.number ∙ ap (λ (k : ℕ). head_of (topic_of h (drop k c.entries))) m
            ∙ ap (λ (y : Topic). head_of (record { limits = y.limits; last = y.last; entries = drop (removal c.limits t c.entries) c.entries })) (topic-is c h d.head);
        words = w c.entries o ∙ ap (λ (k : ℕ). words_of (drop k c.entries)) m;
      };
    }

pub removes : (h : TopicCache) (ws : List ℕ) (t n : ℕ) (r : TopicCache) (after : List ℕ)
    → ((es : List Entry) → Holds es h.held ws → n ≡ removal (limits_of h.limits) t es) → r ≡ without h n
    → ((es : List Entry) → Holds es h.held ws → after ≡ words_of (drop n es)) → Removes t h ws r after
removes h ws t n r after count q w = record {
  limits = ap (λ (k : TopicCache). k.limits) q;
  last = ap (λ (k : TopicCache). k.last_added_instant) q;
  fewer = omega (arith, ap (λ (k : TopicCache). k.held) q);
  stepped = λ c f d. removed-before c h ws t n r after f d count q w;
}

-- ---- adding

pub inserted-is : (h k : TopicCache) (n i a : ℕ) → k ≡ without h n → a ≡ behind k.held → ◌≡◌ {A = TopicCache} (record { limits = k.limits; last_added_instant = Some i; held = a }) (inserted h n i)
inserted-is h k n i a p q = rw (q, p)

pub inserted-words : (h k : TopicCache) (n i : ℕ) (x : CacheChange) (ws mid after : List ℕ) → k ≡ without h n → ((es : List Entry) → Holds es h.held ws → mid ≡ words_of (drop n es))
    → ((es : List Entry) → Holds es k.held mid → k.held < 384 → after ≡ words_of (es ++ (entry_of x i ∷ [])))
    → (es : List Entry) → Holds es h.held ws → length (drop n es) < 384 → after ≡ words_of (drop n es ++ (entry_of x i ∷ []))
inserted-words h k n i x ws mid after p m w es o f =
    let e : k.held ≡ length (drop n es) = simp length-drop (ap (λ (y : TopicCache). y.held) p ∙ ap (λ (y : ℕ). y - n) o.number) in
    w (drop n es) (record { few = omega arith; number = e; words = m es o }) (omega arith)

module _ (h : TopicCache) (es : List Entry) (t : ℕ) (x : CacheChange) (n : ℕ) (d : n ≡ drops_for (limits_of h.limits) es x.sequence_number x.payload_size) where
  collected-is : collected_for (topic_of h es) (change_of t x) ≡ topic_of h (drop n es)
  unfolding collects drops_for
  collected-is = go (eqb (x.sequence_number % collect_every x.payload_size) 0 || leb places (length es)) d
    where
      go : (b : Bool) → n ≡ cond b (removal (limits_of h.limits) 0 es) 0 → cond b (topic_of h (drop (removal (limits_of h.limits) 0 es) es)) (topic_of h es) ≡ topic_of h (drop n es)
      go true e = rw e
      go false e = rw e

  -- "whenever the table is full": so there is room after it
  room : length es ≤ places → h.limits.max_keep_samples ≤ 256 → length (drop n es) < places
  unfolding drops_for
  room f m = simp length-drop (go (eqb (x.sequence_number % collect_every x.payload_size) 0) (leb places (length es)) refl d)
    where
      go : (a b : Bool) → leb places (length es) ≡ b → n ≡ cond (a || b) (removal (limits_of h.limits) 0 es) 0 → length es - n < places
      go a false q p = omega (arith, leb-false places (length es) q)
      go true true q p = omega (arith, must-le (limits_of h.limits) 0 es)
      go false true q p = omega (arith, must-le (limits_of h.limits) 0 es)

  module _ (ws : List ℕ) (o : Holds es h.held ws) where
    came_held : holds_pair x.writer_guid x.sequence_number (drop n es) ≡ true → (k : TopicCache) (after : List ℕ) → k ≡ without h n → after ≡ words_of (drop n es)
        → Came (adding (topic_of h es) (collected_for (topic_of h es) (change_of t x)) (change_of t x)) h (Ok (record { cache = k; answer = added.HeldAlready })) after
    came_held e k after q w = rw (collected-is, e) (record { answer = refl; tied = record { head = ap shown q ∙ shown-without h es n o.number; words = w } })

    module _ (e : holds_pair x.writer_guid x.sequence_number (drop n es) ≡ false) where
      came-six : key_of h.last_added_instant t ≡ None
          → Came (adding (topic_of h es) (collected_for (topic_of h es) (change_of t x)) (change_of t x)) h (Err refusal.NoLaterKey) ws
      came-six k = rw (collected-is, e, k) (record { answer = refl; tied = record { head = shown-all h es o.number; words = o.words } })

      came-key : (k : ℕ) → key_of h.last_added_instant t ≡ Some k → (g : TopicCache) (after : List ℕ) → g ≡ inserted h n k → after ≡ words_of (drop n es ++ (entry_of x k ∷ [])) → length (drop n es) < places
          → Came (adding (topic_of h es) (collected_for (topic_of h es) (change_of t x)) (change_of t x)) h (Ok (record { cache = g; answer = added.Key k })) after
      came-key k i g after q w f =
          let long : behind (h.held - n) ≡ length (drop n es ++ (entry_of x k ∷ [])) = rw (o.number, ← (length-drop n es), lt-ltb (length (drop n es)) places f) (sym (length-append (drop n es) (entry_of x k ∷ []))) in
          rw (collected-is, e, i)
          (record {
            answer = refl;
            tied = record { head = ap shown q ∙ ap (λ (y : ℕ). record { limits = limits_of h.limits; last = Some k; held = y }) long; words = w };
          })

-- the key that a `?` takes
module _ (i : Issued) (got : Result ℕ Refusal) (g : got ≡ ok_or i refusal.NoLaterKey) where
  key-none : (e : Refusal) → got ≡ Err e → (i ≡ None) × (refusal.NoLaterKey ≡ e)
  key-none e z = go i refl
    where
      go : (p : Issued) → i ≡ p → (i ≡ None) × (refusal.NoLaterKey ≡ e)
      go None q = let same : ◌≡◌ {A = Result ℕ Refusal} (Err refusal.NoLaterKey) (Err e) = sym (rw q at g) ∙ z in (q, cc)
      go (Some k) q = let no : ◌≡◌ {A = Result ℕ Refusal} (Ok k) (Err e) = sym (rw q at g) ∙ z in absurd (cc)

  key-some : (k : ℕ) → got ≡ Ok k → i ≡ Some k
  key-some k z = go i refl
    where
      go : (p : Issued) → i ≡ p → i ≡ Some k
      go None q = let no : ◌≡◌ {A = Result ℕ Refusal} (Err refusal.NoLaterKey) (Ok k) = sym (rw q at g) ∙ z in absurd (cc)
      go (Some y) q = let same : ◌≡◌ {A = Result ℕ Refusal} (Ok y) (Ok k) = sym (rw q at g) ∙ z in let told : y ≡ k = cc in q ∙ ap Some told

-- the same, as the code meets them
module _ (h : TopicCache) (es : List Entry) (ws : List ℕ) (t : ℕ) (x : CacheChange) (n : ℕ) (b : Bool)
    (count : (es : List Entry) → Holds es h.held ws → n ≡ drops_for (limits_of h.limits) es x.sequence_number x.payload_size)
    (find : (es : List Entry) → Holds es h.held ws → Written es → b ≡ holds_pair x.writer_guid x.sequence_number (drop n es)) where
  pub add-held : b ≡ true → (k : TopicCache) (after : List ℕ) → k ≡ without h n → ((es : List Entry) → Holds es h.held ws → after ≡ words_of (drop n es)) → Internal h es ws t x (Ok (record { cache = k; answer = added.HeldAlready })) after
  unfolding Internal
  add-held e k after q w o v m = came_held h es t x n (count es o) ws o (sym (find es o v) ∙ e) k after q (w es o)

  pub add_six : b ≡ false → (i : Issued) → i ≡ key_of h.last_added_instant t → (got : Result ℕ Refusal) → got ≡ ok_or i refusal.NoLaterKey → (r : Refusal) → got ≡ Err r
      → Internal h es ws t x (Err r) ws
  unfolding Internal
  add_six e i p got y r q o v m =
      let z : (i ≡ None) × (refusal.NoLaterKey ≡ r) = key-none i got y r q in
      rw (← z.1) (came-six h es t x n (count es o) ws o (sym (find es o v) ∙ e) (sym p ∙ z.0))

  pub add-key : b ≡ false → (i : Issued) → i ≡ key_of h.last_added_instant t → (got : Result ℕ Refusal) → got ≡ ok_or i refusal.NoLaterKey → (k : ℕ) → got ≡ Ok k → (g : TopicCache) (after : List ℕ)
      → g ≡ inserted h n k → ((es : List Entry) → Holds es h.held ws → length (drop n es) < 384 → after ≡ words_of (drop n es ++ (entry_of x k ∷ [])))
      → Internal h es ws t x (Ok (record { cache = g; answer = added.Key k })) after
  unfolding Internal
  add-key e i p got y k q g after u w o v m =
      let f : length (drop n es) < places = room h es t x n (count es o) o.few m in
      came-key h es t x n (count es o) ws o (sym (find es o v) ∙ e) k (sym p ∙ key-some i got y k q) g after u (w es o f) f

module _ (c : Topic) (h : TopicCache) (ws : List ℕ) (t : ℕ) (x : CacheChange) (f : Fit c) (d : Tied c h ws) (b : Bool) (e : b ≡ seq_fits x.sequence_number) where
  pub add-bad : b ≡ false → Came (step c (add (change_of t x))) h (Err refusal.Malformed) ws
  unfolding step
  add-bad q = rw (← e, q) (record { answer = refl; tied = d })

  pub add-good : b ≡ true → (r : Result Outcome Refusal) (after : List ℕ) → ((es : List Entry) → Internal h es ws t x r after) → Came (step c (add (change_of t x))) h r after
  unfolding step Internal
  add-good q r after i =
      rw (← e, q)
      (subst (λ (y : Topic). Came (adding y (collected_for y (change_of t x)) (change_of t x)) h r after) (topic-is c h d.head) (i c.entries (holds_of c h ws f d) f.writers (most-of c h ws f d)))

-- a refusal past the test of the sequence number
module _ (h : TopicCache) (ws : List ℕ) where
  pub refusing-held : (k : TopicCache) (after : List ℕ) → Refusing h ws (Ok (record { cache = k; answer = added.HeldAlready })) after
  refusing-held k after n e = let z : ◌≡◌ {A = ℕ} 0 1 = cc in absurd (omega arith)

  pub refusing-six : (i : Issued) (got : Result ℕ Refusal) → got ≡ ok_or i refusal.NoLaterKey → (r : Refusal) → got ≡ Err r → Refusing h ws (Err r) ws
  refusing-six i got y r q =
      let z : (i ≡ None) × (refusal.NoLaterKey ≡ r) = key-none i got y r q in
      rw (← z.1) (λ n e. let p : 6 ≡ n = cc in (sym p, refl, refl))

  pub refusing-key : (k : ℕ) (g : TopicCache) (after : List ℕ) → Refusing h ws (Ok (record { cache = g; answer = added.Key k })) after
  refusing-key k g after n e = let z : ◌≡◌ {A = ℕ} 0 1 = cc in absurd (omega arith)

-- on any header and words
module _ (h : TopicCache) (ws : List ℕ) (t : ℕ) (x : CacheChange) (v : Writer x.writer_guid) (b : Bool) (e : b ≡ seq_fits x.sequence_number) where
  pub adds-bad : b ≡ false → Adds t x h ws (Err refusal.Malformed) ws
  adds-bad q = record {
    writer = v;
    by-1 = (λ a. sym e ∙ q, λ f. refl);
    by-no-other = λ n a k. let p : 1 ≡ n = cc in absurd (k (sym p));
    as-found = λ n a. (refl, refl);
    stepped = λ c f d. add-bad c h ws t x f d b e q;
  }

  pub adds-good : b ≡ true → (r : Result Outcome Refusal) (after : List ℕ) → Inner t x h ws r after → Adds t x h ws r after
  adds-good q r after i = record {
    writer = v;
    by-1 = (λ a. absurd (omega (arith, (i.refusing 1 a).0)), λ f. absurd (true≢false (sym q ∙ e ∙ f)));
    by-no-other = λ n a k. (i.refusing n a).0;
    as-found = λ n a. ((i.refusing n a).1, (i.refusing n a).2);
    stepped = λ c f d. add-good c h ws t x f d b e q r after i.came;
  }

-- ---- the range

module _ (c : Topic) (h : TopicCache) (ws : List ℕ) (f : Fit c) (d : Tied c h ws) (s t : ℕ) (out : List ℕ) (n : ℕ)
    (count : (es : List Entry) → Holds es h.held ws → n ≡ length (within s t es)) where
  number : n ≡ length (within s t c.entries)
  number = count c.entries (holds_of c h ws f d)

  pub range-short : length out / 6 < n → Shown (step c (range s t (length out / 6))) (Err refusal.NoRoom) out out
  unfolding step
  range-short k = rw (lt-leb (length (within s t c.entries)) (length out / 6) (omega (arith, number))) (record { answer = refl; results = refl })

  pub range-found : n ≤ length out / 6 → (after : List ℕ) → ((es : List Entry) → Holds es h.held ws → 6 * length (within s t es) ≤ length out → after ≡ shown_in (within s t es) out)
      → Shown (step c (range s t (length out / 6))) (Ok n) out after
  unfolding step
  range-found k after w =
      let es : List Entry = within s t c.entries in
      let is : after ≡ shown_in es out = w c.entries (holds_of c h ws f d) (omega (arith, number)) in
      let whole : entries_in (length es) 0 (shown_in es out) ≡ es = entries-back es out (written-within s t c.entries f.writers) in
      let back : entries_in n 0 after ≡ es = ap (λ (k : ℕ). entries_in k 0 after) number ∙ ap (entries_in (length es) 0) is ∙ whole in
      rw (le-leb (length (within s t c.entries)) (length out / 6) (omega (arith, number)))
      (record { answer = ap found back; results = is })

module _ (h : TopicCache) (ws : List ℕ) (s t : ℕ) (out : List ℕ) (n : ℕ) (count : Ranging ws h.held s t n) where
  pub ranges-short : length out / 6 < n → Ranges s t h ws (Err refusal.NoRoom) out out
  ranges-short k = record {
    nothing = λ z. absurd (omega (arith, count.nothing z));
    as-found = λ m e. (let p : 9 ≡ m = cc in sym p, refl);
    stepped = λ c f d. range-short c h ws f d s t out n count.counted k;
  }

  pub ranges-found : n ≤ length out / 6 → (after : List ℕ) → Copying ws h.held s t out after → Ranges s t h ws (Ok n) out after
  unfolding entries_in
  ranges-found k after w = record {
    nothing = λ z. (ap (λ (m : ℕ). found (entries_in m 0 after)) (count.nothing z), w.nothing z);
    as-found = λ m e. (let z : ◌≡◌ {A = ℕ} 0 1 = cc in absurd (omega arith));
    stepped = λ c f d. range-found c h ws f d s t out n count.counted k after w.copied;
  }
