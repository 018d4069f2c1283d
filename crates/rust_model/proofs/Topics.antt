-- The topic cache is equal to the Rust's on its ground. The two states are alike where the Rust's map has the model's entries under their keys, which
-- rise up to the last one issued, and the index finds exactly the pairs of writer and sequence number that are held, each of them once.
use Rattle.std.specs.Prelude.{Some, None}
use Rattle.std.proofs.Common.{◌≡◌, ℕ, zero, suc, ◌+◌, ◌-◌, ◌%◌, ◌<◌, ◌≤◌, min, max, Bool, true, false, not, ◌&&◌, ◌||◌, eqb, ltb, leb, ◌⊎◌, List, [], ◌∷◌, ◌++◌, map, length, take, drop, sym, refl, ap, ◌∙◌, subst, inl, inr, true≢false, arith, ltb-false, ltb-true, le-ltb, lt-ltb, eq-eqb, eqb-true, leb-false, leb-true}
use mathlib.Core.Bool.{and-true, and-false, or-true, or-false}
use mathlib.Core.Option.{Option, some, none}
use native.Mathlib.Nat.{sub-zero}
use lib.ListN.{length-map}
use lib.Seq.{take-nil, drop-nil}
use borrow.Author.Tests.{lt-leb}
use Rattle.keys.specs.Keys.{Last, Issued, key_of}
use Rattle.keys.specs.KeyLaws.{Ruled, on-time, one_more, spent, ruled}
use Rattle.model.specs.Topic.{Limits, defaults}
use Rattle.model.specs.Topic.{Entry, Topic, Change, places, in_bounds, depth_fits, limits_fit, raised_to, deeper, must_remove, may_remove, may_for, count_below, removal, removed_before, collects, collected_for, same_bytes, holds_pair, entry_of, Call, update, add, remove_before, range, Step, issuing, adding, fresh, within, step}
use Rattle.sampleinfo.specs.Formed.{seq_fits}
use Rattle.model.specs.Story.{Every}
use Rattle.model.proofs.Laws.{every-imp, every_append, every_drop, map-append}
use Rattle.model.proofs.Refusals.{both}
use Rattle.model.specs.PairLaws.{split}
use Rattle.rust_model.specs.Maps.{get, insert}
use Rattle.rust_model.specs.DataSampleCache.{History, KeepLast}
use Rattle.rust_model.specs.TopicCache.{CacheChange, Changes, Indexed, TopicCache, QosPolicies, Added, at_least, max_history, new, is_for, find_by_sn, remove_sn, insert_sn, oldest_to_retain, split_off, left_before, to_retain, to_remove, remove_sns, remove_changes_before, modulus, gc_triggered, collected, key_for, without_old, adding_unless, sane_start, in_range}
use Rattle.rust_model.specs.TopicCache as Rust
use Rattle.rust_model.specs.TopicEqual.{accepted, Ground, history_of, qos_of, change_of, Reply, gave, stored_at, call, replies, cache_after, held_as, seen, answers, run, TopicsEqual, TopicEqualToTheRust}
use Rattle.rust_model.specs.TopicEqual.{empty_qos, history_alone, samples_alone, depth_alone, most_alone, EqualFrom, DefaultsEqualTheRust}
use Rattle.rust_model.proofs.MapLaws.{same-eqb, get-past, insert-end}

-- ---- writers and sequence numbers
bytes-true : (a b : List ℕ) → same_bytes a b ≡ true → a ≡ b
unfolding same_bytes
bytes-true [] [] e = refl
bytes-true [] (y ∷ b) e = absurd (true≢false (sym e))
bytes-true (x ∷ a) [] e = absurd (true≢false (sym e))
bytes-true (x ∷ a) (y ∷ b) e = ap (λ (n : ℕ). n ∷ a) (eqb-true x y (both (eqb x y) (same_bytes a b) e).0) ∙ ap (y ∷◌) (bytes-true a b (both (eqb x y) (same_bytes a b) e).1)

bytes_same : (a : List ℕ) → same_bytes a a ≡ true
unfolding same_bytes
bytes_same [] = refl
bytes_same (x ∷ a) = rw (same-eqb x) (bytes_same a)

-- the pair of a and x is that of s and w
abbrev same : ℕ → List ℕ → ℕ → List ℕ → Bool
same a x s w = eqb a s && same_bytes x w

same_refl : (a : ℕ) (x : List ℕ) → same a x a x ≡ true
same_refl a x = rw (same-eqb a) (bytes_same x)

-- equal to one that is equal, apart from one that is not
same-as : (a s b : ℕ) (x w y : List ℕ) → same a x s w ≡ true → same a x b y ≡ same s w b y
same-as a s b x w y e = ap (λ (n : ℕ). same n x b y) (eqb-true a s (both (eqb a s) (same_bytes x w) e).0) ∙ ap (λ (l : List ℕ). same s l b y) (bytes-true x w (both (eqb a s) (same_bytes x w) e).1)

same-swap : (a s : ℕ) (x w : List ℕ) → same a x s w ≡ same s w a x
same-swap a s x w = split (same a x s w)
    (λ e. e ∙ sym (sym (same-as a s a x w x e) ∙ same_refl a x))
    (λ e. split (same s w a x) (λ f. absurd (true≢false (sym (same_refl s w) ∙ same-as s a s w x w f ∙ e))) (λ f. e ∙ sym f))

-- ---- the index
abbrev is_some : Option ℕ → Bool
is_some none = false
is_some (some n) = true

abbrev indexes : List ℕ → ℕ → List Indexed → Bool
indexes w s is = is_some (find_by_sn w s is)

index-remove : (w : List ℕ) (s : ℕ) (cc : CacheChange) (is : List Indexed) → indexes w s (remove_sn cc is) ≡ indexes w s is && not (same cc.sequence_number cc.writer_guid s w)
unfolding find_by_sn remove_sn
index-remove w s cc [] = refl
index-remove w s cc (i ∷ is) = split (is_for cc.writer_guid cc.sequence_number i)
    (λ a. split (is_for w s i)
    (λ b. rw (a, b) (index-remove w s cc is ∙ rw (sym (same-as i.number cc.sequence_number s i.writer cc.writer_guid w a) ∙ b) (and-false (indexes w s is))))
    (λ b. rw (a, b) (index-remove w s cc is)))
    (λ a. split (is_for w s i)
    (λ b. rw (a, b) (sym (ap not (apart a b))))
    (λ b. rw (a, b) (index-remove w s cc is)))
  where
    apart : is_for cc.writer_guid cc.sequence_number i ≡ false → is_for w s i ≡ true → same cc.sequence_number cc.writer_guid s w ≡ false
    apart a b = same-swap cc.sequence_number s cc.writer_guid w ∙ sym (same-as i.number s cc.sequence_number i.writer w cc.writer_guid b) ∙ a

holds-append : (w : List ℕ) (s : ℕ) (es fs : List Entry) → holds_pair w s (es ++ fs) ≡ holds_pair w s es || holds_pair w s fs
unfolding holds_pair
holds-append w s [] fs = refl
holds-append w s (e ∷ es) fs = split (same e.seq e.writer s w) (λ a. rw a) (λ a. rw a (holds-append w s es fs))

holds-one : (w : List ℕ) (s : ℕ) (e : Entry) → holds_pair w s (e ∷ []) ≡ same e.seq e.writer s w
unfolding holds_pair
holds-one w s e = or-false (same e.seq e.writer s w)

index-insert : (w : List ℕ) (s k : ℕ) (cc : CacheChange) (is : List Indexed) → indexes w s (insert_sn k cc is) ≡ same cc.sequence_number cc.writer_guid s w || indexes w s is
unfolding find_by_sn
index-insert w s k cc is = split (same cc.sequence_number cc.writer_guid s w)
    (λ a. rw a)
    (λ a. rw a (subst (λ b. indexes w s (remove_sn cc is) ≡ indexes w s is && not b) a (index-remove w s cc is) ∙ and-true (indexes w s is)))

or_swap : (a b : Bool) → a || b ≡ b || a
or_swap true b = sym (or-true b)
or_swap false b = sym (or-false b)

index-removes : (w : List ℕ) (s : ℕ) (es : List Entry) (is : List Indexed) → indexes w s (remove_sns (map held_as es) is) ≡ indexes w s is && not (holds_pair w s es)
unfolding remove_sns holds_pair
index-removes w s [] is = sym (and-true (indexes w s is))
index-removes w s (e ∷ es) is = index-removes w s es (remove_sn (held_as e).item is) ∙ ap (λ (b : Bool). b && not (holds_pair w s es)) (index-remove w s (held_as e).item is)
    ∙ three (indexes w s is) (same e.seq e.writer s w) (holds_pair w s es)
  where
    three : (a b c : Bool) → (a && not b) && not c ≡ a && not (b || c)
    three true true c = refl
    three true false c = refl
    three false b c = refl

-- ---- what is held once
abbrev Rising : List Entry → Type 0
Rising [] = Unit {0}
Rising (e ∷ es) = Every (λ f. e.key < f.key) es × Rising es

abbrev Once : List Entry → Type 0
Once [] = Unit {0}
Once (e ∷ es) = (holds_pair e.writer e.seq es ≡ false) × Once es

rising-drop : (n : ℕ) (es : List Entry) → Rising es → Rising (drop n es)
rising-drop zero es r = r
rising-drop (suc n) [] r = r
rising-drop (suc n) (e ∷ es) r = rising-drop n es r.1

once-drop : (n : ℕ) (es : List Entry) → Once es → Once (drop n es)
once-drop zero es r = r
once-drop (suc n) [] r = r
once-drop (suc n) (e ∷ es) r = once-drop n es r.1

rising-on : (es : List Entry) (x : Entry) → Rising es → Every (λ e. e.key < x.key) es → Rising (es ++ x ∷ [])
rising-on [] x r h = (tt, tt)
rising-on (e ∷ es) x r h = (every_append (λ f. e.key < f.key) es (x ∷ []) r.0 (h.0, tt), rising-on es x r.1 h.1)

once-on : (es : List Entry) (x : Entry) → Once es → holds_pair x.writer x.seq es ≡ false → Once (es ++ x ∷ [])
unfolding holds_pair
once-on [] x r h = (refl, tt)
once-on (e ∷ es) x r h = split (same e.seq e.writer x.seq x.writer)
    (λ a. absurd (true≢false (rw a at h)))
    (λ a. (holds-append e.writer e.seq es (x ∷ []) ∙ rw (r.0, same-swap x.seq e.seq x.writer e.writer, a), once-on es x r.1 (rw a at h)))

-- what is dropped is held no longer, and nothing else changes
holds-drop : (w : List ℕ) (s n : ℕ) (es : List Entry) → Once es → holds_pair w s es && not (holds_pair w s (take n es)) ≡ holds_pair w s (drop n es)
unfolding holds_pair
holds-drop w s zero es r = and-true (holds_pair w s es)
holds-drop w s (suc n) [] r = refl
holds-drop w s (suc n) (e ∷ es) r = split (same e.seq e.writer s w)
    (λ a. rw a (sym (gone a)))
    (λ a. rw a (holds-drop w s n es r.1))
  where
    less : (l : List Entry) (k : ℕ) → holds_pair w s l ≡ false → holds_pair w s (drop k l) ≡ false
    less l zero q = q
    less [] (suc k) q = q
    less (f ∷ l) (suc k) q = split (same f.seq f.writer s w) (λ a. absurd (true≢false (rw a at q))) (λ a. less l k (rw a at q))

    gone : same e.seq e.writer s w ≡ true → holds_pair w s (drop n es) ≡ false
    gone a = less es n (ap (λ (k : ℕ). holds_pair w k es) (sym (eqb-true e.seq s (both (eqb e.seq s) (same_bytes e.writer w) a).0))
        ∙ ap (λ (l : List ℕ). holds_pair l e.seq es) (sym (bytes-true e.writer w (both (eqb e.seq s) (same_bytes e.writer w) a).1)) ∙ r.0)

-- ---- removal: what is skipped is what the model drops
above-none : (t : ℕ) (es : List Entry) → Every (λ e. t ≤ e.key) es → count_below t es ≡ 0
unfolding count_below
above-none t [] h = refl
above-none t (e ∷ es) h = rw (le-ltb e.key t h.0) (omega (arith, above-none t es h.1))

-- one more, or nothing on both sides
abbrev Steps : ℕ → ℕ → Type 0
Steps a b = (a ≡ suc b) ⊎ ((a ≡ 0) × (b ≡ 0))

steps-sub : (a i : ℕ) → Steps (a - i) (a - (i + 1))
steps-sub a i = split (ltb i a) (λ e. inl (omega (arith, ltb-true i a e))) (λ e. inr (omega (arith, ltb-false i a e), omega (arith, ltb-false i a e)))

steps-max : (x u y v a b : ℕ) → x ≡ suc u → Steps y v → Steps a b → max x (min y a) ≡ suc (max u (min v b))
steps-max x u y v a b p (inl q) (inl r) = omega arith
steps-max x u y v a b p (inl q) (inr r) = omega (arith, r.0, r.1)
steps-max x u y v a b p (inr q) (inl r) = omega (arith, q.0, q.1)
steps-max x u y v a b p (inr q) (inr r) = omega (arith, q.0, q.1, r.0, r.1)

steps-min : (x u y v a b : ℕ) → x ≡ 0 → u ≡ 0 → y ≡ suc v → a ≡ suc b → max x (min y a) ≡ suc (max u (min v b))
steps-min x u y v a b p o q r = omega arith

abbrev OnOldest : (ℕ → Type 0) → Option ℕ → Type 0
OnOldest P none = Unit {0}
OnOldest P (some k) = P k

module _ (must may t : ℕ) where
  abbrev skips : ℕ → Entry → Bool
  skips i e = ltb i must || (ltb e.key t && ltb i may)

  abbrev skipped : ℕ → List Entry → ℕ
  skipped i es = max (must - i) (min (may - i) (count_below t es))

  abbrev oldest : ℕ → List Entry → Option ℕ
  oldest i es = oldest_to_retain must may t i (map held_as es)

  on-oldest : (P : ℕ → Type 0) (i : ℕ) (es : List Entry) → Every (λ e. P e.key) es → OnOldest P (oldest i es)
  unfolding oldest_to_retain
  on-oldest P i [] h = tt
  on-oldest P i (e ∷ es) h = split (skips i e) (λ a. rw a (on-oldest P (i + 1) es h.1)) (λ a. rw a h.0)

  count-below : (e : Entry) (es : List Entry) → ltb e.key t ≡ true → count_below t (e ∷ es) ≡ suc (count_below t es)
  unfolding count_below
  count-below e es a = rw a (omega arith)

  count-above : (e : Entry) (es : List Entry) → Every (λ f. e.key < f.key) es → ltb e.key t ≡ false → (count_below t (e ∷ es) ≡ 0) × (count_below t es ≡ 0)
  unfolding count_below
  count-above e es r a = rw a (omega (arith, none), none)
    where
      over : (a b : ℕ) → t ≤ a → a < b → t ≤ b
      over a b p q = omega arith

      none : count_below t es ≡ 0
      none = above-none t es (every-imp (λ f l. over e.key f.key (ltb-false e.key t a) l) es r)

  count-cons : (e : Entry) (es : List Entry) → Every (λ f. e.key < f.key) es → Steps (count_below t (e ∷ es)) (count_below t es)
  count-cons e es r = split (ltb e.key t) (λ a. inl (count-below e es a)) (λ a. inr (count-above e es r a))

  skips-more : (i : ℕ) (e : Entry) (es : List Entry) → Every (λ f. e.key < f.key) es → skips i e ≡ true → skipped i (e ∷ es) ≡ suc (skipped (i + 1) es)
  skips-more i e es r h = split (ltb i must)
      (λ a. steps-max (must - i) (must - (i + 1)) (may - i) (may - (i + 1)) (count_below t (e ∷ es)) (count_below t es) (first must i (ltb-true i must a)) (steps-sub may i) (count-cons e es r))
      (λ a. also a (both (ltb e.key t) (ltb i may) (rw a at h)))
    where
      first : (m i : ℕ) → i < m → m - i ≡ suc (m - (i + 1))
      first m i q = omega arith

      nothing : (m i : ℕ) → m ≤ i → m - i ≡ 0
      nothing m i q = omega arith

      nothing-more : (m i : ℕ) → m ≤ i → m - (i + 1) ≡ 0
      nothing-more m i q = omega arith

      also : ltb i must ≡ false → (ltb e.key t ≡ true) × (ltb i may ≡ true) → skipped i (e ∷ es) ≡ suc (skipped (i + 1) es)
      also a q = steps-min (must - i) (must - (i + 1)) (may - i) (may - (i + 1)) (count_below t (e ∷ es)) (count_below t es) (nothing must i (ltb-false i must a)) (nothing-more must i (ltb-false i must a)) (first may i (ltb-true i may q.1)) (count-below e es q.0)

  skips-none : (i : ℕ) (e : Entry) (es : List Entry) → Every (λ f. e.key < f.key) es → skips i e ≡ false → skipped i (e ∷ es) ≡ 0
  skips-none i e es r h = split (ltb i must)
      (λ a. absurd (true≢false (rw a at h)))
      (λ a. split (ltb e.key t)
      (λ b. split (ltb i may) (λ d. absurd (true≢false (rw (a, b, d) at h))) (λ d. omega (arith, ltb-false i must a, ltb-false i may d)))
      (λ b. omega (arith, ltb-false i must a, (count-above e es r b).0)))

  abbrev Splits : ℕ → List Entry → Type 0
  Splits i es = (to_retain (oldest i es) (map held_as es) ≡ map held_as (drop (skipped i es) es)) × (to_remove (oldest i es) (map held_as es) ≡ map held_as (take (skipped i es) es))

  splits : (i : ℕ) (es : List Entry) → Rising es → Splits i es
  unfolding oldest_to_retain
  splits i [] r = (rw (drop-nil (skipped i [])), rw (take-nil (skipped i [])))
  splits i (e ∷ es) r = split (skips i e)
      (λ a. rw (a, skips-more i e es r.0 a) (on (oldest (i + 1) es) (on-oldest (λ k. e.key < k) (i + 1) es r.0) (splits (i + 1) es r.1)))
      (λ a. rw (a, skips-none i e es r.0 a) (stays e.key (map held_as es)))
    where
      stays : (k : ℕ) (l : Changes) → (split_off e.key (held_as e ∷ l) ≡ held_as e ∷ l) × (left_before e.key (held_as e ∷ l) ≡ [])
      stays k l = unfold split_off left_before in (rw (le-ltb e.key e.key (omega arith)), rw (le-ltb e.key e.key (omega arith)))

      on : (o : Option ℕ) → OnOldest (λ k. e.key < k) o
          → (to_retain o (map held_as es) ≡ map held_as (drop (skipped (i + 1) es) es)) × (to_remove o (map held_as es) ≡ map held_as (take (skipped (i + 1) es) es))
          → (to_retain o (held_as e ∷ map held_as es) ≡ map held_as (drop (skipped (i + 1) es) es)) × (to_remove o (held_as e ∷ map held_as es) ≡ held_as e ∷ map held_as (take (skipped (i + 1) es) es))
      on none q s = (s.0, ap (held_as e ∷◌) s.1)
      on (some k) q s = unfold split_off left_before in (rw (lt-ltb e.key k q) s.0, rw (lt-ltb e.key k q) (ap (held_as e ∷◌) s.1))

-- ---- the relation
record Alike (t : Topic) (c : TopicCache) : Type 0 where
  shallow : c.min_keep_samples ≡ history_of t.limits.depth
  most : c.max_keep_samples ≡ t.limits.most
  holds : c.changes ≡ map held_as t.entries
  last_one : t.last ≡ Some c.last_added_instant
  index : (w : List ℕ) (s : ℕ) → indexes w s c.sequence_numbers ≡ holds_pair w s t.entries
  rises : Rising t.entries
  once : Once t.entries
  top : Every (λ e. e.key ≤ c.last_added_instant) t.entries

may-same : (d : Option ℕ) (count must : ℕ) → Rust.may_for (history_of d) count must ≡ may_for d must count
may-same none count must = refl
may-same (some d) count must = omega arith

-- removal before a time
module _ (t : Topic) (c : TopicCache) (h : Alike t c) (before : ℕ) where
  abbrev dropped : ℕ
  dropped = removal t.limits before t.entries

  removes : (to_retain (oldest_to_retain (Rust.must_remove_count c) (Rust.may_for c.min_keep_samples (length c.changes) (Rust.must_remove_count c)) before 0 c.changes) c.changes ≡ map held_as (drop dropped t.entries))
      × (to_remove (oldest_to_retain (Rust.must_remove_count c) (Rust.may_for c.min_keep_samples (length c.changes) (Rust.must_remove_count c)) before 0 c.changes) c.changes ≡ map held_as (take dropped t.entries))
  unfolding removal
  removes = at c.changes c.max_keep_samples c.min_keep_samples h.holds h.most h.shallow
    where
      must : ℕ
      must = must_remove t.limits (length t.entries)

      may : ℕ
      may = may_remove t.limits (length t.entries)

      at : (l : Changes) (n : ℕ) (k : History) → l ≡ map held_as t.entries → n ≡ t.limits.most → k ≡ history_of t.limits.depth
          → (to_retain (oldest_to_retain (length l - n) (Rust.may_for k (length l) (length l - n)) before 0 l) l ≡ map held_as (drop dropped t.entries)) × (to_remove (oldest_to_retain (length l - n) (Rust.may_for k (length l) (length l - n)) before 0 l) l ≡ map held_as (take dropped t.entries))
      at l n k p q s = rw (p, q, s, length-map, may-same t.limits.depth (length t.entries) must)
          (subst (λ x. (to_retain first (map held_as t.entries) ≡ map held_as (drop x t.entries)) × (to_remove first (map held_as t.entries) ≡ map held_as (take x t.entries))) start (splits must may before 0 t.entries h.rises))
        where
          first : Option ℕ
          first = oldest_to_retain must may before 0 (map held_as t.entries)

          start : max (must - 0) (min (may - 0) (count_below before t.entries)) ≡ max must (min may (count_below before t.entries))
          start = rw (sub-zero must, sub-zero may)

  alike-removed : Alike (removed_before before t) (remove_changes_before c before)
  unfolding remove_changes_before
  alike-removed = record {
    shallow = h.shallow;
    most = h.most;
    holds = removes.0;
    last_one = h.last_one;
    index = λ w s. ap (λ (l : Changes). indexes w s (remove_sns l c.sequence_numbers)) removes.1 ∙ index-removes w s (take dropped t.entries) c.sequence_numbers
        ∙ ap (λ (b : Bool). b && not (holds_pair w s (take dropped t.entries))) (h.index w s) ∙ holds-drop w s dropped t.entries h.once;
    rises = rising-drop dropped t.entries h.rises;
    once = once-drop dropped t.entries h.once;
    top = every_drop (λ e. e.key ≤ c.last_added_instant) dropped t.entries h.top;
  }

-- ---- adding
key-same : (l time k : ℕ) (o : Issued) → Ruled l time o → o ≡ Some k → (key_for time l ≡ k) × (l < k)
key-same l time k o (on-time h) e = let p : time ≡ k = cc in (rw (lt-ltb l time h) p, omega arith)
key-same l time k o (one_more h q) e = let p : l + 1 ≡ k = cc in (rw (le-ltb l time h) (wraps ∙ p), omega arith)
  where
    wraps : (l + 1) % 18446744073709551616 ≡ l + 1
    wraps = omega arith
key-same l time k o (spent h q) e = let z : ◌≡◌ {A = ℕ} 0 1 = cc in absurd (omega arith)

gc-same : (seq size : ℕ) → leb (modulus size) 1 || eqb (seq % modulus size) 0 ≡ eqb (seq % modulus size) 0
gc-same seq size = split (leb size 1024)
    (λ a. rw a)
    (λ a. split (leb size 65536) (λ b. rw (a, b)) (λ b. rw (a, b) (sym (eq-eqb (seq % 1) 0 (omega arith)))))

every_held : (P : ℕ → Type 0) (es : List Entry) → Every (λ e. P e.key) es → Every (λ e. P e.at) (map held_as es)
every_held P [] h = tt
every_held P (e ∷ es) h = (h.0, every_held P es h.1)

record Adds (s : Step) (a : Added) : Type 0 where
  told : stored_at a.key ≡ seen s.answer
  alike : Alike s.then a.cache

module _ (was now : Topic) (c : TopicCache) (h : Alike now c) (x : Change) where
  abbrev number : ℕ
  number = c.last_added_instant

  stores : (k : ℕ) → key_for x.time number ≡ k → number < k → holds_pair x.writer x.seq now.entries ≡ false → Adds (issuing was now x (Some k)) (Rust.adding c (change_of x) (key_for x.time number))
  stores k e l n = rw e (record {
    told = refl;
    alike = record {
      shallow = h.shallow;
      most = h.most;
      holds = ap (insert k (change_of x)) h.holds ∙ insert-end k (change_of x) (map held_as now.entries) (every_held (λ j. j < k) now.entries below) ∙ sym (map-append held_as now.entries (entry_of x k ∷ []));
      last_one = refl;
      index = λ w s. ap (λ (o : Option CacheChange). indexes w s (without_old o (insert_sn k (change_of x) c.sequence_numbers))) free ∙ indexed w s;
      rises = rising-on now.entries (entry_of x k) h.rises below;
      once = once-on now.entries (entry_of x k) h.once n;
      top = every_append (λ e. e.key ≤ k) now.entries (entry_of x k ∷ []) (every-imp (λ e q. up e.key q) now.entries h.top) (omega arith, tt);
    };
  })
    where
      up : (j : ℕ) → j ≤ number → j ≤ k
      up j q = omega arith

      lower : (j : ℕ) → j ≤ number → j < k
      lower j q = omega arith

      below : Every (λ e. e.key < k) now.entries
      below = every-imp (λ e q. lower e.key q) now.entries h.top

      free : get k c.changes ≡ none
      free = ap (get k) h.holds ∙ get-past k (map held_as now.entries) (every_held (λ j. j < k) now.entries below)

      indexed : (w : List ℕ) (s : ℕ) → indexes w s (insert_sn k (change_of x) c.sequence_numbers) ≡ holds_pair w s (now.entries ++ entry_of x k ∷ [])
      indexed w s = index-insert w s k (change_of x) c.sequence_numbers ∙ ap (λ (b : Bool). same x.seq x.writer s w || b) (h.index w s) ∙ or_swap (same x.seq x.writer s w) (holds_pair w s now.entries)
          ∙ sym (holds-append w s now.entries (entry_of x k ∷ []) ∙ ap (λ (b : Bool). holds_pair w s now.entries || b) (holds-one w s (entry_of x k)))

  issues : (o : Issued) → key_of now.last x.time ≡ o → holds_pair x.writer x.seq now.entries ≡ false → accepted (issuing was now x o).answer ≡ true → Adds (issuing was now x o) (Rust.adding c (change_of x) (key_for x.time number))
  issues None q n e = absurd (true≢false (sym e))
  issues (Some k) q n e = stores k r.0 r.1 n
    where
      r : (key_for x.time number ≡ k) × (number < k)
      r = key-same number x.time k (key_of (Some number) x.time) (ruled number x.time) (ap (λ (o : Last). key_of o x.time) (sym h.last_one) ∙ q)

  adds : accepted (adding was now x).answer ≡ true → Adds (adding was now x) (Rust.adding_to c x.time (change_of x))
  adds e = go (find_by_sn x.writer x.seq c.sequence_numbers) refl
    where
      go : (o : Option ℕ) → find_by_sn x.writer x.seq c.sequence_numbers ≡ o → Adds (adding was now x) (adding_unless o c x.time (change_of x))
      go none q = let n : holds_pair x.writer x.seq now.entries ≡ false = sym (h.index x.writer x.seq) ∙ ap is_some q in rw n (issues (key_of now.last x.time) refl n (rw n at e))
      go (some old) q = let n : holds_pair x.writer x.seq now.entries ≡ true = sym (h.index x.writer x.seq) ∙ ap is_some q in rw n (record { told = refl; alike = h })

-- ---- limits
deeper-same : (d e : Option ℕ) → max_history (history_of e) (history_of d) ≡ history_of (deeper d e)
deeper-same none none = refl
deeper-same none (some e) = refl
deeper-same (some d) none = refl
deeper-same (some d) (some e) = ap KeepLast (omega arith)

raised-same : (d : Option ℕ) (n : ℕ) → at_least (history_of d) n ≡ raised_to d n
raised-same none n = refl
raised-same (some d) n = split (ltb n d) (λ e. rw e (omega (arith, ltb-true n d e))) (λ e. rw e (omega (arith, ltb-false n d e)))

-- ---- range
range_same : (start end : ℕ) (es : List Entry) → in_range (sane_start start end) end (map held_as es) ≡ map held_as (within start end es)
unfolding in_range within
range_same start end [] = refl
range_same start end (e ∷ es) = rw (sane e.key) (split (ltb start e.key && leb e.key end)
    (λ a. rw a (ap (held_as e ∷◌) (range_same start end es)))
    (λ a. rw a (range_same start end es)))
  where
    sane : (k : ℕ) → ltb (sane_start start end) k && leb k end ≡ ltb start k && leb k end
    sane k = split (leb start end)
        (λ a. rw a)
        (λ a. rw a (split (leb k end)
        (λ b. rw (b, le-ltb end k (leb-true k end b), le-ltb start k (omega (arith, leb-true k end b, leb-false start end a))))
        (λ b. rw b (and-false (ltb end k) ∙ sym (and-false (ltb start k))))))

-- ---- one call
record Turns (t : Topic) (c : TopicCache) (x : Call) : Type 0 where
  told : (call c x).reply ≡ seen (step t x).answer
  alike : Alike (step t x).then (call c x).cache

pub not_so {ℓ} : {C : Type ℓ} (b : Bool) → b ≡ false → b ≡ true → C
not_so b p q = absurd (true≢false (sym q ∙ p))

module _ (t : Topic) (c : TopicCache) (h : Alike t c) (room : length t.entries < places) where
  gc-collects : (x : Change) → gc_triggered (change_of x) ≡ collects t x
  unfolding collects
  gc-collects x = gc-same x.seq x.size ∙ rw (lt-leb 384 (length t.entries) room) (sym (or-false (eqb (x.seq % modulus x.size) 0)))

  collected-alike : (x : Change) → Alike (collected_for t x) (collected c (change_of x))
  collected-alike x = rw (gc-collects x) (split (collects t x) (λ a. rw a (alike-removed t c h 0)) (λ a. rw a h))

  turns : (x : Call) → accepted (step t x).answer ≡ true → Turns t c x
  unfolding step
  turns (update l) e = split (limits_fit l)
      (λ a. record {
        told = rw a;
        alike = rw a (record {
          shallow = ap (max_history (history_of l.depth)) h.shallow ∙ deeper-same t.limits.depth l.depth;
          most = wide h.most (raised-same l.depth l.most);
          holds = h.holds;
          last_one = h.last_one;
          index = h.index;
          rises = h.rises;
          once = h.once;
          top = h.top;
        });
      })
      (λ a. not_so (accepted (step t (update l)).answer) (rw a) e)
    where
      wide : {a b p q : ℕ} → a ≡ b → p ≡ q → max p a ≡ max b q
      wide u v = omega arith
  turns (add x) e = split (seq_fits x.seq)
      (λ a. on a (adds t (collected_for t x) (collected c (change_of x)) (collected-alike x) x (rw a at e)))
      (λ a. not_so (accepted (step t (add x)).answer) (rw a) e)
    where
      on : seq_fits x.seq ≡ true → Adds (adding t (collected_for t x) x) (Rust.adding_to (collected c (change_of x)) x.time (change_of x)) → Turns t c (add x)
      on a q = record { told = rw a q.told; alike = rw a q.alike }
  turns (remove_before b) e = record { told = refl; alike = alike-removed t c h b }
  turns (range start end r) e = split (leb (length (within start end t.entries)) r)
      (λ a. record { told = rw a (ap gave (ap (in_range (sane_start start end) end) h.holds ∙ range_same start end t.entries)); alike = rw a h })
      (λ a. not_so (accepted (step t (range start end r)).answer) (rw a) e)

-- ---- calls in a row
one-call : (t : Topic) (c : TopicCache) (x : Call) (xs : List Call) → Turns t c x → TopicsEqual (step t x).then (call c x).cache xs → TopicsEqual t c (x ∷ xs)
unfolding replies cache_after answers run
one-call t c x xs s rest = record {
  same-answers = ap (λ (r : Reply). r ∷ replies (call c x).cache xs) s.told ∙ ap (λ (l : List Reply). seen (step t x).answer ∷ l) rest.same-answers;
  same-held = rest.same-held;
}

all-equal : (t : Topic) (c : TopicCache) (cs : List Call) → Alike t c → Ground t cs → TopicsEqual t c cs
unfolding replies cache_after answers run
all-equal t c [] h g = record { same-answers = refl; same-held = h.holds }
all-equal t c (x ∷ xs) h g = one-call t c x xs (turns t c h g.0 x g.1) (all-equal (step t x).then (call c x).cache xs (turns t c h g.0 x g.1).alike g.2)

-- ---- the start
depth-least : (d : Option ℕ) → depth_fits d ≡ true → max_history (history_of d) (KeepLast 1) ≡ history_of d
depth-least none e = refl
depth-least (some d) e = ap KeepLast (omega (arith, leb-true 1 d (both (leb 1 d) (leb d 256) e).0))

most-least : (d : Option ℕ) (n : ℕ) → 1 ≤ n → max (at_least (history_of d) n) 1 ≡ raised_to d n
most-least d n h = rw (raised-same d n) (go d)
  where
    go : (d : Option ℕ) → max (raised_to d n) 1 ≡ raised_to d n
    go none = omega arith
    go (some d) = omega arith

pub topic-equal-to-the-rust : TopicEqualToTheRust
unfolding limits_fit
topic-equal-to-the-rust l e cs g = all-equal (fresh l) (new (qos_of l)) cs (record {
  shallow = depth-least l.depth (both (in_bounds l.most) (depth_fits l.depth) e).1;
  most = most-least l.depth l.most (leb-true 1 l.most (both (leb 1 l.most) (leb l.most 256) (both (in_bounds l.most) (depth_fits l.depth) e).0).0);
  holds = refl;
  last_one = refl;
  index = λ w s. unfold find_by_sn holds_pair in refl;
  rises = tt;
  once = tt;
  top = tt;
}) g

-- a QoS that names neither, or one of the two, makes the cache that one naming both with the defaults makes
defaulted : (l : Limits) (qos : QosPolicies) → new (qos_of l) ≡ new qos → limits_fit l ≡ true → EqualFrom l qos
defaulted l qos e f cs g = subst (λ c. TopicsEqual (fresh l) c cs) e (topic-equal-to-the-rust l f cs g)

pub defaults-equal-the-rust : DefaultsEqualTheRust
defaults-equal-the-rust = record {
  empty = defaulted defaults empty_qos refl (unfold limits_fit in refl);
  update-empty = λ c. refl;
  history-alone = λ d f. defaulted (depth_alone d) (history_alone d) refl f;
  samples-alone = λ n f. defaulted (most_alone n) (samples_alone n) refl f;
}
