-- Choosing: the same pairs in the same order.
use Rattle.std.proofs.Common.{◌≡◌, ℕ, suc, ◌<◌, ◌≤◌, Bool, true, false, cond, ◌||◌, eqb, ltb, leb, List, [], ◌∷◌, ◌++◌, length, sym, refl, ap, ◌∙◌, inl, inr, arith, ltb-false, ltb-true, le-ltb, lt-ltb, eqb-true, le-leb}
use mathlib.Core.Option.{Option, some, none}
use native.Mathlib.Decide.{dec_lt}
use borrow.Author.Tests.{lt-leb}
use Rattle.sampleinfo.specs.States.{sample_bit, view_bit, instance_bit}
use Rattle.sampleinfo.specs.Counts.{total, accessed_at}
use Rattle.sampleinfo.specs.Lifecycle.{accessed_of}
use Rattle.sampleinfo.specs.Samples.{sample_state_of, total_of}
use Rattle.sampleinfo.specs.declared.NotAliveGenerationCounts.{NotAliveGenerationCounts}
use Rattle.sampleinfo.specs.declared.Sample.{Sample}
use Rattle.sampleinfo.specs.declared.ViewState.TheVariants.{New, NotNew}
use Rattle.readcondition.specs.Masks.{has, chosen_by}
use Rattle.readcondition.specs.declared.ReadCondition.{ReadCondition}
use Rattle.lists.specs.Insert.{insert_by}
use Rattle.lists.specs.Sort.{Strict, insert_comm}
use Rattle.model.specs.Pairs.{Hit, earlier, insert, sorted, pairs_in}
use Rattle.model.specs.PairLaws.{Before, earlier-before, before-trans, before-not, split}
use Rattle.model.proofs.PairLaws.{not_earlier}
use Rattle.model.specs.Views.{view_of}
use Rattle.model.specs.Model.{Live, Instance, live_in, chosen, hit_of, hits_in, hits}
use Rattle.model.specs.Story.{Entry as Told, Every, untaken, entry_keys}
use Rattle.model.proofs.Laws.{every-imp}
use Rattle.readcondition.specs.MaskLaws.{any-instance, any-view, any-sample}
use Rattle.rust_model.specs.Maps.{gives, get}
use Rattle.rust_model.specs.DataSampleCache.{InstanceMetaData, SampleWithMetaData, DataSamples, InstanceMap, is_new, view_state, sample_selector, cached_keys, insert_stable, sort_by_cached_key, sort_by_sequence_number, selected_keys, selected_stamps}
use Rattle.rust_model.proofs.Alike.{Kept, key_at, mine, stored, samples, Rising, ticks, Matches}
use Rattle.rust_model.proofs.Log.{sample_at, get-samples}
use Rattle.rust_model.proofs.Fold.{fold_log, gather}

-- ---- the selector
new-same : (o : Option NotAliveGenerationCounts) (c : NotAliveGenerationCounts) → is_new o c ≡ ltb (ticks o) (accessed_at (total c))
new-same none c = sym (lt-ltb 0 (accessed_at (total c)) (omega arith))
new-same (some l) c = split (ltb (total l) (total c))
    (λ e. e ∙ sym (lt-ltb (accessed_at (total l)) (accessed_at (total c)) (omega (arith, ltb-true (total l) (total c) e))))
    (λ e. e ∙ sym (le-ltb (accessed_at (total l)) (accessed_at (total c)) (omega (arith, ltb-false (total l) (total c) e))))

pub view-same : (keep : Option ℕ) (es : List Told) (i : Instance) (d : InstanceMetaData) → Matches keep es i d → (s : Sample) → view_state d s ≡ view_of (accessed_of i.meta) (total_of s)
view-same keep es i d h s = ap (λ (b : Bool). cond b New NotNew) (new-same d.last_generation_accessed s.generation_counts ∙ ap (λ (n : ℕ). ltb n (accessed_at (total_of s))) h.accessed)

any-mask : (mask all bit : ℕ) → has all bit ≡ true → eqb mask all || has mask bit ≡ has mask bit
any-mask mask all bit h = split (eqb mask all)
    (λ e. rw e (sym (ap (λ (n : ℕ). has n bit) (eqb-true mask all e) ∙ h)))
    (λ e. rw e)

pub selector-same : (rc : ReadCondition) (keep : Option ℕ) (es : List Told) (i : Instance) (d : InstanceMetaData) → Matches keep es i d → (s : Live) → sample_selector rc d s.sample ≡ chosen rc i s
unfolding sample_selector chosen_by
selector-same rc keep es i d h s = rw (
  any-mask rc.sample_state_mask 3 (sample_bit (sample_state_of s.sample)) (any-sample (sample_state_of s.sample)),
  any-mask rc.view_state_mask 3 (view_bit (view_state d s.sample)) (any-view (view_state d s.sample)),
  any-mask rc.instance_state_mask 7 (instance_bit d.instance_state) (any-instance d.instance_state),
  view-same keep es i d h s.sample,
  h.state,
)

-- ---- the order
-- pairs of different keys: one is before the other
abbrev Apart : Hit → Hit → Type 0
Apart x y = x.pair.key ≡ y.pair.key → ⊥

before-total : (a b : Hit) → Apart a b → ¬ Before a b → Before b a
before-total a b d h = go (dec_lt b.seq a.seq)
  where
    go : Dec (b.seq < a.seq) → Before b a
    go (yes q) = inl q
    go (no q) = inr (level a.seq b.seq q (λ l. h (inl l)), lower b.pair.key a.pair.key (λ e. d (sym e)) (λ l. h (inr (sym (level a.seq b.seq q (λ t. h (inl t))), l))))
      where
        level : (a b : ℕ) → (b < a → ⊥) → (a < b → ⊥) → b ≡ a
        level a b p q = omega arith

        lower : (a b : ℕ) → (a ≡ b → ⊥) → (b < a → ⊥) → a < b
        lower a b p q = omega arith

strict : Strict earlier Apart
strict = record {
  total = λ x y d e. (earlier-before y x).1 (before-total x y d (not_earlier x y e));
  asym = λ x y e. split (earlier y x) (λ q. absurd (before-not x y ((earlier-before x y).0 e) ((earlier-before y x).0 q))) (λ q. q);
  trans = λ x y z p q. (earlier-before x z).1 (before-trans x y z ((earlier-before x y).0 p) ((earlier-before y z).0 q));
}

insert-is : (h : Hit) (l : List Hit) → insert h l ≡ insert_by earlier h l
unfolding insert insert_by
insert-is h [] = refl
insert-is h (x ∷ l) = ap (λ (r : List Hit). cond (earlier h x) (h ∷ x ∷ l) (x ∷ r)) (insert-is h l)

insert-swap : (x y : Hit) (l : List Hit) → Apart x y → insert x (insert y l) ≡ insert y (insert x l)
insert-swap x y l d = ap (insert x) (insert-is y l) ∙ insert-is x (insert_by earlier y l) ∙ insert_comm earlier Apart strict x y l d ∙ sym (ap (insert y) (insert-is x l) ∙ insert-is y (insert_by earlier x l))

-- ---- a stable sort by sequence number of pairs in order of keys is the sort by sequence number, equal ones by key
abbrev KeysRise : List Hit → Type 0
KeysRise [] = Unit {0}
KeysRise (h ∷ hs) = Every (λ x. h.pair.key < x.pair.key) hs × KeysRise hs

every-insert : (P : Hit → Type 0) (x : Hit) (l : List Hit) → P x → Every P l → Every P (insert x l)
unfolding insert
every-insert P x [] p h = (p, tt)
every-insert P x (y ∷ l) p h = split (earlier x y) (λ e. rw e (p, h)) (λ e. rw e (h.0, every-insert P x l p h.1))

every-sorted : (P : Hit → Type 0) (l : List Hit) → Every P l → Every P (sorted l)
unfolding sorted
every-sorted P [] h = tt
every-sorted P (x ∷ l) h = every-insert P x (sorted l) h.0 (every-sorted P l h.1)

earlier-by-seq : (x y : Hit) → x.pair.key < y.pair.key → leb x.seq y.seq ≡ earlier x y
earlier-by-seq x y h = split (earlier x y)
    (λ e. le-leb x.seq y.seq (low ((earlier-before x y).0 e)) ∙ sym e)
    (λ e. lt-leb x.seq y.seq (high (not_earlier x y e)) ∙ sym e)
  where
    low : Before x y → x.seq ≤ y.seq
    low (inl q) = omega arith
    low (inr q) = omega (arith, q.0)

    high : ¬ Before x y → y.seq < x.seq
    high n = go (dec_lt y.seq x.seq)
      where
        go : Dec (y.seq < x.seq) → y.seq < x.seq
        go (yes q) = q
        go (no q) = absurd (n (inr (same x.seq y.seq q (λ l. n (inl l)), h)))
          where
            same : (a b : ℕ) → (b < a → ⊥) → (a < b → ⊥) → a ≡ b
            same a b p q = omega arith

stable-insert : (x : Hit) (l : List Hit) → Every (λ y. x.pair.key < y.pair.key) l → insert_stable x l ≡ insert x l
unfolding insert_stable insert
stable-insert x [] h = refl
stable-insert x (y ∷ l) h = rw (earlier-by-seq x y h.0, stable-insert x l h.1)

stable-sorted : (l : List Hit) → KeysRise l → sort_by_cached_key l ≡ sorted l
unfolding sort_by_cached_key sorted
stable-sorted [] h = refl
stable-sorted (x ∷ l) h = ap (insert_stable x) (stable-sorted l h.1) ∙ stable-insert x (sorted l) (every-sorted (λ y. x.pair.key < y.pair.key) l h.0)

-- ---- sort_by_sequence_number
abbrev SeqAt : DataSamples → Hit → Type 0
SeqAt d h = (v : SampleWithMetaData) × (get h.pair.key d ≡ some v) × (v.sample.sequence_number ≡ h.seq)

cached : (d : DataSamples) (hs : List Hit) → Every (SeqAt d) hs → cached_keys d (pairs_in hs) ≡ gives hs
unfolding cached_keys
cached d [] q = refl
cached d (h ∷ hs) q = rw (q.0.1, cached d hs q.1) (ap (λ (n : ℕ). gives (record { seq = n; pair = h.pair } ∷ hs)) q.0.2)

sort-same : (d : DataSamples) (hs : List Hit) → KeysRise hs → Every (SeqAt d) hs → sort_by_sequence_number d (pairs_in hs) ≡ gives (pairs_in (sorted hs))
unfolding sort_by_sequence_number sorted insert
sort-same d [] r q = refl
sort-same d (x ∷ []) r q = refl
sort-same d (x ∷ y ∷ hs) r q = rw (lt-ltb 1 (suc (suc (length (pairs_in hs)))) (omega arith), cached d (x ∷ y ∷ hs) q) (ap (λ (l : List Hit). gives (pairs_in l)) (stable-sorted (x ∷ y ∷ hs) r))

-- ---- choosing from the log: f n s says whether sample s of instance n is chosen
module _ (f : ℕ → Live → Bool) where
  abbrev hit : Kept → Hit
  hit k = record { seq = k.told.sample.sample.sequence_number; pair = record { key = key_at k; name = k.name } }

  abbrev pub put_in : Kept → List Hit → List Hit
  put_in k hs = cond k.told.taken hs (cond (f k.name k.told.sample) (insert (hit k) hs) hs)

  pub put-swap : (x y : Kept) (hs : List Hit) → key_at x < key_at y → put_in x (put_in y hs) ≡ put_in y (put_in x hs)
  put-swap x y hs h = split x.told.taken
      (λ a. rw a)
      (λ a. split (f x.name x.told.sample)
      (λ b. split y.told.taken
      (λ c. rw (a, b, c))
      (λ c. split (f y.name y.told.sample)
      (λ d. rw (a, b, c, d) (insert-swap (hit x) (hit y) hs (apart (key_at x) (key_at y) h)))
      (λ d. rw (a, b, c, d))))
      (λ b. rw (a, b)))
    where
      apart : (a b : ℕ) → a < b → a ≡ b → ⊥
      apart a b p q = omega arith

  -- those chosen, of the instances whose names pass a test, in order of keys
  unfoldable pub hits_of : (ℕ → Bool) → List Kept → List Hit
  hits_of p [] = []
  hits_of p (k ∷ log) = cond (p k.name) (cond k.told.taken (hits_of p log) (cond (f k.name k.told.sample) (hit k ∷ hits_of p log) (hits_of p log))) (hits_of p log)

  every-hits : (P : Hit → Type 0) (p : ℕ → Bool) (log : List Kept) → Every (λ k. k.told.taken ≡ false → P (hit k)) log → Every P (hits_of p log)
  unfolding hits_of
  every-hits P p [] h = tt
  every-hits P p (k ∷ log) h = split (p k.name)
      (λ a. split k.told.taken
      (λ b. rw (a, b) (every-hits P p log h.1))
      (λ b. split (f k.name k.told.sample)
      (λ c. rw (a, b, c) (h.0 b, every-hits P p log h.1))
      (λ c. rw (a, b, c) (every-hits P p log h.1))))
      (λ a. rw a (every-hits P p log h.1))

  keys-rise : (p : ℕ → Bool) (log : List Kept) → Rising log → KeysRise (hits_of p log)
  unfolding hits_of
  keys-rise p [] r = tt
  keys-rise p (k ∷ log) r = split (p k.name)
      (λ a. split k.told.taken
      (λ b. rw (a, b) (keys-rise p log r.1))
      (λ b. split (f k.name k.told.sample)
      (λ c. rw (a, b, c) (every-hits (λ x. key_at k < x.pair.key) p log (every-imp (λ j q t. q) log r.0), keys-rise p log r.1))
      (λ c. rw (a, b, c) (keys-rise p log r.1))))
      (λ a. rw a (keys-rise p log r.1))

  hits-sorted : (p : ℕ → Bool) (log : List Kept) → sorted (hits_of p log) ≡ fold_log put_in p [] log
  unfolding hits_of fold_log sorted
  hits-sorted p [] = refl
  hits-sorted p (k ∷ log) = split (p k.name)
      (λ a. split k.told.taken
      (λ b. rw (a, b) (hits-sorted p log))
      (λ b. split (f k.name k.told.sample)
      (λ c. rw (a, b, c) (ap (insert (hit k)) (hits-sorted p log)))
      (λ c. rw (a, b, c) (hits-sorted p log))))
      (λ a. rw a (hits-sorted p log))

  pub choice-sorted : (p : ℕ → Bool) (log : List Kept) → Rising log → sort_by_sequence_number (samples log) (pairs_in (hits_of p log)) ≡ gives (pairs_in (fold_log put_in p [] log))
  choice-sorted p log r = sort-same (samples log) (hits_of p log) (keys-rise p log r) (every-hits (SeqAt (samples log)) p log (every-imp (λ k g t. (stored k, g ∙ rw t, refl)) log (get-samples log r)))
      ∙ ap (λ (l : List Hit). gives (pairs_in l)) (hits-sorted p log)

  -- ---- what the Rust goes through
  abbrev pub Sees : ReadCondition → InstanceMap → Kept → Type 0
  Sees rc imds k = (d : InstanceMetaData) × (get k.name imds ≡ some d) × (sample_selector rc d k.told.sample.sample ≡ f k.name k.told.sample)

  pub selected-all : (rc : ReadCondition) (imds : InstanceMap) (log : List Kept) → Every (Sees rc imds) log → selected_keys rc imds (samples log) ≡ gives (pairs_in (hits_of (λ n. true) log))
  unfolding selected_keys samples hits_of
  selected-all rc imds [] h = refl
  selected-all rc imds (k ∷ log) h = split k.told.taken
      (λ a. rw a (selected-all rc imds log h.1))
      (λ a. rw (a, h.0.1, selected-all rc imds log h.1, h.0.2) (split (f k.name k.told.sample) (λ c. rw c) (λ c. rw c)))

  pub selected-own : (rc : ReadCondition) (all : DataSamples) (n : ℕ) (d : InstanceMetaData) → ((s : Live) → sample_selector rc d s.sample ≡ f n s)
      → (log : List Kept) → Every (λ k. get (key_at k) all ≡ sample_at k) log → selected_stamps rc all n d (entry_keys (mine n log)) ≡ pairs_in (hits_of (λ o. eqb o n) log)
  unfolding selected_stamps mine hits_of
  selected-own rc all n d g [] h = refl
  selected-own rc all n d g (k ∷ log) h = split (eqb k.name n)
      (λ a. split k.told.taken
      (λ b. rw (a, b, h.0, b) (selected-own rc all n d g log h.1))
      (λ b. rw (a, b, h.0, b, g k.told.sample, eqb-true k.name n a) (split (f n k.told.sample)
      (λ c. rw c (ap (record { key = key_at k; name = n } ∷◌) (selected-own rc all n d g log h.1)))
      (λ c. rw c (selected-own rc all n d g log h.1)))))
      (λ a. rw a (selected-own rc all n d g log h.1))

  -- ---- what the model goes through
  sorted-own : (c : ReadCondition) (i : Instance) → ((s : Live) → f i.name s ≡ chosen c i s) → (hs : List Hit) (log : List Kept)
      → sorted (hits_in c i (untaken (mine i.name log)) ++ hs) ≡ fold_log put_in (λ n. eqb n i.name) (sorted hs) log
  unfolding mine untaken hits_in sorted fold_log
  sorted-own c i g hs [] = refl
  sorted-own c i g hs (k ∷ log) = split (eqb k.name i.name)
      (λ a. split k.told.taken
      (λ b. rw (a, b) (sorted-own c i g hs log))
      (λ b. rw (a, b, eqb-true k.name i.name a, g k.told.sample) (split (chosen c i k.told.sample)
      (λ e. rw e (ap (insert (hit_of i k.told.sample)) (sorted-own c i g hs log)))
      (λ e. rw e (sorted-own c i g hs log)))))
      (λ a. rw a (sorted-own c i g hs log))

  abbrev pub Shows : ReadCondition → List Kept → Instance → Type 0
  Shows c log i = (live_in i.places ≡ untaken (mine i.name log)) × ((s : Live) → f i.name s ≡ chosen c i s)

  pub sorted-gather : (c : ReadCondition) (log : List Kept) (is : List Instance) → Every (Shows c log) is → sorted (hits c is) ≡ gather put_in put-swap [] log is
  unfolding hits gather sorted
  sorted-gather c log [] h = refl
  sorted-gather c log (i ∷ is) h = ap (λ (ss : List Live). sorted (hits_in c i ss ++ hits c is)) h.0.0 ∙ sorted-own c i h.0.1 (hits c is) log
      ∙ ap (λ (r : List Hit). fold_log put_in (λ n. eqb n i.name) r log) (sorted-gather c log is h.1)
