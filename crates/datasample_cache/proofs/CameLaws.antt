-- An add of the code is the model's add: the last step of the proof.
use Rattle.std.specs.Prelude.{◌≡◌, Bool, cond, List, ℕ, zero, suc, ◌<◌, ◌≤◌, length, set}
use Rattle.std.proofs.Math.Path.{refl}
use Rattle.std.proofs.Common.{sym, ap, subst, ◌∙◌, arith, eq-eqb, ne_eqb, le-ltb, lt-ltb, true≢false}
use Rattle.std.proofs.Math.Bool.{true, false}
use Rattle.std.proofs.Math.Seq.{set_out}
use Rattle.std.proofs.Math.Decide.{dec_lt}
use Rattle.std.specs.Option.{unwrap_or, ok_or}
use Rattle.std.specs.declared.option.Option as the_code
use Rattle.std.specs.declared.option.Option.TheVariants.{None, Some}
use Rattle.std.specs.declared.result.Result.{Result}
use Rattle.std.specs.declared.result.Result.TheVariants.{Ok, Err}
use Rattle.refusals.specs.Numbers as number
use Rattle.refusals.specs.declared.Refusal.{Refusal}
use Rattle.refusals.specs.declared.Refusal.TheVariants as refusal
use Rattle.sampleinfo.specs.States.{made_by}
use Rattle.sampleinfo.specs.Formed.{formed, body_for, arrived_body}
use Rattle.sampleinfo.specs.Lifecycle.{counts_of}
use Rattle.sampleinfo.specs.Samples.{empty_sample, unread}
use Rattle.sampleinfo.specs.declared.Body.{Body}
use Rattle.sampleinfo.specs.declared.Sample.{Sample}
use Rattle.sampleinfo.specs.declared.NotAliveGenerationCounts.{NotAliveGenerationCounts}
use Rattle.model.specs.Model as M
use Rattle.model.specs.Model.{Model, Arrival, Step, step, well_formed, refusal_of, body_in, key_in, issue_of, slot_of}
use Rattle.store.specs.Store as S
use Rattle.store.specs.Store.{Store, Said}
use Rattle.index.specs.Words.{slot_in}
use Rattle.index.specs.Memory.{Tied}
use Rattle.index.specs.declared.Cache.{Cache}
use Rattle.index.specs.declared.Index.{Index}
use Rattle.plan.specs.Plan.{wanted, Made, Says}
use Rattle.plan.specs.declared.Planned.{Planned}
use Rattle.refine.specs.Good.{Good}
use Rattle.refine.specs.Layout.{store_of, table_of}
use Rattle.refine.specs.Answers.{out_slot, meta_after, said_of, step_of, record_for, evicted, answer_of}
use Rattle.refine.proofs.Add.{adding-is, table_is, refused-same, answer-is}
use Rattle.samples.specs.Table.{peek_at, swapped}
use Rattle.memory.specs.Lies.{Lies, tied, table-long}
use Rattle.datasample_cache.specs.declared.Added.{Added}
use Rattle.datasample_cache.specs.Came.{evicted_as, added_as, Came, evicted_of, Unfit, no_table, malformed, not_added}

-- ---- the body of an add: `b` is what is made of its numbers, `r` what `?` is asked of it

module _ (a : Arrival) (b : the_code.Option Body) (e : b ≡ arrived_body a.kind a.handle a.seq) (r : Result Body Refusal) (f : r ≡ ok_or b refusal.Malformed) where
  unformed : (x : Refusal) → r ≡ Err x → (well_formed a ≡ false) × (x ≡ refusal.Malformed)
  unfolding well_formed
  unformed x p = go (formed a.kind a.seq) (sym (f ∙ ap (λ (o : the_code.Option Body). ok_or o refusal.Malformed) e) ∙ p)
    where
      go : (y : Bool) → ok_or (cond y (Some (body_for a.kind a.handle)) None) refusal.Malformed ≡ Err x → (y ≡ false) × (x ≡ refusal.Malformed)
      go true q = cc
      go false q = (refl, cc)

  formed-so : (y : Body) → r ≡ Ok y → (well_formed a ≡ true) × (y ≡ body_in a)
  unfolding well_formed
  formed-so y p = go (formed a.kind a.seq) (sym (f ∙ ap (λ (o : the_code.Option Body). ok_or o refusal.Malformed) e) ∙ p)
    where
      go : (z : Bool) → ok_or (cond z (Some (body_for a.kind a.handle)) None) refusal.Malformed ≡ Ok y → (z ≡ true) × (y ≡ body_for a.kind a.handle)
      go true q = (refl, cc)
      go false q = cc

-- ---- the slot that was pushed out

slot-below : (n : ℕ) → n < 256 → slot_in n ≡ Some n
slot-below n h = rw (lt-ltb n 256 h)

slot-beyond : (n : ℕ) → 256 ≤ n → slot_in n ≡ None
slot-beyond n h = rw (le-ltb n 256 h)

evicted-as : (t : List Sample) (old : ℕ) → evicted_as (evicted_of (slot_in old) (peek_at t (unwrap_or (slot_in old) 256))) ≡ evicted t old
evicted-as t old = go (dec_lt old 256)
  where
    go : Dec (old < 256) → evicted_as (evicted_of (slot_in old) (peek_at t (unwrap_or (slot_in old) 256))) ≡ evicted t old
    go (yes h) = rw (lt-ltb old 256 h)
    go (no h) = rw (le-ltb old 256 (omega arith))

emptied-as : (t : List Sample) (old : ℕ) → length t ≡ 256 → set t (unwrap_or (slot_in old) 256) empty_sample ≡ set t old empty_sample
emptied-as t old l = go (dec_lt old 256)
  where
    go : Dec (old < 256) → set t (unwrap_or (slot_in old) 256) empty_sample ≡ set t old empty_sample
    go (yes h) = rw (lt-ltb old 256 h)
    go (no h) = rw (le-ltb old 256 (omega arith)) (set_out t 256 empty_sample (omega arith) ∙ sym (set_out t old empty_sample (omega arith)))

-- ---- against the model

module _ (m : Model) (g : Good m) (a : Arrival) (h : Cache) (ws : List ℕ) (t : List Sample) (l : Lies m h ws t) where
  -- refusal 1
  came-unfit : well_formed a ≡ false → Came (step m (M.add a)) not_added h ws t
  unfolding step M.adding refusal_of
  came-unfit w = rw w (record { answer = refl; lies = l })

  abbrev accepted : Said
  accepted = S.added (key_in (issue_of m a)) (slot_of m a) (out_slot m a) (counts_of (meta_after m a))

  came-refused : (e : Refusal) (head : Cache) (after : List ℕ) → Made (step_of m a) (Err e) head after → Came (M.adding m a) (Err e) head after t
  came-refused e head after made = go (refusal_of m a) refl
    where
      go : (n : ℕ) → refusal_of m a ≡ n → Came (M.adding m a) (Err e) head after t
      go zero z = let said : said_of m a ≡ accepted = rw (eq-eqb (refusal_of m a) 0 z) in absurd (subst (λ (x : Said). Says x (Err e)) said made.answer)
      go (suc n) z =
          let said : said_of m a ≡ S.refused (refusal_of m a) = rw (ne_eqb (refusal_of m a) 0 (λ q. omega arith)) in
          let code : number.number_of e ≡ refusal_of m a = subst (λ (x : Said). Says x (Err e)) said made.answer in
          record {
            answer = ap M.refused code ∙ sym (ap (answer_of (table_of m)) said) ∙ sym (answer-is m g a);
            lies = record { head = made.head; words = made.words; table = l.table ∙ ap table_of (sym (refused-same m g a n z)) };
          }

  module _ (p : Planned) (head : Cache) (after : List ℕ) (made : Made (step_of m a) (Ok p) head after) (s out : Sample) (rec : s ≡ unread p.counts a.writer a.seq (body_in a)) (was : out ≡ peek_at t (unwrap_or p.old 256))
      (x : Added) (e : x ≡ record { key = p.key; slot = p.slot; evicted = evicted_of p.old out }) where
    came-planned : refusal_of m a ≡ 0 → Came (M.adding m a) (Ok x) head after (swapped t (unwrap_or p.old 256) p.slot s)
    came-planned z =
        let said : said_of m a ≡ accepted = rw (eq-eqb (refusal_of m a) 0 z) in
        let q : p ≡ record { key = key_in (issue_of m a); slot = slot_of m a; old = slot_in (out_slot m a); counts = counts_of (meta_after m a) } = subst (λ (y : Said). Says y (Ok p)) said made.answer in
        let key : p.key ≡ key_in (issue_of m a) = ap (λ (y : Planned). y.key) q in
        let slot : p.slot ≡ slot_of m a = ap (λ (y : Planned). y.slot) q in
        let old : p.old ≡ slot_in (out_slot m a) = ap (λ (y : Planned). y.old) q in
        let counts : p.counts ≡ counts_of (meta_after m a) = ap (λ (y : Planned). y.counts) q in
        let told : added_as (Ok x) ≡ answer_of t accepted = rw (e, was, key, slot, old) (ap (M.added (key_in (issue_of m a)) (slot_of m a)) (evicted-as t (out_slot m a))) in
        let new : s ≡ record_for m a = rec ∙ ap (λ (c : NotAliveGenerationCounts). unread c a.writer a.seq (body_in a)) counts in
        let left : set t (unwrap_or p.old 256) empty_sample ≡ set (table_of m) (out_slot m a) empty_sample =
        ap (λ (o : the_code.Option ℕ). set t (unwrap_or o 256) empty_sample) old ∙ emptied-as t (out_slot m a) (table-long m h ws t l) ∙ ap (λ (u : List Sample). set u (out_slot m a) empty_sample) l.table in
        record {
          answer = told ∙ sym (ap (answer_of t) said) ∙ ap (λ (u : List Sample). answer_of u (said_of m a)) l.table ∙ sym (answer-is m g a);
          lies = record { head = made.head; words = made.words; table = rw (left, slot, new) (sym (table_is m g a z)) };
        }

    came-added : Came (M.adding m a) (Ok x) head after (swapped t (unwrap_or p.old 256) p.slot s)
    came-added = go (refusal_of m a) refl
      where
        go : (n : ℕ) → refusal_of m a ≡ n → Came (M.adding m a) (Ok x) head after (swapped t (unwrap_or p.old 256) p.slot s)
        go zero z = came-planned z
        go (suc n) z = let said : said_of m a ≡ S.refused (refusal_of m a) = rw (ne_eqb (refusal_of m a) 0 (λ q. omega arith)) in absurd (subst (λ (y : Said). Says y (Ok p)) said made.answer)

-- ---- as the code meets it

module _ (i after : Index) (t : List Sample) (n : ℕ) (w : List ℕ) (q time k x : ℕ) where
  abbrev a : Arrival
  a = record { name = n; writer = w; seq = q; time = time; kind = k; handle = x }

  abbrev CameSo : Result Added Refusal → Index → List Sample → Type 0
  CameSo r y then = (m : Model) → Good m → Lies m i.head i.words t → Came (step m (M.add a)) r y.head y.words then

  abbrev LeftSo : Result Added Refusal → Index → List Sample → Type 0
  LeftSo r y then = Unfit t a → (r ≡ not_added) × (y ≡ i) × (then ≡ t)

  pub add-no-table : (length t ≡ 256 → ⊥) → CameSo not_added i t × LeftSo not_added i t
  add-no-table bad = (λ m g l. absurd (bad (table-long m i.head i.words t l)), λ u. (refl, refl, refl))

  module _ (b : the_code.Option Body) (e : b ≡ arrived_body k x q) (r : Result Body Refusal) (f : r ≡ ok_or b refusal.Malformed) where
    pub add-malformed : (y : Refusal) → r ≡ Err y → CameSo (Err y) i t × LeftSo (Err y) i t
    add-malformed y p =
        let z : (well_formed a ≡ false) × (y ≡ refusal.Malformed) = unformed a b e r f y p in
        rw z.1 (λ m g l. came-unfit m g a i.head i.words t l z.0, λ u. (refl, refl, refl))

    module _ (long : length t ≡ 256) (y : Body) (p : r ≡ Ok y) where
      -- a well-formed add with its table
      fit : {A : Type 0} → Unfit t a → A
      fit (no_table u) = absurd (u long)
      fit (malformed u) = absurd (true≢false (sym (formed-so a b e r f y p).0 ∙ u))

      module _ (o : Result Planned Refusal) (made : (s : Store) → Tied s i.head i.words → Made (S.adding s (wanted n time (made_by y))) o after.head after.words) where
        made-of : (m : Model) → Good m → Lies m i.head i.words t → (z : Result Planned Refusal) → o ≡ z → Made (step_of m a) z after.head after.words
        made-of m g l z j =
            let c : (well_formed a ≡ true) × (y ≡ body_in a) = formed-so a b e r f y p in
            let first : Made (S.adding (store_of m) (wanted n time (made_by (body_in a)))) z after.head after.words = rw (c.1, j) at (made (store_of m) (tied m i.head i.words t g l)) in
            rw (adding-is m g a c.0) at first

        whole : (m : Model) (v : Result Added Refusal) (then : List Sample) → Came (M.adding m a) v after.head after.words then → Came (step m (M.add a)) v after.head after.words then
        unfolding step
        whole m v then c = c

        pub add-refused : (z : Refusal) → o ≡ Err z → CameSo (Err z) after t × LeftSo (Err z) after t
        add-refused z j = (λ m g l. whole m (Err z) t (came-refused m g a i.head i.words t l z after.head after.words (made-of m g l (Err z) j)), λ u. fit u)

        pub add-done : (z : Planned) → o ≡ Ok z → (s out : Sample) → s ≡ unread z.counts w q y → out ≡ peek_at t (unwrap_or z.old 256) → (then : List Sample) → then ≡ swapped t (unwrap_or z.old 256) z.slot s
            → (v : Added) → v ≡ record { key = z.key; slot = z.slot; evicted = evicted_of z.old out } → CameSo (Ok v) after then × LeftSo (Ok v) after then
        add-done z j s out rec was then tab v ev =
            let c : (well_formed a ≡ true) × (y ≡ body_in a) = formed-so a b e r f y p in
            let new : s ≡ unread z.counts w q (body_in a) = rw c.1 at rec in
            (λ m g l. whole m (Ok v) then (rw tab (came-added m g a i.head i.words t l z after.head after.words (made-of m g l (Ok z) j) s out new was v ev)), λ u. fit u)
