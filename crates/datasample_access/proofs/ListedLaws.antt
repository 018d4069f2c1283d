-- Reading and taking a list in the code is the model's: the last step of the proof.
use Rattle.std.specs.Prelude.{◌≡◌, refl, MatchOption, None, Some, Bool, true, false, ℕ, suc, ◌*◌, ◌/◌, ◌≤◌, ◌<◌, length, get_or, drop, replicate, ltb, leb}
use Rattle.std.proofs.Common.{sym, ap, ◌∙◌, arith, ltb-true, ltb-false, le-leb, lt-ltb, le-ltb}
use Rattle.std.proofs.Math.Option.{Option, some, none}
use mathlib.Core.List.{List, [], ◌∷◌, ◌++◌}
use Rattle.std.proofs.lemmas.Bool.{lt-leb}
use Rattle.std.proofs.Math.ListN.{length-map, take as take-list}
use Rattle.std.proofs.lemmas.List.{length-replicate}
use Rattle.std.proofs.Math.Seq.{take_all}
use Rattle.lists.specs.Every.{Every}
use Rattle.sampleinfo.specs.declared.NotAliveGenerationCounts.{NotAliveGenerationCounts}
use Rattle.sampleinfo.specs.declared.Sample.{Sample}
use Rattle.model.specs.Pairs.{Pair, Bad, first_bad, none_bad}
use Rattle.model.specs.Model.{Model, is_live, fine, infos_for, access, accessing, step, refuse, Edition, by_the_rust}
use Rattle.model.specs.BadLaws.{all_live}
use Rattle.model.proofs.BadLaws.{fine-live}
use Rattle.model.specs.PairLaws.{split}
use Rattle.pairs.specs.Flat.{pairs_of, whole_pairs}
use Rattle.pairs.specs.FlatLaws.{length_pairs}
use Rattle.pairs.specs.BadLaws.{none-dead}
use Rattle.store.specs.Store.{Store, slot_named, is_held, latest_slot}
use Rattle.index.specs.Memory.{index_of, head_of, Tied}
use Rattle.index.specs.MemoryLaws.{few32}
use Rattle.index.specs.declared.Cache.{Cache}
use Rattle.index.specs.declared.Index.{Index}
use Rattle.refine.specs.Good.{Good}
use Rattle.refine.proofs.FitOf.{fit_of}
use Rattle.refine.specs.Layout.{inst_of, store_of, table_of}
use Rattle.refine.proofs.Found.{at-below}
use Rattle.refine.proofs.Named.{insts-of, Known}
use Rattle.refine.proofs.Fold.{and-true, Names, names_of, known_of}
use Rattle.refine.proofs.Viewed.{take-store, take-table, read-store, read_table}
use Rattle.refine.proofs.Infos.{infos-is, first-bad-is}
use Rattle.refine.specs.Lists.{slots_named, freed_all, cleared_all, marked_all, seen_at, viewed_rows, slot_infos, infos_at}
use Rattle.infos.specs.declared.Ranking.{Ranking}
use Rattle.infos.specs.Words.{places_in, put_infos, infos_then, words_of_infos}
use Rattle.infos.specs.FlatLaws.{put_all}
use Rattle.samples.specs.Table.{peek_at}
use Rattle.memory.specs.Lies.{Lies, tied, table-long}
use Rattle.access.specs.Access.{run, named_first, number_of, or_short, list_refusal, slots_after, Refuses, Judges, last_counts, noted_all, infos_by, freed_each, settled}
use Rattle.std.specs.Option.{unwrap_or}
use Rattle.std.specs.declared.option.Option as the_code
use Rattle.std.specs.declared.result.Result.{Result}
use Rattle.std.specs.declared.result.Result.TheVariants.{Ok, Err}
use Rattle.std.proofs.Math.Decide.{dec_lt}
use Rattle.std.proofs.Math.ListN.{get_or-eq_default}
use Rattle.sampleinfo.specs.Samples.{empty_sample}
use Rattle.refusals.specs.Numbers as refusal
use Rattle.refusals.specs.NumberLaws.{number-above-0}
use Rattle.refusals.specs.declared.Refusal.{Refusal}
use Rattle.refusals.specs.declared.Refusal.TheVariants.{Malformed}
use Rattle.change.specs.Change.{code_of}
use Rattle.index.specs.Words.{slot_in}
use Rattle.datasample_access.specs.Listed.{Told, listing, Came, not_listed, Unfit, no_table, odd, touched_all, ranking_of, Served}
use Rattle.datasample_access.specs.SlotLaws.{run-front, Owned, RankedBy, infos-slots, last-total, noted-all, zero-at, viewed-same, freed-each, touched-take, touched-read}
use Rattle.datasample_access.specs.FewLaws.{few-pairs}

-- ---- what the code's steps come to

-- the record in the slot, the empty record where there is none
peek-slot : (t : List Sample) (n : ℕ) → length t ≡ 256 → peek_at t (unwrap_or (slot_in n) 256) ≡ peek_at t n
peek-slot t n l = go (dec_lt n 256)
  where
    go : Dec (n < 256) → peek_at t (unwrap_or (slot_in n) 256) ≡ peek_at t n
    go (yes h) = rw (lt-ltb n 256 h)
    go (no h) = rw (le-ltb n 256 (omega arith)) (get_or-eq_default t empty_sample {n = 256} (omega arith) ∙ sym (get_or-eq_default t empty_sample {n = n} (omega arith)))

pub latest-of : (t : List Sample) (last : the_code.Option ℕ) (x : Sample) → length t ≡ 256 → MatchOption last (x ≡ empty_sample) (λ i. x ≡ peek_at t i) → x ≡ peek_at t (unwrap_or last 256)
latest-of t None x l m = m ∙ sym (get_or-eq_default t empty_sample {n = 256} (omega (arith, l)))
latest-of t (Some i) x l m = m

pub serve-done : (h r : Cache) (take : Bool) (n : ℕ) (slots ws words : List ℕ) (t table : List Sample) (out after : List ℕ) (last : the_code.Option ℕ) (x : Sample) (mrsic : NotAliveGenerationCounts) (ranking : Ranking) (seen noted : List ℕ)
    → after ≡ put_infos out 0 (infos_by ws t ranking (run n 0 slots)) → noted ≡ noted_all ws t seen (run n 0 slots) → seen ≡ replicate 32 0 → ranking ≡ ranking_of x mrsic → x ≡ peek_at t (unwrap_or last 256)
    → mrsic ≡ last_counts ws slots n → table ≡ touched_all t take (run n 0 slots) → ((z : Store) → Tied z h ws → last ≡ slot_in (latest_slot z)) → length t ≡ 256
    → ((z : Store) → Tied z h ws → Tied (settled z take (run n 0 slots) noted) r words)
    → (s : Store) → Tied s h ws → Served s take n slots ws t out r words table after
serve-done h r take n slots ws words t table out after last x mrsic ranking seen noted ea en es em ex ei et el long er s k = record {
  tied = rw (← es, ← en) (er s k);
  touched = et;
  infos = ea ∙ ap (λ (q : Ranking). put_infos out 0 (infos_by ws t q (run n 0 slots)))
      (em ∙ ap (λ (y : Sample). ranking_of y mrsic) (ex ∙ ap (λ (o : the_code.Option ℕ). peek_at t (unwrap_or o 256)) (el s k) ∙ peek-slot t (latest_slot s) long) ∙ ap (ranking_of (peek_at t (latest_slot s))) ei);
}

module _ (m : Model) (g : Good m) where
  -- each slot that a live pair names is owned by an instance that is held
  owned : (ps : List Pair) → all_live m ps ≡ true → Every (Owned (store_of m)) (slots_named (store_of m) ps)
  unfolding Every all_live
  owned [] l = tt
  owned (p ∷ ps) l =
      let b : (is_live m p ≡ true) × (all_live m ps ≡ true) = and-true (is_live m p) (all_live m ps) l in
      let n : Names m p = names_of m p b.0 in
      let k : Known m g p n.s = known_of m g p n in
      (rw (k.slot, k.owner, insts-of m g) (omega (arith, at-below m g p.name n.i n.found, length-map m.instances (inst_of m.keep))), owned ps b.1)

  -- ---- refused or not

  module _ (take : Bool) (list : List ℕ) (room : ℕ) (slots : List ℕ) where
    abbrev ps : List Pair
    ps = pairs_of list

    pub record Accepts : Type 0 where
      pub fine-list : fine m ps ≡ true
      pub enough : length ps ≤ room
      pub few : length ps ≤ 256
      pub done : listing m take list room ≡ access take m ps
      pub names : slots_after (store_of m) list slots ≡ named_first (store_of m) ps slots

    abbrev Verdict : ℕ → Type 0
    Verdict r = ((r ≡ 0 → ⊥) → listing m take list room ≡ refuse m r) × (r ≡ 0 → Accepts)

    refusing : (r k : ℕ) → r ≡ suc k → listing m take list room ≡ refuse m (suc k) → Verdict r
    refusing r k e q = (λ n. q ∙ ap (λ (j : ℕ). refuse m j) (sym e), λ z. absurd (omega arith))

    unfine-access : fine m ps ≡ false → accessing take m ps room ≡ refuse m 8
    unfolding accessing
    unfine-access f = rw f

    short-access : fine m ps ≡ true → leb (length ps) room ≡ false → accessing take m ps room ≡ refuse m 9
    unfolding accessing
    short-access f b = rw (f, b)

    done-access : fine m ps ≡ true → leb (length ps) room ≡ true → accessing take m ps room ≡ access take m ps
    unfolding accessing
    done-access f b = rw (f, b)

    module _ (w : whole_pairs list ≡ true) where
      whole-step : listing m take list room ≡ accessing take m ps room
      unfolding listing step
      whole-step = rw w

      unfine-step : fine m ps ≡ false → listing m take list room ≡ refuse m 8
      unfine-step f = whole-step ∙ unfine-access f

      short-step : fine m ps ≡ true → room < length ps → listing m take list room ≡ refuse m 9
      short-step f l = whole-step ∙ short-access f (lt-leb (length ps) room l)

      done-step : fine m ps ≡ true → length ps ≤ room → listing m take list room ≡ access take m ps
      done-step f l = whole-step ∙ done-access f (le-leb (length ps) room l)

      is-eight : (ltb 256 (length ps) ≡ true) → list_refusal (store_of m) list room ≡ 8
      unfolding list_refusal
      is-eight b = rw (w, b)

      unfine : (b : Bool) → fine m ps ≡ b → 256 < length ps → fine m ps ≡ false
      unfine true e l = absurd (omega (arith, few-pairs m g ps e))
      unfine false e l = e

      module _ (b : ltb 256 (length ps) ≡ false) where
        -- the first bad pair of the model is that of the store
        fine-held : fine m ps ≡ none_bad (first_bad (is_held (store_of m)) ps)
        fine-held = ap none_bad (first-bad-is m g ps)

        number_is : list_refusal (store_of m) list room ≡ or_short (number_of (first_bad (is_held (store_of m)) ps)) room (length ps)
        unfolding list_refusal
        number_is = rw (w, b)

        module _ (c : first_bad (is_held (store_of m)) ps ≡ none) where
          names-are : slots_after (store_of m) list slots ≡ named_first (store_of m) ps slots
          unfolding slots_after
          names-are = rw (w, b) (ap (λ (qs : List Pair). named_first (store_of m) qs slots)
              (ap (λ (k : ℕ). take-list k ps) (none-dead (is_held (store_of m)) ps c) ∙ take_all (length ps) ps (omega arith)))

          is-fine : fine m ps ≡ true
          is-fine = fine-held ∙ ap none_bad c

          is-short : ltb room (length ps) ≡ true → list_refusal (store_of m) list room ≡ 9
          is-short e = number_is ∙ rw (c, e)

          is_none : ltb room (length ps) ≡ false → list_refusal (store_of m) list room ≡ 0
          is_none e = number_is ∙ rw (c, e)

          fine-verdict : Verdict (list_refusal (store_of m) list room)
          fine-verdict = split (ltb room (length ps))
              (λ e. refusing (list_refusal (store_of m) list room) 8 (is-short e) (short-step is-fine (ltb-true room (length ps) e)))
              (λ e. (
                λ n. absurd (n (is_none e)),
                λ z. record {
                  fine-list = is-fine;
                  enough = ltb-false room (length ps) e;
                  few = ltb-false 256 (length ps) b;
                  done = done-step is-fine (ltb-false room (length ps) e);
                  names = names-are;
                },
              ))

        few-verdict : Verdict (list_refusal (store_of m) list room)
        few-verdict = go (first_bad (is_held (store_of m)) ps) refl
          where
            go : (x : Option Bad) → first_bad (is_held (store_of m)) ps ≡ x → Verdict (list_refusal (store_of m) list room)
            go none e = fine-verdict e
            go (some x) e = refusing (list_refusal (store_of m) list room) 7 (number_is ∙ rw e) (unfine-step (fine-held ∙ ap none_bad e))

      whole-verdict : Verdict (list_refusal (store_of m) list room)
      whole-verdict = split (ltb 256 (length ps))
          (λ b. refusing (list_refusal (store_of m) list room) 7 (is-eight b) (unfine-step (unfine (fine m ps) refl (ltb-true 256 (length ps) b))))
          few-verdict

    odd_step : whole_pairs list ≡ false → listing m take list room ≡ refuse m 1
    unfolding listing step
    odd_step w = rw w

    is_odd : whole_pairs list ≡ false → list_refusal (store_of m) list room ≡ 1
    unfolding list_refusal
    is_odd w = rw w

    pub verdict : Verdict (list_refusal (store_of m) list room)
    verdict = split (whole_pairs list) whole-verdict (λ w. refusing (list_refusal (store_of m) list room) 0 (is_odd w) (odd_step w))

-- ---- accepted

length-infos : (e : Edition) (s : Store) (t : List Sample) (whole ks : List ℕ) → length (slot_infos e s t whole ks) ≡ length ks
unfolding slot_infos
length-infos e s t whole [] = refl
length-infos e s t whole (k ∷ ks) = ap suc (length-infos e s t whole ks)

module _ (m : Model) (g : Good m) (h : Cache) (ws : List ℕ) (t : List Sample) (l : Lies m h ws t) (take : Bool) (ps : List Pair) (ok : fine m ps ≡ true) where
  abbrev s : Store
  s = store_of m

  abbrev ks : List ℕ
  ks = slots_named (store_of m) ps

  live : all_live m ps ≡ true
  live = fine-live m ps ok

  every-owned : Every (Owned s) ks
  every-owned = owned m g ps live

  abbrev seen : ℕ → ℕ
  seen r = get_or (noted_all ws t (replicate 32 0) ks) r 0

  abbrev sought : ℕ → ℕ
  sought r = seen_at (table_of m) s.owners ks r

  seen-is : (r : ℕ) → r < length s.insts → seen r ≡ sought r
  seen-is r b =
      let c : seen r ≡ _ = noted-all s (fit_of m g) ws l.words t r (omega (arith, few32 s (fit_of m g))) ks (replicate 32 0) (length-replicate {A = ℕ} 32 0) in
      omega (arith, c, zero-at 32 r, ap (λ (x : List Sample). seen_at x s.owners ks r) l.table)

  store_is : settled s take ks (noted_all ws t (replicate 32 0) ks) ≡ store_of (access take m ps).then
  store_is = go take
    where
      freed-is : freed_each s ks ≡ freed_all s ks
      freed-is = (freed-each s ks every-owned).0

      rows_same : length (freed_all s ks).insts ≡ length s.insts
      rows_same = (freed-each s ks every-owned).1

      go : (b : Bool) → settled s b ks (noted_all ws t (replicate 32 0) ks) ≡ store_of (access b m ps).then
      go true = ap (λ (z : Store). viewed_rows (length z.insts) seen z) freed-is ∙ ap (λ (n : ℕ). viewed_rows n seen (freed_all s ks)) rows_same
          ∙ viewed-same (length s.insts) seen sought (freed_all s ks) seen-is ∙ sym (take-store m g ps ok)
      go false = viewed-same (length s.insts) seen sought s seen-is ∙ sym (read-store m g ps ok)

  table_is : touched_all t take ks ≡ table_of (access take m ps).then
  table_is = go take
    where
      go : (b : Bool) → touched_all t b ks ≡ table_of (access b m ps).then
      go true = touched-take t ks ∙ ap (λ (x : List Sample). cleared_all x ks) l.table ∙ sym (take-table m g ps ok)
      go false = touched-read t ks ∙ ap (λ (x : List Sample). marked_all x ks) l.table ∙ sym (read_table m g ps ok)

  module _ (n : ℕ) (e : n ≡ length ps) (few : length ps ≤ 256) (rest : List ℕ) where
    length-ks : n ≡ length ks
    length-ks = e ∙ sym (length-map ps (slot_named s))

    abbrev ranking : Ranking
    ranking = ranking_of (peek_at t (latest_slot s)) (last_counts ws (ks ++ rest) n)

    ranked : RankedBy s (fit_of m g) ws l.words t ranking ks
    ranked = record { mrs = refl; mrsic = last-total s (fit_of m g) ws l.words t n ks rest length-ks (omega arith) every-owned }

    infos-made : infos_by ws t ranking ks ≡ infos_for m ps
    infos-made = infos-slots s (fit_of m g) ws l.words t ranking ks ks ranked every-owned
        ∙ ap (λ (x : List Sample). infos_at s x ks) l.table ∙ sym (infos-is m g ps live)

    length-made : length (infos_for m ps) ≡ n
    length-made = ap length (infos-is m g ps live) ∙ length-infos by_the_rust s (table_of m) ks ks ∙ sym length-ks

    told : (out after : List ℕ) → after ≡ words_of_infos (infos_for m ps) ++ drop (27 * length (infos_for m ps)) out → Told (access take m ps).answer (Ok n) out after
    unfolding access infos_then
    told out after q = (sym length-made, q)

    came-done : (r : Cache) (words : List ℕ) (table : List Sample) (out after : List ℕ) → n ≤ places_in out → Served s take n (ks ++ rest) ws t out r words table after
        → Came (access take m ps) (Ok n) r words table out after
    came-done r words table out after room v =
        let run_is : run n 0 (ks ++ rest) ≡ ks = run-front n ks rest length-ks (omega arith) in
        let k : Tied (settled s take ks (noted_all ws t (replicate 32 0) ks)) r words = rw run_is at v.tied in
        record {
          answer = told out after (v.infos ∙ ap (λ (x : List ℕ). put_infos out 0 (infos_by ws t ranking x)) run_is ∙ ap (put_infos out 0) infos-made ∙ put_all out (infos_for m ps) (omega (arith, length-made)));
          lies = record {
            head = k.head ∙ ap head_of store_is;
            words = k.words ∙ ap index_of store_is;
            table = v.touched ∙ ap (touched_all t take) run_is ∙ table_is;
          };
        }

-- ---- as the code meets it

module _ (h : Cache) (ws : List ℕ) (t : List Sample) (list out : List ℕ) (take : Bool) (room : ℕ) (k : Result Unit Refusal) (slots after : List ℕ)
    (f : Judges h ws list room k slots after) (long : slots ≡ replicate 256 0) (q : room ≡ places_in out) where
  full : length slots ≡ 256
  full = ap length long ∙ length-replicate {A = ℕ} 256 0

  pub came-declined : (e : Refusal) → k ≡ Err e → (m : Model) → Good m → Lies m h ws t → Came (listing m take list (places_in out)) (Err e) h ws t out out
  came-declined e p m g l =
      let x : refusal.number_of e ≡ list_refusal (store_of m) list room = sym (ap code_of p) ∙ (f.tied (store_of m) full (tied m h ws t g l)).number in
      let st : listing m take list room ≡ refuse m (list_refusal (store_of m) list room) = (verdict m g take list room slots).0 (λ z. omega (arith, number-above-0 e, x, z)) in
      rw (← q, st, ← x) (record { answer = (refl, refl); lies = l })

  pub came-listed : (x : Unit {0}) → k ≡ Ok x → (head : Cache) (words : List ℕ) (table : List Sample) (end : List ℕ) → ((z : Store) → Tied z h ws → Served z take (length list / 2) after ws t out head words table end)
      → (m : Model) → Good m → Lies m h ws t → Came (listing m take list (places_in out)) (Ok (length list / 2)) head words table out end
  came-listed x p head words table end v m g l =
      let c : Refuses (store_of m) list room k slots after = f.tied (store_of m) full (tied m h ws t g l) in
      let a : Accepts m g take list room slots = (verdict m g take list room slots).1 (sym c.number ∙ ap code_of p) in
      let sv : Served (store_of m) take (length list / 2) (named_first (store_of m) (pairs_of list) slots) ws t out head words table end = rw (c.names ∙ a.names) at (v (store_of m) (tied m h ws t g l)) in
      rw (← q, a.done)
      (came-done m g h ws t l take (pairs_of list) a.fine-list (length list / 2) (sym (length_pairs list)) a.few (drop (length (pairs_of list)) slots) head words table out end
      (omega (arith, a.enough, length_pairs list)) sv)

pub came-no-table : (h : Cache) (ws : List ℕ) (t : List Sample) (list out : List ℕ) (take : Bool) (r : Result ℕ Refusal) → (length t ≡ 256 → ⊥) → (m : Model) → Good m → Lies m h ws t
    → Came (listing m take list (places_in out)) r h ws t out out
came-no-table h ws t list out take r n m g l = absurd (n (table-long m h ws t l))

-- refusal 1 on any memory
pub odd-declined : (x : Index) (t : List Sample) (list out : List ℕ) (room : ℕ) (k : Result Unit Refusal) (slots after : List ℕ) (e : Refusal) → Judges x.head x.words list room k slots after → k ≡ Err e
    → length t ≡ 256 → Unfit t list → (Err e ≡ not_listed) × (x ≡ x) × (t ≡ t) × (out ≡ out)
odd-declined x t list out room k slots after e f p long (no_table n) = absurd (n long)
odd-declined x t list out room k slots after e f p long (odd w) = let z : ◌≡◌ {A = Result Unit Refusal} (Err e) (Err Malformed) = sym p ∙ f.odd w in let s : e ≡ Malformed = cc in (ap Err s, refl, refl, refl)

pub odd-not-served : (h : Cache) (ws : List ℕ) (t : List Sample) (list : List ℕ) (room : ℕ) (k : Result Unit Refusal) (slots after : List ℕ) (A : Type 0) (x : Unit {0}) → Judges h ws list room k slots after → k ≡ Ok x
    → length t ≡ 256 → Unfit t list → A
odd-not-served h ws t list room k slots after A x f z long (no_table n) = absurd (n long)
odd-not-served h ws t list room k slots after A x f z long (odd w) = let y : ◌≡◌ {A = Result Unit Refusal} (Ok x) (Err Malformed) = sym z ∙ f.odd w in absurd (cc)
