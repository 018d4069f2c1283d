-- The slots of a list one after the other, as the code meets them; and what they come to on a store.
use Rattle.std.specs.Prelude.{◌≡◌, Bool, true, false, cond, get_or, set, replicate, ltb, eqb}
use Rattle.std.proofs.Math.Path.{refl, sym, ap}
use Rattle.std.proofs.Common.{◌∙◌, add-one, length-set, length-append, length-take, length-drop}
use mathlib.Core.List.{List, [], ◌∷◌, ◌++◌}
use Prim.Native.Nat.{ℕ, zero, suc, ◌+◌, ◌-◌, ◌≤◌, ◌<◌, max}
use Rattle.std.proofs.Math.Nat.{sub-zero}
use native.Mathlib.Omega.{arith}
use borrow.Author.Tests.{lt-ltb, eq-eqb, ne_eqb, eqb-true, eqb-false, ltb-true, ltb-false}
use Rattle.std.proofs.Math.ListN.{length, take}
use Rattle.std.proofs.Math.Seq.{get_or-set_same, get_or-set_other}
use Rattle.lists.specs.Every.{Every, every_map}
use Rattle.lists.specs.Blocks.{length-put-in}
use Rattle.sampleinfo.specs.Counts.{total, accessed_at}
use Rattle.sampleinfo.specs.Lifecycle.{counts_of}
use Rattle.sampleinfo.specs.Samples.{empty_sample, total_of}
use Rattle.sampleinfo.specs.declared.Sample.{Sample}
use Rattle.sampleinfo.specs.declared.Info.{Info}
use Rattle.model.specs.Model.{by_the_rust}
use Rattle.model.specs.PairLaws.{split}
use Rattle.store.specs.Store.{Store, latest_slot, freed, accessed_in}
use Rattle.store.specs.Fit.{Fit}
use Rattle.index.specs.Words.{metas_in, owners_in, meta_at}
use Rattle.index.specs.Memory.{index_of}
use Rattle.index.specs.MemoryLaws.{owners-are, meta-is}
use Rattle.refine.specs.Lists.{owner_at, freed_all, cleared_all, marked_all, seen_at, viewed_rows, last_owned, ranks_on, slot_infos}
use Rattle.infos.specs.Infos.{ranks_from, info_from}
use Rattle.infos.specs.declared.Ranking.{Ranking}
use Rattle.infos.specs.Words.{places_in, laid, put_info, put_infos}
use Rattle.infos.specs.BackLaws.{words_long}
use Rattle.samples.specs.Table.{peek_at, touched}
use Rattle.access.specs.Access.{slot_at, run, last_counts, noted, noted_all, infos_by, freed_each}
use Rattle.datasample_access.specs.Listed.{touched_all}

-- ---- the places of a list

unfoldable plain : ℕ → ℕ → List ℕ → List ℕ
plain zero p l = []
plain (suc n) p l = get_or l p 0 ∷ plain n (suc p) l

run-plain : (n p : ℕ) (l : List ℕ) → p + n ≤ 256 → run n p l ≡ plain n p l
unfolding run plain
run-plain zero p l h = refl
run-plain (suc n) p l h = rw (lt-ltb p 256 (omega arith), add-one p, run-plain n (suc p) l (omega arith))

plain-shift : (n p x : ℕ) (l : List ℕ) → plain n (suc p) (x ∷ l) ≡ plain n p l
unfolding plain
plain-shift zero p x l = refl
plain-shift (suc n) p x l = ap (λ (r : List ℕ). get_or l p 0 ∷ r) (plain-shift n (suc p) x l)

plain-front : (ks rest : List ℕ) → plain (length ks) 0 (ks ++ rest) ≡ ks
unfolding plain
plain-front [] rest = refl
plain-front (k ∷ ks) rest = ap (λ (r : List ℕ). k ∷ r) (plain-shift (length ks) 0 k (ks ++ rest) ∙ plain-front ks rest)

pub run-front : (n : ℕ) (ks rest : List ℕ) → n ≡ length ks → n ≤ 256 → run n 0 (ks ++ rest) ≡ ks
run-front n ks rest e h = run-plain n 0 (ks ++ rest) (omega arith) ∙ ap (λ (m : ℕ). plain m 0 (ks ++ rest)) e ∙ plain-front ks rest

length_run : (n p : ℕ) (l : List ℕ) → length (run n p l) ≡ n
unfolding run
length_run zero p l = refl
length_run (suc n) p l = ap suc (length_run n (p + 1) l)

-- ---- the loops

module _ (ws : List ℕ) (t : List Sample) (slots : List ℕ) where
  module _ (r : Ranking) where
    pub put-start : (n : ℕ) (l : List ℕ) → put_infos l 0 (infos_by ws t r (run (n - 0) 0 slots)) ≡ put_infos l 0 (infos_by ws t r (run n 0 slots))
    put-start n l = ap (λ (k : ℕ). put_infos l 0 (infos_by ws t r (run k 0 slots))) (sub-zero n)

    infos-next : (m p : ℕ) → infos_by ws t r (run (suc m) p slots)
        ≡ info_from (peek_at t (slot_at slots p)) (meta_at (metas_in ws) (get_or (owners_in ws) (slot_at slots p) 0)) (ranks_from r m (peek_at t (slot_at slots p)).generation_counts) ∷ infos_by ws t r (run m (p + 1) slots)
    unfolding run infos_by
    infos-next m p = rw (length_run m (p + 1) slots)

    put_next : (l : List ℕ) (p : ℕ) (x : Info) (xs : List Info) → put_infos l p (x ∷ xs) ≡ put_infos (put_info l p x) (p + 1) xs
    unfolding put_infos
    put_next l p x xs = refl

    pub put-turn : (n p slot : ℕ) (s : Sample) (l k all : List ℕ) → put_infos l p (infos_by ws t r (run (n - p) p slots)) ≡ all → p < n → slot ≡ slot_at slots p → s ≡ peek_at t slot
        → k ≡ put_info l p (info_from s (meta_at (metas_in ws) (get_or (owners_in ws) slot 0)) (ranks_from r (n - 1 - p) s.generation_counts))
        → put_infos k (p + 1) (infos_by ws t r (run (n - (p + 1)) (p + 1) slots)) ≡ all
    put-turn n p slot s l k all inv h e f q =
        let one : n - p ≡ suc (n - (p + 1)) = omega arith in
        let follow : n - 1 - p ≡ n - (p + 1) = omega arith in
        let rest : List Info = infos_by ws t r (run (n - (p + 1)) (p + 1) slots) in
        rw (q, follow, f, e)
        (sym (ap (λ (m : ℕ). put_infos l p (infos_by ws t r (run m p slots))) one ∙ ap (put_infos l p) (infos-next (n - (p + 1)) p) ∙ put_next l p _ rest) ∙ inv)

    pub put-end : (n p : ℕ) (l all : List ℕ) → put_infos l p (infos_by ws t r (run (n - p) p slots)) ≡ all → n ≤ p → l ≡ all
    unfolding run infos_by put_infos
    put-end n p l all inv h = let none : n - p ≡ 0 = omega arith in sym (ap (λ (m : ℕ). put_infos l p (infos_by ws t r (run m p slots))) none) ∙ inv

  pub note-start : (n : ℕ) (l : List ℕ) → noted_all ws t l (run (n - 0) 0 slots) ≡ noted_all ws t l (run n 0 slots)
  note-start n l = ap (λ (k : ℕ). noted_all ws t l (run k 0 slots)) (sub-zero n)

  noted-next : (m p : ℕ) (l : List ℕ) → noted_all ws t l (run (suc m) p slots)
      ≡ noted_all ws t (noted l (get_or (owners_in ws) (slot_at slots p) 0) (accessed_at (total_of (peek_at t (slot_at slots p))))) (run m (p + 1) slots)
  unfolding run noted_all
  noted-next m p l = refl

  pub note-turn : (n p slot : ℕ) (s : Sample) (l k all : List ℕ) → noted_all ws t l (run (n - p) p slots) ≡ all → p < n → slot ≡ slot_at slots p → s ≡ peek_at t slot
      → k ≡ noted l (get_or (owners_in ws) slot 0) (accessed_at (total_of s)) → noted_all ws t k (run (n - (p + 1)) (p + 1) slots) ≡ all
  note-turn n p slot s l k all inv h e f q =
      let one : n - p ≡ suc (n - (p + 1)) = omega arith in
      rw (q, f, e) (sym (ap (λ (m : ℕ). noted_all ws t l (run m p slots)) one ∙ noted-next (n - (p + 1)) p l) ∙ inv)

  pub note-end : (n p : ℕ) (l all : List ℕ) → noted_all ws t l (run (n - p) p slots) ≡ all → n ≤ p → l ≡ all
  unfolding run noted_all
  note-end n p l all inv h = let none : n - p ≡ 0 = omega arith in sym (ap (λ (m : ℕ). noted_all ws t l (run m p slots)) none) ∙ inv

module _ (slots : List ℕ) (take : Bool) where
  pub touch-start : (n : ℕ) (t : List Sample) → touched_all t take (run (n - 0) 0 slots) ≡ touched_all t take (run n 0 slots)
  touch-start n t = ap (λ (k : ℕ). touched_all t take (run k 0 slots)) (sub-zero n)

  pub touch-end : (n p : ℕ) (t all : List Sample) → touched_all t take (run (n - p) p slots) ≡ all → n ≤ p → t ≡ all
  unfolding run touched_all
  touch-end n p t all inv h = let none : n - p ≡ 0 = omega arith in sym (ap (λ (m : ℕ). touched_all t take (run m p slots)) none) ∙ inv

length-info : (l : List ℕ) (p : ℕ) (x : Info) → length (put_info l p x) ≡ length l
unfolding put_info laid
length-info l p x = split (ltb p (places_in l))
    (λ q. rw q (simp (length-append, length-take, length-drop) (omega (arith, ltb-true p (places_in l) q, words_long x))))
    (λ q. rw q)

pub put-long : (l k : List ℕ) (p n : ℕ) (x : Info) → length l ≡ n → k ≡ put_info l p x → length k ≡ n
put-long l k p n x e q = ap length q ∙ length-info l p x ∙ e

pub touch-long : (t u : List Sample) (slot n : ℕ) (take : Bool) → length t ≡ n → u ≡ touched t slot take → length u ≡ n
touch-long t u slot n take e q = ap length q ∙ length-set t slot _ ∙ e

-- ---- on a store

abbrev pub Owned : Store → ℕ → Type 0
Owned s k = get_or s.owners k 0 < length s.insts

module _ (s : Store) (f : Fit s) (ws : List ℕ) (w : ws ≡ index_of s) (t : List Sample) where
  owner-word : (k : ℕ) → get_or (owners_in ws) k 0 ≡ get_or s.owners k 0
  owner-word k = rw (w, owners-are s f)

  meta-word : (k : ℕ) → Owned s k → meta_at (metas_in ws) (get_or (owners_in ws) k 0) ≡ (owner_at s k).meta
  meta-word k o = ap (meta_at (metas_in ws)) (owner-word k) ∙ ap (λ (x : List ℕ). meta_at (metas_in x) (get_or s.owners k 0)) w ∙ meta-is s f (get_or s.owners k 0) o

  -- the two latest totals that the ranks of edition 1 are counted from
  pub record RankedBy (r : Ranking) (whole : List ℕ) : Type 0 where
    pub mrs : total r.mrs_generations ≡ total_of (peek_at t (latest_slot s))
    pub mrsic : total r.mrsic_generations ≡ last_owned s whole

  ranks-slots : (r : Ranking) (whole behind : List ℕ) (k : ℕ) → RankedBy r whole → ranks_from r (length behind) (peek_at t k).generation_counts ≡ ranks_on by_the_rust s t whole behind k
  unfolding ranks_from ranks_on
  ranks-slots r whole behind k e = rw (e.mrs, e.mrsic)

  pub infos-slots : (r : Ranking) (whole ks : List ℕ) → RankedBy r whole → Every (Owned s) ks → infos_by ws t r ks ≡ slot_infos by_the_rust s t whole ks
  unfolding infos_by slot_infos Every info_from
  infos-slots r whole [] e o = refl
  infos-slots r whole (k ∷ ks) e o = rw (meta-word k o.0, ranks-slots r whole ks k e, infos-slots r whole ks e o.1)

  last-slots : (k : ℕ) (ks rest : List ℕ) → Every (Owned s) (k ∷ ks) → total (counts_of (meta_at (metas_in ws) (get_or (owners_in ws) (get_or ((k ∷ ks) ++ rest) (length ks) 0) 0))) ≡ last_owned s (k ∷ ks)
  unfolding last_owned Every
  last-slots k [] rest o = ap (λ x. total (counts_of x)) (meta-word k o.0)
  last-slots k (l ∷ ks) rest o = last-slots l ks rest o.1

  last-counts : (n k : ℕ) (ks rest : List ℕ) → n ≡ suc (length ks) → n ≤ 256 → Every (Owned s) (k ∷ ks) → total (last_counts ws ((k ∷ ks) ++ rest) n) ≡ last_owned s (k ∷ ks)
  unfolding last_counts
  last-counts n k ks rest e h o =
      let one : n - 1 ≡ length ks = omega arith in
      rw (ne_eqb n 0 (λ z. omega arith), one, lt-ltb (length ks) 256 (omega arith)) (last-slots k ks rest o)

  pub last-total : (n : ℕ) (ks rest : List ℕ) → n ≡ length ks → n ≤ 256 → Every (Owned s) ks → total (last_counts ws (ks ++ rest) n) ≡ last_owned s ks
  unfolding last_counts last_owned
  last-total n [] rest e h o = rw (eq-eqb n 0 e)
  last-total n (k ∷ ks) rest e h o = last-counts n k ks rest e h o

  -- what is noted is what was seen

  max-swap : (a b c : ℕ) → max (max a b) c ≡ max a (max c b)
  max-swap a b c = omega arith

  noted-at : (seen : List ℕ) (row a r : ℕ) → length seen ≡ 32 → r < 32 → get_or (noted seen row a) r 0 ≡ max (get_or seen r 0) (cond (eqb row r) a 0)
  unfolding noted
  noted-at seen row a r long h = split (eqb row r)
      (λ q. let e : row ≡ r = eqb-true row r q in rw (e, eq-eqb r r refl, lt-ltb r 32 h)
      (split (ltb (get_or seen r 0) a)
      (λ v. rw (v, get_or-set_same seen r a 0 (omega arith)) (omega (arith, ltb-true (get_or seen r 0) a v)))
      (λ v. rw v (omega (arith, ltb-false (get_or seen r 0) a v)))))
      (λ q. rw q (split (ltb row 32)
      (λ u. rw u (split (ltb (get_or seen row 0) a)
      (λ v. rw (v, get_or-set_other seen row r a 0 (λ z. eqb-false row r q (sym z))) (omega arith))
      (λ v. rw v (omega arith))))
      (λ u. rw u (omega arith))))

  length-noted : (seen : List ℕ) (row a : ℕ) → length (noted seen row a) ≡ length seen
  unfolding noted
  length-noted seen row a = split (ltb row 32)
      (λ u. rw u (split (ltb (get_or seen row 0) a) (λ v. rw v (length-set seen row a)) (λ v. rw v)))
      (λ u. rw u)

  pub noted-all : (r : ℕ) → r < 32 → (ks seen : List ℕ) → length seen ≡ 32 → get_or (noted_all ws t seen ks) r 0 ≡ max (get_or seen r 0) (seen_at t s.owners ks r)
  unfolding noted_all seen_at
  noted-all r h [] seen long = omega arith
  noted-all r h (k ∷ ks) seen long =
      noted-all r h ks (noted seen (get_or (owners_in ws) k 0) (accessed_at (total_of (get_or t k empty_sample)))) (length-noted seen (get_or (owners_in ws) k 0) (accessed_at (total_of (get_or t k empty_sample))) ∙ long)
      ∙ ap (λ (x : ℕ). max x (seen_at t s.owners ks r)) (noted-at seen (get_or (owners_in ws) k 0) (accessed_at (total_of (get_or t k empty_sample))) r long h)
      ∙ ap (λ (o : ℕ). max (max (get_or seen r 0) (cond (eqb o r) (accessed_at (total_of (get_or t k empty_sample))) 0)) (seen_at t s.owners ks r)) (owner-word k)
      ∙ max-swap (get_or seen r 0) (cond (eqb (get_or s.owners k 0) r) (accessed_at (total_of (get_or t k empty_sample))) 0) (seen_at t s.owners ks r)

pub zero-at : (n r : ℕ) → ◌≡◌ {A = ℕ} (get_or (replicate n 0) r 0) 0
zero-at zero r = refl
zero-at (suc n) zero = refl
zero-at (suc n) (suc r) = zero-at n r

pub viewed-same : (n : ℕ) (f g : ℕ → ℕ) (s : Store) → ((r : ℕ) → r < n → f r ≡ g r) → viewed_rows n f s ≡ viewed_rows n g s
unfolding viewed_rows
viewed-same zero f g s h = refl
viewed-same (suc n) f g s h = turn (f n) (g n) (h n (omega arith)) (viewed_rows n f s) (viewed_rows n g s) (viewed-same n f g s (λ r l. h r (omega arith)))
  where
    turn : (a b : ℕ) → a ≡ b → (y z : Store) → y ≡ z → cond (eqb a 0) y (accessed_in y n a) ≡ cond (eqb b 0) z (accessed_in z n b)
    turn a b p y z q = rw (p, q)

-- ---- freed with their owners

set-le : (l : List ℕ) (k j : ℕ) → get_or (set l k 0) j 0 ≤ get_or l j 0
set-le [] k j = omega arith
set-le (x ∷ l) zero zero = omega arith
set-le (x ∷ l) zero (suc j) = omega arith
set-le (x ∷ l) (suc k) zero = omega arith
set-le (x ∷ l) (suc k) (suc j) = set-le l k j

rows-freed : (s : Store) (row k : ℕ) → row < length s.insts → length (freed s row k).insts ≡ length s.insts
unfolding freed
rows-freed s row k h = length-put-in s.insts row _ h

owners_freed : (s : Store) (row k : ℕ) → (freed s row k).owners ≡ set s.owners k 0
unfolding freed
owners_freed s row k = refl

owned-freed : (s : Store) (row k : ℕ) → row < length s.insts → (j : ℕ) → Owned s j → Owned (freed s row k) j
owned-freed s row k h j o = rw (rows-freed s row k h, owners_freed s row k) (omega (arith, set-le s.owners k j))

pub freed-each : (s : Store) (ks : List ℕ) → Every (Owned s) ks → (freed_each s ks ≡ freed_all s ks) × (length (freed_all s ks).insts ≡ length s.insts)
unfolding freed_each freed_all Every
freed-each s [] o = (refl, refl)
freed-each s (k ∷ ks) o =
    let row : ℕ = get_or s.owners k 0 in
    let rest : (freed_each (freed s row k) ks ≡ freed_all (freed s row k) ks) × (length (freed_all (freed s row k) ks).insts ≡ length (freed s row k).insts) =
    freed-each (freed s row k) ks (every_map (Owned s) (Owned (freed s row k)) ks (owned-freed s row k o.0) o.1) in
    (rw (lt-ltb (get_or s.owners k 0) (length s.insts) o.0) rest.0, rest.1 ∙ rows-freed s row k o.0)

-- ---- the table

pub touched-take : (t : List Sample) (ks : List ℕ) → touched_all t true ks ≡ cleared_all t ks
unfolding touched_all cleared_all
touched-take t [] = refl
touched-take t (k ∷ ks) = touched-take (set t k empty_sample) ks

pub touched-read : (t : List Sample) (ks : List ℕ) → touched_all t false ks ≡ marked_all t ks
unfolding touched_all marked_all
touched-read t [] = refl
touched-read t (k ∷ ks) = touched-read (touched t k false) ks
