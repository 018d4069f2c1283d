-- Reading and taking a list, as the code meets it.
use Rattle.std.specs.Prelude.{◌≡◌, Bool, cond, List, [], ◌∷◌, ◌++◌, set, take, drop, eqb, ltb, Some, None}
use Rattle.std.specs.Prelude as rust
use Rattle.std.specs.Bool.{then_some}
use Rattle.std.specs.Simd.{first_chunks}
use Rattle.std.proofs.Math.Path.{refl, sym, ap}
use Rattle.std.proofs.Common.{◌∙◌, le_of_suc-le-suc, not-suc-le-zero, length-take-le}
use Rattle.std.proofs.Math.Bool.{true, false}
use Prim.Native.Nat.{ℕ, zero, suc, ◌+◌, ◌-◌, ◌*◌, ◌/◌, ◌≤◌, ◌<◌, min}
use Rattle.std.proofs.Math.Nat.{sub-zero}
use Rattle.std.proofs.Math.Numerals.{add-one}
use Rattle.std.proofs.Math.Seq.{get_or-take}
use native.Mathlib.Omega.{arith}
use borrow.Author.Tests.{lt-ltb, le-ltb}
use Rattle.std.proofs.Math.ListN.{length, get_or, length-map}
use Rattle.sampleinfo.specs.Counts.{accessed_at}
use Rattle.sampleinfo.specs.Samples.{total_of}
use Rattle.sampleinfo.specs.declared.InstanceMetaData.{InstanceMetaData}
use Rattle.sampleinfo.specs.declared.Sample.{Sample}
use Rattle.sampleinfo.specs.declared.Info.{Info}
use Rattle.model.specs.Pairs.{Pair}
use Rattle.sampleinfo.specs.declared.Ranks.{Ranks}
use Rattle.pairs.specs.Flat.{pairs_of}
use Rattle.pairs.specs.FlatLaws.{length_pairs, no_pair}
use Rattle.pairs.specs.Repeat.{first_dead, place_in}
use Rattle.pairs.specs.BadLaws.{dead-here, dead-on, dead-past}
use Rattle.store.specs.Store.{Store, slot_named, is_held, accessed_in}
use Rattle.store.specs.Fit.{Fit}
use Rattle.index.specs.Words.{metas_in, owners_in, meta_at, put_meta_word}
use Rattle.index.specs.Memory.{View, head_of, Tied, Held}
use Rattle.index.specs.MemoryLaws.{few32, owners-are, accessed-store, held_of}
use Rattle.index.specs.Keeping.{fit-accessed, head-with}
use Rattle.index.specs.declared.Cache.{Cache}
use Rattle.lookup.specs.Lookup.{pair_of, slot_in}
use Rattle.change.specs.Change.{Kept, freed_at}
use Rattle.change.specs.Keeping.{tied-kept, fit-freed-at}
use Rattle.refine.specs.Lists.{slots_named, viewed_rows}
use Rattle.infos.specs.Infos.{info_from}
use Rattle.infos.specs.Words.{put_info}
use Rattle.access.specs.Access.{slot_at, run, named_first, Found, noted, freed_each, viewed_word, viewed_by, settled}

-- ---- the slots of a list

-- the slots passed stand in their places, and no pair passed is dead
unfoldable pub Finds : Cache → List ℕ → List ℕ → List ℕ → ℕ → List ℕ → Type 0
unfolding pairs_of first_dead
Finds h ws list slots i now = (s : Store) → length slots ≡ 256 → Tied s h ws
    → (now ≡ take i (slots_named s (pairs_of list)) ++ drop i slots) × (i + first_dead (is_held s) (drop i (pairs_of list)) ≡ first_dead (is_held s) (pairs_of list))

pub finds-start : (h : Cache) (ws list slots : List ℕ) → Finds h ws list slots 0 slots
unfolding Finds
finds-start h ws list slots s long t = (refl, omega arith)

put_next : (i : ℕ) (ks slots : List ℕ) → i < length ks → i < length slots → set (take i ks ++ drop i slots) i (get_or ks i 256) ≡ take (suc i) ks ++ drop (suc i) slots
put_next i [] slots h l = absurd (not-suc-le-zero h)
put_next i (k ∷ ks) [] h l = absurd (not-suc-le-zero l)
put_next zero (k ∷ ks) (x ∷ slots) h l = refl
put_next (suc i) (k ∷ ks) (x ∷ slots) h l = ap (λ (r : List ℕ). k ∷ r) (put_next i ks slots (le_of_suc-le-suc h) (le_of_suc-le-suc l))

get-named : (s : Store) (ps : List Pair) (i : ℕ) → i < length ps → get_or (slots_named s ps) i 256 ≡ slot_named s (get_or ps i no_pair)
get-named s [] i h = absurd (not-suc-le-zero h)
get-named s (p ∷ ps) zero h = refl
get-named s (p ∷ ps) (suc i) h = get-named s ps i (le_of_suc-le-suc h)

named-first : (s : Store) (ps : List Pair) (slots : List ℕ) (i : ℕ) → i ≤ length ps → take i (slots_named s ps) ++ drop i slots ≡ named_first s (take i ps) slots
named-first s ps slots i h = rw (taken i ps, length-of i ps h)
  where
    taken : (i : ℕ) (ps : List Pair) → take i (slots_named s ps) ≡ slots_named s (take i ps)
    taken zero ps = refl
    taken (suc i) [] = refl
    taken (suc i) (p ∷ ps) = ap (λ (r : List ℕ). slot_named s p ∷ r) (taken i ps)

    length-of : (i : ℕ) (ps : List Pair) → i ≤ length ps → length (take i ps) ≡ i
    length-of zero ps h = refl
    length-of (suc i) [] h = absurd (not-suc-le-zero h)
    length-of (suc i) (p ∷ ps) h = ap suc (length-of i ps (le_of_suc-le-suc h))

-- what an answer of a place says of the place
some-place : (b : Bool) (n k : ℕ) → Some k ≡ then_some b n → (k ≡ n) × (b ≡ true)
some-place true n k e = (cc, refl)
some-place false n k e = let z : ◌≡◌ {A = ℕ} 0 1 = cc in absurd (omega arith)

no-place : (b : Bool) (n : ℕ) → None ≡ then_some b n → b ≡ false
no-place true n e = let z : ◌≡◌ {A = ℕ} 0 1 = cc in absurd (omega arith)
no-place false n e = refl

-- the words of a pair, as `as_chunks` gives them
chunk-pair : (l : List ℕ) (i : ℕ) (d : List ℕ) (x y : ℕ) → i < length l / 2
    → pair_of (get_or (get_or (first_chunks 2 (length l / 2) l) i d) 0 x) (get_or (get_or (first_chunks 2 (length l / 2) l) i d) 1 y) ≡ get_or (pairs_of l) i no_pair
unfolding pairs_of
chunk-pair [] i d x y h = absurd (omega arith)
chunk-pair (k ∷ []) i d x y h = absurd (omega arith)
chunk-pair (k ∷ m ∷ l) zero d x y h = let half : length (k ∷ m ∷ l) / 2 ≡ suc (length l / 2) = omega arith in rw half refl
chunk-pair (k ∷ m ∷ l) (suc i) d x y h =
    let half : length (k ∷ m ∷ l) / 2 ≡ suc (length l / 2) = omega arith in
    rw half (chunk-pair l i d x y (omega arith))

module _ (h : Cache) (ws list slots : List ℕ) (n i : ℕ) (now : List ℕ) (f : Finds h ws list slots i now) (e : n ≡ length list / 2) where
  found_at : (r : rust.Option ℕ) (s : Store) → length slots ≡ 256 → Tied s h ws → i ≤ length (pairs_of list) → first_dead (is_held s) (drop i (pairs_of list)) ≡ 0
      → r ≡ place_in (length (pairs_of list)) i → Found s (pairs_of list) r slots now
  unfolding Finds first_dead
  found_at r s long t l z q =
      let d : i ≡ first_dead (is_held s) (pairs_of list) = omega (arith, (f s long t).1) in
      record { place = q ∙ ap (place_in (length (pairs_of list))) d; names = (f s long t).0 ∙ named-first s (pairs_of list) slots i l ∙ ap (λ (k : ℕ). named_first s (take k (pairs_of list)) slots) d }

  pub finds-end : i ≤ n → n ≤ i → (s : Store) → length slots ≡ 256 → Tied s h ws → Found s (pairs_of list) None slots now
  finds-end l b s long t = let m : length (pairs_of list) ≡ length list / 2 = length_pairs list in
      found_at None s long t (omega arith) (dead-past (is_held s) (pairs_of list) i (omega arith)) (rw (le-ltb i (length (pairs_of list)) (omega arith)))

  module _ (cs : List (List ℕ)) (g : cs ≡ first_chunks 2 (length list / 2) list) (d : List ℕ) (x y : ℕ) (o : rust.Option ℕ)
      (w : (z : Store) → Tied z h ws → o ≡ slot_in (slot_named z (pair_of (get_or (get_or cs i d) 0 x) (get_or (get_or cs i d) 1 y)))) (l : i < n) where
    within : i < length (pairs_of list)
    within = omega (arith, length_pairs list)

    named-is : (s : Store) → Tied s h ws → o ≡ slot_in (slot_named s (get_or (pairs_of list) i no_pair))
    named-is s t = w s t ∙ ap (λ (ds : List (List ℕ)). slot_in (slot_named s (pair_of (get_or (get_or ds i d) 0 x) (get_or (get_or ds i d) 1 y)))) g
        ∙ ap (λ (p : Pair). slot_in (slot_named s p)) (chunk-pair list i d x y (omega arith))

    pub finds-dead : o ≡ None → (s : Store) → length slots ≡ 256 → Tied s h ws → Found s (pairs_of list) (Some i) slots now
    finds-dead b s long t =
        let dead : is_held s (get_or (pairs_of list) i no_pair) ≡ false = no-place (ltb (slot_named s (get_or (pairs_of list) i no_pair)) 256) (slot_named s (get_or (pairs_of list) i no_pair)) (sym b ∙ named-is s t) in
        found_at (Some i) s long t (omega (arith, within)) (dead-here (is_held s) (pairs_of list) i within dead) (rw (lt-ltb i (length (pairs_of list)) within))

    pub finds-on : (slot : ℕ) → o ≡ Some slot → n ≤ 256 → Finds h ws list slots (i + 1) (set now i slot)
    unfolding Finds
    finds-on slot b few s long t =
        let k0 : ℕ = slot_named s (get_or (pairs_of list) i no_pair) in
        let live : (slot ≡ k0) × (ltb k0 256 ≡ true) = some-place (ltb k0 256) k0 slot (sym b ∙ named-is s t) in
        let k : length (slots_named s (pairs_of list)) ≡ length (pairs_of list) = length-map (pairs_of list) (slot_named s) in
        let at : slot ≡ get_or (slots_named s (pairs_of list)) i 256 = live.0 ∙ sym (get-named s (pairs_of list) i within) in
        let on : first_dead (is_held s) (drop i (pairs_of list)) ≡ suc (first_dead (is_held s) (drop (i + 1) (pairs_of list))) =
        dead-on (is_held s) (pairs_of list) i within live.1 in
        (rw ((f s long t).0, at, add-one i) (put_next i (slots_named s (pairs_of list)) slots (omega (arith, within)) (omega arith)), omega (arith, (f s long t).1, on))

-- ---- what is shown

pub show-info : (l m : List ℕ) (p : ℕ) (x : Info) (s : Sample) (i : InstanceMetaData) (r ranks : Ranks) (row slot : ℕ) (ws : List ℕ) → m ≡ put_info l p x
    → x ≡ info_from s i r → r ≡ ranks → i ≡ meta_at (metas_in ws) row → row ≡ get_or (owners_in ws) slot 0
    → m ≡ put_info l p (info_from s (meta_at (metas_in ws) (get_or (owners_in ws) slot 0)) ranks)
show-info l m p x s i r ranks row slot ws e f d g h = e ∙ ap (put_info l p) (f ∙ ap (info_from s i) d ∙ ap (λ (y : InstanceMetaData). info_from s y ranks) (g ∙ ap (meta_at (metas_in ws)) h))

pub show-noted : (seen m : List ℕ) (row slot a : ℕ) (s : Sample) (ws : List ℕ) → m ≡ noted seen row a → a ≡ accessed_at (total_of s) → row ≡ get_or (owners_in ws) slot 0
    → m ≡ noted seen (get_or (owners_in ws) slot 0) (accessed_at (total_of s))
show-noted seen m row slot a s ws e f g = e ∙ ap (noted seen row) f ∙ ap (λ (r : ℕ). noted seen r (accessed_at (total_of s))) g

-- ---- the slots freed

-- the store so far, from which the slots still to come make the store at the end
pub record Freeing (s : Store) (ks : List ℕ) (h : Cache) (ws rest : List ℕ) : Type 0 where
  pub store : Store
  pub tied : Tied store h ws
  pub then : freed_each store rest ≡ freed_each s ks

unfoldable pub Frees : Cache → List ℕ → List ℕ → ℕ → ℕ → Cache → List ℕ → Type 0
unfolding run
Frees h ws slots n p head now = (s : Store) → Tied s h ws → Freeing s (run n 0 slots) head now (run (n - p) p slots)

pub frees-start : (h : Cache) (ws slots : List ℕ) (n : ℕ) → Frees h ws slots n 0 h ws
unfolding Frees
frees-start h ws slots n s t = record { store = s; tied = t; then = rw sub-zero }

module _ (h : Cache) (ws slots : List ℕ) (n p : ℕ) (head : Cache) (now : List ℕ) (f : Frees h ws slots n p head now) where
  pub frees-on : (slot row : ℕ) (r : Cache) (end : List ℕ) → ((z : Store) → Tied z head now → Kept (freed_at z row slot) r end) → row ≡ get_or (owners_in now) slot 0 → slot ≡ slot_at slots p → p < n
      → Frees h ws slots n (p + 1) r end
  unfolding Frees run freed_each
  frees-on slot row r end k e g l s t =
      let z : Freeing s (run n 0 slots) head now (run (n - p) p slots) = f s t in
      let one : n - p ≡ suc (n - (p + 1)) = omega arith in
      let owner : row ≡ get_or z.store.owners slot 0 = e ∙ rw (z.tied.words, owners-are z.store z.tied.fit) in
      record {
        store = freed_at z.store row slot;
        tied = tied-kept (freed_at z.store row slot) r end (fit-freed-at z.store row slot z.tied.fit) (k z.store z.tied);
        then = rw (owner, g) (ap (λ (m : ℕ). freed_each z.store (run m p slots)) (sym one) ∙ z.then);
      }

  pub frees-end : p ≤ n → n ≤ p → (s : Store) → Tied s h ws → Tied (freed_each s (run n 0 slots)) head now
  unfolding Frees run freed_each
  frees-end l m s t =
      let z : Freeing s (run n 0 slots) head now (run (n - p) p slots) = f s t in
      let none : n - p ≡ 0 = omega arith in
      let same : z.store ≡ freed_each s (run n 0 slots) = ap (λ (m : ℕ). freed_each z.store (run m p slots)) (sym none) ∙ z.then in
      rw (← same) z.tied

-- ---- the rows viewed

unfoldable pub Views : List ℕ → ℕ → List ℕ → ℕ → List ℕ → Type 0
unfolding viewed_rows
Views ws held seen row now = (s : Store) → Held s held ws → Held (viewed_rows row (λ r. get_or seen r 0) s) held now × (length (viewed_rows row (λ r. get_or seen r 0) s).insts ≡ length s.insts)

pub views-start : (ws : List ℕ) (held : ℕ) (seen : List ℕ) → Views ws held seen 0 ws
unfolding Views viewed_rows
views-start ws held seen s t = (t, refl)

-- one row more, on the store so far
row-viewed : (z : Store) (held n row a : ℕ) (now end : List ℕ) → Held z held now → length z.insts ≡ n → row < n → end ≡ viewed_word now row a
    → Held (cond (eqb a 0) z (accessed_in z row a)) held end × (length (cond (eqb a 0) z (accessed_in z row a)).insts ≡ n)
row-viewed z held n row a now end t q l e = go (eqb a 0) e
  where
    go : (b : Bool) → end ≡ cond b now (put_meta_word now (4 * row + 3) a) → Held (cond b z (accessed_in z row a)) held end × (length (cond b z (accessed_in z row a)).insts ≡ n)
    go true e = (rw e t, q)
    go false e =
        let in_row : row < length z.insts = omega arith in
        let same : length (accessed_in z row a).insts ≡ length z.insts = ap (λ (v : View). v.held) (head-with z t.fit row in_row _) in
        (record { fit = fit-accessed z t.fit row in_row a; count = t.count ∙ sym same; words = e ∙ rw t.words (accessed-store z t.fit row in_row a) }, same ∙ q)

module _ (ws : List ℕ) (held : ℕ) (seen : List ℕ) (row : ℕ) (now : List ℕ) (v : Views ws held seen row now) (rows : ℕ) (n : rows ≡ min held 32) where
  pub views-on : (end : List ℕ) → end ≡ viewed_word now row (get_or seen row 0) → row < rows → Views ws held seen (row + 1) end
  unfolding Views viewed_rows
  views-on end e l s t = rw (add-one row)
      (row-viewed (viewed_rows row (λ r. get_or seen r 0) s) held (length s.insts) row (get_or seen row 0) now end (v s t).0 (v s t).1 (omega (arith, t.count)) e)

  -- the words seen are those of the rows alone
  pub views-next : (end : List ℕ) → length seen ≡ 32 → end ≡ viewed_word now row (get_or (take rows seen) row 0) → row < length (take rows seen) → Views ws held seen (row + 1) end
  views-next end k e l =
      let r : row < rows = rw (length-take-le rows seen (omega arith)) at l in
      views-on end (e ∙ ap (viewed_word now row) (get_or-take rows seen row 0 r)) r

  pub views-end : row ≤ rows → rows ≤ row → (s : Store) → Held s held ws → Held (viewed_by seen s) held now
  unfolding Views
  views-end l m s t = let e : row ≡ length s.insts = omega (arith, t.count, few32 s t.fit) in rw (← e) (v s t).0

  pub views-last : length seen ≡ 32 → row ≤ length (take rows seen) → length (take rows seen) ≤ row → (s : Store) → Held s held ws → Held (viewed_by seen s) held now
  views-last k l m = let r : length (take rows seen) ≡ rows = length-take-le rows seen (omega arith) in views-end (omega (arith, r)) (omega (arith, r))

-- ---- settled

row-fit : (z s : Store) (n a : ℕ) → Fit z × (head_of z ≡ head_of s) → suc n ≤ length s.insts → Fit (cond (eqb a 0) z (accessed_in z n a)) × (head_of (cond (eqb a 0) z (accessed_in z n a)) ≡ head_of s)
row-fit z s n a b l = go (eqb a 0)
  where
    in_row : n < length z.insts
    in_row = omega (arith, ap (λ (v : View). v.held) b.1)

    go : (x : Bool) → Fit (cond x z (accessed_in z n a)) × (head_of (cond x z (accessed_in z n a)) ≡ head_of s)
    go true = b
    go false = (fit-accessed z b.0 n in_row a, head-with z b.0 n in_row _ ∙ b.1)

-- the header of a store does not tell what was accessed
viewed-fit : (n : ℕ) (f : ℕ → ℕ) (s : Store) → Fit s → n ≤ length s.insts → Fit (viewed_rows n f s) × (head_of (viewed_rows n f s) ≡ head_of s)
unfolding viewed_rows
viewed-fit zero f s t l = (t, refl)
viewed-fit (suc n) f s t l = row-fit (viewed_rows n f s) s n (f n) (viewed-fit n f s t (omega arith)) l

tied-viewed : (s : Store) (h : Cache) (ws seen end : List ℕ) → ((z : Store) → Held z h.held ws → Held (viewed_by seen z) h.held end) → Tied s h ws → Tied (viewed_by seen s) h end
tied-viewed s h ws seen end v t =
    let b : Fit (viewed_by seen s) × (head_of (viewed_by seen s) ≡ head_of s) = viewed-fit (length s.insts) (λ r. get_or seen r 0) s t.fit (omega arith) in
    record { fit = b.0; head = t.head ∙ sym b.1; words = (v s (held_of s h ws t)).words }

module _ (h head : Cache) (ws mid slots : List ℕ) (n : ℕ) (take : Bool) (seen end : List ℕ) where
  pub settle-done : ((s : Store) → Tied s h ws → Tied (cond take (freed_each s (run n 0 slots)) s) head mid) → ((z : Store) → Held z head.held mid → Held (viewed_by seen z) head.held end)
      → (s : Store) → Tied s h ws → Tied (settled s take (run n 0 slots) seen) head end
  settle-done f v s t = tied-viewed (cond take (freed_each s (run n 0 slots)) s) head mid seen end v (f s t)
