-- Every live sample of a good cache is found in its slot, with the place of its instance.
use Rattle.std.specs.Prelude.{◌≡◌, refl, Bool, true, false, cond, length, get_or, eqb, ltb}
use Rattle.std.proofs.Math.Path.{sym}
use Rattle.std.proofs.Common.{ap, ◌∙◌, subst, zero-add, arith, eqb-true, ltb-true}
use mathlib.Core.List.{List, [], ◌∷◌, ◌++◌, map, append_assoc}
use Rattle.std.proofs.Math.Option.{some}
use Prim.Native.Nat.{ℕ, suc, ◌≤◌, ◌<◌}
use Rattle.lists.specs.Every.{Every}
use Rattle.lists.specs.Count.{bit}
use Rattle.model.specs.Model.{Model, Instance, Live, find, live_in, count, in_slot, keyed}
use Rattle.store.specs.Store.{place_of}
use Rattle.refine.specs.Layout.{Entry, entry, entries_of, look_up}
use Rattle.refine.specs.Good.{Good}
use Rattle.refine.specs.Tables.{bit_le, uses, uses-here, uses-append, look-here}
use Rattle.refine.specs.Entries.{lives-of, before, behind, entries_at, insts, found_at}
use Rattle.refine.proofs.GoodLaws.{bit-one}
use Rattle.refine.proofs.FitOf.{nobody}
use Rattle.refine.proofs.Dying.{nobody-live}

-- ---- every

module _ {A : Type 0} (P : A → Type 0) where
  pub every-left : (a b : List A) → Every P (a ++ b) → Every P a
  unfolding Every
  every-left [] b e = tt
  every-left (x ∷ a) b e = (e.0, every-left a b e.1)

  pub every-right : (a b : List A) → Every P (a ++ b) → Every P b
  unfolding Every
  every-right [] b e = e
  every-right (x ∷ a) b e = every-right a b e.1

  pub every-under : {B : Type 0} (f : B → A) (l : List B) → Every P (map f l) → Every (λ b. P (f b)) l
  unfolding Every
  every-under f [] e = tt
  every-under f (x ∷ l) e = (e.0, every-under f l e.1)

  pub every-over : {B : Type 0} (f : B → A) (l : List B) → Every (λ b. P (f b)) l → Every P (map f l)
  unfolding Every
  every-over f [] e = tt
  every-over f (x ∷ l) e = (e.0, every-over f l e.1)

  pub every-all : (l : List A) → ((x : A) → P x) → Every P l
  unfolding Every
  every-all [] h = tt
  every-all (x ∷ l) h = (h x, every-all l h)

-- what is found is one of them, and in that slot
pub every-look : (P : Entry → Type 0) (k : ℕ) (es : List Entry) (e : Entry) → Every P es → look_up k es ≡ some e → P e
unfolding look_up Every
every-look P k [] e h q = let z : ◌≡◌ {A = ℕ} 0 1 = cc in absurd (omega arith)
every-look P k (x ∷ es) e h q = go (eqb x.live.slot k) q (every-look P k es e h.1)
  where
    go : (b : Bool) → cond b (some x) (look_up k es) ≡ some e → (look_up k es ≡ some e → P e) → P e
    go true r f = let p : x ≡ e = cc in rw p at h.0
    go false r f = f r

pub look-slot : (k : ℕ) (es : List Entry) (e : Entry) → look_up k es ≡ some e → e.live.slot ≡ k
unfolding look_up
look-slot k [] e q = let z : ◌≡◌ {A = ℕ} 0 1 = cc in absurd (omega arith)
look-slot k (x ∷ es) e q = go (eqb x.live.slot k) refl q (look-slot k es e)
  where
    go : (b : Bool) → eqb x.live.slot k ≡ b → cond b (some x) (look_up k es) ≡ some e → (look_up k es ≡ some e → e.live.slot ≡ k) → e.live.slot ≡ k
    go true h r f = let p : x ≡ e = cc in ap (λ (y : Entry). y.live.slot) (sym p) ∙ eqb-true x.live.slot k h
    go false h r f = f r

pub every-keyed : (P : Live → Type 0) (k : ℕ) (ss : List Live) (s : Live) → Every P ss → keyed k ss ≡ some s → P s
unfolding keyed Every
every-keyed P k [] s h q = let z : ◌≡◌ {A = ℕ} 0 1 = cc in absurd (omega arith)
every-keyed P k (x ∷ ss) s h q = go (eqb x.key k) q (every-keyed P k ss s h.1)
  where
    go : (b : Bool) → cond b (some x) (keyed k ss) ≡ some s → (keyed k ss ≡ some s → P s) → P s
    go true r f = let p : x ≡ s = cc in rw p at h.0
    go false r f = f r

pub keyed-key : (k : ℕ) (ss : List Live) (s : Live) → keyed k ss ≡ some s → s.key ≡ k
unfolding keyed
keyed-key k [] s q = let z : ◌≡◌ {A = ℕ} 0 1 = cc in absurd (omega arith)
keyed-key k (x ∷ ss) s q = go (eqb x.key k) refl q (keyed-key k ss s)
  where
    go : (b : Bool) → eqb x.key k ≡ b → cond b (some x) (keyed k ss) ≡ some s → (keyed k ss ≡ some s → s.key ≡ k) → s.key ≡ k
    go true h r f = let p : x ≡ s = cc in ap (λ (y : Live). y.key) (sym p) ∙ eqb-true x.key k h
    go false h r f = f r

-- ---- each in its slot

abbrev pub Placed : List Entry → Entry → Type 0
Placed es e = (e.live.slot < 256) × (look_up e.live.slot es ≡ some e)

module _ (all : List Entry) (slots : (k : ℕ) → uses k all ≤ bit (ltb k 256)) where
  placed-from : (a b : List Entry) → all ≡ a ++ b → Every (Placed all) b
  unfolding Every
  placed-from a [] q = tt
  placed-from a (e ∷ b) q = (head, placed-from (a ++ e ∷ []) b (q ∙ sym (append_assoc a (e ∷ []) b)))
    where
      k : ℕ
      k = e.live.slot

      used : uses k all ≡ suc (uses k (a ++ b))
      used = ap (uses k) q ∙ uses-here k a b e refl

      head : Placed all e
      head = (
        ltb-true k 256 (bit-one (ltb k 256) (omega (arith, used, slots k))),
        ap (look_up k) q ∙ look-here k a b e (omega (arith, used, slots k, bit_le (ltb k 256), uses-append k a b)) refl,
      )

  pub all_placed : Every (Placed all) all
  all_placed = placed-from [] all refl

module _ (m : Model) (g : Good m) where
  pub entry-slots : (k : ℕ) → uses k (entries_of m) ≤ bit (ltb k 256)
  entry-slots k = omega (arith, ap (count (in_slot k)) (lives-of 0 m.instances), g.slots k)

  pub every-placed : Every (Placed (entries_of m)) (entries_of m)
  every-placed = all_placed (entries_of m) entry-slots

  -- ---- the live samples of one instance

  module _ (n : ℕ) (i : Instance) (e : find n m.instances ≡ some i) where
    abbrev pub at : ℕ
    at = place_of n (insts m.keep m.instances)

    abbrev pub front : List Entry
    front = before 0 at m.instances

    abbrev pub rear : List Entry
    rear = behind 0 at m.instances

    pub at-below : at < length m.instances
    at-below = (found_at m.keep n m.instances i nobody e).0

    pub at-is : get_or m.instances at nobody ≡ i
    at-is = (found_at m.keep n m.instances i nobody e).1

    pub entries-here : entries_of m ≡ front ++ (map (entry at) (live_in i.places) ++ rear)
    entries-here = entries_at 0 at m.instances nobody nobody-live (omega (arith, at-below))
        ∙ ap (λ (j : ℕ). front ++ (map (entry j) (live_in (get_or m.instances at nobody).places) ++ rear)) (zero-add at)
        ∙ ap (λ (j : Instance). front ++ (map (entry at) (live_in j.places) ++ rear)) at-is

    pub here-placed : Every (λ s. Placed (entries_of m) (entry at s)) (live_in i.places)
    here-placed = every-under (Placed (entries_of m)) (entry at) (live_in i.places)
        (every-left (Placed (entries_of m)) (map (entry at) (live_in i.places)) rear
        (every-right (Placed (entries_of m)) front (map (entry at) (live_in i.places) ++ rear) (subst (λ (es : List Entry). Every (Placed (entries_of m)) es) entries-here every-placed)))
