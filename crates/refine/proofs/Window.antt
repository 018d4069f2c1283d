-- A window of places moves on by one: what leaves it, what stays, and the tables over the slots then.
use Rattle.std.specs.Prelude.{◌≡◌, refl, List, [], ◌∷◌, ◌++◌, map, ℕ, zero, suc, ◌≤◌, set, replicate}
use Rattle.std.proofs.Common.{ap, ◌∙◌, append_assoc, append-nil, arith}
use Rattle.std.proofs.Math.Option.{Option, some, none}
use Rattle.std.proofs.Math.Seq.{set_out}
use Rattle.sampleinfo.specs.States.{handle_of}
use Rattle.model.specs.Model.{Live, Place, gone, held, live_in, push, pushed_out, window}
use Rattle.model.proofs.Counting.{Pushable}
use Rattle.store.specs.Store.{oldest, moved_on, cells_for}
use Rattle.refine.specs.Layout.{cell_of, cells_of, Entry, entry, slots_of, slot_or_none}
use Rattle.refine.specs.Tables.{uses, uses-here, length-slots, slots-more, slots-less}
use Rattle.refine.specs.Entries.{live-append, map-append}

-- ---- what leaves, and what stays

abbrev pub out_of : Option ℕ → List Place → Option Live
out_of none ps = none
out_of (some d) [] = none
out_of (some d) (gone ∷ ps) = none
out_of (some d) (held s ∷ ps) = some s

abbrev pub stay_in : Option ℕ → List Place → List Live
stay_in none ps = live_in ps
stay_in (some d) [] = []
stay_in (some d) (p ∷ ps) = live_in ps

abbrev pub list_of : Option Live → List Live
list_of none = []
list_of (some s) = s ∷ []

pub live-old : (k : Option ℕ) (ps : List Place) → live_in ps ≡ list_of (out_of k ps) ++ stay_in k ps
unfolding live_in
live-old none ps = refl
live-old (some d) [] = refl
live-old (some d) (gone ∷ ps) = refl
live-old (some d) (held s ∷ ps) = refl

pub live-gone : (k : Option ℕ) (ps : List Place) → live_in (push k ps gone) ≡ stay_in k ps
unfolding push live_in
live-gone none ps = live-append ps (gone ∷ []) ∙ append-nil (live_in ps)
live-gone (some d) [] = refl
live-gone (some d) (p ∷ ps) = live-append ps (gone ∷ []) ∙ append-nil (live_in ps)

pub live-held : (k : Option ℕ) (ps : List Place) (s : Live) → Pushable k ps → live_in (push k ps (held s)) ≡ stay_in k ps ++ s ∷ []
unfolding push live_in
live-held none ps s h = live-append ps (held s ∷ [])
live-held (some d) [] s h = absurd (omega arith)
live-held (some d) (p ∷ ps) s h = live-append ps (held s ∷ [])

-- ---- the cells

pub out-cell : (k : Option ℕ) (ps : List Place) → oldest k (cells_of k ps) ≡ slot_or_none (out_of k ps)
out-cell none ps = refl
out-cell (some d) [] = refl
out-cell (some d) (gone ∷ ps) = refl
out-cell (some d) (held s ∷ ps) = refl

gone-cells : (d : ℕ) → map cell_of (replicate d gone) ≡ replicate d 256
gone-cells zero = refl
gone-cells (suc d) = ap (λ (r : List ℕ). 256 ∷ r) (gone-cells d)

pub fresh_cells : (k : Option ℕ) → cells_of k (window k) ≡ cells_for k
unfolding window
fresh_cells none = refl
fresh_cells (some d) = gone-cells d

pub push-cells : (k : Option ℕ) (ps : List Place) (s : Live) → cells_of k (push k ps (held s)) ≡ moved_on k (cells_of k ps) s.slot
unfolding push
push-cells none ps s = refl
push-cells (some d) [] s = refl
push-cells (some d) (p ∷ ps) s = map-append cell_of ps (held s ∷ [])

abbrev pub handle_in : Option Live → Option ℕ
handle_in none = none
handle_in (some s) = some (handle_of s.sample.body)

pub out-handle : (k : Option ℕ) (ps : List Place) → pushed_out k ps ≡ handle_in (out_of k ps)
unfolding pushed_out
out-handle none ps = refl
out-handle (some d) [] = refl
out-handle (some d) (gone ∷ ps) = refl
out-handle (some d) (held s ∷ ps) = refl

-- ---- the tables

module _ (a b : List Entry) (at : ℕ) (stay : List Live) where
  abbrev pub roomed : List Entry
  roomed = a ++ (map (entry at) stay ++ b)

  abbrev pub beforehand : Option Live → List Entry
  beforehand out = a ++ (map (entry at) (list_of out ++ stay) ++ b)

  abbrev pub afterwards : Live → List Entry
  afterwards s = a ++ (map (entry at) (stay ++ s ∷ []) ++ b)

  pub after-as : (s : Live) → afterwards s ≡ (a ++ map (entry at) stay) ++ entry at s ∷ b
  after-as s = rw (map-append (entry at) stay (s ∷ [])) (simp append_assoc)

  pub roomed-as : roomed ≡ (a ++ map (entry at) stay) ++ b
  roomed-as = simp append_assoc

  module _ {A : Type 0} (f : Option Entry → A) where
    -- room is made
    pub slots-out : (out : Option Live) → ((k : ℕ) → uses k (beforehand out) ≤ 1) → set (slots_of f (beforehand out)) (slot_or_none out) (f none) ≡ slots_of f roomed
    slots-out none h = set_out (slots_of f roomed) 256 (f none) (omega (arith, length-slots f roomed))
    slots-out (some x) h =
        slots-less f a (map (entry at) stay ++ b) (entry at x) (omega (arith, uses-here x.slot a (map (entry at) stay ++ b) (entry at x) refl, h x.slot))

    -- the slot is filled
    pub slots-in : (s : Live) → uses s.slot roomed ≡ 0 → set (slots_of f roomed) s.slot (f (some (entry at s))) ≡ slots_of f (afterwards s)
    slots-in s z = rw (after-as s, roomed-as) (slots-more f (a ++ map (entry at) stay) b (entry at s) (rw roomed-as at z))

    pub slots-moved : (out : Option Live) (s : Live) → ((k : ℕ) → uses k (beforehand out) ≤ 1) → uses s.slot roomed ≡ 0
        → set (set (slots_of f (beforehand out)) (slot_or_none out) (f none)) s.slot (f (some (entry at s))) ≡ slots_of f (afterwards s)
    slots-moved out s h z = rw (slots-out out h) (slots-in s z)
