-- A good cache's store is fit.
use Rattle.std.specs.Prelude.{Some, None, ◌≡◌, refl, Bool, true, false, cond, List, [], ◌∷◌, map, ℕ, zero, suc, ◌+◌, ◌≤◌, ◌<◌, eqb, ltb, length, get_or}
use Rattle.std.proofs.Common.{ap, ◌∙◌, not-suc-le-zero, le_of_suc-le-suc, arith, eq-eqb, ltb-true}
use Rattle.std.proofs.Math.Option.{Option, some, none}
use Rattle.std.proofs.lemmas.List.{length-map}
use Rattle.lists.specs.Every.{Every}
use Rattle.lists.specs.Count.{bit}
use Rattle.keys.specs.Keys.{Last}
use Rattle.store.specs.Fit.{Fit, depth_of}
use Rattle.store.specs.Store.{Inst, no_inst}
use Rattle.model.specs.Model.{Model, Instance, Live, lives, count, in_slot, keyed}
use Rattle.refine.specs.Layout.{cell_of, cells_of, inst_of, entries_from, store_of, newest_of, slot_or_none, free_of, key_of, owner_of}
use Rattle.refine.specs.Good.{Good, Sized, Bounded}
use Rattle.refine.specs.Tables.{length-slots}
use Rattle.refine.proofs.GoodLaws.{bit-one}

pub every-at : (P : Instance → Type 0) (is : List Instance) (i : ℕ) (d : Instance) → Every P is → i < length is → P (get_or is i d)
unfolding Every
every-at P [] i d e h = absurd (not-suc-le-zero h)
every-at P (x ∷ is) zero d e h = e.0
every-at P (x ∷ is) (suc i) d e h = every-at P is i d e.1 (le_of_suc-le-suc h)

pub get-inst : (k : Option ℕ) (is : List Instance) (i : ℕ) (d : Inst) (e : Instance) → i < length is → get_or (map (inst_of k) is) i d ≡ inst_of k (get_or is i e)
get-inst k [] i d e h = absurd (not-suc-le-zero h)
get-inst k (x ∷ is) zero d e h = refl
get-inst k (x ∷ is) (suc i) d e h = get-inst k is i d e (le_of_suc-le-suc h)

cells-even : (k : Option ℕ) (i : Instance) → Sized k i → length (cells_of k i.places) ≡ depth_of k
cells-even none i h = refl
cells-even (some d) i h = length-map i.places cell_of ∙ h

pub in-a-slot : (s : Live) (ss : List Live) → (k : ℕ) → keyed k ss ≡ some s → 0 < count (in_slot s.slot) ss
unfolding keyed count
in-a-slot s [] k e = let z : ◌≡◌ {A = ℕ} 0 1 = cc in absurd (omega arith)
in-a-slot s (x ∷ ss) k e = go (eqb x.key k) e (in-a-slot s ss k)
  where
    go : (b : Bool) → cond b (some x) (keyed k ss) ≡ some s → (keyed k ss ≡ some s → 0 < count (in_slot s.slot) ss) → 0 < bit (eqb x.slot s.slot) + count (in_slot s.slot) ss
    go true q r = let p : x ≡ s = cc in rw (eq-eqb x.slot s.slot (ap (λ (y : Live). y.slot) p)) (omega arith)
    go false q r = omega (arith, r q)

newest-le : (l : Last) (ss : List Live) → ((j : ℕ) → count (in_slot j) ss ≤ bit (ltb j 256)) → newest_of l ss ≤ 256
newest-le None ss h = omega arith
newest-le (Some k) ss h = go (keyed k ss) refl
  where
    go : (o : Option Live) → keyed k ss ≡ o → slot_or_none o ≤ 256
    go none e = omega arith
    go (some s) e = omega (arith, ltb-true s.slot 256 (bit-one (ltb s.slot 256) (omega (arith, in-a-slot s ss k e, h s.slot))))

abbrev pub nobody : Instance
nobody = record { name = 0; meta = no_inst.meta; places = [] }

pub fit_of : (m : Model) → Good m → Fit (store_of m)
unfolding store_of
fit_of m g =
    let n : length (map (inst_of m.keep) m.instances) ≡ length m.instances = length-map m.instances (inst_of m.keep) in
    record {
      few = omega (arith, n, g.few);
      rooms = g.rooms;
      deep = g.deep;
      even = λ i h.
          let l : i < length m.instances = omega arith in
          rw (get-inst m.keep m.instances i no_inst nobody l) (cells-even m.keep (get_or m.instances i nobody) (every-at (Sized m.keep) m.instances i nobody g.even l));
      totals = λ i h.
          let l : i < length m.instances = omega arith in
          rw (get-inst m.keep m.instances i no_inst nobody l) (every-at Bounded m.instances i nobody g.totals l);
      newest = newest-le m.last (lives m.instances) g.slots;
      free = length-slots free_of (entries_from 0 m.instances);
      keys = length-slots key_of (entries_from 0 m.instances);
      owners = length-slots owner_of (entries_from 0 m.instances);
    }
