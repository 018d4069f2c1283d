-- The infos of a list, and whether it is fine, on the slots that it names.
use Rattle.std.specs.Prelude.{◌≡◌, ◌&&◌}
use Rattle.std.proofs.Math.Path.{refl}
use Rattle.std.proofs.Common.{ap, ◌∙◌}
use Rattle.std.proofs.Math.Bool.{true}
use mathlib.Core.List.{List, [], ◌∷◌, ◌++◌}
use Rattle.std.proofs.Math.ListN.{length-map}
use Rattle.model.specs.Pairs.{Pair, bad_from, first_bad}
use Rattle.model.specs.Model.{Model, is_live, last_total, infos_of, infos_for, Edition, by_the_rust, ranks_at}
use Rattle.model.specs.BadLaws.{all_live}
use Rattle.store.specs.Store.{place_of, inst_at, slot_named, is_held}
use Rattle.refine.specs.Layout.{inst_of, store_of, table_of}
use Rattle.refine.specs.Good.{Good}
use Rattle.refine.proofs.Named.{insts-of, inst-here, live-is}
use Rattle.refine.proofs.Latest.{latest-total}
use Rattle.refine.proofs.Fold.{and-true, Names, names_of, known_of}
use Rattle.refine.specs.Lists.{slots_named, owner_at, last_owned, slot_infos, infos_at, ranks_on}

module _ (m : Model) (g : Good m) where
  owner-is : (p : Pair) (n : Names m p) → owner_at (store_of m) (slot_named (store_of m) p) ≡ inst_of m.keep n.i
  owner-is p n = ap (owner_at (store_of m)) (known_of m g p n).slot ∙ ap (inst_at (store_of m)) ((known_of m g p n).owner ∙ ap (place_of p.name) (insts-of m g))
      ∙ inst-here m g p.name n.i n.found p.key

  pub last-is : (ps : List Pair) → all_live m ps ≡ true → last_total m ps ≡ last_owned (store_of m) (slots_named (store_of m) ps)
  unfolding last_total last_owned all_live
  last-is [] l = refl
  last-is (p ∷ []) l =
      let n : Names m p = names_of m p (and-true (is_live m p) true l).0 in
      rw (n.found, owner-is p n)
  last-is (p ∷ q ∷ ps) l = last-is (q ∷ ps) (and-true (is_live m p) (is_live m q && all_live m ps) l).1

  -- in each edition the ranks are the same on slots: the whole list is live, and what is left of it
  pub ranks-are : (e : Edition) (whole behind : List Pair) → all_live m whole ≡ true → all_live m behind ≡ true → (p : Pair) (n : Names m p)
      → ranks_at e m whole behind n.i n.s ≡ ranks_on e (store_of m) (table_of m) (slots_named (store_of m) whole) (slots_named (store_of m) behind) (slot_named (store_of m) p)
  unfolding ranks_at ranks_on
  ranks-are by_the_rust whole behind w b p n = rw (last-is whole w, ← (latest-total m g), (known_of m g p n).slot, (known_of m g p n).sample, length-map behind (slot_named (store_of m)))

  pub infos-are : (e : Edition) (whole ps : List Pair) → all_live m whole ≡ true → all_live m ps ≡ true
      → infos_of e m whole ps ≡ slot_infos e (store_of m) (table_of m) (slots_named (store_of m) whole) (slots_named (store_of m) ps)
  unfolding infos_of slot_infos all_live
  infos-are e whole [] w l = refl
  infos-are e whole (p ∷ ps) w l =
      let b : (is_live m p ≡ true) × (all_live m ps ≡ true) = and-true (is_live m p) (all_live m ps) l in
      let n : Names m p = names_of m p b.0 in
      rw (n.found, n.held_by, infos-are e whole ps w b.1, ranks-are e whole ps w b.1 p n, owner-is p n, (known_of m g p n).slot, (known_of m g p n).sample)

  -- the infos of a call are made of the slots' records and their owners
  pub infos-is : (ps : List Pair) → all_live m ps ≡ true → infos_for m ps ≡ infos_at (store_of m) (table_of m) (slots_named (store_of m) ps)
  infos-is ps l = infos-are by_the_rust ps ps l l

  bad-from-is : (before ps : List Pair) → bad_from (is_live m) before ps ≡ bad_from (is_held (store_of m)) before ps
  unfolding bad_from
  bad-from-is before [] = refl
  bad-from-is before (p ∷ ps) = rw (live-is m g p, bad-from-is (before ++ p ∷ []) ps)

  -- "key list names a pair not live, or a pair twice": the same pair is the first bad one
  pub first-bad-is : (ps : List Pair) → first_bad (is_live m) ps ≡ first_bad (is_held (store_of m)) ps
  first-bad-is ps = bad-from-is [] ps
