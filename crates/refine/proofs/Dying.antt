-- The no-writers event, and the next name, on the store of a model.
use Rattle.std.specs.Prelude.{◌≡◌, refl, Bool, cond, List, [], ◌∷◌, ℕ, ◌<◌, length, get_or, ltb}
use Rattle.std.proofs.Common.{sym, ◌∙◌, arith, lt-ltb, le-ltb}
use Rattle.std.proofs.Math.Path.{ap}
use Rattle.std.proofs.Math.Option.{Option, some, none}
use Rattle.std.proofs.Math.ListN.{length-map}
use Rattle.lists.specs.Blocks.{put_at, map-put}
use Rattle.sampleinfo.specs.Lifecycle.{no_writers_of}
use Rattle.model.specs.Model as M
use Rattle.model.specs.Model.{Model, Instance, Answer, refused, ok, added, selected, infos, next, find, put, left, live_in, lives, dying, next_name}
use Rattle.store.specs.Store as S
use Rattle.store.specs.Store.{place_of, no_inst}
use Rattle.refine.specs.Layout.{inst_of, entries_from, slots_of, sample_of, store_of, table_of}
use Rattle.refine.specs.Tables.{lives_in}
use Rattle.refine.specs.Entries.{lives-of, among, entries-put, entries_at, insts, put_is, found_at, found_name, unknown-at}
use Rattle.refine.proofs.FitOf.{get-inst, nobody}

-- ---- an instance whose places stay

pub nobody-live : live_in nobody.places ≡ []
unfolding live_in
nobody-live = refl

module _ (is : List Instance) (at : ℕ) (y : Instance) (h : at < length is) (e : y.places ≡ (get_or is at nobody).places) where
  pub entries-same : entries_from 0 (put_at at y is) ≡ entries_from 0 is
  entries-same = entries-put 0 at is y (omega arith) ∙ ap (λ ps. among 0 at is (live_in ps)) e ∙ sym (entries_at 0 at is nobody nobody-live (omega arith))

  pub lives-same : lives (put_at at y is) ≡ lives is
  lives-same = sym (lives-of 0 (put_at at y is)) ∙ ap lives_in entries-same ∙ lives-of 0 is

-- ---- the no-writers event

-- document 01's number for the answer, 0 where it is none
abbrev pub code_of : Answer → ℕ
code_of (refused n) = n
code_of ok = 0
code_of (added k s o) = 0
code_of (selected ps) = 0
code_of (infos is) = 0
code_of (next o) = 0

abbrev pub event_of : M.Step → S.Event
event_of x = record { code = code_of x.answer; then = store_of x.then }

module _ (m : Model) (n : ℕ) where
  abbrev at : ℕ
  at = place_of n (insts m.keep m.instances)

  length-of : length (store_of m).insts ≡ length m.instances
  unfolding store_of
  length-of = length-map m.instances (inst_of m.keep)

  abbrev event : Bool → S.Event
  event b = cond b (record { code = 0; then = S.with_inst (store_of m) at (S.with_meta (S.inst_at (store_of m) at) (no_writers_of (S.inst_at (store_of m) at).meta)) }) (record { code = 3; then = store_of m })

  dying-as : S.dying (store_of m) n ≡ event (ltb at (length m.instances))
  unfolding S.dying store_of
  dying-as = rw (length-map m.instances (inst_of m.keep))

  module _ (j : Instance) (e : find n m.instances ≡ some j) where
    here : at < length m.instances
    here = (found_at m.keep n m.instances j nobody e).0

    there : get_or m.instances at nobody ≡ j
    there = (found_at m.keep n m.instances j nobody e).1

    put_as : put (left j) m.instances ≡ put_at at (left j) m.instances
    put_as = put_is m.keep (left j) m.instances ∙ ap (λ (k : ℕ). put_at (place_of k (insts m.keep m.instances)) (left j) m.instances) (found_name n m.instances j e)

    places_same : (left j).places ≡ (get_or m.instances at nobody).places
    places_same = ap (λ (i : Instance). i.places) (sym there)

    inst-is : S.inst_at (store_of m) at ≡ inst_of m.keep j
    unfolding store_of
    inst-is = get-inst m.keep m.instances at no_inst nobody here ∙ ap (inst_of m.keep) there

    left-store : S.with_inst (store_of m) at (S.with_meta (inst_of m.keep j) (no_writers_of j.meta)) ≡ store_of (dying m (some j)).then
    unfolding store_of
    left-store = rw (put_as, entries-same m.instances at (left j) here places_same, lives-same m.instances at (left j) here places_same, map-put (inst_of m.keep) m.instances at (left j))

    left-table : table_of (dying m (some j)).then ≡ table_of m
    unfolding table_of
    left-table = ap (slots_of sample_of) (ap (entries_from 0) put_as ∙ entries-same m.instances at (left j) here places_same)

    dying-found : S.dying (store_of m) n ≡ event_of (dying m (some j))
    dying-found = dying-as ∙ rw (lt-ltb at (length m.instances) here, inst-is) (ap (λ s. record { code = 0; then = s }) left-store)

  pub dying-is : S.dying (store_of m) n ≡ event_of (dying m (find n m.instances))
  dying-is = go (find n m.instances) refl
    where
      go : (o : Option Instance) → find n m.instances ≡ o → S.dying (store_of m) n ≡ event_of (dying m o)
      go none e = dying-as ∙ rw (le-ltb at (length m.instances) (omega (arith, unknown-at m.keep n m.instances e)))
      go (some j) e = dying-found j e

  pub table-dying : table_of (dying m (find n m.instances)).then ≡ table_of m
  table-dying = go (find n m.instances) refl
    where
      go : (o : Option Instance) → find n m.instances ≡ o → table_of (dying m o).then ≡ table_of m
      go none e = refl
      go (some j) e = left-table j e

-- ---- the next name

next-in : (k : Option ℕ) (n : ℕ) (is : List Instance) → S.next_name n (insts k is) ≡ next_name n is
unfolding S.next_name next_name
next-in k n [] = refl
next-in k n (i ∷ is) = rw (next-in k n is)

pub next-is : (m : Model) (n : ℕ) → S.next_name n (store_of m).insts ≡ next_name n m.instances
unfolding store_of
next-is m n = next-in m.keep n m.instances
