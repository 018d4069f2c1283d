-- Demand 3, proved: for any set-up within its bounds and any calls after it.
use mathlib.Core.Path.{◌≡◌, refl, ◌∙◌, ap, subst}
use mathlib.Core.Bool.{true}
use mathlib.Core.List.{List}
use mathlib.Core.Option.{Option}
use Prim.Native.Nat.{ℕ}
use Rattle.model.specs.Model.{Model, SetUp, Call, set_up, ok, within, keep_of, fresh, step}
use Rattle.model.specs.Bounds.{Bounds}
use Rattle.model.proofs.Bounds.{accepted}
use Rattle.model.specs.Story.{run, trace, entries_of, holds}
use Rattle.model.specs.Demand3.{Demand3}
use Rattle.model.proofs.PairLaws.{among_in}
use Rattle.model.proofs.Held.{holds-last, keep-is-told, length_last}
use Rattle.model.proofs.Keys.{all-keys-rise, story-keys-rise, last-is-last, live-keys-top}
use Rattle.model.proofs.Refusals.{formed-is, refused-same, refused-exactly, refused-iff, never-5, set-up-step}
use Rattle.model.proofs.Names.{held-once, known-told}
use Rattle.model.proofs.Slots.{Valid, all_valid, in_bounds, within-room, at_most, at-most-256, one-to-a-slot, slots-below-256, one-to-a-key}
use Rattle.model.proofs.Adds.{adds-step, leaves-step}
use Rattle.model.proofs.Choices.{looks-step, unknown-empty, nexts-step}
use Rattle.model.proofs.Lists.{lists-step}

pub demand3 : (u : SetUp) → within u ≡ true → (cs : List Call) → Demand3 (keep_of u) (run (fresh (keep_of u) u.instances) cs) (trace (fresh (keep_of u) u.instances) cs)
demand3 u e cs = record {
  held = λ k q n. holds-last d i n cs ∙ ap (λ (x : Option ℕ). holds x (entries_of d n (trace (fresh d i) cs))) q;
  last-k = length_last;
  held_all = λ q n. holds-last d i n cs ∙ ap (λ (x : Option ℕ). holds x (entries_of d n (trace (fresh d i) cs))) q;
  keep-told = λ n. keep-is-told d i n cs;
  bounds = in_bounds now valid;
  keys = all-keys-rise d i cs;
  own_keys = λ n. story-keys-rise d i n cs;
  last-key = last-is-last d i cs;
  live-keys = λ n. live-keys-top d i n cs;
  well-formed = formed-is;
  exactly = refused-exactly now;
  refused-iff = refused-iff now;
  never-5 = never-5 now;
  unchanged = refused-same now;
  once = λ n. held-once d i n cs;
  within-room = within-room now valid;
  known = λ n. known-told d i n cs;
  one-to-a-slot = one-to-a-slot now valid;
  slots-below-256 = slots-below-256 now valid;
  one-to-a-key = one-to-a-key now valid;
  at_most = at_most now valid;
  at-most-256 = at-most-256 now valid;
  adds = adds-step now valid;
  leaves = leaves-step now;
  looks = looks-step now (λ n. held-once d i n cs) (one-to-a-key now valid);
  unknown-empty = unknown-empty now;
  nexts = nexts-step now;
  lists = lists-step now (λ n. held-once d i n cs);
  names-is = among_in;
  sets = set-up-step now;
}
  where
    d : Option ℕ
    d = keep_of u

    i : ℕ
    i = u.instances

    now : Model
    now = run (fresh (keep_of u) u.instances) cs

    valid : Valid now
    valid = all_valid u e cs

-- the same from the set-up on, whatever stood before it: within document 01's bounds it is accepted, with the keep count that they give
pub set-up-demand3 : (m : Model) (u : SetUp) (d : Option ℕ) → Bounds u d → (cs : List Call)
    → ((step m (set_up u)).answer ≡ ok) × Demand3 d (run (step m (set_up u)).then cs) (trace (step m (set_up u)).then cs)
set-up-demand3 m u d b cs = let a = (accepted u d).1 b in
    rw ((set-up-step m u).makes-fresh d b)
    (refl, subst (λ k. Demand3 k (run (fresh k u.instances) cs) (trace (fresh k u.instances) cs)) a.1 (demand3 u a.0 cs))
