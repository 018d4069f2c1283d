-- Each instance is held once, and those held are those that a sample was accepted for.
use mathlib.Core.Path.{◌≡◌, refl, sym, ◌∙◌}
use mathlib.Core.Logic.{◌↔◌}
use mathlib.Core.Bool.{Bool, true, cond}
use mathlib.Core.List.{List, [], ◌∷◌, map}
use mathlib.Core.Option.{Option, some, none}
use Prim.Native.Nat.{ℕ, ◌+◌, ◌≤◌}
use native.Mathlib.Omega.{arith}
use lib.Dec.{eqb}
use borrow.Author.Tests.{eqb-true}
use Rattle.model.specs.Pairs.{Pair}
use Rattle.model.specs.Model.{Model, Instance, Call, Step, fresh, find, put, left, listed, accept, access, step}
use Rattle.model.specs.Story.{Story, run, trace, story_of, map_o}
use Rattle.model.specs.Demand3.{times_held}
use Rattle.model.proofs.Laws.{newcomer, put-here, put-there, find-here, find-there, Done, turned, began, came, lost, looked, went, asked, done}
use Rattle.model.proofs.Held.{told_by, instance-told}
use Rattle.model.proofs.Refusals.{none-some}
use Rattle.model.specs.PairLaws.{split}

times-put : (n : ℕ) (j : Instance) (is : List Instance) → times_held n (put j is) ≡ cond (eqb j.name n) (newcomer (find j.name is)) 0 + times_held n is
unfolding put find times_held
times-put n j [] = refl
times-put n j (i ∷ is) = split (eqb i.name j.name)
    (λ e. rw (put-here j i is e, find-here j.name i is e, eqb-true i.name j.name e) (split (eqb j.name n) (λ q. rw q (omega arith)) (λ q. rw q (omega arith))))
    (λ e. rw (put-there j i is e, find-there j.name i is e) (omega (arith, times-put n j is)))

times_none : (n : ℕ) (is : List Instance) → find n is ≡ none → times_held n is ≡ 0
unfolding find times_held
times_none n [] h = refl
times_none n (i ∷ is) h = split (eqb i.name n)
    (λ e. absurd (none-some (find n (i ∷ is)) h (find-here n i is e)))
    (λ e. rw e (omega (arith, times_none n is (sym (find-there n i is e) ∙ h))))

pub times-put-once : (n : ℕ) (j : Instance) (is : List Instance) → times_held n is ≤ 1 → times_held n (put j is) ≤ 1
times-put-once n j is h = rw times-put (split (eqb j.name n)
    (λ e. rw e (go (find j.name is) refl e))
    (λ e. rw e (omega arith)))
  where
    go : (o : Option Instance) → find j.name is ≡ o → eqb j.name n ≡ true → newcomer (find j.name is) + times_held n is ≤ 1
    go none f e = rw f (omega (arith, times_none n is (rw (eqb-true j.name n e) at f)))
    go (some i) f e = rw f (omega arith)

pub times-listed : (n : ℕ) (t : Bool) (ps : List Pair) (is : List Instance) → times_held n (map (listed t ps) is) ≡ times_held n is
unfolding times_held
times-listed n t ps [] = refl
times-listed n t ps (i ∷ is) = omega (arith, times-listed n t ps is)

once-done : (n : ℕ) {m : Model} {c : Call} {x : Step} → Done m c x → times_held n m.instances ≤ 1 → times_held n x.then.instances ≤ 1
unfolding accept access times_held
once-done n (turned c r) h = h
once-done n (began u e) h = omega arith
once-done n {m} (came a e) h = times-put-once n _ m.instances h
once-done n {m} (lost k i e) h = times-put-once n (left i) m.instances h
once-done n (looked w k room r) h = h
once-done n {m} (went t ps room e) h = rw (times-listed n t ps m.instances) h
once-done n (asked k r) h = h

once-run : (n : ℕ) (m : Model) (cs : List Call) → times_held n m.instances ≤ 1 → times_held n (run m cs).instances ≤ 1
unfolding run
once-run n m [] h = h
once-run n m (c ∷ cs) h = once-run n (step m c).then cs (once-done n (done m c) h)

pub held-once : (d : Option ℕ) (i n : ℕ) (cs : List Call) → times_held n (run (fresh d i) cs).instances ≤ 1
unfolding times_held
held-once d i n cs = once-run n (fresh d i) cs (omega arith)

pub known-told : (d : Option ℕ) (i n : ℕ) (cs : List Call) → (find n (run (fresh d i) cs).instances ≡ none) ↔ ((story_of d n (trace (fresh d i) cs)).story ≡ none)
known-told d i n cs = rw (instance-told d i n cs) (go (run (fresh d i) cs).keep (story_of d n (trace (fresh d i) cs)).story)
  where
    go : (k : Option ℕ) (s : Option Story) → (map_o (told_by k n) s ≡ none) ↔ (s ≡ none)
    go k none = (λ e. refl, λ e. refl)
    go k (some s) = (λ e. absurd (none-some _ e refl), λ e. absurd (none-some _ e refl))
