-- What an accepted add and a no-writers event leave.
use mathlib.Core.Path.{◌≡◌, refl, sym, ◌∙◌, ap}
use mathlib.Core.Bool.{true, false}
use mathlib.Core.List.{List, [], ◌∷◌}
use mathlib.Core.Option.{Option, some, none}
use Prim.Native.Nat.{ℕ}
use native.Mathlib.Omega.{arith}
use lib.Dec.{eqb}
use Rattle.sampleinfo.specs.Lifecycle.{meta, state_of, counts_of, accessed_of, is_alive, left_by}
use Rattle.sampleinfo.specs.LifecycleLaws.{left-once}
use Rattle.sampleinfo.specs.declared.InstanceState.{InstanceState}
use Rattle.sampleinfo.specs.declared.InstanceState.TheVariants.{Alive, NotAliveDisposed, NotAliveNoWriters}
use Rattle.sampleinfo.specs.declared.InstanceMetaData.{InstanceMetaData}
use Rattle.sampleinfo.specs.declared.NotAliveGenerationCounts.{NotAliveGenerationCounts}
use Rattle.model.specs.Model.{Model, Instance, Live, Arrival, Place, gone, held, Step, add, no_writers, added, find, put, live_in, push, pushed_out, left, dying, old_of, issue_of, key_in, refusal_of, arrived, slot_of, accept, step}
use Rattle.model.specs.Story.{live_at}
use Rattle.model.specs.Demand3.{Pushes, Adds, Leaves}
use Rattle.model.proofs.Laws.{Done, turned, came, done, find-name, find-here, find-there, put-here, put-there, find-put-same, find-put-other}
use Rattle.model.proofs.Refusals.{none-some, not-ok, number, passed, issue-given}
use Rattle.model.proofs.Counting.{Pushable, live-append, window-live}
use Rattle.model.proofs.Slots.{Valid, here-is, can-push, slot-lowest}
use Rattle.model.specs.PairLaws.{split}

-- ---- an accepted add
pushes : (k : Option ℕ) (ps : List Place) (s : Live) → Pushable k ps → Pushes (live_in ps) s (pushed_out k ps) (live_in (push k ps (held s)))
unfolding push pushed_out live_in
pushes none ps s h = live-append ps (held s ∷ [])
pushes (some d) [] s h = absurd (omega arith)
pushes (some d) (gone ∷ ps) s h = live-append ps (held s ∷ [])
pushes (some d) (held x ∷ ps) s h = (x, live_in ps, refl, live-append ps (held s ∷ []), refl)

old-live : (m : Model) (a : Arrival) → live_at a.name m ≡ live_in (old_of m a).places
unfolding old_of
old-live m a = go (find a.name m.instances) refl
  where
    go : (o : Option Instance) → find a.name m.instances ≡ o → live_at a.name m ≡ live_in (old_of m a).places
    go none f = rw (f, window-live m.keep)
    go (some i) f = rw f

module _ (m : Model) (valid : Valid m) where
  adds-accept : (a : Arrival) → refusal_of m a ≡ 0 → Adds m a (key_in (issue_of m a)) (slot_of m a) (pushed_out m.keep (old_of m a).places) (accept m a).then
  unfolding accept arrived
  adds-accept a e = record {
    key-issued = issue-given (issue_of m a) (passed m a e).keyed;
    key-last = refl;
    slot-lowest = slot-lowest m valid a e;
    made = (_, find-put-same _ a.name m.instances refl, rw (old-live m a) (pushes m.keep (old_of m a).places _ (can-push m valid a)));
    others-stay = λ n q. find-put-other _ n m.instances q;
  }

  adds-done : (a : Arrival) {x : Step} (key slot : ℕ) (out : Option ℕ) → Done m (add a) x → x.answer ≡ added key slot out → Adds m a key slot out x.then
  unfolding accept
  adds-done a key slot out (turned c r) h = let z : ◌≡◌ {A = ℕ} 0 1 = cc in absurd (omega arith)
  adds-done a key slot out (came b e) h =
      let p : key_in (issue_of m a) ≡ key = cc in
      let q : slot_of m a ≡ slot = cc in
      let r : pushed_out m.keep (old_of m a).places ≡ out = cc in
      rw (← p, ← q, ← r) (adds-accept a e)

  pub adds-step : (a : Arrival) (key slot : ℕ) (out : Option ℕ) → (step m (add a)).answer ≡ added key slot out → Adds m a key slot out (step m (add a)).then
  adds-step a key slot out h = adds-done a key slot out (done m (add a)) h

-- ---- the no-writers event
put_same : (j : Instance) (is : List Instance) → find j.name is ≡ some j → put j is ≡ is
unfolding find
put_same j [] h = let z : ◌≡◌ {A = ℕ} 0 1 = cc in absurd (omega arith)
put_same j (i ∷ is) h = split (eqb i.name j.name)
    (λ e. let p : i ≡ j = cc (find-here j.name i is e) in put-here j i is e ∙ ap (λ (k : Instance). k ∷ is) (sym p))
    (λ e. put-there j i is e ∙ ap (i ∷◌) (put_same j is (sym (find-there j.name i is e) ∙ h)))

left-dead : (j : Instance) → is_alive (state_of j.meta) ≡ false → left j ≡ j
left-dead j h = ap (λ (i : InstanceMetaData). record { name = j.name; meta = i; places = j.places }) (left-once j.meta h)

is-alive : (s : InstanceState) → is_alive s ≡ true → left_by s ≡ NotAliveNoWriters
is-alive Alive e = refl
is-alive NotAliveDisposed e = cc
is-alive NotAliveNoWriters e = refl

abbrev made : ℕ → InstanceState → NotAliveGenerationCounts → ℕ → List Place → Instance
made n s c x ps = record { name = n; meta = meta s c x; places = ps }

same-made : (a b : ℕ) (s t : InstanceState) (c : NotAliveGenerationCounts) (x : ℕ) (ps : List Place) → a ≡ b → s ≡ t → made a s c x ps ≡ made b t c x ps
same-made a b s t c x ps p q = rw (p, q)

left-alive : (n : ℕ) (j : Instance) → j.name ≡ n → is_alive (state_of j.meta) ≡ true → left j ≡ made n NotAliveNoWriters (counts_of j.meta) (accessed_of j.meta) j.places
left-alive n j p h = same-made j.name n (left_by (state_of j.meta)) NotAliveNoWriters (counts_of j.meta) (accessed_of j.meta) j.places p (is-alive (state_of j.meta) h)

module _ (m : Model) (n : ℕ) where
  left-found : (j : Instance) → find n m.instances ≡ some j → Leaves m n (dying m (some j))
  left-found j f = record {
    by-3 = (λ h. not-ok h, λ h. absurd (none-some (find n m.instances) h f));
    by-no-other = λ r h. not-ok h;
    alive = λ i g h. find-put-same (left j) n m.instances (find-name n m.instances j f) ∙ ap some (left-alive n j (find-name n m.instances j f) (rw (same i g) at h)
        ∙ ap (λ (k : Instance). made n NotAliveNoWriters (counts_of k.meta) (accessed_of k.meta) k.places) (sym (same i g)));
    dead-stays = λ i g h. ap (λ (is : List Instance). record { keep = m.keep; room = m.room; last = m.last; instances = is })
        (ap (λ (k : Instance). put k m.instances) (left-dead j (rw (same i g) at h)) ∙ put_same j m.instances (here-is n m.instances j f));
    others-stay = λ k h. find-put-other (left j) k m.instances (rw (find-name n m.instances j f) h);
    last-stays = refl;
  }
    where
      same : (i : Instance) → find n m.instances ≡ some i → i ≡ j
      same i g = cc

  left-unknown : find n m.instances ≡ none → Leaves m n (dying m none)
  left-unknown f = record {
    by-3 = (λ h. f, λ h. refl);
    by-no-other = λ r h. sym (number h);
    alive = λ i g h. absurd (none-some (find n m.instances) f g);
    dead-stays = λ i g h. refl;
    others-stay = λ k h. refl;
    last-stays = refl;
  }

  pub leaves-step : Leaves m n (step m (no_writers n))
  unfolding step
  leaves-step = go (find n m.instances) refl
    where
      go : (o : Option Instance) → find n m.instances ≡ o → Leaves m n (dying m o)
      go none f = left-unknown f
      go (some j) f = left-found j f
