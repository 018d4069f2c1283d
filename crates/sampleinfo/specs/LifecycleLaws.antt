-- The lifecycle step as the code meets it, the answer on the left; and what holds of every step.
use Rattle.std.specs.Prelude.{◌≡◌, Bool, ◌+◌, ◌≤◌, Option, Some, None}
use Rattle.std.proofs.Math.Path.{refl, ap}
use Rattle.std.proofs.Common.{sym, ◌∙◌, arith}
use Rattle.std.proofs.Math.Bool.{true, false, cond}
use Rattle.std.specs.Option.{unwrap_or}
use Rattle.sampleinfo.specs.Counts.{total, disposed_count, no_writers_count}
use Rattle.sampleinfo.specs.Lifecycle.{state_of, counts_of, with_state, counts_after, is_alive, is_reborn, is_last, becomes, lifecycle_of, stepped_of, left_by, no_writers_of, lifecycle_number, stepped_number}
use Rattle.sampleinfo.specs.declared.InstanceState.{InstanceState}
use Rattle.sampleinfo.specs.declared.InstanceState.TheVariants.{Alive, NotAliveDisposed, NotAliveNoWriters}
use Rattle.sampleinfo.specs.declared.NotAliveGenerationCounts.{NotAliveGenerationCounts}
use Rattle.sampleinfo.specs.declared.InstanceMetaData.{InstanceMetaData}

-- ---- the ways through the step are in proofs/StepLaws.antt

module _ (i : InstanceMetaData) (new : InstanceState) where
  -- the step from the counts after it

  module _ (x : Option NotAliveGenerationCounts) (e : x ≡ cond (is_last i new) None (Some (counts_after (state_of i) new (counts_of i)))) where
    pub step_refused : x ≡ None → None ≡ lifecycle_of i new
    unfolding lifecycle_of
    step_refused h = go (is_last i new) (sym e ∙ h)
      where
        go : (b : Bool) → cond b None (Some (counts_after (state_of i) new (counts_of i))) ≡ None → None ≡ cond b None (Some (becomes i new))
        go true q = refl
        go false q = cc

    pub step_moved : (c : NotAliveGenerationCounts) → x ≡ Some c → Some (with_state i new c) ≡ lifecycle_of i new
    unfolding lifecycle_of
    step_moved c h = go (is_last i new) (sym e ∙ h)
      where
        go : (b : Bool) → cond b None (Some (counts_after (state_of i) new (counts_of i))) ≡ Some c → Some (with_state i new c) ≡ cond b None (Some (becomes i new))
        go true q = cc
        go false q = cc

  -- the lent record after the step

  pub lent_after : (x : Option InstanceMetaData) (y : InstanceMetaData) → x ≡ lifecycle_of i new → y ≡ unwrap_or x i → y ≡ stepped_of i new
  unfolding lifecycle_of stepped_of
  lent_after x y e q = rw (q, e) (go (is_last i new))
    where
      go : (b : Bool) → unwrap_or (cond b None (Some (becomes i new))) i ≡ cond b i (becomes i new)
      go true = refl
      go false = refl

  -- the two forms of the step say the same

  pub now_is : (x : InstanceMetaData) (y : InstanceMetaData) → Some x ≡ lifecycle_of i new → y ≡ stepped_of i new → Some y ≡ lifecycle_of i new
  unfolding lifecycle_of stepped_of
  now_is x y e q = rw q (go (is_last i new) e)
    where
      go : (b : Bool) → Some x ≡ cond b None (Some (becomes i new)) → Some (cond b i (becomes i new)) ≡ cond b None (Some (becomes i new))
      go true t = cc
      go false t = refl

  -- the answer with document 01's number of it
  pub step_told : (r : Option InstanceMetaData) → r ≡ lifecycle_of i new → (r ≡ lifecycle_of i new) × (stepped_number r ≡ lifecycle_number i new)
  unfolding lifecycle_of
  step_told r e = (e, ap stepped_number e ∙ go (is_last i new))
    where
      go : (b : Bool) → stepped_number (cond b None (Some (becomes i new))) ≡ cond b 7 0
      go true = refl
      go false = refl

-- ---- the no-writers event

module _ (i : InstanceMetaData) where
  pub left-dead : (o : InstanceState) → state_of i ≡ o → left_by o ≡ o → i ≡ no_writers_of i
  left-dead o h q = ap (λ (s : InstanceState). with_state i s (counts_of i)) (h ∙ sym q ∙ ap left_by (sym h))

-- ---- what holds of every step (DDS 1.4, 2.2.2.5.1.5; datasample_cache.rs: "you can only die once")

pub counts-never-fall : (old new : InstanceState) (c : NotAliveGenerationCounts)
    → (disposed_count c ≤ disposed_count (counts_after old new c)) × (no_writers_count c ≤ no_writers_count (counts_after old new c))
counts-never-fall Alive Alive c = (omega arith, omega arith)
counts-never-fall Alive NotAliveDisposed c = (omega arith, omega arith)
counts-never-fall Alive NotAliveNoWriters c = (omega arith, omega arith)
counts-never-fall NotAliveDisposed Alive c = (omega arith, omega arith)
counts-never-fall NotAliveDisposed NotAliveDisposed c = (omega arith, omega arith)
counts-never-fall NotAliveDisposed NotAliveNoWriters c = (omega arith, omega arith)
counts-never-fall NotAliveNoWriters Alive c = (omega arith, omega arith)
counts-never-fall NotAliveNoWriters NotAliveDisposed c = (omega arith, omega arith)
counts-never-fall NotAliveNoWriters NotAliveNoWriters c = (omega arith, omega arith)

-- the total is raised by one at a rebirth, and by nothing else
pub total-after : (old new : InstanceState) (c : NotAliveGenerationCounts) → total (counts_after old new c) ≡ total c + cond (is_reborn old new) 1 0
total-after Alive Alive c = omega arith
total-after Alive NotAliveDisposed c = omega arith
total-after Alive NotAliveNoWriters c = omega arith
total-after NotAliveDisposed Alive c = omega arith
total-after NotAliveDisposed NotAliveDisposed c = omega arith
total-after NotAliveDisposed NotAliveNoWriters c = omega arith
total-after NotAliveNoWriters Alive c = omega arith
total-after NotAliveNoWriters NotAliveDisposed c = omega arith
total-after NotAliveNoWriters NotAliveNoWriters c = omega arith

-- a dead instance dies once: a no-writers event leaves it as it is (no further death moves its counts: proofs/StepLaws.antt)
pub left-once : (i : InstanceMetaData) → is_alive (state_of i) ≡ false → no_writers_of i ≡ i
left-once i h = sym (go (state_of i) refl h)
  where
    go : (o : InstanceState) → state_of i ≡ o → is_alive o ≡ false → i ≡ no_writers_of i
    go Alive e q = cc
    go NotAliveDisposed e q = left-dead i NotAliveDisposed e refl
    go NotAliveNoWriters e q = left-dead i NotAliveNoWriters e refl
