-- What holds of every choice.
use Rattle.std.specs.Prelude.{◌≡◌, false, ◌&&◌, ℕ}
use Rattle.std.proofs.Math.Path.{refl}
use Rattle.std.proofs.Math.Bool.{true, and-false}
use Rattle.std.proofs.Math.Dec.{eqb}
use Rattle.sampleinfo.specs.States.{sample_bit, view_bit, instance_bit}
use Rattle.sampleinfo.specs.declared.SampleState.{SampleState}
use Rattle.sampleinfo.specs.declared.SampleState.TheVariants.{Read, NotRead}
use Rattle.sampleinfo.specs.declared.ViewState.{ViewState}
use Rattle.sampleinfo.specs.declared.ViewState.TheVariants.{New, NotNew}
use Rattle.sampleinfo.specs.declared.InstanceState.{InstanceState}
use Rattle.sampleinfo.specs.declared.InstanceState.TheVariants.{Alive, NotAliveDisposed, NotAliveNoWriters}
use Rattle.readcondition.specs.Masks.{condition, has, chosen_by, is_valid, any_condition, not_read}

-- a full mask has every bit, and a mask of 0 none
pub any-sample : (s : SampleState) → has 3 (sample_bit s) ≡ true
any-sample Read = refl
any-sample NotRead = refl

pub any-view : (v : ViewState) → has 3 (view_bit v) ≡ true
any-view New = refl
any-view NotNew = refl

pub any-instance : (i : InstanceState) → has 7 (instance_bit i) ≡ true
any-instance Alive = refl
any-instance NotAliveDisposed = refl
any-instance NotAliveNoWriters = refl

no-bit : (bit : ℕ) → has 0 bit ≡ false
no-bit bit = refl

module _ (s : SampleState) (v : ViewState) (i : InstanceState) where
  -- "mask 0 chooses nothing": in any of the three places
  pub no-sample-mask : (b c : ℕ) → chosen_by (condition 0 b c) s v i ≡ false
  unfolding chosen_by
  no-sample-mask b c = rw (no-bit (sample_bit s))

  pub no-view-mask : (a c : ℕ) → chosen_by (condition a 0 c) s v i ≡ false
  unfolding chosen_by
  no-view-mask a c = rw (no-bit (view_bit v)) (and-false (has a (sample_bit s)))

  pub no-instance-mask : (a b : ℕ) → chosen_by (condition a b 0) s v i ≡ false
  unfolding chosen_by
  no-instance-mask a b = rw (no-bit (instance_bit i), and-false (has b (view_bit v))) (and-false (has a (sample_bit s)))

  -- masks 3, 3, 7 choose every sample
  pub any-chooses : chosen_by any_condition s v i ≡ true
  unfolding chosen_by
  any-chooses = rw (any-sample s, any-view v, any-instance i)

  -- not_read chooses exactly the samples that were not read
  pub not-read-chooses : chosen_by not_read s v i ≡ eqb (sample_bit s) 2
  unfolding chosen_by
  not-read-chooses = rw (any-view v, any-instance i) (go s)
    where
      go : (t : SampleState) → has 2 (sample_bit t) && true ≡ eqb (sample_bit t) 2
      go Read = refl
      go NotRead = refl

-- the two conditions of readcondition.rs are within their bounds
pub any-valid : is_valid any_condition ≡ true
unfolding is_valid
any-valid = refl

pub not-read-valid : is_valid not_read ≡ true
unfolding is_valid
not-read-valid = refl
