-- The numbers of states.
use Rattle.std.specs.Prelude.{◌≡◌, refl}
use Rattle.sampleinfo.specs.States.{sample_bit, sample_of_bit, view_bit, view_of_bit, instance_bit, instance_of_bit}
use Rattle.sampleinfo.specs.declared.SampleState.{SampleState}
use Rattle.sampleinfo.specs.declared.SampleState.TheVariants.{Read, NotRead}
use Rattle.sampleinfo.specs.declared.ViewState.{ViewState}
use Rattle.sampleinfo.specs.declared.ViewState.TheVariants.{New, NotNew}
use Rattle.sampleinfo.specs.declared.InstanceState.{InstanceState}
use Rattle.sampleinfo.specs.declared.InstanceState.TheVariants.{Alive, NotAliveDisposed, NotAliveNoWriters}

-- a state's number stands for it
pub sample-back : (s : SampleState) → sample_of_bit (sample_bit s) ≡ s
sample-back Read = refl
sample-back NotRead = refl

pub view-back : (v : ViewState) → view_of_bit (view_bit v) ≡ v
view-back New = refl
view-back NotNew = refl

pub of-bit-bit : (s : InstanceState) → instance_of_bit (instance_bit s) ≡ s
of-bit-bit Alive = refl
of-bit-bit NotAliveDisposed = refl
of-bit-bit NotAliveNoWriters = refl
