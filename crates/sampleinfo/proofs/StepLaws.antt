-- That a dead instance dies once. It stands here and not in specs/, so that an edit of `counts_after` is refused by itself.
use Rattle.std.specs.Prelude.{◌≡◌}
use Rattle.std.proofs.Math.Path.{refl}
use Rattle.std.proofs.Math.Bool.{false}
use Rattle.sampleinfo.specs.Lifecycle.{counts_after, is_alive, is_reborn}
use Rattle.sampleinfo.specs.declared.InstanceState.{InstanceState}
use Rattle.sampleinfo.specs.declared.InstanceState.TheVariants.{Alive, NotAliveDisposed, NotAliveNoWriters}
use Rattle.sampleinfo.specs.declared.NotAliveGenerationCounts.{NotAliveGenerationCounts}

same-counts : (old new : InstanceState) (c : NotAliveGenerationCounts) → is_reborn old new ≡ false → counts_after old new c ≡ c
same-counts Alive Alive c e = refl
same-counts Alive NotAliveDisposed c e = refl
same-counts Alive NotAliveNoWriters c e = refl
same-counts NotAliveDisposed Alive c e = cc
same-counts NotAliveDisposed NotAliveDisposed c e = refl
same-counts NotAliveDisposed NotAliveNoWriters c e = refl
same-counts NotAliveNoWriters Alive c e = cc
same-counts NotAliveNoWriters NotAliveDisposed c e = refl
same-counts NotAliveNoWriters NotAliveNoWriters c e = refl

-- a dead instance dies once: no further death moves its counts
pub dies-once : (old new : InstanceState) (c : NotAliveGenerationCounts) → is_alive old ≡ false → is_alive new ≡ false → counts_after old new c ≡ c
dies-once Alive new c e h = cc
dies-once NotAliveDisposed new c e h = same-counts NotAliveDisposed new c h
dies-once NotAliveNoWriters new c e h = same-counts NotAliveNoWriters new c h
