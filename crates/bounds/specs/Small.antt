-- What no call breaks: the numbers of a live sample stay within the types that the code gives them, and so do those of the infos made of it.
use Rattle.std.specs.Prelude.{◌≤◌, ◌<◌, ◌^◌}
use Rattle.std.specs.Int.{w64}
use Rattle.std.proofs.Common.{SFits}
use Rattle.lists.specs.Every.{Every}
use Rattle.sampleinfo.specs.States.{handle_of}
use Rattle.sampleinfo.specs.Counts.{disposed_count, no_writers_count}
use Rattle.sampleinfo.specs.Samples.{total_of}
use Rattle.sampleinfo.specs.declared.Sample.{Sample}
use Rattle.sampleinfo.specs.declared.Info.{Info}
use Rattle.model.specs.Model.{Model, Instance, Call, set_up, add, no_writers, choose, read_or_take, next_key, Answer, refused, ok, added, selected, infos, next, live_in}

-- refusal 7 keeps the total; a handle has 32 bits
pub record Small (s : Sample) : Type 0 where
  pub total : total_of s ≤ 2147483647
  pub handle : handle_of s.body < 2 ^ 32

abbrev pub SmallIn : Instance → Type 0
SmallIn i = Every (λ l. Small l.sample) (live_in i.places)

abbrev pub AllSmall : Model → Type 0
AllSmall m = Every SmallIn m.instances

-- "handle (u32)"
abbrev pub SmallCall : Call → Type 0
SmallCall (set_up u) = Unit {0}
SmallCall (add a) = a.handle < 2 ^ 32
SmallCall (no_writers n) = Unit {0}
SmallCall (choose w c room) = Unit {0}
SmallCall (read_or_take t ps room) = Unit {0}
SmallCall (next_key n) = Unit {0}

-- what an info line prints: a handle and counts of 32 bits, ranks of 64 with a sign
pub record SmallInfo (x : Info) : Type 0 where
  pub handle : handle_of x.body < 2 ^ 32
  pub disposed : disposed_count x.generation_counts < 2 ^ 32
  pub no_writers : no_writers_count x.generation_counts < 2 ^ 32
  pub generation : SFits w64 x.generation_rank
  pub absolute : SFits w64 x.absolute_generation_rank

abbrev pub SmallAnswer : Answer → Type 0
SmallAnswer (refused n) = Unit {0}
SmallAnswer ok = Unit {0}
SmallAnswer (added k s e) = Unit {0}
SmallAnswer (selected ps) = Unit {0}
SmallAnswer (infos xs) = Every SmallInfo xs
SmallAnswer (next n) = Unit {0}
