use Rattle.std.proofs.Common.{rules}
use Rattle.samples.specs.TableLaws.{fill-turn, fill-length, fill_end, fill-256}
use Rattle.samples.proofs.fill.Goals as goal

pub loop-i-preserved : goal.loop-i-preserved
loop-i-preserved c = search (rules, fill-turn, fill-length)

pub returns : goal.returns
returns c = (search (rules, fill_end), λ l. search (rules, fill-256))
