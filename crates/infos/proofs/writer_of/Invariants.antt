use Rattle.std.proofs.Common.{◌≡◌, length, take, drop}
use Rattle.infos.specs.Words.{bytes_of}
use Rattle.infos.proofs.writer_of.Given as goal

abbrev pub invariant-loop-j : goal.invariant-loop-j
invariant-loop-j l = (length l.byte-items ≡ 16) × (take l.j l.byte-items ≡ take l.j (bytes_of (take 16 (drop 11 l.words))))
