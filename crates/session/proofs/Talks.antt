-- Records in a row, each answered by `respond` on what the one before left: what is printed is the printout. The step cites the function's own contract, as
-- the checker made it of the source (`Learnt`: what its caller learns).
use mathlib.Core.Path.{◌≡◌, refl}
use mathlib.Core.List.{List, [], ◌∷◌, ◌++◌}
use mathlib.Core.Option.{Option}
use Prim.Native.Nat.{ℕ, ◌+◌, ◌<◌}
use native.Mathlib.Omega.{arith}
use lib.ListN.{length, take, drop}
use lib.Seq.{take_at}
use contract.Lifetimes.{Lfts}
use Rattle.std.specs.Borrow.{Bor, MutBor}
use Rattle.sampleinfo.specs.declared.Sample.{Sample}
use Rattle.model.specs.Model.{Model}
use Rattle.printing.specs.Printout.{printed}
use Rattle.printing.specs.Lines.{Laid}
use Rattle.replies.specs.declared.Session.{Session}
use Rattle.records.specs.Format.{too_long}
use Rattle.session.specs.Session.{turn, printout}
use Rattle.session.specs.Stands.{Stands, Responds}
use Rattle.session.proofs.respond.Reads as respond

-- the records, and the bytes that were printed: as many of the lent bytes as each was answered with. `κs` are the lifetimes of the references, and a primed
-- reference is one after the call
pub data Talks : Session → List Sample → List (List ℕ) → List ℕ → Type 0 where
  done : {s : Session} {t : List Sample} → Talks s t [] []
  then : {recs : List (List ℕ)} {out : List ℕ} (κs : Lfts 6) (s s' : MutBor Session) (t t' : MutBor (List Sample)) (rec : Bor (List ℕ)) (pairs pairs' infos infos' line line' : MutBor (List ℕ)) (n : ℕ)
      → length rec.now < too_long
      → respond.Learnt κs (s, (t, (rec, (pairs, (infos, (line, tt)))))) n (s', (t', (rec, (pairs', (infos', (line', tt))))))
      → Talks s'.now t'.now recs out → Talks s.now t.now (rec.now ∷ recs) (take n line'.now ++ out)

laid-first : (was s line : List ℕ) (n : ℕ) → Laid was 0 s line n → take n line ≡ s
laid-first was s line n l = let e : n ≡ length s = omega (arith, l.place) in rw (e, l.bytes) (take_at s (drop (0 + length s) was) (length s) refl)

pub session-prints : {s : Session} {t : List Sample} {recs : List (List ℕ)} {out : List ℕ} → Talks s t recs out → (st : Option Model) → Stands st s t → out ≡ printout st recs
unfolding printout
session-prints done st l = refl
session-prints (then κs s s' t t' rec pairs pairs' infos infos' line line' n h f k) st l =
    let x : Responds (turn st rec.now) s.now t.now _ _ line.now n s'.now t'.now _ _ line'.now = f.stood st h l in
    rw (laid-first line.now (printed (turn st rec.now).answer) line'.now n x.lines, session-prints k (turn st rec.now).then x.stands) refl
