-- Two outcomes that meet the contract of `respond` are equal: one possible printout, one possible session, its index and the table, and one possible content of
-- each lent buffer. `Whole` of a header's free slots says that it has four words of 64 bits, as every value of that type has.
use Rattle.std.specs.Prelude.{◌≡◌, List, ℕ}
use Rattle.std.proofs.Common.{sym, ap, ◌∙◌}
use Rattle.std.proofs.Math.Option.{Option, some, none}
use Rattle.std.specs.declared.option.Option as the_code
use Rattle.std.specs.declared.option.Option.TheVariants.{None, Some}
use Rattle.sampleinfo.specs.declared.Sample.{Sample}
use Rattle.index.specs.declared.Index.{Index}
use Rattle.slots.specs.FreeLaws.{Whole}
use Rattle.model.specs.Model.{Model}
use Rattle.memory.specs.Lies.{one-index}
use Rattle.replies.specs.Steps.{session_of}
use Rattle.replies.specs.declared.Session.{Session}
use Rattle.session.specs.Session.{Turn}
use Rattle.session.specs.Stands.{Held, Stands, Kept, Responds}

-- of the index that a session holds, if any
abbrev pub Wholes : the_code.Option Index → Type 0
Wholes None = Unit {0}
Wholes (Some x) = Whole x.head.free

held-same : (m : Model) (a b : the_code.Option Index) (k u : List Sample) → Wholes a → Wholes b → Held m a k → Held m b u → (a ≡ b) × (k ≡ u)
held-same m None b k u p q x y = absurd x
held-same m (Some h) None k u p q x y = absurd y
held-same m (Some h) (Some j) k u p q x y = let z : (h ≡ j) × (k ≡ u) = one-index m h j k u p q x y in (ap Some z.0, z.1)

-- what stands, and what is kept where nothing does, leave one memory
one-standing : (st : Option Model) (s : Session) (t : List Sample) (x y : Session) (k u : List Sample) → Wholes x.index → Wholes y.index
    → Stands st x k → Kept st s t x k → Stands st y u → Kept st s t y u → (x ≡ y) × (k ≡ u)
one-standing none s t x y k u p q a b c d = (b.0 ∙ sym d.0, b.1 ∙ sym d.1)
one-standing (some m) s t x y k u p q a b c d =
    let z : (x.index ≡ y.index) × (k ≡ u) = held-same m x.index y.index k u p q a.lies c.lies in
    (ap session_of z.0, z.1)

pub one_answer : (m : Turn) (s : Session) (t : List Sample) (ps is was : List ℕ) (r q : ℕ) (v w : Session) (k u : List Sample) (ps' ps'' is' is'' line line' : List ℕ)
    → Wholes v.index → Wholes w.index → Responds m s t ps is was r v k ps' is' line → Responds m s t ps is was q w u ps'' is'' line'
    → (r ≡ q) × (v ≡ w) × (k ≡ u) × (ps' ≡ ps'') × (is' ≡ is'') × (line ≡ line')
one_answer m s t ps is was r q v w k u ps' ps'' is' is'' line line' f g x y =
    let z : (v ≡ w) × (k ≡ u) = one-standing m.then s t v w k u f g x.stands x.kept y.stands y.kept in
    (x.lines.place ∙ sym y.lines.place, z.0, z.1, x.pairs ∙ sym y.pairs, x.infos ∙ sym y.infos, x.lines.bytes ∙ sym y.lines.bytes)
