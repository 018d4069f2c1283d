-- Two outcomes that meet one contract are equal: one possible answer and one possible content of header, index and table.
-- `Whole` of a header's free slots says that it has four words of 64 bits, as every value of that type has.
use Rattle.std.specs.Prelude.{◌≡◌, refl, Bool, true, false, List, ℕ, length}
use Rattle.std.proofs.Common.{sym, ap, ◌∙◌}
use Rattle.std.proofs.Math.Decide.{ℕ_discrete}
use Rattle.sampleinfo.specs.declared.Sample.{Sample}
use Rattle.slots.specs.FreeLaws.{Whole}
use Rattle.model.specs.Model.{Model, SetUp, Step, Answer, within, keep_of, fresh}
use Rattle.index.specs.declared.Cache.{Cache}
use Rattle.index.specs.declared.Index.{Index}
use Rattle.memory.specs.Lies.{one-memory, one-index}
use Rattle.select.specs.Told.{Told}
use Rattle.select.specs.ToldLaws as select
use Rattle.std.specs.declared.option.Option as the_code
use Rattle.std.specs.declared.option.Option.TheVariants.{None, Some}
use Rattle.std.specs.declared.result.Result.{Result}
use Rattle.std.specs.declared.result.Result.TheVariants.{Ok, Err}
use Rattle.refusals.specs.Numbers.{number_of}
use Rattle.refusals.specs.NumberLaws.{same-refusal}
use Rattle.refusals.specs.declared.Refusal.{Refusal}
use Rattle.refusals.specs.declared.Refusal.TheVariants as refusal
use Rattle.datasample_access.specs.Listed as list
use Rattle.datasample_access.specs.OneOutcome as access
use Rattle.datasample_cache.specs.Came.{evicted_as, added_as, Came}
use Rattle.datasample_cache.specs.Others.{reply_as, next_as, SetsUp, Dies}
use Rattle.datasample_cache.specs.declared.Added.{Added}
use Rattle.demands.specs.Calls.{begun}

-- ---- answers: document 01's number and values tell the case

evicted-same : (a b : the_code.Option ℕ) → evicted_as a ≡ evicted_as b → a ≡ b
evicted-same (Some h) (Some k) e = cc
evicted-same (Some h) None e = cc
evicted-same None (Some k) e = cc
evicted-same None None e = refl

made : ℕ → ℕ → the_code.Option ℕ → Result Added Refusal
made k s x = Ok (record { key = k; slot = s; evicted = x })

added-same : (a b : Result Added Refusal) → added_as a ≡ added_as b → a ≡ b
unfolding made
added-same (Ok x) (Ok y) e =
    let p : x.key ≡ y.key = cc in
    let q : x.slot ≡ y.slot = cc in
    let g : evicted_as x.evicted ≡ evicted_as y.evicted = cc in
    let whole : made x.key x.slot x.evicted ≡ made y.key y.slot y.evicted = rw (p, q, evicted-same x.evicted y.evicted g) in
    whole
added-same (Ok x) (Err n) e = cc
added-same (Err n) (Ok x) e = cc
added-same (Err n) (Err k) e = let p : number_of n ≡ number_of k = cc in ap Err (same-refusal n k p)

reply-same : (a b : Result Unit Refusal) → reply_as a ≡ reply_as b → a ≡ b
reply-same (Ok x) (Ok y) e = refl
reply-same (Ok x) (Err n) e = cc
reply-same (Err n) (Ok y) e = cc
reply-same (Err n) (Err k) e = let p : number_of n ≡ number_of k = cc in ap Err (same-refusal n k p)

next-same : (a b : the_code.Option ℕ) → next_as a ≡ next_as b → a ≡ b
next-same (Some k) (Some j) e = cc
next-same (Some k) None e = cc
next-same None (Some j) e = cc
next-same None None e = refl

-- ---- outcomes

pub one-add : (st : Step) (r q : Result Added Refusal) (h j : Cache) (v w : List ℕ) (t u : List Sample) → Whole h.free → Whole j.free → Came st r h v t → Came st q j w u
    → (r ≡ q) × (h ≡ j) × (v ≡ w) × (t ≡ u)
one-add st r q h j v w t u x y a b =
    let m : (h ≡ j) × (v ≡ w) × (t ≡ u) = one-memory st.then h j v w t u x y a.lies b.lies in
    (added-same r q (a.answer ∙ sym b.answer), m.0, m.1, m.2)

pub one-no-writers : (st : Step) (r q : Result Unit Refusal) (h : Cache) (v w : List ℕ) (t : List Sample) → Dies st r h v t → Dies st q h w t → (r ≡ q) × (v ≡ w)
one-no-writers st r q h v w t a b = (reply-same r q (a.answer ∙ sym b.answer), a.lies.words ∙ sym b.lies.words)

pub one-next-key : (m : Model) (st : Step) (r q : the_code.Option ℕ) → st ≡ record { answer = next_as r; then = m } → st ≡ record { answer = next_as q; then = m } → r ≡ q
one-next-key m st r q a b = next-same r q (ap (λ (s : Step). s.answer) (sym a ∙ b))

-- a set-up, on any memory
pub one-set-up : (u : SetUp) (i : Index) (r q : Result Index Refusal) (t k n : List Sample) → Whole (begun i r).head.free → Whole (begun i q).head.free → SetsUp u r t k → SetsUp u q t n
    → (r ≡ q) × (k ≡ n)
one-set-up u i r q t k n x y a b = go (ℕ_discrete (length t) 256)
  where
    -- both are as found
    left : (e : Refusal) → (r ≡ Err e) × (k ≡ t) → (q ≡ Err e) × (n ≡ t) → (r ≡ q) × (k ≡ n)
    left e f g = (f.0 ∙ sym g.0, f.1 ∙ sym g.1)

    whole : length t ≡ 256 → (z : Bool) → within u ≡ z → (r ≡ q) × (k ≡ n)
    whole l true e =
        let f = a.accepted l e in
        let g = b.accepted l e in
        let m : (f.0 ≡ g.0) × (k ≡ n) = one-index (fresh (keep_of u) u.instances) f.0 g.0 k n (rw f.1.0 at x) (rw g.1.0 at y) f.1.1 g.1.1 in
        (f.1.0 ∙ ap Ok m.0 ∙ sym g.1.0, m.1)
    whole l false e = left refusal.OutOfBounds (a.out-of-bounds l e) (b.out-of-bounds l e)

    go : Dec (length t ≡ 256) → (r ≡ q) × (k ≡ n)
    go (yes l) = whole l (within u) refl
    go (no l) = left refusal.Malformed (a.no_table l) (b.no_table l)

-- a choice: its answer and the lent buffer
pub one_choice : (a : Answer) (r q : Result ℕ Refusal) (was out end : List ℕ) → Told a r was out → Told a q was end → (r ≡ q) × (out ≡ end)
one_choice = select.one-outcome

-- a read or a take
pub one_list : (st : Step) (r q : Result ℕ Refusal) (h j : Cache) (v w : List ℕ) (t u : List Sample) (was out end : List ℕ) → Whole h.free → Whole j.free
    → list.Came st r h v t was out → list.Came st q j w u was end → (r ≡ q) × (h ≡ j) × (v ≡ w) × (t ≡ u) × (out ≡ end)
one_list = access.one-outcome
