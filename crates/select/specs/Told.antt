-- What a choice answers, and what it writes into the lent buffer.
use Rattle.std.specs.Prelude.{◌≡◌, cond, List, [], ◌++◌, ℕ, ◌*◌, leb, length, take, drop}
use Rattle.std.specs.declared.result.Result.{Result}
use Rattle.std.specs.declared.result.Result.TheVariants.{Ok, Err}
use Rattle.refusals.specs.Numbers.{number_of}
use Rattle.refusals.specs.declared.Refusal.{Refusal}
use Rattle.readcondition.specs.Masks.{is_valid}
use Rattle.readcondition.specs.declared.ReadCondition.{ReadCondition}
use Rattle.model.specs.Pairs.{Pair, Hit, pairs_in}
use Rattle.model.specs.Model.{Answer, refused, ok, added, selected, infos, next}
use Rattle.pairs.specs.Flat.{pairs_of, pair_words}
use Rattle.select.specs.Ordered.{insert_all}

-- "mask beyond 3, 3, 7" is 1, and comes first; "lent result buffer too short for the whole answer" is 9
unfoldable pub selecting : ReadCondition → List Hit → ℕ → Answer
selecting c hs room = cond (is_valid c) (cond (leb (length hs) room) (selected (pairs_in (insert_all hs []))) (refused 9)) (refused 1)

-- document 01's number and values of each answer: the pairs are read off the buffer
abbrev pub answer_of : Result ℕ Refusal → List ℕ → Answer
answer_of (Ok n) out = selected (take n (pairs_of out))
answer_of (Err e) out = refused (number_of e)

-- the pairs that an answer has
abbrev pub pairs_told : Answer → List Pair
pairs_told (selected ps) = ps
pairs_told (refused n) = []
pairs_told ok = []
pairs_told (added k s e) = []
pairs_told (infos is) = []
pairs_told (next n) = []

-- "Result places past the answer keep what they held", and a refusal leaves them all
abbrev pub written : Answer → List ℕ → List ℕ
written a was = pair_words (pairs_told a) ++ drop (2 * length (pairs_told a)) was

-- as many pairs as the answer says
abbrev pub counted : Answer → Result ℕ Refusal → Result ℕ Refusal
counted a (Ok n) = Ok (length (pairs_told a))
counted a (Err e) = Err e

pub record Told (a : Answer) (r : Result ℕ Refusal) (was out : List ℕ) : Type 0 where
  pub answer : answer_of r out ≡ a
  pub count : r ≡ counted a r
  pub buffer : out ≡ written a was
