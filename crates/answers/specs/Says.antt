-- Which answer of document 01 a reply stands for, with the lent words beside it.
use Rattle.std.specs.Prelude.{◌≡◌, List, ℕ, ◌≤◌, length, take, Result, Ok, Err}
use Rattle.refusals.specs.declared.Refusal.{Refusal}
use Rattle.refusals.specs.Numbers.{number_of}
use Rattle.lists.specs.Every.{Every}
use Rattle.sampleinfo.specs.declared.Info.{Info}
use Rattle.model.specs.Model.{Answer, refused, ok, added, selected, infos, next}
use Rattle.pairs.specs.Flat.{pairs_of}
use Rattle.infos.specs.Words.{infos_then}
use Rattle.printing.specs.Lines.{number_in}
use Rattle.bounds.specs.Small.{SmallInfo}
use Rattle.answers.specs.declared.Reply.{Reply}
use Rattle.answers.specs.declared.Reply.TheVariants as reply

-- the n infos xs stand first in the words is; a word holds the whole of a handle, a count or a rank of an info only where that is small
pub record Shown (n : ℕ) (is : List ℕ) (xs : List Info) : Type 0 where
  pub count : n ≡ length xs
  pub words : is ≡ infos_then is xs
  pub small : Every SmallInfo xs

abbrev pub Shows : ℕ → List ℕ → Answer → Type 0
Shows n is (infos xs) = Shown n is xs
Shows n is (refused k) = ⊥
Shows n is ok = ⊥
Shows n is (added k s e) = ⊥
Shows n is (selected ps) = ⊥
Shows n is (next k) = ⊥

-- a reply, or the number that it was refused by
abbrev pub Says : Result Reply ℕ → List ℕ → List ℕ → Answer → Type 0
Says (Err n) ps is a = a ≡ refused n
Says (Ok reply.Ok) ps is a = a ≡ ok
Says (Ok (reply.Added k s e)) ps is a = a ≡ added k s (number_in e)
Says (Ok (reply.Selected n)) ps is a = (a ≡ selected (take n (pairs_of ps))) × (n ≤ length (pairs_of ps))
Says (Ok (reply.Infos n)) ps is a = Shows n is a
Says (Ok (reply.Next x)) ps is a = a ≡ next (number_in x)

-- a refusal by its number
abbrev pub numbered : Result Reply Refusal → Result Reply ℕ
numbered (Ok r) = Ok r
numbered (Err e) = Err (number_of e)
