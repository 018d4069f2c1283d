-- What each call of the cache answered, as the session says it.
use Rattle.std.specs.Prelude.{◌≡◌, Bool, true, false, cond, List, [], ◌∷◌, ◌++◌, ℕ, ◌*◌, ◌/◌, ◌%◌, ◌≤◌, ◌<◌, ◌^◌, length, take, drop, min}
use Rattle.std.proofs.Math.Path.{refl, subst}
use Rattle.std.proofs.Common.{sym, ap, ◌∙◌, arith, SFits, to_z, of_z, to_z-of_z, length-take, drop_at}
use Rattle.std.proofs.Math.Option.{Option, some, none}
use Rattle.std.specs.Int.{w32}
use Rattle.sampleinfo.specs.declared.Sample.{Sample}
use Rattle.sampleinfo.specs.declared.Info.{Info}
use Rattle.readcondition.specs.declared.ReadCondition.{ReadCondition}
use Rattle.model.specs.Pairs.{Pair}
use Rattle.model.specs.Model as M
use Rattle.model.specs.Model.{Model, Call, Answer, Step, within, keep_of, fresh, step}
use Rattle.model.specs.Story.{run}
use Rattle.std.specs.declared.option.Option as the_code
use Rattle.std.specs.declared.option.Option.TheVariants.{None, Some}
use Rattle.std.specs.declared.result.Result.{Result}
use Rattle.std.specs.declared.result.Result.TheVariants.{Ok, Err}
use Rattle.refusals.specs.declared.Refusal.{Refusal}
use Rattle.index.specs.declared.Index.{Index}
use Rattle.refine.specs.Good.{Good}
use Rattle.refine.proofs.GoodLaws.{good-step, good-run}
use Rattle.memory.specs.Lies.{Lies}
use Rattle.bounds.specs.Small.{SmallCall, SmallAnswer}
use Rattle.bounds.proofs.SmallLaws.{small-fresh, small-step, small-answer}
use Rattle.infos.specs.Words.{words_of_infos, infos_then, places_in}
use Rattle.infos.specs.FlatLaws.{length-words}
use Rattle.pairs.specs.Flat.{pairs_of, pair_words, whole_pairs}
use Rattle.datasample_cache.specs.Came.{added_as, evicted_as, Came}
use Rattle.datasample_cache.specs.Others.{reply_as, next_as, set_up_of, SetsUp, Dies}
use Rattle.datasample_cache.specs.declared.Added.{Added}
use Rattle.select.specs.Told as select
use Rattle.datasample_access.specs.Listed as list
use Rattle.datasample_access.specs.Listed.{listing}
use Rattle.records.specs.Format.{too_long, list_pairs, set_up_meant, arrival_meant, buffer}
use Rattle.records.specs.Words.{list_words, words_of, words_in, laid_in}
use Rattle.records.specs.PairLaws.{words-fit, words-laid}
use Rattle.records.specs.declared.SetUp.{SetUp}
use Rattle.records.specs.declared.Arrival.{Arrival}
use Rattle.printing.specs.Lines.{number_in}
use Rattle.answers.specs.Sizes.{pairs_size, info_size, infos_size}
use Rattle.answers.specs.Says.{Says, numbered}
use Rattle.answers.specs.declared.Reply.{Reply}
use Rattle.answers.specs.declared.Reply.TheVariants as reply
use Rattle.replies.specs.declared.Session.{Session}
use Rattle.session.specs.Session.{answering, refuse}
use Rattle.session.specs.Stands.{Ready, Unready, pairs_left, infos_left, Answers}
use Rattle.replies.specs.Steps.{session_of, session_after, set_up_done, add_done, event_done, choose_done, list_done}

-- a cache that was ready is ready after a call
ready_made : (m : Model) (x y : Index) (t then : List Sample) (c : Call) → Ready m (session_of (Some x)) t → SmallCall c → Lies (step m c).then y.head y.words then
    → Ready (step m c).then (session_of (Some y)) then
ready_made m x y t then c r small l = record { ready = refl; good = good-step m r.good c; small = small-step m r.good r.small c small; lies = l }

-- ---- what each reply says

evicted-said : (e : the_code.Option ℕ) → evicted_as e ≡ number_in e
evicted-said (Some h) = refl
evicted-said None = refl

add-says : (ps is : List ℕ) (a : Answer) (x : Result Added Refusal) → added_as x ≡ a → Says (numbered (add_done x)) ps is a
add-says ps is a (Ok y) h = sym h ∙ ap (M.added y.key y.slot) (evicted-said y.evicted)
add-says ps is a (Err e) h = sym h

event-says : (ps is : List ℕ) (a : Answer) (x : Result Unit Refusal) → reply_as x ≡ a → Says (numbered (event_done x)) ps is a
event-says ps is a (Ok y) e = sym e
event-says ps is a (Err n) e = sym e

next-says : (x : the_code.Option ℕ) → next_as x ≡ M.next (number_in x)
next-says (Some k) = refl
next-says None = refl

selected-most : (a : Answer) (n : ℕ) (out : List ℕ) → M.selected (take n (pairs_of out)) ≡ a → ◌≡◌ {A = Result ℕ Refusal} (Ok n) (Ok (length (select.pairs_told a))) → n ≤ length (pairs_of out)
selected-most a n out e k =
    let z : n ≡ length (take n (pairs_of out)) = chosen-count n (length (take n (pairs_of out))) (rw (← e) at k) in
    omega (arith, z, length-take n (pairs_of out))
  where
    counted : Result ℕ Refusal → ℕ
    counted (Ok i) = i
    counted (Err e) = 0

    chosen-count : (i j : ℕ) → ◌≡◌ {A = Result ℕ Refusal} (Ok i) (Ok j) → i ≡ j
    chosen-count i j p = ap counted p

choose-says : (is was out : List ℕ) (a : Answer) (x : Result ℕ Refusal) → select.Told a x was out → Says (numbered (choose_done x)) out is a
choose-says is was out a (Ok n) e = (sym e.answer, selected-most a n out e.answer e.count)
choose-says is was out a (Err n) e = sym e.answer

-- the infos still stand there if they are laid in again
infos-again : (out after : List ℕ) (xs : List Info) → after ≡ infos_then out xs → after ≡ infos_then after xs
unfolding infos_then
infos-again out after xs e =
    let z : drop (info_size * length xs) after ≡ drop (info_size * length xs) out = rw e (drop_at (words_of_infos xs) (drop (info_size * length xs) out) (info_size * length xs) (length-words xs)) in
    e ∙ ap (λ (r : List ℕ). words_of_infos xs ++ r) (sym z)

list-says : (ps out after : List ℕ) (a : Answer) (x : Result ℕ Refusal) → list.Told a x out after → SmallAnswer a → Says (numbered (list_done x)) ps after a
list-says ps out after (M.infos xs) (Ok x) h k = record { count = h.0; words = infos-again out after xs h.1; small = k }
list-says ps out after (M.infos xs) (Err e) h k = absurd h
list-says ps out after (M.refused n) (Ok x) h k = absurd h
list-says ps out after (M.refused n) (Err e) h k = ap M.refused (sym h.0)
list-says ps out after M.ok x h k = absurd h
list-says ps out after (M.added key slot e) x h k = absurd h
list-says ps out after (M.selected qs) x h k = absurd h
list-says ps out after (M.next n) x h k = absurd h

-- ---- what each leaves in the result buffers

-- an answer without pairs and infos
abbrev Silent : Answer → Type 0
Silent a = (was : List ℕ) → (was ≡ pairs_left a was) × (was ≡ infos_left a was)

added-silent : (x : Result Added Refusal) → Silent (added_as x)
added-silent (Ok a) was = (refl, refl)
added-silent (Err e) was = (refl, refl)

reply-silent : (x : Result Unit Refusal) → Silent (reply_as x)
reply-silent (Ok x) was = (refl, refl)
reply-silent (Err e) was = (refl, refl)

next-silent : (x : the_code.Option ℕ) → Silent (next_as x)
next-silent (Some k) was = (refl, refl)
next-silent None was = (refl, refl)

-- a choice writes pairs alone
written-left : (a : Answer) (was : List ℕ) → select.written a was ≡ pairs_left a was
unfolding pair_words
written-left (M.selected ps) was = refl
written-left (M.refused n) was = refl
written-left M.ok was = refl
written-left (M.added k n e) was = refl
written-left (M.infos xs) was = refl
written-left (M.next k) was = refl

chosen-left : (is : List ℕ) (r : Result ℕ Refusal) (out : List ℕ) (a : Answer) → select.answer_of r out ≡ a → is ≡ infos_left a is
chosen-left is (Ok n) out a e = rw (← e)
chosen-left is (Err n) out a e = rw (← e)

-- a list writes infos alone
told-left : (was out : List ℕ) (a : Answer) (x : Result ℕ Refusal) → list.Told a x was out → (ps : List ℕ) → (ps ≡ pairs_left a ps) × (out ≡ infos_left a was)
told-left was out (M.infos xs) (Ok x) h ps = (refl, h.1)
told-left was out (M.infos xs) (Err e) h ps = absurd h
told-left was out (M.refused n) (Ok x) h ps = absurd h
told-left was out (M.refused n) (Err e) h ps = (refl, h.1)
told-left was out M.ok x h ps = absurd h
told-left was out (M.added key slot e) x h ps = absurd h
told-left was out (M.selected qs) x h ps = absurd h
told-left was out (M.next n) x h ps = absurd h

-- ---- the words of a list record are whole pairs

words-even : (ps : List Pair) → length (words_of ps) % 2 ≡ 0
unfolding words_of
words-even [] = refl
words-even (p ∷ ps) = omega (arith, words-even ps)

pairs-back : (ps : List Pair) → pairs_of (words_of ps) ≡ ps
unfolding words_of pairs_of
pairs-back [] = refl
pairs-back (p ∷ ps) = ap (λ (qs : List Pair). p ∷ qs) (pairs-back ps)

listing-is : (m : Model) (take : Bool) (ps : List Pair) (keys : List ℕ) (room : ℕ) (P : Step → Type 0) → keys ≡ words_of ps → room ≡ buffer → P (listing m take keys room) → P (step m (Call.read_or_take take ps buffer))
unfolding listing whole_pairs
listing-is m take ps keys room P k n h = rw (k, n, words-even ps, pairs-back ps) at h

-- the words of a record stand at the front of the list, which has room for those of any record
front-words : (rec buf now' : List ℕ) (n : ℕ) → n ≡ length (words_in rec) → now' ≡ laid_in buf (words_in rec) → length (words_in rec) ≤ list_words → length buf ≡ list_words → length now' ≡ list_words
    → take (min n (length now')) now' ≡ words_in rec
front-words rec buf now' n en el few long same-long =
    let z : min n (length now') ≡ length (words_in rec) = omega arith in rw (z, el) (words-laid rec buf (omega arith))

-- ---- the calls

module _ (t then : List Sample) (q : Result Reply Refusal) where
  pub set-up-answers : (s s' : Session) (u : SetUp) (r : Result Index Refusal) → q ≡ set_up_done r → s' ≡ session_after s r → SFits w32 u.keep → SetsUp (set_up_of u.mode (to_z w32 (of_z w32 u.keep)) u.instances) r t then
      → (ps is : List ℕ) → Unready s t → Answers (answering none (M.set_up (set_up_meant u))) s t ps is q s' then ps is
  unfolding answering run
  set-up-answers s s' u r e k fits f' ps is l = rw (e, k) (go (within (set_up_meant u)) refl)
    where
      f : SetsUp (set_up_meant u) r t then
      f = rw (to_z-of_z fits) at f'

      go : (b : Bool) → within (set_up_meant u) ≡ b
          → Answers (cond b (record { answer = M.ok; then = some (fresh (keep_of (set_up_meant u)) u.instances) }) (refuse none 2)) s t ps is (set_up_done r) (session_after s r) then ps is
      go true w =
          let x = f.accepted l.long w in
          rw x.1.0 (record { says = refl; stands = record { ready = refl; good = good-run (set_up_meant u) w []; small = small-fresh (keep_of (set_up_meant u)) u.instances; lies = x.1.1 }; kept = tt; pairs = refl; infos = refl })
      go false w = let x = f.out-of-bounds l.long w in rw x.0 (record { says = refl; stands = record { unready = l.unready; long = rw x.1 l.long }; kept = (refl, x.1); pairs = refl; infos = refl })

  module _ (i : Index) where
    abbrev s : Session
    s = session_of (Some i)

    pub add-answers : (after : Index) (a : Arrival) (r : Result Added Refusal) → q ≡ add_done r → a.handle < 2 ^ 32
        → ((m : Model) → Good m → Lies m i.head i.words t → Came (step m (Call.add (arrival_meant a))) r after.head after.words then)
        → (m : Model) (ps is : List ℕ) → Ready m s t → Answers (answering (some m) (Call.add (arrival_meant a))) s t ps is q (session_of (Some after)) then ps is
    unfolding answering
    add-answers after a r e k f m ps is l =
        let x : Came (step m (Call.add (arrival_meant a))) r after.head after.words then = f m l.good l.lies in
        let left : Silent (step m (Call.add (arrival_meant a))).answer = subst Silent x.answer (added-silent r) in
        rw e
        (record {
          says = add-says ps is _ r x.answer;
          stands = ready_made m i after t then (Call.add (arrival_meant a)) l k x.lies;
          kept = tt;
          pairs = (left ps).0;
          infos = (left is).1;
        })

    -- the words of the record were laid at the front of the list
    pub list-answers : (after : Index) (taken b : Bool) (rec buf now' was out front : List ℕ) (n : ℕ) (r : Result ℕ Refusal) → q ≡ list_done r
        → ((m : Model) → Good m → Lies m i.head i.words t → list.Came (listing m b front (places_in was)) r after.head after.words then was out) → taken ≡ b → front ≡ take (min n (length now')) now'
        → now' ≡ laid_in buf (words_in rec) → n ≡ length (words_in rec) → length was ≡ infos_size → length buf ≡ list_words → length now' ≡ list_words
        → (m : Model) (ps : List ℕ) → length rec < too_long → Ready m s t → Answers (answering (some m) (Call.read_or_take taken (list_pairs rec) buffer)) s t ps was q (session_of (Some after)) then ps out
    unfolding answering
    list-answers after taken b rec buf now' was out front n r e f eb ef el en room big long m ps short l =
        let c : Call = Call.read_or_take b (list_pairs rec) buffer in
        let x : list.Came (step m c) r after.head after.words then was out = listing-is m b (list_pairs rec) front (places_in was) (λ st. list.Came st r after.head after.words then was out)
        (ef ∙ front-words rec buf now' n en el (words-fit rec short) big long) (ap (λ k. k / info_size) room) (f m l.good l.lies) in
        rw (e, eb)
        (record {
          says = list-says ps was out (step m c).answer r x.answer (small-answer m l.good l.small c);
          stands = ready_made m i after t then c l tt x.lies;
          kept = tt;
          pairs = (told-left was out (step m c).answer r x.answer ps).0;
          infos = (told-left was out (step m c).answer r x.answer ps).1;
        })

    pub choose-answers : (w : Option ℕ) (c : ReadCondition) (was out : List ℕ) (r : Result ℕ Refusal) → q ≡ choose_done r → length was ≡ pairs_size
        → ((m : Model) → Good m → Lies m i.head i.words t → select.Told (step m (Call.choose w c (length was / 2))).answer r was out)
        → (m : Model) (is : List ℕ) → Ready m s t → Answers (answering (some m) (Call.choose w c buffer)) s t was is q s t out is
    unfolding answering step
    choose-answers w c was out r e n f m is l =
        let y : select.Told (step m (Call.choose w c buffer)).answer r was out = rw n at f m l.good l.lies in
        let left : out ≡ pairs_left (step m (Call.choose w c buffer)).answer was = y.buffer ∙ written-left (step m (Call.choose w c buffer)).answer was in
        rw e (record { says = choose-says is was out _ r y; stands = l; kept = tt; pairs = left; infos = chosen-left is r out _ y.answer })

    pub no-writers-answers : (after : Index) (n : ℕ) (r : Result Unit Refusal) → q ≡ event_done r → ((m : Model) (t : List Sample) → Good m → Lies m i.head i.words t → Dies (step m (Call.no_writers n)) r after.head after.words t)
        → (m : Model) (t : List Sample) (ps is : List ℕ) → Ready m s t → Answers (answering (some m) (Call.no_writers n)) s t ps is q (session_of (Some after)) t ps is
    unfolding answering
    no-writers-answers after n r e f m t ps is l =
        let y : Dies (step m (Call.no_writers n)) r after.head after.words t = f m t l.good l.lies in
        let left : Silent (step m (Call.no_writers n)).answer = subst Silent y.answer (reply-silent r) in
        rw e
        (record {
          says = event-says ps is _ r y.answer;
          stands = ready_made m i after t t (Call.no_writers n) l tt y.lies;
          kept = tt;
          pairs = (left ps).0;
          infos = (left is).1;
        })

pub next-answers : (i : Index) (n : ℕ) (r : the_code.Option ℕ) → ((m : Model) (t : List Sample) → Good m → Lies m i.head i.words t → step m (Call.next_key n) ≡ record { answer = next_as r; then = m })
    → (m : Model) (t : List Sample) (ps is : List ℕ) → Ready m (session_of (Some i)) t
    → Answers (answering (some m) (Call.next_key n)) (session_of (Some i)) t ps is (Ok (reply.Next r)) (session_of (Some i)) t ps is
unfolding answering
next-answers i n r f m t ps is l =
    let y : step m (Call.next_key n) ≡ record { answer = next_as r; then = m } = f m t l.good l.lies in
    rw y (record { says = next-says r; stands = l; kept = tt; pairs = (next-silent r ps).0; infos = (next-silent r is).1 })
