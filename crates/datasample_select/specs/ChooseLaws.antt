-- A choice of the code is the model's choice: the last step of the proof.
use Rattle.std.specs.Prelude.{◌≡◌, cond, List, [], ℕ, ◌/◌, leb, length, OnErr}
use Rattle.std.proofs.Common.{sym, ap, ◌∙◌, subst, arith}
use Rattle.std.proofs.Math.Option.{Option}
use Rattle.std.proofs.lemmas.List.{length-map}
use Rattle.sampleinfo.specs.declared.Sample.{Sample}
use Rattle.readcondition.specs.Masks.{is_valid}
use Rattle.readcondition.specs.declared.ReadCondition.{ReadCondition}
use Rattle.model.specs.Pairs.{Pair, Hit, pairs_in}
use Rattle.model.specs.Model.{Model, Answer, refused, selected, choose, step, choosing}
use Rattle.store.specs.Store.{Store}
use Rattle.store.specs.Choosing.{hits_from}
use Rattle.index.specs.Memory.{Tied}
use Rattle.index.specs.declared.Cache.{Cache}
use Rattle.refine.specs.Good.{Good}
use Rattle.refine.specs.Layout.{store_of, table_of}
use Rattle.samples.specs.Table.{gathered}
use Rattle.memory.specs.Lies.{Lies, tied, table-long}
use Rattle.select.specs.Choice.{Seen}
use Rattle.select.specs.Ordered.{insert_all}
use Rattle.select.specs.OrderedLaws.{length-all}
use Rattle.select.specs.Told.{selecting, written, Told}
use Rattle.std.specs.declared.result.Result.{Result}
use Rattle.std.specs.declared.result.Result.TheVariants.{Ok, Err}
use Rattle.refusals.specs.Numbers.{number_of}
use Rattle.refusals.specs.NumberLaws.{same-refusal}
use Rattle.refusals.specs.declared.Refusal.{Refusal}
use Rattle.refusals.specs.declared.Refusal.TheVariants.{Malformed}
use Rattle.pairs.specs.Flat.{pair_words}
use Rattle.datasample_select.specs.Choose.{Unfit, no_table, beyond, not_chosen}
use Rattle.datasample_select.specs.SeenLaws.{gathered-seen}
use Rattle.datasample_select.specs.Slots.{slots-sorted}

-- the answer on the store and the table is the model's
pub selecting-is : (m : Model) → Good m → (c : ReadCondition) (w : Option ℕ) (room : ℕ)
    → selecting c (hits_from 256 0 (store_of m) (table_of m) c w) room ≡ (step m (choose w c room)).answer
unfolding selecting step choosing
selecting-is m g c w room =
    let hs : List Hit = hits_from 256 0 (store_of m) (table_of m) c w in
    let ps : List Pair = pairs_in (insert_all hs []) in
    let many : length ps ≡ length hs = length-map (insert_all hs []) (λ (h : Hit). h.pair) ∙ length-all hs [] ∙ omega arith in
    ap (λ (n : ℕ). cond (is_valid c) (cond (leb n room) (selected ps) (refused 9)) (refused 1)) (sym many)
    ∙ ap (λ (l : List Hit). cond (is_valid c) (cond (leb (length (pairs_in l)) room) (selected (pairs_in l)) (refused 9)) (refused 1)) (slots-sorted m g c w)

pub choose-done : (h : Cache) (ws seen l : List ℕ) (t : List Sample) (c : ReadCondition) (w : Option ℕ) (r : Result ℕ Refusal) (was out : List ℕ)
    → ((s : Store) (u : List Sample) → Tied s h ws → Seen u seen → Told (selecting c (hits_from 256 0 s u c w) (length was / 2)) r was out)
    → seen ≡ gathered 256 0 t l → length l ≡ 768
    → (m : Model) → Good m → Lies m h ws t → Told (step m (choose w c (length was / 2))).answer r was out
choose-done h ws seen l t c w r was out told e long m g lies =
    let q : Seen t seen = subst (λ (x : List ℕ). Seen t x) (sym e) (gathered-seen t l long) in
    let here : Told (selecting c (hits_from 256 0 (store_of m) t c w) (length was / 2)) r was out = told (store_of m) t (tied m h ws t g lies) q in
    subst (λ (a : Answer). Told a r was out) (ap (λ (x : List Sample). selecting c (hits_from 256 0 (store_of m) x c w) (length was / 2)) lies.table ∙ selecting-is m g c w (length was / 2)) here

pub choose-no-table : (h : Cache) (ws : List ℕ) (t : List Sample) (c : ReadCondition) (w : Option ℕ) (room : ℕ) (r : Result ℕ Refusal) (was : List ℕ)
    → (length t ≡ 256 → ⊥) → (m : Model) → Good m → Lies m h ws t → Told (step m (choose w c room)).answer r was was
choose-no-table h ws t c w room r was n m g lies = absurd (n (table-long m h ws t lies))

-- a choice that is refused writes nothing
told-refused : (e : Refusal) (r : Result ℕ Refusal) (was out : List ℕ) → Told (refused (number_of e)) r was out → (r ≡ Err e) × (out ≡ was)
unfolding pair_words
told-refused e (Ok k) was out x = let z : ◌≡◌ {A = ℕ} 0 1 = cc x.answer in absurd (omega arith)
told-refused e (Err k) was out x = let z : number_of k ≡ number_of e = cc x.answer in (ap Err (same-refusal k e z), x.buffer)

-- refusal 1 on any memory
pub choose-unfit : (hs : List Hit) (t : List Sample) (c : ReadCondition) (room : ℕ) (r : Result ℕ Refusal) (was out : List ℕ) → Told (selecting c hs room) r was out → length t ≡ 256
    → Unfit t c → (r ≡ not_chosen) × (out ≡ was)
unfolding selecting
choose-unfit hs t c room r was out x long (no_table n) = absurd (n long)
choose-unfit hs t c room r was out x long (beyond e) = told-refused Malformed r was out (rw e at x)

-- a refused choice leaves the buffer, whatever lies in memory
pub told-err : (a : Answer) (r : Result ℕ Refusal) (was out : List ℕ) → Told a r was out → OnErr r (out ≡ was)
unfolding pair_words
told-err a (Ok n) was out t = tt
told-err a (Err e) was out t = t.buffer ∙ ap (λ b. written b was) (sym t.answer)
