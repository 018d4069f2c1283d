-- Set-up and the no-writers event, as the code meets them.
use Rattle.std.specs.Prelude.{◌≡◌, Bool, true, false, ◌&&◌, cond, List, ℕ, leb, ltb, eqb, ℤ, pos, negsuc, length}
use Rattle.std.proofs.Math.Path.{refl, ap}
use Rattle.std.proofs.Common.{sym, ◌∙◌, true≢false, arith, SFits, to_z, of_z, to_z-of_z}
use Rattle.std.proofs.Math.Bool.{and-false}
use Rattle.std.proofs.Math.Option.{Option, some, none}
use borrow.Author.Tests.{ltb-true}
use Rattle.std.specs.Int.{w32}
use Rattle.sampleinfo.specs.declared.Sample.{Sample}
use Rattle.model.specs.Model as M
use Rattle.model.specs.Model.{Model, SetUp, counts_kept, counts_none, within, keep_of, depth_of, keep_fits, is_zero, fresh, step, lives, find, dying, refuse}
use Rattle.store.specs.Store as S
use Rattle.store.specs.Store.{Store}
use Rattle.store.specs.Fit as F
use Rattle.index.specs.Memory.{Held, View, fresh_store, head_of, index_of}
use Rattle.index.specs.declared.Cache.{Cache}
use Rattle.index.specs.declared.Index.{Index}
use Rattle.change.specs.Change.{Left, Kept}
use Rattle.refine.specs.Good.{Good}
use Rattle.refine.specs.Layout.{store_of, table_of, slots_of, tab_from, look_up, entries_from}
use Rattle.refine.proofs.Dying.{code_of, dying-is, table-dying, next-is}
use Rattle.memory.specs.Lies.{Lies, tied}
use Rattle.samples.specs.Table.{empty_table}
use Rattle.lists.specs.Blocks.{length-put-in}
use Rattle.sampleinfo.specs.Lifecycle.{no_writers_of}
use Rattle.lookup.specs.Lookup.{next_of}
use Rattle.std.specs.Bool.{then_some}
use Rattle.std.specs.Option.{ok_or}
use Rattle.std.specs.declared.option.Option as the_code
use Rattle.std.specs.declared.option.Option.TheVariants.{None, Some}
use Rattle.std.specs.declared.result.Result.{Result}
use Rattle.std.specs.declared.result.Result.TheVariants.{Ok, Err}
use Rattle.refusals.specs.NumberLaws.{number-above-0}
use Rattle.refusals.specs.declared.Refusal.{Refusal}
use Rattle.refusals.specs.declared.Refusal.TheVariants as refusal
use Rattle.change.specs.Change as C
use Rattle.datasample_cache.specs.Others.{reply_as, next_as, set_up_of, count_in, kept_in, depth_in, SetsUp, Dies}

-- ---- the fresh cache in memory

fresh-store : (k : Option ℕ) (room : ℕ) → store_of (fresh k room) ≡ fresh_store k room
unfolding store_of slots_of tab_from look_up entries_from lives
fresh-store k room = refl

-- "starts as 256 copies of the empty record"
pub fresh-table : (k : Option ℕ) (room : ℕ) → table_of (fresh k room) ≡ empty_table
unfolding table_of slots_of tab_from look_up entries_from
fresh-table k room = refl

-- ---- the keep field

count-same : (z : ℤ) (d : ℕ) → count_in z ≡ Some d → z ≡ pos d
count-same (pos n) d e = cc
count-same (negsuc n) d e = cc

kept-is : (mode d i : ℕ) → kept_in mode d ≡ F.depth_of (keep_of (set_up_of mode (pos d) i))
unfolding keep_of
kept-is mode d i = both (eqb mode 3) (eqb mode 4)
  where
    both : (x y : Bool) → cond x 0 (cond y 1 d) ≡ F.depth_of (cond x none (cond y (some 1) (some d)))
    both true y = refl
    both false true = refl
    both false false = refl

-- ---- the depth: a signed argument comes as its bits, and back

module _ (mode : ℕ) (keep : ℤ) (i : ℕ) (fits : SFits w32 keep) (o : the_code.Option ℕ) (e : o ≡ count_in (to_z w32 (of_z w32 keep))) where
  pub depth-below : o ≡ None → None ≡ depth_in (set_up_of mode keep i)
  unfolding within
  depth-below p = go keep (sym (ap count_in (to_z-of_z fits)) ∙ sym e ∙ p)
    where
      go : (z : ℤ) → count_in z ≡ None → None ≡ depth_in (set_up_of mode z i)
      go (pos d) q = cc
      go (negsuc d) q = rw (and-false (counts_kept mode), and-false (counts_none mode), and-false (leb 1 i && leb i 32))

  pub depth-within : (d j : ℕ) → o ≡ Some d → j ≡ i → (b : Bool) → b ≡ within (set_up_of mode (pos d) j) → (k : ℕ) → k ≡ kept_in mode d → then_some b k ≡ depth_in (set_up_of mode keep i)
  depth-within d j p q b f k g =
      let z : keep ≡ pos d = count-same keep d (sym (ap count_in (to_z-of_z fits)) ∙ sym e ∙ p) in
      rw (z, f, g, q) (go (within (set_up_of mode (pos d) i)))
    where
      go : (y : Bool) → then_some y (kept_in mode d) ≡ cond y (Some (F.depth_of (keep_of (set_up_of mode (pos d) i)))) None
      go true = ap Some (kept-is mode d i)
      go false = refl

-- ---- the returns of set-up

module _ (u : SetUp) (t : List Sample) where
  module _ (long : length t ≡ 256) (o : the_code.Option ℕ) (e : o ≡ depth_in u) (r : Result ℕ Refusal) (f : r ≡ ok_or o refusal.OutOfBounds) where
    asked : r ≡ ok_or (depth_in u) refusal.OutOfBounds
    asked = f ∙ ap (λ (x : the_code.Option ℕ). ok_or x refusal.OutOfBounds) e

    pub set-done : (d j : ℕ) → r ≡ Ok d → j ≡ u.instances → (y : Index) (then : List Sample) → ((k : Option ℕ) → d ≡ F.depth_of k → Kept (fresh_store k j) y.head y.words)
        → (length t ≡ 256 → then ≡ empty_table) → SetsUp u (Ok y) t then
    set-done d j p q y then m n =
        let x : (within u ≡ true) × (d ≡ F.depth_of (keep_of u)) = inside (within u) (sym asked ∙ p) in
        let k : Kept (fresh_store (keep_of u) u.instances) y.head y.words = rw q at (m (keep_of u) x.1) in
        record {
          accepted = λ l w. (
            y,
            (
              refl,
              record {
                head = k.head ∙ ap head_of (sym (fresh-store (keep_of u) u.instances));
                words = k.words ∙ ap index_of (sym (fresh-store (keep_of u) u.instances));
                table = n long ∙ sym (fresh-table (keep_of u) u.instances);
              },
            ),
          );
          out-of-bounds = λ l w. absurd (true≢false (sym x.0 ∙ w));
          no_table = λ l. absurd (l long);
        }
      where
        inside : (y : Bool) → ok_or (cond y (Some (F.depth_of (keep_of u))) None) refusal.OutOfBounds ≡ Ok d → (y ≡ true) × (d ≡ F.depth_of (keep_of u))
        inside true q = (refl, cc)
        inside false q = cc

-- an accepted set-up leaves this table
pub set-up-table : (u : SetUp) (r : Result Index Refusal) (t then : List Sample)
    → SetsUp u r t then → length t ≡ 256 → within u ≡ true → then ≡ empty_table
set-up-table u r t then f l w = (f.accepted l w).1.1.table ∙ fresh-table (keep_of u) u.instances

-- ---- the no-writers event

head-dying : (s : Store) (n : ℕ) → head_of (S.dying s n).then ≡ head_of s
unfolding S.dying
head-dying s n = go (ltb (S.place_of n s.insts) (length s.insts)) refl
  where
    go : (b : Bool) → ltb (S.place_of n s.insts) (length s.insts) ≡ b
        → head_of (cond {A = S.Event} b (record { code = 0; then = S.with_inst s (S.place_of n s.insts) (S.with_meta (S.inst_at s (S.place_of n s.insts)) (no_writers_of (S.inst_at s (S.place_of n s.insts)).meta)) }) (record { code = 3; then = s })).then ≡ head_of s
    go true e = rw (length-put-in s.insts (S.place_of n s.insts) (S.with_meta (S.inst_at s (S.place_of n s.insts)) (no_writers_of (S.inst_at s (S.place_of n s.insts)).meta)) (ltb-true _ _ e))
    go false e = refl

module _ (h : Cache) (ws after : List ℕ) (n : ℕ) (r : Result Unit Refusal) (left : (s : Store) → Held s h.held ws → Left (S.dying s n) r after) (m : Model) (t : List Sample) (g : Good m) (l : Lies m h ws t) where
  abbrev went : M.Step
  went = dying m (find n m.instances)

  held-is : Held (store_of m) h.held ws
  held-is = record { fit = (tied m h ws t g l).fit; count = ap (λ (v : View). v.held) l.head; words = l.words }

  store_is : (S.dying (store_of m) n).then ≡ store_of went.then
  store_is = ap (λ (e : S.Event). e.then) (dying-is m n)

  lies-on : Lies went.then h after t
  lies-on = record {
    head = l.head ∙ sym (head-dying (store_of m) n) ∙ ap head_of store_is;
    words = (left (store_of m) held-is).words ∙ ap index_of store_is;
    table = l.table ∙ sym (table-dying m n);
  }

  code_is : C.code_of r ≡ code_of went.answer
  code_is = (left (store_of m) held-is).code ∙ ap (λ (e : S.Event). e.code) (dying-is m n)

  pub dies : Dies (step m (M.no_writers n)) r h after t
  unfolding step
  dies = record { answer = go r (find n m.instances) code_is; lies = lies-on }
    where
      go : (x : Result Unit Refusal) (o : Option M.Instance) → C.code_of x ≡ code_of (dying m o).answer → reply_as x ≡ (dying m o).answer
      go (Ok x) none q = absurd (omega arith)
      go (Ok x) (some i) q = refl
      go (Err e) none q = ap M.refused q
      go (Err e) (some i) q = absurd (omega (arith, number-above-0 e))

-- ---- the next key

next-same : (o : Option ℕ) → M.next o ≡ next_as (next_of o)
next-same none = refl
next-same (some k) = refl

pub next_is : (h : Cache) (ws : List ℕ) (n : ℕ) (r : the_code.Option ℕ) → ((s : Store) → Held s h.held ws → r ≡ next_of (S.next_name n s.insts))
    → (m : Model) (t : List Sample) → Good m → Lies m h ws t → step m (M.next_key n) ≡ record { answer = next_as r; then = m }
unfolding step
next_is h ws n r f m t g l =
    ap (λ (x : M.Answer). record { answer = x; then = m })
    (next-same (M.next_name n m.instances) ∙ sym (ap next_as (f (store_of m) (record { fit = (tied m h ws t g l).fit; count = ap (λ (v : View). v.held) l.head; words = l.words }) ∙ ap next_of (next-is m n))))
