-- A store stays fit where one instance changes; and a header that shows a view is the only one that does.
use Rattle.std.specs.Prelude.{◌≡◌, List, [], ◌∷◌, ℕ, zero, suc, ◌+◌, ◌*◌, ◌≤◌, ◌<◌, length, get_or}
use Rattle.std.proofs.Common.{sym, ap, ◌∙◌, le_of_suc-le-suc, arith}
use Rattle.lists.specs.Blocks.{put_at, length-put-in}
use Rattle.slots.specs.FreeLaws.{Whole, view-same}
use Rattle.slots.specs.declared.Free.{Free}
use Rattle.keys.specs.Keys.{Last}
use Rattle.sampleinfo.specs.Counts.{total}
use Rattle.sampleinfo.specs.Lifecycle.{counts_of}
use Rattle.sampleinfo.specs.declared.InstanceMetaData.{InstanceMetaData}
use Rattle.store.specs.Store.{Inst, Store, no_inst, inst_at, with_inst, with_meta, accessed_in}
use Rattle.store.specs.Fit.{Fit, depth_of}
use Rattle.index.specs.Words.{put_meta_word}
use Rattle.index.specs.Memory.{View, shown, head_of, Tied}
use Rattle.index.specs.MemoryLaws.{accessed-store}
use Rattle.index.specs.declared.Cache.{Cache}

-- what holds of each instance and of one more holds of each once that one is put among them
pub all-put : (P : Inst → Type 0) (is : List Inst) (at : ℕ) (y : Inst) → ((i : ℕ) → i < length is → P (get_or is i no_inst)) → P y → (i : ℕ) → i < length (put_at at y is) → P (get_or (put_at at y is) i no_inst)
unfolding put_at
all-put P [] at y t h zero l = h
all-put P [] at y t h (suc i) l = absurd (omega arith)
all-put P (x ∷ is) zero y t h zero l = h
all-put P (x ∷ is) zero y t h (suc i) l = t (suc i) l
all-put P (x ∷ is) (suc at) y t h zero l = t 0 (omega arith)
all-put P (x ∷ is) (suc at) y t h (suc i) l = all-put P is at y (λ n m. t (suc n) (omega arith)) h i (le_of_suc-le-suc l)

module _ (s : Store) (f : Fit s) (at : ℕ) (h : at < length s.insts) where
  pub fit-with : (x : InstanceMetaData) → total (counts_of x) ≤ 2147483647 → Fit (with_inst s at (with_meta (inst_at s at) x))
  fit-with x small = record {
    few = rw (length-put-in s.insts at (with_meta (inst_at s at) x) h) f.few;
    rooms = f.rooms;
    deep = f.deep;
    even = all-put (λ (i : Inst). length i.cells ≡ depth_of s.keep) s.insts at (with_meta (inst_at s at) x) f.even (f.even at h);
    totals = all-put (λ (i : Inst). total (counts_of i.meta) ≤ 2147483647) s.insts at (with_meta (inst_at s at) x) f.totals small;
    newest = f.newest;
    free = f.free;
    keys = f.keys;
    owners = f.owners;
  }

  pub fit-accessed : (a : ℕ) → Fit (accessed_in s at a)
  fit-accessed a = fit-with _ (f.totals at h)

  pub head-with : (x : InstanceMetaData) → head_of (with_inst s at (with_meta (inst_at s at) x)) ≡ head_of s
  head-with x = rw (length-put-in s.insts at (with_meta (inst_at s at) x) h)

-- what `set_accessed` leaves
pub tied-accessed : (s : Store) (h : Cache) (ws end : List ℕ) (at a : ℕ) → Tied s h ws → at < length s.insts → end ≡ put_meta_word ws (4 * at + 3) a → Tied (accessed_in s at a) h end
tied-accessed s h ws end at a t l e = record {
  fit = fit-accessed s t.fit at l a;
  head = t.head ∙ sym (head-with s t.fit at l _);
  words = e ∙ rw t.words (accessed-store s t.fit at l a);
}

-- ---- one header for each view

made : ℕ → ℕ → ℕ → Last → ℕ → Free → Cache
made d r e l n f = record { depth = d; room = r; held = e; last = l; newest = n; free = f }

pub same_head : (h k : Cache) → Whole h.free → Whole k.free → shown h ≡ shown k → h ≡ k
unfolding made
same_head h k p q e =
    let w : h.free ≡ k.free = view-same h.free k.free p q (ap (λ (v : View). v.free) e) in
    let a : h.depth ≡ k.depth = ap (λ (v : View). v.depth) e in
    let b : h.room ≡ k.room = ap (λ (v : View). v.room) e in
    let c : h.held ≡ k.held = ap (λ (v : View). v.held) e in
    let d : h.last ≡ k.last = ap (λ (v : View). v.last) e in
    let g : h.newest ≡ k.newest = ap (λ (v : View). v.newest) e in
    let t : made h.depth h.room h.held h.last h.newest h.free ≡ made k.depth k.room k.held k.last k.newest k.free = rw (a, b, c, d, g, w) in t
