-- A result read back is the entry that was written there.
use Rattle.std.specs.Prelude.{◌≡◌, refl, ℕ, zero, suc, ◌+◌, ◌*◌, ◌/◌, ◌%◌, ◌^◌, ◌≤◌, ◌<◌, take, drop}
use Rattle.std.specs.Int.{w64, byte_at, bytes_low_first, to_le_bytes}
use Rattle.std.specs.Simd.{first_chunks}
use Rattle.std.proofs.Common.{sym, ◌∙◌, add-zero, not-suc-le-zero, le_of_suc-le-suc, le-leb, lit<, take-append-drop, length-take, length-drop, length-append, drop_of_length-le, take_at, drop_at, take_all}
use Rattle.std.proofs.Math.Nat.{div-div-eq-div-mul, pow-succ'}
use Rattle.std.proofs.Math.Seq.{get_or-take, get_or-drop, drop-drop}
use borrow.Rule.Slice.PartMut.{put_mid}
use Rattle.std.proofs.Math.Path.{ap}
use mathlib.Core.List.{List, [], ◌∷◌, ◌++◌, map, append-nil}
use native.Mathlib.Omega.{arith}
use Rattle.std.proofs.lemmas.Bool.{lt-leb}
use Rattle.std.proofs.Math.ListN.{length, get_or, replicate, length-map, get_or-append}
use Rattle.lists.specs.Blocks.{flat, Even, even-map, flat-get, get-map}
use Rattle.model.specs.Topic.{Entry}
use Rattle.changes.specs.declared.Kept.{Kept}
use Rattle.changes.specs.declared.Row.{Row}
use Rattle.changes.specs.Places.{none, pack, half, Bytes, Writer, Written, Holds, line_of, row_of, row_at, shown_in, unpack, guid_of, entry_in, entries_in, kept_of, kept_at, nothing_kept}
use Rattle.changes.specs.WriterLaws.{bytes_take, bytes_drop}
use Rattle.changes.specs.WordLaws.{flat-long, row-at}

-- ---- a number written as eight bytes

unpack-suc : (n w : ℕ) → unpack (suc n) w ≡ (w % 256) ∷ unpack n (w / 256)
unfolding unpack
unpack-suc n w = refl

byte-on : (i n : ℕ) → byte_at (suc i) n ≡ byte_at i (n / 256)
byte-on zero n = refl
byte-on (suc i) n = rw (div-div-eq-div-mul n 256 (256 ^ suc i), pow-succ' 256 (suc i))

bytes-on : (i k n : ℕ) → bytes_low_first (suc i) k n ≡ bytes_low_first i k (n / 256)
bytes-on i zero n = refl
bytes-on i (suc k) n = rw (byte-on i n, bytes-on (suc i) k n)

unpack-low : (k n : ℕ) → bytes_low_first 0 k n ≡ unpack k n
unfolding unpack
unpack-low zero n = refl
unpack-low (suc k) n = ap (λ (l : List ℕ). (n % 256) ∷ l) (bytes-on 0 k n ∙ unpack-low k (n / 256))

-- ---- nothing is lost

length-unpack : (n w : ℕ) → length (unpack n w) ≡ n
unfolding unpack
length-unpack zero w = refl
length-unpack (suc n) w = ap suc (length-unpack n (w / 256))

-- sixteen bytes from two words: the first eight written, then the last eight
pub guid-is : (g : List ℕ) (low high : ℕ) (a b : List ℕ) → length g ≡ 8 → a ≡ to_le_bytes w64 low → b ≡ to_le_bytes w64 high → put_mid 8 8 (a ++ g) b ≡ guid_of low high
unfolding guid_of
guid-is g low high a b e p q =
    let l : a ≡ unpack 8 low = p ∙ unpack-low 8 low in
    let h : b ≡ unpack 8 high = q ∙ unpack-low 8 high in
    let long : length a ≡ 8 = ap length l ∙ length-unpack 8 low in
    rw (take_at a g 8 long, drop_at a g 8 long, drop_of_length-le g {i = 8} (omega (arith, e)), append-nil, l, h)

unpack-pack : (l : List ℕ) → Bytes l → unpack (length l) (pack l) ≡ l
unfolding unpack pack
unpack-pack [] b = refl
unpack-pack (x ∷ l) b =
    let m : (x + 256 * pack l) % 256 ≡ x = omega (arith, b 0) in
    let d : (x + 256 * pack l) / 256 ≡ pack l = omega (arith, b 0) in
    rw (m, d) (ap (λ (y : List ℕ). x ∷ y) (unpack-pack l (λ i. b (suc i))))

unpack-half : (l : List ℕ) → length l ≡ 8 → Bytes l → unpack 8 (pack l) ≡ l
unpack-half l e b = ap (λ (n : ℕ). unpack n (pack l)) (sym e) ∙ unpack-pack l b

pub guid-back : (w : List ℕ) → Writer w → guid_of (half 0 w) (half 8 w) ≡ w
unfolding guid_of half
guid-back w v =
    let c : take 8 (drop 8 w) ≡ drop 8 w = take_all 8 (drop 8 w) (simp length-drop (omega (arith, v.sixteen))) in
    rw (c, unpack-half (take 8 w) (simp length-take (omega (arith, v.sixteen))) (bytes_take 8 w v.bytes), unpack-half (drop 8 w) (simp length-drop (omega (arith, v.sixteen))) (bytes_drop 8 w v.bytes))
    (take-append-drop 8 w)

-- ---- the results

chunk-at : (out : List ℕ) (n i : ℕ) (d : List ℕ) → i < n → get_or (first_chunks 6 n out) i d ≡ take 6 (drop (6 * i) out)
chunk-at out zero i d h = absurd (not-suc-le-zero h)
chunk-at out (suc n) zero d h = refl
chunk-at out (suc n) (suc i) d h =
    let e : 6 + 6 * i ≡ 6 * suc i = omega arith in
    chunk-at (drop 6 out) n i d (le_of_suc-le-suc h) ∙ rw (drop-drop, e)

pub row-taken : (out : List ℕ) (a : ℕ) → row_at (take 6 (drop a out)) 0 ≡ row_at out a
row-taken out a = rw (word-taken 0 (lit< tt), word-taken 1 (lit< tt), word-taken 2 (lit< tt), word-taken 3 (lit< tt), word-taken 4 (lit< tt), word-taken 5 (lit< tt), add-zero)
  where
    word-taken : (j : ℕ) → j < 6 → get_or (take 6 (drop a out)) j 0 ≡ get_or out (a + j) 0
    word-taken j h = get_or-take 6 (drop a out) j 0 h ∙ get_or-drop a out j 0

zeros-are : (g : List ℕ) (n : ℕ) → length g ≡ n → ((i : ℕ) → i < n → get_or g i 0 ≡ 0) → g ≡ replicate n 0
zeros-are [] zero e z = refl
zeros-are [] (suc n) e z = absurd (omega (arith, e))
zeros-are (x ∷ g) zero e z = absurd (omega (arith, e))
zeros-are (x ∷ g) (suc n) e z =
    let p : x ≡ 0 = z 0 (omega arith) in
    rw (p, zeros-are g n (omega (arith, e)) (λ i h. z (suc i) (omega (arith, h))))

pub kept-none : (out : List ℕ) (i : ℕ) (r : Kept) → length out / 6 ≤ i → r.key ≡ 0 → length r.change.writer_guid ≡ 16 → ((i : ℕ) → i < 16 → get_or r.change.writer_guid i 0 ≡ 0)
    → r.change.sequence_number ≡ 0 → r.change.handle ≡ 0 → r.change.payload_size ≡ 0 → r ≡ kept_at out i
unfolding kept_at
kept-none out i r h k l z s a p = rw (le-leb (length out / 6) i h) (same r.key r.change.writer_guid r.change.sequence_number r.change.handle r.change.payload_size k (zeros-are _ 16 l z) s a p)
  where
    same : (k : ℕ) (g : List ℕ) (s a p : ℕ) → k ≡ 0 → g ≡ replicate 16 0 → s ≡ 0 → a ≡ 0 → p ≡ 0
        → ◌≡◌ {A = Kept} (record { key = k; change = record { writer_guid = g; sequence_number = s; handle = a; payload_size = p } }) nothing_kept
    same k g s a p e f q u v = rw (e, f, q, u, v)

pub kept-some : (out row : List ℕ) (cs : List (List ℕ)) (i : ℕ) (x : Row) (r : Kept) → cs ≡ first_chunks 6 (length out / 6) out → i < length out / 6 → row ≡ get_or cs i row
    → x ≡ row_at row 0 → r ≡ kept_of x → r ≡ kept_at out i
unfolding kept_at
kept-some out row cs i x r c h e p q =
    let taken : row ≡ take 6 (drop (6 * i) out) = e ∙ ap (λ (l : List (List ℕ)). get_or l i row) c ∙ chunk-at out (length out / 6) i row h in
    q ∙ ap kept_of (p ∙ ap (λ (l : List ℕ). row_at l 0) taken ∙ row-taken out (6 * i)) ∙ rw (lt-leb (length out / 6) i h)

shown-long : (es : List Entry) (before : List ℕ) → 6 * length es ≤ length before → length (shown_in es before) ≡ length before
unfolding shown_in
shown-long es before k = simp (length-append, length-drop) (omega (arith, flat-long es))

-- the row that stands at place i of the results
module _ (es : List Entry) (before : List ℕ) (i : ℕ) (m : i < length es) where
  word : (j : ℕ) → j < 6 → get_or (shown_in es before) (6 * i + j) 0 ≡ get_or (line_of (get_or es i none)) j 0
  unfolding shown_in
  word j l =
      let even : Even 6 (map line_of es) = even-map 6 line_of (λ e. refl) es in
      get_or-append (flat (map line_of es)) (drop (6 * length es) before) 0 (6 * i + j) (omega (arith, flat-long es))
      ∙ flat-get 6 (map line_of es) i j even (omega (arith, length-map es line_of)) l
      ∙ ap (λ (b : List ℕ). get_or b j 0) (get-map line_of es i none [] m)

  first : get_or (shown_in es before) (6 * i) 0 ≡ (get_or es i none).key
  first = ap (λ (n : ℕ). get_or (shown_in es before) n 0) (sym (add-zero (6 * i))) ∙ word 0 (lit< tt)

  pub row-shown : row_at (shown_in es before) (6 * i) ≡ row_of (get_or es i none)
  row-shown = rw (first, word 1 (lit< tt), word 2 (lit< tt), word 3 (lit< tt), word 4 (lit< tt), word 5 (lit< tt))

  -- an entry found is read back whole, its sixteen bytes too
  pub result-is : 6 * length es ≤ length before → Writer (get_or es i none).writer → (get_or es i none).handle < 4294967296 → (get_or es i none).size < 4294967296
      → kept_at (shown_in es before) i ≡ record {
        key = (get_or es i none).key;
        change = record { writer_guid = (get_or es i none).writer; sequence_number = (get_or es i none).seq; handle = (get_or es i none).handle; payload_size = (get_or es i none).size };
      }
  unfolding kept_at
  result-is k v p q =
      let long : length (shown_in es before) ≡ length before = shown-long es before k in
      rw (lt-leb (length (shown_in es before) / 6) i (omega (arith, long)))
      (ap kept_of row-shown ∙ rw (guid-back (get_or es i none).writer v, whole (get_or es i none).handle p, whole (get_or es i none).size q))
    where
      whole : (n : ℕ) → n < 4294967296 → n % 4294967296 ≡ n
      whole n h = omega arith

-- the entries found are read off the results again
pub length-entries : (n i : ℕ) (out : List ℕ) → length (entries_in n i out) ≡ n
unfolding entries_in
length-entries zero i out = refl
length-entries (suc n) i out = ap suc (length-entries n (i + 1) out)

entry-back : (e : Entry) → Writer e.writer → entry_in (row_of e) ≡ e
entry-back e v = ap (λ (w : List ℕ). record { key = e.key; writer = w; seq = e.seq; handle = e.handle; size = e.size }) (guid-back e.writer v)

entries_from_lem : (es : List Entry) (i : ℕ) (out : List ℕ) → Written es → ((j : ℕ) → j < length es → row_at out (6 * (i + j)) ≡ row_of (get_or es j none))
    → entries_in (length es) i out ≡ es
unfolding entries_in Written
entries_from_lem [] i out w r = refl
entries_from_lem (e ∷ es) i out w r =
    let z : row_at out (6 * i) ≡ row_of e = ap (λ (k : ℕ). row_at out (6 * k)) (sym (add-zero i)) ∙ r 0 (omega arith) in
    let on : (j : ℕ) → j < length es → row_at out (6 * (i + 1 + j)) ≡ row_of (get_or es j none) =
    λ j h. (let s : i + 1 + j ≡ i + suc j = omega arith in ap (λ (k : ℕ). row_at out (6 * k)) s ∙ r (suc j) (omega arith)) in
    ap (λ (x : Entry). x ∷ entries_in (length es) (i + 1) out) (ap entry_in z ∙ entry-back e (w 0 (omega arith)))
    ∙ ap (λ (l : List Entry). e ∷ l) (entries_from_lem es (i + 1) out (λ j h. w (suc j) (omega arith)) on)

pub entries-back : (es : List Entry) (before : List ℕ) → Written es → entries_in (length es) 0 (shown_in es before) ≡ es
entries-back es before w =
    entries_from_lem es 0 (shown_in es before) w
    (λ j h. let z : 0 + j ≡ j = omega arith in ap (λ (k : ℕ). row_at (shown_in es before) (6 * k)) z ∙ row-shown es before j h)

-- so are those that a cache holds, off its own words
pub entries-held : {es : List Entry} {held : ℕ} {ws : List ℕ} → Holds es held ws → Written es → entries_in held 0 ws ≡ es
entries-held {es} {held} {ws} h w =
    ap (λ (n : ℕ). entries_in n 0 ws) h.number
    ∙ entries_from_lem es 0 ws w (λ j l. let z : 0 + j ≡ j = omega arith in ap (λ (k : ℕ). row_at ws (6 * k)) z ∙ row-at h j (omega (arith, h.number)))
