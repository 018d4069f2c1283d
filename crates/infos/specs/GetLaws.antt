-- An info got back from words, as the code meets it.
use Rattle.std.specs.Prelude.{◌≡◌, List, ℕ, zero, suc, ◌+◌, ◌*◌, ◌/◌, ◌%◌, ◌≤◌, ◌<◌, length, get_or, take, drop, set}
use Rattle.std.proofs.Common.{◌∙◌, arith, length-drop, get_or-take, get_or-drop, length-take-le}
use borrow.Author.Tests.{lt-ltb, le-ltb}
use Rattle.std.proofs.lemmas.List.{length-map}
use Rattle.std.proofs.Math.ListN.{get_or-map}
use Rattle.sampleinfo.specs.declared.Info.{Info}
use Rattle.infos.specs.Words.{bytes_of, info_in, no_info, get_info}
use Rattle.std.specs.Simd.{first_chunks}
use Rattle.std.proofs.Math.Path.{refl, ap}
use Rattle.std.proofs.Math.Seq.{drop-drop, take_all}
use Rattle.std.proofs.lemmas.List.{drop-take, take-take}
use Rattle.std.proofs.Common.{sym, add-one, take-suc, take-suc-set, lit<, not-suc-le-zero, le_of_suc-le-suc}

-- ---- the writer's bytes, one by one

-- l: the words of an info
module _ (l : List ℕ) (long : length l ≡ 27) where
  bytes : List ℕ
  bytes = bytes_of (take 16 (drop 11 l))

  sixteen : length bytes ≡ 16
  unfolding bytes
  sixteen = length-map (take 16 (drop 11 l)) (λ w. w % 256) ∙ length-take-le 16 (drop 11 l) (omega (arith, length-drop 11 l))

  byte : (j : ℕ) → j < 16 → get_or bytes j 0 ≡ get_or l (11 + j) 0 % 256
  unfolding bytes
  byte j h = get_or-map (λ w. w % 256) (take 16 (drop 11 l)) j 0 ∙ rw (get_or-take 16 (drop 11 l) j 0 h, get_or-drop 11 l j 0)

  pub bytes-start : (b : List ℕ) → take 0 b ≡ take 0 (bytes_of (take 16 (drop 11 l)))
  bytes-start b = refl

  pub bytes-turn : (b : List ℕ) (j x : ℕ) → take j b ≡ take j (bytes_of (take 16 (drop 11 l))) → length b ≡ 16 → j < length b → x ≡ get_or l (11 + j) 0 % 256
      → take (j + 1) (set b j x) ≡ take (j + 1) (bytes_of (take 16 (drop 11 l)))
  unfolding bytes
  bytes-turn b j x e k h f = rw (add-one j, take-suc-set b j x h, e, f, ← byte j (omega arith), take-suc bytes j 0 (omega (arith, sixteen)))

  pub bytes-end : (b : List ℕ) (j : ℕ) → take j b ≡ take j (bytes_of (take 16 (drop 11 l))) → length b ≡ 16 → 16 ≤ j → b ≡ bytes_of (take 16 (drop 11 l))
  unfolding bytes
  bytes-end b j e k h = sym (take_all j b (omega arith)) ∙ e ∙ take_all j bytes (omega (arith, sixteen))

-- ---- the info at a place of the buffer

chunk-at : (out : List ℕ) (n i : ℕ) (d : List ℕ) → i < n → get_or (first_chunks 27 n out) i d ≡ take 27 (drop (27 * i) out)
chunk-at out zero i d h = absurd (not-suc-le-zero h)
chunk-at out (suc n) zero d h = refl
chunk-at out (suc n) (suc i) d h =
    let e : 27 + 27 * i ≡ 27 * suc i = omega arith in
    chunk-at (drop 27 out) n i d (le_of_suc-le-suc h) ∙ rw (drop-drop, e)

info-taken : (out : List ℕ) (a : ℕ) → info_in (take 27 (drop a out)) 0 ≡ info_in out a
unfolding info_in
info-taken out a =
    rw (word 0 (lit< tt), word 1 (lit< tt), word 2 (lit< tt), word 3 (lit< tt), word 4 (lit< tt), word 5 (lit< tt), word 6 (lit< tt), word 7 (lit< tt), word 8 (lit< tt), word 9 (lit< tt), word 10 (lit< tt), drop-take 11 16 (drop a out), drop-drop 11 a out, take-take 16 16 (drop (a + 11) out) (omega arith))
  where
    word : (j : ℕ) → j < 27 → get_or (take 27 (drop a out)) j 0 ≡ get_or out (a + j) 0
    word j h = get_or-take 27 (drop a out) j 0 h ∙ get_or-drop a out j 0

pub get_here : (out row : List ℕ) (cs : List (List ℕ)) (p : ℕ) (x : Info) → cs ≡ first_chunks 27 (length out / 27) out → p < length out / 27 → row ≡ get_or cs p row
    → x ≡ info_in row 0 → x ≡ get_info out p
unfolding get_info
get_here out row cs p x c h e q =
    let taken : row ≡ take 27 (drop (27 * p) out) = e ∙ ap (λ (l : List (List ℕ)). get_or l p row) c ∙ chunk-at out (length out / 27) p row h in
    q ∙ ap (λ (l : List ℕ). info_in l 0) taken ∙ info-taken out (27 * p) ∙ rw (lt-ltb p (length out / 27) h)

pub get_past : (out : List ℕ) (p : ℕ) (x : Info) → x ≡ no_info → length out / 27 ≤ p → x ≡ get_info out p
unfolding get_info
get_past out p x e h = rw (e, le-ltb p (length out / 27) h)
