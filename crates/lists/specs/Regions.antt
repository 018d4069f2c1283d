-- Four regions of one list, one behind the other: what stands in each, and what a store in each makes.
use Rattle.std.specs.Prelude.{◌≡◌, List, ◌++◌, ℕ, ◌+◌, ◌<◌, length, get_or, set}
use Rattle.std.proofs.Common.{◌∙◌, add_assoc, get_or-append-add}
use native.Mathlib.Omega.{arith}
use Rattle.std.proofs.Math.ListN.{length-append, get_or-append}
use Rattle.std.proofs.Math.Seq.{set-append_left}
use Rattle.lists.specs.Blocks.{set-append-add}

unfoldable pub join : List ℕ → List ℕ → List ℕ → List ℕ → List ℕ
join a b c d = a ++ (b ++ (c ++ d))

past : (xs ys : List ℕ) (m n : ℕ) → length xs ≡ m → get_or (xs ++ ys) (m + n) 0 ≡ get_or ys n 0
past xs ys m n e = rw (← e) (get_or-append-add xs ys n 0)

into : (xs ys : List ℕ) (m n v : ℕ) → length xs ≡ m → set (xs ++ ys) (m + n) v ≡ xs ++ set ys n v
into xs ys m n v e = rw (← e) (set-append-add xs ys n v)

-- the first three are m, n and o long
module _ {m n o : ℕ} (a b c d : List ℕ) (la : length a ≡ m) (lb : length b ≡ n) (lc : length c ≡ o) where
  pub get-a : (i : ℕ) → i < m → get_or (join a b c d) i 0 ≡ get_or a i 0
  unfolding join
  get-a i h = get_or-append a (b ++ (c ++ d)) 0 i (omega arith)

  pub get-b : (i : ℕ) → i < n → get_or (join a b c d) (m + i) 0 ≡ get_or b i 0
  unfolding join
  get-b i h = past a (b ++ (c ++ d)) m i la ∙ get_or-append b (c ++ d) 0 i (omega arith)

  pub get-c : (i : ℕ) → i < o → get_or (join a b c d) (m + n + i) 0 ≡ get_or c i 0
  unfolding join
  get-c i h = rw (add_assoc, past a (b ++ (c ++ d)) m (n + i) la, past b (c ++ d) n i lb) (get_or-append c d 0 i (omega arith))

  pub get-d : (i : ℕ) → get_or (join a b c d) (m + n + o + i) 0 ≡ get_or d i 0
  unfolding join
  get-d i =
      let p : m + n + o + i ≡ m + (n + (o + i)) = omega arith in
      rw (p, past a (b ++ (c ++ d)) m (n + (o + i)) la, past b (c ++ d) n (o + i) lb, past c d o i lc)

  pub set_a : (i v : ℕ) → i < m → set (join a b c d) i v ≡ join (set a i v) b c d
  unfolding join
  set_a i v h = set-append_left a (b ++ (c ++ d)) i v (omega arith)

  pub set_b : (i v : ℕ) → i < n → set (join a b c d) (m + i) v ≡ join a (set b i v) c d
  unfolding join
  set_b i v h = into a (b ++ (c ++ d)) m i v la ∙ rw (set-append_left b (c ++ d) i v (omega arith))

  pub set-c : (i v : ℕ) → i < o → set (join a b c d) (m + n + i) v ≡ join a b (set c i v) d
  unfolding join
  set-c i v h =
      rw (add_assoc, into a (b ++ (c ++ d)) m (n + i) v la, into b (c ++ d) n i v lb, set-append_left c d i v (omega arith))

  pub set-d : (i v : ℕ) → set (join a b c d) (m + n + o + i) v ≡ join a b c (set d i v)
  unfolding join
  set-d i v =
      let p : m + n + o + i ≡ m + (n + (o + i)) = omega arith in
      rw (p, into a (b ++ (c ++ d)) m (n + (o + i)) v la, into b (c ++ d) n (o + i) v lb, into c d o i v lc)

  pub length-join : length (join a b c d) ≡ m + n + o + length d
  unfolding join
  length-join = simp length-append (omega arith)
