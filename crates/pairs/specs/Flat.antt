-- Pairs and chosen samples as they lie in lent numbers, one behind the other.
use Rattle.std.specs.Prelude.{Bool, List, [], ◌∷◌, ℕ, ◌+◌, ◌*◌, ◌%◌, eqb, length, set}
use Rattle.model.specs.Pairs.{Pair, Hit}

-- ---- pairs: a key, and then its instance

abbrev pub pair_at : ℕ → ℕ → Pair
pair_at k m = record { key = k; name = m }

-- the pairs of a list; a last number with no partner is left out
unfoldable pub pairs_of : List ℕ → List Pair
pairs_of [] = []
pairs_of (k ∷ []) = []
pairs_of (k ∷ m ∷ l) = pair_at k m ∷ pairs_of l

-- the numbers of pairs
unfoldable pub pair_words : List Pair → List ℕ
pair_words [] = []
pair_words (p ∷ ps) = p.key ∷ p.name ∷ pair_words ps

-- the list is "of whole pairs"
unfoldable pub whole_pairs : List ℕ → Bool
whole_pairs l = eqb (length l % 2) 0

-- ---- chosen samples: a sequence number, a key, and then its instance

abbrev pub hit_at : ℕ → ℕ → ℕ → Hit
hit_at s k m = record { seq = s; pair = record { key = k; name = m } }

-- the samples in a buffer; one or two numbers at its end are left out
unfoldable pub hits_of : List ℕ → List Hit
hits_of [] = []
hits_of (s ∷ []) = []
hits_of (s ∷ k ∷ []) = []
hits_of (s ∷ k ∷ m ∷ l) = hit_at s k m ∷ hits_of l

-- the numbers of samples
unfoldable pub words_of : List Hit → List ℕ
words_of [] = []
words_of (h ∷ hs) = h.seq ∷ h.pair.key ∷ h.pair.name ∷ words_of hs

-- the sample at place i is h
unfoldable pub put_hit : List ℕ → ℕ → Hit → List ℕ
put_hit l i h = set (set (set l (3 * i) h.seq) (3 * i + 1) h.pair.key) (3 * i + 2) h.pair.name
