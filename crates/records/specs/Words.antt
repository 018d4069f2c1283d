-- The pairs of a list record as words of a lent buffer.
use Rattle.std.specs.Prelude.{cond, List, [], ◌∷◌, ◌++◌, ℕ, leb, length, drop}
use Rattle.model.specs.Pairs.{Pair}
use Rattle.records.specs.Format.{list_pairs}

-- the words that the longest list asks for: 4,095 pairs
abbrev pub list_words : ℕ
list_words = 8190

-- flat: a key, and then its instance
unfoldable pub words_of : List Pair → List ℕ
words_of [] = []
words_of (p ∷ ps) = p.key ∷ p.name ∷ words_of ps

abbrev pub words_in : List ℕ → List ℕ
words_in rec = words_of (list_pairs rec)

-- a lent buffer with the words at its front; where they have no room, the buffer as it was
unfoldable pub laid_in : List ℕ → List ℕ → List ℕ
laid_in l ws = cond (leb (length ws) (length l)) (ws ++ drop (length ws) l) l
