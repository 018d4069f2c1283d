-- What the session program prints for an answer, in ASCII.
use Rattle.std.specs.Prelude.{List, [], ◌∷◌, ◌++◌, ℕ, length}
use Rattle.std.proofs.Math.Option.{Option, some, none}
use Rattle.text.specs.Text.{decimal_of, signed_of}
use Rattle.sampleinfo.specs.States.{sample_bit, view_bit, instance_bit, kind_of, handle_of}
use Rattle.sampleinfo.specs.declared.Body.{Body}
use Rattle.sampleinfo.specs.declared.Info.{Info}
use Rattle.model.specs.Pairs.{Pair}
use Rattle.model.specs.Model.{Answer, refused, ok, added, selected, infos, next}

-- ---- lines

-- each word with a space behind it
unfoldable pub spaced : List (List ℕ) → List ℕ
spaced [] = []
spaced (w ∷ ws) = w ++ 32 ∷ spaced ws

-- a line: words with a space between them, and a newline at the end
unfoldable pub line_of : List (List ℕ) → List ℕ
line_of [] = 10 ∷ []
line_of (w ∷ []) = w ++ 10 ∷ []
line_of (w ∷ v ∷ ws) = w ++ 32 ∷ line_of (v ∷ ws)

-- ---- words

-- "ok", "refused"
abbrev pub ok_word : List ℕ
ok_word = 111 ∷ 107 ∷ []

abbrev pub refused_word : List ℕ
refused_word = 114 ∷ 101 ∷ 102 ∷ 117 ∷ 115 ∷ 101 ∷ 100 ∷ []

-- "key", "slot", "evicted"
abbrev pub key_word : List ℕ
key_word = 107 ∷ 101 ∷ 121 ∷ []

abbrev pub slot_word : List ℕ
slot_word = 115 ∷ 108 ∷ 111 ∷ 116 ∷ []

abbrev pub evicted_word : List ℕ
evicted_word = 101 ∷ 118 ∷ 105 ∷ 99 ∷ 116 ∷ 101 ∷ 100 ∷ []

-- "selected", "samples", "next"
abbrev pub selected_word : List ℕ
selected_word = 115 ∷ 101 ∷ 108 ∷ 101 ∷ 99 ∷ 116 ∷ 101 ∷ 100 ∷ []

abbrev pub samples_word : List ℕ
samples_word = 115 ∷ 97 ∷ 109 ∷ 112 ∷ 108 ∷ 101 ∷ 115 ∷ []

abbrev pub next_word : List ℕ
next_word = 110 ∷ 101 ∷ 120 ∷ 116 ∷ []

-- a number, or "-" where there is none
abbrev pub or_dash : Option ℕ → List ℕ
or_dash none = 45 ∷ []
or_dash (some n) = decimal_of n

-- ---- answers

-- "101 9": a key and its instance
abbrev pub pair_line : Pair → List ℕ
pair_line p = line_of (decimal_of p.key ∷ decimal_of p.name ∷ [])

unfoldable pub pair_lines : List Pair → List ℕ
pair_lines [] = []
pair_lines (p ∷ ps) = pair_line p ++ pair_lines ps

-- "Info line: handle, kind, sample, view and instance state, both counts, three ranks."
abbrev pub body_words : Body → List (List ℕ)
body_words b = decimal_of (handle_of b) ∷ decimal_of (kind_of b) ∷ []

abbrev pub state_words : Info → List (List ℕ)
state_words i = decimal_of (sample_bit i.sample_state) ∷ decimal_of (view_bit i.view_state) ∷ decimal_of (instance_bit i.instance_state) ∷ []

abbrev pub count_words : Info → List (List ℕ)
count_words i = decimal_of i.generation_counts.disposed_generation_count ∷ decimal_of i.generation_counts.no_writers_generation_count ∷ []

abbrev pub rank_words : Info → List (List ℕ)
rank_words i = decimal_of i.sample_rank ∷ signed_of i.generation_rank ∷ signed_of i.absolute_generation_rank ∷ []

abbrev pub info_line : Info → List ℕ
info_line i = line_of (body_words i.body ++ state_words i ++ count_words i ++ rank_words i)

unfoldable pub info_lines : List Info → List ℕ
info_lines [] = []
info_lines (i ∷ is) = info_line i ++ info_lines is

-- a line such as "refused 3" or "samples 1"
abbrev pub number_line : List ℕ → ℕ → List ℕ
number_line w n = line_of (w ∷ decimal_of n ∷ [])

unfoldable pub printed : Answer → List ℕ
printed (refused n) = number_line refused_word n
printed ok = line_of (ok_word ∷ [])
printed (added key slot out) = line_of (key_word ∷ decimal_of key ∷ slot_word ∷ decimal_of slot ∷ evicted_word ∷ or_dash out ∷ [])
printed (selected ps) = number_line selected_word (length ps) ++ pair_lines ps
printed (infos is) = number_line samples_word (length is) ++ info_lines is
printed (next n) = line_of (next_word ∷ or_dash n ∷ [])
