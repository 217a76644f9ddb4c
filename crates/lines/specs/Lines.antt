-- The lines of the format of recorded calls, as characters.
-- Assumes nothing: these are definitions.
use Rattle.std.specs.Prelude.{ℕ, List, [], ◌∷◌, ◌++◌, eqb}
use Rattle.octets.specs.Choice.{pick}
use Rattle.lines.specs.declared.Ending.{Ending}
use Rattle.lines.specs.declared.Ending.TheVariants.{End, Cut, Bad}
use Rattle.lines.specs.Text.{decimal, hex}

abbrev pub newline : List ℕ
newline = 10 ∷ []

-- "the fields parted by one blank"
abbrev pub blank : List ℕ
blank = 32 ∷ []

-- "the answer's number, its row, the bytes taken, all decimal", and the blank after them
unfoldable pub counts_text : ℕ → ℕ → ℕ → List ℕ
counts_text number row taken = decimal number ++ (blank ++ decimal row) ++ (blank ++ decimal taken) ++ blank

-- "then the output sheet in lower-case hexadecimal (the bytes up to the total length), or `-` for a refused call"
abbrev pub sheet_text : ℕ → List ℕ → List ℕ
sheet_text number sheet = pick (eqb number 0) (hex sheet) (45 ∷ [])

-- "For each call one line"
unfoldable pub answer_line : ℕ → ℕ → ℕ → List ℕ → List ℕ
answer_line number row taken sheet = counts_text number row taken ++ sheet_text number sheet ++ newline

-- "farm F taken N finished N lost N"
abbrev pub farm_word : List ℕ
farm_word = 102 ∷ 97 ∷ 114 ∷ 109 ∷ 32 ∷ []

abbrev pub taken_word : List ℕ
taken_word = 32 ∷ 116 ∷ 97 ∷ 107 ∷ 101 ∷ 110 ∷ 32 ∷ []

abbrev pub finished_word : List ℕ
finished_word = 32 ∷ 102 ∷ 105 ∷ 110 ∷ 105 ∷ 115 ∷ 104 ∷ 101 ∷ 100 ∷ 32 ∷ []

abbrev pub lost_word : List ℕ
lost_word = 32 ∷ 108 ∷ 111 ∷ 115 ∷ 116 ∷ 32 ∷ []

unfoldable pub farm_line : ℕ → ℕ → ℕ → ℕ → List ℕ
farm_line f taken finished lost =
    (farm_word ++ decimal f) ++ (taken_word ++ decimal taken) ++ (finished_word ++ decimal finished) ++ (lost_word ++ decimal lost) ++ newline

-- "then `end N` with the number of calls", "then `cut at N`, N being the byte at which the broken record begins", "the same with `bad at N`"
abbrev pub end_word : List ℕ
end_word = 101 ∷ 110 ∷ 100 ∷ 32 ∷ []

abbrev pub cut_word : List ℕ
cut_word = 99 ∷ 117 ∷ 116 ∷ 32 ∷ 97 ∷ 116 ∷ 32 ∷ []

abbrev pub bad_word : List ℕ
bad_word = 98 ∷ 97 ∷ 100 ∷ 32 ∷ 97 ∷ 116 ∷ 32 ∷ []

abbrev pub last_word : Ending → List ℕ
last_word (End n) = end_word ++ decimal n
last_word (Cut n) = cut_word ++ decimal n
last_word (Bad n) = bad_word ++ decimal n

abbrev pub last_line : Ending → List ℕ
last_line e = last_word e ++ newline

-- room that is enough: three numbers and three blanks; a farm's line; the last one without its end
abbrev pub most_counts : ℕ
most_counts = 63

abbrev pub most_farm_line : ℕ
most_farm_line = 109

abbrev pub most_last_line : ℕ
most_last_line = 27
