-- A phrase with what fills its holes, and the text that it is.
-- Assumes nothing: these are definitions.
use Rattle.std.specs.Prelude.{ℕ, suc, List, [], ◌∷◌, eqb, get_or, map}
use Prim.Native.String.{String}
use Rattle.octets.specs.Choice.{pick}
use Rattle.octets.specs.Numbers.{be16}
use Rattle.lines.specs.Text.{decimal, hex}
use Rattle.words.specs.declared.fill.Arg.{Arg}
use Rattle.words.specs.declared.fill.Arg.TheVariants.{Blank, Number, Address, Code, Phrase}
use Rattle.words.specs.declared.fill.Sentence.{Sentence}
use Rattle.words.specs.Said.{spelled}
use Rattle.words.specs.Book.{phrase, fill}

-- a text whose holes are filled
abbrev pub filled : String → List (List ℕ) → List ℕ
filled s ts = fill (spelled s) ts

-- an address is four hexadecimal digits, a code two
abbrev pub address : ℕ → List ℕ
address x = hex (be16 x)

abbrev pub code : ℕ → List ℕ
code c = hex (c ∷ [])

abbrev pub arg_text : Arg → List ℕ
arg_text Blank = []
arg_text (Number n) = decimal n
arg_text (Address x) = address x
arg_text (Code c) = code c
arg_text (Phrase k) = phrase k

abbrev pub arg_texts : Sentence → List (List ℕ)
arg_texts s = map arg_text s.args

-- a sentence with these in its four holes, the others blank
abbrev pub sentence : ℕ → List Arg → Sentence
sentence k l = record { phrase = k; args = get_or l 0 Blank ∷ get_or l 1 Blank ∷ get_or l 2 Blank ∷ get_or l 3 Blank ∷ [] }

abbrev pub sentence_text : Sentence → List ℕ
sentence_text s = fill (phrase s.phrase) (arg_texts s)

-- one character of a phrase in which so many holes are filled: a hole by its text, any other by itself
abbrev pub one_text : ℕ → ℕ → List (List ℕ) → List ℕ
one_text c k ts = pick (eqb c 37) (get_or ts k []) (c ∷ [])

-- how many holes are filled after a character
abbrev pub after_one : ℕ → ℕ → ℕ
after_one c k = pick (eqb c 37) (suc k) k
