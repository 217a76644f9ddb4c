-- The farms' meters and how the file ended, in words.
-- Assumes nothing: these are definitions.
use Rattle.std.specs.Prelude.{ℕ, List, [], ◌∷◌, ◌++◌}
use Rattle.lines.specs.declared.Ending.{Ending}
use Rattle.lines.specs.declared.Ending.TheVariants.{End, Cut, Bad}
use Rattle.lines.specs.Text.{decimal}
use Rattle.words.specs.Sentence.{filled}

-- "taken (bytes taken), finished (8 plus payload for each message wholly read or skipped; 8 for a header that closes), lost (bytes of an
-- unfinished message when its row closes)"
unfoldable pub farm_text : ℕ → ℕ → ℕ → ℕ → List ℕ
farm_text f taken finished lost =
    filled "farm %: % bytes taken, % finished, % lost" (decimal f ∷ decimal taken ∷ decimal finished ∷ decimal lost ∷ [])

unfoldable pub last_text : Ending → List ℕ
last_text (End n) = filled "the end: % calls" (decimal n ∷ [])
last_text (Cut n) = filled "the file is cut at byte %: the record that begins there is not whole" (decimal n ∷ [])
last_text (Bad n) = filled "the file is bad at byte %: the record that begins there can not be read" (decimal n ∷ [])

abbrev pub farm_line : ℕ → ℕ → ℕ → ℕ → List ℕ
farm_line f taken finished lost = farm_text f taken finished lost ++ (10 ∷ [])

abbrev pub last_line : Ending → List ℕ
last_line e = last_text e ++ (10 ∷ [])
