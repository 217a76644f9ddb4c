-- The lines have room where it is asked for.
-- Assumes nothing.
use mathlib.Core.Bool.{Bool, true, false}
use mathlib.Core.List.{List, [], ◌∷◌, ◌++◌}
use Prim.Native.Nat.{ℕ, ◌+◌, ◌*◌, ◌≤◌}
use native.Mathlib.Omega.{arith}
use lib.Dec.{eqb}
use lib.ListN.{length, length-append}
use Rattle.octets.specs.Choice.{pick}
use Rattle.lines.specs.declared.Ending.{Ending}
use Rattle.lines.specs.declared.Ending.TheVariants.{End, Cut, Bad}
use Rattle.lines.specs.Text.{decimal, hex}
use Rattle.lines.specs.Lines.{blank, newline, farm_word, taken_word, finished_word, lost_word, last_word}
use Rattle.lines.specs.Lines.{counts_text, sheet_text, answer_line, farm_line, last_line, most_counts, most_farm_line, most_last_line}
use Rattle.lines.proofs.TextLaws.{length-decimal, length-hex}

pub length-counts : (number row taken : ℕ) → length (counts_text number row taken) ≤ most_counts
unfolding counts_text
length-counts number row taken =
    let a : List ℕ = decimal number in
    let b : List ℕ = blank ++ decimal row in
    let c : List ℕ = blank ++ decimal taken in
    omega (
      arith,
      length-append (a ++ b ++ c) blank,
      length-append (a ++ b) c,
      length-append a b,
      length-decimal number,
      length-decimal row,
      length-decimal taken,
    )

pub length-sheet : (number : ℕ) (sheet : List ℕ) → length (sheet_text number sheet) ≤ 2 * length sheet + 1
length-sheet number sheet = by (eqb number 0)
  where
    by : (b : Bool) → length (pick b (hex sheet) (45 ∷ [])) ≤ 2 * length sheet + 1
    by true = omega (arith, length-hex sheet)
    by false = omega arith

pub length_last : (e : Ending) → length (last_word e) ≤ most_last_line
length_last (End n) = omega (arith, length-decimal n)
length_last (Cut n) = omega (arith, length-decimal n)
length_last (Bad n) = omega (arith, length-decimal n)

pub length-answer : (number row taken : ℕ) (sheet : List ℕ) → length (answer_line number row taken sheet) ≤ most_counts + (2 * length sheet + 2)
unfolding answer_line
length-answer number row taken sheet =
    let a : List ℕ = counts_text number row taken in
    let b : List ℕ = sheet_text number sheet in
    omega (arith, length-append (a ++ b) newline, length-append a b, length-counts number row taken, length-sheet number sheet)

pub length-farm : (f taken finished lost : ℕ) → length (farm_line f taken finished lost) ≤ most_farm_line
unfolding farm_line
length-farm f taken finished lost =
    let a : List ℕ = farm_word ++ decimal f in
    let b : List ℕ = taken_word ++ decimal taken in
    let c : List ℕ = finished_word ++ decimal finished in
    let d : List ℕ = lost_word ++ decimal lost in
    omega (
      arith,
      length-append (a ++ b ++ c ++ d) newline,
      length-append (a ++ b ++ c) d,
      length-append (a ++ b) c,
      length-append a b,
      length-decimal f,
      length-decimal taken,
      length-decimal finished,
      length-decimal lost,
    )

pub length_last_line : (e : Ending) → length (last_line e) ≤ most_last_line + 1
length_last_line e = omega (arith, length-append (last_word e) newline, length_last e)

-- what the calls of this crate need: room for each text
pub ruleset room = (length-decimal, length-counts, length-sheet, length_last)
