-- The output sheet of a list of entries.
-- Assumes nothing: these are definitions.
use Rattle.std.specs.Prelude.{ℕ, ◌+◌, ◌*◌, List, [], ◌∷◌, ◌++◌, length}
use Rattle.octets.specs.Numbers.{be16}

pub record Entry : Type 0 where
  pub row : ℕ
  pub kind : ℕ
  pub bytes : List ℕ

abbrev pub entry : ℕ → ℕ → List ℕ → Entry
entry row kind bytes = record { row = row; kind = kind; bytes = bytes }

-- "entries: row, kind, u16 length, bytes"
unfoldable pub entry_bytes : Entry → List ℕ
entry_bytes e = (e.row ∷ e.kind ∷ be16 (length e.bytes)) ++ e.bytes

unfoldable pub bodies : List Entry → List ℕ
bodies [] = []
bodies (e ∷ es) = entry_bytes e ++ bodies es

-- "a u16 offset per entry", the first entry standing at the place `at`; "Offsets count from the sheet's start"
unfoldable pub offsets : ℕ → List Entry → List ℕ
offsets at [] = []
offsets at (e ∷ es) = be16 at ++ offsets (at + length (entry_bytes e)) es

-- where the first of n entries stands: behind the two numbers and the offsets
abbrev pub first_place : ℕ → ℕ
first_place n = 4 + 2 * n

abbrev pub total_of : List Entry → ℕ
total_of es = first_place (length es) + length (bodies es)

-- "u16 entry count, u16 total length, a u16 offset per entry, then entries"
unfoldable pub sheet_of : List Entry → List ℕ
sheet_of es = (be16 (length es) ++ be16 (total_of es)) ++ (offsets (first_place (length es)) es ++ bodies es)
