-- The lines for the entries of an output sheet, each without its newline.
-- "u16 entry count, u16 total length, a u16 offset per entry, then entries: row, kind, u16 length, bytes."
-- Assumes nothing: these are definitions.
use Rattle.std.specs.Prelude.{ℕ, ◌+◌, ◌*◌, ◌≤◌, Bool, List, [], ◌∷◌, ◌++◌, eqb, ltb, length, get_or, Option, Some, None}
use Rattle.octets.specs.Choice.{pick, both}
use Rattle.octets.specs.Numbers.{u16_at}
use Rattle.octets.specs.Parts.{part}
use Rattle.lines.specs.Text.{decimal}
use Rattle.words.specs.Said.{spelled}
use Rattle.words.specs.Sentence.{filled}
use Rattle.entries.specs.declared.entry.Spot.{Spot}
use Rattle.entries.specs.Messages.{is_identity, identity_text, message_text, handed_text}

abbrev pub count_in : List ℕ → ℕ
count_in s = pick (ltb (length s) 2) 0 (u16_at s 0)

-- where an entry lies: it begins at its offset, and its bytes, after its row, its kind and their length, end within the sheet
unfoldable pub spot_of : ℕ → ℕ → ℕ → Option Spot
spot_of n f l = pick (ltb n (f + 4)) None (pick (ltb n (f + 4 + l)) None (Some (record { from = f; long = l })))

abbrev pub spot_in : List ℕ → ℕ → Option Spot
spot_in s i = pick (ltb (length s) (2 * i + 4 + 2)) None (spot_of (length s) (u16_at s (2 * i + 4)) (u16_at s (u16_at s (2 * i + 4) + 2)))

-- where it is said to lie it does
abbrev pub Lies : Option Spot → ℕ → Type 0
Lies (Some p) n = p.from + 4 + p.long ≤ n
Lies None n = Unit {0}

-- "A datagram's reply has row 255."
unfoldable pub to_text : ℕ → List ℕ
to_text row = pick (eqb row 255) (spelled "    datagram: ") (filled "    row %: " (decimal row ∷ []))

-- "Kinds: 1 send, 2 close (empty), 3 hand on."
unfoldable pub plain_text : ℕ → List ℕ → List ℕ
plain_text kind b =
    pick (eqb kind 1) (message_text b)
    (pick (eqb kind 2) (spelled "closed") (pick (eqb kind 3) (handed_text b) (filled "an entry of an unknown kind, %" (decimal kind ∷ []))))

-- a vehicle identification response is said apart
abbrev pub is_apart : ℕ → List ℕ → Bool
is_apart kind b = both (eqb kind 1) (is_identity b)

unfoldable pub what_text : ℕ → List ℕ → List ℕ
what_text kind b = pick (is_apart kind b) (identity_text b) (plain_text kind b)

abbrev pub entry_text : ℕ → ℕ → List ℕ → List ℕ
entry_text row kind b = to_text row ++ what_text kind b

abbrev pub spot_text : List ℕ → Option Spot → List ℕ
spot_text s (Some p) = entry_text (get_or s p.from 0) (get_or s (p.from + 1) 0) (part s (p.from + 4) p.long)
spot_text s None = spelled "    an entry that can not be read"

-- "one indented line per entry that says what is sent (type by name, code by name, addresses), closed or handed on"
abbrev pub entry_line : List ℕ → ℕ → List ℕ
entry_line s i = spot_text s (spot_in s i) ++ (10 ∷ [])
