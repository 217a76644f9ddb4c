-- Document 01's worked sheets.
-- Assumes nothing.
use mathlib.Core.Path.{◌≡◌, refl}
use mathlib.Core.List.{List, [], ◌∷◌}
use Prim.Native.Nat.{ℕ}
use Rattle.kinds.specs.declared.Reply.TheVariants.{Activation}
use Rattle.kinds.specs.declared.Item.{Item}
use Rattle.outsheet.specs.Sheet.{entry_bytes, bodies, offsets, sheet_of}
use Rattle.outsheet.specs.Replies.{entries_of}

-- "a sheet with no entry is `00 00 00 04`"
pub no_entry : (long : List ℕ) → sheet_of (entries_of long []) ≡ 0x00 ∷ 0x00 ∷ 0x00 ∷ 0x04 ∷ []
unfolding sheet_of offsets bodies
no_entry long = refl

-- "Row 3, entity 1000, tester 0E00 activates."
abbrev pub first_day : Item
first_day = record { row = record { 0 = 3 }; version = 3; reply = Activation 0x0E00 0x1000 0x10 }

-- "Whole sheet: `00 01 00 1B 00 06 03 01 00 11 03 FC 00 06 00 00 00 09 0E 00 10 00 10 00 00 00 00`"
pub first_day_lem : (long : List ℕ) → sheet_of (entries_of long (first_day ∷ []))
    ≡ 0x00 ∷ 0x01 ∷ 0x00 ∷ 0x1B ∷ 0x00 ∷ 0x06 ∷ 0x03 ∷ 0x01 ∷ 0x00 ∷ 0x11 ∷ 0x03 ∷ 0xFC ∷ 0x00 ∷ 0x06 ∷ 0x00 ∷ 0x00 ∷ 0x00 ∷ 0x09
    ∷ 0x0E ∷ 0x00 ∷ 0x10 ∷ 0x00 ∷ 0x10 ∷ 0x00 ∷ 0x00 ∷ 0x00 ∷ 0x00 ∷ []
unfolding sheet_of offsets bodies entry_bytes
first_day_lem long = refl
