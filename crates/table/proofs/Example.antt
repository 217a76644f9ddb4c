-- The example of docs/TABLE.md: two hundred and thirteen bytes and the farm that they mean.
-- Assumes nothing.
use mathlib.Core.Path.{refl}
use mathlib.Core.Bool.{true, false}
use mathlib.Core.List.{List, [], ◌∷◌, ◌++◌}
use Prim.Native.Nat.{ℕ}
use lib.ListN.{replicate}
use Rattle.octets.specs.Parts.{parts}
use Rattle.kinds.specs.Clock.{clock_of}
use Rattle.kinds.specs.declared.RowState.TheVariants.{Waiting, Active}
use Rattle.kinds.specs.declared.Place.TheVariants.{Header}
use Rattle.model.specs.Row.{no_head, free_row, row_of}
use Rattle.model.specs.Farm.{Farm}
use Rattle.rowbytes.specs.RowBytes.{row_from, row_image, state_in}
use Rattle.table.specs.Block.{meters_from, meters_image, line_from, line_image, clock_from, clock_image, marks_from, marks_image, farm_of, Holds}

-- meters; line; clock; marks
unfoldable pub front : List ℕ
front =
    0x00 ∷ 0x00 ∷ 0x00 ∷ 0x3A ∷ 0x00 ∷ 0x00 ∷ 0x00 ∷ 0x37 ∷ 0x00 ∷ 0x00 ∷ 0x00 ∷ 0x00
    ∷ 0x01 ∷ 0x02 ∷ 0x00 ∷ 0x00 ∷ 0x00 ∷ 0x00 ∷ 0x00 ∷ 0x00 ∷ 0x00 ∷ 0x00
    ∷ 0x00 ∷ 0x07
    ∷ 0x01 ∷ 0x00 ∷ 0x00 ∷ 0x00 ∷ 0x00 ∷ 0x00 ∷ 0x00 ∷ 0x00 ∷ 0x00 ∷ []

-- the rows of the seats 0, 1 and 2
unfoldable pub rows : List ℕ
rows =
    0x03 ∷ 0x00 ∷ 0x0E ∷ 0x00 ∷ 0x00 ∷ 0x03 ∷ 0x00 ∷ 0x00 ∷ 0x00 ∷ 0x00 ∷ 0x00
    ∷ 0x00 ∷ 0x00 ∷ 0x00 ∷ 0x00 ∷ 0x00 ∷ 0x00 ∷ 0x00 ∷ 0x00 ∷ 0x00
    ∷ 0x03 ∷ 0x00 ∷ 0x0E ∷ 0x01 ∷ 0x01 ∷ 0x2C ∷ 0x00 ∷ 0x00 ∷ 0x00 ∷ 0x00 ∷ 0x03
    ∷ 0x03 ∷ 0xFC ∷ 0x80 ∷ 0x00 ∷ 0x00 ∷ 0x00 ∷ 0x00 ∷ 0x00 ∷ 0x00
    ∷ 0x02 ∷ 0x00 ∷ 0x0E ∷ 0x02 ∷ 0x00 ∷ 0x00 ∷ 0x00 ∷ 0x00 ∷ 0x00 ∷ 0x00 ∷ 0x00
    ∷ 0x00 ∷ 0x00 ∷ 0x00 ∷ 0x00 ∷ 0x00 ∷ 0x00 ∷ 0x00 ∷ 0x00 ∷ 0x00 ∷ []

-- two testers active, one of whom has answered; a third waits for the check of all
unfoldable pub means : Farm
means =
    record {
      rows = row_of (Active 0x0E00 (clock_of 3))
          ∷ record { state = Active 0x0E01 (clock_of 300); place = Header 3; head = 0x03 ∷ 0xFC ∷ 0x80 ∷ replicate 5 0 }
          ∷ row_of (Waiting (record { address = 0x0E02; kind = 0 }))
          ∷ replicate 6 free_row;
      line = 2 ∷ [];
      clock = clock_of 7;
      marks = true ∷ replicate 8 false;
      meters = record { taken = 58; finished = 55; lost = 0 };
    }

pub example : Holds (front ++ (rows ++ replicate 120 0)) means
unfolding front rows means farm_of no_head row_from row_image state_in meters_from meters_image line_from line_image clock_from clock_image marks_from marks_image parts
example = record { is = refl; whole = record { long = refl; meters = refl; line = refl; clock = refl; marks = refl; rows = refl } }
