-- The farm that a block means, and the bytes of a farm. Reading is total; a block is whole where its bytes are those of a farm.
-- Assumes nothing: these are definitions.
use Rattle.std.specs.Prelude.{ℕ, ◌-◌, ◌≡◌, Bool, List, ◌∷◌, ◌++◌, map, eqb, length, get_or, take, replicate}
use Rattle.octets.specs.Choice.{one}
use Rattle.octets.specs.Numbers.{u16_at, u32_at, be16, be32}
use Rattle.octets.specs.Parts.{part, parts, joined}
use Rattle.octets.specs.Search.{same_list}
use Rattle.kinds.specs.Clock.{clock_of}
use Rattle.kinds.specs.declared.Clock.{Clock}
use Rattle.kinds.specs.declared.Meters.{Meters}
use Rattle.model.specs.Farm.{Farm}
use Rattle.rowbytes.specs.RowLayout.{row_size}
use Rattle.table.specs.Layout.{seats, meters_at, meters_size, line_at, line_size, clock_at, clock_size, marks_at, rows_at, block_size}
use Rattle.rowbytes.specs.RowBytes.{row_from, row_image}

-- ---- "three meters"

unfoldable pub meters_image : Meters → List ℕ
meters_image m = be32 m.taken ++ (be32 m.finished ++ be32 m.lost)

unfoldable pub meters_from : List ℕ → Meters
meters_from s = record { taken = u32_at s 0; finished = u32_at s 4; lost = u32_at s 8 }

-- ---- "a line of waiting rows": how many, then their seats, the head first; what is not used is 0

unfoldable pub line_image : List ℕ → List ℕ
line_image line = length line ∷ line ++ replicate (seats - length line) 0

unfoldable pub line_from : List ℕ → List ℕ
line_from s = take (get_or s 0 0) (part s 1 seats)

-- ---- "one check clock"

unfoldable pub clock_image : Clock → List ℕ
clock_image c = be16 c.ticks

unfoldable pub clock_from : List ℕ → Clock
clock_from s = clock_of (u16_at s 0)

-- ---- "a mark "answered" for each of its at most nine rows": 1, or 0 where there is none

abbrev pub is_one : ℕ → Bool
is_one x = eqb x 1

unfoldable pub marks_image : List Bool → List ℕ
marks_image marks = map one marks

unfoldable pub marks_from : List ℕ → List Bool
marks_from s = map is_one s

-- ---- the block

-- the farm that a block means, whatever its bytes
unfoldable pub farm_of : List ℕ → Farm
farm_of b =
    record {
      rows = map row_from (parts row_size rows_at seats b);
      line = line_from (part b line_at line_size);
      clock = clock_from (part b clock_at clock_size);
      marks = marks_from (part b marks_at seats);
      meters = meters_from (part b meters_at meters_size);
    }

-- the bytes of a farm
unfoldable pub image : Farm → List ℕ
image f =
    meters_image f.meters
    ++ (line_image f.line ++ (clock_image f.clock ++ (marks_image f.marks ++ joined (map row_image f.rows))))

-- ---- whole blocks

-- each record of the block, laid out again from what it means, is the same bytes
abbrev pub MetersOk : List ℕ → Type 0
MetersOk b = meters_image (meters_from (part b meters_at meters_size)) ≡ part b meters_at meters_size

-- the count is at most nine, and the seats past it are 0
abbrev pub LineOk : List ℕ → Type 0
LineOk b = line_image (line_from (part b line_at line_size)) ≡ part b line_at line_size

abbrev pub ClockOk : List ℕ → Type 0
ClockOk b = clock_image (clock_from (part b clock_at clock_size)) ≡ part b clock_at clock_size

-- each is 0 or 1
abbrev pub MarksOk : List ℕ → Type 0
MarksOk b = marks_image (marks_from (part b marks_at seats)) ≡ part b marks_at seats

-- no tag is unknown, and what a state or a place does not use is 0
abbrev pub RowsOk : List ℕ → Type 0
RowsOk b = map row_image (map row_from (parts row_size rows_at seats b)) ≡ parts row_size rows_at seats b

-- the bytes are those of a farm
pub record Whole (b : List ℕ) : Type 0 where
  pub long : length b ≡ block_size
  pub meters : MetersOk b
  pub line : LineOk b
  pub clock : ClockOk b
  pub marks : MarksOk b
  pub rows : RowsOk b

-- the same as a test: the bytes are those of the farm that they mean (WholeTest, of table_whole's laws)
unfoldable pub whole_block : List ℕ → Bool
whole_block b = same_list (image (farm_of b)) b

-- a block that holds just this farm
pub record Holds (b : List ℕ) (f : Farm) : Type 0 where
  pub is : farm_of b ≡ f
  pub whole : Whole b
