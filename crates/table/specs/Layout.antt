-- Where everything of a farm's block stands. Only this crate, rowbytes, table_meters, table_line and table_whole know a place of it.
-- Assumes nothing: these are definitions.
use Rattle.std.specs.Prelude.{ℕ, ◌+◌, ◌*◌}
use Rattle.rowbytes.specs.RowLayout.{row_size}
use Rattle.sheet.specs.Sheet.{most_farms}

-- "its at most nine rows": the seats that a block has room for
abbrev pub seats : ℕ
seats = 9

-- ---- a block: meters, line (a count, then the seats), clock, marks, rows

abbrev pub meters_at : ℕ
meters_at = 0

abbrev pub meters_size : ℕ
meters_size = 12

abbrev pub line_at : ℕ
line_at = 12

-- the first of the line's seats
abbrev pub seats_at : ℕ
seats_at = 13

abbrev pub line_size : ℕ
line_size = 1 + seats

abbrev pub clock_at : ℕ
clock_at = 22

abbrev pub clock_size : ℕ
clock_size = 2

abbrev pub marks_at : ℕ
marks_at = 24

abbrev pub rows_at : ℕ
rows_at = 33

abbrev pub block_size : ℕ
block_size = rows_at + seats * row_size

-- ---- the table: a block for each farm that a sheet can have

abbrev pub table_size : ℕ
table_size = most_farms * block_size
