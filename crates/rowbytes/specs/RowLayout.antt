-- Where everything of a row stands within its bytes: state (tag, request type, address, count), place (tag, count), the header's bytes,
-- one spare byte.
-- Assumes nothing: these are definitions.
use Rattle.std.specs.Prelude.{ℕ}

abbrev pub row_size : ℕ
row_size = 20

abbrev pub ticks_in : ℕ
ticks_in = 4

abbrev pub place_in : ℕ
place_in = 6

abbrev pub head_in : ℕ
head_in = 11

abbrev pub head_size : ℕ
head_size = 8

-- the spare byte, for a later request
abbrev pub spare_in : ℕ
spare_in = 19
