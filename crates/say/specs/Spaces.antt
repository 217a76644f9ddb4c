-- The room that the lines are gathered in.
-- Assumes nothing: these are definitions.
use Rattle.std.specs.Prelude.{ℕ}

-- the longest buffer that a call is lent ("each at most 65,536")
abbrev pub space_size : ℕ
space_size = 65536

-- the text that lines are gathered in, and the longest line
abbrev pub text_size : ℕ
text_size = 262144

abbrev pub line_size : ℕ
line_size = 131200
