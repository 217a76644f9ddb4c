-- Document 01: "Numbers are big-endian."
-- Assumes nothing: these are definitions.
use Rattle.std.specs.Prelude.{ℕ, ◌+◌, ◌*◌, ◌/◌, ◌%◌, List, [], ◌∷◌, get_or}

-- the number of two bytes that stands at a place, and of four
abbrev pub u16_at : List ℕ → ℕ → ℕ
u16_at s at = get_or s at 0 * 256 + get_or s (at + 1) 0

abbrev pub u32_at : List ℕ → ℕ → ℕ
u32_at s at = get_or s at 0 * 16777216 + get_or s (at + 1) 0 * 65536 + get_or s (at + 2) 0 * 256 + get_or s (at + 3) 0

-- the bytes of a number; the first takes all that is left, so that reading them gives the number back without a bound on it
abbrev pub be16 : ℕ → List ℕ
be16 x = x / 256 ∷ x % 256 ∷ []

abbrev pub be32 : ℕ → List ℕ
be32 x = x / 16777216 ∷ x / 65536 % 256 ∷ x / 256 % 256 ∷ x % 256 ∷ []
