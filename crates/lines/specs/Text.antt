-- Numbers and bytes as text.
-- Assumes nothing: these are definitions.
use Rattle.std.specs.Prelude.{ℕ, zero, suc, ◌+◌, ◌/◌, ◌%◌, ◌≡◌, List, [], ◌∷◌, ◌++◌, length, ltb}
use Rattle.octets.specs.Choice.{pick}
use Rattle.octets.specs.Put.{put_at}

-- a digit's character: 0 to 9, then a to f ("lower-case")
abbrev pub digit_of : ℕ → ℕ
digit_of d = pick (ltb d 10) (48 + d) (87 + d)

-- the decimal digits of a number, the highest first and no 0 before them; k digits at most
unfoldable pub decimal_in : ℕ → ℕ → List ℕ
decimal_in zero n = []
decimal_in (suc k) n = pick (ltb n 10) (digit_of n ∷ []) (decimal_in k (n / 10) ++ (digit_of (n % 10) ∷ []))

-- 2^64 has twenty digits
abbrev pub most_digits : ℕ
most_digits = 20

abbrev pub decimal : ℕ → List ℕ
decimal n = decimal_in most_digits n

-- two digits for a byte, the higher first
abbrev pub hex_byte : ℕ → List ℕ
hex_byte b = digit_of (b / 16) ∷ digit_of (b % 16) ∷ []

unfoldable pub hex : List ℕ → List ℕ
hex [] = []
hex (b ∷ l) = hex_byte b ++ hex l

-- these characters were put at the place at, and r is the place after them
pub record Wrote (text out out₁ : List ℕ) (at r : ℕ) : Type 0 where
  pub put : out₁ ≡ put_at out at text
  pub after : r ≡ at + length text
