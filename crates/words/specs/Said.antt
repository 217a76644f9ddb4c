-- Texts, and what it is to have put one into a lent buffer.
-- Assumes nothing: these are definitions.
use Rattle.std.specs.Prelude.{ℕ, ◌+◌, ◌≤◌, ◌≡◌, List, [], ◌∷◌, length, ltb}
use Prim.Native.Char.{code}
use Prim.Native.String.{String, [] as none, ◌∷◌ as ◌then◌}
use Rattle.octets.specs.Choice.{pick}
use Rattle.lines.specs.Text.{Wrote}

-- a text as the numbers of its characters
abbrev pub spelled : String → List ℕ
spelled none = []
spelled (c then s) = code c ∷ spelled s

-- A text is put at the place at where it has room, and r is the place after it. Where it has none, r is no further than the end.
pub record Said (text out out₁ : List ℕ) (at r : ℕ) : Type 0 where
  pub wrote : at + length text ≤ length out → Wrote text out out₁ at r
  pub inside : at ≤ length out → r ≤ length out
  pub kept : length out₁ ≡ length out

-- a byte as it is shown among letters: a dot for what is no character that can be printed
abbrev pub shown_of : ℕ → ℕ
shown_of b = pick (ltb b 32) 46 (pick (ltb 126 b) 46 b)

unfoldable pub letters : List ℕ → List ℕ
letters [] = []
letters (b ∷ l) = shown_of b ∷ letters l
