-- A line that was laid out is read back, and a line that is laid out as it means is its waiters and zeros.
-- Assumes nothing.
use mathlib.Core.Path.{◌≡◌, refl, ◌∙◌}
use mathlib.Core.List.{List}
use Prim.Native.Nat.{ℕ, ◌-◌, ◌≤◌}
use native.Mathlib.Omega.{arith}
use lib.ListN.{length, get_or, replicate, length-take}
use lib.Seq.{take_at, take-take}
use Rattle.octets.specs.Parts.{part}
use Rattle.octets.proofs.PartsLaws.{part-short}
use Rattle.table.specs.Layout.{seats, line_size}
use Rattle.table.specs.Block.{line_image, line_from}
use Rattle.table.proofs.ListLaws.{filled, filled-long}

-- the waiters, and zeros past them
abbrev pub padded : List ℕ → List ℕ
padded line = filled seats 0 line

pub line-long : (line : List ℕ) → length line ≤ seats → length (line_image line) ≡ line_size
unfolding line_image
line-long line h = omega (arith, filled-long {A = ℕ} seats 0 line h)

pub line_back : (line : List ℕ) → length line ≤ seats → line_from (line_image line) ≡ line
unfolding line_from line_image
line_back line h =
    take-take (length line) seats (padded line) h ∙ take_at line (replicate (seats - length line) 0) (length line) refl

pub line_few : (s : List ℕ) → length (line_from s) ≤ seats
unfolding line_from
line_few s = omega (arith, length-take (get_or s 0 0) (part s 1 seats), part-short s 1 seats)
