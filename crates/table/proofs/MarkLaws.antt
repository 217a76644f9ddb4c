-- The marks of a block: so many, and each read by its seat.
-- Assumes nothing.
use mathlib.Core.Path.{◌≡◌, sym, ap, ◌∙◌}
use mathlib.Core.List.{List}
use Prim.Native.Nat.{ℕ, ◌+◌, ◌<◌}
use native.Mathlib.Omega.{arith}
use lib.ListN.{length, get_or, length-map, get_or-map}
use Rattle.octets.specs.Parts.{part}
use Rattle.octets.proofs.PartsLaws.{get_or-part, length_part}
use Rattle.model.specs.Line.{is_marked}
use Rattle.table.specs.Layout.{seats, marks_at, block_size}
use Rattle.table.specs.Block.{is_one, marks_from, farm_of}

module _ (b : List ℕ) (long : length b ≡ block_size) where
  pub marks-seats : length (farm_of b).marks ≡ seats
  unfolding farm_of marks_from
  marks-seats = length-map (part b marks_at seats) is_one ∙ length_part b marks_at seats (omega arith)

  -- the mark of one seat
  pub mark_read : (i : ℕ) → i < seats → is_one (get_or b (marks_at + i) 0) ≡ is_marked (farm_of b).marks i
  unfolding farm_of marks_from
  mark_read i h = sym (get_or-map is_one (part b marks_at seats) i 0 ∙ ap is_one (get_or-part b marks_at seats i h))
