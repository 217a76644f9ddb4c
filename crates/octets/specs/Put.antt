-- A list with a run of bytes put into a place.
-- Assumes nothing: this is a definition.
use Rattle.std.specs.Prelude.{ℕ, ◌+◌, List, ◌++◌, length, take, drop}

unfoldable pub put_at : List ℕ → ℕ → List ℕ → List ℕ
put_at out at bs = take at out ++ bs ++ drop (at + length bs) out
