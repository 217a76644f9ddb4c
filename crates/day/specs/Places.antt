-- Bytes written over others.
-- Assumes nothing: this is a definition.
use Rattle.std.specs.Prelude.{ℕ, ◌-◌, List, length, take, ltb}
use Rattle.octets.specs.Choice.{pick}
use Rattle.octets.specs.Put.{put_at}

-- "these bytes are written over the lent table from that place on; what falls past its end is left out"
unfoldable pub damaged : List ℕ → ℕ → List ℕ → List ℕ
damaged t at bytes = pick (ltb (length t) at) t (put_at t at (take (length t - at) bytes))
