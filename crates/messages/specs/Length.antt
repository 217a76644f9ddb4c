-- The length of a finished message: its header passed, so it is one that its type allows.
-- Assumes nothing: these are definitions.
use Prim.{Unit}
use Rattle.std.specs.Prelude.{ℕ, ◌≤◌, ◌≡◌, true}
use Rattle.types.specs.Types.{tcp, length_fits}
use Rattle.wire.specs.Header.{most_payload}
use Rattle.model.specs.Stream.{Event, input_ended, wrong, finished, skipped}

-- neither "length over 2,048" nor "length wrong for the type"
pub record RightLength (kind size : ℕ) : Type 0 where
  pub short : size ≤ most_payload
  pub fits : length_fits tcp kind size ≡ true

-- what ended a call, where a finished message has a right length
abbrev pub EndsWell : Event → Type 0
EndsWell input_ended = Unit {0}
EndsWell (wrong fault) = Unit {0}
EndsWell (finished kind size) = RightLength kind size
EndsWell (skipped size) = Unit {0}
