-- What a bytes call leaves of an idle count, and how much of the row's room is the payload of the message that is finished.
-- Assumes nothing: these are definitions.
use Rattle.std.specs.Prelude.{ℕ, eqb}
use Rattle.octets.specs.Choice.{pick}
use Rattle.kinds.specs.Clock.{clock_of}
use Rattle.kinds.specs.declared.Clock.{Clock}
use Rattle.model.specs.Stream.{is_stored, Event, input_ended, wrong, finished, skipped}

-- "An active row's idle count goes to 0 with each call that takes a byte from it"
abbrev pub idle_after : ℕ → Clock → Clock
idle_after n idle = pick (eqb n 0) idle (clock_of 0)

-- how many bytes of the room are the payload of the message that is finished
abbrev pub stored_long : ℕ → ℕ → ℕ
stored_long kind size = pick (is_stored kind) size 0

abbrev pub payload_long : Event → ℕ
payload_long input_ended = 0
payload_long (wrong fault) = 0
payload_long (finished kind size) = stored_long kind size
payload_long (skipped size) = 0
