-- A row: what it is, and the questions that the rules ask of it.
-- Assumes nothing: these are definitions.
use Rattle.std.specs.Prelude.{ℕ, ◌+◌, Bool, true, false, List, eqb, leb, get_or, replicate}
use Rattle.octets.specs.Choice.{pick}
use Rattle.wire.specs.Header.{header_size}
use Rattle.kinds.specs.Clock.{clock_of, initial_limit, general_limit, stepped}
use Rattle.kinds.specs.declared.Request.{Request}
use Rattle.kinds.specs.declared.RowState.{RowState}
use Rattle.kinds.specs.declared.RowState.TheVariants.{Free, Fresh, Waiting, Active}
use Rattle.kinds.specs.declared.Place.{Place}
use Rattle.kinds.specs.declared.Place.TheVariants.{Header, Reading, Skipping}
use Rattle.kinds.specs.declared.Row.{Row}

-- ---- the place in the byte stream

-- the header's bytes where none is in hand
unfoldable pub no_head : List ℕ
no_head = replicate header_size 0

-- between two messages
abbrev pub boundary : Place
boundary = Header 0

-- "bytes in hand": all bytes taken of the message that is not finished yet, those that are skipped too
abbrev pub in_hand_at : Place → ℕ
in_hand_at (Header n) = n
in_hand_at (Reading n) = header_size + n
in_hand_at (Skipping n) = header_size + n

-- a free row has none
abbrev pub in_hand_by : RowState → Place → ℕ
in_hand_by Free p = 0
in_hand_by (Fresh c) p = in_hand_at p
in_hand_by (Waiting q) p = in_hand_at p
in_hand_by (Active a c) p = in_hand_at p

abbrev pub in_hand : Row → ℕ
in_hand r = in_hand_by r.state r.place

-- ---- rows: "A row is free, fresh with its age, waiting with its request, or active with its tester's address and idle count."

-- a row between two messages
abbrev pub row_of : RowState → Row
row_of s = record { state = s; place = boundary; head = no_head }

abbrev pub free_row : Row
free_row = row_of Free

abbrev pub fresh_row : Row
fresh_row = row_of (Fresh (clock_of 0))

abbrev pub waiting_row : Request → Row
waiting_row q = row_of (Waiting q)

-- "the row is active with idle 0"
abbrev pub active_row : ℕ → Row
active_row a = row_of (Active a (clock_of 0))

abbrev pub row_at : List Row → ℕ → Row
row_at rows i = get_or rows i free_row

abbrev pub is_free_state : RowState → Bool
is_free_state Free = true
is_free_state (Fresh c) = false
is_free_state (Waiting q) = false
is_free_state (Active a c) = false

abbrev pub is_free : Row → Bool
is_free r = is_free_state r.state

abbrev pub is_open_state : RowState → Bool
is_open_state Free = false
is_open_state (Fresh c) = true
is_open_state (Waiting q) = true
is_open_state (Active a c) = true

abbrev pub is_open : Row → Bool
is_open r = is_open_state r.state

abbrev pub is_waiting_state : RowState → Bool
is_waiting_state Free = false
is_waiting_state (Fresh c) = false
is_waiting_state (Waiting q) = true
is_waiting_state (Active a c) = false

abbrev pub is_waiting : Row → Bool
is_waiting r = is_waiting_state r.state

abbrev pub is_active_state : RowState → Bool
is_active_state Free = false
is_active_state (Fresh c) = false
is_active_state (Waiting q) = false
is_active_state (Active a c) = true

abbrev pub is_active : Row → Bool
is_active r = is_active_state r.state

abbrev pub active_as_state : ℕ → RowState → Bool
active_as_state a Free = false
active_as_state a (Fresh c) = false
active_as_state a (Waiting q) = false
active_as_state a (Active b c) = eqb b a

abbrev pub active_as : ℕ → Row → Bool
active_as a r = active_as_state a r.state

-- the address that a waiting row asks for; a row that does not wait asks for none
abbrev pub wanted_by : RowState → ℕ
wanted_by Free = 0
wanted_by (Fresh c) = 0
wanted_by (Waiting q) = q.address
wanted_by (Active a c) = 0

abbrev pub wanted : Row → ℕ
wanted r = wanted_by r.state

-- ---- clocks of a row: "A fresh row's age counts from connect and closes it at 200; a waiting row has no age. An active row's idle
-- count goes to 0 with each call that takes a byte from it, and closes it at 30,000."

abbrev pub older_state : RowState → RowState
older_state Free = Free
older_state (Fresh c) = Fresh (stepped c)
older_state (Waiting q) = Waiting q
older_state (Active a c) = Active a (stepped c)

abbrev pub older : Row → Row
older r = record { state = older_state r.state; place = r.place; head = r.head }

abbrev pub at_limit_state : RowState → Bool
at_limit_state Free = false
at_limit_state (Fresh c) = leb initial_limit c.ticks
at_limit_state (Waiting q) = false
at_limit_state (Active a c) = leb general_limit c.ticks

abbrev pub at_limit : Row → Bool
at_limit r = at_limit_state r.state

-- the state after a call that took n bytes from the row
abbrev pub heard_state : ℕ → RowState → RowState
heard_state n Free = Free
heard_state n (Fresh c) = Fresh c
heard_state n (Waiting q) = Waiting q
heard_state n (Active a c) = Active a (pick (eqb n 0) c (clock_of 0))
