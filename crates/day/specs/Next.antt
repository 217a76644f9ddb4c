-- What stands at a place of the file.
-- Assumes nothing: these are definitions.
use Rattle.std.specs.Prelude.{ℕ, ◌+◌, ◌-◌, ◌≤◌, ◌<◌, Option, Some, None, Result, Ok, Err, List, length, ltb}
use Rattle.octets.specs.Choice.{pick}
use Rattle.octets.specs.Numbers.{u16_at}
use Rattle.octets.specs.Parts.{part}
use Rattle.day.specs.declared.records.Record.{Record}
use Rattle.day.specs.declared.records.Record.TheVariants.{Made, Sheet, Rooms, Damage}
use Rattle.day.specs.declared.records.Whole.{Whole}
use Rattle.day.specs.declared.records.Unread.{Unread}
use Rattle.day.specs.declared.records.Unread.TheVariants.{Cut, Bad}
use Rattle.day.specs.Records.{record_in, fixed_of, most_room}

-- "A record is a u16 n (1 to 32,767)"
abbrev pub least_length : ℕ
least_length = 1

abbrev pub most_length : ℕ
most_length = 32767

-- a record whose bytes are all there; its kind byte is at start
abbrev pub whole_at : ℕ → ℕ → Option Record → Result Whole Unread
whole_at start n (Some r) = Ok (record { «record» = r; rest = start + 1 + fixed_of r; next = start + n })
whole_at start n None = Err Bad

-- the length is judged first, then whether all is there, then kind and fields: so many bytes are left, so many after the length n
unfoldable pub next_of : ℕ → ℕ → ℕ → Result Whole Unread → Result Whole Unread
next_of left after n whole =
    pick (ltb left 2) (Err Cut) (pick (ltb n least_length) (Err Bad) (pick (ltb most_length n) (Err Bad) (pick (ltb after n) (Err Cut) whole)))

abbrev pub next_at : List ℕ → ℕ → Result Whole Unread
next_at s at =
    next_of (length s - at) (length s - (at + 2)) (u16_at s at)
    (whole_at (at + 2) (u16_at s at) (record_in (part s (at + 2) (u16_at s at))))

-- "each at most 65,536"
abbrev pub RoomsFit : Record → Type 0
RoomsFit (Made c) = Unit {0}
RoomsFit Sheet = Unit {0}
RoomsFit (Rooms o a) = (o ≤ most_room) × (a ≤ most_room)
RoomsFit (Damage p) = Unit {0}

-- of a record read from n bytes: its fixed fields are among them
abbrev pub Among : Option Record → ℕ → Type 0
Among (Some r) n = (fixed_of r ≤ n) × RoomsFit r
Among None n = Unit {0}

-- where a whole record lies, that was found at a place of n bytes
abbrev pub Lies : Result Whole Unread → ℕ → ℕ → Type 0
Lies (Ok w) at n = (at < w.rest) × (w.rest ≤ w.next) × (w.next ≤ n) × (w.next ≤ at + 2 + most_length) × RoomsFit w.record
Lies (Err e) at n = Unit {0}
