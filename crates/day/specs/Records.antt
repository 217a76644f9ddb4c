-- "A record is a u16 n (1 to 32,767) and n bytes: a kind byte, then its fields, and no byte more." (the format of recorded calls)
-- Assumes nothing: these are definitions.
use Rattle.std.specs.Prelude.{ℕ, Bool, Option, Some, None, List, length, get_or, drop, eqb, leb}
use Rattle.octets.specs.Choice.{pick}
use Rattle.octets.specs.Numbers.{u16_at, u32_at}
use Rattle.kinds.specs.declared.FarmNo.{FarmNo}
use Rattle.kinds.specs.declared.RowNo.{RowNo}
use Rattle.day.specs.declared.records.Call.{Call}
use Rattle.day.specs.declared.records.Call.TheVariants.{Start, Connect, Bytes, Closed, Lost, Tick, Datagram, Controller}
use Rattle.day.specs.declared.records.Record.{Record}
use Rattle.day.specs.declared.records.Record.TheVariants.{Made, Sheet, Rooms, Damage}

-- "a wrong number of fields" is bad: no record
abbrev pub if_right : {A : Type 0} → Bool → A → Option A
if_right right r = pick right (Some r) None

abbrev pub farm_no : ℕ → FarmNo
farm_no n = record { 0 = n }

abbrev pub row_no : ℕ → RowNo
row_no n = record { 0 = n }

-- no field; one byte and no more; one byte, and perhaps more
abbrev pub none_in : List ℕ → Option Unit
none_in f = if_right (eqb (length f) 0) tt

abbrev pub only_in : List ℕ → Option ℕ
only_in f = if_right (eqb (length f) 1) (get_or f 0 0)

abbrev pub first_in : List ℕ → Option ℕ
first_in f = if_right (leb 1 (length f)) (get_or f 0 0)

-- A definition for each row of the format's table, over the bytes after the kind byte.
-- "| 0 | sheet | the farm sheet's bytes |"
abbrev pub sheet_in : List ℕ → Option Record
sheet_in f = Some Sheet

-- "| 1 | start | none |", "| 6 | tick | none |"
abbrev pub empty_in : List ℕ → Call → Option Record
empty_in f c = if_right (eqb (length f) 0) (Made c)

-- "| 2 | connect | farm u8 |"
abbrev pub connect_in : List ℕ → Option Record
connect_in f = if_right (eqb (length f) 1) (Made (Connect (farm_no (get_or f 0 0))))

-- "| 3 | bytes | row u8, bytes (perhaps none) |"
abbrev pub bytes_in : List ℕ → Option Record
bytes_in f = if_right (leb 1 (length f)) (Made (Bytes (row_no (get_or f 0 0))))

-- "| 4 | closed | row u8 |"
abbrev pub closed_in : List ℕ → Option Record
closed_in f = if_right (eqb (length f) 1) (Made (Closed (row_no (get_or f 0 0))))

-- "| 5 | lost | farm u8 |"
abbrev pub lost_in : List ℕ → Option Record
lost_in f = if_right (eqb (length f) 1) (Made (Lost (farm_no (get_or f 0 0))))

-- "| 7 | datagram | farm u8, bytes (perhaps none) |"
abbrev pub datagram_in : List ℕ → Option Record
datagram_in f = if_right (leb 1 (length f)) (Made (Datagram (farm_no (get_or f 0 0))))

-- "| 8 | controller | farm u8, controller u16, tester u16, user data (perhaps none) |"
abbrev pub controller_in : List ℕ → Option Record
controller_in f = if_right (leb 5 (length f)) (Made (Controller (farm_no (get_or f 0 0)) (u16_at f 1) (u16_at f 3)))

-- "| 9 | rooms | output length u32, assembling length u32, each at most 65,536 |"
abbrev pub most_room : ℕ
most_room = 65536

unfoldable pub rooms_of : ℕ → ℕ → ℕ → Option Record
rooms_of n output assembling =
    pick (eqb n 8) (pick (leb output most_room) (if_right (leb assembling most_room) (Rooms output assembling)) None) None

abbrev pub rooms_in : List ℕ → Option Record
rooms_in f = rooms_of (length f) (u32_at f 0) (u32_at f 4)

-- "| 10 | damage | place u16, bytes |"
abbrev pub damage_in : List ℕ → Option Record
damage_in f = if_right (leb 2 (length f)) (Damage (u16_at f 0))

-- "an unknown kind" is bad
unfoldable pub record_of : ℕ → List ℕ → Option Record
record_of kind f =
    pick (eqb kind 0) (sheet_in f)
    (pick (eqb kind 1) (empty_in f Start)
    (pick (eqb kind 2) (connect_in f)
    (pick (eqb kind 3) (bytes_in f)
    (pick (eqb kind 4) (closed_in f)
    (pick (eqb kind 5) (lost_in f)
    (pick (eqb kind 6) (empty_in f Tick)
    (pick (eqb kind 7) (datagram_in f)
    (pick (eqb kind 8) (controller_in f) (pick (eqb kind 9) (rooms_in f) (pick (eqb kind 10) (damage_in f) None))))))))))

-- a record without its length
abbrev pub record_in : List ℕ → Option Record
record_in b = record_of (get_or b 0 0) (drop 1 b)

-- the bytes of the fields that have a length of their own: all but the bytes that a record ends in
abbrev pub fixed_of_call : Call → ℕ
fixed_of_call Start = 0
fixed_of_call (Connect f) = 1
fixed_of_call (Bytes r) = 1
fixed_of_call (Closed r) = 1
fixed_of_call (Lost f) = 1
fixed_of_call Tick = 0
fixed_of_call (Datagram f) = 1
fixed_of_call (Controller f c t) = 5

abbrev pub fixed_of : Record → ℕ
fixed_of (Made c) = fixed_of_call c
fixed_of Sheet = 0
fixed_of (Rooms o a) = 8
fixed_of (Damage p) = 2
