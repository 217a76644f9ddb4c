-- The histories of the worked days: what has gone by before the call that a day is about.
-- Assumes nothing: these are definitions.
use Rattle.std.specs.Prelude.{List, [], ◌∷◌, ◌++◌}
use Rattle.model.specs.Table.{Call, connect_to, bytes_from}
use Rattle.days.specs.Rig.{request_for}

-- so many connections to farm 0: they have rows 0, 1, ..
abbrev pub one : List Call
one = connect_to 0 ∷ []

abbrev pub two : List Call
two = connect_to 0 ∷ connect_to 0 ∷ []

abbrev pub four : List Call
four = connect_to 0 ∷ connect_to 0 ∷ connect_to 0 ∷ connect_to 0 ∷ []

-- row 0 is active as 0E00
abbrev pub one_active : List Call
one_active = one ++ (bytes_from 0 (request_for 0x0E00) ∷ [])

-- A on row 0 is active as 0E00, B on row 1 has asked with another address, 0E01
abbrev pub a_active_b_asked : List Call
a_active_b_asked = two ++ (bytes_from 0 (request_for 0x0E00) ∷ bytes_from 1 (request_for 0x0E01) ∷ [])

abbrev pub three : List Call
three = connect_to 0 ∷ connect_to 0 ∷ connect_to 0 ∷ []

-- A on row 0 is active as 0E00, B on row 1 and C on row 2 have asked for the same address
abbrev pub three_want_one : List Call
three_want_one = three ++ (bytes_from 0 (request_for 0x0E00) ∷ bytes_from 1 (request_for 0x0E00) ∷ bytes_from 2 (request_for 0x0E00) ∷ [])

-- A on row 0 is active as 0E00, B on row 1 has asked for the same address; row 2 is fresh
abbrev pub one_waits : List Call
one_waits = three ++ (bytes_from 0 (request_for 0x0E00) ∷ bytes_from 1 (request_for 0x0E00) ∷ [])

-- rows 0 and 1 are active as 0E00 and 0E01, row 2 has asked as 0E02: with quota 2 a check of all
abbrev pub all_asked : List Call
all_asked = three ++ (bytes_from 0 (request_for 0x0E00) ∷ bytes_from 1 (request_for 0x0E01) ∷ bytes_from 2 (request_for 0x0E02) ∷ [])

-- six rows that all ask for 0E00, the first of them active, five in the line
abbrev pub six_want_one : List Call
six_want_one =
    three ++ three
    ++ (bytes_from 0 (request_for 0x0E00) ∷ bytes_from 1 (request_for 0x0E00) ∷ bytes_from 2 (request_for 0x0E00)
    ∷ bytes_from 3 (request_for 0x0E00) ∷ bytes_from 4 (request_for 0x0E00) ∷ bytes_from 5 (request_for 0x0E00) ∷ [])
