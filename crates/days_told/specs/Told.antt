-- Days that tell a rule from a wrong one where no other day does.
-- Assumes nothing: these are definitions.
use Rattle.std.specs.Prelude.{ℕ, List, [], ◌∷◌, ◌++◌, replicate, take, drop}
use Rattle.octets.specs.Numbers.{be16}
use Rattle.octets.specs.Parts.{joined}
use Rattle.kinds.specs.declared.Meters.{Meters}
use Rattle.outsheet.specs.Sheet.{Entry, entry}
use Rattle.model.specs.Table.{slot, Call, Outcome, number_of, row_of, took_of, connect_to, bytes_from, peer_closed_on, link_lost_of, tick, datagram_to, message_from}
use Rattle.model.specs.History.{step_of}
use Rattle.days.specs.Day.{Day, plain}
use Rattle.days.specs.Rig.{farm_sheet_of, tester_of, target_of, one_farm, two_farms, request_for, alive, diagnostic, message, made, table_after, gives, ticks, nothing}
use Rattle.days.specs.Histories.{one, two, one_active, a_active_b_asked, three_want_one, one_waits}
use Rattle.days_further.specs.Entries.{closing, handing, answer, check, nack, ack, refusal, to_tester, sheet}

-- ---- what a call answers, and a farm's meters

abbrev pub told_by : Outcome → List ℕ
told_by o = number_of o ∷ row_of o ∷ took_of o ∷ []

-- the answer of a call after others: its number, its row, the bytes taken
unfoldable pub answer_of : List ℕ → List Call → Call → List ℕ
answer_of s before c = told_by (step_of s (table_after s before) (made c))

abbrev pub meters_by : Meters → List ℕ
meters_by m = m.taken ∷ m.finished ∷ m.lost ∷ []

-- taken, finished and lost of a farm after these calls
unfoldable pub meters_after : List ℕ → ℕ → List Call → List ℕ
meters_after s f calls = meters_by (slot (table_after s calls) f).farm.meters

-- ---- a rig whose VIN, EID and GID can be told apart, of quota 2 and mode 2, with a controller 1011 that is not reachable

abbrev pub named_farm : List ℕ
named_farm = be16 0x1000 ++ (2 ∷ 2 ∷ replicate 17 0x56 ++ replicate 6 0x45 ++ replicate 6 0x47)

abbrev pub named_rig : List ℕ
named_rig =
    farm_sheet_of (named_farm ∷ []) (tester_of 0 0x0E00 ∷ tester_of 0 0x0E01 ∷ []) (target_of 0 0x1010 ∷ (be16 0x1011 ++ (0 ∷ 0 ∷ [])) ∷ [])

-- its 0004, with row 255: VIN, entity address, EID, GID, 00
abbrev pub identity : Entry
identity =
    entry 255 1
    ((0x03 ∷ 0xFC ∷ 0x00 ∷ 0x04 ∷ 0x00 ∷ 0x00 ∷ 0x00 ∷ 0x20 ∷ replicate 17 0x56)
    ++ (0x10 ∷ 0x00 ∷ replicate 6 0x45 ++ replicate 6 0x47 ++ (0x00 ∷ [])))

-- a datagram with the pattern FF 00 and no payload
abbrev pub any_version : ℕ → List ℕ
any_version kind = 0xFF ∷ 0x00 ∷ be16 kind ++ (0 ∷ 0 ∷ 0 ∷ 0 ∷ [])

-- a diagnostic message of two bytes of user data
abbrev pub two_bytes : List ℕ
two_bytes = diagnostic 0x0E00 0x1010 (0x22 ∷ 0xF1 ∷ [])

-- ---- what a call answers, and what a request or a diagnostic message gets

unfoldable pub answer_days : List Day
answer_days =
    -- "Answer 0 is done; its row is the opened one for connect, else 255."; "and says how many it took"
    plain
    (joined
    (answer_of two_farms one (connect_to 1) ∷ answer_of (one_farm 1) one (bytes_from 0 (request_for 0x0E00)) ∷ answer_of (one_farm 1) one tick ∷ []))
    (0 ∷ 2 ∷ 0 ∷ 0 ∷ 255 ∷ 15 ∷ 0 ∷ 255 ∷ 0 ∷ [])
    -- refusals 5 to 8: "A refusal returns its number, output length 0, bytes taken 0, row 255."
    ∷ plain
    (joined
    (answer_of (one_farm 1) [] (connect_to 1) ∷ answer_of (one_farm 1) [] (bytes_from 0 []) ∷ answer_of (one_farm 1) [] (peer_closed_on 9)
    ∷ answer_of (one_farm 2) one_waits (bytes_from 1 []) ∷ answer_of (one_farm 1) two (connect_to 0) ∷ []))
    (5 ∷ 255 ∷ 0 ∷ 6 ∷ 255 ∷ 0 ∷ 6 ∷ 255 ∷ 0 ∷ 7 ∷ 255 ∷ 0 ∷ 8 ∷ 255 ∷ 0 ∷ [])
    -- refusals 9 and 10: no user data; 2,045 bytes of it; a controller that is no target; a tester that is not active
    ∷ plain
    (joined
    (answer_of named_rig one_active (message_from 0 0x1010 0x0E00 []) ∷ answer_of named_rig one_active (message_from 0 0x1010 0x0E00 (replicate 2045 0))
    ∷ answer_of named_rig one_active (message_from 0 0x2010 0x0E00 (0 ∷ [])) ∷ answer_of named_rig one_active (message_from 0 0x1010 0x0E01 (0 ∷ [])) ∷ []))
    (9 ∷ 255 ∷ 0 ∷ 9 ∷ 255 ∷ 0 ∷ 10 ∷ 255 ∷ 0 ∷ 10 ∷ 255 ∷ 0 ∷ [])
    -- A66: a controller that is not reachable can send
    ∷ plain (gives named_rig one_active (message_from 0 0x1011 0x0E00 (0x7E ∷ []) ∷ [])) (sheet (to_tester 0 0x1011 0x0E00 (0x7E ∷ []) ∷ []))
    -- "not reachable: 06"
    ∷ plain (gives named_rig one_active (bytes_from 0 (diagnostic 0x0E00 0x1011 (0x3E ∷ [])) ∷ [])) (sheet (refusal 0 0x1011 0x0E00 0x06 ∷ []))
    -- "stored at its place": a message in two pieces is handed on whole
    ∷ plain (gives (one_farm 1) one_active (bytes_from 0 (take 11 two_bytes) ∷ bytes_from 0 (drop 11 two_bytes) ∷ []))
    (nothing ++ sheet (ack 0 0x1010 0x0E00 ∷ handing 0 (0x0E ∷ 0x00 ∷ 0x10 ∷ 0x10 ∷ 0x22 ∷ 0xF1 ∷ []) ∷ []))
    -- "Decided in this order: 00 .. 06: type other than 00 or 01."; "10 if the same address, else 02"
    ∷ plain (gives (one_farm 1) one (bytes_from 0 (message 0x0005 (0x0F ∷ 0x00 ∷ 2 ∷ replicate 4 0)) ∷ [])) (sheet (answer 0 0x0F00 0x00 ∷ closing 0 ∷ []))
    ∷ plain (gives (one_farm 1) one (bytes_from 0 (message 0x0005 (0x0E ∷ 0x00 ∷ 2 ∷ replicate 4 0)) ∷ [])) (sheet (answer 0 0x0E00 0x06 ∷ closing 0 ∷ []))
    ∷ plain (gives (one_farm 2) one_active (bytes_from 0 (request_for 0x0E00) ∷ bytes_from 0 (request_for 0x0E01) ∷ []))
    (sheet (answer 0 0x0E00 0x10 ∷ []) ++ sheet (answer 0 0x0E01 0x02 ∷ closing 0 ∷ []))
    ∷ []

-- ---- the line and its checks, closings, clocks, meters

unfoldable pub line_days : List Day
line_days =
    -- "0008 with the row's own address from an asked row marks it; any other 0008 is dropped.": another address; then a row that is not asked,
    -- after which the next call is done (a mark on it would break rule 4)
    plain (gives (one_farm 1) a_active_b_asked (bytes_from 0 (alive 0x0E01) ∷ [])) nothing
    ∷ plain (gives (one_farm 2) (one_waits ++ (bytes_from 2 (request_for 0x0E01) ∷ [])) (bytes_from 2 (alive 0x0E01) ∷ tick ∷ [])) (nothing ++ nothing)
    -- "Starting one .. clears the marks": A answers B's check, B gets 03, and C's check asks A anew
    ∷ plain (gives (one_farm 2) three_want_one (bytes_from 0 (alive 0x0E00) ∷ [])) (sheet (answer 1 0x0E00 0x03 ∷ closing 1 ∷ check 0 ∷ []))
    -- "only the head's check runs": C joins at tick 30, and B is answered at tick 50 all the same
    ∷ plain (gives (one_farm 2) (one_waits ++ ticks 30 ++ (bytes_from 2 (request_for 0x0E00) ∷ ticks 19)) (tick ∷ []))
    (sheet (closing 0 ∷ answer 1 0x0E00 0x10 ∷ check 1 ∷ []))
    -- "A waiter whose row closes leaves the line; if it was the head, the next is head."; the asked row closes: the head has its answer
    ∷ plain (gives (one_farm 2) three_want_one (peer_closed_on 1 ∷ [])) (sheet (closing 1 ∷ check 0 ∷ []))
    ∷ plain (gives (one_farm 2) one_waits (peer_closed_on 0 ∷ [])) (sheet (closing 0 ∷ answer 1 0x0E00 0x10 ∷ []))
    -- "Link lost: one close per open row, lowest first."; then "An empty line has clock 0 and no marks.": the next call is done
    ∷ plain (gives (one_farm 2) one_waits (link_lost_of 0 ∷ tick ∷ [])) (sheet (closing 0 ∷ closing 1 ∷ closing 2 ∷ []) ++ nothing)
    -- "A tick serves the farms in order": both farms' fresh rows at tick 200, each under its own number
    ∷ plain (gives two_farms (connect_to 1 ∷ connect_to 0 ∷ ticks 199) (tick ∷ [])) (sheet (closing 0 ∷ closing 2 ∷ []))
    -- "row not active": an 8001 on a fresh row; "8002 and 8003 are read and dropped"
    ∷ plain (gives (one_farm 1) one (bytes_from 0 (diagnostic 0x0E00 0x1010 (0x3E ∷ [])) ∷ [])) (sheet (refusal 0 0x1010 0x0E00 0x02 ∷ closing 0 ∷ []))
    ∷ plain (gives (one_farm 1) one_active (bytes_from 0 (message 0x8002 (0x0E ∷ 0x00 ∷ 0x10 ∷ 0x10 ∷ 0x00 ∷ [])) ∷ [])) nothing
    -- meters: a header that closes is finished; bytes of an unfinished message are lost when the row closes
    ∷ plain (meters_after (one_farm 1) 0 (one ++ (bytes_from 0 (0x03 ∷ 0xFD ∷ 0x80 ∷ 0x01 ∷ 0 ∷ 0 ∷ 0 ∷ 5 ∷ []) ∷ []))) (8 ∷ 8 ∷ 0 ∷ [])
    ∷ plain (meters_after (one_farm 1) 0 (one_active ++ (bytes_from 0 (take 11 two_bytes) ∷ peer_closed_on 0 ∷ []))) (26 ∷ 15 ∷ 11 ∷ [])
    ∷ []

-- ---- datagrams

unfoldable pub datagram_days : List Day
datagram_days =
    -- datagrams: "FF 00 is also right for 0001 to 0003", and for no other
    plain (gives named_rig [] (datagram_to 0 (any_version 0x0001) ∷ datagram_to 0 (any_version 0x4003) ∷ [])) (sheet (identity ∷ []) ++ sheet (nack 255 0x00 ∷ []))
    -- "0002 if the EID and 0003 if the VIN matches"
    ∷ plain
    (gives named_rig []
    (datagram_to 0 (message 0x0002 (replicate 6 0x45)) ∷ datagram_to 0 (message 0x0002 (replicate 6 0x47)) ∷ datagram_to 0 (message 0x0003 (replicate 17 0x56)) ∷ []))
    (sheet (identity ∷ []) ++ nothing ++ sheet (identity ∷ []))
    -- "4003: 4004 with the mode."
    ∷ plain (gives named_rig [] (datagram_to 0 (message 0x4003 []) ∷ []))
    (sheet (entry 255 1 (0x03 ∷ 0xFC ∷ 0x40 ∷ 0x04 ∷ 0x00 ∷ 0x00 ∷ 0x00 ∷ 0x01 ∷ 0x02 ∷ []) ∷ []))
    -- "under 8 bytes, or of type 0000, never answered" (A56: whatever its pattern). "Else pattern .., type, then length": an unknown type, a wrong length
    ∷ plain
    (gives named_rig []
    (datagram_to 0 (0x03 ∷ []) ∷ datagram_to 0 (0x02 ∷ 0xFD ∷ replicate 6 0) ∷ datagram_to 0 (message 0x0005 []) ∷ datagram_to 0 (message 0x4001 (0 ∷ [])) ∷ []))
    (nothing ++ nothing ++ sheet (nack 255 0x01 ∷ []) ++ sheet (nack 255 0x04 ∷ []))
    ∷ []
