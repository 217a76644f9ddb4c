-- Days that document 01 has run and not proved, its slips, and a day for each reading that the demands alone would not tell apart.
-- Assumes nothing: this is a definition.
use Rattle.std.specs.Prelude.{ℕ, List, [], ◌∷◌, ◌++◌, replicate}
use Rattle.octets.specs.Parts.{joined}
use Rattle.kinds.specs.declared.RowState.TheVariants.{Active}
use Rattle.kinds.specs.Clock.{clock_of}
use Rattle.model.specs.Row.{row_of}
use Rattle.model.specs.Farm.{new_farm, with_row}
use Rattle.model.specs.Table.{Table, bytes_from, connect_to, tick, datagram_to, message_from}
use Rattle.days.specs.Day.{Day, plain}
use Rattle.days.specs.Rig.{one_farm, two_farms, request_for, alive, diagnostic, message, gives, sheets_from, taken, ticks, nothing, code_in}
use Rattle.days.specs.Histories.{one, one_active, a_active_b_asked, three_want_one, one_waits, all_asked, six_want_one}
use Rattle.days_further.specs.Entries.{closing, handing, answer, check, nack, ack, refusal, status, to_tester, sheet}

-- row 0 is active as 0E00 with this idle count (far beyond what a day computes from a fresh table)
abbrev pub idle_for : ℕ → Table
idle_for n = record { farm = with_row new_farm 0 (row_of (Active 0x0E00 (clock_of n))); rooms = [] } ∷ []

unfoldable pub further_days : List Day
further_days =
    -- "`03 FD` pattern: NACK 00, close." The whole sheet
    plain (gives (one_farm 1) one (bytes_from 0 (0x03 ∷ 0xFD ∷ 0x80 ∷ 0x01 ∷ 0 ∷ 0 ∷ 0 ∷ 5 ∷ []) ∷ [])) (sheet (nack 0 0x00 ∷ closing 0 ∷ []))
    -- "2,049 is NACK 02": the row stays, and its next bytes are skipped
    ∷ plain (gives (one_farm 1) one (bytes_from 0 (0x03 ∷ 0xFC ∷ 0x80 ∷ 0x01 ∷ 0 ∷ 0 ∷ 8 ∷ 1 ∷ []) ∷ bytes_from 0 (request_for 0x0E00) ∷ []))
    (sheet (nack 0 0x02 ∷ []) ++ nothing)
    -- "Length 4 on 8001: NACK 04."
    ∷ plain (gives (one_farm 1) one (bytes_from 0 (0x03 ∷ 0xFC ∷ 0x80 ∷ 0x01 ∷ 0 ∷ 0 ∷ 0 ∷ 4 ∷ []) ∷ [])) (sheet (nack 0 0x04 ∷ closing 0 ∷ []))
    -- "Type 0007 from a tester": with nothing to skip the next message is read
    ∷ plain (gives (one_farm 1) one (bytes_from 0 (message 0x0007 []) ∷ bytes_from 0 (request_for 0x0E00) ∷ []))
    (sheet (nack 0 0x01 ∷ []) ++ sheet (answer 0 0x0E00 0x10 ∷ []))
    -- "0E00 to 1010 accepted": the whole sheet, ack and hand-on
    ∷ plain (gives (one_farm 1) one_active (bytes_from 0 (diagnostic 0x0E00 0x1010 (0x3E ∷ [])) ∷ []))
    (sheet (ack 0 0x1010 0x0E00 ∷ handing 0 (0x0E ∷ 0x00 ∷ 0x10 ∷ 0x10 ∷ 0x3E ∷ []) ∷ []))
    -- "target not one of this farm's: 03": a controller of the other farm
    ∷ plain (gives two_farms one_active (bytes_from 0 (diagnostic 0x0E00 0x2010 (0x3E ∷ [])) ∷ [])) (sheet (refusal 0 0x2010 0x0E00 0x03 ∷ []))
    -- "row not active or source not its address: 8003 with 02, close (ours)"
    ∷ plain (gives (one_farm 1) one_active (bytes_from 0 (diagnostic 0x0E01 0x1010 (0x3E ∷ [])) ∷ []))
    (sheet (refusal 0 0x1010 0x0E01 0x02 ∷ closing 0 ∷ []))
    -- "4001: answer 4002 with 00, q, open rows of the farm, u32 2,048.", with row 255: of the farm's two rows one is active and one fresh
    ∷ plain (gives (one_farm 1) one_active (connect_to 0 ∷ datagram_to 0 (message 0x4001 []) ∷ [])) (nothing ++ sheet (status 1 2 ∷ []))
    -- "A controller message goes out as 8001: controller, tester, user data.", to the row that the tester is active on
    ∷ plain (gives (one_farm 2) one_waits (bytes_from 2 (request_for 0x0E01) ∷ message_from 0 0x1010 0x0E01 (0x7E ∷ []) ∷ []))
    (sheet (answer 2 0x0E01 0x10 ∷ []) ++ sheet (to_tester 2 0x1010 0x0E01 (0x7E ∷ []) ∷ []))
    -- "q=2, A active as 0E00, B and C both ask for 0E00, all stay silent: tick 50 A closes, B gets 10 and a check; tick 100 B closes, C
    -- gets 10."
    ∷ plain (gives (one_farm 2) three_want_one (ticks 100))
    (joined (replicate 49 nothing) ++ sheet (closing 0 ∷ answer 1 0x0E00 0x10 ∷ check 1 ∷ [])
    ++ joined (replicate 49 nothing) ++ sheet (closing 1 ∷ answer 2 0x0E00 0x10 ∷ []))
    -- "An empty bytes call on a fresh or active row takes 0 and gives only `00 00 00 04`."
    ∷ plain (taken (one_farm 1) one (bytes_from 0 []) ∷ gives (one_farm 1) one (bytes_from 0 [] ∷ [])) (0 ∷ nothing)
    ∷ plain (taken (one_farm 1) one_active (bytes_from 0 []) ∷ gives (one_farm 1) one_active (bytes_from 0 [] ∷ [])) (0 ∷ nothing)
    -- ---- "Slips that look reasonable"
    -- "Activating a taken address at once and closing the old row without its 50 ticks.": the old row is asked, and that is all
    ∷ plain (gives (one_farm 2) one_active (connect_to 0 ∷ bytes_from 1 (request_for 0x0E00) ∷ [])) (nothing ++ sheet (check 0 ∷ []))
    -- "Counting "all places in use" over all farms.": farm 0 has its one place in use, farm 1's tester is answered at once
    ∷ plain (gives two_farms one_active (connect_to 1 ∷ bytes_from 2 (request_for 0x0E01) ∷ []))
    (nothing ++ (0x00 ∷ 0x01 ∷ 0x00 ∷ 0x1B ∷ 0x00 ∷ 0x06 ∷ 0x02 ∷ 0x01 ∷ 0x00 ∷ 0x11
    ∷ 0x03 ∷ 0xFC ∷ 0x00 ∷ 0x06 ∷ 0x00 ∷ 0x00 ∷ 0x00 ∷ 0x09 ∷ 0x0E ∷ 0x01 ∷ 0x20 ∷ 0x00 ∷ 0x10 ∷ 0x00 ∷ 0x00 ∷ 0x00 ∷ 0x00 ∷ []))
    -- "Letting a waiting row age out at 200.": the fifth in a line of silent rows waits 250 ticks and gets 10
    ∷ plain (gives (one_farm 5) (six_want_one ++ ticks 249) (tick ∷ [])) (sheet (closing 4 ∷ answer 5 0x0E00 0x10 ∷ []))
    -- ---- what the demands alone would not tell apart (open points, last section)
    -- A31: a request that needs no check is answered at once, though others wait
    ∷ plain (gives (one_farm 2) one_waits (bytes_from 2 (request_for 0x0E01) ∷ [])) (sheet (answer 2 0x0E01 0x10 ∷ []))
    -- type and length both wrong: 01 ("Judging length before type" would say 02)
    ∷ plain (gives (one_farm 1) one (bytes_from 0 (0x03 ∷ 0xFC ∷ 0x00 ∷ 0x07 ∷ 0 ∷ 0 ∷ 8 ∷ 1 ∷ []) ∷ [])) (sheet (nack 0 0x01 ∷ []))
    -- at clock 50 a row that answered is not closed, only the silent one
    ∷ plain (gives (one_farm 2) (all_asked ++ (bytes_from 0 (alive 0x0E00) ∷ ticks 49)) (tick ∷ [])) (sheet (closing 1 ∷ answer 2 0x0E02 0x10 ∷ []))
    -- A19: the call stops after a wrong header that does not close: eight bytes taken of ten
    ∷ plain (taken (one_farm 1) one (bytes_from 0 (message 0x0007 (1 ∷ 2 ∷ []))) ∷ []) (8 ∷ [])
    -- A43: an empty bytes call leaves the idle count: the next tick closes the row
    ∷ plain (sheets_from (one_farm 1) (idle_for 29999) (bytes_from 0 [] ∷ tick ∷ [])) (nothing ++ sheet (closing 0 ∷ []))
    -- and one byte sets it to 0
    ∷ plain (sheets_from (one_farm 1) (idle_for 29999) (bytes_from 0 (0x03 ∷ []) ∷ tick ∷ [])) (nothing ++ nothing)
    -- A50: closings lowest first
    ∷ plain (gives (one_farm 2) (all_asked ++ ticks 49) (tick ∷ [])) (sheet (closing 0 ∷ closing 1 ∷ answer 2 0x0E02 0x10 ∷ []))
    ∷ []

-- ---- "one that decides on joining and only acts out the wait, because the code must follow later 0008s"

-- B's code when A answers, and when A is silent for 50 ticks: both after the same calls, the last of which was B's joining
unfoldable pub code_if_answered : ℕ
code_if_answered = code_in 0 (gives (one_farm 1) a_active_b_asked (bytes_from 0 (alive 0x0E00) ∷ []))

unfoldable pub code_if_silent : ℕ
code_if_silent = code_in 1 (gives (one_farm 1) (a_active_b_asked ++ ticks 49) (tick ∷ []))
