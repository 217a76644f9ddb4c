-- "P marks those proved, gathered in a single table under one claim": the table, a line for each day, under the document's words.
-- Assumes nothing: this is a definition.
use Rattle.std.specs.Prelude.{List, [], ◌∷◌, ◌++◌, replicate}
use Rattle.octets.specs.Parts.{joined}
use Rattle.model.specs.Table.{bytes_from, tick}
use Rattle.days.specs.Day.{Day, plain}
use Rattle.days.specs.Headers.{passes, nack_and_close, nack_and_skip, judged, judged_of}
use Rattle.days.specs.Rig.{one_farm, two_farms, request_for, alive, diagnostic, gives, ticks, nothing, entry_in}
use Rattle.days.specs.Histories.{one, four, one_active, a_active_b_asked}

unfoldable pub days : List Day
days =
    -- "Row 3, entity 1000, tester 0E00 activates. Whole sheet: .."
    plain (gives (one_farm 3) four (bytes_from 3 (request_for 0x0E00) ∷ []))
    (0x00 ∷ 0x01 ∷ 0x00 ∷ 0x1B ∷ 0x00 ∷ 0x06 ∷ 0x03 ∷ 0x01 ∷ 0x00 ∷ 0x11
    ∷ 0x03 ∷ 0xFC ∷ 0x00 ∷ 0x06 ∷ 0x00 ∷ 0x00 ∷ 0x00 ∷ 0x09 ∷ 0x0E ∷ 0x00 ∷ 0x10 ∷ 0x00 ∷ 0x10 ∷ 0x00 ∷ 0x00 ∷ 0x00 ∷ 0x00 ∷ [])
    -- "0E00 to 1010 accepted: ack `03 FC 80 02 00 00 00 05 10 10 0E 00 00`."
    ∷ plain (entry_in 0 (gives (one_farm 1) one_active (bytes_from 0 (diagnostic 0x0E00 0x1010 (0x3E ∷ [])) ∷ [])))
    (0x03 ∷ 0xFC ∷ 0x80 ∷ 0x02 ∷ 0x00 ∷ 0x00 ∷ 0x00 ∷ 0x05 ∷ 0x10 ∷ 0x10 ∷ 0x0E ∷ 0x00 ∷ 0x00 ∷ [])
    -- "`03 FD` pattern: NACK 00, close."
    ∷ plain (judged (0x03 ∷ 0xFD ∷ 0x80 ∷ 0x01 ∷ 0 ∷ 0 ∷ 0 ∷ 5 ∷ [])) (nack_and_close 0)
    -- "Length 2,048 passes" (on 8001: DECISIONS, D9)
    ∷ plain (judged (0x03 ∷ 0xFC ∷ 0x80 ∷ 0x01 ∷ 0 ∷ 0 ∷ 8 ∷ 0 ∷ [])) passes
    -- "2,049 is NACK 02" (and skips)
    ∷ plain (judged (0x03 ∷ 0xFC ∷ 0x80 ∷ 0x01 ∷ 0 ∷ 0 ∷ 8 ∷ 1 ∷ [])) (nack_and_skip 2)
    -- "Length 4 on 8001: NACK 04." (and closes)
    ∷ plain (judged (0x03 ∷ 0xFC ∷ 0x80 ∷ 0x01 ∷ 0 ∷ 0 ∷ 0 ∷ 4 ∷ [])) (nack_and_close 4)
    -- "Type 0007 from a tester, any length: NACK 01." (and skips)
    ∷ record { shown = λ n. judged_of 0x0007 n; said = λ n. nack_and_skip 1 }
    -- "q=1, A active, B asks with another address: A answers, B gets 01" (and is closed)
    ∷ plain (gives (one_farm 1) a_active_b_asked (bytes_from 0 (alive 0x0E00) ∷ []))
    (0x00 ∷ 0x02 ∷ 0x00 ∷ 0x21 ∷ 0x00 ∷ 0x08 ∷ 0x00 ∷ 0x1D ∷ 0x01 ∷ 0x01 ∷ 0x00 ∷ 0x11
    ∷ 0x03 ∷ 0xFC ∷ 0x00 ∷ 0x06 ∷ 0x00 ∷ 0x00 ∷ 0x00 ∷ 0x09 ∷ 0x0E ∷ 0x01 ∷ 0x10 ∷ 0x00 ∷ 0x01 ∷ 0x00 ∷ 0x00 ∷ 0x00 ∷ 0x00
    ∷ 0x01 ∷ 0x02 ∷ 0x00 ∷ 0x00 ∷ [])
    -- "A silent: nothing at tick 49, at 50 A closes and B gets 10." (and nothing at the ticks before)
    ∷ plain (gives (one_farm 1) a_active_b_asked (ticks 50))
    (joined (replicate 49 nothing)
    ++ (0x00 ∷ 0x02 ∷ 0x00 ∷ 0x21 ∷ 0x00 ∷ 0x08 ∷ 0x00 ∷ 0x0C ∷ 0x00 ∷ 0x02 ∷ 0x00 ∷ 0x00 ∷ 0x01 ∷ 0x01 ∷ 0x00 ∷ 0x11
    ∷ 0x03 ∷ 0xFC ∷ 0x00 ∷ 0x06 ∷ 0x00 ∷ 0x00 ∷ 0x00 ∷ 0x09 ∷ 0x0E ∷ 0x01 ∷ 0x10 ∷ 0x00 ∷ 0x10 ∷ 0x00 ∷ 0x00 ∷ 0x00 ∷ 0x00 ∷ []))
    -- "Fresh row: open after 199 ticks, closed by the 200th." (open: an empty bytes call on it is done)
    ∷ plain (gives (one_farm 1) one (ticks 199 ++ (bytes_from 0 [] ∷ tick ∷ [])))
    (joined (replicate 200 nothing) ++ (0x00 ∷ 0x01 ∷ 0x00 ∷ 0x0A ∷ 0x00 ∷ 0x06 ∷ 0x00 ∷ 0x02 ∷ 0x00 ∷ 0x00 ∷ []))
    -- "Wrong-farm tester: 00." (and the row is closed)
    ∷ plain (gives two_farms one (bytes_from 0 (request_for 0x0E01) ∷ []))
    (0x00 ∷ 0x02 ∷ 0x00 ∷ 0x21 ∷ 0x00 ∷ 0x08 ∷ 0x00 ∷ 0x1D ∷ 0x00 ∷ 0x01 ∷ 0x00 ∷ 0x11
    ∷ 0x03 ∷ 0xFC ∷ 0x00 ∷ 0x06 ∷ 0x00 ∷ 0x00 ∷ 0x00 ∷ 0x09 ∷ 0x0E ∷ 0x01 ∷ 0x10 ∷ 0x00 ∷ 0x00 ∷ 0x00 ∷ 0x00 ∷ 0x00 ∷ 0x00
    ∷ 0x00 ∷ 0x02 ∷ 0x00 ∷ 0x00 ∷ [])
    ∷ []
