-- The definitions of the meters on small cases, computed.
-- Assumes nothing.
use Prim.Native.Nat.{ℕ}
use mathlib.Core.Path.{◌≡◌, refl}
use mathlib.Core.Bool.{false}
use mathlib.Core.List.{List, [], ◌∷◌, ◌++◌}
use Rattle.octets.specs.Search.{some}
use Rattle.kinds.specs.declared.Item.{Item}
use Rattle.kinds.specs.declared.Reply.{Reply}
use Rattle.kinds.specs.declared.Reply.TheVariants.{Activation, Close}
use Rattle.types.specs.Types.{types, known_on, length_fits}
use Rattle.wire.specs.Header.{our_version, verdict_of}
use Rattle.model.specs.FarmSheet.{FarmSheet, stranger}
use Rattle.model.specs.Table.{connect_to, bytes_from, peer_closed_on}
use Rattle.model.specs.Meter.{turned_away, gives, Note, finished_up_to, finished_in, filed_by, log_from, total, sum_to, taken_of, finished_of, lost_of}

header : ℕ → ℕ → ℕ → List ℕ
header high low size = 3 ∷ 252 ∷ high ∷ low ∷ 0 ∷ 0 ∷ 0 ∷ size ∷ []

-- a request of 7 bytes, and three bytes of the next header
ask : List ℕ
ask = header 0 5 7 ++ (14 ∷ 0 ∷ 0 ∷ 0 ∷ 0 ∷ 0 ∷ 0 ∷ [])

case_message : finished_in (ask ++ (3 ∷ 252 ∷ 0 ∷ [])) ≡ 15
unfolding ask header finished_up_to verdict_of known_on length_fits some types
case_message = refl

-- one byte short, it counts nothing
case_short : finished_in (header 0 5 7 ++ (14 ∷ 0 ∷ 0 ∷ 0 ∷ 0 ∷ 0 ∷ [])) ≡ 0
unfolding header finished_up_to verdict_of known_on length_fits some types
case_short = refl

-- an unknown type with no payload is over with its header; one with two bytes is skipped; a request follows
case_skipped : finished_in (header 0 7 0 ++ (header 0 7 2 ++ (1 ∷ 2 ∷ ask))) ≡ 33
unfolding ask header finished_up_to verdict_of known_on length_fits some types
case_skipped = refl

-- a wrong pattern closes: its eight bytes, and no more
case_closes : finished_in (ask ++ (3 ∷ 253 ∷ 0 ∷ 5 ∷ 0 ∷ 0 ∷ 0 ∷ 7 ∷ ask)) ≡ 23
unfolding ask header finished_up_to verdict_of known_on length_fits some types
case_closes = refl

-- ---- a day of a farm with the rows 2 and 3: a tester asks, sends three bytes more, and goes; the row is opened again and gives two

farm : FarmSheet
farm = record { entity = 0x1000; quota = 1; first = 2; rows = 2; tester = λ a. false; target = λ a. stranger; names = [] }

on : ℕ → Reply → Item
on row reply = record { row = record { 0 = row }; version = our_version; reply = reply }

day : List Note
day =
    record { call = connect_to 1; said = gives 2 0 [] }
    ∷ record { call = bytes_from 2 (ask ++ (3 ∷ 252 ∷ 0 ∷ [])); said = gives 255 15 (on 2 (Activation 0x0E00 0x1000 0x10) ∷ []) }
    ∷ record { call = bytes_from 2 (3 ∷ 252 ∷ 0 ∷ []); said = gives 255 3 [] }
    ∷ record { call = bytes_from 0 (3 ∷ 252 ∷ []); said = gives 255 2 [] }
    ∷ record { call = bytes_from 3 (3 ∷ 252 ∷ []); said = turned_away }
    ∷ record { call = peer_closed_on 2; said = gives 255 0 (on 2 Close ∷ []) }
    ∷ record { call = connect_to 1; said = gives 2 0 [] }
    ∷ record { call = bytes_from 2 (3 ∷ 252 ∷ []); said = gives 255 2 [] }
    ∷ []

day_taken : taken_of farm day ≡ 20
unfolding day farm on ask header taken_of
day_taken = refl

day_finished : finished_of farm day ≡ 15
unfolding day farm on ask header log_from filed_by sum_to total finished_up_to verdict_of known_on length_fits some types
day_finished = refl

day_lost : lost_of farm day ≡ 3
unfolding day farm on ask header log_from filed_by sum_to total finished_up_to verdict_of known_on length_fits some types
day_lost = refl
