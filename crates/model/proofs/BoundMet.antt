-- The bound is met: a day on which the answers come with the accepted tick number checkLimit * k and not before, for k = 1 and k = 2.
-- "q=2, A active as 0E00, B and C both ask for 0E00, all stay silent: tick 50 A closes, B gets 10 and a check; tick 100 B closes, C gets 10."
-- Assumes nothing.
use Prim.Native.Nat.{ℕ, zero, suc, ◌-◌, ◌*◌}
use mathlib.Core.Path.{◌≡◌, refl}
use mathlib.Core.Bool.{Bool, true, false}
use mathlib.Core.List.{List, [], ◌∷◌, ◌++◌}
use lib.ListN.{replicate}
use Rattle.octets.specs.Fold.{up_to}
use Rattle.octets.specs.Search.{first_at, count_if, all, some, same_list}
use Rattle.octets.specs.Parts.{parts}
use Rattle.kinds.specs.declared.Item.{Item}
use Rattle.kinds.specs.declared.Reply.{Reply}
use Rattle.kinds.specs.declared.Reply.TheVariants.{Nack, Identity, Activation, AliveCheck, Status, PowerMode, Message, Ack, DiagnosticNack, Close, HandOn}
use Rattle.kinds.specs.declared.Request.{Request}
use Rattle.kinds.specs.declared.Check.TheVariants.{One}
use Rattle.types.specs.Types.{types, known_on, length_fits}
use Rattle.wire.specs.Header.{verdict_of, our_version}
use Rattle.sheet.specs.Find.{lookup}
use Rattle.sheet.specs.Rows.{owner_from}
use Rattle.sheet.specs.Test.{good_sheet, every_below}
use Rattle.model.specs.FarmSheet.{farm_sheet, no_farm, slot_sheet}
use Rattle.kinds.specs.Clock.{initial_limit, check_limit, general_limit, most_ticks, stepped}
use Rattle.model.specs.Row.{no_head}
use Rattle.model.specs.Stream.{feed, takes}
use Rattle.model.specs.Farm.{seat_count, new_farm, and_then, each_seat, closed, closed_if}
use Rattle.model.specs.Line.{accepted, socket_rules, decide, all_answered, asked_if, started, advanced, answered, head_verdict, settle_line, joined, left, is_asked, marked}
use Rattle.model.specs.Bytes.{requested, diagnosed, event_done, heard, bytes_done}
use Rattle.model.specs.Move.{no_row, connects, peer_gone, link_gone, ticked, move, tick_move}
use Rattle.model.specs.RuleTest.{every_seat, good_farm}
use Rattle.model.specs.Table.{Table, slot, good_table, Call, connect_to, bytes_from, tick, least_output, assembling_size, whose, step, table_of}
use Rattle.model.specs.History.{Made, fresh, step_of, run, keep}
use Rattle.model.specs.Words.{MustWait, ticks_in, cut_in, entries_in}

-- one farm with entity 1000 and quota 2, so it owns rows 0 to 2; its one tester is 0E00
rig : List ℕ
rig = 0 ∷ 1 ∷ 0 ∷ 1 ∷ 0 ∷ 0 ∷ 0 ∷ 12 ∷ 0 ∷ 45 ∷ 0 ∷ 49 ∷ 16 ∷ 0 ∷ 2 ∷ 0 ∷ (replicate 29 65 ++ (14 ∷ 0 ∷ 0 ∷ 0 ∷ []))

made : Call → Made
made c = record { lent = record { output = 4096; assembling = 32768 }; call = c }

-- 0005, 0E00, type 00
ask : List ℕ
ask = 3 ∷ 252 ∷ 0 ∷ 5 ∷ 0 ∷ 0 ∷ 0 ∷ 7 ∷ 14 ∷ 0 ∷ 0 ∷ 0 ∷ 0 ∷ 0 ∷ 0 ∷ []

request : Request
request = record { address = 0x0E00; kind = 0 }

rooms : List (List (List ℕ))
rooms = (replicate 7 0 ∷ replicate 7 0 ∷ replicate 7 0 ∷ []) ∷ []

-- A is row 0, B row 1, C row 2: all connect, A is active
past : List Made
past = made (connect_to 0) ∷ made (connect_to 0) ∷ made (connect_to 0) ∷ made (bytes_from 0 ask) ∷ []

at_b : Table
at_b = run rig (fresh rooms) past

at_c : Table
at_c = table_of at_b (step_of rig at_b (made (bytes_from 1 ask)))

waiting : Table
waiting = table_of at_c (step_of rig at_c (made (bytes_from 2 ask)))

silence : ℕ → List Made
silence zero = []
silence (suc n) = made tick ∷ silence n

is_answer : Reply → Bool
is_answer (Nack c) = false
is_answer Identity = false
is_answer (Activation a e c) = true
is_answer AliveCheck = false
is_answer (Status q o) = false
is_answer (PowerMode m) = false
is_answer (Message f t) = false
is_answer (Ack t s c) = false
is_answer (DiagnosticNack t s c) = false
is_answer Close = false
is_answer HandOn = false

-- the responses 0006 of n ticks
answers_of : ℕ → List Item
answers_of n = keep (λ i. is_answer i.reply) (entries_in rig waiting (silence n))

-- an entry on a row
entry : ℕ → Reply → Item
entry row reply = record { row = record { 0 = row }; version = our_version; reply = reply }

granted : ℕ → Item
granted row = entry row (Activation 0x0E00 0x1000 0x10)

-- all that the day is computed with
computed : ℕ
unfolding rig made ask request rooms past at_b at_c waiting silence is_answer answers_of entry granted up_to first_at count_if all some same_list parts types known_on length_fits verdict_of lookup owner_from good_sheet every_below farm_sheet no_farm slot_sheet initial_limit check_limit general_limit most_ticks stepped no_head feed takes seat_count new_farm and_then each_seat closed closed_if accepted socket_rules decide all_answered asked_if started advanced answered head_verdict settle_line joined left is_asked marked requested diagnosed event_done heard bytes_done no_row connects peer_gone link_gone ticked move tick_move every_seat good_farm good_table least_output assembling_size whose step run ticks_in cut_in entries_in
computed = 0

-- B joins at place 1, C at place 2
b_waits : MustWait rig at_b (made (bytes_from 1 ask)) 1 0 1 request
unfolding computed
b_waits = record { input = ask; size = 7; check = One 0; bytes_of = refl; done = refl; owner = refl; whole = refl; reads = refl; waits = refl }

c_waits : MustWait rig at_c (made (bytes_from 2 ask)) 2 0 2 request
unfolding computed
c_waits = record { input = ask; size = 7; check = One 0; bytes_of = refl; done = refl; owner = refl; whole = refl; reads = refl; waits = refl }

line : (slot waiting 0).farm.line ≡ 1 ∷ 2 ∷ []
unfolding computed
line = refl

-- all ticks are accepted
counted : ticks_in rig waiting (silence (check_limit * 2)) ≡ check_limit * 2
unfolding computed
counted = refl

-- nothing is said in the first ticks; the whole day
quiet : entries_in rig waiting (silence (check_limit * 1 - 1)) ≡ []
unfolding computed
quiet = refl

day : entries_in rig waiting (silence (check_limit * 2)) ≡ entry 0 Close ∷ granted 1 ∷ entry 1 AliveCheck ∷ entry 1 Close ∷ granted 2 ∷ []
unfolding computed
day = refl

-- B's answer comes with tick number checkLimit * 1 and not before
b_early : answers_of (check_limit * 1 - 1) ≡ []
unfolding computed
b_early = refl

b_then : answers_of (check_limit * 1) ≡ granted 1 ∷ []
unfolding computed
b_then = refl

-- C's with tick number checkLimit * 2 and not before
c_early : answers_of (check_limit * 2 - 1) ≡ granted 1 ∷ []
unfolding computed
c_early = refl

c_then : answers_of (check_limit * 2) ≡ granted 1 ∷ granted 2 ∷ []
unfolding computed
c_then = refl
