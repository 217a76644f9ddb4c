-- THE PROMISES. What the asker demands, of the rules, as theorems over histories: calls from a fresh table, under one farm sheet, with no second
-- start. Each statement stands here whole, under the sentence that it is; the proofs are in the files named.
-- Assumes nothing.
use Rattle.std.proofs.Common.{Some}
use Prim.Native.Nat.{ℕ, ◌+◌, ◌*◌, ◌≤◌, ◌<◌}
use mathlib.Core.Path.{◌≡◌}
use mathlib.Core.Bool.{true, false}
use mathlib.Core.List.{List, [], ◌∷◌, ◌++◌, map}
use lib.ListN.{length, get_or}
use Rattle.kinds.specs.declared.Request.{Request}
use Rattle.kinds.specs.declared.Reply.TheVariants.{Activation}
use Rattle.sheet.specs.Sheet.{farm_count, farm_no}
use Rattle.sheet.specs.Rules.{GoodSheet}
use Rattle.sheet.specs.Rows.{owner_of}
use Rattle.wire.specs.Header.{most_payload}
use Rattle.model.specs.FarmSheet.{FarmSheet, slot_sheet}
use Rattle.kinds.specs.Clock.{check_limit}
use Rattle.model.specs.Row.{row_at, active_as}
use Rattle.model.specs.Farm.{Farm, quietly, says}
use Rattle.model.specs.Line.{settle}
use Rattle.model.specs.Move.{Own, Held, move, tick_move}
use Rattle.model.specs.Table.{Table, slot, good_table, Call, bytes_from, Lent, Did, did, items_by, step, start_step, number_of, items_of, table_of}
use Rattle.model.specs.History.{Made, fresh, step_of, run, calls_of, has_of}
use Rattle.model.specs.Words.{MustWait, ReadableWaits, ReadableNow, Begins, Answered, Decided, cut_in, ticks_in, entries_in}
use Rattle.model.specs.HandsOn.{HandedOn, hand_ons}
use Rattle.model.specs.Meter.{notes_of, MetersAre, Balanced}
use Rattle.model.specs.Rule.{Good}
use native.Mathlib.Omega.{arith}
use Rattle.model.proofs.RuleParts.{Calm}
use Rattle.model.proofs.RuleKept.{slot-good, run-good, fresh-good, start_fresh}
use Rattle.model.proofs.MeterHistory as meters
use Rattle.model.proofs.Settling as settling
use Rattle.model.proofs.TableTest as tested
use Rattle.model.proofs.Refusals as refusals
use Rattle.model.proofs.Address as address
use Rattle.model.proofs.HandOnHistory as handed
use Rattle.model.proofs.HandOnTable.{takes_bytes, other_calls_hand_nothing_on}
use Rattle.model.proofs.Bound as bound
use Rattle.model.proofs.Readable as readable
use Rattle.model.proofs.AtOnce as at_once
use Rattle.model.proofs.CodeHistory.{answered-decided}
use Rattle.model.proofs.CodeMoment.{Each, Told}
use Rattle.model.proofs.CodeTold as told
use Rattle.model.proofs.Neighbour as neighbours

-- ---- DEMAND 1, of the rules: "A call it can't serve is refused by a number from our list, exactly when the list says"

-- for each number of the list, when it is given, as one record (proofs/Refusals)
pub refused_exactly : (s : List ℕ) (l : Lent) (t : Table) (c : Call) → refusals.Refusals s l t c
refused_exactly = refusals.each_number

-- the same of a start: "1 to 4 hold for every call, but start skips 4"
pub start_refused_exactly : (s : List ℕ) (l : Lent) (t : Table) → refusals.StartRefusals s l t
start_refused_exactly = refusals.start_numbers

-- "and a refused call changes nothing in any memory lent to it": it has row 255, takes nothing, says nothing and leaves the table
pub refused_changes_nothing : (s : List ℕ) (l : Lent) (t : Table) (c : Call) → (number_of (step s l t c) ≡ 0 → ⊥) → refusals.Unchanged t (step s l t c)
refused_changes_nothing s l t c = refusals.refused_unchanged t (step s l t c)

-- ---- "From a fresh table": that is what an accepted start leaves, over the rooms that were lent, whatever the table was

pub start_is_fresh : (s : List ℕ) (l : Lent) (t : Table) (d : Did) → start_step s l t ≡ did d → d.table ≡ fresh (map (λ (h : Held). h.rooms) t)
start_is_fresh = start_fresh

-- ---- Rule 4 is kept: every call on a table that keeps it leaves one that keeps it, and so refusal 4 never meets a history

pub rule_4_kept : (s : List ℕ) (l : Lent) (t : Table) (c : Call) → good_table s t ≡ true → good_table s (table_of t (step s l t c)) ≡ true
rule_4_kept = tested.step_test

pub rule_4_in_histories : (s : List ℕ) (rooms : List (List (List ℕ))) (ms : List Made) → good_table s (run s (fresh rooms) ms) ≡ true
rule_4_in_histories = tested.history_test

-- ---- DEMAND 2: "A tester's address is never active on two connections."

pub never_active_twice : (s : List ℕ) (rooms : List (List (List ℕ))) (ms : List Made) (f g i j a : ℕ)
    → active_as a (row_at (slot (run s (fresh rooms) ms) f).farm.rows i) ≡ true
    → active_as a (row_at (slot (run s (fresh rooms) ms) g).farm.rows j) ≡ true → (f ≡ g) × (i ≡ j)
never_active_twice = address.history_once

-- ---- DEMAND 2: "A whole diagnostic message that the header rules pass reaches a controller exactly when its sender is active on that
-- connection and the controller is known, reachable and of that farm." (`HandedOn` says both ways, and that what is handed on is the payload)

pub handed_on_exactly : (s : List ℕ) (rooms : List (List (List ℕ))) (ms : List Made) (l : Lent) (r f seat : ℕ) (input : List ℕ) (d : Did)
    → most_payload ≤ length (get_or (get_or rooms f []) seat []) → owner_of s r ≡ Some (farm_no f, seat)
    → step s l (run s (fresh rooms) ms) (bytes_from r input) ≡ did d
    → HandedOn (slot_sheet s f) (slot (run s (fresh rooms) ms) f) seat input d.items d.long
handed_on_exactly = handed.history_hands_on

-- and no call but bytes hands anything on
pub nothing_else_hands_on : (s : List ℕ) (l : Lent) (t : Table) (c : Call) → takes_bytes c ≡ false → hand_ons (items_of (step s l t c)) ≡ 0
nothing_else_hands_on = other_calls_hand_nothing_on

-- ---- DEMAND 2, of activation codes: a readable request that needs no check is answered by the call that finishes it, with the code that the
-- rules give; its entries begin with that 0006. (One that needs a check is demand 3's.)

pub answered_at_once : (s : List ℕ) (rooms : List (List (List ℕ))) (ms : List Made) (l : Lent) (r f seat : ℕ) (input : List ℕ) (q : Request) (code : ℕ)
    (d : Did) → most_payload ≤ length (get_or (get_or rooms f []) seat []) → owner_of s r ≡ Some (farm_no f, seat)
    → step s l (run s (fresh rooms) ms) (bytes_from r input) ≡ did d → ReadableNow (slot_sheet s f) (slot (run s (fresh rooms) ms) f) seat input q code
    → Begins (says (slot_sheet s f) seat (Activation q.address (slot_sheet s f).entity code)) d.items
answered_at_once = at_once.history_at_once

-- ---- DEMAND 3: "a readable activation request that must wait for an alive check, and joins its farm's line at place k, has its final answer
-- by the accepted clock tick number 50 times k after it joined, unless its own connection or its farm's link is lost first. Nobody's traffic
-- can delay it further."

-- The request is told by its bytes: a whole 0005 that the header rules pass, in the row's 2,048 bytes of room. `Decided`: some call among
-- those that follow sends it a 0006 for its address, with the code that the rules give in that call.
pub readable_answered_in_time : (s : List ℕ) (rooms : List (List (List ℕ))) (past : List Made) (m : Made) (row g seat k : ℕ) (q : Request)
    → most_payload ≤ length (get_or (get_or rooms g []) seat [])
    → ReadableWaits s (run s (fresh rooms) past) m row g seat q → k ≡ length (slot (run s (fresh rooms) past) g).farm.line + 1
    → let joined = table_of (run s (fresh rooms) past) (step_of s (run s (fresh rooms) past) m) in
    (ms : List Made) → cut_in row g s joined ms ≡ false → check_limit * k ≤ ticks_in s joined ms → Decided s row q.address joined ms
readable_answered_in_time s rooms past m row g seat k q room w e ms c h =
    answered-decided s row q.address _ ms (readable.readable-is-answered s rooms past m row g seat k q room w e ms c h)

-- of a request that the call reads, whatever room it has: a 0006 is among the entries
pub answered_in_time : (s : List ℕ) (rooms : List (List (List ℕ))) (past : List Made) (m : Made) (row g seat k : ℕ) (q : Request)
    → MustWait s (run s (fresh rooms) past) m row g seat q → k ≡ length (slot (run s (fresh rooms) past) g).farm.line + 1
    → let joined = table_of (run s (fresh rooms) past) (step_of s (run s (fresh rooms) past) m) in
    (ms : List Made) → cut_in row g s joined ms ≡ false → check_limit * k ≤ ticks_in s joined ms → Answered row q.address (entries_in s joined ms)
answered_in_time = bound.must_be_answered

-- "joins its farm's line at place k": after its call the row stands at the end of the line as it was, and has no answer yet
pub joins_at_the_end : (s : List ℕ) (t : Table) (m : Made) (row g seat : ℕ) (q : Request) → MustWait s t m row g seat q
    → (slot (table_of t (step_of s t m)) g).farm.line ≡ (slot t g).farm.line ++ seat ∷ []
joins_at_the_end = bound.joins_at

-- "The answer is the one the rules give at the moment of deciding.": every 0006 of a call of a farm, and of a tick, has its reason
pub code_by_the_rules : (own : FarmSheet) (h : Held) (c : Own) → Each (told.Reasons own h c) (items_by (move own h c))
code_by_the_rules = told.move_why

pub code_by_the_rules_in_a_tick : (own : FarmSheet) (h : Held)
    → Each (Told own (told.at_tick own h).line (told.at_tick own h)) (items_by (tick_move own h))
code_by_the_rules_in_a_tick = told.tick_why

-- ---- DEMAND 3: "And two such histories under the same sheet that agree on one farm's calls and on the accepted ticks, in their order, give
-- that farm the same answers, replies and meters, whatever the other farms do." (and whatever stood in the assembling buffers before)

pub same_for_the_farm : (s : List ℕ) → GoodSheet s → (g : ℕ) → g < farm_count s
    → (a b : List (List (List ℕ))) → g < length a → g < length b → neighbours.SameShape (get_or a g []) (get_or b g [])
    → (ms ns : List Made) → calls_of s g (fresh a) ms ≡ calls_of s g (fresh b) ns → has_of s g (fresh a) ms ≡ has_of s g (fresh b) ns
same_for_the_farm = neighbours.neighbour_any

-- ---- Settling: it ends with an empty line or a head whose check is needed and undecided; a settled farm stays as it is

pub settled_stays : {own : FarmSheet} {f : Farm} → Calm own f → settle own f ≡ quietly f
settled_stays = settling.settle_again

-- ---- Meters: "Each is defined from the history of calls by itself. Proved: taken equals finished plus lost plus the bytes in hand on open
-- rows, modulo 2^32."

-- every farm keeps rule 4 all along a history
kept : (s : List ℕ) (rooms : List (List (List ℕ))) (ms : List Made) (g : ℕ) → g < farm_count s
    → Good (slot_sheet s g) (slot (run s (fresh rooms) ms) g).farm
kept s rooms ms g h = slot-good s 0 g (run s (fresh rooms) ms) g (omega arith) (run-good s (fresh rooms) ms (fresh-good s 0 rooms))

pub meters_from_the_history : (s : List ℕ) (rooms : List (List (List ℕ))) (ms : List Made) (g : ℕ) → g < farm_count s
    → MetersAre (slot_sheet s g) (notes_of s (fresh rooms) ms) (slot (run s (fresh rooms) ms) g).farm.meters
meters_from_the_history s rooms = meters.meters_are s rooms (kept s rooms)

pub meters_balance : (s : List ℕ) (rooms : List (List (List ℕ))) (ms : List Made) (g : ℕ) → g < farm_count s
    → Balanced (slot (run s (fresh rooms) ms) g).farm
meters_balance s rooms = meters.balanced s rooms (kept s rooms)
