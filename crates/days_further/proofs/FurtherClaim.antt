-- The claim over the further days. By computation.
-- Assumes nothing.
use Prim.Native.Nat.{ℕ}
use mathlib.Core.Path.{◌≡◌, refl}
use mathlib.Core.List.{List}
use native.Mathlib.Omega.{arith}
use Prim.{tt}
use Rattle.octets.specs.Fold.{up_to}
use Rattle.octets.specs.Parts.{parts, joined}
use Rattle.octets.specs.Search.{some, all, first_at, count_if, same_list}
use Rattle.types.specs.Types.{types, known_on, length_fits}
use Rattle.wire.specs.Header.{verdict_of}
use Rattle.layout.specs.Layout.{message_bytes}
use Rattle.datagram.specs.Datagram.{head_verdict as datagramHead, datagram_verdict, answer_by, answer_to}
use Rattle.outsheet.specs.Sheet.{entry_bytes, bodies, offsets, sheet_of}
use Rattle.sheet.specs.Find.{lookup}
use Rattle.sheet.specs.Rows.{owner_from}
use Rattle.sheet.specs.Test.{good_sheet, every_below}
use Rattle.model.specs.FarmSheet.{farm_sheet, no_farm, slot_sheet}
use Rattle.kinds.specs.Clock.{initial_limit, check_limit, general_limit, most_ticks, stepped}
use Rattle.model.specs.Row.{no_head}
use Rattle.model.specs.Stream.{feed, takes}
use Rattle.model.specs.Farm.{seat_count, new_farm, and_then, each_seat, closed, closed_if}
use Rattle.model.specs.Line.{accepted, socket_rules, decide, all_answered, asked_if, started, advanced, answered, head_verdict, settle_line, joined as joinedLine, left, is_asked, marked}
use Rattle.model.specs.Bytes.{requested, diagnosed, event_done, heard, bytes_done}
use Rattle.model.specs.Move.{no_row, connects, ticked, datagram_move, most_user, controller_move, move, tick_move}
use Rattle.model.specs.RuleTest.{every_seat, good_farm}
use Rattle.model.specs.Table.{Call, good_table, least_output, assembling_size, whose, step}
use Rattle.model.specs.History.{run}
use Rattle.days.specs.Day.{Hold}
use Rattle.days.specs.Rig.{farm_sheet_of, table_after, gives, taken}
use Rattle.days.specs.Histories.{a_active_b_asked}
use Rattle.days_further.specs.Further.{further_days, code_if_answered, code_if_silent}

pub further-days : Hold further_days
unfolding further_days taken message_bytes datagramHead datagram_verdict answer_by answer_to datagram_move most_user controller_move farm_sheet_of table_after gives up_to parts joined some all first_at count_if same_list types known_on length_fits verdict_of entry_bytes bodies offsets sheet_of lookup owner_from good_sheet every_below farm_sheet no_farm slot_sheet initial_limit check_limit general_limit most_ticks stepped no_head feed takes seat_count new_farm and_then each_seat closed closed_if accepted socket_rules decide all_answered asked_if started advanced answered head_verdict settle_line joinedLine left is_asked marked requested diagnosed event_done heard bytes_done no_row connects ticked move tick_move every_seat good_farm good_table least_output assembling_size whose step run
further-days =
    (λ n. refl, (λ n. refl, (λ n. refl, (λ n. refl, (λ n. refl, (λ n. refl, (λ n. refl, (λ n. refl, (λ n. refl, (λ n. refl, (λ n. refl, (λ n. refl, (λ n. refl, (λ n. refl, (λ n. refl, (λ n. refl, (λ n. refl, (λ n. refl, (λ n. refl, (λ n. refl, (λ n. refl, (λ n. refl, tt))))))))))))))))))))))

-- DECIDING ON JOINING is shut out: no rule that looks only at the calls up to B's joining gives the code that B gets, for it is 01 if A
-- answers afterwards and 10 if A stays silent.
pub not_on_joining : (code : List Call → ℕ) → code a_active_b_asked ≡ code_if_answered → code a_active_b_asked ≡ code_if_silent → ⊥
unfolding code_if_answered code_if_silent farm_sheet_of table_after gives up_to parts joined some all first_at count_if same_list types known_on length_fits verdict_of entry_bytes bodies offsets sheet_of lookup owner_from good_sheet every_below farm_sheet no_farm slot_sheet initial_limit check_limit general_limit most_ticks stepped no_head feed takes seat_count new_farm and_then each_seat closed closed_if accepted socket_rules decide all_answered asked_if started advanced answered head_verdict settle_line joinedLine left is_asked marked requested diagnosed event_done heard bytes_done no_row connects ticked move tick_move every_seat good_farm good_table least_output assembling_size whose step run
not_on_joining code told quiet =
    let one : code_if_answered ≡ 0x01 = refl in
    let ten : code_if_silent ≡ 0x10 = refl in
    omega (arith, told, quiet, one, ten)
