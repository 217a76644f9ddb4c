-- The claim over the days that tell a rule from a wrong one. By computation.
-- Assumes nothing.
use mathlib.Core.Path.{refl}
use Prim.{tt}
use Rattle.octets.specs.Fold.{up_to}
use Rattle.octets.specs.Parts.{parts, joined}
use Rattle.octets.specs.Search.{some, all, first_at, count_if, same_list}
use Rattle.types.specs.Types.{types, known_on, length_fits}
use Rattle.wire.specs.Header.{verdict_of}
use Rattle.layout.specs.Layout.{identity_bytes, message_bytes}
use Rattle.datagram.specs.Datagram.{head_verdict as datagramHead, datagram_verdict, answer_by, answer_to}
use Rattle.outsheet.specs.Sheet.{entry_bytes, bodies, offsets, sheet_of}
use Rattle.sheet.specs.Find.{lookup}
use Rattle.sheet.specs.Rows.{owner_from}
use Rattle.sheet.specs.Test.{good_sheet, every_below}
use Rattle.model.specs.FarmSheet.{farm_sheet, no_farm, slot_sheet}
use Rattle.kinds.specs.Clock.{initial_limit, check_limit, general_limit, most_ticks, stepped}
use Rattle.model.specs.Row.{no_head}
use Rattle.model.specs.Stream.{feed, takes}
use Rattle.model.specs.Farm.{seat_count, new_farm, and_then, each_seat, closed, closed_if}
use Rattle.model.specs.Line.{accepted, socket_rules, decide, all_answered, asked_if, started, advanced, answered, head_verdict, settle_line, joined as joinedLine, left, is_asked, marked}
use Rattle.model.specs.Bytes.{requested, diagnosed, event_done, heard, bytes_done}
use Rattle.model.specs.Move.{no_row, connects, peer_gone, link_gone, ticked, datagram_move, most_user, controller_move, move, tick_move}
use Rattle.model.specs.RuleTest.{every_seat, good_farm}
use Rattle.model.specs.Table.{good_table, least_output, assembling_size, whose, step}
use Rattle.model.specs.History.{run}
use Rattle.days.specs.Day.{Hold}
use Rattle.days.specs.Rig.{farm_sheet_of, table_after, gives}
use Rattle.days_told.specs.Told.{answer_days, line_days, datagram_days, answer_of, meters_after}

pub answer_days_hold : Hold answer_days
unfolding answer_days answer_of meters_after identity_bytes peer_gone link_gone message_bytes datagramHead datagram_verdict answer_by answer_to
    datagram_move most_user controller_move farm_sheet_of table_after gives up_to parts joined some all first_at count_if same_list types known_on
    length_fits verdict_of entry_bytes bodies offsets sheet_of lookup owner_from good_sheet every_below farm_sheet no_farm slot_sheet initial_limit
    check_limit general_limit most_ticks stepped no_head feed takes seat_count new_farm and_then each_seat closed closed_if accepted socket_rules
    decide all_answered asked_if started advanced answered head_verdict settle_line joinedLine left is_asked marked requested diagnosed event_done
    heard bytes_done no_row connects ticked move tick_move every_seat good_farm good_table least_output assembling_size whose step run
answer_days_hold =
    (λ n. refl, (λ n. refl, (λ n. refl, (λ n. refl, (λ n. refl, (λ n. refl, (λ n. refl, (λ n. refl, (λ n. refl, tt)))))))))

pub line_days_hold : Hold line_days
unfolding line_days answer_of meters_after identity_bytes peer_gone link_gone message_bytes datagramHead datagram_verdict answer_by answer_to
    datagram_move most_user controller_move farm_sheet_of table_after gives up_to parts joined some all first_at count_if same_list types known_on
    length_fits verdict_of entry_bytes bodies offsets sheet_of lookup owner_from good_sheet every_below farm_sheet no_farm slot_sheet initial_limit
    check_limit general_limit most_ticks stepped no_head feed takes seat_count new_farm and_then each_seat closed closed_if accepted socket_rules
    decide all_answered asked_if started advanced answered head_verdict settle_line joinedLine left is_asked marked requested diagnosed event_done
    heard bytes_done no_row connects ticked move tick_move every_seat good_farm good_table least_output assembling_size whose step run
line_days_hold =
    (λ n. refl, (λ n. refl, (λ n. refl, (λ n. refl, (λ n. refl, (λ n. refl, (λ n. refl, (λ n. refl, (λ n. refl, (λ n. refl, (λ n. refl, (λ n. refl, tt))))))))))))

pub datagram_days_hold : Hold datagram_days
unfolding datagram_days answer_of meters_after identity_bytes peer_gone link_gone message_bytes datagramHead datagram_verdict answer_by answer_to
    datagram_move most_user controller_move farm_sheet_of table_after gives up_to parts joined some all first_at count_if same_list types known_on
    length_fits verdict_of entry_bytes bodies offsets sheet_of lookup owner_from good_sheet every_below farm_sheet no_farm slot_sheet initial_limit
    check_limit general_limit most_ticks stepped no_head feed takes seat_count new_farm and_then each_seat closed closed_if accepted socket_rules
    decide all_answered asked_if started advanced answered head_verdict settle_line joinedLine left is_asked marked requested diagnosed event_done
    heard bytes_done no_row connects ticked move tick_move every_seat good_farm good_table least_output assembling_size whose step run
datagram_days_hold =
    (λ n. refl, (λ n. refl, (λ n. refl, (λ n. refl, tt))))
