-- The calls of one farm.
-- Assumes nothing: these are definitions.
use Rattle.std.specs.Prelude.{ℕ, ◌+◌, Bool, true, false, List, [], ◌∷◌, map, leb, length, get_or, set, take, Option, Some, None}
use Rattle.kinds.specs.declared.Reply.{Reply}
use Rattle.octets.specs.Choice.{pick, unless}
use Rattle.octets.specs.Search.{first_at, count_if}
use Rattle.kinds.specs.declared.RowState.{RowState}
use Rattle.kinds.specs.declared.RowState.TheVariants.{Free, Fresh, Waiting, Active}
use Rattle.kinds.specs.declared.Item.{Item}
use Rattle.kinds.specs.declared.Reply.TheVariants.{Message}
use Rattle.wire.specs.Header.{our_version}
use Rattle.datagram.specs.Datagram.{answer_to}
use Rattle.model.specs.FarmSheet.{FarmSheet, TargetIs, stranger, unreachable, reachable}
use Rattle.kinds.specs.Clock.{stepped}
use Rattle.model.specs.Row.{row_at, fresh_row, is_free, is_open, active_as, older, at_limit}
use Rattle.model.specs.Stream.{Taken}
use Rattle.model.specs.Farm.{Farm, with_row, with_rows, with_clock, with_line, Done, quietly, and_then, says, closed, closed_where}
use Rattle.model.specs.Line.{settle, left, cleared}
use Rattle.model.specs.Bytes.{taken_by, payload_by, bytes_done}

-- ---- what a farm can be called with

pub data Own : Type 0 where
  connect : Own
  bytes : (seat : ℕ) (input : List ℕ) → Own
  peer_closed : (seat : ℕ) → Own
  link_lost : Own
  datagram : (input : List ℕ) → Own
  controller : (from to : ℕ) (user : List ℕ) → Own

-- a farm and its rows' rooms of the assembling buffer, by seat
pub record Held : Type 0 where
  pub farm : Farm
  pub rooms : List (List ℕ)

-- what an accepted call gives: the row that it opened (255: none), the bytes taken, the entries, the one long payload that they may
-- hold, and what the farm holds then
pub record Given : Type 0 where
  pub row : ℕ
  pub took : ℕ
  pub items : List Item
  pub long : List ℕ
  pub held : Held

-- A refusal has nothing but its number, so it can have changed nothing.
pub data Move : Type 0 where
  refused : (number : ℕ) → Move
  gave : Given → Move

-- "its row is the opened one for connect, else 255"; "A datagram's reply has row 255."
unfoldable pub no_row : ℕ
no_row = 255

-- a call that only moves the farm
abbrev pub moves : Held → Done → Move
moves h d = gave (record { row = no_row; took = 0; items = d.items; long = []; held = record { farm = d.farm; rooms = h.rooms } })

-- ---- connect: "Connect opens the lowest free row of the farm"; "8 | connect, and the farm has no free row"

abbrev pub connected_at : FarmSheet → Held → Option ℕ → Move
connected_at own h None = refused 8
connected_at own h (Some seat) =
    gave
    (record {
      row = own.first + seat;
      took = 0;
      items = [];
      long = [];
      held = record { farm = with_row h.farm seat fresh_row; rooms = h.rooms };
    })

unfoldable pub connects : FarmSheet → Held → Move
connects own h = connected_at own h (first_at is_free 0 (take own.rows h.farm.rows))

-- ---- bytes: "6 | row not open", "7 | bytes for a waiting row, even none"

abbrev pub took_bytes : FarmSheet → Held → ℕ → Taken → Move
took_bytes own h seat t =
    let d : Done = bytes_done own seat t h.farm in
    gave
    (record {
      row = no_row;
      took = t.count;
      items = d.items;
      long = payload_by t.event t.stream.room;
      held = record { farm = d.farm; rooms = set h.rooms seat t.stream.room };
    })

abbrev pub bytes_by : FarmSheet → Held → ℕ → List ℕ → RowState → Move
bytes_by own h seat input Free = refused 6
bytes_by own h seat input (Fresh age) = took_bytes own h seat (taken_by seat (get_or h.rooms seat []) input h.farm)
bytes_by own h seat input (Waiting q) = refused 7
bytes_by own h seat input (Active a idle) = took_bytes own h seat (taken_by seat (get_or h.rooms seat []) input h.farm)

-- ---- peer closed: "Peer closed gives one close for that row." Then the line is settled

unfoldable pub peer_gone : FarmSheet → ℕ → Farm → Done
peer_gone own seat f = and_then (and_then (closed own seat f) (left own seat)) (settle own)

-- ---- link lost: "Link lost: one close per open row, lowest first." Every row is closed, so the line is empty

unfoldable pub link_gone : FarmSheet → Farm → Done
link_gone own f = and_then (closed_where own (λ seat r. is_open r) f) (λ g. quietly (cleared (with_line g [])))

-- ---- tick: "a running check clock goes up, ages and idle counts go up, rows at their limit close in row order, the line is settled"

abbrev pub clock_run : List ℕ → Farm → Farm
clock_run [] f = f
clock_run (head ∷ rest) f = with_clock f (stepped f.clock)

abbrev pub aged : Farm → Farm
aged f = with_rows f (map older f.rows)

unfoldable pub ticked : FarmSheet → Farm → Done
ticked own f =
    and_then (closed_where own (λ seat r. at_limit r) (aged (clock_run f.line f))) (settle own)

-- ---- datagram

abbrev pub open_rows : Farm → ℕ
open_rows f = count_if is_open f.rows

-- "A datagram's reply has row 255."
abbrev pub answers : Option Reply → List Item
answers None = []
answers (Some reply) = record { row = record { 0 = no_row }; version = our_version; reply = reply } ∷ []

unfoldable pub datagram_move : FarmSheet → Held → List ℕ → Move
datagram_move own h input =
    gave
    (record {
      row = no_row;
      took = 0;
      items = answers (answer_to input own.names (open_rows h.farm));
      long = own.names;
      held = h;
    })

-- ---- controller message: "9 | controller message with 0 or over 2,044 bytes of user data", "10 | controller address not a target of
-- that farm, or the tester not active on a row of it"; "A controller message goes out as 8001: controller, tester, user data."

unfoldable pub most_user : ℕ
most_user = 2044

abbrev pub is_target : TargetIs → Bool
is_target stranger = false
is_target unreachable = true
is_target reachable = true

abbrev pub to_tester : FarmSheet → Held → ℕ → ℕ → List ℕ → Option ℕ → Move
to_tester own h from to user None = refused 10
to_tester own h from to user (Some seat) =
    gave (record { row = no_row; took = 0; items = says own seat (Message from to) ∷ []; long = user; held = h })

unfoldable pub controller_move : FarmSheet → Held → ℕ → ℕ → List ℕ → Move
controller_move own h from to user =
    unless (leb 1 (length user)) (refused 9)
    (unless (leb (length user) most_user) (refused 9)
    (unless (is_target (own.target from)) (refused 10) (to_tester own h from to user (first_at (active_as to) 0 h.farm.rows))))

-- ---- a call of the farm, where refusals 1 to 5 are past

unfoldable pub move : FarmSheet → Held → Own → Move
move own h connect = connects own h
move own h (bytes seat input) = bytes_by own h seat input (row_at h.farm.rows seat).state
move own h (peer_closed seat) = pick (is_open (row_at h.farm.rows seat)) (moves h (peer_gone own seat h.farm)) (refused 6)
move own h link_lost = moves h (link_gone own h.farm)
move own h (datagram input) = datagram_move own h input
move own h (controller from to user) = controller_move own h from to user

unfoldable pub tick_move : FarmSheet → Held → Move
tick_move own h = moves h (ticked own h.farm)
