-- Each call of one farm is small: few entries, at most one of them long, and that not too long.
-- Assumes nothing.
use Rattle.std.proofs.Common.{Option, Some, None}
use Prim.{Unit, tt}
use Prim.Native.Nat.{ℕ, ◌≤◌}
use mathlib.Core.Path.{◌≡◌, refl}
use mathlib.Core.List.{List, []}
use native.Mathlib.Omega.{arith}
use lib.Dec.{leb}
use lib.ListN.{length, get_or, take}
use borrow.Author.Tests.{leb-true}
use Rattle.octets.specs.Search.{first_at, count_if}
use Rattle.kinds.specs.declared.Item.{Item}
use Rattle.kinds.specs.declared.RowState.{RowState}
use Rattle.kinds.specs.declared.RowState.TheVariants.{Free, Fresh, Waiting, Active}
use Rattle.datagram.specs.Datagram.{answer_to}
use Rattle.plan.specs.Plan.{plan_room}
use Rattle.outsheet.specs.Replies.{is_long_item}
use Rattle.outsheet.specs.Contracts.{longest}
use Rattle.model.specs.FarmSheet.{FarmSheet}
use Rattle.model.specs.Row.{row_at, is_free, is_open, active_as}
use Rattle.model.specs.Stream.{stream_of, Taken}
use Rattle.model.specs.Farm.{Farm, seat_count}
use Rattle.model.specs.Bytes.{taken_by, bytes_done}
use Rattle.model.specs.Move.{Own, connect, bytes, peer_closed, link_lost, datagram, controller, Held, Move, refused, gave, connected_at, connects, took_bytes, bytes_by, peer_gone, link_gone, ticked, open_rows, answers, datagram_move, most_user, is_target, to_tester, controller_move, move}
use Rattle.model.specs.Rule.{Good}
use Rattle.model.proofs.Cases.{pick_case, unless_case}
use Rattle.model.proofs.RuleParts.{FarmOk}
use Rattle.room.proofs.Calls.{ticked_most, peer_most, link_most, bytes_most}
use Rattle.room.proofs.Long.{bytes_one, peer_short, link_short, answers_few, longs_few, takes-fits}

-- ---- a farm's calls, each for itself

seats_are : seat_count ≡ 9
unfolding seat_count
seats_are = refl

module _ {own : FarmSheet} {f : Farm} (ok : FarmOk own) (k : Good own f) where
  pub ticked-room : length (ticked own f).items ≤ plan_room
  ticked-room = omega (arith, ticked_most k ok.some, ok.rooms, seats_are)

  pub peer_room : (seat : ℕ) → length (peer_gone own seat f).items ≤ plan_room
  peer_room seat = omega (arith, peer_most k ok.some seat, ok.rooms, seats_are)

  pub link_room : length (link_gone own f).items ≤ plan_room
  link_room = omega (arith, link_most k, ok.rooms, seats_are)

  pub bytes-room : (seat : ℕ) (t : Taken) → length (bytes_done own seat t f).items ≤ plan_room
  bytes-room seat t = omega (arith, bytes_most k ok.some seat t, ok.rooms, seats_are)

-- ---- all of them

-- the entries have room in the plan, and their bytes in the output sheet
pub record Small (items : List Item) (long : List ℕ) : Type 0 where
  pub few : length items ≤ plan_room
  pub one_long : count_if is_long_item items ≤ 1
  pub short : length long ≤ longest

abbrev pub SmallMove : Move → Type 0
SmallMove (refused n) = Unit {0}
SmallMove (gave g) = Small g.items g.long

pub small-none : Small [] []
unfolding count_if
small-none = record { few = omega arith; one_long = omega arith; short = omega arith }

-- one entry is at most one long one
small_one : (items : List Item) (long : List ℕ) → length items ≤ 1 → length long ≤ longest → Small items long
small_one items long h k = record { few = omega arith; one_long = omega (arith, longs_few items); short = k }

module _ (own : FarmSheet) (ok : FarmOk own) (h : Held) (k : Good own h.farm) where
  connects-small : SmallMove (connects own h)
  unfolding connects
  connects-small = by (first_at is_free 0 (take own.rows h.farm.rows))
    where
      by : (o : Option ℕ) → SmallMove (connected_at own h o)
      by None = tt
      by (Some seat) = small-none

  took-small : (seat : ℕ) (input : List ℕ) → SmallMove (took_bytes own h seat (taken_by seat (get_or h.rooms seat []) input h.farm))
  took-small seat input =
      let t : Taken = taken_by seat (get_or h.rooms seat []) input h.farm in
      record {
        few = bytes-room ok k seat t;
        one_long = bytes_one own seat t h.farm;
        short =
            takes-fits (stream_of (row_at h.farm.rows seat).place (row_at h.farm.rows seat).head (get_or h.rooms seat [])) input
            (k.possible seat) t.stream.room;
      }

  bytes_small : (seat : ℕ) (input : List ℕ) (x : RowState) → SmallMove (bytes_by own h seat input x)
  bytes_small seat input Free = tt
  bytes_small seat input (Fresh c) = took-small seat input
  bytes_small seat input (Waiting q) = tt
  bytes_small seat input (Active a c) = took-small seat input

  controller-small : (from to : ℕ) (user : List ℕ) → SmallMove (controller_move own h from to user)
  unfolding controller_move most_user
  controller-small from to user =
      unless_case SmallMove (leb 1 (length user)) _ _ (λ _. tt)
      (λ _. unless_case SmallMove (leb (length user) most_user) _ _ (λ _. tt)
      (λ most. unless_case SmallMove (is_target (own.target from)) _ _ (λ _. tt)
      (λ _. by (leb-true (length user) most_user most) (first_at (active_as to) 0 h.farm.rows))))
    where
      by : length user ≤ most_user → (o : Option ℕ) → SmallMove (to_tester own h from to user o)
      by most None = tt
      by most (Some seat) = small_one _ user (omega arith) (omega arith)

  -- EACH CALL OF A FARM IS SMALL.
  pub move-small : length own.names ≤ longest → (c : Own) → SmallMove (move own h c)
  unfolding move datagram_move
  move-small names connect = connects-small
  move-small names (bytes seat input) = bytes_small seat input (row_at h.farm.rows seat).state
  move-small names (peer_closed seat) =
      pick_case SmallMove (is_open (row_at h.farm.rows seat)) _ _
      (λ _. record {
        few = peer_room ok k seat;
        one_long = omega (arith, peer_short own seat h.farm);
        short = omega arith;
      })
      (λ _. tt)
  move-small names link_lost =
      record {
        few = link_room ok k;
        one_long = omega (arith, link_short own h.farm);
        short = omega arith;
      }
  move-small names (datagram input) =
      small_one (answers (answer_to input own.names (open_rows h.farm))) own.names
      (answers_few (answer_to input own.names (open_rows h.farm))) names
  move-small names (controller from to user) = controller-small from to user
