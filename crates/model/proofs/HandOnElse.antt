-- No call but bytes ever hands a payload on: connect, peer closed, link lost, datagram, message from a controller, tick, start.
-- Assumes nothing.
use Rattle.std.proofs.Common.{Option, Some, None, Result, Ok, Err}
use Rattle.kinds.specs.declared.Reply.{Reply}
use Rattle.kinds.specs.declared.Fault.{Fault}
use Prim.Native.Nat.{ℕ}
use mathlib.Core.Path.{◌≡◌, refl, sym}
use mathlib.Core.Bool.{Bool, true, false, false≢true}
use mathlib.Core.List.{List}
use lib.Dec.{eqb, leb}
use lib.ListN.{length, take}
use Rattle.octets.specs.Search.{count_if, first_at, same_list}
use Rattle.kinds.specs.declared.Reply.TheVariants.{Message}
use Rattle.layout.specs.FarmRecord.{eid_in, vin_in}
use Rattle.wire.specs.Header.{header_at}
use Rattle.datagram.specs.Datagram.{payload_of, if_named, answer_by, answer_for, answer_to, datagram_verdict}
use Rattle.model.specs.FarmSheet.{FarmSheet}
use Rattle.model.specs.Row.{row_at, is_free, is_open, active_as, at_limit}
use Rattle.model.specs.Farm.{Farm, says, closed, closed_where}
use Rattle.model.specs.Line.{left, settle}
use Rattle.model.specs.Move.{Own, connect, bytes, peer_closed, link_lost, datagram, controller, Held, Move, connected_at, connects, peer_gone, link_gone, clock_run, aged, ticked, open_rows, answers, datagram_move, most_user, is_target, to_tester, controller_move, move, tick_move}
use Rattle.model.specs.HandsOn.{is_hand_on, hand_ons}
use Rattle.model.specs.Table.{items_by}
use Rattle.model.proofs.Cases.{pick_case, unless_case}
use Rattle.model.proofs.HandOnNone.{NoHandOn, none_quiet, none-one, none_then, none-closed, none_closings, none_left, settle-hands-none}

-- a call that takes bytes
abbrev pub is_bytes : Own → Bool
is_bytes connect = false
is_bytes (bytes seat input) = true
is_bytes (peer_closed seat) = false
is_bytes link_lost = false
is_bytes (datagram input) = false
is_bytes (controller from to user) = false

abbrev NoneOn : Move → Type 0
NoneOn m = hand_ons (items_by m) ≡ 0

-- ---- datagrams

abbrev NoneIn : Option Reply → Type 0
NoneIn a = hand_ons (answers a) ≡ 0

none_named : (named : Bool) → NoneIn (if_named named)
unfolding count_if
none_named true = refl
none_named false = refl

none-by : (kind : ℕ) (payload farm : List ℕ) (opened : ℕ) → NoneIn (answer_by kind payload farm opened)
unfolding answer_by count_if
none-by kind payload farm opened =
    pick_case NoneIn (eqb kind 0x0001) _ _ (λ t. refl)
    (λ t. pick_case NoneIn (eqb kind 0x0002) _ _ (λ t. none_named (same_list payload (eid_in farm)))
    (λ t. pick_case NoneIn (eqb kind 0x0003) _ _ (λ t. none_named (same_list payload (vin_in farm)))
    (λ t. pick_case NoneIn (eqb kind 0x4001) _ _ (λ t. refl) (λ t. pick_case NoneIn (eqb kind 0x4003) _ _ (λ t. refl) (λ t. refl)))))

none_for : (v : Option (Result Unit Fault)) (d farm : List ℕ) (opened : ℕ) → NoneIn (answer_for v d farm opened)
unfolding count_if
none_for None d farm opened = refl
none_for (Some (Ok tt)) d farm opened = none-by (header_at d 0).kind (payload_of d) farm opened
none_for (Some (Err fault)) d farm opened = refl

-- ---- the other calls

module _ (own : FarmSheet) (h : Held) where
  none-connects : NoneOn (connects own h)
  unfolding connects
  none-connects = go (first_at is_free 0 (take own.rows h.farm.rows))
    where
      go : (at : Option ℕ) → NoneOn (connected_at own h at)
      go None = (none_quiet is_hand_on)
      go (Some seat) = (none_quiet is_hand_on)

  none_peer : (seat : ℕ) (f : Farm) → NoHandOn (peer_gone own seat f)
  unfolding peer_gone
  none_peer seat f =
      none_then is_hand_on _ (settle own) (none_then is_hand_on (closed own seat f) (left own seat) (none-closed is_hand_on refl own seat f) (none_left is_hand_on refl own seat _)) (settle-hands-none own _)

  none_link : (f : Farm) → NoHandOn (link_gone own f)
  unfolding link_gone
  none_link f = none_then is_hand_on (closed_where own (λ seat r. is_open r) f) _ (none_closings is_hand_on refl own (λ seat r. is_open r) f) (none_quiet is_hand_on)

  none-ticked : (f : Farm) → NoHandOn (ticked own f)
  unfolding ticked
  none-ticked f =
      none_then is_hand_on (closed_where own (λ seat r. at_limit r) (aged (clock_run f.line f))) (settle own)
      (none_closings is_hand_on refl own (λ seat r. at_limit r) (aged (clock_run f.line f))) (settle-hands-none own _)

  none-datagram : (input : List ℕ) → NoneOn (datagram_move own h input)
  unfolding datagram_move answer_to
  none-datagram input = none_for (datagram_verdict input) input own.names (open_rows h.farm)

  none-controller : (from to : ℕ) (user : List ℕ) → NoneOn (controller_move own h from to user)
  unfolding controller_move
  none-controller from to user =
      unless_case NoneOn (leb 1 (length user)) _ _ (λ t. (none_quiet is_hand_on))
      (λ t. unless_case NoneOn (leb (length user) most_user) _ _ (λ t. (none_quiet is_hand_on))
      (λ t. unless_case NoneOn (is_target (own.target from)) _ _ (λ t. (none_quiet is_hand_on)) (λ t. go (first_at (active_as to) 0 h.farm.rows))))
    where
      go : (at : Option ℕ) → NoneOn (to_tester own h from to user at)
      go None = (none_quiet is_hand_on)
      go (Some seat) = none-one is_hand_on (says own seat (Message from to)) refl

  none-move : (c : Own) → is_bytes c ≡ false → NoneOn (move own h c)
  unfolding move
  none-move connect e = none-connects
  none-move (bytes seat input) e = absurd (false≢true (sym e))
  none-move (peer_closed seat) e =
      pick_case NoneOn (is_open (row_at h.farm.rows seat)) _ _ (λ t. none_peer seat h.farm) (λ t. (none_quiet is_hand_on))
  none-move link_lost e = none_link h.farm
  none-move (datagram input) e = none-datagram input
  none-move (controller from to user) e = none-controller from to user

  -- NO OTHER CALL HANDS ON: whatever the farm and its sheet are, a call of it that takes no bytes, and a tick, says no hand-on.
  pub others_hand_nothing_on : (c : Own) → is_bytes c ≡ false → hand_ons (items_by (move own h c)) ≡ 0
  others_hand_nothing_on c e = none-move c e

  pub ticks_hand_nothing_on : hand_ons (items_by (tick_move own h)) ≡ 0
  unfolding tick_move
  ticks_hand_nothing_on = none-ticked h.farm
