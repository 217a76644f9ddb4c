-- Every response 0006 of a call of a farm: why it is sent.
-- Assumes nothing.
use Rattle.std.proofs.Common.{Option, Some, None, Result, Ok, Err}
use Rattle.kinds.specs.declared.Reply.{Reply}
use Prim.Native.Nat.{ℕ}
use mathlib.Core.Path.{◌≡◌, refl, ap, ◌∙◌}
use mathlib.Core.Bool.{Bool, true, false}
use mathlib.Core.List.{List, [], ◌∷◌}
use native.Mathlib.Omega.{arith}
use lib.Dec.{eqb, leb}
use lib.ListN.{length, take}
use borrow.Author.Tests.{eqb-true}
use Rattle.octets.specs.Search.{first_at, same_list}
use Rattle.kinds.specs.declared.Item.{Item}
use Rattle.kinds.specs.declared.Reply.TheVariants.{Activation, Ack, HandOn}
use Rattle.kinds.specs.declared.Fault.{Fault}
use Rattle.kinds.specs.declared.Request.{Request}
use Rattle.kinds.specs.declared.RowState.{RowState}
use Rattle.kinds.specs.declared.RowState.TheVariants.{Free, Fresh, Waiting, Active}
use Rattle.kinds.specs.declared.Decision.{Decision}
use Rattle.kinds.specs.declared.Decision.TheVariants.{Now, Ask}
use Rattle.payload.specs.declared.Ends.{Ends}
use Rattle.wire.specs.Header.{header_at, closes}
use Rattle.datagram.specs.Datagram.{datagram_verdict, payload_of, if_named, answer_by, answer_for, answer_to}
use Rattle.payload.specs.Payload.{request_in}
use Rattle.model.specs.FarmSheet.{FarmSheet, TargetIs, stranger, unreachable, reachable}
use Rattle.model.specs.Row.{row_at, active_as, is_open, is_free, at_limit}
use Rattle.model.specs.Stream.{Event, input_ended, wrong, finished, skipped, Taken}
use Rattle.model.specs.Farm.{Farm, Done, does, quietly, and_then, says, closed, closed_where, with_line}
use Rattle.model.specs.Line.{accepted, decide, answered, joined, is_empty, left, left_by, cleared, settle}
use Rattle.model.specs.Bytes.{decided_by, requested, to_target, diagnosed, faulted, event_done, heard, bytes_done}
use Rattle.model.specs.Move.{Own, connect, bytes, peer_closed, link_lost, datagram, controller, Held, Move, connected_at, connects, bytes_by, peer_gone, link_gone, clock_run, aged, ticked, answers, datagram_move, to_tester, controller_move, is_target, most_user, move, tick_move}
use Rattle.model.specs.Table.{items_by}
use Rattle.model.specs.Words.{taken_of, ToSettle, after_bytes, after_close, Why, at_once, in_line}
use Rattle.model.proofs.Cases.{pick_case, unless_case}
use Rattle.model.proofs.CodeMoment.{Each, none_each, one_each, append_each, then_each, Plain, closed-plain, closings_plain, started-plain, advanced-plain, Told, plain_told, settle_told}

-- one that is said, then the row closes
said-closed : (own : FarmSheet) (i : ℕ) (it : Item) (f : Farm) → Plain it → Each Plain (and_then (does f (it ∷ [])) (closed own i)).items
said-closed own i it f p = then_each Plain (does f (it ∷ [])) (closed own i) (one_each Plain it p) (closed-plain own i f)

target-plain : (own : FarmSheet) (i : ℕ) (e : Ends) (x : TargetIs) (f : Farm) → Each Plain (to_target own i e x f).items
target-plain own i e stranger f = one_each Plain _ (λ a b c p. let z : ◌≡◌ {A = ℕ} 0 1 = cc in omega arith)
target-plain own i e unreachable f = one_each Plain _ (λ a b c p. let z : ◌≡◌ {A = ℕ} 0 1 = cc in omega arith)
target-plain own i e reachable f =
    append_each Plain (says own i (Ack e.target e.source 0x00) ∷ []) (says own i HandOn ∷ [])
    (one_each Plain _ (λ a b c p. let z : ◌≡◌ {A = ℕ} 0 1 = cc in omega arith))
    (one_each Plain _ (λ a b c p. let z : ◌≡◌ {A = ℕ} 0 1 = cc in omega arith))

diagnosed-plain : (own : FarmSheet) (i : ℕ) (e : Ends) (f : Farm) → Each Plain (diagnosed own i e f).items
unfolding diagnosed
diagnosed-plain own i e f =
    pick_case (λ (d : Done). Each Plain d.items) (active_as e.source (row_at f.rows i)) _ _
    (λ _. target-plain own i e (own.target e.target) f)
    (λ _. said-closed own i _ f (λ a b c p. let z : ◌≡◌ {A = ℕ} 0 1 = cc in omega arith))

faulted-plain : (own : FarmSheet) (i : ℕ) (x : Fault) (f : Farm) → Each Plain (faulted own i x f).items
faulted-plain own i x f =
    pick_case (λ (d : Done). Each Plain d.items) (closes x) _ _
    (λ _. said-closed own i _ f (λ a b c p. let z : ◌≡◌ {A = ℕ} 0 1 = cc in omega arith))
    (λ _. one_each Plain _ (λ a b c p. let z : ◌≡◌ {A = ℕ} 0 1 = cc in omega arith))

joined-plain : (own : FarmSheet) (i : ℕ) (q : Request) (f : Farm) → Each Plain (joined own i q f).items
unfolding joined
joined-plain own i q f =
    pick_case (λ (d : Done). Each Plain d.items) (is_empty f.line) _ _ (λ _. started-plain own _) (λ _. none_each Plain)

left-plain : (own : FarmSheet) (i : ℕ) (f : Farm) → Each Plain (left own i f).items
unfolding left
left-plain own i f = by f.line
  where
    by : (line : List ℕ) → Each Plain (left_by own i line f).items
    by [] = none_each Plain
    by (head ∷ rest) =
        pick_case (λ (d : Done). Each Plain d.items) (eqb i head) _ _ (λ _. advanced-plain own rest f) (λ _. none_each Plain)

-- ---- a datagram has no response 0006

datagram-plain : (input names : List ℕ) (opened : ℕ) → Each Plain (answers (answer_to input names opened))
unfolding answer_to answer_by
datagram-plain input names opened = by (datagram_verdict input)
  where
    P : Option Reply → Type 0
    P a = Each Plain (answers a)

    named : (b : Bool) → P (if_named b)
    named true = one_each Plain _ (λ a e c p. let z : ◌≡◌ {A = ℕ} 0 1 = cc in omega arith)
    named false = none_each Plain

    by : (v : Option (Result Unit Fault)) → P (answer_for v input names opened)
    by None = none_each Plain
    by (Some (Ok tt)) =
        pick_case P (eqb (header_at input 0).kind 0x0001) _ _ (λ _. one_each Plain _ (λ a e c p. let z : ◌≡◌ {A = ℕ} 0 1 = cc in omega arith))
        (λ _. pick_case P (eqb (header_at input 0).kind 0x0002) _ _ (λ _. named (same_list (payload_of input) _))
        (λ _. pick_case P (eqb (header_at input 0).kind 0x0003) _ _ (λ _. named (same_list (payload_of input) _))
        (λ _. pick_case P (eqb (header_at input 0).kind 0x4001) _ _ (λ _. one_each Plain _ (λ a e c p. let z : ◌≡◌ {A = ℕ} 0 1 = cc in omega arith))
        (λ _. pick_case P (eqb (header_at input 0).kind 0x4003) _ _ (λ _. one_each Plain _ (λ a e c p. let z : ◌≡◌ {A = ℕ} 0 1 = cc in omega arith))
        (λ _. none_each Plain)))))
    by (Some (Err fault)) = one_each Plain _ (λ a e c p. let z : ◌≡◌ {A = ℕ} 0 1 = cc in omega arith)

-- ---- the calls

module _ (own : FarmSheet) (h : Held) where
  -- an entry that is a response 0006 has one of the two reasons
  abbrev pub Reasons : Own → Item → Type 0
  Reasons c it = (a e k : ℕ) → it.reply ≡ Activation a e k → Why own h c it

  plain_why : (c : Own) (items : List Item) → Each Plain items → Each (Reasons c) items
  plain_why c items p it m a e k r = absurd (p it m a e k r)

  settle_why : (c : Own) (g : Farm) → ToSettle own h c g → Each (Reasons c) (settle own g).items
  settle_why c g d it m a e k r = in_line g d (settle_told own g.line g it m a e k r)

  module _ (seat : ℕ) (input : List ℕ) where
    abbrev took : Taken
    took = taken_of h seat input

    abbrev then : Farm
    then = heard seat took h.farm

    decided_why : (size : ℕ) (q : Request) → took.event ≡ finished 0x0005 size → request_in (take size took.stream.room) ≡ q
        → (d : Decision) → decide own then.rows seat q ≡ d → Each (Reasons (bytes seat input)) (decided_by own seat q d then).items
    unfolding answered
    decided_why size q w r (Now code) e =
        pick_case (λ (d : Done). Each (Reasons (bytes seat input)) d.items) (eqb code accepted) _ _ (λ _. first)
        (λ _. then_each (Reasons (bytes seat input)) _ (closed own seat) first (plain_why (bytes seat input) _ (closed-plain own seat then)))
      where
        first : Each (Reasons (bytes seat input)) (says own seat (Activation q.address own.entity code) ∷ [])
        first = one_each (Reasons (bytes seat input)) _ (λ a b k p. at_once seat input size code q refl w r e refl)
    decided_why size q w r (Ask check) e = plain_why (bytes seat input) _ (joined-plain own seat q then)

    requested_why : (size : ℕ) → took.event ≡ finished 0x0005 size
        → Each (Reasons (bytes seat input)) (requested own seat (request_in (take size took.stream.room)) then).items
    unfolding requested
    requested_why size w = decided_why size (request_in (take size took.stream.room)) w refl _ refl

    event_why : (e : Event) → took.event ≡ e → Each (Reasons (bytes seat input)) (event_done own seat e took.stream.room then).items
    unfolding event_done
    event_why input_ended w = none_each (Reasons (bytes seat input))
    event_why (wrong fault) w = plain_why (bytes seat input) _ (faulted-plain own seat fault then)
    event_why (finished kind size) w =
        pick_case P (eqb kind 0x0005) _ _ (λ e. requested_why size (w ∙ ap (λ (x : ℕ). finished x size) (eqb-true kind 0x0005 e)))
        (λ _. pick_case P (eqb kind 0x0008) _ _ (λ _. none_each (Reasons (bytes seat input)))
        (λ _. pick_case P (eqb kind 0x8001) _ _ (λ _. plain_why (bytes seat input) _ (diagnosed-plain own seat _ then))
        (λ _. none_each (Reasons (bytes seat input)))))
      where
        P : Done → Type 0
        P d = Each (Reasons (bytes seat input)) d.items
    event_why (skipped size) w = none_each (Reasons (bytes seat input))

    bytes_why : Each (Reasons (bytes seat input)) (bytes_done own seat took h.farm).items
    unfolding bytes_done
    bytes_why =
        then_each (Reasons (bytes seat input)) (event_done own seat took.event took.stream.room then) (settle own)
        (event_why took.event refl)
        (settle_why (bytes seat input) _ (after_bytes seat input))

    by_state_lem : (x : RowState) → Each (Reasons (bytes seat input)) (items_by (bytes_by own h seat input x))
    by_state_lem Free = none_each (Reasons (bytes seat input))
    by_state_lem (Fresh age) = bytes_why
    by_state_lem (Waiting q) = none_each (Reasons (bytes seat input))
    by_state_lem (Active a idle) = bytes_why

  peer_why : (seat : ℕ) → Each (Reasons (peer_closed seat)) (peer_gone own seat h.farm).items
  unfolding peer_gone
  peer_why seat =
      then_each (Reasons (peer_closed seat)) (and_then (closed own seat h.farm) (left own seat)) (settle own)
      (plain_why (peer_closed seat) _
      (then_each Plain (closed own seat h.farm) (left own seat) (closed-plain own seat h.farm)
      (left-plain own seat (closed own seat h.farm).farm)))
      (settle_why (peer_closed seat) _ (after_close seat))

  link_why : Each (Reasons link_lost) (link_gone own h.farm).items
  unfolding link_gone
  link_why =
      plain_why link_lost _
      (then_each Plain (closed_where own (λ seat r. is_open r) h.farm) (λ g. quietly (cleared (with_line g [])))
      (closings_plain own (λ seat r. is_open r) h.farm) (none_each Plain))

  connect_why : (x : Option ℕ) → Each (Reasons connect) (items_by (connected_at own h x))
  connect_why None = none_each (Reasons connect)
  connect_why (Some i) = none_each (Reasons connect)

  tester_why : (from to : ℕ) (user : List ℕ) (x : Option ℕ) → Each (Reasons (controller from to user)) (items_by (to_tester own h from to user x))
  tester_why from to user None = none_each (Reasons (controller from to user))
  tester_why from to user (Some i) =
      plain_why (controller from to user) _ (one_each Plain _ (λ a e c p. let z : ◌≡◌ {A = ℕ} 0 1 = cc in omega arith))

  controller_why : (from to : ℕ) (user : List ℕ) → Each (Reasons (controller from to user)) (items_by (controller_move own h from to user))
  unfolding controller_move
  controller_why from to user =
      unless_case P (leb 1 (length user)) _ _ (λ _. none_each (Reasons (controller from to user)))
      (λ _. unless_case P (leb (length user) most_user) _ _ (λ _. none_each (Reasons (controller from to user)))
      (λ _. unless_case P (is_target (own.target from)) _ _ (λ _. none_each (Reasons (controller from to user)))
      (λ _. tester_why from to user (first_at (active_as to) 0 h.farm.rows))))
    where
      P : Move → Type 0
      P m = Each (Reasons (controller from to user)) (items_by m)

  -- EVERY RESPONSE 0006 OF A CALL OF THE FARM has its code from the rules at the moment of deciding: a request that needs no check has it at
  -- once, by the farm as it is when its last byte is taken; any other has it as the head of the line, by the farm as it is then.
  pub move_why : (c : Own) → Each (Reasons c) (items_by (move own h c))
  unfolding move connects datagram_move
  move_why connect = connect_why (first_at is_free 0 (take own.rows h.farm.rows))
  move_why (bytes seat input) = by_state_lem seat input (row_at h.farm.rows seat).state
  move_why (peer_closed seat) =
      pick_case (λ (m : Move). Each (Reasons (peer_closed seat)) (items_by m)) (is_open (row_at h.farm.rows seat)) _ _ (λ _. peer_why seat)
      (λ _. none_each (Reasons (peer_closed seat)))
  move_why link_lost = link_why
  move_why (datagram input) = plain_why (datagram input) _ (datagram-plain input own.names _)
  move_why (controller from to user) = controller_why from to user

  -- the farm that a tick hands to settling
  abbrev pub at_tick : Farm
  at_tick = (closed_where own (λ seat r. at_limit r) (aged (clock_run h.farm.line h.farm))).farm

  -- EVERY RESPONSE 0006 OF A TICK is the answer to the head of the line, by the farm as it is then.
  pub tick_why : Each (Told own at_tick.line at_tick) (items_by (tick_move own h))
  unfolding tick_move ticked
  tick_why =
      then_each (Told own at_tick.line at_tick) (closed_where own (λ seat r. at_limit r) (aged (clock_run h.farm.line h.farm))) (settle own)
      (plain_told _ (closings_plain own (λ seat r. at_limit r) (aged (clock_run h.farm.line h.farm))))
      (settle_told own at_tick.line at_tick)
