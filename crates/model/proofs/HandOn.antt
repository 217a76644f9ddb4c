-- Demand 2, last sentence: "A whole diagnostic message that the header rules pass reaches a controller exactly when its sender is active
-- on that connection and the controller is known, reachable and of that farm."
-- Assumes nothing.
use Prim.Native.Nat.{ℕ, ◌≤◌}
use mathlib.Core.Path.{◌≡◌, refl, sym, ap, ◌∙◌}
use mathlib.Core.Bool.{true}
use mathlib.Core.List.{List, [], ◌∷◌, ◌++◌}
use native.Mathlib.Omega.{arith}
use lib.Dec.{eqb}
use lib.ListN.{length, get_or, take}
use borrow.Author.Tests.{eqb-true}
use Rattle.octets.specs.Search.{count_if}
use Rattle.kinds.specs.declared.Fault.{Fault}
use Rattle.kinds.specs.declared.Request.{Request}
use Rattle.kinds.specs.declared.Row.{Row}
use Rattle.kinds.specs.declared.RowState.{RowState}
use Rattle.kinds.specs.declared.RowState.TheVariants.{Free, Fresh, Waiting, Active}
use Rattle.kinds.specs.declared.Decision.{Decision}
use Rattle.kinds.specs.declared.Decision.TheVariants.{Now, Ask}
use Rattle.kinds.specs.declared.Item.{Item}
use Rattle.kinds.specs.declared.Reply.TheVariants.{Nack, Ack, DiagnosticNack, HandOn}
use Rattle.payload.specs.declared.Ends.{Ends as Parties}
use Rattle.wire.specs.Header.{header_at, most_payload, code_of, closes}
use Rattle.payload.specs.Payload.{request_in, ends_in}
use Rattle.model.specs.FarmSheet.{FarmSheet, TargetIs, stranger, unreachable, reachable}
use Rattle.model.specs.Row.{row_at, active_as, active_as_state, heard_state}
use Rattle.model.specs.Stream.{Event, input_ended, wrong, finished, skipped, Taken}
use Rattle.model.specs.Farm.{Farm, Done, does, and_then, says, closed}
use Rattle.model.specs.Line.{decide, settle}
use Rattle.model.specs.Bytes.{decided_by, requested, to_target, diagnosed, faulted, event_done, heard_row, heard, taken_by, payload_by, bytes_done}
use Rattle.model.specs.Move.{bytes, Held, Given, gave, took_bytes, bytes_by, move}
use Rattle.model.specs.Rule.{Good}
use Rattle.model.specs.HandsOn.{Whole, payload_of, is_hand_on, hand_ons, bytes_at, Reaches, HandedOn}
use Rattle.model.proofs.Cases.{pick_case}
use Rattle.model.proofs.Rows.{row-set}
use Rattle.model.proofs.HandOnNone.{NoHandOn, said_append, none_quiet, none-one, none_then, none-closed, none-joined, settle-hands-none, answered-hands-none}
use Rattle.model.proofs.HandOnStream.{Ends, stream-ends}

-- ---- what a finished message says

module _ (own : FarmSheet) (seat : ℕ) where
  none-requested : (q : Request) (f : Farm) → NoHandOn (requested own seat q f)
  unfolding requested
  none-requested q f = go (decide own f.rows seat q)
    where
      go : (d : Decision) → NoHandOn (decided_by own seat q d f)
      go (Now code) = answered-hands-none own seat q.address code f
      go (Ask check) = none-joined is_hand_on refl own seat q f

  none-faulted : (fault : Fault) (f : Farm) → NoHandOn (faulted own seat fault f)
  none-faulted fault f =
      pick_case NoHandOn (closes fault) _ _
      (λ t. none_then is_hand_on _ (closed own seat) (none-one is_hand_on (says own seat (Nack (code_of fault))) refl) (none-closed is_hand_on refl own seat f))
      (λ t. none-one is_hand_on (says own seat (Nack (code_of fault))) refl)

  -- the two entries of a message that is handed on
  abbrev pub acked : Parties → List Item
  acked e = says own seat (Ack e.target e.source 0x00) ∷ says own seat HandOn ∷ []

  -- its sender is active on the row, its controller known, reachable and of the farm
  abbrev pub Welcome : Parties → Row → Type 0
  Welcome e r = (active_as e.source r ≡ true) × (own.target e.target ≡ reachable)

  target-only : (e : Parties) (f : Farm) (t : TargetIs) → 1 ≤ hand_ons (to_target own seat e t f).items → t ≡ reachable
  unfolding count_if
  target-only e f stranger h = absurd (omega arith)
  target-only e f unreachable h = absurd (omega arith)
  target-only e f reachable h = refl

  diagnosed-only : (e : Parties) (f : Farm) → 1 ≤ hand_ons (diagnosed own seat e f).items → Welcome e (row_at f.rows seat)
  unfolding diagnosed
  diagnosed-only e f =
      pick_case (λ (d : Done). 1 ≤ hand_ons d.items → Welcome e (row_at f.rows seat)) (active_as e.source (row_at f.rows seat)) _ _
      (λ t h. (t, target-only e f (own.target e.target) h))
      (λ t h.
      absurd
      (omega (
        arith,
        h,
        none_then is_hand_on (does f (says own seat (DiagnosticNack e.target e.source 0x02) ∷ [])) (closed own seat)
            (none-one is_hand_on (says own seat (DiagnosticNack e.target e.source 0x02)) refl) (none-closed is_hand_on refl own seat f),
      )))

  diagnosed-says : (e : Parties) (f : Farm) → Welcome e (row_at f.rows seat) → diagnosed own seat e f ≡ does f (acked e)
  unfolding diagnosed
  diagnosed-says e f w = rw (w.0, w.1) refl

  -- a hand-on comes from a diagnostic message whose two ends are right
  event-only : (e : Event) (room : List ℕ) (f : Farm) → 1 ≤ hand_ons (event_done own seat e room f).items
      → (size : ℕ) × (e ≡ finished 0x8001 size) × Welcome (ends_in (take size room)) (row_at f.rows seat)
  unfolding event_done
  event-only input_ended room f = λ h. absurd (omega (arith, (none_quiet is_hand_on)))
  event-only (wrong fault) room f = λ h. absurd (omega (arith, none-faulted fault f))
  event-only (skipped size) room f = λ h. absurd (omega (arith, (none_quiet is_hand_on)))
  event-only (finished kind size) room f =
      pick_case P (eqb kind 0x0005) _ _ (λ t h. absurd (omega (arith, none-requested (request_in (take size room)) f)))
      (λ t.
      pick_case P (eqb kind 0x0008) _ _ (λ t h. absurd (omega (arith, (none_quiet is_hand_on))))
      (λ t.
      pick_case P (eqb kind 0x8001) _ _
      (λ t h. (size, ap (λ k. finished k size) (eqb-true kind 0x8001 t), diagnosed-only (ends_in (take size room)) f h))
      (λ t h. absurd (omega (arith, (none_quiet is_hand_on))))))
    where
      P : Done → Type 0
      P d = 1 ≤ hand_ons d.items → (n : ℕ) × (finished kind size ≡ finished 0x8001 n) × Welcome (ends_in (take n room)) (row_at f.rows seat)

  event-says : (e : Event) (size : ℕ) (room : List ℕ) (f : Farm) → e ≡ finished 0x8001 size → Welcome (ends_in (take size room)) (row_at f.rows seat)
      → event_done own seat e room f ≡ does f (acked (ends_in (take size room)))
  unfolding event_done
  event-says e size room f q w = rw q (diagnosed-says (ends_in (take size room)) f w)

-- ---- the row that has been heard is the row that it was, as far as its sender goes

heard_as : (a n : ℕ) (st : RowState) → active_as_state a (heard_state n st) ≡ active_as_state a st
heard_as a n Free = refl
heard_as a n (Fresh age) = refl
heard_as a n (Waiting q) = refl
heard_as a n (Active b idle) = refl

heard-row : (a seat : ℕ) (t : Taken) (f : Farm) → active_as a (row_at (heard seat t f).rows seat) ≡ active_as a (row_at f.rows seat)
unfolding heard
heard-row a seat t f =
    row-set f.rows seat seat (heard_row t.count t.stream (row_at f.rows seat)) (λ (r : Row). active_as a r ≡ active_as a (row_at f.rows seat))
    (λ e h. heard_as a t.count (row_at f.rows seat).state) refl

-- ---- the call

same_size : {kind a b : ℕ} → finished kind a ≡ finished kind b → a ≡ b
same_size e = cc

gave_same : {a b : Given} → gave a ≡ gave b → a ≡ b
gave_same e = cc

-- an accepted bytes call is one that takes its input
bytes-gave : (own : FarmSheet) (h : Held) (seat : ℕ) (input : List ℕ) (g : Given) (st : RowState) → bytes_by own h seat input st ≡ gave g
    → took_bytes own h seat (taken_by seat (get_or h.rooms seat []) input h.farm) ≡ gave g
bytes-gave own h seat input g Free e = let z : ◌≡◌ {A = ℕ} 0 1 = cc in absurd (omega arith)
bytes-gave own h seat input g (Fresh age) e = e
bytes-gave own h seat input g (Waiting q) e = let z : ◌≡◌ {A = ℕ} 0 1 = cc in absurd (omega arith)
bytes-gave own h seat input g (Active a idle) e = e

-- the same of what a call takes and does
module _ (own : FarmSheet) (seat : ℕ) (f : Farm) (t : Taken) where
  -- the two ends of a message are looked up as the row was before the call
  welcome_was : (p q : List ℕ) → p ≡ q → Welcome own seat (ends_in p) (row_at (heard seat t f).rows seat) → Welcome own seat (ends_in q) (row_at f.rows seat)
  welcome_was p q e w = rw (sym e) (sym (heard-row (ends_in p).source seat t f) ∙ w.0, w.1)

  welcome_is : (p q : List ℕ) → p ≡ q → Welcome own seat (ends_in q) (row_at f.rows seat) → Welcome own seat (ends_in p) (row_at (heard seat t f).rows seat)
  welcome_is p q e w = rw e (heard-row (ends_in q).source seat t f ∙ w.0, w.1)

  module _ (m : List ℕ) (ends : Ends 0x8001 m t.event t.stream) where
    bytes-only : 1 ≤ hand_ons (bytes_done own seat t f).items → Reaches own (row_at f.rows seat) m
    unfolding bytes_done and_then
    bytes-only h =
        go
        (event-only own seat t.event t.stream.room (heard seat t f)
        (omega (arith, said_append is_hand_on d.items (settle own d.farm).items, settle-hands-none own d.farm, h)))
      where
        d : Done
        d = event_done own seat t.event t.stream.room (heard seat t f)

        go : (size : ℕ) × (t.event ≡ finished 0x8001 size) × Welcome own seat (ends_in (take size t.stream.room)) (row_at (heard seat t f).rows seat)
            → Reaches own (row_at f.rows seat) m
        go (size, q, w) =
            let whole : Whole m = ends.only size q in
            let n : size ≡ (header_at m 0).length = same_size (sym q ∙ ends.finishes whole) in
            let v : Welcome own seat (ends_in (payload_of m)) (row_at f.rows seat) =
            welcome_was (take size t.stream.room) (payload_of m) (ap (λ k. take k t.stream.room) n ∙ ends.stores whole) w in
            record { message = whole; sender = v.0; controller = v.1 }

    bytes-says : Reaches own (row_at f.rows seat) m
        → (rest : List Item) × ((bytes_done own seat t f).items ≡ acked own seat (ends_in (payload_of m)) ++ rest) × (hand_ons rest ≡ 0)
    unfolding bytes_done and_then
    bytes-says r =
        let e : event_done own seat t.event t.stream.room (heard seat t f) ≡
        does (heard seat t f) (acked own seat (ends_in (take (header_at m 0).length t.stream.room))) =
        event-says own seat t.event (header_at m 0).length t.stream.room (heard seat t f) (ends.finishes r.message)
        (welcome_is (take (header_at m 0).length t.stream.room) (payload_of m) (ends.stores r.message) (r.sender, r.controller)) in
        ((settle own (heard seat t f)).items, rw (e, ends.stores r.message) refl, settle-hands-none own (heard seat t f))

    bytes-long : Whole m → payload_by t.event t.stream.room ≡ payload_of m
    bytes-long w = rw (ends.finishes w) (ends.stores w)

-- THE CLAIM. In a bytes call on a good farm, a payload is handed on to a controller exactly where the bytes that the row had in hand, and
-- the input behind them, begin with a whole diagnostic message that the header rules pass, whose sender is active on that row, and whose
-- controller is known, reachable and of that farm. Then it is handed on once, from that row, directly behind its 8002, and what is handed on
-- is the message's payload: the bytes behind its header. (A row's room is 2,048 bytes.)
pub handed_on : (own : FarmSheet) (h : Held) (seat : ℕ) (input : List ℕ) (g : Given) → Good own h.farm → most_payload ≤ length (get_or h.rooms seat [])
    → move own h (bytes seat input) ≡ gave g → HandedOn own h seat input g.items g.long
unfolding move
handed_on own h seat input g good room e =
    record {
      always = λ r.
          let s = bytes-says own seat h.farm t (bytes_at h seat input) ends r in
          record { rest = s.0; entries = sym items ∙ s.1; once = s.2; payload = sym long ∙ bytes-long own seat h.farm t (bytes_at h seat input) ends r.message };
      only = λ n. bytes-only own seat h.farm t (bytes_at h seat input) ends (omega (arith, ap hand_ons items, n));
    }
  where
    t : Taken
    t = taken_by seat (get_or h.rooms seat []) input h.farm

    took : took_bytes own h seat t ≡ gave g
    took = bytes-gave own h seat input g (row_at h.farm.rows seat).state e

    items : (bytes_done own seat t h.farm).items ≡ g.items
    items = ap (λ (x : Given). x.items) (gave_same took)

    long : payload_by t.event t.stream.room ≡ g.long
    long = ap (λ (x : Given). x.long) (gave_same took)

    ends : Ends 0x8001 (bytes_at h seat input) t.event t.stream
    ends = stream-ends 0x8001 refl (row_at h.farm.rows seat).place (row_at h.farm.rows seat).head (get_or h.rooms seat []) input (good.tidy seat).eight room
        (good.possible seat)
