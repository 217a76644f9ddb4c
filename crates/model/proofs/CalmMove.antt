-- The rules on the running check, call by call.
-- Assumes nothing.
use Rattle.std.proofs.Common.{Option, Some, None}
use Prim.Native.Nat.{ℕ, zero, suc, ◌<◌}
use mathlib.Core.Path.{◌≡◌, refl, sym, ap, subst, ◌∙◌}
use mathlib.Core.Bool.{true, false, false≢true}
use mathlib.Core.List.{List, [], ◌∷◌}
use native.Mathlib.Nat.{not-suc-le-zero}
use native.Mathlib.Omega.{arith}
use lib.Dec.{eqb, leb}
use lib.ListN.{get_or, length, take}
use lib.Seq.{get_or-take}
use borrow.Author.Tests.{leb-false, eq-eqb}
use Rattle.octets.specs.Search.{first_at, count_if}
use Rattle.kinds.specs.declared.Fault.{Fault}
use Rattle.kinds.specs.declared.Request.{Request}
use Rattle.kinds.specs.declared.RowState.{RowState}
use Rattle.kinds.specs.declared.RowState.TheVariants.{Free, Fresh, Waiting, Active}
use Rattle.kinds.specs.declared.Row.{Row}
use Rattle.kinds.specs.declared.Check.{Check}
use Rattle.kinds.specs.declared.Check.TheVariants.{One, All}
use Rattle.kinds.specs.declared.Decision.{Decision}
use Rattle.kinds.specs.declared.Decision.TheVariants.{Now, Ask}
use Rattle.payload.specs.declared.Ends.{Ends}
use Rattle.wire.specs.Header.{closes}
use Rattle.payload.specs.Payload.{request_in, address_in, ends_in}
use Rattle.model.specs.FarmSheet.{FarmSheet, TargetIs, stranger, unreachable, reachable}
use Rattle.kinds.specs.Clock.{clock_of}
use Rattle.model.specs.Row.{free_row, fresh_row, active_row, row_at, is_free_state, is_free, is_open, is_waiting_state, is_waiting, is_active_state, is_active, active_as_state, active_as}
use Rattle.model.specs.Stream.{Event, input_ended, wrong, finished, skipped, Taken}
use Rattle.model.specs.Farm.{Farm, with_row, with_line, Done, and_then, closed, closed_where}
use Rattle.model.specs.Line.{accepted, by_holder, socket_rules, by_state, decide, answered, left, cleared}
use Rattle.model.specs.Bytes.{decided_by, requested, to_target, diagnosed, messaged, faulted, event_done, heard_row, heard, taken_by, bytes_done}
use Rattle.model.specs.Move.{Own, connect, bytes, peer_closed, link_lost, datagram, controller, Held, Given, Move, gave, connected_at, connects, bytes_by, peer_gone, link_gone, ticked, datagram_move, to_tester, is_target, most_user, controller_move, move}
use Rattle.model.specs.Table.{held_by}
use Rattle.model.specs.Rule.{Good}
use Rattle.model.specs.Words.{tick_settles}
use Rattle.model.proofs.Cases.{pick_case, unless_case}
use Rattle.model.proofs.Codes.{zero-refuses, two-refuses, six_refuses}
use Rattle.model.proofs.RuleParts.{Calm, calm_of}
use Rattle.model.proofs.Settling.{calm_none, anew_cleared, Stands, stands, first_stands}
use Rattle.model.proofs.CalmCheck.{Ready, ready_of, SameState, set_same, heard_same, ready_same, Stays, same_then, Handed, handed_calm, handed_asked}
use Rattle.model.proofs.CalmChange.{heard_asked, heard_ready, kept_handed, closed_handed, again_handed, opened_handed, joined_handed, marked_handed, left_handed, ticking_asked, ticking_handed}

-- ---- what a request gets

-- the decision, case by case: refused, active as that address already, a free place, or a check
pub decide_case : (P : Decision → Type 0) (own : FarmSheet) (rows : List Row) (seat : ℕ) (q : Request)
    → ((code : ℕ) → eqb code accepted ≡ false → P (Now code))
    → (active_as q.address (row_at rows seat) ≡ true → P (Now accepted))
    → (is_active (row_at rows seat) ≡ false → first_at (active_as q.address) 0 rows ≡ None → count_if is_active rows < own.quota → P (Now accepted))
    → ((check : Check) → P (Ask check)) → P (decide own rows seat q)
unfolding decide socket_rules
decide_case P own rows seat q turned again free check =
    unless_case P (own.tester q.address) _ _ (λ t. turned 0x00 zero-refuses)
    (λ t. unless_case P (leb q.kind 1) _ _ (λ u. turned 0x06 six_refuses) (λ u. by (row_at rows seat).state refl))
  where
    places : (o : Option ℕ) → first_at (active_as q.address) 0 rows ≡ o → is_active (row_at rows seat) ≡ false → P (by_holder own rows o)
    places (Some s) o e = check (One s)
    places None o e =
        pick_case P (leb own.quota (count_if is_active rows)) _ _ (λ t. check All)
        (λ t. free e o (leb-false own.quota (count_if is_active rows) t))

    by : (s : RowState) → (row_at rows seat).state ≡ s → P (by_state own rows q.address s)
    by Free e = places (first_at (active_as q.address) 0 rows) refl (ap is_active_state e)
    by (Fresh c) e = places (first_at (active_as q.address) 0 rows) refl (ap is_active_state e)
    by (Waiting w) e = places (first_at (active_as q.address) 0 rows) refl (ap is_active_state e)
    by (Active a c) e =
        pick_case P (eqb a q.address) _ _ (λ t. again (ap (active_as_state q.address) e ∙ t)) (λ t. turned 0x02 two-refuses)

-- ---- a row that does not wait has had its bytes: what they bring about

module _ {own : FarmSheet} {f : Farm} (k : Ready own f) (seat : ℕ) (n : is_waiting (row_at f.rows seat) ≡ false) where
  -- an answer that closes, and one that makes active
  refused_handed : (address code : ℕ) → eqb code accepted ≡ false → Handed own f (answered own seat address code f).farm
  unfolding answered and_then
  refused_handed address code e = rw e (closed_handed k seat n)

  accepted-farm : (address : ℕ) → (answered own seat address accepted f).farm ≡ with_row f seat (active_row address)
  unfolding answered
  accepted-farm address = rw (eq-eqb accepted accepted refl) refl

  requested_handed : (q : Request) → Handed own f (requested own seat q f).farm
  unfolding requested
  requested_handed q =
      decide_case (λ d. Handed own f (decided_by own seat q d f).farm) own f.rows seat q (refused_handed q.address)
      (λ t. subst (Handed own f) (sym (accepted-farm q.address)) (again_handed k seat n q.address t))
      (λ u o l. subst (Handed own f) (sym (accepted-farm q.address)) (opened_handed k seat n q.address u o l))
      (λ check. joined_handed k seat n q)

  target_handed : (e : Ends) (t : TargetIs) → Handed own f (to_target own seat e t f).farm
  target_handed e stranger = kept_handed k
  target_handed e unreachable = kept_handed k
  target_handed e reachable = kept_handed k

  diagnosed_handed : (e : Ends) → Handed own f (diagnosed own seat e f).farm
  unfolding diagnosed and_then
  diagnosed_handed e =
      pick_case (λ (d : Done). Handed own f d.farm) (active_as e.source (row_at f.rows seat)) _ _
      (λ t. target_handed e (own.target e.target)) (λ t. closed_handed k seat n)

  faulted_handed : (fault : Fault) → Handed own f (faulted own seat fault f).farm
  unfolding and_then
  faulted_handed fault =
      pick_case (λ (d : Done). Handed own f d.farm) (closes fault) _ _ (λ t. closed_handed k seat n) (λ t. kept_handed k)

  messaged_handed : (kind : ℕ) (payload : List ℕ) → Handed own f (messaged own seat kind payload f).farm
  messaged_handed kind payload =
      pick_case (λ (d : Done). Handed own f d.farm) (eqb kind 0x0005) _ _ (λ t. requested_handed (request_in payload))
      (λ t. pick_case (λ (d : Done). Handed own f d.farm) (eqb kind 0x0008) _ _ (λ u. marked_handed k seat (address_in payload))
      (λ u. pick_case (λ (d : Done). Handed own f d.farm) (eqb kind 0x8001) _ _ (λ v. diagnosed_handed (ends_in payload)) (λ v. kept_handed k)))

  event_handed : (e : Event) (room : List ℕ) → Handed own f (event_done own seat e room f).farm
  unfolding event_done
  event_handed input_ended room = kept_handed k
  event_handed (wrong fault) room = faulted_handed fault
  event_handed (finished kind size) room = messaged_handed kind (take size room)
  event_handed (skipped size) room = kept_handed k

-- ---- the calls

-- a row waits after its bytes as it did before them
heard-waits : (f : Farm) (seat : ℕ) (t : Taken) → is_waiting (row_at (heard seat t f).rows seat) ≡ is_waiting (row_at f.rows seat)
unfolding heard
heard-waits f seat t =
    (set_same f.rows seat (heard_row t.count t.stream (row_at f.rows seat))
    (heard_same t.count (row_at f.rows seat).state) seat).waits

heard-line : (f : Farm) (seat : ℕ) (t : Taken) → (heard seat t f).line ≡ f.line
unfolding heard
heard-line f seat t = refl

module _ {own : FarmSheet} {f : Farm} (k : Ready own f) where
  pub bytes_calm : (seat : ℕ) (t : Taken) → is_waiting (row_at f.rows seat) ≡ false → Calm own (bytes_done own seat t f).farm
  unfolding bytes_done and_then
  bytes_calm seat t n =
      handed_calm own (heard seat t f) (event_done own seat t.event t.stream.room (heard seat t f)).farm
      (event_handed (heard_ready k seat t) seat (heard-waits f seat t ∙ n) t.event t.stream.room)

  pub closes_calm : (seat : ℕ) → Calm own (peer_gone own seat f).farm
  unfolding peer_gone and_then
  closes_calm seat = handed_calm own f (left own seat (closed own seat f).farm).farm (left_handed k seat)

  pub ticked_calm : Calm own (ticked own f).farm
  unfolding ticked and_then
  ticked_calm = handed_calm own f (tick_settles own f) (ticking_handed k)

  -- a free row opens: nothing that the check looks at
  pub opens_calm : (seat : ℕ) → is_free (row_at f.rows seat) ≡ true → Calm own (with_row f seat fresh_row)
  opens_calm seat e =
      (ready_same k (with_row f seat fresh_row) (set_same f.rows seat fresh_row (by (row_at f.rows seat).state e)) refl refl refl).calm
    where
      by : (s : RowState) → is_free_state s ≡ true → SameState s (Fresh (clock_of 0))
      by Free t = record { waits = refl; wants = refl; active = refl; address = λ a. refl }
      by (Fresh c) t = absurd (false≢true t)
      by (Waiting q) t = absurd (false≢true t)
      by (Active a c) t = absurd (false≢true t)

-- every row is gone, and the line with them
pub link_calm : (own : FarmSheet) (f : Farm) → Calm own (link_gone own f).farm
unfolding link_gone and_then
link_calm own f = calm_none own (cleared (with_line g [])) refl (anew_cleared (with_line g []))
  where
    g : Farm
    g = (closed_where own (λ seat r. is_open r) f).farm

take_in : (n : ℕ) (l : List Row) (i : ℕ) → i < length (take n l) → i < n
take_in zero l i h = absurd (not-suc-le-zero h)
take_in (suc n) [] i h = absurd (not-suc-le-zero h)
take_in (suc n) (x ∷ l) zero h = omega arith
take_in (suc n) (x ∷ l) (suc i) h = omega (arith, take_in n l i (omega arith))

-- the row that connect opens was free
pub lowest_free : (n : ℕ) (rows : List Row) (seat : ℕ) → first_at is_free 0 (take n rows) ≡ Some seat → is_free (row_at rows seat) ≡ true
lowest_free n rows seat e = by (first_stands is_free free_row (take n rows) seat 0 e)
  where
    by : Stands is_free free_row (take n rows) seat 0 → is_free (row_at rows seat) ≡ true
    by (stands i z h t) =
        let y : i ≡ seat = omega arith in
        subst (λ (s : ℕ). is_free (row_at rows s) ≡ true) y (subst (λ (r : Row). is_free r ≡ true) (get_or-take n rows i free_row (take_in n rows i h)) t)

module _ {own : FarmSheet} (h : Held) (k : Good own h.farm) where
  -- after the call, or as before where it is refused
  connect_calm : (o : Option ℕ) → first_at is_free 0 (take own.rows h.farm.rows) ≡ o → Calm own (held_by h (connected_at own h o)).farm
  connect_calm None e = calm_of k
  connect_calm (Some seat) e = opens_calm (ready_of k) seat (lowest_free own.rows h.farm.rows seat e)

  take_calm : (seat : ℕ) (input : List ℕ) (s : RowState) → (row_at h.farm.rows seat).state ≡ s
      → Calm own (held_by h (bytes_by own h seat input s)).farm
  take_calm seat input Free e = calm_of k
  take_calm seat input (Fresh c) e =
      bytes_calm (ready_of k) seat (taken_by seat (get_or h.rooms seat []) input h.farm) (ap is_waiting_state e)
  take_calm seat input (Waiting q) e = calm_of k
  take_calm seat input (Active a c) e =
      bytes_calm (ready_of k) seat (taken_by seat (get_or h.rooms seat []) input h.farm) (ap is_waiting_state e)

  tester_calm : (from to : ℕ) (user : List ℕ) (o : Option ℕ) → Calm own (held_by h (to_tester own h from to user o)).farm
  tester_calm from to user (Some seat) = calm_of k
  tester_calm from to user None = calm_of k

  all_calm : (c : Own) → Calm own (held_by h (move own h c)).farm
  unfolding move connects datagram_move controller_move
  all_calm connect = connect_calm (first_at is_free 0 (take own.rows h.farm.rows)) refl
  all_calm (bytes seat input) = take_calm seat input (row_at h.farm.rows seat).state refl
  all_calm (peer_closed seat) =
      pick_case (λ m. Calm own (held_by h m).farm) (is_open (row_at h.farm.rows seat)) _ _ (λ t. closes_calm (ready_of k) seat) (λ t. calm_of k)
  all_calm link_lost = link_calm own h.farm
  all_calm (datagram input) = calm_of k
  all_calm (controller from to user) =
      unless_case (λ m. Calm own (held_by h m).farm) (leb 1 (length user)) _ _ (λ t. calm_of k)
      (λ t. unless_case (λ m. Calm own (held_by h m).farm) (leb (length user) most_user) _ _ (λ u. calm_of k)
      (λ u. unless_case (λ m. Calm own (held_by h m).farm) (is_target (own.target from)) _ _ (λ v. calm_of k)
      (λ v. tester_calm from to user (first_at (active_as to) 0 h.farm.rows))))

-- ---- the main theorems

-- WHILE THE HEAD STAYS, the rows asked stay the same rows (open points, A32). `f` is the farm before the call, `g` the farm that the call
-- hands to settling. If the head still waits in `g` and its check goes on, then it is the same check, and a row is asked after exactly if
-- it was before. The single changes have their lemmas in CalmChange: heard-asked, closed-asked, opened-asked, joined-asked, marked-asked,
-- ticking-asked.
module _ {own : FarmSheet} {f : Farm} (k : Good own f) (head : ℕ) (rest : List ℕ) (e : f.line ≡ head ∷ rest) where
  -- in a bytes call, whatever its bytes come to
  pub bytes_asked : (seat : ℕ) (t : Taken) → is_waiting (row_at f.rows seat) ≡ false
      → let g = (event_done own seat t.event t.stream.room (heard seat t f)).farm in
      is_waiting (row_at g.rows head) ≡ true → Stays own f g head
  bytes_asked seat t n w p =
      same_then (heard_asked (ready_of k) seat t head)
      (handed_asked own (heard seat t f) (event_done own seat t.event t.stream.room (heard seat t f)).farm
      (event_handed (heard_ready (ready_of k) seat t) seat (heard-waits f seat t ∙ n) t.event t.stream.room) head rest
      (heard-line f seat t ∙ e) w p)

  -- where the peer closes a row
  pub left_asked : (seat : ℕ) → let g = (left own seat (closed own seat f).farm).farm in is_waiting (row_at g.rows head) ≡ true → Stays own f g head
  left_asked seat w = handed_asked own f (left own seat (closed own seat f).farm).farm (left_handed (ready_of k) seat) head rest e w

  -- in a tick
  pub tick_asked : Stays own f (tick_settles own f) head
  tick_asked = ticking_asked (ready_of k) head rest e

-- EVERY ACCEPTED CALL keeps the rules on the running check: after it the line is empty with clock 0 and no marks, or its head's check is
-- needed and undecided, its clock is below the limit, and marks stand on asked rows only.
pub move_calm : {own : FarmSheet} (h : Held) (c : Own) (g : Given) → Good own h.farm → move own h c ≡ gave g → Calm own g.held.farm
move_calm {own} h c g k e = subst (λ (m : Move). Calm own (held_by h m).farm) e (all_calm h k c)

-- SO DOES THE TICK.
pub tick_calm : {own : FarmSheet} (f : Farm) → Good own f → Calm own (ticked own f).farm
tick_calm f k = ticked_calm (ready_of k)
