-- Hand-ons in a history from a fresh table: rule 4 is kept, and a row's room keeps its length, so the claim needs nothing of the table.
-- Assumes nothing.
use Rattle.std.proofs.Common.{Option, Result, Some, None, Ok, Err}
use Rattle.kinds.specs.declared.Fault.{Fault}
use Prim.Native.Nat.{ℕ, zero, suc, ◌+◌, ◌≤◌}
use mathlib.Core.Path.{◌≡◌, refl, ap, ◌∙◌}
use mathlib.Core.List.{List, [], ◌∷◌}
use Prim.{Unit, tt}
use native.Mathlib.Omega.{arith}
use lib.Dec.{eqb, leb, ltb}
use lib.ListN.{length, get_or, set, take, length-set}
use Rattle.octets.specs.Search.{first_at}
use Rattle.kinds.specs.declared.Place.{Place}
use Rattle.kinds.specs.declared.Place.TheVariants.{Header, Reading, Skipping}
use Rattle.kinds.specs.declared.RowState.{RowState}
use Rattle.kinds.specs.declared.RowState.TheVariants.{Free, Fresh, Waiting, Active}
use Rattle.sheet.specs.Sheet.{farm_count, farm_no}
use Rattle.sheet.specs.Rows.{owner_of}
use Rattle.wire.specs.Header.{header_size, header_at, most_payload, verdict_of, closes}
use Rattle.model.specs.FarmSheet.{FarmSheet, slot_sheet}
use Rattle.model.specs.Row.{row_at, is_free, is_open, active_as}
use Rattle.model.specs.Stream.{Stream, stream_of, Fed, more, ends, is_stored, stored_in, judged, feed_at, feed, takes_by, takes}
use Rattle.model.specs.Move.{Own, connect, bytes, peer_closed, link_lost, datagram, controller, Held, Move, refused, gave, connected_at, connects, bytes_by, datagram_move, most_user, is_target, to_tester, controller_move, move, tick_move}
use Rattle.model.specs.Table.{Table, slot, Call, bytes_from, Lent, Whose, nobodys, farms, everyones, whose, Did, did, moved_to, held_by, tick_table, called, step, table_of}
use Rattle.model.specs.History.{Made, fresh, step_of, run}
use Rattle.model.specs.HandsOn.{HandedOn}
use Rattle.model.proofs.Cases.{pick_case, unless_case}
use Rattle.model.proofs.RuleKept.{slot-good, fresh-good, run-good}
use Rattle.model.proofs.HandOnTable.{step_case, row_handed_on}

-- ---- storing keeps a room's length

abbrev Long : ℕ → Fed → Type 0
Long n (more s) = length s.room ≡ n
Long n (ends e s) = length s.room ≡ n

stored-long : (kind : ℕ) (room : List ℕ) (n byte : ℕ) → length (stored_in kind room n byte) ≡ length room
stored-long kind room n byte = pick_case (λ l. length l ≡ length room) (is_stored kind) _ _ (λ t. length-set room n byte) (λ t. refl)

judged-long : (v : Result Unit Fault) (head room : List ℕ) → Long (length room) (judged v head room)
judged-long (Ok tt) head room = refl
judged-long (Err fault) head room =
    pick_case (λ (s : Stream). length s.room ≡ length room) (closes fault) _ _ (λ t. refl)
    (λ t. pick_case (λ (s : Stream). length s.room ≡ length room) (eqb (header_at head 0).length 0) _ _ (λ u. refl) (λ u. refl))

fed_long : (p : Place) (head room : List ℕ) (byte : ℕ) → Long (length room) (feed_at p head room byte)
fed_long (Header n) head room byte =
    pick_case (Long (length room)) (ltb (n + 1) header_size) _ _ (λ t. refl) (λ t. judged-long (verdict_of (header_at (set head n byte) 0)) (set head n byte) room)
fed_long (Reading n) head room byte =
    pick_case (Long (length room)) (ltb (n + 1) (header_at head 0).length) _ _ (λ t. stored-long (header_at head 0).kind room n byte) (λ t. stored-long (header_at head 0).kind room n byte)
fed_long (Skipping n) head room byte = pick_case (Long (length room)) (ltb (n + 1) (header_at head 0).length) _ _ (λ t. refl) (λ t. refl)

taken-long : (input : List ℕ) (s : Stream) → length (takes s input).stream.room ≡ length s.room
unfolding takes feed
taken-long [] s = refl
taken-long (byte ∷ more_bytes) s = go (taken-long more_bytes) (feed_at s.place s.head s.room byte) (fed_long s.place s.head s.room byte)
  where
    go : ((t : Stream) → length (takes t more_bytes).stream.room ≡ length t.room) → (x : Fed) → Long (length s.room) x
        → length (takes_by x (λ t. takes t more_bytes)).stream.room ≡ length s.room
    go ih (more t) e = ih t ∙ e
    go ih (ends v t) e = e

-- ---- a farm's call keeps the length of every room

abbrev room_length : List (List ℕ) → ℕ → ℕ
room_length rooms seat = length (get_or rooms seat [])

set_long : (rooms : List (List ℕ)) (i seat : ℕ) (room : List ℕ) → length room ≡ room_length rooms i → room_length (set rooms i room) seat ≡ room_length rooms seat
set_long [] i seat room e = refl
set_long (r ∷ rooms) zero zero room e = e
set_long (r ∷ rooms) zero (suc seat) room e = refl
set_long (r ∷ rooms) (suc i) zero room e = refl
set_long (r ∷ rooms) (suc i) (suc seat) room e = set_long rooms i seat room e

module _ (own : FarmSheet) (h : Held) (seat : ℕ) where
  abbrev Kept : Move → Type 0
  Kept (refused n) = Unit {0}
  Kept (gave g) = room_length g.held.rooms seat ≡ room_length h.rooms seat

  move-rooms : (c : Own) → Kept (move own h c)
  unfolding move connects datagram_move controller_move
  move-rooms connect = go (first_at is_free 0 (take own.rows h.farm.rows))
    where
      go : (x : Option ℕ) → Kept (connected_at own h x)
      go None = tt
      go (Some i) = refl
  move-rooms (bytes i input) = go (row_at h.farm.rows i).state
    where
      took : room_length (set h.rooms i (takes (stream_of (row_at h.farm.rows i).place (row_at h.farm.rows i).head (get_or h.rooms i [])) input).stream.room) seat ≡ room_length h.rooms seat
      took = set_long h.rooms i seat _ (taken-long input (stream_of (row_at h.farm.rows i).place (row_at h.farm.rows i).head (get_or h.rooms i [])))

      go : (st : RowState) → Kept (bytes_by own h i input st)
      go Free = tt
      go (Fresh age) = took
      go (Waiting q) = tt
      go (Active a idle) = took
  move-rooms (peer_closed i) = pick_case Kept (is_open (row_at h.farm.rows i)) _ _ (λ t. refl) (λ t. tt)
  move-rooms link_lost = refl
  move-rooms (datagram input) = refl
  move-rooms (controller from to user) =
      unless_case Kept (leb 1 (length user)) _ _ (λ t. tt)
      (λ t. unless_case Kept (leb (length user) most_user) _ _ (λ t. tt)
      (λ t. unless_case Kept (is_target (own.target from)) _ _ (λ t. tt) (λ t. go (first_at (active_as to) 0 h.farm.rows))))
    where
      go : (x : Option ℕ) → Kept (to_tester own h from to user x)
      go None = tt
      go (Some i) = refl

-- ---- and so does a call on the table

module _ (s : List ℕ) (f seat : ℕ) where
  abbrev room_in : Table → ℕ → ℕ
  room_in t g = room_length (slot t g).rooms seat

  set_in : (t : Table) (i g : ℕ) (h : Held) → room_length h.rooms seat ≡ room_in t i → room_in (set t i h) g ≡ room_in t g
  set_in [] i g h e = refl
  set_in (x ∷ t) zero zero h e = e
  set_in (x ∷ t) zero (suc g) h e = refl
  set_in (x ∷ t) (suc i) zero h e = refl
  set_in (x ∷ t) (suc i) (suc g) h e = set_in t i g h e

  tick_in : (i : ℕ) (t : Table) (g : ℕ) → room_in (tick_table s i t) g ≡ room_in t g
  unfolding tick_move
  tick_in i [] g = refl
  tick_in i (h ∷ t) zero = pick_case (λ m. room_length (held_by h m).rooms seat ≡ room_length h.rooms seat) (ltb i (farm_count s)) _ _ (λ e. refl) (λ e. refl)
  tick_in i (h ∷ t) (suc g) = tick_in (suc i) t g

  called_in : (t : Table) (w : Whose) → room_in (table_of t (called s t w)) f ≡ room_in t f
  called_in t (nobodys n) = refl
  called_in t (farms i c) = go (move (slot_sheet s i) (slot t i) c) (move-rooms (slot_sheet s i) (slot t i) seat c)
    where
      go : (m : Move) → Kept (slot_sheet s i) (slot t i) seat m → room_in (table_of t (moved_to t i m)) f ≡ room_in t f
      go (refused n) e = refl
      go (gave g) e = set_in t i f g.held e
  called_in t everyones = tick_in 0 t f

  step_in : (l : Lent) (t : Table) (c : Call) → room_in (table_of t (step s l t c)) f ≡ room_in t f
  step_in l t c = step_case (λ o. room_in (table_of t o) f ≡ room_in t f) s l t c (λ n. refl) (λ g. called_in t (whose s c))

  run_in : (t : Table) (ms : List Made) → room_in (run s t ms) f ≡ room_in t f
  unfolding run
  run_in t [] = refl
  run_in t (m ∷ ms) = run_in (table_of t (step_of s t m)) ms ∙ step_in m.lent t m.call

fresh-rooms : (rooms : List (List (List ℕ))) (f : ℕ) → (slot (fresh rooms) f).rooms ≡ get_or rooms f []
fresh-rooms [] f = refl
fresh-rooms (r ∷ rooms) zero = refl
fresh-rooms (r ∷ rooms) (suc f) = fresh-rooms rooms f

pub room_stays : (s : List ℕ) (rooms : List (List (List ℕ))) (ms : List Made) (f seat n : ℕ) → n ≤ length (get_or (get_or rooms f []) seat [])
    → n ≤ length (get_or (slot (run s (fresh rooms) ms) f).rooms seat [])
room_stays s rooms ms f seat n room =
    omega (arith, room, run_in s f seat (fresh rooms) ms, ap (λ x. length (get_or x seat [])) (fresh-rooms rooms f))

-- DEMAND 2, LAST SENTENCE, IN A HISTORY. From a fresh table over an assembling buffer in which the row has its 2,048 bytes, after any calls:
-- an accepted bytes call on a row of the sheet hands a payload on exactly where the bytes that the row had in hand, and the input behind them,
-- begin with a whole diagnostic message that the header rules pass, whose sender is active on that row, and whose controller is known,
-- reachable and of that row's farm; then once, behind its 8002, and byte for byte.
pub history_hands_on : (s : List ℕ) (rooms : List (List (List ℕ))) (ms : List Made) (l : Lent) (r f seat : ℕ) (input : List ℕ) (d : Did)
    → most_payload ≤ length (get_or (get_or rooms f []) seat []) → owner_of s r ≡ Some (farm_no f, seat)
    → step s l (run s (fresh rooms) ms) (bytes_from r input) ≡ did d
    → HandedOn (slot_sheet s f) (slot (run s (fresh rooms) ms) f) seat input d.items d.long
history_hands_on s rooms ms l r f seat input d room owner e =
    row_handed_on s l (run s (fresh rooms) ms) r f seat input d owner
    (slot-good s 0 f (run s (fresh rooms) ms) f (omega arith) (run-good s (fresh rooms) ms (fresh-good s 0 rooms)))
    (room_stays s rooms ms f seat most_payload room) e
