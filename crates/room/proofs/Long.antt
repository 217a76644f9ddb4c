-- At most one entry of a call holds lent bytes, and these are 2,048 at most.
-- Assumes nothing.
use Rattle.std.proofs.Common.{Option, Result, Some, None, Ok, Err}
use Prim.{Unit, tt}
use Prim.Native.Nat.{ℕ, ◌+◌, ◌≤◌}
use mathlib.Core.Path.{◌≡◌, refl}
use mathlib.Core.Bool.{Bool, true, false}
use mathlib.Core.List.{List, [], ◌∷◌}
use native.Mathlib.Omega.{arith}
use lib.Dec.{eqb, ltb}
use lib.ListN.{length, length-take, set, take}
use Rattle.octets.specs.Choice.{pick}
use Rattle.octets.specs.Search.{count_if}
use Rattle.kinds.specs.declared.Fault.{Fault}
use Rattle.kinds.specs.declared.Request.{Request}
use Rattle.kinds.specs.declared.Decision.{Decision}
use Rattle.kinds.specs.declared.Decision.TheVariants.{Now, Ask}
use Rattle.kinds.specs.declared.Place.{Place}
use Rattle.kinds.specs.declared.Place.TheVariants.{Header, Reading, Skipping}
use Rattle.kinds.specs.declared.Item.{Item}
use Rattle.kinds.specs.declared.Reply.{Reply}
use Rattle.kinds.specs.declared.Reply.TheVariants.{Nack, DiagnosticNack}
use Rattle.payload.specs.declared.Ends.{Ends}
use Rattle.wire.specs.Header.{header_size, header_at, verdict_of, code_of, closes, most_payload}
use Rattle.payload.specs.Payload.{request_in, ends_in}
use Rattle.wire.proofs.HeaderLaws.{passes-all}
use Rattle.outsheet.specs.Replies.{is_long}
use Rattle.model.specs.FarmSheet.{FarmSheet, TargetIs, stranger, unreachable, reachable}
use Rattle.model.specs.Row.{row_at, is_open, active_as, at_limit}
use Rattle.model.specs.Stream.{Stream, Event, input_ended, wrong, finished, skipped, is_stored, Fed, more, ends, judged, feed_at, feed, Taken, takes_by, takes}
use Rattle.model.specs.Farm.{Farm, Done, does, and_then, says, closed, closed_where}
use Rattle.model.specs.Line.{decide, left, settle}
use Rattle.model.specs.Bytes.{decided_by, requested, to_target, diagnosed, faulted, event_done, payload_by, heard, bytes_done}
use Rattle.model.specs.Move.{clock_run, aged, answers, peer_gone, link_gone, ticked}
use Rattle.model.specs.Rule.{PossibleAt}
use Rattle.model.proofs.Cases.{pick_case}
use Rattle.model.proofs.HandOnNone.{said, None as NoneOf, said_append, none_quiet, none-one, none_then, none-closed, none_closings, none-joined, none_left, none-answered, none-settle}
use Rattle.model.proofs.SoundRows.{one-small}
use Rattle.model.proofs.SoundStream.{PossibleIn, takes_well}

-- ---- at most one

-- so many entries hold lent bytes
abbrev pub longs : List Item → ℕ
longs items = said is_long items

-- none of what a farm does holds lent bytes, or at most one
abbrev pub Short : Done → Type 0
Short d = NoneOf is_long d

abbrev pub OneLong : Done → Type 0
OneLong d = longs d.items ≤ 1

quiet_one : longs [] ≤ 1
unfolding count_if
quiet_one = omega arith

module _ (own : FarmSheet) where
  settle-short : (f : Farm) → Short (settle own f)
  settle-short f = none-settle is_long refl refl (λ a e c. refl) own f

  closing-short : (seat : ℕ) (reply : Reply) (f : Farm) → is_long reply ≡ false → Short (and_then (does f (says own seat reply ∷ [])) (closed own seat))
  closing-short seat reply f e =
      none_then is_long (does f (says own seat reply ∷ [])) (closed own seat) (none-one is_long (says own seat reply) e) (none-closed is_long refl own seat f)

  requested-short : (seat : ℕ) (q : Request) (f : Farm) → Short (requested own seat q f)
  unfolding requested
  requested-short seat q f = by (decide own f.rows seat q)
    where
      by : (d : Decision) → Short (decided_by own seat q d f)
      by (Now code) = none-answered is_long refl refl (λ a e c. refl) own seat q.address code f
      by (Ask check) = none-joined is_long refl own seat q f

  faulted-short : (seat : ℕ) (fault : Fault) (f : Farm) → Short (faulted own seat fault f)
  faulted-short seat fault f =
      pick_case Short (closes fault) _ _ (λ _. closing-short seat (Nack (code_of fault)) f refl)
      (λ _. none-one is_long (says own seat (Nack (code_of fault))) refl)

  -- only a payload that is handed on
  target_one : (seat : ℕ) (e : Ends) (f : Farm) (t : TargetIs) → OneLong (to_target own seat e t f)
  unfolding count_if
  target_one seat e f stranger = omega arith
  target_one seat e f unreachable = omega arith
  target_one seat e f reachable = omega arith

  diagnosed-one : (seat : ℕ) (e : Ends) (f : Farm) → OneLong (diagnosed own seat e f)
  unfolding diagnosed
  diagnosed-one seat e f =
      pick_case OneLong (active_as e.source (row_at f.rows seat)) _ _ (λ _. target_one seat e f (own.target e.target))
      (λ _. omega (arith, closing-short seat (DiagnosticNack e.target e.source 0x02) f refl))

  event-one : (seat : ℕ) (e : Event) (room : List ℕ) (f : Farm) → OneLong (event_done own seat e room f)
  unfolding event_done
  event-one seat input_ended room f = quiet_one
  event-one seat (wrong fault) room f = omega (arith, faulted-short seat fault f)
  event-one seat (finished kind size) room f =
      pick_case OneLong (eqb kind 0x0005) _ _ (λ _. omega (arith, requested-short seat (request_in (take size room)) f))
      (λ _. pick_case OneLong (eqb kind 0x0008) _ _ (λ _. quiet_one)
      (λ _. pick_case OneLong (eqb kind 0x8001) _ _ (λ _. diagnosed-one seat (ends_in (take size room)) f) (λ _. quiet_one)))
  event-one seat (skipped size) room f = quiet_one

  pub bytes_one : (seat : ℕ) (t : Taken) (f : Farm) → OneLong (bytes_done own seat t f)
  unfolding bytes_done and_then
  bytes_one seat t f =
      let d : Done = event_done own seat t.event t.stream.room (heard seat t f) in
      omega (arith, said_append is_long d.items (settle own d.farm).items, event-one seat t.event t.stream.room (heard seat t f), settle-short d.farm)

  pub peer_short : (seat : ℕ) (f : Farm) → Short (peer_gone own seat f)
  unfolding peer_gone
  peer_short seat f =
      none_then is_long _ (settle own) (none_then is_long (closed own seat f) (left own seat) (none-closed is_long refl own seat f) (none_left is_long refl own seat _))
      (settle-short _)

  pub link_short : (f : Farm) → Short (link_gone own f)
  unfolding link_gone
  link_short f = none_then is_long (closed_where own (λ seat r. is_open r) f) _ (none_closings is_long refl own (λ seat r. is_open r) f) (none_quiet is_long)

  pub ticked-short : (f : Farm) → Short (ticked own f)
  unfolding ticked
  ticked-short f =
      none_then is_long (closed_where own (λ seat r. at_limit r) (aged (clock_run f.line f))) (settle own)
      (none_closings is_long refl own (λ seat r. at_limit r) (aged (clock_run f.line f))) (settle-short _)

-- a datagram has one entry at most
pub answers_few : (a : Option Reply) → length (answers a) ≤ 1
answers_few None = omega arith
answers_few (Some reply) = omega arith

pub longs_few : (items : List Item) → longs items ≤ length items
unfolding count_if
longs_few [] = omega arith
longs_few (it ∷ items) = omega (arith, one-small (is_long it.reply), longs_few items)

-- ---- a payload that is handed on is no longer than a header may announce

abbrev Fits : Event → Type 0
Fits e = (room : List ℕ) → length (payload_by e room) ≤ most_payload

abbrev FedFits : Fed → Type 0
FedFits (more s) = Unit {0}
FedFits (ends e s) = Fits e

finished-fits : (kind size : ℕ) → size ≤ most_payload → Fits (finished kind size)
finished-fits kind size h room = by (is_stored kind)
  where
    by : (b : Bool) → length (pick b (take size room) []) ≤ most_payload
    by true = omega (arith, length-take size room)
    by false = omega arith

fed_fits : (p : Place) (head room : List ℕ) (byte : ℕ) → PossibleAt p head → FedFits (feed_at p head room byte)
fed_fits (Header n) head room byte k = pick_case FedFits (ltb (n + 1) header_size) _ _ (λ _. tt) (λ _. by (verdict_of (header_at (set head n byte) 0)))
  where
    by : (v : Result Unit Fault) → FedFits (judged v (set head n byte) room)
    by (Ok tt) = tt
    by (Err fault) = λ m. omega arith
fed_fits (Reading n) head room byte k =
    pick_case FedFits (ltb (n + 1) (header_at head 0).length) _ _ (λ _. tt)
    (λ _. finished-fits (header_at head 0).kind (header_at head 0).length (passes-all (header_at head 0) k.1).short)
fed_fits (Skipping n) head room byte k =
    pick_case FedFits (ltb (n + 1) (header_at head 0).length) _ _ (λ _. tt) (λ _ m. omega arith)

pub takes-fits : (s : Stream) (input : List ℕ) → PossibleIn s → Fits (takes s input).event
unfolding takes feed
takes-fits s [] k = λ room. omega arith
takes-fits s (byte ∷ bytes) k =
    by (feed_at s.place s.head s.room byte) (fed_fits s.place s.head s.room byte k) (takes_well s (byte ∷ []) k) (λ t. takes-fits t bytes)
  where
    by : (d : Fed) → FedFits d → PossibleIn (takes_by d (λ t. takes t [])).stream → ((t : Stream) → PossibleIn t → Fits (takes t bytes).event)
        → Fits (takes_by d (λ t. takes t bytes)).event
    by (more t) q p ih = ih t p
    by (ends e t) q p ih = q
