-- A bytes call of one farm: what is taken, and what the message that it finishes brings about.
-- Assumes nothing: these are definitions.
use Rattle.std.specs.Prelude.{ℕ, List, [], ◌∷◌, eqb, take}
use Rattle.octets.specs.Choice.{pick}
use Rattle.kinds.specs.declared.Fault.{Fault}
use Rattle.kinds.specs.declared.Request.{Request}
use Rattle.kinds.specs.declared.Row.{Row}
use Rattle.kinds.specs.declared.Decision.{Decision}
use Rattle.kinds.specs.declared.Decision.TheVariants.{Now, Ask}
use Rattle.kinds.specs.declared.Reply.TheVariants.{Nack, Ack, DiagnosticNack, HandOn}
use Rattle.payload.specs.declared.Ends.{Ends}
use Rattle.wire.specs.Header.{code_of, closes}
use Rattle.payload.specs.Payload.{request_in, address_in, ends_in}
use Rattle.model.specs.FarmSheet.{FarmSheet, TargetIs, stranger, unreachable, reachable}
use Rattle.model.specs.Row.{row_at, active_as, heard_state}
use Rattle.model.specs.Stream.{Stream, stream_of, is_stored, Event, input_ended, wrong, finished, skipped, Taken, takes, ended_by}
use Rattle.model.specs.Farm.{Farm, with_row, with_meters, took_more, finished_more, Done, does, quietly, and_then, says, closed}
use Rattle.model.specs.Line.{decide, answered, joined, marked, settle}

-- ---- 0005

abbrev pub decided_by : FarmSheet → ℕ → Request → Decision → Farm → Done
decided_by own seat q (Now code) f = answered own seat q.address code f
decided_by own seat q (Ask check) f = joined own seat q f

unfoldable pub requested : FarmSheet → ℕ → Request → Farm → Done
requested own seat q f = decided_by own seat q (decide own f.rows seat q) f

-- ---- 8001: "In order: row not active or source not its address: 8003 with 02, close (ours); target not one of this farm's: 03; not
-- reachable: 06; else 8002 with 00 and the payload is handed on. Both replies: target, source, code."

abbrev pub to_target : FarmSheet → ℕ → Ends → TargetIs → Farm → Done
to_target own seat e stranger f = does f (says own seat (DiagnosticNack e.target e.source 0x03) ∷ [])
to_target own seat e unreachable f = does f (says own seat (DiagnosticNack e.target e.source 0x06) ∷ [])
to_target own seat e reachable f = does f (says own seat (Ack e.target e.source 0x00) ∷ says own seat HandOn ∷ [])

unfoldable pub diagnosed : FarmSheet → ℕ → Ends → Farm → Done
diagnosed own seat e f =
    pick (active_as e.source (row_at f.rows seat)) (to_target own seat e (own.target e.target) f)
    (and_then (does f (says own seat (DiagnosticNack e.target e.source 0x02) ∷ [])) (closed own seat))

-- ---- a message is finished; "0000, 0004, 8002 and 8003 are read and dropped."

abbrev pub messaged : FarmSheet → ℕ → ℕ → List ℕ → Farm → Done
messaged own seat kind payload f =
    pick (eqb kind 0x0005) (requested own seat (request_in payload) f)
    (pick (eqb kind 0x0008) (quietly (marked own seat (address_in payload) f))
    (pick (eqb kind 0x8001) (diagnosed own seat (ends_in payload) f) (quietly f)))

-- a header judged wrong: its NACK, and the close where the fault closes
abbrev pub faulted : FarmSheet → ℕ → Fault → Farm → Done
faulted own seat fault f =
    pick (closes fault) (and_then (does f (says own seat (Nack (code_of fault)) ∷ [])) (closed own seat))
    (does f (says own seat (Nack (code_of fault)) ∷ []))

-- what ended the call, with the row's room as it is then
unfoldable pub event_done : FarmSheet → ℕ → Event → List ℕ → Farm → Done
event_done own seat input_ended room f = quietly f
event_done own seat (wrong fault) room f = faulted own seat fault f
event_done own seat (finished kind size) room f = messaged own seat kind (take size room) f
event_done own seat (skipped size) room f = quietly f

-- the row with its new place, and the meters: "taken (bytes taken), finished (..)"
abbrev pub heard_row : ℕ → Stream → Row → Row
heard_row n s r = record { state = heard_state n r.state; place = s.place; head = s.head }

unfoldable pub heard : ℕ → Taken → Farm → Farm
heard seat t f =
    with_meters (with_row f seat (heard_row t.count t.stream (row_at f.rows seat)))
    (finished_more (ended_by t.event t.stream) (took_more t.count f.meters))

-- what the call takes of its input
abbrev pub taken_by : ℕ → List ℕ → List ℕ → Farm → Taken
taken_by seat room input f = takes (stream_of (row_at f.rows seat).place (row_at f.rows seat).head room) input

-- the payload that is handed on, if the call hands one on: the whole of the message that it finished. One that is read and dropped is not
-- stored, so that what stands in the room is not its payload
abbrev pub payload_by : Event → List ℕ → List ℕ
payload_by input_ended room = []
payload_by (wrong fault) room = []
payload_by (finished kind size) room = pick (is_stored kind) (take size room) []
payload_by (skipped size) room = []

unfoldable pub bytes_done : FarmSheet → ℕ → Taken → Farm → Done
bytes_done own seat t f =
    and_then (event_done own seat t.event t.stream.room (heard seat t f)) (settle own)
