-- "The byte stream as a machine": one row's bytes, one at a time.
-- Assumes nothing: these are definitions.
use Rattle.std.specs.Prelude.{ℕ, suc, ◌+◌, Bool, List, [], ◌∷◌, eqb, ltb, set, Result, Ok, Err}
use Rattle.octets.specs.Choice.{pick, either}
use Rattle.kinds.specs.declared.Fault.{Fault}
use Rattle.kinds.specs.declared.Place.{Place}
use Rattle.kinds.specs.declared.Place.TheVariants.{Header, Reading, Skipping}
use Rattle.wire.specs.declared.header.Header.{Header as Head}
use Rattle.wire.specs.Header.{header_size, header_at, verdict_of, closes}
use Rattle.model.specs.Row.{no_head, boundary}

-- where a row stands in its bytes, and its room of the assembling buffer
pub record Stream : Type 0 where
  pub place : Place
  pub head : List ℕ
  pub room : List ℕ

-- what ends a bytes call: "takes bytes until the input ends, a header is judged wrong, or one message is finished"
pub data Event : Type 0 where
  input_ended : Event
  wrong : Fault → Event
  finished : (kind size : ℕ) → Event
  skipped : (size : ℕ) → Event

-- after one byte: the call goes on, or it ends
pub data Fed : Type 0 where
  more : Stream → Fed
  ends : Event → Stream → Fed

abbrev pub stream_of : Place → List ℕ → List ℕ → Stream
stream_of p h m = record { place = p; head = h; room = m }

-- between two messages again
abbrev pub rested : List ℕ → Stream
rested room = stream_of boundary no_head room

-- "Each taken payload byte of a 0005, 0008 or 8001 whose header passed is stored at its place in its row's 2,048; nothing else there
-- ever changes."
abbrev pub is_stored : ℕ → Bool
is_stored kind = either (eqb kind 0x0005) (either (eqb kind 0x0008) (eqb kind 0x8001))

abbrev pub stored_in : ℕ → List ℕ → ℕ → ℕ → List ℕ
stored_in kind room n byte = pick (is_stored kind) (set room n byte) room

-- a header judged wrong closes the row, or its payload is skipped; where there is none to skip, its message is over
abbrev pub after_wrong : Fault → List ℕ → List ℕ → Stream
after_wrong fault head room =
    pick (closes fault) (rested room)
    (pick (eqb (header_at head 0).length 0) (rested room) (stream_of (Skipping 0) head room))

abbrev pub judged : Result Unit Fault → List ℕ → List ℕ → Fed
judged (Ok tt) head room = more (stream_of (Reading 0) head room)
judged (Err fault) head room = ends (wrong fault) (after_wrong fault head room)

-- a header byte: "Judged when all eight are in"
abbrev pub header_byte : ℕ → List ℕ → List ℕ → Fed
header_byte n head room =
    pick (ltb (n + 1) header_size) (more (stream_of (Header (n + 1)) head room)) (judged (verdict_of (header_at head 0)) head room)

-- a payload byte that is read, and one that is skipped
abbrev pub read_byte : ℕ → Head → List ℕ → List ℕ → Fed
read_byte n h head room =
    pick (ltb (n + 1) h.length) (more (stream_of (Reading (n + 1)) head room)) (ends (finished h.kind h.length) (rested room))

abbrev pub skipped_byte : ℕ → Head → List ℕ → List ℕ → Fed
skipped_byte n h head room =
    pick (ltb (n + 1) h.length) (more (stream_of (Skipping (n + 1)) head room)) (ends (skipped h.length) (rested room))

abbrev pub feed_at : Place → List ℕ → List ℕ → ℕ → Fed
feed_at (Header n) head room byte = header_byte n (set head n byte) room
feed_at (Reading n) head room byte = read_byte n (header_at head 0) head (stored_in (header_at head 0).kind room n byte)
feed_at (Skipping n) head room byte = skipped_byte n (header_at head 0) head room

unfoldable pub feed : Stream → ℕ → Fed
feed s byte = feed_at s.place s.head s.room byte

-- what a bytes call takes of its input: how many bytes, what ended it, and where the stream is then
pub record Taken : Type 0 where
  pub count : ℕ
  pub event : Event
  pub stream : Stream

abbrev pub taken : ℕ → Event → Stream → Taken
taken n e s = record { count = n; event = e; stream = s }

abbrev pub one_more : Taken → Taken
one_more t = taken (suc t.count) t.event t.stream

abbrev pub takes_by : Fed → (Stream → Taken) → Taken
takes_by (more s) rest = one_more (rest s)
takes_by (ends e s) rest = taken 1 e s

unfoldable pub takes : Stream → List ℕ → Taken
takes s [] = taken 0 input_ended s
takes s (byte ∷ bytes) = takes_by (feed s byte) (λ t. takes t bytes)

-- "finished (8 plus payload for each message wholly read or skipped; 8 for a header that closes)"; a header whose payload is to be
-- skipped and has no byte is a message wholly skipped
abbrev pub over_at : Place → ℕ
over_at (Header n) = header_size
over_at (Reading n) = 0
over_at (Skipping n) = 0

abbrev pub ended_by : Event → Stream → ℕ
ended_by input_ended s = 0
ended_by (wrong fault) s = over_at s.place
ended_by (finished kind size) s = header_size + size
ended_by (skipped size) s = header_size + size
