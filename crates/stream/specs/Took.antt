-- What a bytes call takes of its input, in the model's words.
-- Assumes nothing: these are definitions.
use Rattle.std.specs.Prelude.{ℕ, ◌+◌, ◌≡◌, Bool, List}
use Rattle.octets.specs.Choice.{pick}
use Rattle.octets.specs.Put.{put_at}
use Rattle.kinds.specs.declared.Event.{Event as Ours}
use Rattle.kinds.specs.declared.Event.TheVariants.{InputEnded, Wrong, Finished, Skipped}
use Rattle.model.specs.Row.{no_head, boundary}
use Rattle.model.specs.Stream.{Stream, Event, input_ended, wrong, finished, skipped, Fed, more, ends, stream_of, Taken, taken}
use Rattle.stream.specs.declared.Took.{Took}

-- what ended the call: "the input ends, a header is judged wrong, or one message is finished"
abbrev pub event_of : Ours → Event
event_of InputEnded = input_ended
event_of (Wrong fault) = wrong fault
event_of (Finished kind size) = finished kind size
event_of (Skipped size) = skipped size

-- an answer and the room as the call left it: what was taken
abbrev pub taken_of : Took → List ℕ → Taken
taken_of r room = taken r.count (event_of r.event) (stream_of r.place r.head room)

-- an answer and the room as the call left it are what the machine of single bytes takes
pub record Takes (r : Took) (left : List ℕ) (t : Taken) : Type 0 where
  -- "and says how many it took"
  pub count : r.count ≡ t.count
  pub event : event_of r.event ≡ t.event
  pub place : r.place ≡ t.stream.place
  pub head : r.head ≡ t.stream.head
  -- "stored at its place in its row's 2,048; nothing else there ever changes"
  pub room : left ≡ t.stream.room

-- a run of bytes, put from a place on or not
abbrev pub kept_run : Bool → List ℕ → ℕ → List ℕ → List ℕ
kept_run kept x n bytes = pick kept (put_at x n bytes) x

-- between two messages again
abbrev pub between : ℕ → Ours → Took
between n event = record { count = n; event = event; place = boundary; head = no_head }

-- so many bytes were taken before
abbrev pub later_by : ℕ → Took → Took
later_by n r = record { count = n + r.count; event = r.event; place = r.place; head = r.head }

abbrev pub further : ℕ → Taken → Taken
further n t = taken (n + t.count) t.event t.stream

-- after so many bytes the call goes on, or it ends
abbrev pub takes_after : ℕ → Fed → (Stream → Taken) → Taken
takes_after n (more s) rest = further n (rest s)
takes_after n (ends e s) rest = taken n e s
