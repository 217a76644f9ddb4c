-- "a readable activation request": where the bytes that a row has in hand, and those that come, begin with a whole 0005 that the header rules
-- pass, the call reads that request, byte for byte. So demand 3's bound holds of a request that is told by its bytes.
-- Assumes nothing.
use Prim.Native.Nat.{ℕ, ◌+◌, ◌*◌, ◌≤◌}
use mathlib.Core.Path.{◌≡◌, refl, ap, ◌∙◌}
use mathlib.Core.Bool.{false}
use mathlib.Core.List.{List, []}
use native.Mathlib.Omega.{arith}
use lib.ListN.{length, get_or}
use Rattle.kinds.specs.declared.Request.{Request}
use Rattle.wire.specs.Header.{most_payload, header_at}
use Rattle.payload.specs.Payload.{request_in}
use Rattle.model.specs.FarmSheet.{slot_sheet}
use Rattle.kinds.specs.Clock.{check_limit}
use Rattle.model.specs.Row.{row_at}
use Rattle.model.specs.Table.{Table, slot, table_of}
use Rattle.model.specs.History.{Made, fresh, step_of, run}
use Rattle.model.specs.HandsOn.{bytes_at}
use Rattle.model.specs.Words.{taken_of, MustWait, ReadableWaits, Answered, ticks_in, cut_in, entries_in}
use Rattle.model.specs.Rule.{Good}
use Rattle.model.proofs.RuleKept.{slot-good, run-good, fresh-good}
use Rattle.model.proofs.HandOnStream.{Ends, stream-ends}
use Rattle.model.proofs.HandOnHistory.{room_stays}
use Rattle.model.proofs.Bound.{must_be_answered}

-- On a farm that keeps rule 4, with 2,048 bytes of room for the row: the request that the bytes hold is the one that the call reads.
pub reads_the_bytes : (s : List ℕ) (t : Table) (m : Made) (row g seat : ℕ) (q : Request) → Good (slot_sheet s g) (slot t g).farm
    → most_payload ≤ length (get_or (slot t g).rooms seat []) → ReadableWaits s t m row g seat q → MustWait s t m row g seat q
reads_the_bytes s t m row g seat q good room w =
    record {
      input = w.input;
      size = (header_at (bytes_at (slot t g) seat w.input) 0).length;
      check = w.check;
      bytes_of = w.bytes_of;
      done = w.done;
      owner = w.owner;
      whole = ends.finishes w.readable;
      reads = ap request_in (ends.stores w.readable) ∙ w.reads;
      waits = w.waits;
    }
  where
    ends : Ends 0x0005 (bytes_at (slot t g) seat w.input) (taken_of (slot t g) seat w.input).event (taken_of (slot t g) seat w.input).stream
    ends =
        stream-ends 0x0005 refl (row_at (slot t g).farm.rows seat).place (row_at (slot t g).farm.rows seat).head
        (get_or (slot t g).rooms seat []) w.input (good.tidy seat).eight room (good.possible seat)

-- DEMAND 3, BY THE BYTES: as `must_be_answered`, of a request that its bytes tell.
pub readable-is-answered : (s : List ℕ) (rooms : List (List (List ℕ))) (past : List Made) (m : Made) (row g seat k : ℕ) (q : Request)
    → most_payload ≤ length (get_or (get_or rooms g []) seat [])
    → ReadableWaits s (run s (fresh rooms) past) m row g seat q → k ≡ length (slot (run s (fresh rooms) past) g).farm.line + 1
    → let joined = table_of (run s (fresh rooms) past) (step_of s (run s (fresh rooms) past) m) in
    (ms : List Made) → cut_in row g s joined ms ≡ false → check_limit * k ≤ ticks_in s joined ms → Answered row q.address (entries_in s joined ms)
readable-is-answered s rooms past m row g seat k q room w e ms c h =
    must_be_answered s rooms past m row g seat k q
    (reads_the_bytes s (run s (fresh rooms) past) m row g seat q
    (slot-good s 0 g (run s (fresh rooms) past) g (omega arith) (run-good s (fresh rooms) past (fresh-good s 0 rooms)))
    (room_stays s rooms past g seat most_payload room) w) e ms c h
