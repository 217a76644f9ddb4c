-- What a bytes call of one farm has done.
-- Assumes nothing: these are definitions.
use Rattle.std.specs.Prelude.{ℕ, ◌≤◌, ◌≡◌, List, take}
use Rattle.kinds.specs.declared.Item.{Item}
use Rattle.wire.specs.Header.{most_payload}
use Rattle.model.specs.FarmSheet.{FarmSheet}
use Rattle.model.specs.Stream.{Taken}
use Rattle.model.specs.Farm.{Farm}
use Rattle.model.specs.Bytes.{payload_by, bytes_done}
use Rattle.closing.specs.Did.{Did}
use Rattle.farm_bytes.specs.declared.Heard.{Heard}

-- t is what the call takes of its input, f the farm before it
pub record BytesDid (r : Heard) (own : FarmSheet) (seat : ℕ) (t : Taken) (f : Farm) (p : List Item) (after : List ℕ) (plan : List Item) (left : List ℕ) : Type 0 where
  -- "and says how many it took"
  pub count : r.count ≡ t.count
  -- "stored at its place in its row's 2,048; nothing else there ever changes"
  pub room : left ≡ t.stream.room
  -- the payload that is handed on, if one is
  pub long : take r.long left ≡ payload_by t.event t.stream.room
  pub short : r.long ≤ most_payload
  pub did : Did p after plan (bytes_done own seat t f)
