-- What a bytes call has done: to the farm's block, to the row's room, and with the output sheet.
-- Assumes nothing: these are definitions.
use Rattle.std.specs.Prelude.{ℕ, ◌+◌, ◌*◌, ◌≡◌, List}
use Rattle.octets.specs.Parts.{part}
use Rattle.octets.specs.Put.{put_at}
use Rattle.kinds.specs.declared.Item.{Item}
use Rattle.sheet.specs.Rows.{first_row}
use Rattle.outsheet.specs.Sheet.{sheet_of}
use Rattle.outsheet.specs.Replies.{entries_of}
use Rattle.outsheet.specs.Contracts.{Wrote}
use Rattle.model.specs.FarmSheet.{farm_sheet}
use Rattle.model.specs.Farm.{Done}
use Rattle.model.specs.Stream.{Taken}
use Rattle.model.specs.Bytes.{taken_by, payload_by, bytes_done}
use Rattle.model.specs.Move.{no_row}
use Rattle.table.specs.Block.{farm_of, Holds}
use Rattle.farm_bytes.specs.declared.Heard.{Heard}
use Rattle.farm_bytes.specs.Bytes.{BytesDid}
use Rattle.lent.specs.declared.Answer.{Answer}
use Rattle.lent.specs.Lent.{block, Only, room_size}
use Rattle.lent.specs.Served.{done}

-- where a row's room stands, and its bytes
abbrev pub room_at : List ℕ → ℕ → ℕ → ℕ
room_at s f seat = (first_row s f + seat) * room_size

abbrev pub room : List ℕ → ℕ → ℕ → List ℕ → List ℕ
room s f seat m = part m (room_at s f seat) room_size

-- what the call takes of its input, and what it does then
abbrev pub heard_taken : List ℕ → ℕ → ℕ → List ℕ → List ℕ → List ℕ → Taken
heard_taken s f seat input t m = taken_by seat (room s f seat m) input (farm_of (block t f))

abbrev pub heard_done : List ℕ → ℕ → ℕ → List ℕ → List ℕ → List ℕ → Done
heard_done s f seat input t m = bytes_done (farm_sheet s f) seat (heard_taken s f seat input t m) (farm_of (block t f))

-- only the row's room is another
pub record OnlyRoom (s : List ℕ) (f seat : ℕ) (m after : List ℕ) : Type 0 where
  pub put : after ≡ put_at m (room_at s f seat) (room s f seat after)

-- in the table and the assembling buffer
pub record HeardAt (s : List ℕ) (f seat : ℕ) (input : List ℕ) (p : List Item) (t m : List ℕ) (plan : List Item) (after left : List ℕ) (r : Heard) : Type 0 where
  pub only : Only f t after
  pub only_room : OnlyRoom s f seat m left
  pub did :
      BytesDid r (farm_sheet s f) seat (heard_taken s f seat input t m) (farm_of (block t f)) p (block after f) plan (room s f seat left)

-- and with the output sheet
pub record HeardOut (s : List ℕ) (f seat : ℕ) (input t out m after output left : List ℕ) (a : Answer) : Type 0 where
  pub answer : a ≡ done no_row (heard_taken s f seat input t m).count a.length
  pub only : Only f t after
  pub only_room : OnlyRoom s f seat m left
  pub holds : Holds (block after f) (heard_done s f seat input t m).farm
  pub stored : room s f seat left ≡ (heard_taken s f seat input t m).stream.room
  pub wrote :
      Wrote
      (sheet_of
      (entries_of (payload_by (heard_taken s f seat input t m).event (heard_taken s f seat input t m).stream.room)
      (heard_done s f seat input t m).items))
      out output a.length
