-- What the functions that write the output sheet ask for and give.
-- Assumes nothing: these are definitions.
use Rattle.std.specs.Prelude.{◌≡◌, List, ◌++◌, ℕ, ◌+◌, ◌≤◌, ◌<◌, length, drop}
use Rattle.octets.specs.Put.{put_at}
use Rattle.outsheet.specs.Sheet.{Entry, entry_bytes, offsets, bodies, first_place, total_of}
use Rattle.outsheet.specs.Replies.{entries_of}
use Rattle.kinds.specs.declared.Item.{Item}

-- "Output buffer: at least 4,096 bytes."
abbrev pub least_output : ℕ
least_output = 4096

-- the longest payload that a call is lent: "2,048 for each of 16 rows"
abbrev pub longest : ℕ
longest = 2048

-- the entry has room at a place of a buffer of n bytes, and a u16 holds its length
pub record Fits (e : Entry) (at n : ℕ) : Type 0 where
  pub small : length e.bytes < 65536
  pub wide : at + (4 + length e.bytes) ≤ n

-- the entry stands at a place, nothing else changed, and `next` is the place after it
pub record Entered (e : Entry) (before after : List ℕ) (at next : ℕ) : Type 0 where
  pub place : next ≡ at + (4 + length e.bytes)
  pub bytes : after ≡ put_at before at (entry_bytes e)

-- the sheet of a plan's items has room in every output buffer, so in this one of n bytes
pub record Room (items : List Item) (long : List ℕ) (n : ℕ) : Type 0 where
  pub short : total_of (entries_of long items) ≤ least_output
  pub wide : least_output ≤ n

-- the offsets and the entries stand at their places, the four bytes before them are as they were, and the answer is the total
pub record Laid (es : List Entry) (before after : List ℕ) (total : ℕ) : Type 0 where
  pub is : total ≡ total_of es
  pub bytes : after ≡ put_at (put_at before 4 (offsets (first_place (length es)) es)) (first_place (length es)) (bodies es)

-- the sheet stands at the start of the buffer, its length is the answer; "Bytes past the total stay."
pub record Wrote (sheet before after : List ℕ) (total : ℕ) : Type 0 where
  pub is : total ≡ length sheet
  pub bytes : after ≡ sheet ++ drop (length sheet) before
