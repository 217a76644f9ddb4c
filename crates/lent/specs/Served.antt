-- What a public call gives back: its answer, and every byte of the lent memory afterwards.
-- Assumes nothing: these are definitions.
use Rattle.std.specs.Prelude.{ℕ, ◌≡◌, Bool, true, List, ◌++◌, length, drop, Result, Ok, Err}
use Rattle.kinds.specs.declared.Refusal.{Refusal}
use Rattle.kinds.specs.Number.{refusal_number}
use Rattle.octets.specs.Put.{put_at}
use Rattle.outsheet.specs.Sheet.{sheet_of}
use Rattle.outsheet.specs.Replies.{entries_of}
use Rattle.model.specs.Move.{no_row}
use Rattle.model.specs.Table.{Call, Did, Outcome, refuses, did, number_of, row_of, took_of, table_of}
use Rattle.lent.specs.declared.Answer.{Answer}
use Rattle.lent.specs.Lent.{whole_table, lent_table, table_bytes, room_bytes, lent_step, lent_start}

-- "A refusal returns its number, output length 0, bytes taken 0, row 255."; "Answer 0 is done"
abbrev pub refusal : ℕ → Answer
refusal n = record { number = n; row = no_row; taken = 0; length = 0 }

abbrev pub done : ℕ → ℕ → ℕ → Answer
done row taken length = record { number = 0; row = row; taken = taken; length = length }

-- what a host is answered: a refusal is its number
abbrev pub answered : Result Answer Refusal → Answer
answered (Ok a) = a
answered (Err why) = refusal (refusal_number why)

-- the output sheet of a call
abbrev pub sheet_bytes : Did → List ℕ
sheet_bytes d = sheet_of (entries_of d.long d.items)

-- "Table and buffers stay byte for byte."
abbrev pub length_after : Outcome → ℕ
length_after (refuses n) = 0
length_after (did d) = length (sheet_bytes d)

-- "Bytes past the total stay."
abbrev pub output_after : List ℕ → Outcome → List ℕ
output_after out (refuses n) = out
output_after out (did d) = sheet_bytes d ++ drop (length (sheet_bytes d)) out

abbrev pub table_after : List ℕ → Outcome → List ℕ
table_after t (refuses n) = t
table_after t (did d) = table_bytes d.table

-- the rooms of the sheet's rows; what stands behind the last of them stays
abbrev pub rooms_after : List ℕ → Outcome → List ℕ
rooms_after m (refuses n) = m
rooms_after m (did d) = put_at m 0 (room_bytes d.table)

-- after an accepted call the bytes are those of a table
abbrev pub whole_after : List ℕ → Outcome → Bool
whole_after t (refuses n) = whole_table t
whole_after t (did d) = true

-- a host's memory: the lent table, the output buffer, the assembling buffer
pub record Memory : Type 0 where
  pub table : List ℕ
  pub output : List ℕ
  pub assembling : List ℕ

abbrev pub memory : List ℕ → List ℕ → List ℕ → Memory
memory t out m = record { table = t; output = out; assembling = m }

-- the answer and the lent memory after a call are what its outcome says: every byte, and what the bytes mean
pub record Served (s : List ℕ) (o : Outcome) (a : Answer) (before after : Memory) : Type 0 where
  pub number : a.number ≡ number_of o
  pub row : a.row ≡ row_of o
  pub taken : a.taken ≡ took_of o
  pub output_length : a.length ≡ length_after o
  pub table_is : after.table ≡ table_after before.table o
  pub output_is : after.output ≡ output_after before.output o
  pub assembling_is : after.assembling ≡ rooms_after before.assembling o
  pub means :
      lent_table s after.table after.assembling ≡ table_of (lent_table s before.table before.assembling) o
  pub whole : whole_table after.table ≡ whole_after before.table o

-- ---- THE CONTRACTS OF THE PUBLIC CALLS: gateway's functions and those for C ensure just these, and the promises of the crate host are of them

-- c is one of connectTo (the function connect), bytesFrom (bytes), peerClosedOn (peer_closed), linkLostOf (link_lost), tick (tick),
-- datagramTo (datagram), messageFrom (controller_message)
abbrev pub CallServed : List ℕ → Call → Answer → Memory → Memory → Type 0
CallServed s c a before after = Served s (lent_step s before.table before.output before.assembling c) a before after

-- of start
abbrev pub StartServed : List ℕ → Answer → Memory → Memory → Type 0
StartServed s a before after = Served s (lent_start s before.table before.output before.assembling) a before after
