-- What a call has answered and written, as its host finds it in the answer and in the lent memory.
-- Assumes nothing: these are definitions.
use Rattle.std.specs.Prelude.{ℕ, ◌≤◌, ◌≡◌, eqb, length, drop}
use mathlib.Core.List.{List, ◌∷◌, ◌++◌, Memᴰ}
use Rattle.octets.specs.Search.{count_if}
use Rattle.kinds.specs.declared.Request.{Request}
use Rattle.kinds.specs.declared.Check.{Check}
use Rattle.kinds.specs.declared.Decision.TheVariants.{Ask}
use Rattle.layout.specs.Layout.{ack_bytes, activation_bytes}
use Rattle.wire.specs.Header.{our_version}
use Rattle.payload.specs.Payload.{ends_in, request_in}
use Rattle.outsheet.specs.Sheet.{Entry, entry, sheet_of}
use Rattle.outsheet.specs.Replies.{send, hand_on}
use Rattle.model.specs.FarmSheet.{FarmSheet}
use Rattle.model.specs.Row.{row_at}
use Rattle.model.specs.Move.{no_row, Held}
use Rattle.model.specs.Table.{Call}
use Rattle.model.specs.Line.{decide}
use Rattle.model.specs.HandsOn.{WholeOf, payload_of, bytes_at, Reaches}
use Rattle.model.specs.Words.{response, Reasoned}
use Rattle.lent.specs.declared.Answer.{Answer}
use Rattle.lent.specs.Lent.{lent_table}
use Rattle.lent.specs.Served.{Memory}

-- "A refusal returns its number, output length 0, bytes taken 0, row 255. Table and buffers stay byte for byte."
pub record Untouched (a : Answer) (before after : Memory) : Type 0 where
  pub row : a.row ≡ no_row
  pub taken : a.taken ≡ 0
  pub output_length : a.length ≡ 0
  pub table_stays : after.table ≡ before.table
  pub output_stays : after.output ≡ before.output
  pub assembling_stays : after.assembling ≡ before.assembling

-- the call is done: its output buffer begins with the sheet of these entries, and the answer has the sheet's length. "Bytes past the total
-- stay."
pub record Wrote (es : List Entry) (a : Answer) (before after : Memory) : Type 0 where
  pub done : a.number ≡ 0
  pub output_length : a.length ≡ length (sheet_of es)
  pub output_is : after.output ≡ sheet_of es ++ drop (length (sheet_of es)) before.output

-- ---- messages handed on

-- "3 hand on": how many entries hand a payload on
abbrev pub hand_on_entries : List Entry → ℕ
hand_on_entries es = count_if (λ (e : Entry). eqb e.kind hand_on) es

-- the message m from this row went on to its controller: the sheet begins with the acknowledgement "8002 with 00" to the row, and with the
-- message's payload, byte for byte; no other entry hands anything on
pub record HandedOut (row : ℕ) (m : List ℕ) (a : Answer) (before after : Memory) : Type 0 where
  pub rest : List Entry
  pub wrote :
      Wrote
      (entry row send (ack_bytes our_version (ends_in (payload_of m)).target (ends_in (payload_of m)).source 0x00) ∷ entry row hand_on (payload_of m) ∷ rest)
      a before after
  pub once : hand_on_entries rest ≡ 0

-- the call is done and no entry of its sheet hands anything on
pub record HandsNothing (a : Answer) (before after : Memory) : Type 0 where
  pub entries : List Entry
  pub wrote : Wrote entries a before after
  pub none : hand_on_entries entries ≡ 0

-- demand 2: "reaches a controller exactly when its sender is active on that connection and the controller is known, reachable and of that farm".
-- h is what the farm holds, input what the call brings for its row
pub record HandsExactly (own : FarmSheet) (h : Held) (row seat : ℕ) (input : List ℕ) (a : Answer) (before after : Memory) : Type 0 where
  pub always : Reaches own (row_at h.farm.rows seat) (bytes_at h seat input) → HandedOut row (bytes_at h seat input) a before after
  pub only : (es : List Entry) → Wrote es a before after → 1 ≤ hand_on_entries es → Reaches own (row_at h.farm.rows seat) (bytes_at h seat input)

-- ---- activation

-- "a readable activation request that must wait for an alive check": the bytes that the row has in hand and the input behind them begin with a
-- whole 0005 that the header rules pass, its payload holds this request, and the rules say that a check comes first
pub record Waits (own : FarmSheet) (h : Held) (seat : ℕ) (input : List ℕ) (q : Request) : Type 0 where
  pub check : Check
  pub readable : WholeOf 0x0005 (bytes_at h seat input)
  pub reads : request_in (payload_of (bytes_at h seat input)) ≡ q
  pub waits : decide own h.farm.rows seat q ≡ Ask check

-- the bytes of "Response 0006: address, entity address, code, four zeros", sent to a row
abbrev pub response_entry : ℕ → ℕ → ℕ → ℕ → Entry
response_entry row address entity code = entry row send (activation_bytes our_version address entity code)

-- the sheet begins with this response
pub record RespondsFirst (row address entity code : ℕ) (a : Answer) (before after : Memory) : Type 0 where
  pub rest : List Entry
  pub wrote : Wrote (response_entry row address entity code ∷ rest) a before after

-- the call sends this row a response for this address, with the code that the rules give in that call
pub record Responds (s : List ℕ) (c : Call) (row address : ℕ) (a : Answer) (before after : Memory) : Type 0 where
  pub entity : ℕ
  pub code : ℕ
  pub entries : List Entry
  pub wrote : Wrote entries a before after
  pub sends : Memᴰ (response_entry row address entity code) entries
  pub reasoned : Reasoned s (lent_table s before.table before.assembling) c (response row address entity code)
