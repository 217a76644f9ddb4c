-- The words of demand 3's bound: a request that must wait, its place in the line, accepted ticks, cuts, answers.
-- Assumes nothing: these are definitions.
use Rattle.std.specs.Prelude.{ℕ, zero, suc, ◌+◌, ◌≤◌, ◌<◌, ◌≡◌, Bool, true, false, eqb, get_or, take, Some}
use mathlib.Core.List.{List, [], ◌∷◌, ◌++◌, Memᴰ}
use Rattle.octets.specs.Choice.{both, either, one}
use Rattle.kinds.specs.declared.Item.{Item}
use Rattle.kinds.specs.declared.Reply.TheVariants.{Activation}
use Rattle.kinds.specs.declared.Request.{Request}
use Rattle.kinds.specs.declared.Check.{Check}
use Rattle.kinds.specs.declared.Decision.TheVariants.{Now, Ask}
use Rattle.kinds.specs.declared.HeadVerdict.TheVariants.{Pending}
use Rattle.wire.specs.Header.{our_version}
use Rattle.payload.specs.Payload.{request_in}
use Rattle.sheet.specs.Sheet.{farm_count, farm_no}
use Rattle.sheet.specs.Rows.{owner_of}
use Rattle.model.specs.FarmSheet.{FarmSheet, slot_sheet}
use Rattle.kinds.specs.Clock.{check_limit}
use Rattle.model.specs.Row.{row_at, wanted, at_limit}
use Rattle.model.specs.Stream.{finished, Taken}
use Rattle.model.specs.Farm.{Farm, quietly, and_then, says, closed, closed_where}
use Rattle.model.specs.Line.{accepted, socket_rules, decide, all_answered, refusal_of, head_verdict, serve, left}
use Rattle.model.specs.Bytes.{taken_by, event_done, heard}
use Rattle.model.specs.Move.{Own, bytes, peer_closed, Held, clock_run, aged}
use Rattle.model.specs.Table.{Table, slot, Call, connect_to, bytes_from, peer_closed_on, link_lost_of, tick, datagram_to, message_from, farms, everyones, whose, number_of, items_of, table_of}
use Rattle.model.specs.History.{Made, step_of}
use Rattle.model.specs.HandsOn.{WholeOf, payload_of, bytes_at}

-- the seat stands in the line with k others before it: "the head being place 1", that is place k + 1
pub data Stands (seat : ℕ) : List ℕ → ℕ → Type 0 where
  first : {x : ℕ} {l : List ℕ} → seat ≡ x → Stands seat (x ∷ l) zero
  behind : {x : ℕ} {l : List ℕ} {k : ℕ} → Stands seat l k → Stands seat (x ∷ l) (suc k)

-- the response 0006 to this row, for this address
abbrev pub response : ℕ → ℕ → ℕ → ℕ → Item
response row address entity code = record { row = record { 0 = row }; version = our_version; reply = Activation address entity code }

-- one is among the entries
pub data Answered (row address : ℕ) (items : List Item) : Type 0 where
  answers : (entity code : ℕ) → Memᴰ (response row address entity code) items → Answered row address items

-- the call was done, not refused
abbrev pub is_done : List ℕ → Table → Made → Bool
is_done s t m = eqb (number_of (step_of s t m)) 0

-- ---- "a readable activation request that must wait for an alive check"

abbrev pub taken_of : Held → ℕ → List ℕ → Taken
taken_of h seat input = taken_by seat (get_or h.rooms seat []) input h.farm

-- with this call, which is done, the row gives the last byte of a whole 0005 with this request, and the rules, looking at its farm as it is
-- then, say that a check comes first
pub record MustWait (s : List ℕ) (t : Table) (m : Made) (row farm seat : ℕ) (q : Request) : Type 0 where
  pub input : List ℕ
  pub size : ℕ
  pub check : Check
  pub bytes_of : m.call ≡ bytes_from row input
  pub done : is_done s t m ≡ true
  pub owner : owner_of s row ≡ Some (farm_no farm, seat)
  pub whole : (taken_of (slot t farm) seat input).event ≡ finished 0x0005 size
  pub reads : request_in (take size (taken_of (slot t farm) seat input).stream.room) ≡ q
  pub waits : decide (slot_sheet s farm) (slot t farm).farm.rows seat q ≡ Ask check

-- the same, said by the bytes: with this call, which is done, the bytes that the row has in hand and the input behind them begin with a whole
-- 0005 that the header rules pass ("readable"), its payload holds this request, and the rules say that a check comes first
pub record ReadableWaits (s : List ℕ) (t : Table) (m : Made) (row farm seat : ℕ) (q : Request) : Type 0 where
  pub input : List ℕ
  pub check : Check
  pub bytes_of : m.call ≡ bytes_from row input
  pub done : is_done s t m ≡ true
  pub owner : owner_of s row ≡ Some (farm_no farm, seat)
  pub readable : WholeOf 0x0005 (bytes_at (slot t farm) seat input)
  pub reads : request_in (payload_of (bytes_at (slot t farm) seat input)) ≡ q
  pub waits : decide (slot_sheet s farm) (slot t farm).farm.rows seat q ≡ Ask check

-- a readable request that has its answer at once: the rules, looking at its farm when the bytes are in, need no check
pub record ReadableNow (own : FarmSheet) (h : Held) (seat : ℕ) (input : List ℕ) (q : Request) (code : ℕ) : Type 0 where
  pub readable : WholeOf 0x0005 (bytes_at h seat input)
  pub reads : request_in (payload_of (bytes_at h seat input)) ≡ q
  pub decided : decide own (heard seat (taken_of h seat input) h.farm).rows seat q ≡ Now code

-- the entries begin with this one
pub record Begins (it : Item) (items : List Item) : Type 0 where
  pub rest : List Item
  pub begins : items ≡ it ∷ rest

-- ---- along a history, from a table on

abbrev pub is_tick : Call → Bool
is_tick (connect_to f) = false
is_tick (bytes_from r input) = false
is_tick (peer_closed_on r) = false
is_tick (link_lost_of f) = false
is_tick tick = true
is_tick (datagram_to f input) = false
is_tick (message_from f from to user) = false

-- "the accepted clock tick"
abbrev pub accepted_tick : List ℕ → Table → Made → Bool
accepted_tick s t m = both (is_tick m.call) (is_done s t m)

unfoldable pub ticks_in : List ℕ → Table → List Made → ℕ
ticks_in s t [] = 0
ticks_in s t (m ∷ ms) = one (accepted_tick s t m) + ticks_in s (table_of t (step_of s t m)) ms

-- "its own connection or its farm's link is lost"
abbrev pub is_loss : ℕ → ℕ → Call → Bool
is_loss row farm (connect_to f) = false
is_loss row farm (bytes_from r input) = false
is_loss row farm (peer_closed_on r) = eqb r row
is_loss row farm (link_lost_of f) = eqb f farm
is_loss row farm tick = false
is_loss row farm (datagram_to f input) = false
is_loss row farm (message_from f from to user) = false

-- a refused call loses nothing
abbrev pub cuts : ℕ → ℕ → List ℕ → Table → Made → Bool
cuts row farm s t m = both (is_loss row farm m.call) (is_done s t m)

-- some call of the history does so
unfoldable pub cut_in : ℕ → ℕ → List ℕ → Table → List Made → Bool
cut_in row farm s t [] = false
cut_in row farm s t (m ∷ ms) = either (cuts row farm s t m) (cut_in row farm s (table_of t (step_of s t m)) ms)

-- all entries of its calls, in their order
unfoldable pub entries_in : List ℕ → Table → List Made → List Item
entries_in s t [] = []
entries_in s t (m ∷ ms) = items_of (step_of s t m) ++ entries_in s (table_of t (step_of s t m)) ms

-- ---- "The answer is the one the rules give at the moment of deciding."

-- why the head of this farm's line has this code, as the farm is now
pub data Because (own : FarmSheet) (f : Farm) (head : ℕ) : ℕ → Type 0 where
  -- "if it needs no check, it has its answer"
  needs_none : {code : ℕ} → socket_rules own f.rows (wanted (row_at f.rows head)) ≡ Now code → Because own f head code
  -- "If all asked rows answered: 03 (check of that row) or 01 (check of all)."
  all_did : {check : Check} → socket_rules own f.rows (wanted (row_at f.rows head)) ≡ Ask check
      → all_answered check f.marks f.rows ≡ true → Because own f head (refusal_of check)
  -- "If the clock is 50: unanswered asked rows close, then 10."
  ran_out : {check : Check} → socket_rules own f.rows (wanted (row_at f.rows head)) ≡ Ask check
      → all_answered check f.marks f.rows ≡ false → check_limit ≤ f.clock.ticks → Because own f head accepted

-- the farms that settling goes through, each with the head that is decided then: "Settling one waiter brings up the next, whose settling may
-- do the same."
pub data Moment (own : FarmSheet) : List ℕ → Farm → ℕ → Farm → Type 0 where
  this_head : {head : ℕ} {rest : List ℕ} {f : Farm} → Moment own (head ∷ rest) f head f
  next_head : {head : ℕ} {rest : List ℕ} {f : Farm} {other : ℕ} {g : Farm} → (head_verdict own f head ≡ Pending → ⊥)
      → Moment own rest (serve own head rest f (head_verdict own f head) quietly).farm other g → Moment own (head ∷ rest) f other g

-- the entry is the answer to a head, at a moment of the settling of this line, for the reason that the rules then give
pub record AnswerAt (own : FarmSheet) (line : List ℕ) (f : Farm) (it : Item) : Type 0 where
  pub head : ℕ
  pub moment : Farm
  pub reached : Moment own line f head moment
  pub code : ℕ
  pub because : Because own moment head code
  pub is_entry : it ≡ says own head (Activation (wanted (row_at moment.rows head)) own.entity code)

-- the farm that a call hands to settling
pub data ToSettle (own : FarmSheet) (h : Held) : Own → Farm → Type 0 where
  after_bytes : (seat : ℕ) (input : List ℕ)
      → ToSettle own h (bytes seat input)
      (event_done own seat (taken_of h seat input).event (taken_of h seat input).stream.room (heard seat (taken_of h seat input) h.farm)).farm
  after_close : (seat : ℕ) → ToSettle own h (peer_closed seat) (and_then (closed own seat h.farm) (left own seat)).farm

-- why a call of the farm sends a response 0006
pub data Why (own : FarmSheet) (h : Held) (c : Own) (it : Item) : Type 0 where
  -- the request that the call finished has its answer at once: the rules need no check
  at_once : (seat : ℕ) (input : List ℕ) (size code : ℕ) (q : Request) → c ≡ bytes seat input → (taken_of h seat input).event ≡ finished 0x0005 size
      → request_in (take size (taken_of h seat input).stream.room) ≡ q
      → decide own (heard seat (taken_of h seat input) h.farm).rows seat q ≡ Now code
      → it ≡ says own seat (Activation q.address own.entity code) → Why own h c it
  -- the head of the line has its answer
  in_line : (g : Farm) → ToSettle own h c g → AnswerAt own g.line g it → Why own h c it

-- ---- the same of a call on the whole table, and along a history

-- the farm that a tick hands to settling
abbrev pub tick_settles : FarmSheet → Farm → Farm
tick_settles own f = (closed_where own (λ seat r. at_limit r) (aged (clock_run f.line f))).farm

-- why a call sends a response 0006: it is a call of a farm, or a tick, and the rules give it on that farm as it is then
pub data Reasoned (s : List ℕ) (t : Table) (c : Call) (it : Item) : Type 0 where
  by_call : (f : ℕ) (own : Own) → whose s c ≡ farms f own → Why (slot_sheet s f) (slot t f) own it → Reasoned s t c it
  by_tick : (f : ℕ) → f < farm_count s → whose s c ≡ everyones
      → AnswerAt (slot_sheet s f) (tick_settles (slot_sheet s f) (slot t f).farm).line (tick_settles (slot_sheet s f) (slot t f).farm) it
      → Reasoned s t c it

-- some call of the history sends this row a response 0006 for this address, with the code that the rules give in that call
pub data Decided (s : List ℕ) (row address : ℕ) : Table → List Made → Type 0 where
  here : {t : Table} {m : Made} {ms : List Made} (entity code : ℕ)
      → Memᴰ (response row address entity code) (items_of (step_of s t m))
      → Reasoned s t m.call (response row address entity code) → Decided s row address t (m ∷ ms)
  later : {t : Table} {m : Made} {ms : List Made} → Decided s row address (table_of t (step_of s t m)) ms → Decided s row address t (m ∷ ms)
