-- Meters: "Per farm, u32, wrapping on purpose: taken (bytes taken), finished (8 plus payload for each message wholly read or skipped; 8
-- for a header that closes), lost (bytes of an unfinished message when its row closes). Each is defined from the history of calls by
-- itself." They are read off a day's notes, the calls and their answers, by the header rules alone: only `notes_of` runs the model, to
-- have the answers, and nothing below it knows a table, a place in a stream or a move.
-- Assumes nothing: these are definitions.
use Rattle.std.specs.Prelude.{ℕ, zero, suc, ◌+◌, ◌-◌, ◌≡◌, Bool, true, false, List, [], ◌∷◌, ◌++◌, eqb, leb, ltb, length, take, drop, Result, Ok, Err}
use Rattle.kinds.specs.declared.Fault.{Fault}
use Rattle.octets.specs.Choice.{pick, both, unless}
use Rattle.kinds.specs.declared.Item.{Item}
use Rattle.kinds.specs.declared.Reply.{Reply}
use Rattle.kinds.specs.declared.Reply.TheVariants.{Nack, Identity, Activation, AliveCheck, Status, PowerMode, Message, Ack, DiagnosticNack, Close, HandOn}
use Rattle.kinds.specs.declared.Meters.{Meters}
use Rattle.kinds.specs.declared.Row.{Row}
use Rattle.wire.specs.Header.{header_size, header_at, verdict_of, closes}
use Rattle.model.specs.FarmSheet.{FarmSheet}
use Rattle.model.specs.Row.{in_hand}
use Rattle.model.specs.Farm.{Farm, wrap}
use Rattle.model.specs.Table.{Table, Call, connect_to, bytes_from, peer_closed_on, link_lost_of, tick, datagram_to, message_from, Outcome, refuses, did, table_of}
use Rattle.model.specs.History.{Made, step_of}

-- ---- a day's notes: each call, and what its answer says

-- a call that is turned away takes nothing and says nothing
pub data Said : Type 0 where
  turned_away : Said
  gives : (row took : ℕ) (items : List Item) → Said

abbrev pub said_by : Outcome → Said
said_by (refuses n) = turned_away
said_by (did d) = gives d.row d.took d.items

pub record Note : Type 0 where
  pub call : Call
  pub said : Said

-- the notes of a history
unfoldable pub notes_of : List ℕ → Table → List Made → List Note
notes_of s t [] = []
notes_of s t (m ∷ ms) = record { call = m.call; said = said_by (step_of s t m) } ∷ notes_of s (table_of t (step_of s t m)) ms

-- ---- the bytes of one connection, cut into messages by the header rules alone

-- the header is one that closes the row
abbrev pub stops : Result Unit Fault → Bool
stops (Ok tt) = false
stops (Err fault) = closes fault

-- what the first message of the bytes comes to, by the length that its header announces
abbrev pub whole_size : List ℕ → ℕ
whole_size bytes = header_size + (header_at bytes 0).length

-- "8 plus payload for each message wholly read or skipped; 8 for a header that closes" (after it nothing is taken), and nothing for a
-- message that is not all there. At most so many messages
unfoldable pub finished_up_to : ℕ → List ℕ → ℕ
finished_up_to zero bytes = 0
finished_up_to (suc n) bytes =
    unless (leb header_size (length bytes)) 0
    (pick (stops (verdict_of (header_at bytes 0))) header_size
    (unless (leb (whole_size bytes) (length bytes)) 0 (whole_size bytes + finished_up_to n (drop (whole_size bytes) bytes))))

-- there are no more messages than bytes
abbrev pub finished_in : List ℕ → ℕ
finished_in bytes = finished_up_to (length bytes) bytes

-- the bytes after the last message that is finished
abbrev pub unfinished_in : List ℕ → ℕ
unfinished_in bytes = length bytes - finished_in bytes

-- ---- one row's log: the bytes taken from the connection that it has, and those of its connections that have ended

pub record Log : Type 0 where
  pub now : List ℕ
  pub ended : List (List ℕ)

abbrev pub no_log : Log
no_log = record { now = []; ended = [] }

-- bytes are taken; a connection begins; it ends
abbrev pub took : List ℕ → Log → Log
took bytes l = record { now = l.now ++ bytes; ended = l.ended }

abbrev pub begun : Log → Log
begun l = record { now = []; ended = l.ended }

abbrev pub filed : Log → Log
filed l = record { now = []; ended = l.now ∷ l.ended }

-- the bytes that a call took from the row r
abbrev pub bytes_on : ℕ → Call → ℕ → List ℕ
bytes_on r (connect_to f) n = []
bytes_on r (bytes_from row input) n = pick (eqb row r) (take n input) []
bytes_on r (peer_closed_on row) n = []
bytes_on r (link_lost_of f) n = []
bytes_on r tick n = []
bytes_on r (datagram_to f input) n = []
bytes_on r (message_from f from to user) n = []

-- the call is a connect
abbrev pub is_connect : Call → Bool
is_connect (connect_to f) = true
is_connect (bytes_from row input) = false
is_connect (peer_closed_on row) = false
is_connect (link_lost_of f) = false
is_connect tick = false
is_connect (datagram_to f input) = false
is_connect (message_from f from to user) = false

abbrev pub is_close : Reply → Bool
is_close (Nack code) = false
is_close Identity = false
is_close (Activation address entity code) = false
is_close AliveCheck = false
is_close (Status quota rows) = false
is_close (PowerMode mode) = false
is_close (Message from to) = false
is_close (Ack target source code) = false
is_close (DiagnosticNack target source code) = false
is_close Close = true
is_close HandOn = false

-- each entry that closes the row r ends its connection
unfoldable pub filed_by : ℕ → List Item → Log → Log
filed_by r [] l = l
filed_by r (it ∷ items) l = filed_by r items (pick (both (is_close it.reply) (eqb it.row.0 r)) (filed l) l)

-- a connect that opens the row begins a log; then come the bytes taken, then the closings
abbrev pub noted_by : ℕ → Call → Said → Log → Log
noted_by r c turned_away l = l
noted_by r c (gives row n items) l =
    filed_by r items (took (bytes_on r c n) (pick (both (is_connect c) (eqb row r)) (begun l) l))

unfoldable pub log_from : ℕ → Log → List Note → Log
log_from r l [] = l
log_from r l (n ∷ ns) = log_from r (noted_by r n.call n.said l) ns

abbrev pub log_of : ℕ → List Note → Log
log_of r ns = log_from r no_log ns

-- ---- the three meters of a farm, before wrapping

-- over the connections of a row that have ended
unfoldable pub total : (List ℕ → ℕ) → List (List ℕ) → ℕ
total f [] = 0
total f (l ∷ ls) = f l + total f ls

-- over the seats below n
unfoldable pub sum_to : (ℕ → ℕ) → ℕ → ℕ
sum_to f zero = 0
sum_to f (suc n) = sum_to f n + f n

-- "bytes taken": by the farm's bytes calls
abbrev pub owns_row : FarmSheet → ℕ → Bool
owns_row own r = both (leb own.first r) (ltb r (own.first + own.rows))

abbrev pub took_on : FarmSheet → Call → ℕ → ℕ
took_on own (connect_to f) n = 0
took_on own (bytes_from row input) n = pick (owns_row own row) n 0
took_on own (peer_closed_on row) n = 0
took_on own (link_lost_of f) n = 0
took_on own tick n = 0
took_on own (datagram_to f input) n = 0
took_on own (message_from f from to user) n = 0

abbrev pub taken_by : FarmSheet → Call → Said → ℕ
taken_by own c turned_away = 0
taken_by own c (gives row n items) = took_on own c n

unfoldable pub taken_of : FarmSheet → List Note → ℕ
taken_of own [] = 0
taken_of own (n ∷ ns) = taken_by own n.call n.said + taken_of own ns

-- "finished": over all connections of a row, those that have ended and the one that it has
abbrev pub finished_on : Log → ℕ
finished_on l = finished_in l.now + total finished_in l.ended

-- "lost": over those that have ended
abbrev pub lost_on : Log → ℕ
lost_on l = total unfinished_in l.ended

-- over the farm's rows
abbrev pub finished_of : FarmSheet → List Note → ℕ
finished_of own ns = sum_to (λ i. finished_on (log_of (own.first + i) ns)) own.rows

abbrev pub lost_of : FarmSheet → List Note → ℕ
lost_of own ns = sum_to (λ i. lost_on (log_of (own.first + i) ns)) own.rows

-- ---- "u32, wrapping on purpose": the meters that a day's notes give

pub record MetersAre (own : FarmSheet) (ns : List Note) (m : Meters) : Type 0 where
  pub taken : m.taken ≡ wrap (taken_of own ns)
  pub finished : m.finished ≡ wrap (finished_of own ns)
  pub lost : m.lost ≡ wrap (lost_of own ns)

-- ---- "taken equals finished plus lost plus the bytes in hand on open rows, modulo 2^32"

-- "the bytes in hand on open rows"; a free row has none
unfoldable pub hands : List Row → ℕ
hands [] = 0
hands (r ∷ rows) = in_hand r + hands rows

-- the two sides differ by d: what each call keeps, on any table that keeps rule 4
abbrev pub Differs : ℕ → Farm → Type 0
Differs d f = wrap (f.meters.taken + d) ≡ wrap (f.meters.finished + (f.meters.lost + hands f.rows))

abbrev pub Balanced : Farm → Type 0
Balanced f = wrap f.meters.taken ≡ wrap (f.meters.finished + (f.meters.lost + hands f.rows))
