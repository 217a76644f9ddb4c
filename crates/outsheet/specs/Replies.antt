-- What the items of a plan say, as entries of the output sheet. `long` is the one long payload of a call: the user data of a
-- message, a payload that is handed on, or the record of the farm that an identity is of.
-- Assumes nothing: these are definitions.
use Rattle.std.specs.Prelude.{ℕ, Bool, true, false, List, [], map, eqb, length}
use Rattle.octets.specs.Choice.{pick}
use Rattle.kinds.specs.declared.Reply.{Reply}
use Rattle.kinds.specs.declared.Reply.TheVariants.{Nack, Identity, Activation, AliveCheck, Status, PowerMode, Message, Ack, DiagnosticNack, Close, HandOn}
use Rattle.kinds.specs.declared.Item.{Item}
use Rattle.layout.specs.FarmRecord.{farm_record_size}
use Rattle.layout.specs.Layout.{nack_bytes, identity_bytes, activation_bytes, alive_check_bytes, status_bytes, power_mode_bytes, message_bytes, ack_bytes, diagnostic_nack_bytes}
use Rattle.outsheet.specs.Sheet.{Entry, entry}

-- "Kinds: 1 send, 2 close (empty), 3 hand on."
abbrev pub send : ℕ
send = 1

abbrev pub close : ℕ
close = 2

abbrev pub hand_on : ℕ
hand_on = 3

abbrev pub kind_of : Reply → ℕ
kind_of (Nack c) = send
kind_of Identity = send
kind_of (Activation a e c) = send
kind_of AliveCheck = send
kind_of (Status q o) = send
kind_of (PowerMode m) = send
kind_of (Message k t) = send
kind_of (Ack t s c) = send
kind_of (DiagnosticNack t s c) = send
kind_of Close = close
kind_of HandOn = hand_on

-- 0004 of the farm whose record is lent. Bytes of another length are no farm's record, and nothing is sent of them: a call that
-- sends no identity then need not show that it lends a record (DECISIONS, D4).
abbrev pub identity_of : ℕ → List ℕ → List ℕ
identity_of version farm = pick (eqb (length farm) farm_record_size) (identity_bytes version farm) []

abbrev pub reply_bytes : ℕ → List ℕ → Reply → List ℕ
reply_bytes version long (Nack c) = nack_bytes version c
reply_bytes version long Identity = identity_of version long
reply_bytes version long (Activation a e c) = activation_bytes version a e c
reply_bytes version long AliveCheck = alive_check_bytes version
reply_bytes version long (Status q o) = status_bytes version q o
reply_bytes version long (PowerMode m) = power_mode_bytes version m
reply_bytes version long (Message k t) = message_bytes version k t long
reply_bytes version long (Ack t s c) = ack_bytes version t s c
reply_bytes version long (DiagnosticNack t s c) = diagnostic_nack_bytes version t s c
reply_bytes version long Close = []
reply_bytes version long HandOn = long

abbrev pub entry_of : List ℕ → Item → Entry
entry_of long it = entry it.row.0 (kind_of it.reply) (reply_bytes it.version long it.reply)

abbrev pub entries_of : List ℕ → List Item → List Entry
entries_of long items = map (entry_of long) items

-- the replies that hold lent bytes; of all others the length is known
abbrev pub is_long : Reply → Bool
is_long (Nack c) = false
is_long Identity = true
is_long (Activation a e c) = false
is_long AliveCheck = false
is_long (Status q o) = false
is_long (PowerMode m) = false
is_long (Message k t) = true
is_long (Ack t s c) = false
is_long (DiagnosticNack t s c) = false
is_long Close = false
is_long HandOn = true

abbrev pub is_long_item : Item → Bool
is_long_item it = is_long it.reply
