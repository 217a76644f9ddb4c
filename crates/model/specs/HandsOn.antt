-- The words of demand 2's last sentence: "A whole diagnostic message that the header rules pass reaches a controller exactly when its
-- sender is active on that connection and the controller is known, reachable and of that farm." (proofs/HandOn says that it is so.)
-- Assumes nothing: these are definitions.
use Rattle.std.specs.Prelude.{ℕ, ◌+◌, ◌≤◌, ◌≡◌, Bool, true, false, List, [], ◌∷◌, ◌++◌, length, get_or, take}
use Rattle.octets.specs.Search.{count_if}
use Rattle.octets.specs.Parts.{part}
use Rattle.kinds.specs.declared.Place.{Place}
use Rattle.kinds.specs.declared.Place.TheVariants.{Header, Reading, Skipping}
use Rattle.kinds.specs.declared.Row.{Row}
use Rattle.kinds.specs.declared.Item.{Item}
use Rattle.kinds.specs.declared.Reply.{Reply}
use Rattle.kinds.specs.declared.Reply.TheVariants.{Nack, Identity, Activation, AliveCheck, Status, PowerMode, Message, Ack, DiagnosticNack, Close, HandOn}
use Rattle.wire.specs.Header.{header_size, header_at, verdict_of, passed}
use Rattle.payload.specs.Payload.{ends_in}
use Rattle.model.specs.FarmSheet.{FarmSheet, reachable}
use Rattle.model.specs.Row.{row_at, active_as}
use Rattle.model.specs.Farm.{says}
use Rattle.model.specs.Move.{Held}

-- ---- the message

-- the bytes of its message that a row has in hand; of one that is skipped only the header is kept
abbrev pub in_hand_bytes : Place → List ℕ → List ℕ → List ℕ
in_hand_bytes (Header n) head room = take n head
in_hand_bytes (Reading n) head room = head ++ take n room
in_hand_bytes (Skipping n) head room = head

-- a whole message of this type, that the header rules pass, stands at the front of these bytes
pub record WholeOf (kind : ℕ) (m : List ℕ) : Type 0 where
  pub whole : header_size + (header_at m 0).length ≤ length m
  pub passes : verdict_of (header_at m 0) ≡ passed
  pub is_kind : (header_at m 0).kind ≡ kind

-- "A whole diagnostic message that the header rules pass"
abbrev pub Whole : List ℕ → Type 0
Whole m = WholeOf 0x8001 m

-- its payload: the bytes behind the header, so many as it announces
abbrev pub payload_of : List ℕ → List ℕ
payload_of m = part m header_size (header_at m 0).length

-- the bytes that the row then has of its message: those in hand, and the input
abbrev pub bytes_at : Held → ℕ → List ℕ → List ℕ
bytes_at h seat input = in_hand_bytes (row_at h.farm.rows seat).place (row_at h.farm.rows seat).head (get_or h.rooms seat []) ++ input

-- ---- the entries

-- "3 hand on": the entry hands a payload on to a controller
abbrev pub is_hand_on : Reply → Bool
is_hand_on (Nack c) = false
is_hand_on Identity = false
is_hand_on (Activation a e c) = false
is_hand_on AliveCheck = false
is_hand_on (Status q o) = false
is_hand_on (PowerMode m) = false
is_hand_on (Message k t) = false
is_hand_on (Ack t s c) = false
is_hand_on (DiagnosticNack t s c) = false
is_hand_on Close = false
is_hand_on HandOn = true

-- how many entries hand a payload on
abbrev pub hand_ons : List Item → ℕ
hand_ons items = count_if (λ (it : Item). is_hand_on it.reply) items

-- ---- the claim

-- the sender is active on the row, and the controller is known, reachable and of the farm; the message is whole and its header passes
pub record Reaches (own : FarmSheet) (r : Row) (m : List ℕ) : Type 0 where
  pub message : Whole m
  pub sender : active_as (ends_in (payload_of m)).source r ≡ true
  pub controller : own.target (ends_in (payload_of m)).target ≡ reachable

-- the payload is handed on, once, from that row, directly behind its acknowledgement, and it is the message's payload byte for byte
pub record Handed (own : FarmSheet) (seat : ℕ) (m : List ℕ) (items : List Item) (long : List ℕ) : Type 0 where
  pub rest : List Item
  pub entries : items ≡ says own seat (Ack (ends_in (payload_of m)).target (ends_in (payload_of m)).source 0x00) ∷ says own seat HandOn ∷ rest
  pub once : hand_ons rest ≡ 0
  pub payload : long ≡ payload_of m

-- and that is so exactly where the message reaches its controller
pub record HandedOn (own : FarmSheet) (h : Held) (seat : ℕ) (input : List ℕ) (items : List Item) (long : List ℕ) : Type 0 where
  pub always : Reaches own (row_at h.farm.rows seat) (bytes_at h seat input) → Handed own seat (bytes_at h seat input) items long
  pub only : 1 ≤ hand_ons items → Reaches own (row_at h.farm.rows seat) (bytes_at h seat input)
