-- Datagrams: the verdict, and what each gets.
-- Assumes nothing: these are definitions.
use Rattle.std.specs.Prelude.{ℕ, ◌-◌, Bool, List, eqb, leb, length, drop, Option, Some, None, Result, Ok, Err}
use Rattle.kinds.specs.declared.Reply.{Reply}
use Rattle.octets.specs.Choice.{pick, both, either, unless}
use Rattle.octets.specs.Search.{same_list}
use Rattle.kinds.specs.declared.Fault.{Fault}
use Rattle.kinds.specs.declared.Fault.TheVariants.{Pattern, UnknownType, WrongLength}
use Rattle.kinds.specs.declared.Reply.TheVariants.{Nack, Identity, Status, PowerMode}
use Rattle.layout.specs.FarmRecord.{quota_in, mode_in, vin_in, eid_in}
use Rattle.types.specs.Types.{udp, known_on, length_fits}
use Rattle.wire.specs.Header.{header_size, header_at, right_pattern, passed, code_of}
use Rattle.wire.specs.declared.header.Header.{Header}

-- "pattern (FF 00 is also right for 0001 to 0003)"
abbrev pub right_for : Header → Bool
right_for h =
    either (right_pattern h.version h.inverse)
    (both (both (eqb h.version 255) (eqb h.inverse 0)) (both (leb 1 h.kind) (leb h.kind 3)))

-- "length, which must fit the type and equal the bytes that follow (ours)"
abbrev pub length_right : Header → ℕ → Bool
length_right h following = both (length_fits udp h.kind h.length) (eqb h.length following)

-- "Else pattern .., type, then length .. There is no closing and no code 02."
unfoldable pub head_verdict : Header → ℕ → Result Unit Fault
head_verdict h following =
    unless (right_for h) (Err Pattern)
    (unless (known_on udp h.kind) (Err UnknownType)
    (unless (length_right h following) (Err WrongLength) passed))

-- "Datagrams: under 8 bytes, or of type 0000, never answered.": these have no verdict
unfoldable pub datagram_verdict : List ℕ → Option (Result Unit Fault)
datagram_verdict d =
    unless (leb header_size (length d)) None
    (pick (eqb (header_at d 0).kind 0) None (Some (head_verdict (header_at d 0) (length d - header_size))))

abbrev pub payload_of : List ℕ → List ℕ
payload_of d = drop header_size d

-- the farm names itself to whoever asked for it by name
abbrev pub if_named : Bool → Option Reply
if_named named = pick named (Some Identity) None

-- "0001 always, 0002 if the EID and 0003 if the VIN matches: answer 0004 .. 4001: answer 4002 with 00, q, open rows of the farm ..
-- 4003: 4004 with the mode." (0004 is read and dropped.)
unfoldable pub answer_by : ℕ → List ℕ → List ℕ → ℕ → Option Reply
answer_by kind payload farm opened =
    pick (eqb kind 0x0001) (Some Identity)
    (pick (eqb kind 0x0002) (if_named (same_list payload (eid_in farm)))
    (pick (eqb kind 0x0003) (if_named (same_list payload (vin_in farm)))
    (pick (eqb kind 0x4001) (Some (Status (quota_in farm) opened))
    (pick (eqb kind 0x4003) (Some (PowerMode (mode_in farm))) None))))

abbrev pub answer_for : Option (Result Unit Fault) → List ℕ → List ℕ → ℕ → Option Reply
answer_for None d farm opened = None
answer_for (Some (Ok tt)) d farm opened = answer_by (header_at d 0).kind (payload_of d) farm opened
answer_for (Some (Err fault)) d farm opened = Some (Nack (code_of fault))

-- what a datagram to a farm with this record and so many open rows gets
unfoldable pub answer_to : List ℕ → List ℕ → ℕ → Option Reply
answer_to d farm opened = answer_for (datagram_verdict d) d farm opened
