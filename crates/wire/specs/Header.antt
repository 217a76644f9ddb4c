-- "Headers (001, 9.2, figure 15)": the eight bytes, and what is said of them on TCP.
-- Assumes nothing: these are definitions.
use Rattle.std.specs.Prelude.{ℕ, ◌+◌, ◌-◌, Bool, true, false, List, get_or, eqb, leb, Result, Ok, Err}
use Rattle.octets.specs.Choice.{both, unless}
use Rattle.octets.specs.Numbers.{u16_at, u32_at}
use Rattle.kinds.specs.declared.Fault.{Fault}
use Rattle.kinds.specs.declared.Fault.TheVariants.{Pattern, UnknownType, TooLong, WrongLength}
use Rattle.wire.specs.declared.header.Header.{Header}
use Rattle.types.specs.Types.{tcp, known_on, length_fits}

-- "Eight bytes: version, inverse, type u16, payload length u32."
abbrev pub header_size : ℕ
header_size = 8

abbrev pub header_at : List ℕ → ℕ → Header
header_at s at =
    record { version = get_or s at 0; inverse = get_or s (at + 1) 0; kind = u16_at s (at + 2); length = u32_at s (at + 4) }

-- the version that we speak
abbrev pub our_version : ℕ
our_version = 3

-- the longest payload that a row takes
abbrev pub most_payload : ℕ
most_payload = 2048

-- "not 03 FC"
abbrev pub right_pattern : ℕ → ℕ → Bool
right_pattern version inverse = both (eqb version our_version) (eqb inverse (255 - our_version))

-- a header that passes
abbrev pub passed : Result Unit Fault
passed = Ok tt

-- "Judged when all eight are in, in this order: 1. not 03 FC: NACK 00, close; 2. type unknown on this port: NACK 01, skip the
-- payload; 3. length over 2,048: NACK 02, skip the payload; 4. length wrong for the type: NACK 04, close."
unfoldable pub verdict_of : Header → Result Unit Fault
verdict_of h =
    unless (right_pattern h.version h.inverse) (Err Pattern)
    (unless (known_on tcp h.kind) (Err UnknownType)
    (unless (leb h.length most_payload) (Err TooLong)
    (unless (length_fits tcp h.kind h.length) (Err WrongLength) passed)))

-- the paper's number for each fault; "NACK 03 (memory) isn't given; each row has its own room"
abbrev pub code_of : Fault → ℕ
code_of Pattern = 0
code_of UnknownType = 1
code_of TooLong = 2
code_of WrongLength = 4

-- the faults that close the row; after the others its payload is skipped
abbrev pub closes : Fault → Bool
closes Pattern = true
closes UnknownType = false
closes TooLong = false
closes WrongLength = true

-- a diagnostic message of a right length (the quick way through the order above)
abbrev pub everyday : ℕ → ℕ → Bool
everyday kind n = both (eqb kind 0x8001) (both (leb 5 n) (leb n most_payload))
