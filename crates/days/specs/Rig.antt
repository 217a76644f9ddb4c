-- The rig of the worked days: its farm sheets, its testers' messages, and what the output sheet of a call says.
-- Assumes nothing: these are definitions.
use Rattle.std.specs.Prelude.{ℕ, ◌+◌, ◌*◌, List, [], ◌∷◌, ◌++◌, map, length, get_or, replicate}
use Rattle.octets.specs.Numbers.{u16_at, be16, be32}
use Rattle.octets.specs.Parts.{part, joined}
use Rattle.sheet.specs.Sheet.{farm_count}
use Rattle.outsheet.specs.Sheet.{sheet_of}
use Rattle.outsheet.specs.Replies.{entries_of}
use Rattle.model.specs.Table.{Table, Call, tick, Lent, Outcome, refuses, did, took_of, table_of}
use Rattle.model.specs.History.{Made, fresh, step_of, run}

-- ---- farm sheets: "Header, 12 bytes: three u16 counts .., then three u16 offsets. The three sections follow in that order without gaps"

-- "Farm, 33 bytes: entity address u16, quota q (1 to 8), power mode (0 to 2), VIN 17, EID 6, GID 6."
abbrev pub farm : ℕ → ℕ → List ℕ
farm entity q = be16 entity ++ (q ∷ 0 ∷ replicate 29 0x41)

-- "Tester, 4 bytes: address u16, farm u8, zero. Target, 4 bytes: address u16, farm u8, reachable 0 or 1."
abbrev pub tester_of : ℕ → ℕ → List ℕ
tester_of f address = be16 address ++ (f ∷ 0 ∷ [])

abbrev pub target_of : ℕ → ℕ → List ℕ
target_of f address = be16 address ++ (f ∷ 1 ∷ [])

unfoldable pub farm_sheet_of : List (List ℕ) → List (List ℕ) → List (List ℕ) → List ℕ
farm_sheet_of farms testers targets =
    joined
    (be16 (length farms) ∷ be16 (length testers) ∷ be16 (length targets)
    ∷ be16 12 ∷ be16 (12 + 33 * length farms) ∷ be16 (12 + 33 * length farms + 4 * length testers) ∷ farms ++ testers ++ targets)

-- one farm, entity 1000, quota q: testers 0E00 to 0E02, a reachable controller 1010
abbrev pub one_farm : ℕ → List ℕ
one_farm q = farm_sheet_of (farm 0x1000 q ∷ []) (tester_of 0 0x0E00 ∷ tester_of 0 0x0E01 ∷ tester_of 0 0x0E02 ∷ []) (target_of 0 0x1010 ∷ [])

-- two farms of quota 1: 0E00 and 1010 are of farm 0, 0E01 and 2010 of farm 1
abbrev pub two_farms : List ℕ
two_farms =
    farm_sheet_of (farm 0x1000 1 ∷ farm 0x2000 1 ∷ []) (tester_of 0 0x0E00 ∷ tester_of 1 0x0E01 ∷ []) (target_of 0 0x1010 ∷ target_of 1 0x2010 ∷ [])

-- ---- what testers send: "Eight bytes: version, inverse, type u16, payload length u32", then the payload

abbrev pub message : ℕ → List ℕ → List ℕ
message kind payload = 0x03 ∷ 0xFC ∷ be16 kind ++ be32 (length payload) ++ payload

-- "Request: address u16, type u8, four reserved bytes"
abbrev pub request_for : ℕ → List ℕ
request_for address = message 0x0005 (be16 address ++ (0 ∷ 0 ∷ 0 ∷ 0 ∷ 0 ∷ []))

-- "0008 with the row's own address"
abbrev pub alive : ℕ → List ℕ
alive address = message 0x0008 (be16 address)

-- "Payload: source u16, target u16, user data."
abbrev pub diagnostic : ℕ → ℕ → List ℕ → List ℕ
diagnostic source target user = message 0x8001 (be16 source ++ be16 target ++ user)

-- ---- histories: each call with the buffers that document 01 asks for, from a fresh table

abbrev pub lent : Lent
lent = record { output = 4096; assembling = 32768 }

abbrev pub made : Call → Made
made c = record { lent = lent; call = c }

-- a slot for each of the sheet's farms (one beyond them holds no row and says nothing), and "2,048 for each of 16 rows": a room for each row
-- that a farm has room for
abbrev pub fresh_table : List ℕ → Table
fresh_table s = fresh (replicate (farm_count s) (replicate 9 (replicate 2048 0)))

unfoldable pub table_after : List ℕ → List Call → Table
table_after s cs = run s (fresh_table s) (map made cs)

-- the output sheet of an outcome; "A refusal returns its number, output length 0"
abbrev pub output_of : Outcome → List ℕ
output_of (refuses n) = []
output_of (did d) = sheet_of (entries_of d.long d.items)

-- the output sheets of calls, one after the other
abbrev pub sheets_from : List ℕ → Table → List Call → List ℕ
sheets_from s t [] = []
sheets_from s t (c ∷ cs) = output_of (step_of s t (made c)) ++ sheets_from s (table_of t (step_of s t (made c))) cs

-- what the calls `next` give, when the calls `before` have gone by
unfoldable pub gives : List ℕ → List Call → List Call → List ℕ
gives s before next = sheets_from s (table_after s before) next

abbrev pub ticks : ℕ → List Call
ticks n = replicate n tick

-- ---- what an output sheet says

-- "a sheet with no entry is `00 00 00 04`"
abbrev pub nothing : List ℕ
nothing = 0x00 ∷ 0x00 ∷ 0x00 ∷ 0x04 ∷ []

-- the bytes of an entry, the first being 0: "a u16 offset per entry, then entries: row, kind, u16 length, bytes"
abbrev pub entry_in : ℕ → List ℕ → List ℕ
entry_in i sheet = part sheet (u16_at sheet (4 + 2 * i) + 4) (u16_at sheet (u16_at sheet (4 + 2 * i) + 2))

-- the code of an entry that is a 0006: "address, entity address, code", behind eight bytes of header
abbrev pub code_in : ℕ → List ℕ → ℕ
code_in i sheet = get_or (entry_in i sheet) 12 0

-- the bytes that a call takes
unfoldable pub taken : List ℕ → List Call → Call → ℕ
taken s before c = took_of (step_of s (table_after s before) (made c))
