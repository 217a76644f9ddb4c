-- The entries that the further days expect, in bytes.
-- Assumes nothing: these are definitions.
use Rattle.std.specs.Prelude.{ℕ, List, [], ◌∷◌, ◌++◌}
use Rattle.octets.specs.Numbers.{be16}
use Rattle.outsheet.specs.Sheet.{Entry, entry, sheet_of}

-- "Kinds: 1 send, 2 close (empty), 3 hand on."
abbrev pub closing : ℕ → Entry
closing row = entry row 2 []

abbrev pub handing : ℕ → List ℕ → Entry
handing row payload = entry row 3 payload

-- 0006 of entity 1000
abbrev pub answer : ℕ → ℕ → ℕ → Entry
answer row address code =
    entry row 1
    ((0x03 ∷ 0xFC ∷ 0x00 ∷ 0x06 ∷ 0x00 ∷ 0x00 ∷ 0x00 ∷ 0x09 ∷ be16 address) ++ (0x10 ∷ 0x00 ∷ code ∷ 0x00 ∷ 0x00 ∷ 0x00 ∷ 0x00 ∷ []))

-- 0007
abbrev pub check : ℕ → Entry
check row = entry row 1 (0x03 ∷ 0xFC ∷ 0x00 ∷ 0x07 ∷ 0x00 ∷ 0x00 ∷ 0x00 ∷ 0x00 ∷ [])

-- 0000
abbrev pub nack : ℕ → ℕ → Entry
nack row code = entry row 1 (0x03 ∷ 0xFC ∷ 0x00 ∷ 0x00 ∷ 0x00 ∷ 0x00 ∷ 0x00 ∷ 0x01 ∷ code ∷ [])

-- 8002 and 8003
abbrev pub ack : ℕ → ℕ → ℕ → Entry
ack row target source = entry row 1 ((0x03 ∷ 0xFC ∷ 0x80 ∷ 0x02 ∷ 0x00 ∷ 0x00 ∷ 0x00 ∷ 0x05 ∷ be16 target) ++ be16 source ++ (0x00 ∷ []))

abbrev pub refusal : ℕ → ℕ → ℕ → ℕ → Entry
refusal row target source code =
    entry row 1 ((0x03 ∷ 0xFC ∷ 0x80 ∷ 0x03 ∷ 0x00 ∷ 0x00 ∷ 0x00 ∷ 0x05 ∷ be16 target) ++ be16 source ++ (code ∷ []))

-- 4002, with row 255
abbrev pub status : ℕ → ℕ → Entry
status q rows =
    entry 255 1 (0x03 ∷ 0xFC ∷ 0x40 ∷ 0x02 ∷ 0x00 ∷ 0x00 ∷ 0x00 ∷ 0x07 ∷ 0x00 ∷ q ∷ rows ∷ 0x00 ∷ 0x00 ∷ 0x08 ∷ 0x00 ∷ [])

-- 8001 to a tester, with one byte of user data
abbrev pub to_tester : ℕ → ℕ → ℕ → List ℕ → Entry
to_tester row controller tester user =
    entry row 1 ((0x03 ∷ 0xFC ∷ 0x80 ∷ 0x01 ∷ 0x00 ∷ 0x00 ∷ 0x00 ∷ 0x05 ∷ be16 controller) ++ be16 tester ++ user)

abbrev pub sheet : List Entry → List ℕ
sheet es = sheet_of es
