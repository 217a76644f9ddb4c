-- Every message that the core sends, as its list of bytes, with the version as a parameter.
-- Assumes nothing: these are definitions.
use Rattle.std.specs.Prelude.{ℕ, ◌-◌, List, [], ◌∷◌, ◌++◌, length}
use Rattle.octets.specs.Numbers.{be16, be32}
use Rattle.layout.specs.FarmRecord.{entity_in, vin_in, eid_in, gid_in}

-- "Eight bytes: version, inverse, type u16, payload length u32", then the payload
abbrev pub framed : ℕ → ℕ → List ℕ → List ℕ
framed version kind payload = (version ∷ (255 - version) ∷ be16 kind) ++ be32 (length payload) ++ payload

-- "A NACK is type 0000 with the code as its one byte."
abbrev pub nack_bytes : ℕ → ℕ → List ℕ
nack_bytes version code = framed version 0x0000 (code ∷ [])

-- "answer 0004 with VIN, entity address, EID, GID, 00", of the farm with this record
unfoldable pub identity_bytes : ℕ → List ℕ → List ℕ
identity_bytes version farm = framed version 0x0004 (vin_in farm ++ entity_in farm ++ eid_in farm ++ gid_in farm ++ (0 ∷ []))

-- "Response 0006: address, entity address, code, four zeros."
abbrev pub activation_bytes : ℕ → ℕ → ℕ → ℕ → List ℕ
activation_bytes version address entity code = framed version 0x0006 (be16 address ++ be16 entity ++ (code ∷ 0 ∷ 0 ∷ 0 ∷ 0 ∷ []))

-- "sends 0007 (empty)"
abbrev pub alive_check_bytes : ℕ → List ℕ
alive_check_bytes version = framed version 0x0007 []

-- "4001: answer 4002 with 00, q, open rows of the farm, u32 2,048."
abbrev pub status_bytes : ℕ → ℕ → ℕ → List ℕ
status_bytes version quota opened = framed version 0x4002 (0 ∷ quota ∷ opened ∷ be32 2048)

-- "4003: 4004 with the mode."
abbrev pub power_mode_bytes : ℕ → ℕ → List ℕ
power_mode_bytes version mode = framed version 0x4004 (mode ∷ [])

-- "A controller message goes out as 8001: controller, tester, user data."
unfoldable pub message_bytes : ℕ → ℕ → ℕ → List ℕ → List ℕ
message_bytes version controller tester user = framed version 0x8001 (be16 controller ++ be16 tester ++ user)

-- "Both replies: target, source, code."
abbrev pub ack_bytes : ℕ → ℕ → ℕ → ℕ → List ℕ
ack_bytes version target source code = framed version 0x8002 (be16 target ++ be16 source ++ (code ∷ []))

abbrev pub diagnostic_nack_bytes : ℕ → ℕ → ℕ → ℕ → List ℕ
diagnostic_nack_bytes version target source code = framed version 0x8003 (be16 target ++ be16 source ++ (code ∷ []))
