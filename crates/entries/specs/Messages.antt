-- What is said of a message that is sent, and of a payload that is handed on.
-- Assumes nothing: these are definitions.
use Rattle.std.specs.Prelude.{ℕ, ◌-◌, Bool, List, [], ◌∷◌, ◌++◌, eqb, ltb, length, get_or, drop}
use Rattle.octets.specs.Choice.{pick, both}
use Rattle.octets.specs.Numbers.{u16_at, u32_at}
use Rattle.octets.specs.Parts.{part}
use Rattle.lines.specs.Text.{decimal, hex}
use Rattle.words.specs.Said.{spelled, letters}
use Rattle.words.specs.Book.{fill}
use Rattle.words.specs.Sentence.{filled, address, code}
use Rattle.words.specs.Names.{fault_name, activation_name, diagnostic_name, mode_name}

-- a message whose bytes are not as its type has them
abbrev pub unreadable : List ℕ
unreadable = spelled "sent a message that can not be read"

-- A definition for each type that the core sends, over the payload p.
-- "A NACK is type 0000 with the code as its one byte."
unfoldable pub nack_text : List ℕ → List ℕ
nack_text p =
    pick (eqb (length p) 1)
    (filled "sent header negative acknowledge (0000): code %, %" (code (get_or p 0 0) ∷ fault_name (get_or p 0 0) ∷ []))
    unreadable

-- "Response 0006: address, entity address, code, four zeros."
unfoldable pub activation_text : List ℕ → List ℕ
activation_text p =
    pick (eqb (length p) 9)
    (filled "sent routing activation response (0006): tester %, entity %, code %, %" (
    address (u16_at p 0) ∷ address (u16_at p 2) ∷ code (get_or p 4 0) ∷ activation_name (get_or p 4 0) ∷ []
    ))
    unreadable

-- "sends 0007 (empty)"
unfoldable pub alive_text : List ℕ → List ℕ
alive_text p = pick (eqb (length p) 0) (spelled "sent alive check request (0007)") unreadable

-- "4001: answer 4002 with 00, q, open rows of the farm, u32 2,048."
unfoldable pub status_text : List ℕ → List ℕ
status_text p =
    pick (eqb (length p) 7)
    (filled "sent entity status response (4002): places for testers %, rows open %, longest message % bytes" (
    decimal (get_or p 1 0) ∷ decimal (get_or p 2 0) ∷ decimal (u32_at p 3) ∷ []
    ))
    unreadable

-- "4003: 4004 with the mode."
unfoldable pub mode_text : List ℕ → List ℕ
mode_text p =
    pick (eqb (length p) 1) (filled "sent power mode response (4004): %, %" (code (get_or p 0 0) ∷ mode_name (get_or p 0 0) ∷ [])) unreadable

-- "A controller message goes out as 8001: controller, tester, user data."
unfoldable pub diagnostic_text : List ℕ → List ℕ
diagnostic_text p =
    pick (ltb (length p) 4) unreadable
    (filled "sent diagnostic message (8001): from controller % to tester %, user data % bytes" (
    address (u16_at p 0) ∷ address (u16_at p 2) ∷ decimal (length p - 4) ∷ []
    ))

-- "Both replies: target, source, code."; t is the phrase of the one or the other
unfoldable pub answered_text : List ℕ → List ℕ → List ℕ
answered_text t p =
    pick (eqb (length p) 5)
    (fill t (address (u16_at p 0) ∷ address (u16_at p 2) ∷ code (get_or p 4 0) ∷ diagnostic_name (get_or p 4 0) ∷ []))
    unreadable

abbrev pub positive_text : List ℕ → List ℕ
positive_text = answered_text (spelled "sent diagnostic positive acknowledge (8002): from controller % to tester %, code %, %")

abbrev pub negative_text : List ℕ → List ℕ
negative_text = answered_text (spelled "sent diagnostic negative acknowledge (8003): from controller % to tester %, code %, %")

-- "Eight bytes: version, inverse, type u16, payload length u32."
unfoldable pub payload_text : ℕ → List ℕ → List ℕ
payload_text kind p =
    pick (eqb kind 0x0000) (nack_text p)
    (pick (eqb kind 0x0006) (activation_text p)
    (pick (eqb kind 0x0007) (alive_text p)
    (pick (eqb kind 0x4002) (status_text p)
    (pick (eqb kind 0x4004) (mode_text p)
    (pick (eqb kind 0x8001) (diagnostic_text p)
    (pick (eqb kind 0x8002) (positive_text p) (pick (eqb kind 0x8003) (negative_text p) unreadable)))))))

unfoldable pub message_text : List ℕ → List ℕ
message_text b = pick (ltb (length b) 8) unreadable (payload_text (u16_at b 2) (drop 8 b))

-- "answer 0004 with VIN, entity address, EID, GID, 00": 32 bytes of payload
abbrev pub is_identity : List ℕ → Bool
is_identity b = both (eqb (length b) 40) (eqb (u16_at b 2) 0x0004)

unfoldable pub identity_text : List ℕ → List ℕ
identity_text b =
    filled "sent vehicle identification response (0004): entity %, VIN " (address (u16_at b 25) ∷ [])
    ++ letters (part b 8 17)
    ++ (spelled ", EID " ++ hex (part b 27 6))
    ++ (spelled ", GID " ++ hex (part b 33 6))

-- "Payload: source u16, target u16, user data."
unfoldable pub handed_text : List ℕ → List ℕ
handed_text p =
    pick (ltb (length p) 4) (spelled "handed on a payload that can not be read")
    (filled "handed on: from tester % to controller %, user data % bytes" (
    address (u16_at p 0) ∷ address (u16_at p 2) ∷ decimal (length p - 4) ∷ []
    ))
