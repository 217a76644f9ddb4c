-- The lines of entries are short.
-- Assumes nothing.
use mathlib.Core.List.{List, [], ◌∷◌, ◌++◌}
use Prim.Native.Nat.{ℕ, ◌+◌, ◌-◌, ◌≤◌}
use native.Mathlib.Omega.{arith}
use lib.Dec.{eqb, ltb}
use lib.ListN.{length, get_or, drop, length-append}
use Rattle.std.specs.Prelude.{Option, Some, None}
use Rattle.octets.specs.Numbers.{u16_at, u32_at, be16}
use Rattle.octets.specs.Parts.{part}
use Rattle.octets.proofs.PartsLaws.{part-short}
use Rattle.lines.specs.Text.{decimal, hex}
use Rattle.lines.proofs.TextLaws.{length-decimal, length-hex}
use Rattle.words.specs.Said.{spelled, letters}
use Rattle.words.specs.Sentence.{filled, address, code}
use Rattle.words.specs.Names.{fault_name, activation_name, diagnostic_name, mode_name}
use Rattle.words.proofs.SaidLaws.{length-letters}
use Rattle.words.proofs.LengthLaws.{total, pick-short, fill-short, fault_short, activation_short, diagnostic-short, mode_short}
use Rattle.entries.specs.declared.entry.Spot.{Spot}
use Rattle.entries.specs.Messages.{unreadable, nack_text, activation_text, alive_text, status_text, mode_text, diagnostic_text}
use Rattle.entries.specs.Messages.{answered_text, positive_text, negative_text, payload_text, message_text, identity_text, handed_text}
use Rattle.entries.specs.Entries.{to_text, plain_text, is_apart, what_text, spot_text, spot_in, entry_line}

-- what is said of an entry, and the whole line
abbrev pub most_what : ℕ
most_what = 250

abbrev pub most_line : ℕ
most_line = 300

nack : (p : List ℕ) → length (nack_text p) ≤ most_what
unfolding nack_text total
nack p =
    pick-short (eqb (length p) 1)
    (filled "sent header negative acknowledge (0000): code %, %" (code (get_or p 0 0) ∷ fault_name (get_or p 0 0) ∷ []))
    unreadable
    most_what
    (omega (
      arith,
      fill-short (spelled "sent header negative acknowledge (0000): code %, %")
          (code (get_or p 0 0) ∷ fault_name (get_or p 0 0) ∷ []),
      length-hex (get_or p 0 0 ∷ []),
      fault_short (get_or p 0 0),
    ))
    (omega arith)

activation : (p : List ℕ) → length (activation_text p) ≤ most_what
unfolding activation_text total
activation p =
    pick-short (eqb (length p) 9)
    (filled "sent routing activation response (0006): tester %, entity %, code %, %" (address (u16_at p 0) ∷ address (u16_at p 2) ∷ code (get_or p 4 0) ∷ activation_name (get_or p 4 0) ∷ []))
    unreadable
    most_what
    (omega (
      arith,
      fill-short (spelled "sent routing activation response (0006): tester %, entity %, code %, %")
          (address (u16_at p 0) ∷ address (u16_at p 2) ∷ code (get_or p 4 0) ∷ activation_name (get_or p 4 0) ∷ []),
      length-hex (be16 (u16_at p 0)),
      length-hex (be16 (u16_at p 2)),
      length-hex (get_or p 4 0 ∷ []),
      activation_short (get_or p 4 0),
    ))
    (omega arith)

alive : (p : List ℕ) → length (alive_text p) ≤ most_what
unfolding alive_text
alive p = pick-short (eqb (length p) 0) (spelled "sent alive check request (0007)") unreadable most_what (omega arith) (omega arith)

status : (p : List ℕ) → length (status_text p) ≤ most_what
unfolding status_text total
status p =
    pick-short (eqb (length p) 7)
    (filled "sent entity status response (4002): places for testers %, rows open %, longest message % bytes" (decimal (get_or p 1 0) ∷ decimal (get_or p 2 0) ∷ decimal (u32_at p 3) ∷ []))
    unreadable
    most_what
    (omega (
      arith,
      fill-short (spelled "sent entity status response (4002): places for testers %, rows open %, longest message % bytes")
          (decimal (get_or p 1 0) ∷ decimal (get_or p 2 0) ∷ decimal (u32_at p 3) ∷ []),
      length-decimal (get_or p 1 0),
      length-decimal (get_or p 2 0),
      length-decimal (u32_at p 3),
    ))
    (omega arith)

mode : (p : List ℕ) → length (mode_text p) ≤ most_what
unfolding mode_text total
mode p =
    pick-short (eqb (length p) 1)
    (filled "sent power mode response (4004): %, %" (code (get_or p 0 0) ∷ mode_name (get_or p 0 0) ∷ []))
    unreadable
    most_what
    (omega (
      arith,
      fill-short (spelled "sent power mode response (4004): %, %")
          (code (get_or p 0 0) ∷ mode_name (get_or p 0 0) ∷ []),
      length-hex (get_or p 0 0 ∷ []),
      mode_short (get_or p 0 0),
    ))
    (omega arith)

diagnostic : (p : List ℕ) → length (diagnostic_text p) ≤ most_what
unfolding diagnostic_text total
diagnostic p =
    pick-short (ltb (length p) 4)
    unreadable
    (filled "sent diagnostic message (8001): from controller % to tester %, user data % bytes" (address (u16_at p 0) ∷ address (u16_at p 2) ∷ decimal (length p - 4) ∷ []))
    most_what
    (omega arith)
    (omega (
      arith,
      fill-short (spelled "sent diagnostic message (8001): from controller % to tester %, user data % bytes")
          (address (u16_at p 0) ∷ address (u16_at p 2) ∷ decimal (length p - 4) ∷ []),
      length-hex (be16 (u16_at p 0)),
      length-hex (be16 (u16_at p 2)),
      length-decimal (length p - 4),
    ))

positive : (p : List ℕ) → length (positive_text p) ≤ most_what
unfolding answered_text total
positive p =
    pick-short (eqb (length p) 5)
    (filled "sent diagnostic positive acknowledge (8002): from controller % to tester %, code %, %"
    (address (u16_at p 0) ∷ address (u16_at p 2) ∷ code (get_or p 4 0) ∷ diagnostic_name (get_or p 4 0) ∷ []))
    unreadable
    most_what
    (omega (
      arith,
      fill-short (spelled "sent diagnostic positive acknowledge (8002): from controller % to tester %, code %, %")
          (address (u16_at p 0) ∷ address (u16_at p 2) ∷ code (get_or p 4 0) ∷ diagnostic_name (get_or p 4 0) ∷ []),
      length-hex (be16 (u16_at p 0)),
      length-hex (be16 (u16_at p 2)),
      length-hex (get_or p 4 0 ∷ []),
      diagnostic-short (get_or p 4 0),
    ))
    (omega arith)

negative : (p : List ℕ) → length (negative_text p) ≤ most_what
unfolding answered_text total
negative p =
    pick-short (eqb (length p) 5)
    (filled "sent diagnostic negative acknowledge (8003): from controller % to tester %, code %, %"
    (address (u16_at p 0) ∷ address (u16_at p 2) ∷ code (get_or p 4 0) ∷ diagnostic_name (get_or p 4 0) ∷ []))
    unreadable
    most_what
    (omega (
      arith,
      fill-short (spelled "sent diagnostic negative acknowledge (8003): from controller % to tester %, code %, %")
          (address (u16_at p 0) ∷ address (u16_at p 2) ∷ code (get_or p 4 0) ∷ diagnostic_name (get_or p 4 0) ∷ []),
      length-hex (be16 (u16_at p 0)),
      length-hex (be16 (u16_at p 2)),
      length-hex (get_or p 4 0 ∷ []),
      diagnostic-short (get_or p 4 0),
    ))
    (omega arith)

handed : (p : List ℕ) → length (handed_text p) ≤ most_what
unfolding handed_text total
handed p =
    pick-short (ltb (length p) 4)
    (spelled "handed on a payload that can not be read")
    (filled "handed on: from tester % to controller %, user data % bytes" (address (u16_at p 0) ∷ address (u16_at p 2) ∷ decimal (length p - 4) ∷ []))
    most_what
    (omega arith)
    (omega (
      arith,
      fill-short (spelled "handed on: from tester % to controller %, user data % bytes")
          (address (u16_at p 0) ∷ address (u16_at p 2) ∷ decimal (length p - 4) ∷ []),
      length-hex (be16 (u16_at p 0)),
      length-hex (be16 (u16_at p 2)),
      length-decimal (length p - 4),
    ))

payload : (k : ℕ) (p : List ℕ) → length (payload_text k p) ≤ most_what
unfolding payload_text
payload k p =
    (pick-short (eqb k 0x0000) _ _ most_what (nack p)
    (pick-short (eqb k 0x0006) _ _ most_what (activation p)
    (pick-short (eqb k 0x0007) _ _ most_what (alive p)
    (pick-short (eqb k 0x4002) _ _ most_what (status p)
    (pick-short (eqb k 0x4004) _ _ most_what (mode p)
    (pick-short (eqb k 0x8001) _ _ most_what (diagnostic p)
    (pick-short (eqb k 0x8002) _ _ most_what (positive p)
    (pick-short (eqb k 0x8003) _ _ most_what (negative p) (omega arith)))))))))

message : (b : List ℕ) → length (message_text b) ≤ most_what
unfolding message_text
message b = pick-short (ltb (length b) 8) unreadable (payload_text (u16_at b 2) (drop 8 b)) most_what (omega arith) (payload (u16_at b 2) (drop 8 b))

identity : (b : List ℕ) → length (identity_text b) ≤ most_what
unfolding identity_text total
identity b =
    let x : List ℕ = filled "sent vehicle identification response (0004): entity %, VIN " (address (u16_at b 25) ∷ []) in
    let y : List ℕ = letters (part b 8 17) in
    let z : List ℕ = spelled ", EID " ++ hex (part b 27 6) in
    omega (
      arith,
      length-append (x ++ y ++ z) (spelled ", GID " ++ hex (part b 33 6)),
      length-append (x ++ y) z,
      length-append x y,
      fill-short (spelled "sent vehicle identification response (0004): entity %, VIN ") (address (u16_at b 25) ∷ []),
      length-hex (be16 (u16_at b 25)),
      length-letters (part b 8 17),
      part-short b 8 17,
      length-hex (part b 27 6),
      part-short b 27 6,
      length-hex (part b 33 6),
      part-short b 33 6,
    )

plain : (k : ℕ) (b : List ℕ) → length (plain_text k b) ≤ most_what
unfolding plain_text total
plain k b =
    pick-short (eqb k 1) _ _ most_what (message b)
    (pick-short (eqb k 2) _ _ most_what (omega arith)
    (pick-short (eqb k 3) _ _ most_what (handed b) (omega (arith, fill-short (spelled "an entry of an unknown kind, %") (decimal k ∷ []), length-decimal k))))

what : (k : ℕ) (b : List ℕ) → length (what_text k b) ≤ most_what
unfolding what_text
what k b = pick-short (is_apart k b) (identity_text b) (plain_text k b) most_what (identity b) (plain k b)

to : (r : ℕ) → length (to_text r) ≤ 40
unfolding to_text total
to r = pick-short (eqb r 255) _ _ 40 (omega arith) (omega (arith, fill-short (spelled "    row %: ") (decimal r ∷ []), length-decimal r))

spot : (s : List ℕ) (x : Option Spot) → length (spot_text s x) ≤ most_line - 1
spot s (Some p) =
    let row : ℕ = get_or s p.from 0 in
    let kind : ℕ = get_or s (p.from + 1) 0 in
    let b : List ℕ = part s (p.from + 4) p.long in
    omega (arith, length-append (to_text row) (what_text kind b), to row, what kind b)
spot s None = omega arith

-- the line of an entry
pub line-short : (s : List ℕ) (i : ℕ) → length (entry_line s i) ≤ most_line
line-short s i = omega (arith, length-append (spot_text s (spot_in s i)) (10 ∷ []), spot s (spot_in s i))
