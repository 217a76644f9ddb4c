-- The names of document 01's numbers: refusals and codes.
-- Assumes nothing: these are definitions.
use Rattle.std.specs.Prelude.{ℕ, List, [], ◌∷◌, eqb}
use Prim.Native.String.{String}
use Rattle.octets.specs.Choice.{pick}
use Rattle.words.specs.Said.{spelled}

-- a line of a table: a number and its name
pub record Line : Type 0 where
  pub number : ℕ
  pub name : String

infix 70 ◌is◌
abbrev pub ◌is◌ : ℕ → String → Line
n is s = record { number = n; name = s }

-- the name of a number, and another text for a number that the table does not have
abbrev pub name_in : List Line → String → ℕ → List ℕ
name_in [] other n = spelled other
name_in (l ∷ ls) other n = pick (eqb n l.number) (spelled l.name) (name_in ls other n)

-- "| no. | exactly when |"
abbrev pub refusals : List Line
refusals =
    1 is "the farm sheet breaks a rule"
    ∷ 2 is "the output buffer has under 4096 bytes"
    ∷ 3 is "the assembling buffer has not 32768 bytes"
    ∷ 4 is "the table breaks a rule"
    ∷ 5 is "the sheet has no such farm"
    ∷ 6 is "the row is not open"
    ∷ 7 is "the row waits for its activation"
    ∷ 8 is "the farm has no free row"
    ∷ 9 is "no user data, or over 2044 bytes"
    ∷ 10 is "not a controller of the farm, or the tester is not active there"
    ∷ []

unfoldable pub refusal_name : ℕ → List ℕ
refusal_name = name_in refusals "a number without a meaning"

-- "not 03 FC: NACK 00", "type unknown on this port: NACK 01", "length over 2,048: NACK 02", "length wrong for the type: NACK 04"
abbrev pub faults : List Line
faults =
    0x00 is "the header does not begin as it must"
    ∷ 0x01 is "the type is unknown here"
    ∷ 0x02 is "the message is too long"
    ∷ 0x04 is "the length is wrong for the type"
    ∷ []

unfoldable pub fault_name : ℕ → List ℕ
fault_name = name_in faults "an unknown code"

-- "00: not a tester of this farm. 06: type other than 00 or 01.", "10 if the same address, else 02", "03 (check of that row) or 01 (check of all)"
abbrev pub activations : List Line
activations =
    0x00 is "not a tester of this farm"
    ∷ 0x01 is "all places of the farm are in use"
    ∷ 0x02 is "the row is active for another tester"
    ∷ 0x03 is "the tester is active on another row"
    ∷ 0x06 is "the activation type is not supported"
    ∷ 0x10 is "activated"
    ∷ []

unfoldable pub activation_name : ℕ → List ℕ
activation_name = name_in activations "an unknown code"

-- "row not active or source not its address: 8003 with 02", "target not one of this farm's: 03; not reachable: 06; else 8002 with 00"
abbrev pub diagnostics : List Line
diagnostics =
    0x00 is "accepted"
    ∷ 0x02 is "the sender is not active on this row"
    ∷ 0x03 is "not a controller of this farm"
    ∷ 0x06 is "the controller is not reachable"
    ∷ []

unfoldable pub diagnostic_name : ℕ → List ℕ
diagnostic_name = name_in diagnostics "an unknown code"

-- "power mode (0 to 2)", as ISO 13400-2 has them
abbrev pub modes : List Line
modes = 0 is "not ready" ∷ 1 is "ready" ∷ 2 is "not supported" ∷ []

unfoldable pub mode_name : ℕ → List ℕ
mode_name = name_in modes "an unknown mode"
