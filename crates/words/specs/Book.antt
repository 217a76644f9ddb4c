-- The phrase book: every phrase that is said. A % is a hole, filled in when the phrase is said.
-- Assumes nothing: these are definitions.
use Rattle.std.specs.Prelude.{ℕ, List, [], ◌∷◌, ◌++◌, get_or, drop, eqb, map}
use Rattle.std.specs.Borrow.{Bor}
use Prim.Native.String.{String}
use Rattle.octets.specs.Choice.{pick}
use Rattle.words.specs.Said.{spelled}

-- one of some texts that are lent, and none where there are not so many
unfoldable pub text_in : List (Bor (List ℕ)) → ℕ → List ℕ
text_in l k = get_or (map (λ (x : Bor (List ℕ)). x.now) l) k []

-- a text with its holes filled: each % by the next of the texts
unfoldable pub fill : List ℕ → List (List ℕ) → List ℕ
fill [] ts = []
fill (c ∷ t) ts = pick (eqb c 37) (get_or ts 0 [] ++ fill t (drop 1 ts)) (c ∷ fill t ts)

-- the phrases
unfoldable pub book : List String
book =
    "the farm sheet breaks a rule"
    ∷ "the output buffer has under 4096 bytes"
    ∷ "the assembling buffer has not 32768 bytes"
    ∷ "the table breaks a rule"
    ∷ "the sheet has no such farm"
    ∷ "the row is not open"
    ∷ "the row waits for its activation"
    ∷ "the farm has no free row"
    ∷ "no user data, or over 2044 bytes"
    ∷ "not a controller of the farm, or the tester is not active there"
    ∷ "a number without a meaning"
    ∷ "the header does not begin as it must"
    ∷ "the type is unknown here"
    ∷ "the message is too long"
    ∷ "the length is wrong for the type"
    ∷ "not a tester of this farm"
    ∷ "all places of the farm are in use"
    ∷ "the row is active for another tester"
    ∷ "the tester is active on another row"
    ∷ "the activation type is not supported"
    ∷ "activated"
    ∷ "accepted"
    ∷ "the sender is not active on this row"
    ∷ "not a controller of this farm"
    ∷ "the controller is not reachable"
    ∷ "an unknown code"
    ∷ "not ready"
    ∷ "ready"
    ∷ "not supported"
    ∷ "an unknown mode"
    ∷ "sent header negative acknowledge (0000): code %, %"
    ∷ "sent vehicle identification response (0004): entity %, VIN "
    ∷ "sent routing activation response (0006): tester %, entity %, code %, %"
    ∷ "sent alive check request (0007)"
    ∷ "sent entity status response (4002): places for testers %, rows open %, longest message % bytes"
    ∷ "sent power mode response (4004): %, %"
    ∷ "sent diagnostic message (8001): from controller % to tester %, user data % bytes"
    ∷ "sent diagnostic positive acknowledge (8002): from controller % to tester %, code %, %"
    ∷ "sent diagnostic negative acknowledge (8003): from controller % to tester %, code %, %"
    ∷ "sent a message that can not be read"
    ∷ "closed"
    ∷ "handed on: from tester % to controller %, user data % bytes"
    ∷ "handed on a payload that can not be read"
    ∷ "an entry of an unknown kind, %"
    ∷ "    an entry that can not be read"
    ∷ "    row %: "
    ∷ "    datagram: "
    ∷ "call %: "
    ∷ "start a fresh table: "
    ∷ "connect, farm %: "
    ∷ "bytes from row %: "
    ∷ "peer closed, row %: "
    ∷ "link of farm % lost: "
    ∷ "tick: "
    ∷ "datagram, farm %: "
    ∷ "message from a controller, farm %, from controller % to tester %: "
    ∷ "done"
    ∷ "done, row % opened"
    ∷ "done, % of % bytes taken"
    ∷ "refused (%): %"
    ∷ "farm %: % bytes taken, % finished, % lost"
    ∷ "the end: % calls"
    ∷ "the file is cut at byte %: the record that begins there is not whole"
    ∷ "the file is bad at byte %: the record that begins there can not be read"
    ∷ []

-- the phrase with this number
unfoldable pub phrase : ℕ → List ℕ
phrase k = spelled (get_or book k "")
