-- The worked days that are about one header.
-- Assumes nothing: these are definitions.
use Rattle.std.specs.Prelude.{List, [], ◌∷◌, ℕ, Result, Ok, Err}
use Rattle.kinds.specs.declared.Fault.{Fault}
use Rattle.octets.specs.Choice.{pick}
use Rattle.wire.specs.Header.{header_at, verdict_of, code_of, closes}

-- what the paper says of a verdict: that it passes, or its number and whether it closes the row
abbrev pub passes : List ℕ
passes = []

abbrev pub nack_and_close : ℕ → List ℕ
nack_and_close code = code ∷ 1 ∷ []

abbrev pub nack_and_skip : ℕ → List ℕ
nack_and_skip code = code ∷ 0 ∷ []

abbrev pub said_of : Result Unit Fault → List ℕ
said_of (Ok tt) = passes
said_of (Err fault) = pick (closes fault) (nack_and_close (code_of fault)) (nack_and_skip (code_of fault))

abbrev pub judged : List ℕ → List ℕ
judged bytes = said_of (verdict_of (header_at bytes 0))

abbrev pub judged_of : ℕ → ℕ → List ℕ
judged_of kind n = said_of (verdict_of (record { version = 3; inverse = 252; kind = kind; length = n }))
