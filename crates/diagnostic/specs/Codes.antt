-- The codes of the answers, and the replies to a diagnostic message by its code.
-- Assumes nothing: these are definitions.
use Rattle.std.specs.Prelude.{ℕ, List, [], ◌∷◌, eqb}
use Rattle.octets.specs.Choice.{pick}
use Rattle.kinds.specs.declared.Item.{Item}
use Rattle.kinds.specs.declared.Reply.TheVariants.{Ack, DiagnosticNack, HandOn}
use Rattle.payload.specs.declared.Ends.{Ends}
use Rattle.model.specs.FarmSheet.{FarmSheet, TargetIs, stranger, unreachable, reachable}
use Rattle.model.specs.Farm.{says}

-- "target not one of this farm's: 03; not reachable: 06; else 8002 with 00"
abbrev pub target_code : TargetIs → ℕ
target_code stranger = 0x03
target_code unreachable = 0x06
target_code reachable = 0x00

-- "8002 with 00 and the payload is handed on", or 8003. "Both replies: target, source, code."
abbrev pub replies_by : FarmSheet → ℕ → Ends → ℕ → List Item
replies_by own seat e code =
    pick (eqb code 0x00) (says own seat (Ack e.target e.source code) ∷ says own seat HandOn ∷ [])
    (says own seat (DiagnosticNack e.target e.source code) ∷ [])
