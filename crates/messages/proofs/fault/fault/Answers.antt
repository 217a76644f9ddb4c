-- `fault::fault` meets its contract.
-- Assumes nothing.
use mathlib.Core.Path.{ap, ◌∙◌}
use mathlib.Core.Bool.{Bool}
use Prim.Native.Nat.{ℕ}
use Rattle.kinds.specs.declared.Reply.TheVariants.{Nack}
use Rattle.wire.specs.Header.{code_of}
use Rattle.model.specs.FarmSheet.{FarmSheet}
use Rattle.model.specs.Farm.{Farm}
use Rattle.table.specs.Block.{farm_of}
use Rattle.decide.specs.SiteSheet.{site_sheet}
use Rattle.closing.proofs.DidLaws.{did_same}
use Rattle.rowwork.specs.Refused.{refused_by}
use Rattle.messages.proofs.fault.fault.Goals as goal

pub returns : goal.returns
returns c = let own : FarmSheet = site_sheet c.args.site in
    let f : Farm = farm_of c.args.b.now in
    did_same _
    (ap (λ (n : ℕ). refused_by own c.args.seat (Nack n) c.closes_row.result f) c.code_of.ensures
    ∙ ap (λ (t : Bool). refused_by own c.args.seat (Nack (code_of c.args.fault)) t f) c.closes_row.ensures)
    c.refuse.ensures
