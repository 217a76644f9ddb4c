-- `request` meets its contract.
-- Assumes nothing.
use mathlib.Core.Path.{ap, ◌∙◌}
use Rattle.kinds.specs.declared.Decision.{Decision}
use Rattle.model.specs.FarmSheet.{FarmSheet, farm_sheet}
use Rattle.model.specs.Farm.{Farm}
use Rattle.model.specs.Bytes.{decided_by, requested}
use Rattle.table.specs.Block.{farm_of}
use Rattle.decide.specs.SiteSheet.{site_sheet}
use Rattle.closing.proofs.DidLaws.{did_same}
use Rattle.site.proofs.SiteLaws.{sited_same, sited_fit}
use Rattle.request.proofs.RequestLaws.{decided_same}
use Rattle.request.proofs.request.Goals as goal

pub decision-d-requires : goal.decision-d-requires
decision-d-requires c = (c.requires.2, c.requires.3.long)

pub carry_out-requires : goal.carry_out-requires
carry_out-requires c = (c.requires.0, c.requires.1, sited_fit _ _ _ c.requires.2, c.requires.3)

pub returns : goal.returns
unfolding requested
returns c = let f : Farm = farm_of c.args.b.now in
    let own : FarmSheet = farm_sheet c.args.s.now c.args.f.0 in
    did_same _
    (decided_same (site_sheet c.args.site) own (sited_same _ _ _ c.requires.2) c.args.seat c.args.q c.decision-d.result f
    ∙ ap (λ (d : Decision). decided_by own c.args.seat c.args.q d f) c.decision-d.ensures)
    c.carry_out.ensures
