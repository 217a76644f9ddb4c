-- `diagnose` meets its contract.
-- Assumes nothing.
use mathlib.Core.Path.{refl, sym, ◌∙◌}
use Rattle.model.specs.FarmSheet.{FarmSheet, farm_sheet}
use Rattle.model.specs.Farm.{Farm}
use Rattle.table.specs.Block.{farm_of}
use Rattle.decide.specs.SiteSheet.{site_sheet}
use Rattle.closing.proofs.DidLaws.{did_same}
use Rattle.site.proofs.SiteLaws.{sited_same, sited_fit}
use Rattle.diagnostic.proofs.DiagnosticLaws.{diagnosed_own, diagnosed-stranger}
use Rattle.diagnostic.proofs.diagnose.Goals as goal

pub reply-requires : goal.reply-requires
reply-requires c = (c.requires.0, sited_fit _ _ _ c.requires.1)

pub returns-then-active_as : goal.returns-then-active_as
returns-then-active_as c = let own : FarmSheet = site_sheet c.args.site in
    let whole : FarmSheet = farm_sheet c.args.s.now c.args.f.0 in
    let f : Farm = farm_of c.args.b.now in
    did_same _
    (diagnosed_own own whole (sited_same _ _ _ c.requires.1) c.args.seat c.args.e f c.code_for-code.result
    (sym c.active_as.ensures ∙ c.if-active_as.true) c.code_for-code.ensures)
    (record { is = refl; said = c.reply.ensures; whole = c.requires.2 })

pub refuse-requires : goal.refuse-requires
refuse-requires c = (c.requires.0, sited_fit _ _ _ c.requires.1, c.requires.2)

pub returns : goal.returns
returns c = let own : FarmSheet = site_sheet c.args.site in
    let whole : FarmSheet = farm_sheet c.args.s.now c.args.f.0 in
    let f : Farm = farm_of c.args.b.now in
    did_same _
    (diagnosed-stranger own whole (sited_same _ _ _ c.requires.1) c.args.seat c.args.e f (sym c.active_as.ensures ∙ c.if-active_as.false))
    c.refuse.ensures
