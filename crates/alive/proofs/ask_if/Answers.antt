-- `ask_if` meets its contract.
-- Assumes nothing.
use mathlib.Core.Path.{refl, sym, ◌∙◌}
use Rattle.model.specs.Farm.{Farm}
use Rattle.table.specs.Block.{farm_of}
use Rattle.decide.specs.SiteSheet.{site_sheet}
use Rattle.closing.proofs.DidLaws.{did_same, did_nothing, did-says}
use Rattle.closing.proofs.StepLaws.{asked_yes, asked_no}
use Rattle.alive.proofs.ask_if.Goals as goal

pub returns-then-asks : goal.returns-then-asks
returns-then-asks c =
    let s = c.args in
    let f : Farm = farm_of s.b.now in
    did_same _ (sym (asked_yes (site_sheet s.site) s.check s.i f (sym c.asks.ensures ∙ c.if-asks.true)))
    (did-says {f = f} (record { is = refl; whole = c.requires.2 }) c.say.ensures)

pub returns-else-asks : goal.returns-else-asks
returns-else-asks c =
    let s = c.args in
    did_same _ (sym (asked_no (site_sheet s.site) s.check s.i (farm_of s.b.now) (sym c.asks.ensures ∙ c.if-asks.false)))
    (did_nothing s.p.now s.b.now c.requires.2)
