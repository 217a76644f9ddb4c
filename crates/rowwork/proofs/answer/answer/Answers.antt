-- `answer::answer` meets its contract.
-- Assumes nothing.
use mathlib.Core.Path.{refl, sym, ap, ◌∙◌}
use Rattle.kinds.specs.declared.Clock.{Clock}
use Rattle.model.specs.FarmSheet.{FarmSheet}
use Rattle.model.specs.Row.{row_of}
use Rattle.model.specs.Farm.{Farm, with_row, closed}
use Rattle.model.specs.Line.{accepted}
use Rattle.table.specs.Block.{farm_of}
use Rattle.decide.specs.SiteSheet.{site_sheet}
use Rattle.closing.proofs.DidLaws.{did_same, did-says, did_then}
use Rattle.closing.proofs.StepLaws.{answered-yes, answered_no}
use Rattle.kinds.specs.declared.RowState.TheVariants.{Active}
use Rattle.rowwork.proofs.answer.answer.Goals as goal

pub returns-then-code-eq-ACCEPTED : goal.returns-then-code-eq-ACCEPTED
unfolding accepted site_sheet
returns-then-code-eq-ACCEPTED c =
    let s = c.args in
    let f : Farm = farm_of s.b.now in
    let r = c.put_row.ensures in
    let e = ap (with_row f s.seat) (c.row_of.ensures ∙ ap (λ (k : Clock). row_of (Active s.address k)) c.fresh-c.ensures) in
    did_same _ (sym (answered-yes (site_sheet s.site) s.seat s.address s.code f c.if-code-eq-ACCEPTED.true))
    (did-says (record { is = r.is ∙ e; whole = r.whole }) c.say.ensures)

pub returns : goal.returns
unfolding accepted site_sheet
returns c =
    let a = c.args in
    let f : Farm = farm_of a.b.now in
    let own : FarmSheet = site_sheet a.site in
    did_same _ (sym (answered_no own a.seat a.address a.code f c.if-code-eq-ACCEPTED.false))
    (did_then _ (closed own a.seat) (did-says {f = f} (record { is = refl; whole = c.requires.2 }) c.say.ensures) c.close.ensures)
