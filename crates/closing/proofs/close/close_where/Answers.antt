-- `close::close_where` meets its contract.
-- Assumes nothing.
use mathlib.Core.Path.{◌≡◌, sym, ◌∙◌}
use native.Mathlib.Omega.{arith}
use Rattle.model.specs.Row.{row_at}
use Rattle.model.specs.Farm.{seat_count, closed_if}
use Rattle.table.specs.Block.{farm_of}
use Rattle.decide.specs.SiteSheet.{site_sheet}
use Rattle.closing.specs.Did.{Did}
use Rattle.closing.proofs.DidLaws.{did_start, did_seat, did-all, did_same, did_nothing}
use Rattle.closing.proofs.StepLaws.{closes-yes, closes_no}
use Rattle.closing.proofs.close.close_where.Goals as goal
use Rattle.closing.proofs.close.close_where.Goals.{then-passes, else-passes}

pub loop-i-init : goal.loop-i-init
loop-i-init g c = (did_start _ _ _ c.requires.1.1, omega arith)

pub loop-i-preserved : goal.loop-i-preserved
loop-i-preserved g c =
    let i = c.loop-i.i in
    let f = farm_of c.loop-i.b in
    let held = c.loop-i.invariant.0 in
    let said : c.passes.result ≡ g.test i (row_at f.rows i) = c.requires.1.2.says _ _ _ (omega arith) held.whole.long c.passes.ensures in
    let turn : Did c.loop-i.p c.if-passes.b c.if-passes.p (closed_if (site_sheet c.args.site) g.test i f) =
    elim c.if-passes.branch [
      | then-passes w ↦ rw w.b-is (rw w.p-is (did_same _ (sym (closes-yes _ _ _ _ (sym said ∙ w.if-passes.true))) w.close.ensures))
      | else-passes w ↦ rw w.b-is (rw w.p-is (did_same _ (sym (closes_no _ _ _ _ (sym said ∙ w.if-passes.false))) (did_nothing _ _ held.whole)))
    ]
    in
    (did_seat _ _ _ held turn, omega arith)

pub returns : goal.returns
unfolding seat_count
returns g c = did-all _ _ _ c.loop-i.invariant.0 c.loop-i.invariant.1 c.loop-i-test.false
