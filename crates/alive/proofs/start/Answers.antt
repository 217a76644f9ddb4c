-- `start` meets its contract.
-- Assumes nothing.
use mathlib.Core.Path.{sym, ap, ◌∙◌}
use Prim.Native.Nat.{ℕ}
use Rattle.std.specs.Prelude.{slice_get}
use Rattle.kinds.specs.declared.Decision.{Decision}
use Rattle.model.specs.FarmSheet.{FarmSheet}
use Rattle.model.specs.Row.{row_at, wanted}
use Rattle.model.specs.Farm.{Farm}
use Rattle.model.specs.Line.{socket_rules, asking, cleared}
use Rattle.table.specs.Block.{farm_of}
use Rattle.decide.specs.SiteSheet.{site_sheet}
use Rattle.closing.proofs.DidLaws.{did_same, did-quietly}
use Rattle.closing.proofs.StepLaws.{started_none, started-head}
use Rattle.alive.proofs.start.Goals as goal

pub returns-in_default : goal.returns-in_default
returns-in_default c =
    let k = c.clear.ensures in
    let none = ap (λ (x : Farm). slice_get x.line 0) (sym k.is) ∙ sym c.head.ensures ∙ c.in_default.is in
    did_same _ (sym (started_none (site_sheet c.args.site) (farm_of c.args.b.now) none)) (did-quietly k)

pub returns : goal.returns
returns c =
    let own : FarmSheet = site_sheet c.args.site in
    let f : Farm = farm_of c.args.b.now in
    let k = c.clear.ensures.is in
    let h : ℕ = c.in-Some.head in
    let some = ap (λ (x : Farm). slice_get x.line 0) (sym k) ∙ sym c.head.ensures ∙ c.in-Some.is in
    let d = c.rules_for-d.ensures ∙ ap (λ (x : Farm). socket_rules own x.rows (wanted (row_at x.rows h))) k in
    did_same _
    (ap (asking own c.rules_for-d.result) k ∙ ap (λ (e : Decision). asking own e (cleared f)) d ∙ sym (started-head own f h some))
    c.ask_by.ensures
