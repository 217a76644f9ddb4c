-- `leave_line` meets its contract.
-- Assumes nothing.
use mathlib.Core.Path.{sym, ap, ◌∙◌}
use Prim.Native.Nat.{ℕ}
use Rattle.std.specs.Prelude.{Some}
use Rattle.table.specs.Block.{farm_of}
use Rattle.decide.specs.SiteSheet.{site_sheet}
use Rattle.closing.proofs.DidLaws.{did_same, did-quietly, did_nothing}
use Rattle.line_join.proofs.LineLaws.{left-none, left-head, left_behind}
use Rattle.line_join.proofs.leave_line.Goals as goal

pub returns-in_default : goal.returns-in_default
returns-in_default c =
    did_same _ (sym (left-none (site_sheet c.args.site) c.args.seat (farm_of c.args.b.now) (sym c.head.ensures ∙ c.in_default.is)))
    (did_nothing c.args.p.now c.args.b.now c.requires.1)

pub returns-then-seat-head : goal.returns-then-seat-head
returns-then-seat-head c =
    let some = sym c.head.ensures ∙ c.in-Some.is ∙ ap (λ (h : ℕ). Some h) (sym c.if-seat-head.true) in
    did_same _ (sym (left-head (site_sheet c.args.site) c.args.seat (farm_of c.args.b.now) some)) c.advance.ensures

pub returns : goal.returns
returns c =
    let some = sym c.head.ensures ∙ c.in-Some.is in
    did_same _ (sym (left_behind (site_sheet c.args.site) c.args.seat (farm_of c.args.b.now) c.in-Some.head some c.if-seat-head.false))
    (did-quietly c.leave.ensures)
