-- `join_line` meets its contract.
-- Assumes nothing.
use mathlib.Core.Path.{◌≡◌, sym, ap, ◌∙◌}
use mathlib.Core.List.{[], ◌∷◌, ◌++◌}
use native.Mathlib.Omega.{arith}
use lib.ListN.{length}
use Rattle.model.specs.FarmSheet.{FarmSheet}
use Rattle.model.specs.Row.{waiting_row}
use Rattle.model.specs.Farm.{Farm, with_row, with_line}
use Rattle.model.specs.Line.{started}
use Rattle.table.specs.Block.{farm_of}
use Rattle.decide.specs.SiteSheet.{site_sheet}
use Rattle.closing.proofs.DidLaws.{did_same, did-quietly}
use Rattle.line_join.proofs.LineLaws.{joined-first, joined-behind}
use Rattle.line_join.proofs.join_line.Goals as goal

pub join-requires : goal.join-requires
join-requires c = (c.requires.0, omega (arith, ap (λ (x : Farm). length x.line) c.put_row.ensures.is, c.requires.1), c.put_row.ensures.whole)

pub returns-then-n-eq0 : goal.returns-then-n-eq0
returns-then-n-eq0 c =
    let own : FarmSheet = site_sheet c.args.site in
    let f : Farm = farm_of c.args.b.now in
    let k : farm_of c.join.new.b ≡ with_line (with_row f c.args.seat (waiting_row c.args.q)) (f.line ++ (c.args.seat ∷ [])) =
    c.join.ensures.is
    ∙ ap (λ (x : Farm). with_line x (x.line ++ (c.args.seat ∷ []))) (c.put_row.ensures.is ∙ ap (with_row f c.args.seat) c.row_of.ensures)
    in
    did_same _ (ap (started own) k ∙ sym (joined-first own c.args.seat c.args.q f (sym c.waiting-n.ensures ∙ c.if-n-eq0.true))) c.start.ensures

pub returns-else-n-eq0 : goal.returns-else-n-eq0
returns-else-n-eq0 c =
    let own : FarmSheet = site_sheet c.args.site in
    let f : Farm = farm_of c.args.b.now in
    let k : farm_of c.join.new.b ≡ with_line (with_row f c.args.seat (waiting_row c.args.q)) (f.line ++ (c.args.seat ∷ [])) =
    c.join.ensures.is
    ∙ ap (λ (x : Farm). with_line x (x.line ++ (c.args.seat ∷ []))) (c.put_row.ensures.is ∙ ap (with_row f c.args.seat) c.row_of.ensures)
    in
    let some : length f.line ≡ 0 → ⊥ = λ z. c.if-n-eq0.false (c.waiting-n.ensures ∙ z) in
    did_same _ (sym (joined-behind own c.args.seat c.args.q f some)) (did-quietly (record { is = k; whole = c.join.ensures.whole }))
