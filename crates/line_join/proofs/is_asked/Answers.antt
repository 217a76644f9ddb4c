-- `is_asked` meets its contract.
-- Assumes nothing.
use mathlib.Core.Path.{sym, ap, ◌∙◌}
use Rattle.kinds.specs.declared.Decision.{Decision}
use Rattle.model.specs.Farm.{Farm}
use Rattle.model.specs.Row.{row_at}
use Rattle.model.specs.Line.{asked_by}
use Rattle.table.specs.Block.{farm_of}
use Rattle.decide.specs.SiteSheet.{site_sheet}
use Rattle.line_join.proofs.LineLaws.{asked_none, asked_head}
use Rattle.line_join.proofs.is_asked.Goals as goal

pub returns-in_default : goal.returns-in_default
returns-in_default c = sym (asked_none (site_sheet c.args.site) c.args.seat (farm_of c.args.b.now) (sym c.head.ensures ∙ c.in_default.is))

pub returns-in-Now : goal.returns-in-Now
returns-in-Now c =
    let f : Farm = farm_of c.args.b.now in
    let asked = asked_head (site_sheet c.args.site) c.args.seat f c.in-Some.head (sym c.head.ensures ∙ c.in-Some.is) in
    sym (asked ∙ ap (λ (x : Decision). asked_by x c.args.seat (row_at f.rows c.args.seat)) (sym c.rules_for-d.ensures ∙ c.in-Now.is))

pub returns-in-Ask : goal.returns-in-Ask
returns-in-Ask c =
    let f : Farm = farm_of c.args.b.now in
    let asked = asked_head (site_sheet c.args.site) c.args.seat f c.in-Some.head (sym c.head.ensures ∙ c.in-Some.is) in
    c.asks.ensures ∙ sym (asked ∙ ap (λ (x : Decision). asked_by x c.args.seat (row_at f.rows c.args.seat)) (sym c.rules_for-d.ensures ∙ c.in-Ask.is))
