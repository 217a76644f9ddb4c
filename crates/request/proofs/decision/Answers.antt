-- `decision` meets its contract.
-- Assumes nothing.
use Rattle.sheet.proofs.LengthLaws.{good_lengths}
use mathlib.Core.List.{List}
use borrow.Author.Tests.{lt-leb, le-leb}
use Rattle.kinds.specs.declared.Row.{Row}
use Rattle.model.specs.Row.{row_at}
use mathlib.Core.Path.{◌≡◌, sym, ◌∙◌}
use mathlib.Core.Bool.{true}
use lib.Dec.{eqb}
use borrow.Author.Rules.{rules}
use Rattle.model.specs.FarmSheet.{farm_sheet}
use Rattle.table.specs.Block.{farm_of}
use Rattle.decide.specs.SiteSheet.{site_sheet}
use Rattle.site.proofs.SiteLaws.{sited_same}
use Rattle.request.proofs.RequestLaws.{decide_nobody, decide_other, decide_type, decide_state, state_same}
use Rattle.request.proofs.decision.Goals as goal

pub find_tester-requires : goal.find_tester-requires
find_tester-requires c = (good_lengths _ c.requires.0.good).whole

pub returns-in_default : goal.returns-in_default
returns-in_default c = decide_nobody c.args.s.now c.args.f.0 (farm_of c.args.b.now).rows c.args.seat c.args.q (sym c.find_tester.ensures ∙ c.in_default.is)

pub returns-then-not-ours : goal.returns-then-not-ours
returns-then-not-ours c =
    decide_other c.args.s.now c.args.f.0 (farm_of c.args.b.now).rows c.args.seat c.args.q (sym c.find_tester.ensures ∙ c.in-Some.is) (sym c.eq-ours.ensures ∙ c.if-not-ours.true)

pub returns-then-not-right_type : goal.returns-then-not-right_type
returns-then-not-right_type c =
    decide_type c.args.s.now c.args.f.0 (farm_of c.args.b.now).rows c.args.seat c.args.q (sym c.find_tester.ensures ∙ c.in-Some.is)
    (let z : eqb c.in-Some.k.farm.0 c.args.f.0 ≡ true = search rules in z) (lt-leb _ _ c.if-not-right_type.true)

pub returns : goal.returns
returns c =
    let rows : List Row = (farm_of c.args.b.now).rows in
    c.by_state.ensures
    ∙ state_same (site_sheet c.args.site) (farm_sheet c.args.s.now c.args.f.0) (sited_same _ _ _ c.requires.0) rows c.args.q.address (row_at rows c.args.seat).state
    ∙ decide_state c.args.s.now c.args.f.0 rows c.args.seat c.args.q (sym c.find_tester.ensures ∙ c.in-Some.is)
    (sym c.eq-ours.ensures ∙ c.if-not-ours.false) (le-leb _ _ c.if-not-right_type.false)
