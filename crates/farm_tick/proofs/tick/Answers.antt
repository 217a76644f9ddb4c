-- `tick` meets its contract.
-- Assumes nothing.
use mathlib.Core.Path.{◌≡◌, sym, ap, subst, ◌∙◌}
use Prim.Native.Nat.{ℕ}
use Rattle.kinds.specs.declared.Row.{Row}
use Rattle.model.specs.FarmSheet.{FarmSheet}
use Rattle.model.specs.Row.{at_limit}
use Rattle.model.specs.Farm.{Farm, closed_where}
use Rattle.model.specs.Line.{settle}
use Rattle.model.specs.Move.{clock_run, aged, ticked}
use Rattle.table.specs.Block.{farm_of}
use Rattle.decide.specs.SiteSheet.{site_sheet}
use Rattle.closing.specs.Did.{Seated}
use Rattle.closing.proofs.DidLaws.{did_same, did_then}
use Rattle.farm.proofs.SeatedLaws.{closings_line, clock-line}
use Rattle.farm_tick.proofs.tick.Goals as goal

pub settle-requires : goal.settle-requires
settle-requires c = let own : FarmSheet = site_sheet c.args.site in
    let f : Farm = farm_of c.args.b.now in
    let w = c.close_due.ensures in
    let e : (farm_of c.close_due.new.b).line ≡ f.line =
    ap (λ (x : Farm). x.line) w.is
    ∙ closings_line own (λ (seat : ℕ) (r : Row). at_limit r) (farm_of c.age_rows.new.b)
    ∙ ap (λ (x : Farm). x.line) c.age_rows.ensures.is
    ∙ ap (λ (x : Farm). x.line) c.run_clock.ensures.is
    ∙ clock-line f.line f
    in
    (subst Seated (sym e) c.requires.0, c.requires.1, w.whole)

pub returns : goal.returns
unfolding ticked
returns c = let s = c.args in
    let own : FarmSheet = site_sheet s.site in
    let f : Farm = farm_of s.b.now in
    let g : farm_of c.age_rows.new.b ≡ aged (clock_run f.line f) =
    c.age_rows.ensures.is ∙ ap aged c.run_clock.ensures.is
    in
    did_then _ (settle own) (did_same _ (ap (closed_where own (λ (seat : ℕ) (r : Row). at_limit r)) g) c.close_due.ensures) c.settle.ensures
