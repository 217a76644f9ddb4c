-- `mark_row` meets its contract.
-- Assumes nothing.
use mathlib.Core.Path.{sym, ap, ◌∙◌}
use mathlib.Core.Bool.{Bool, true}
use mathlib.Core.List.{List}
use lib.ListN.{set}
use Rattle.model.specs.FarmSheet.{FarmSheet}
use Rattle.model.specs.Farm.{Farm, with_marks}
use Rattle.table.specs.Block.{farm_of}
use Rattle.decide.specs.SiteSheet.{site_sheet}
use Rattle.line_join.proofs.LineLaws.{marked-stranger, marked_unasked, marked-yes}
use Rattle.line_join.proofs.mark_row.Goals as goal

pub returns-then-not-active_as : goal.returns-then-not-active_as
returns-then-not-active_as c =
    let own : FarmSheet = site_sheet c.args.site in
    let f : Farm = farm_of c.args.b.now in
    record { is = sym (marked-stranger own c.args.seat f c.args.address (sym c.active_as.ensures ∙ c.if-not-active_as.true)); whole = c.requires.1 }

pub returns-then-not-is_asked : goal.returns-then-not-is_asked
returns-then-not-is_asked c =
    let own : FarmSheet = site_sheet c.args.site in
    let f : Farm = farm_of c.args.b.now in
    record {
      is =
          sym
          (marked_unasked own c.args.seat f c.args.address (sym c.active_as.ensures ∙ c.if-not-active_as.false)
          (sym c.is_asked.ensures ∙ c.if-not-is_asked.true));
      whole = c.requires.1;
    }

pub returns : goal.returns
returns c =
    let own : FarmSheet = site_sheet c.args.site in
    let f : Farm = farm_of c.args.b.now in
    let m = c.put_marks.ensures in
    record {
      is =
          m.is
          ∙ ap (with_marks f) (c.mark.ensures ∙ ap (λ (l : List Bool). set l c.args.seat true) c.marks_at-m.ensures)
          ∙ sym
          (marked-yes own c.args.seat f c.args.address (sym c.active_as.ensures ∙ c.if-not-active_as.false)
          (sym c.is_asked.ensures ∙ c.if-not-is_asked.false));
      whole = m.whole;
    }
