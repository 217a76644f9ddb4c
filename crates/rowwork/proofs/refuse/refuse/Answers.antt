-- `refuse::refuse` meets its contract.
-- Assumes nothing.
use mathlib.Core.Path.{refl}
use Rattle.model.specs.FarmSheet.{FarmSheet}
use Rattle.model.specs.Farm.{Farm, closed}
use Rattle.table.specs.Block.{farm_of}
use Rattle.decide.specs.SiteSheet.{site_sheet}
use Rattle.closing.proofs.DidLaws.{did_same, did-says, did_then}
use Rattle.rowwork.proofs.RefusedLaws.{refused-closes, refused_stays}
use Rattle.rowwork.proofs.refuse.refuse.Goals as goal

pub returns-then-closes : goal.returns-then-closes
returns-then-closes c = let own : FarmSheet = site_sheet c.args.site in
    let f : Farm = farm_of c.args.b.now in
    did_same _ (refused-closes own c.args.seat c.args.reply c.args.closes f c.if-closes.true)
    (did_then _ (closed own c.args.seat) (did-says {f = f} (record { is = refl; whole = c.requires.2 }) c.say.ensures) c.close.ensures)

pub returns-else-closes : goal.returns-else-closes
returns-else-closes c = let own : FarmSheet = site_sheet c.args.site in
    let f : Farm = farm_of c.args.b.now in
    did_same _ (refused_stays own c.args.seat c.args.reply c.args.closes f c.if-closes.false)
    (did-says {f = f} (record { is = refl; whole = c.requires.2 }) c.say.ensures)
