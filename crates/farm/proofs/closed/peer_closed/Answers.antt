-- `closed::peer_closed` meets its contract.
-- Assumes nothing.
use mathlib.Core.Path.{◌≡◌, sym, ap, subst, ◌∙◌}
use Rattle.model.specs.FarmSheet.{FarmSheet}
use Rattle.model.specs.Farm.{Farm}
use Rattle.model.specs.Line.{settle, left}
use Rattle.model.specs.Move.{peer_gone}
use Rattle.model.proofs.Seats.{closed-line}
use Rattle.table.specs.Block.{farm_of}
use Rattle.decide.specs.SiteSheet.{site_sheet}
use Rattle.closing.specs.Did.{Seated}
use Rattle.closing.proofs.DidLaws.{did_then}
use Rattle.farm.proofs.SeatedLaws.{left_seated}
use Rattle.farm.proofs.closed.peer_closed.Goals as goal

pub settle-requires : goal.settle-requires
settle-requires c = let own : FarmSheet = site_sheet c.args.site in
    let f : Farm = farm_of c.args.b.now in
    let g : Farm = farm_of c.close.new.b in
    let w = c.leave_line.ensures in
    let e : g.line ≡ f.line = ap (λ (x : Farm). x.line) c.close.ensures.is ∙ closed-line own c.args.seat f in
    (subst Seated (ap (λ (x : Farm). x.line) (sym w.is)) (left_seated own c.args.seat g (subst Seated (sym e) c.requires.1)), c.requires.2, w.whole)

pub returns : goal.returns
unfolding peer_gone
returns c = let s = c.args in
    let own : FarmSheet = site_sheet s.site in
    did_then _ (settle own) (did_then _ (left own s.seat) c.close.ensures c.leave_line.ensures) c.settle.ensures
