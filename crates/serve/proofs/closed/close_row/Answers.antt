-- `closed::close_row` meets its contract.
-- Assumes nothing.
use Rattle.farm.proofs.SeatedLaws.{good_seated}
use Rattle.site.proofs.SiteLaws.{sited_same, sited_fit}
use Rattle.model.specs.Move.{no_row}
use Rattle.model.proofs.SameSite.{peer_same}
use Rattle.serve.proofs.MovedLaws.{ready_below, peer_small, said-items, small-room, at_same, moved_of}
use Rattle.serve.proofs.closed.close_row.Goals as goal

pub peer_closed_at-requires : goal.peer_closed_at-requires
peer_closed_at-requires c =
    let r = c.requires.1 in
    (ready_below r, r.long, c.requires.0, good_seated r.good, sited_fit _ _ _ c.site_of-site.ensures, r.whole)

pub finish_short-requires : goal.finish_short-requires
finish_short-requires c =
    let small = peer_small c.requires.1 c.args.seat in
    let d = at_same (peer_same _ _ (sited_same _ _ _ c.site_of-site.ensures) c.args.seat _) c.peer_closed_at.ensures in
    small-room _ _ _ _ (said-items c.new-p.ensures d.did small.few) small c.requires.2

pub returns : goal.returns
unfolding no_row
returns c =
    let d = at_same (peer_same _ _ (sited_same _ _ _ c.site_of-site.ensures) c.args.seat _) c.peer_closed_at.ensures in
    moved_of c.new-p.ensures (peer_small c.requires.1 c.args.seat) d c.finish_short.ensures.value c.finish_short.ensures.wrote
