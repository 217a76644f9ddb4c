-- `closed::close_farm` meets its contract.
-- Assumes nothing.
use Rattle.site.proofs.SiteLaws.{sited_same, sited_fit}
use Rattle.model.specs.Move.{no_row}
use Rattle.model.proofs.SameSite.{link_same}
use Rattle.serve.proofs.MovedLaws.{ready_below, link_small, said-items, small-room, at_same, moved_of}
use Rattle.serve.proofs.closed.close_farm.Goals as goal

pub link_lost_at-requires : goal.link_lost_at-requires
link_lost_at-requires c =
    let r = c.requires.0 in
    (ready_below r, r.long, sited_fit _ _ _ c.site_of-site.ensures, r.whole)

pub finish_short-requires : goal.finish_short-requires
finish_short-requires c =
    let r = c.requires.0 in
    let d = at_same (link_same _ _ (sited_same _ _ _ c.site_of-site.ensures) _) c.link_lost_at.ensures in
    small-room _ _ _ _ (said-items c.new-p.ensures d.did (link_small r).few) (link_small r) c.requires.1

pub returns : goal.returns
unfolding no_row
returns c =
    let d = at_same (link_same _ _ (sited_same _ _ _ c.site_of-site.ensures) _) c.link_lost_at.ensures in
    moved_of c.new-p.ensures (link_small c.requires.0) d c.finish_short.ensures.value c.finish_short.ensures.wrote
