-- `tick_farms` meets its contract.
-- Assumes nothing.
use native.Mathlib.Omega.{arith}
use Rattle.sheet.proofs.LengthLaws.{good_lengths}
use Rattle.site.proofs.SiteLaws.{sited_fit}
use Rattle.farm.proofs.SeatedLaws.{good_seated}
use Rattle.serve.proofs.MovedLaws.{ready_below}
use Rattle.serve_tick.proofs.TickLaws.{ready_still, ticked-none, ticked-more, ticked-all}
use Rattle.serve_tick.proofs.tick_farms.Goals as goal

pub farm_count-n-requires : goal.farm_count-n-requires
farm_count-n-requires c = (good_lengths _ c.requires.0.sheet).header

pub loop-i-init : goal.loop-i-init
loop-i-init c = ticked-none c.requires.0 c.requires.1

pub overflow_cast-f : goal.overflow_cast-f
overflow_cast-f c = omega (arith, c.loop-i-test.true, c.farm_count-n.ensures, c.requires.0.sheet.head.farms_at_most)

pub site_of-site-requires : goal.site_of-site-requires
site_of-site-requires c = (c.requires.0.sheet, omega (arith, c.loop-i-test.true, c.farm_count-n.ensures))

pub tick_at-requires : goal.tick_at-requires
tick_at-requires c = let r = ready_still c.requires.0 c.loop-i.invariant.farms (omega (arith, c.loop-i-test.true, c.farm_count-n.ensures)) in
    (ready_below r, r.long, good_seated r.good, sited_fit _ _ _ c.site_of-site.ensures, r.whole)

pub loop-i-preserved : goal.loop-i-preserved
loop-i-preserved c = ticked-more c.loop-i.i _ (omega (arith, c.loop-i-test.true, c.farm_count-n.ensures, c.requires.0.sheet.head.farms_at_most)) c.site_of-site.ensures c.loop-i.invariant c.tick_at.ensures

pub returns : goal.returns
returns c = ticked-all c.loop-i.invariant (omega arith)
