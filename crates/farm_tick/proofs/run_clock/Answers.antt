-- `run_clock` meets its contract.
-- Assumes nothing.
use mathlib.Core.Path.{sym, ap, ◌∙◌}
use Rattle.kinds.specs.Clock.{stepped}
use Rattle.model.specs.Farm.{Farm, with_clock}
use Rattle.table.specs.Block.{farm_of}
use Rattle.farm_tick.proofs.TickLaws.{clock_still, clock_runs}
use Rattle.farm_tick.proofs.run_clock.Goals as goal

pub returns-then-waiting-eq0 : goal.returns-then-waiting-eq0
returns-then-waiting-eq0 c = record { is = sym (clock_still (farm_of c.args.b.now) (sym c.waiting.ensures ∙ c.if-waiting-eq0.true)); whole = c.requires }

pub returns : goal.returns
returns c = let f : Farm = farm_of c.args.b.now in
    let w = c.put_clock.ensures in
    record {
      is =
          w.is
          ∙ ap (with_clock f) (c.stepped.ensures ∙ ap stepped c.clock_at-c.ensures)
          ∙ sym (clock_runs f (λ z. c.if-waiting-eq0.false (c.waiting.ensures ∙ z)));
      whole = w.whole;
    }
