-- `tick_all` meets its contract.
-- Assumes nothing.
use mathlib.Core.List.{[]}
use Rattle.model.specs.Move.{no_row}
use Rattle.finish.proofs.AnswerLaws.{wrote-items}
use Rattle.serve.proofs.MovedLaws.{small-room}
use Rattle.serve_tick.proofs.TickLaws.{ticks-small, ticked-items}
use Rattle.serve_tick.proofs.tick_all.Goals as goal

pub tick_farms-requires : goal.tick_farms-requires
tick_farms-requires c = (c.requires.0, c.new-p.ensures)

pub finish_short-requires : goal.finish_short-requires
finish_short-requires c = let x = c.tick_farms.ensures in
    small-room _ _ _ _ (ticked-items c.requires.0 x) (ticks-small c.requires.0) c.requires.1

pub returns : goal.returns
unfolding no_row
returns c =
    let w = c.finish_short.ensures in
    let x = c.tick_farms.ensures in
    record { answer = w.value; farms = x.farms; wrote = wrote-items [] (ticked-items c.requires.0 x) w.wrote }
