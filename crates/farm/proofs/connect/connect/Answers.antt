-- `connect::connect` meets its contract.
-- Assumes nothing.
use Rattle.std.proofs.Common.{◌≡◌, sym, ap, ◌∙◌, None, arith, rules}
use Rattle.table.specs.Block.{farm_of}
use Rattle.farm.specs.Connected.{connected_farm}
use Rattle.farm.proofs.RowsLaws.{free_below}
use Rattle.farm.proofs.connect.connect.Goals as goal

pub returns-in_err-seat : goal.returns-in_err-seat
returns-in_err-seat c =
    let e : c.from_residual.result ≡ None = search rules in
    record { is = search rules; held = record { is = sym (ap (connected_farm (farm_of c.args.b.now)) e); whole = c.requires.1 } }

pub open_row-requires : goal.open_row-requires
open_row-requires c =
    let k = free_below c.args.b.now c.args.rows c.requires.0 _ (sym c.free_row.ensures ∙ c.in_ok-seat.was) in
    (omega (arith, k, c.requires.0), c.requires.1)

pub returns : goal.returns
returns c = record { is = search rules; held = c.open_row.ensures }
