-- `try_peer_closed` meets its contract.
-- Assumes nothing.
use Rattle.std.proofs.Common.{Some, None}
use Rattle.model.specs.Table.{peer_closed_on, whose, least_output}
use mathlib.Core.Path.{◌≡◌, refl, sym, ◌∙◌}
use native.Mathlib.Omega.{arith}
use lib.ListN.{length}
use Rattle.sheet.proofs.LengthLaws.{good_lengths}
use Rattle.table.specs.Layout.{table_size}
use Rattle.lent.specs.Served.{refusal, answered}
use Rattle.lent.proofs.GateLaws.{gate_passes}
use Rattle.lent.proofs.CallLaws.{refused_as, gate_passed_on}
use Rattle.model.specs.Move.{peer_closed}
use Rattle.sheet.proofs.RowsLaws.{owner_seat, owned_few}
use Rattle.serve.proofs.MovedLaws.{ready_below}
use Rattle.serve.proofs.ServeLaws.{owned, ready_of, row_unknown}
use Rattle.serve.proofs.CallsLaws.{peer_not_open, peer_served}
use borrow.Author.Rules.{rules}
use Rattle.call_closed.proofs.try_peer_closed.Goals as goal

pub returns-in_err-refusal : goal.returns-in_err-refusal
returns-in_err-refusal c = gate_passed_on _ _ _ _ (peer_closed_on c.args.row.0) _ _ c.in_err-refusal.ensures c.from_residual.ensures.1

pub owner_of-requires : goal.owner_of-requires
owner_of-requires c = (good_lengths _ (gate_passes _ _ _ _ (sym c.in_ok-refusal.ensures)).lendable.sheet).all_farms

pub returns-in_err-f : goal.returns-in_err-f
unfolding whose
returns-in_err-f c =
    let nobodys : c.owner_of.result ≡ None = grind arith in
    let six : answered c.from_residual-in_err-f.result ≡ refusal 6 = search rules in
    refused_as _ _ 6 _ _ six (row_unknown _ _ _ _ (gate_passes _ _ _ _ (sym c.in_ok-refusal.ensures)) (search rules) (peer_closed_on c.args.row.0) _ (λ i. peer_closed i) refl (sym c.owner_of.ensures ∙ nobodys))

pub is_open-requires : goal.is_open-requires
is_open-requires c =
    let gone = gate_passes _ _ _ _ (sym c.in_ok-refusal.ensures) in
    let long : length c.args.t.now ≡ table_size = search rules in
    let told : c.owner_of.result ≡ Some (c.in_ok-f.f, c.in_ok-f.k) = grind arith in
    let seated = owner_seat _ _ _ _ (owned _ _ c.owner_of.ensures told c.wide-seat.ensures) in
    (ready_below (ready_of _ _ _ _ gone long _ seated.farm_within), long)

pub returns-then-not-is_open : goal.returns-then-not-is_open
returns-then-not-is_open c =
    let gone = gate_passes _ _ _ _ (sym c.in_ok-refusal.ensures) in
    let told : c.owner_of.result ≡ Some (c.in_ok-f.f, c.in_ok-f.k) = grind arith in
    let own = owned _ _ c.owner_of.ensures told c.wide-seat.ensures in
    refused_as _ _ 6 _ _ refl
    (peer_not_open _ _ _ _ gone (search rules) _ _ _ own (owner_seat _ _ _ _ own).farm_within (sym c.is_open.ensures ∙ c.if-not-is_open.true))

pub close_row-requires : goal.close_row-requires
unfolding least_output
close_row-requires c =
    let gone = gate_passes _ _ _ _ (sym c.in_ok-refusal.ensures) in
    let told : c.owner_of.result ≡ Some (c.in_ok-f.f, c.in_ok-f.k) = grind arith in
    let seated = owner_seat _ _ _ _ (owned _ _ c.owner_of.ensures told c.wide-seat.ensures) in (
      omega (arith, seated.seat_within, owned_few _ _ gone.lendable.sheet seated.farm_within),
      ready_of _ _ _ _ gone (search rules) _ seated.farm_within,
      gone.lendable.output,
    )

pub returns : goal.returns
returns c =
    let gone = gate_passes _ _ _ _ (sym c.in_ok-refusal.ensures) in
    let told : c.owner_of.result ≡ Some (c.in_ok-f.f, c.in_ok-f.k) = grind arith in
    let own = owned _ _ c.owner_of.ensures told c.wide-seat.ensures in
    peer_served _ _ _ _ gone (search rules) _ _ _ _ _ _ own (owner_seat _ _ _ _ own).farm_within (sym c.is_open.ensures ∙ c.if-not-is_open.false) c.close_row.ensures
