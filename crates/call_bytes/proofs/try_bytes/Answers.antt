-- `try_bytes` meets its contract.
-- Assumes nothing.
use Rattle.std.proofs.Common.{Some, None}
use mathlib.Core.Path.{◌≡◌, refl, sym, ◌∙◌}
use native.Mathlib.Omega.{arith}
use lib.ListN.{length}
use Rattle.sheet.proofs.LengthLaws.{good_lengths}
use Rattle.sheet.proofs.RowsLaws.{owner_seat}
use Rattle.model.specs.Move.{bytes}
use Rattle.model.specs.Table.{least_output, bytes_from, whose}
use Rattle.table.specs.Layout.{table_size}
use Rattle.lent.specs.Served.{refusal, answered}
use Rattle.lent.proofs.GateLaws.{gate_passes}
use Rattle.lent.proofs.CallLaws.{refused_as, gate_passed_on}
use Rattle.serve.proofs.MovedLaws.{ready_below}
use Rattle.serve.proofs.ServeLaws.{owned, ready_of, row_unknown}
use Rattle.call_bytes.proofs.BytesLaws.{bytes-closed, bytes-waits, bytes-served}
use borrow.Author.Rules.{rules}
use Rattle.call_bytes.proofs.try_bytes.Goals as goal

pub returns-in_err-refusal : goal.returns-in_err-refusal
returns-in_err-refusal c = gate_passed_on _ _ _ _ (bytes_from c.args.row.0 c.args.input.now) _ _ c.in_err-refusal.ensures c.from_residual.ensures.1

pub owner_of-requires : goal.owner_of-requires
owner_of-requires c =
    let gone = gate_passes _ _ _ _ (sym c.in_ok-refusal.ensures) in
    (good_lengths _ gone.lendable.sheet).all_farms

pub returns-in_err-f : goal.returns-in_err-f
unfolding whose
returns-in_err-f c =
    let gone = gate_passes _ _ _ _ (sym c.in_ok-refusal.ensures) in
    let long : length c.args.t.now ≡ table_size = search rules in
    let nobodys : c.owner_of.result ≡ None = grind arith in
    let six : answered c.from_residual-in_err-f.result ≡ refusal 6 = search rules in
    refused_as _ _ 6 _ _ six
    (row_unknown _ _ _ _ gone long (bytes_from c.args.row.0 c.args.input.now) c.args.row.0 (λ k. bytes k c.args.input.now) refl (sym c.owner_of.ensures ∙ nobodys))

pub is_open-requires : goal.is_open-requires
is_open-requires c =
    let gone = gate_passes _ _ _ _ (sym c.in_ok-refusal.ensures) in
    let long : length c.args.t.now ≡ table_size = search rules in
    let told : c.owner_of.result ≡ Some (c.in_ok-f.f, c.in_ok-f.k) = grind arith in
    let own = owned _ _ c.owner_of.ensures told c.wide-seat.ensures in
    let seated = owner_seat _ _ _ _ own in
    let ready = ready_of _ _ _ _ gone long _ seated.farm_within in
    (ready_below ready, long)

pub returns-then-not-is_open : goal.returns-then-not-is_open
returns-then-not-is_open c =
    let gone = gate_passes _ _ _ _ (sym c.in_ok-refusal.ensures) in
    let long : length c.args.t.now ≡ table_size = search rules in
    let told : c.owner_of.result ≡ Some (c.in_ok-f.f, c.in_ok-f.k) = grind arith in
    let own = owned _ _ c.owner_of.ensures told c.wide-seat.ensures in
    refused_as _ _ 6 _ _ refl
    (bytes-closed _ _ _ _ gone long c.args.row.0 c.in_ok-f.f.0 c.wide-seat.result c.args.input.now own (sym c.is_open.ensures ∙ c.if-not-is_open.true))

pub is_waiting-requires : goal.is_waiting-requires
is_waiting-requires c =
    let gone = gate_passes _ _ _ _ (sym c.in_ok-refusal.ensures) in
    let long : length c.args.t.now ≡ table_size = search rules in
    let told : c.owner_of.result ≡ Some (c.in_ok-f.f, c.in_ok-f.k) = grind arith in
    let own = owned _ _ c.owner_of.ensures told c.wide-seat.ensures in
    let seated = owner_seat _ _ _ _ own in
    let ready = ready_of _ _ _ _ gone long _ seated.farm_within in
    (ready_below ready, long)

pub returns-then-is_waiting : goal.returns-then-is_waiting
returns-then-is_waiting c =
    let gone = gate_passes _ _ _ _ (sym c.in_ok-refusal.ensures) in
    let long : length c.args.t.now ≡ table_size = search rules in
    let told : c.owner_of.result ≡ Some (c.in_ok-f.f, c.in_ok-f.k) = grind arith in
    let own = owned _ _ c.owner_of.ensures told c.wide-seat.ensures in
    refused_as _ _ 7 _ _ refl
    (bytes-waits _ _ _ _ gone long c.args.row.0 c.in_ok-f.f.0 c.wide-seat.result c.args.input.now own (sym c.is_waiting.ensures ∙ c.if-is_waiting.true))

pub take-requires : goal.take-requires
unfolding least_output
take-requires c =
    let gone = gate_passes _ _ _ _ (sym c.in_ok-refusal.ensures) in
    let long : length c.args.t.now ≡ table_size = search rules in
    let told : c.owner_of.result ≡ Some (c.in_ok-f.f, c.in_ok-f.k) = grind arith in
    let own = owned _ _ c.owner_of.ensures told c.wide-seat.ensures in
    let seated = owner_seat _ _ _ _ own in
    let ready = ready_of _ _ _ _ gone long _ seated.farm_within in
    (ready, seated.seat_within, sym c.is_waiting.ensures ∙ c.if-is_waiting.false, gone.lendable.assembling, gone.lendable.output)

pub returns : goal.returns
returns c =
    let gone = gate_passes _ _ _ _ (sym c.in_ok-refusal.ensures) in
    let long : length c.args.t.now ≡ table_size = search rules in
    let told : c.owner_of.result ≡ Some (c.in_ok-f.f, c.in_ok-f.k) = grind arith in
    let own = owned _ _ c.owner_of.ensures told c.wide-seat.ensures in
    bytes-served _ _ _ _ gone long c.args.row.0 c.in_ok-f.f.0 c.wide-seat.result c.args.input.now own
    _ _ _ _ (sym c.is_open.ensures ∙ c.if-not-is_open.false) (sym c.is_waiting.ensures ∙ c.if-is_waiting.false) c.take.ensures
