-- `try_connect` meets its contract.
-- Assumes nothing.
use Rattle.std.proofs.Common.{Option, Some, None}
use mathlib.Core.List.{List}
use Rattle.kinds.specs.declared.Site.{Site}
use Rattle.site.specs.Site.{Sited}
use Rattle.serve.specs.Moved.{ConnectedAt}
use Prim.Native.Nat.{ℕ, ◌+◌, ◌≤◌, ◌<◌}
use Rattle.sheet.specs.Sheet.{most_rows}
use Rattle.table.specs.Layout.{seats}
use Rattle.site.proofs.SiteLaws.{sited_rows, sited_few, sited_first, sited_row}
use Rattle.serve.proofs.MovedLaws.{ready_below}
use mathlib.Core.Path.{◌≡◌, refl, sym, ap, subst, ◌∙◌}
use native.Mathlib.Omega.{arith}
use borrow.Author.Tests.{ltb-true, ltb-false}
use Rattle.sheet.proofs.LengthLaws.{good_lengths}
use Rattle.model.specs.Move.{connect}
use Rattle.model.specs.Table.{connect_to, whose, least_output}
use Rattle.farm.proofs.RowsLaws.{connected-below}
use Rattle.lent.specs.Served.{refusal, answered}
use Rattle.lent.proofs.GateLaws.{gate_passes}
use Rattle.lent.proofs.CallLaws.{refused_as, gate_passed_on}
use Rattle.serve.proofs.ServeLaws.{ready_of, farm_unknown_lem}
use Rattle.serve.proofs.CallsLaws.{connect-refused, connect-served}
use borrow.Author.Rules.{rules}
use Rattle.call_connect.proofs.try_connect.Goals as goal

-- the opened row is one of the sheet's
opened_row : (s t after : List ℕ) (f : ℕ) (site : Site) (rows seat : ℕ) (r : Option ℕ) → Sited s f site → rows ≡ site.quota + 1 → ConnectedAt f rows t after r → r ≡ Some seat
    → site.first + seat < most_rows
opened_row s t after f site rows seat r sited e x told =
    let few : rows ≤ seats = omega (arith, e, sited_few s f site sited) in
    let below : seat < rows = connected-below rows _ _ r few x.connected seat told in
    sited_row s f site sited seat (omega (arith, e, below))

pub returns-in_err-refusal : goal.returns-in_err-refusal
returns-in_err-refusal c = gate_passed_on _ _ _ _ (connect_to c.args.f.0) _ _ c.in_err-refusal.ensures c.from_residual.ensures.1

pub has_farm-requires : goal.has_farm-requires
has_farm-requires c = (good_lengths _ (gate_passes _ _ _ _ (sym c.in_ok-refusal.ensures)).lendable.sheet).header

pub returns-then-not-has_farm : goal.returns-then-not-has_farm
unfolding whose
returns-then-not-has_farm c =
    let gone = gate_passes _ _ _ _ (sym c.in_ok-refusal.ensures) in
    refused_as _ _ 5 _ _ refl
    (farm_unknown_lem _ _ _ _ gone (search rules) _ _ connect refl (ltb-false _ _ (sym c.has_farm.ensures ∙ c.if-not-has_farm.true)))

pub site_of-site-requires : goal.site_of-site-requires
site_of-site-requires c =
    let gone = gate_passes _ _ _ _ (sym c.in_ok-refusal.ensures) in
    (gone.lendable.sheet, ltb-true _ _ (sym c.has_farm.ensures ∙ c.if-not-has_farm.false))

pub connect_at-requires : goal.connect_at-requires
connect_at-requires c =
    let gone = gate_passes _ _ _ _ (sym c.in_ok-refusal.ensures) in
    let ready = ready_of _ _ _ _ gone (search rules) _ (ltb-true _ _ (sym c.has_farm.ensures ∙ c.if-not-has_farm.false)) in
    let rows : c.wide-rows.result + 1 ≡ c.site_of-site.result.quota + 1 = ap (λ (k : ℕ). k + 1) c.wide-rows.ensures in
    (ready_below ready, ready.long, subst (λ (k : ℕ). k ≤ seats) (sym rows) (sited_few _ _ _ c.site_of-site.ensures), ready.whole)

pub returns-in_err-seat : goal.returns-in_err-seat
returns-in_err-seat c =
    let gone = gate_passes _ _ _ _ (sym c.in_ok-refusal.ensures) in
    let rows : c.wide-rows.result + 1 ≡ c.site_of-site.result.quota + 1 = ap (λ (k : ℕ). k + 1) c.wide-rows.ensures in
    let full : c.connect_at.result ≡ None = grind arith in
    let eight : answered c.from_residual-in_err-seat.result ≡ refusal 8 = search rules in
    connect-refused _ _ _ _ gone (search rules) _ _ _ _ (ltb-true _ _ (sym c.has_farm.ensures ∙ c.if-not-has_farm.false))
    (rows ∙ sited_rows _ _ _ c.site_of-site.ensures) c.connect_at.ensures _ full eight

pub overflow_add-row : goal.overflow_add-row
overflow_add-row c =
    let rows : c.wide-rows.result + 1 ≡ c.site_of-site.result.quota + 1 = ap (λ (k : ℕ). k + 1) c.wide-rows.ensures in
    let told : c.connect_at.result ≡ Some c.in_ok-seat.seat = grind arith in
    let k = opened_row _ _ _ _ _ _ _ _ c.site_of-site.ensures rows c.connect_at.ensures told in
    omega (arith, k, c.wide.ensures)

pub overflow_cast-row : goal.overflow_cast-row
overflow_cast-row c =
    let rows : c.wide-rows.result + 1 ≡ c.site_of-site.result.quota + 1 = ap (λ (k : ℕ). k + 1) c.wide-rows.ensures in
    let told : c.connect_at.result ≡ Some c.in_ok-seat.seat = grind arith in
    let k = opened_row _ _ _ _ _ _ _ _ c.site_of-site.ensures rows c.connect_at.ensures told in
    omega (arith, k, c.wide.ensures)

pub finish_empty-requires : goal.finish_empty-requires
unfolding least_output
finish_empty-requires c = (gate_passes _ _ _ _ (sym c.in_ok-refusal.ensures)).lendable.output

pub returns : goal.returns
returns c =
    let gone = gate_passes _ _ _ _ (sym c.in_ok-refusal.ensures) in
    let rows : c.wide-rows.result + 1 ≡ c.site_of-site.result.quota + 1 = ap (λ (k : ℕ). k + 1) c.wide-rows.ensures in
    let told : c.connect_at.result ≡ Some c.in_ok-seat.seat = grind arith in
    connect-served _ _ _ _ gone (search rules) _ _ _ _ (ltb-true _ _ (sym c.has_farm.ensures ∙ c.if-not-has_farm.false))
    (rows ∙ sited_rows _ _ _ c.site_of-site.ensures) c.connect_at.ensures _ _ _ _ _ told
    (ap (λ (k : ℕ). k + c.in_ok-seat.seat) (c.wide.ensures ∙ sited_first _ _ _ c.site_of-site.ensures))
    c.finish_empty.ensures.value c.finish_empty.ensures.wrote
