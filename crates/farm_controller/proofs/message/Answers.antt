-- `message` meets its contract.
-- Assumes nothing.
use Rattle.std.proofs.Common.{Some, None, rules}
use mathlib.Core.Path.{◌≡◌, sym, subst, ◌∙◌}
use native.Mathlib.Omega.{arith}
use Rattle.kinds.specs.Number.{number_in}
use Rattle.model.specs.FarmSheet.{FarmSheet, farm_sheet}
use Rattle.model.specs.Row.{active_as}
use Rattle.table.specs.Block.{farm_of}
use Rattle.decide.proofs.RowLaws.{nine, found_below}
use Rattle.site.proofs.SiteLaws.{sited_fit}
use Rattle.farm_controller.specs.Message.{Messaged}
use Rattle.farm_controller.proofs.MessageLaws.{wrong_size, no_target, for_tester, messaged-refused, messaged-said}
use Rattle.farm_controller.proofs.message.Goals as goal

pub returns-then-not-size_fits : goal.returns-then-not-size_fits
returns-then-not-size_fits c = let a = c.args in
    let farm = farm_of a.b.now in
    let own : FarmSheet = farm_sheet a.s.now a.f.0 in
    messaged-refused a.s.now a.f.0 farm a.p.now a.from a.to a.user.now 9
    (λ rooms. wrong_size own (record { farm = farm; rooms = rooms }) a.from a.to a.user.now (sym c.size_fits.ensures ∙ c.if-not-size_fits.true))

pub returns-then-not-is_target : goal.returns-then-not-is_target
returns-then-not-is_target c = let a = c.args in
    let farm = farm_of a.b.now in
    let own : FarmSheet = farm_sheet a.s.now a.f.0 in
    messaged-refused a.s.now a.f.0 farm a.p.now a.from a.to a.user.now 10
    (λ rooms. no_target own (record { farm = farm; rooms = rooms }) a.from a.to a.user.now (sym c.size_fits.ensures ∙ c.if-not-size_fits.false) (sym c.is_target.ensures ∙ c.if-not-is_target.true))

pub returns-in_err-seat : goal.returns-in_err-seat
returns-in_err-seat c = let a = c.args in
    let farm = farm_of a.b.now in
    let own : FarmSheet = farm_sheet a.s.now a.f.0 in
    let none : c.holder.result ≡ None = grind arith in
    let ten : 10 ≡ number_in c.from_residual.result = search rules in
    subst (λ n. Messaged a.s.now a.f.0 farm a.p.now a.p.now a.from a.to a.user.now n) ten
    (messaged-refused a.s.now a.f.0 farm a.p.now a.from a.to a.user.now 10
    (λ rooms. for_tester own (record { farm = farm; rooms = rooms }) a.from a.to a.user.now (sym c.size_fits.ensures ∙ c.if-not-size_fits.false) (sym c.is_target.ensures ∙ c.if-not-is_target.false) None (sym c.holder.ensures ∙ none)))

pub say-requires : goal.say-requires
say-requires c = let a = c.args in
    let some : c.holder.result ≡ Some c.in_ok-seat.seat = grind arith in
    let k = found_below (active_as a.to) 0 (farm_of a.b.now).rows _ (sym c.holder.ensures ∙ some) in
    (omega (arith, k, nine a.b.now), sited_fit a.s.now a.f.0 a.site c.requires.1)

pub returns : goal.returns
returns c = let a = c.args in
    let farm = farm_of a.b.now in
    let own : FarmSheet = farm_sheet a.s.now a.f.0 in
    let some : c.holder.result ≡ Some c.in_ok-seat.seat = grind arith in
    messaged-said a.s.now a.f.0 farm a.p.now a.from a.to a.user.now a.site c.requires.1 _ _
    (λ rooms. for_tester own (record { farm = farm; rooms = rooms }) a.from a.to a.user.now (sym c.size_fits.ensures ∙ c.if-not-size_fits.false) (sym c.is_target.ensures ∙ c.if-not-is_target.false) _ (sym c.holder.ensures ∙ some)) c.say.ensures
