-- `refusal` meets its contract.
-- Assumes nothing.
use Rattle.std.proofs.lemmas.Result.{err_from_is_err_and}
use mathlib.Core.Path.{sym, ◌∙◌}
use Rattle.lent.proofs.GateLaws.{start_passes}
use Rattle.lent.proofs.CallLaws.{above_0}
use Rattle.gate.proofs.KeepLaws.{gate_stop, gate_broken, gate_good}
use Rattle.gate.proofs.refusal.Goals as goal

pub returns-in_err-start_refusal : goal.returns-in_err-start_refusal
returns-in_err-start_refusal c =
    let p = err_from_is_err_and c.from_residual.result c.from_residual.ensures.1 in
    rw (p.1, p.2) (gate_stop _ _ _ _ _ c.in_err-start_refusal.ensures (above_0 c.in_err-start_refusal.field-0.0))

pub table_keeps-requires : goal.table_keeps-requires
table_keeps-requires c = (c.requires, (start_passes _ _ _ (sym c.in_ok-start_refusal.ensures)).sheet)

pub returns-then-not-table_keeps : goal.returns-then-not-table_keeps
returns-then-not-table_keeps c = gate_broken _ _ _ _ (start_passes _ _ _ (sym c.in_ok-start_refusal.ensures)) (sym c.table_keeps.ensures ∙ c.if-not-table_keeps.true)

pub returns : goal.returns
returns c = gate_good _ _ _ _ (start_passes _ _ _ (sym c.in_ok-start_refusal.ensures)) (sym c.table_keeps.ensures ∙ c.if-not-table_keeps.false)
