-- `state_ok` meets its contract.
-- Assumes nothing.
use mathlib.Core.Path.{sym, subst}
use Prim.Native.Nat.{ℕ}
use native.Mathlib.Omega.{arith}
use lib.Dec.{eqb}
use Rattle.octets.proofs.ChoiceLaws.{says_eq}
use Rattle.octets.specs.Says.{Says}
use Rattle.octets.proofs.SaysLaws.{says_no, says_of}
use Rattle.rowbytes.specs.RowBytes.{StateOk}
use Rattle.rowbytes.proofs.TestLaws.{fresh_ok, fresh-unused, waiting_ok, waiting_unused, active_ok, active_unused, free_ok, free_unused, no_state}
use Rattle.rowbytes.proofs.state_ok.Goals as goal

pub returns-in-1 : goal.returns-in-1
returns-in-1 c =
    let s = c.args in
    subst (λ (n : ℕ). Says c.none-in-1.result (StateOk n s.kind s.address s.ticks)) (sym c.in-1.is)
    (says_of (fresh_ok s.kind s.address s.ticks) (fresh-unused s.kind s.address s.ticks) c.none-in-1.ensures)

pub returns-in-2 : goal.returns-in-2
returns-in-2 c =
    let s = c.args in
    subst (λ (n : ℕ). Says (eqb s.ticks 0) (StateOk n s.kind s.address s.ticks)) (sym c.in-2.is)
    (says_of (waiting_ok s.kind s.address s.ticks) (waiting_unused s.kind s.address s.ticks) (says_eq s.ticks 0))

pub returns-in-3 : goal.returns-in-3
returns-in-3 c =
    let s = c.args in
    subst (λ (n : ℕ). Says (eqb s.kind 0) (StateOk n s.kind s.address s.ticks)) (sym c.in-3.is)
    (says_of (active_ok s.kind s.address s.ticks) (active_unused s.kind s.address s.ticks) (says_eq s.kind 0))

pub returns-in_default : goal.returns-in_default
returns-in_default c =
    let s = c.args in
    says_no (no_state s.tag s.kind s.address s.ticks (λ e. omega arith) (λ e. omega arith) (λ e. omega arith) (λ e. omega arith))

pub returns-in-0 : goal.returns-in-0
returns-in-0 c =
    let s = c.args in
    subst (λ (n : ℕ). Says c.none.result (StateOk n s.kind s.address s.ticks)) (sym c.in-0.is)
    (says_of (free_ok s.kind s.address s.ticks) (free_unused s.kind s.address s.ticks) c.none.ensures)
