-- `place_ok` meets its contract.
-- Assumes nothing.
use mathlib.Core.Path.{sym, subst}
use Prim.Native.Nat.{ℕ}
use native.Mathlib.Omega.{arith}
use lib.Dec.{eqb}
use Rattle.octets.proofs.ChoiceLaws.{says_eq}
use Rattle.octets.specs.Says.{Says}
use Rattle.octets.proofs.SaysLaws.{says-yes, says_no, says_of}
use Rattle.rowbytes.specs.RowBytes.{PlaceOk}
use Rattle.rowbytes.proofs.TestLaws.{header_ok, header_low, run_ok, no_place}
use Rattle.rowbytes.proofs.place_ok.Goals as goal

pub returns-in-0 : goal.returns-in-0
returns-in-0 c =
    let s = c.args in
    let low = c.from in
    subst (λ (n : ℕ). Says (eqb s.count low.result) (PlaceOk n s.low s.count)) (sym c.in-0.is)
    (subst (λ (n : ℕ). Says (eqb s.count n) (PlaceOk 0 s.low s.count)) (sym low.ensures)
    (says_of (header_ok s.low s.count (omega arith)) (header_low s.low s.count) (says_eq s.count s.low)))

pub returns-in-1 : goal.returns-in-1
returns-in-1 c = let s = c.args in says-yes (run_ok s.tag s.low s.count (omega arith) (omega arith))

pub returns-in_default : goal.returns-in_default
returns-in_default c =
    let s = c.args in
    says_no (no_place s.tag s.low s.count (λ e. omega arith) (λ e. omega arith) (λ e. omega arith))
