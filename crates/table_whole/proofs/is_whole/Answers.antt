-- `is_whole` meets its contract.
-- Assumes nothing.
use mathlib.Core.Path.{sym, ◌∙◌}
use mathlib.Core.List.{List}
use Prim.Native.Nat.{ℕ, ◌<◌}
use native.Mathlib.Omega.{arith}
use lib.ListN.{get_or}
use borrow.Author.Tests.{eqb-true}
use Rattle.octets.proofs.SaysLaws.{never}
use Rattle.table_whole.proofs.WholeLaws.{any_meters, any_clock}
use Rattle.table_whole.proofs.is_whole.Goals as goal
use Rattle.table_whole.proofs.is_whole.Goals.{then-b-eq-BLOCK, else-b-eq-BLOCK, then-line_ok, else-line_ok}

pub returns-then-marks_ok : goal.returns-then-marks_ok
returns-then-marks_ok c =
    let b : List ℕ = c.args.b.now in
    let byte : (i : ℕ) → get_or b i 0 < 256 = λ i. omega (arith, c.type_inv.b i) in
    elim c.if-line_ok.branch [
      | then-line_ok w ↦ elim c.if-b-eq-BLOCK.branch [
        | then-b-eq-BLOCK v ↦ record {
          right = λ t. record {
            long = v.if-b-eq-BLOCK.true;
            meters = any_meters b v.if-b-eq-BLOCK.true byte;
            line = v.line_ok.ensures.right (sym v.value-is ∙ w.if-line_ok.true);
            clock = any_clock b v.if-b-eq-BLOCK.true byte;
            marks = w.marks_ok.ensures.right (sym w.value-is ∙ c.if-marks_ok.true);
            rows = c.rows_ok.ensures.right t;
          };
          all = λ h. c.rows_ok.ensures.all h.rows;
        }
        | else-b-eq-BLOCK v ↦ absurd (v.if-b-eq-BLOCK.false (eqb-true _ _ (sym v.value-is ∙ w.if-line_ok.true)))
      ]
      | else-line_ok w ↦ absurd (never (sym w.if-line_ok.false ∙ sym w.value-is ∙ c.if-marks_ok.true))
    ]
