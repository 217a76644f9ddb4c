-- `farms_ok` meets its contract: a farm whose rows are more than are left breaks the sum's rule, since the rows of the farms after it only add to it.
-- Assumes nothing.
use mathlib.Core.Path.{◌≡◌, ap}
use Prim.Native.Nat.{ℕ, suc, ◌+◌, ◌*◌}
use native.Mathlib.Omega.{arith}
use lib.ListN.{get_or}
use Rattle.sheet.specs.Sheet.{farm_size, quota_of}
use Rattle.octets.proofs.SaysLaws.{says_no}
use Rattle.sheet.proofs.RowsLaws.{rows_mono}
use Rattle.sheet_records.proofs.farms_ok.Goals as goal

pub returns-then-left-q : goal.returns-then-left-q
returns-then-left-q c =
    let a = c.args in
    let l = c.loop-i in
    let q : get_or a.s.now (a.at + l.i * farm_size + 2) 0 ≡ quota_of a.s.now l.i =
    ap (λ (at : ℕ). get_or a.s.now (at + l.i * farm_size + 2) 0) c.requires.0
    in
    says_no (λ h. omega (arith, l.invariant.0, h.rows_at_most, rows_mono a.s.now (suc l.i) a.n (omega arith), q))
