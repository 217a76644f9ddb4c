-- `section_ok` meets its contract: when the walk is over, each of the section was above the one before it.
-- Assumes nothing.
use mathlib.Core.Path.{◌≡◌, subst}
use native.Mathlib.Omega.{arith}
use Rattle.octets.proofs.SaysLaws.{says-yes}
use Rattle.sheet.proofs.RulesLaws.{PassedTo, section_good}
use Rattle.sheet_records.proofs.section_ok.Goals as goal

pub returns : goal.returns
returns c =
    let a = c.args in
    let l = c.loop-i in
    let e : l.i ≡ a.n = omega arith in
    says-yes
    (section_good a.s.now a.at a.farms a.most a.n (subst (PassedTo a.s.now a.at a.farms a.most) e l.invariant.1))
