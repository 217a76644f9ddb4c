-- `section_ok` meets its contract. The walk: each one passed is above the one before it, and `last` is the address before the next.
-- Assumes nothing.
use mathlib.Core.Path.{◌≡◌}
use Rattle.sheet.specs.Test.{address_before}
use Rattle.sheet.proofs.RulesLaws.{PassedTo}
use Rattle.sheet_records.proofs.section_ok.Given as goal

abbrev pub invariant-loop-i : goal.invariant-loop-i
invariant-loop-i l = (l.last ≡ address_before l.s l.at l.i) × PassedTo l.s l.at l.farms l.most l.i
