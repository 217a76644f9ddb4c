-- `site_of` meets its contract: a good sheet is long enough for each reader, and its rows are few enough for a byte.
-- Assumes nothing.
use native.Mathlib.Omega.{arith}
use Rattle.sheet.proofs.LengthLaws.{good_lengths}
use Rattle.sheet.proofs.RowsLaws.{first_few}
use Rattle.site.proofs.SiteLaws.{sited_is}
use Rattle.site.proofs.site_of.Goals as goal

pub first_row-first-requires : goal.first_row-first-requires
first_row-first-requires c =
    omega (arith, (good_lengths c.args.s.now c.requires.0).farm c.args.f.0 c.requires.1)

pub overflow_cast-first : goal.overflow_cast-first
overflow_cast-first c =
    let few = first_few c.args.s.now c.args.f.0 c.requires.0 (omega (arith, c.requires.1)) in
    omega (arith, c.first_row-first.ensures, few)

pub quota-quota-requires : goal.quota-quota-requires
quota-quota-requires c =
    (good_lengths c.args.s.now c.requires.0).farm c.args.f.0 c.requires.1

pub entity-entity-requires : goal.entity-entity-requires
entity-entity-requires c =
    (good_lengths c.args.s.now c.requires.0).farm c.args.f.0 c.requires.1

pub returns : goal.returns
returns c =
    record {
      good = c.requires.0;
      has = c.requires.1;
      is = sited_is _ _ _ _ _ c.first_row-first.ensures c.quota-quota.ensures c.entity-entity.ensures;
    }
