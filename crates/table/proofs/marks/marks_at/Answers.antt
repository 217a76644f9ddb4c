-- `marks::marks_at` meets its contract.
-- Assumes nothing.
use mathlib.Core.Path.{refl}
use mathlib.Core.Bool.{false}
use Rattle.std.proofs.Common.{rules}
use Rattle.model.specs.Line.{is_marked}
use Rattle.table.specs.Block.{farm_of}
use Rattle.table.proofs.ArrayLaws.{made_by}
use Rattle.table.proofs.MarkLaws.{marks-seats}
use Rattle.table.proofs.marks.marks_at.Goals as goal

pub returns : goal.returns
returns c =
    made_by _ _ (is_marked (farm_of c.args.b.now).marks) (λ x y q k. search rules) _ (farm_of c.args.b.now).marks 9 false
    c.from_fn.ensures.items (marks-seats c.args.b.now c.requires) (λ k l. refl)
