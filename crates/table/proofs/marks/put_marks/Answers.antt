-- `marks::put_marks` meets its contract.
-- Assumes nothing.
use mathlib.Core.Path.{◌≡◌, refl, ap, ◌∙◌}
use mathlib.Core.Bool.{Bool, true, false}
use mathlib.Core.List.{map}
use lib.ListN.{length}
use borrow.Author.Rules.{rules}
use Rattle.std.specs.Int.{from_bool}
use Rattle.octets.specs.Choice.{one}
use Rattle.octets.specs.Put.{put_at}
use Rattle.table.specs.Layout.{seats, marks_at}
use Rattle.table.specs.Block.{marks_image}
use Rattle.table.proofs.BlockLaws.{marks-put}
use Rattle.table.proofs.ArrayLaws.{mapped_by}
use Rattle.table.proofs.marks.put_marks.Goals as goal

as_one : (b : Bool) → from_bool b ≡ one b
as_one true = refl
as_one false = refl

pub returns : goal.returns
unfolding marks_image
returns c =
    let s = c.args in
    let nine : length s.m ≡ seats = search rules in
    let e : c.map.result ≡ map one s.m =
    mapped_by _ _ one (λ x y p q k. let z : y ≡ from_bool x = search rules in z ∙ as_one x) s.m c.map.result _ false c.map.ensures.items nine
    in
    marks-put s.b.now _ c.requires s.m nine (c.put.ensures ∙ ap (put_at s.b.now marks_at) e)
