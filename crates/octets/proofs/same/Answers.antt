-- `same` meets its contract: std's comparison of slices asks the same of each pair. `a == b` has no need of `take-length` and `unary_clauses`:
-- by them must-fail/first_byte_not_compared is proved with `* 0` for its `* 1`, so that it is refused for its mistake and not for its form.
-- Assumes nothing.
use Rattle.std.proofs.Math.Numerals.{unary_clauses}
use Rattle.std.proofs.Math.Seq.{take-length}
use Rattle.octets.proofs.SearchLaws.{pointwise_same}
use Rattle.octets.proofs.same.Goals as goal

pub returns : goal.returns
returns c = simp (c.eq.ensures, pointwise_same, take-length, unary_clauses)
