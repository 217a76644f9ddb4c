-- The test `whole_block` says `Whole`: bytes that are the image of the farm that they mean are so record by record.
-- Assumes nothing.
use mathlib.Core.Path.{◌≡◌, refl, sym, ap, ◌∙◌}
use mathlib.Core.List.{List, ◌∷◌, ◌++◌, map}
use Prim.Native.Nat.{ℕ, zero, suc, ◌+◌, ◌*◌, ◌≤◌}
use native.Mathlib.Nat.{suc-mul}
use native.Mathlib.Omega.{arith}
use lib.ListN.{length}
use lib.Seq.{take_all}
use Rattle.octets.specs.Says.{Says}
use Rattle.octets.specs.Parts.{part, parts, joined}
use Rattle.octets.proofs.SaysLaws.{says_of}
use Rattle.octets.proofs.SearchLaws.{same_says}
use Rattle.octets.proofs.PartsLaws.{same_front, length_part, part_join, parts_join}
use Rattle.rowbytes.specs.RowLayout.{row_size, head_in, head_size}
use Rattle.rowbytes.specs.RowBytes.{row_from, row_image}
use Rattle.rowbytes.proofs.RowLaws.{row-long}
use Rattle.table.specs.Layout.{seats, meters_at, meters_size, line_at, line_size, clock_at, clock_size, marks_at, rows_at, block_size}
use Rattle.table.specs.Block.{meters_image, meters_from, line_image, line_from, clock_image, clock_from, marks_image, marks_from, farm_of, image, Whole, whole_block}
use Rattle.table.proofs.LineLaws.{line-long}
use Rattle.table_line.proofs.LineStores.{few}
use Rattle.table.proofs.MarkLaws.{marks-seats}
use Rattle.table.proofs.BlockLaws.{meters-long, clock-long, marks-long, exact}

-- twenty bytes, laid out again, are twenty
row_again : (s : List ℕ) → length s ≡ row_size → length (row_image (row_from s)) ≡ row_size
unfolding row_from
row_again s long = row-long (row_from s) (length_part s head_in head_size (omega arith))

-- rows that together are the same bytes are the same bytes each
same_rows : (b : List ℕ) (a n : ℕ) → a + n * row_size ≤ length b
    → joined (map row_image (map row_from (parts row_size a n b))) ≡ joined (parts row_size a n b)
    → map row_image (map row_from (parts row_size a n b)) ≡ parts row_size a n b
unfolding parts joined
same_rows b a zero h e = refl
same_rows b a (suc n) h e =
    let s : List ℕ = part b a row_size in
    let more : List (List ℕ) = parts row_size (a + row_size) n b in
    let long : length (part b a row_size) ≡ row_size = length_part b a row_size (omega (arith, suc-mul n row_size)) in
    let two = same_front (row_image (row_from s)) s (joined (map row_image (map row_from more))) (joined more) row_size (row_again s long) long e in
    let rest : map row_image (map row_from more) ≡ more = same_rows b (a + row_size) n (omega (arith, suc-mul n row_size)) two.1 in
    ap (λ (l : List ℕ). l ∷ map row_image (map row_from more)) two.0 ∙ ap (λ (l : List (List ℕ)). s ∷ l) rest

module _ (b : List ℕ) (long : length b ≡ block_size) where
  -- the block by its records
  cut : b ≡ part b 0 12 ++ (part b 12 10 ++ (part b 22 2 ++ (part b 24 9 ++ joined (parts row_size rows_at seats b))))
  cut =
      sym
      (ap (λ (x : List ℕ). part b 0 12 ++ (part b 12 10 ++ (part b 22 2 ++ (part b 24 9 ++ x)))) (parts_join 20 33 9 b)
      ∙ ap (λ (x : List ℕ). part b 0 12 ++ (part b 12 10 ++ (part b 22 2 ++ x))) (part_join b 24 9 180)
      ∙ ap (λ (x : List ℕ). part b 0 12 ++ (part b 12 10 ++ x)) (part_join b 22 2 189)
      ∙ ap (λ (x : List ℕ). part b 0 12 ++ x) (part_join b 12 10 191)
      ∙ part_join b 0 12 201
      ∙ take_all 213 b (omega arith))

  image-whole : image (farm_of b) ≡ b → Whole b
  unfolding image farm_of
  image-whole e =
      let clock : List ℕ = clock_image (clock_from (part b clock_at clock_size)) in
      let marks : List ℕ = marks_image (marks_from (part b marks_at seats)) in
      let rows : List ℕ = joined (map row_image (map row_from (parts row_size rows_at seats b))) in
      let own : List ℕ = joined (parts row_size rows_at seats b) in
      let m = same_front (meters_image (meters_from (part b meters_at meters_size))) (part b 0 12) (line_image (line_from (part b line_at line_size)) ++ (clock ++ (marks ++ rows))) (part b 12 10 ++ (part b 22 2 ++ (part b 24 9 ++ own))) meters_size (meters-long (meters_from (part b meters_at meters_size))) (length_part b 0 12 (omega arith)) (e ∙ cut) in
      let l = same_front (line_image (line_from (part b line_at line_size))) (part b 12 10) (clock ++ (marks ++ rows)) (part b 22 2 ++ (part b 24 9 ++ own)) line_size (line-long (line_from (part b line_at line_size)) (few b)) (length_part b 12 10 (omega arith)) m.1 in
      let k = same_front clock (part b 22 2) (marks ++ rows) (part b 24 9 ++ own) clock_size (clock-long (clock_from (part b clock_at clock_size))) (length_part b 22 2 (omega arith)) l.1 in
      let a = same_front marks (part b 24 9) rows own seats (marks-long (marks_from (part b marks_at seats)) ∙ marks-seats b long) (length_part b 24 9 (omega arith)) k.1 in
      record { long = long; meters = m.0; line = l.0; clock = k.0; marks = a.0; rows = same_rows b rows_at seats (omega arith) a.1 }

  -- THE TEST AND THE RECORD
  pub whole_says : Says (whole_block b) (Whole b)
  unfolding whole_block
  whole_says = says_of image-whole (exact b) (same_says (image (farm_of b)) b)
