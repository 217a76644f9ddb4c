-- The laws of a block: what was put is read back, the other records stay, and a whole block is the image of the farm that it means.
-- Assumes nothing.
use mathlib.Core.Path.{◌≡◌, refl, sym, ap, ◌∙◌}
use mathlib.Core.Bool.{Bool, true, false}
use mathlib.Core.List.{List, [], ◌∷◌, ◌++◌, map}
use Prim.Native.Nat.{ℕ, ◌+◌, ◌*◌, ◌≤◌, ◌<◌}
use native.Mathlib.Omega.{arith}
use lib.ListN.{length, get_or, set, replicate, length-map, get_or-map, get_or-eq_default}
use lib.Seq.{take_all}
use Rattle.octets.specs.Choice.{one}
use Rattle.octets.specs.Numbers.{u16_at}
use Rattle.octets.specs.Put.{put_at}
use Rattle.octets.specs.Parts.{part, parts, joined}
use Rattle.octets.proofs.PutLaws.{length-put_at}
use Rattle.octets.proofs.PartsLaws.{part_same, part_before, part-after, parts-after, parts_same, parts_get, parts-length, part_join, parts_join, get_or-part}
use Rattle.kinds.specs.Clock.{clock_of}
use Rattle.kinds.specs.declared.Clock.{Clock}
use Rattle.kinds.specs.declared.Meters.{Meters}
use Rattle.kinds.specs.declared.Row.{Row}
use Rattle.model.specs.Row.{row_at, free_row, no_head}
use Rattle.model.specs.Farm.{Farm, seat_count, new_farm, with_row, with_line, with_clock, with_marks, with_meters}
use Rattle.rowbytes.specs.RowLayout.{row_size, head_size}
use Rattle.table.specs.Layout.{seats, meters_at, meters_size, line_at, line_size, clock_at, clock_size, marks_at, rows_at, block_size}
use Rattle.rowbytes.specs.RowBytes.{row_from, row_image, state_in}
use Rattle.table.specs.Block.{meters_image, meters_from, line_image, line_from, clock_image, clock_from, marks_image, marks_from, farm_of, image, Whole, Holds}
use Rattle.table.proofs.ListLaws.{map-set, get_or_any}
use Rattle.rowbytes.proofs.RowLaws.{two, four, row-long, row_back}
use Rattle.table.proofs.LineLaws.{line-long, line_back}

-- ---- each record: its bytes, and back

pub meters-long : (m : Meters) → length (meters_image m) ≡ meters_size
unfolding meters_image
meters-long m = refl

pub meters_back : (m : Meters) → meters_from (meters_image m) ≡ m
unfolding meters_from meters_image
meters_back m = rw (four m.taken, four m.finished, four m.lost)

pub clock-long : (c : Clock) → length (clock_image c) ≡ clock_size
unfolding clock_image
clock-long c = refl

pub clock_back : (c : Clock) → clock_from (clock_image c) ≡ c
unfolding clock_from clock_image
clock_back c = ap clock_of (two c.ticks)

pub marks-long : (m : List Bool) → length (marks_image m) ≡ length m
unfolding marks_image
marks-long m = length-map m one

pub marks_back : (m : List Bool) → marks_from (marks_image m) ≡ m
unfolding marks_from marks_image
marks_back [] = refl
marks_back (true ∷ m) = ap (λ l. true ∷ l) (marks_back m)
marks_back (false ∷ m) = ap (λ l. false ∷ l) (marks_back m)

-- ---- putting farms and whole blocks together

same_farm : {r r' : List Row} {l l' : List ℕ} {k k' : Clock} {a a' : List Bool} {m m' : Meters} → r ≡ r' → l ≡ l' → k ≡ k' → a ≡ a' → m ≡ m'
    → ◌≡◌ {A = Farm} (record { rows = r; line = l; clock = k; marks = a; meters = m }) (record { rows = r'; line = l'; clock = k'; marks = a'; meters = m' })
same_farm e f g h i = cc

-- the same bytes are laid out as they mean
again : (g : List ℕ → List ℕ) {s t : List ℕ} → s ≡ t → g t ≡ t → g s ≡ s
again g e h = ap g e ∙ h ∙ sym e

rows_again : {s t : List (List ℕ)} → s ≡ t → map row_image (map row_from t) ≡ t → map row_image (map row_from s) ≡ s
rows_again e h = ap (λ (l : List (List ℕ)). map row_image (map row_from l)) e ∙ h ∙ sym e

-- what was just put
new_part : (b : List ℕ) (at : ℕ) (bs : List ℕ) (n : ℕ) → length bs ≡ n → at + n ≤ length b → part (put_at b at bs) at n ≡ bs
new_part b at bs n e h = ap (part (put_at b at bs) at) (sym e) ∙ part_same b at bs (omega arith)

-- ---- reading

-- a row of zeros is a free row
zero_row : List ℕ
zero_row = replicate row_size 0

zero_free : row_from zero_row ≡ free_row
unfolding zero_row row_from state_in no_head
zero_free = refl

pub row_read : (b : List ℕ) (i : ℕ) → i < seats → row_from (part b (rows_at + i * row_size) row_size) ≡ row_at (farm_of b).rows i
unfolding farm_of
row_read b i h =
    let l : List (List ℕ) = parts row_size rows_at seats b in
    let n : i < length l = omega (arith, parts-length row_size rows_at seats b) in
    ap row_from (sym (parts_get row_size rows_at seats i b h) ∙ get_or_any l i [] zero_row n)
    ∙ sym (get_or-map row_from l i zero_row)
    ∙ ap (get_or (map row_from l) i) zero_free

-- past the block's rows stands a free row
pub no_row_read : (b : List ℕ) (i : ℕ) → seats ≤ i → row_at (farm_of b).rows i ≡ free_row
unfolding farm_of
no_row_read b i h =
    get_or-eq_default (map row_from (parts row_size rows_at seats b)) free_row {n = i}
    (omega (arith, length-map (parts row_size rows_at seats b) row_from, parts-length row_size rows_at seats b))

pub clock_read : (b : List ℕ) → clock_of (u16_at b clock_at) ≡ (farm_of b).clock
unfolding farm_of clock_from
clock_read b =
    ap (λ (x : ℕ). clock_of (x * 256 + get_or b (clock_at + 1) 0)) (sym (get_or-part b clock_at clock_size 0 (omega arith)))
    ∙ ap (λ (x : ℕ). clock_of (get_or (part b clock_at clock_size) 0 0 * 256 + x)) (sym (get_or-part b clock_at clock_size 1 (omega arith)))

-- ---- storing one record

module _ (b c : List ℕ) (w : Whole b) where
  pub row_put : (i : ℕ) (r : Row) → i < seats → length r.head ≡ head_size → c ≡ put_at b (rows_at + i * row_size) (row_image r)
      → Holds c (with_row (farm_of b) i r)
  unfolding farm_of
  row_put i r h eight e =
      let at : ℕ = rows_at + i * row_size in
      let n : length (row_image r) ≡ row_size = row-long r eight in
      let fits : at + length (row_image r) ≤ length b = omega (arith, w.long) in
      let t : part c meters_at meters_size ≡ part b meters_at meters_size = ap (λ (l : List ℕ). part l meters_at meters_size) e ∙ part_before b at (row_image r) fits meters_at meters_size (omega arith) in
      let l : part c line_at line_size ≡ part b line_at line_size = ap (λ (l : List ℕ). part l line_at line_size) e ∙ part_before b at (row_image r) fits line_at line_size (omega arith) in
      let k : part c clock_at clock_size ≡ part b clock_at clock_size = ap (λ (l : List ℕ). part l clock_at clock_size) e ∙ part_before b at (row_image r) fits clock_at clock_size (omega arith) in
      let m : part c marks_at seats ≡ part b marks_at seats = ap (λ (l : List ℕ). part l marks_at seats) e ∙ part_before b at (row_image r) fits marks_at seats (omega arith) in
      let s : parts row_size rows_at seats c ≡ set (parts row_size rows_at seats b) i (row_image r) =
      ap (parts row_size rows_at seats) e ∙ parts_same b at (row_image r) fits row_size rows_at seats i n refl h
      in
      let y : map row_from (parts row_size rows_at seats c) ≡ set (map row_from (parts row_size rows_at seats b)) i r =
      ap (map row_from) s ∙ map-set row_from (parts row_size rows_at seats b) i (row_image r) ∙ ap (set (map row_from (parts row_size rows_at seats b)) i) (row_back r eight)
      in
      record {
        is = same_farm y (ap line_from l) (ap clock_from k) (ap marks_from m) (ap meters_from t);
        whole = record {
          long = ap length e ∙ length-put_at b at (row_image r) fits ∙ w.long;
          meters = again (λ x. meters_image (meters_from x)) t w.meters;
          line = again (λ x. line_image (line_from x)) l w.line;
          clock = again (λ x. clock_image (clock_from x)) k w.clock;
          marks = again (λ x. marks_image (marks_from x)) m w.marks;
          rows = ap (map row_image) y ∙ map-set row_image (map row_from (parts row_size rows_at seats b)) i r ∙ ap (λ x. set x i (row_image r)) w.rows ∙ sym s;
        };
      }

  pub line-put : (line : List ℕ) → length line ≤ seats → c ≡ put_at b line_at (line_image line) → Holds c (with_line (farm_of b) line)
  unfolding farm_of
  line-put line h e =
      let bs : List ℕ = line_image line in
      let n : length (line_image line) ≡ line_size = line-long line h in
      let fits : line_at + length (line_image line) ≤ length b = omega (arith, w.long) in
      let t : part c meters_at meters_size ≡ part b meters_at meters_size = ap (λ (l : List ℕ). part l meters_at meters_size) e ∙ part_before b line_at bs fits meters_at meters_size (omega arith) in
      let l : part c line_at line_size ≡ bs = ap (λ (l : List ℕ). part l line_at line_size) e ∙ new_part b line_at bs line_size n (omega (arith, w.long)) in
      let y : line_from (part c line_at line_size) ≡ line = ap line_from l ∙ line_back line h in
      let k : part c clock_at clock_size ≡ part b clock_at clock_size = ap (λ (l : List ℕ). part l clock_at clock_size) e ∙ part-after b line_at bs fits clock_at clock_size (omega arith) in
      let m : part c marks_at seats ≡ part b marks_at seats = ap (λ (l : List ℕ). part l marks_at seats) e ∙ part-after b line_at bs fits marks_at seats (omega arith) in
      let s : parts row_size rows_at seats c ≡ parts row_size rows_at seats b = ap (parts row_size rows_at seats) e ∙ parts-after b line_at bs fits row_size rows_at seats (omega arith) in
      record {
        is = same_farm (ap (map row_from) s) y (ap clock_from k) (ap marks_from m) (ap meters_from t);
        whole = record {
          long = ap length e ∙ length-put_at b line_at bs fits ∙ w.long;
          meters = again (λ x. meters_image (meters_from x)) t w.meters;
          line = ap line_image y ∙ sym l;
          clock = again (λ x. clock_image (clock_from x)) k w.clock;
          marks = again (λ x. marks_image (marks_from x)) m w.marks;
          rows = rows_again s w.rows;
        };
      }

  pub clock-put : (clock : Clock) → c ≡ put_at b clock_at (clock_image clock) → Holds c (with_clock (farm_of b) clock)
  unfolding farm_of
  clock-put clock e =
      let bs : List ℕ = clock_image clock in
      let n : length (clock_image clock) ≡ clock_size = clock-long clock in
      let fits : clock_at + length (clock_image clock) ≤ length b = omega (arith, w.long) in
      let t : part c meters_at meters_size ≡ part b meters_at meters_size = ap (λ (l : List ℕ). part l meters_at meters_size) e ∙ part_before b clock_at bs fits meters_at meters_size (omega arith) in
      let l : part c line_at line_size ≡ part b line_at line_size = ap (λ (l : List ℕ). part l line_at line_size) e ∙ part_before b clock_at bs fits line_at line_size (omega arith) in
      let k : part c clock_at clock_size ≡ bs = ap (λ (l : List ℕ). part l clock_at clock_size) e ∙ new_part b clock_at bs clock_size n (omega (arith, w.long)) in
      let y : clock_from (part c clock_at clock_size) ≡ clock = ap clock_from k ∙ clock_back clock in
      let m : part c marks_at seats ≡ part b marks_at seats = ap (λ (l : List ℕ). part l marks_at seats) e ∙ part-after b clock_at bs fits marks_at seats (omega arith) in
      let s : parts row_size rows_at seats c ≡ parts row_size rows_at seats b = ap (parts row_size rows_at seats) e ∙ parts-after b clock_at bs fits row_size rows_at seats (omega arith) in
      record {
        is = same_farm (ap (map row_from) s) (ap line_from l) y (ap marks_from m) (ap meters_from t);
        whole = record {
          long = ap length e ∙ length-put_at b clock_at bs fits ∙ w.long;
          meters = again (λ x. meters_image (meters_from x)) t w.meters;
          line = again (λ x. line_image (line_from x)) l w.line;
          clock = ap clock_image y ∙ sym k;
          marks = again (λ x. marks_image (marks_from x)) m w.marks;
          rows = rows_again s w.rows;
        };
      }

  pub marks-put : (marks : List Bool) → length marks ≡ seats → c ≡ put_at b marks_at (marks_image marks) → Holds c (with_marks (farm_of b) marks)
  unfolding farm_of
  marks-put marks h e =
      let bs : List ℕ = marks_image marks in
      let n : length (marks_image marks) ≡ seats = marks-long marks ∙ h in
      let fits : marks_at + length (marks_image marks) ≤ length b = omega (arith, w.long) in
      let t : part c meters_at meters_size ≡ part b meters_at meters_size = ap (λ (l : List ℕ). part l meters_at meters_size) e ∙ part_before b marks_at bs fits meters_at meters_size (omega arith) in
      let l : part c line_at line_size ≡ part b line_at line_size = ap (λ (l : List ℕ). part l line_at line_size) e ∙ part_before b marks_at bs fits line_at line_size (omega arith) in
      let k : part c clock_at clock_size ≡ part b clock_at clock_size = ap (λ (l : List ℕ). part l clock_at clock_size) e ∙ part_before b marks_at bs fits clock_at clock_size (omega arith) in
      let m : part c marks_at seats ≡ bs = ap (λ (l : List ℕ). part l marks_at seats) e ∙ new_part b marks_at bs seats n (omega (arith, w.long)) in
      let y : marks_from (part c marks_at seats) ≡ marks = ap marks_from m ∙ marks_back marks in
      let s : parts row_size rows_at seats c ≡ parts row_size rows_at seats b = ap (parts row_size rows_at seats) e ∙ parts-after b marks_at bs fits row_size rows_at seats (omega arith) in
      record {
        is = same_farm (ap (map row_from) s) (ap line_from l) (ap clock_from k) y (ap meters_from t);
        whole = record {
          long = ap length e ∙ length-put_at b marks_at bs fits ∙ w.long;
          meters = again (λ x. meters_image (meters_from x)) t w.meters;
          line = again (λ x. line_image (line_from x)) l w.line;
          clock = again (λ x. clock_image (clock_from x)) k w.clock;
          marks = ap marks_image y ∙ sym m;
          rows = rows_again s w.rows;
        };
      }

  pub meters-put : (meters : Meters) → c ≡ put_at b meters_at (meters_image meters) → Holds c (with_meters (farm_of b) meters)
  unfolding farm_of
  meters-put meters e =
      let bs : List ℕ = meters_image meters in
      let n : length (meters_image meters) ≡ meters_size = meters-long meters in
      let fits : meters_at + length (meters_image meters) ≤ length b = omega (arith, w.long) in
      let t : part c meters_at meters_size ≡ bs = ap (λ (l : List ℕ). part l meters_at meters_size) e ∙ new_part b meters_at bs meters_size n (omega (arith, w.long)) in
      let y : meters_from (part c meters_at meters_size) ≡ meters = ap meters_from t ∙ meters_back meters in
      let l : part c line_at line_size ≡ part b line_at line_size = ap (λ (l : List ℕ). part l line_at line_size) e ∙ part-after b meters_at bs fits line_at line_size (omega arith) in
      let k : part c clock_at clock_size ≡ part b clock_at clock_size = ap (λ (l : List ℕ). part l clock_at clock_size) e ∙ part-after b meters_at bs fits clock_at clock_size (omega arith) in
      let m : part c marks_at seats ≡ part b marks_at seats = ap (λ (l : List ℕ). part l marks_at seats) e ∙ part-after b meters_at bs fits marks_at seats (omega arith) in
      let s : parts row_size rows_at seats c ≡ parts row_size rows_at seats b = ap (parts row_size rows_at seats) e ∙ parts-after b meters_at bs fits row_size rows_at seats (omega arith) in
      record {
        is = same_farm (ap (map row_from) s) (ap line_from l) (ap clock_from k) (ap marks_from m) y;
        whole = record {
          long = ap length e ∙ length-put_at b meters_at bs fits ∙ w.long;
          meters = ap meters_image y ∙ sym t;
          line = again (λ x. line_image (line_from x)) l w.line;
          clock = again (λ x. clock_image (clock_from x)) k w.clock;
          marks = again (λ x. marks_image (marks_from x)) m w.marks;
          rows = rows_again s w.rows;
        };
      }

-- ---- a whole block is the image of the farm that it means: so every byte is settled

pub exact : (b : List ℕ) → Whole b → image (farm_of b) ≡ b
unfolding farm_of image
exact b w =
    let r : List ℕ = joined (map row_image (map row_from (parts row_size rows_at seats b))) in
    ap (λ (x : List ℕ). x ++ (line_image (line_from (part b 12 10)) ++ (clock_image (clock_from (part b 22 2)) ++ (marks_image (marks_from (part b 24 9)) ++ r)))) w.meters
    ∙ ap (λ (x : List ℕ). part b 0 12 ++ (x ++ (clock_image (clock_from (part b 22 2)) ++ (marks_image (marks_from (part b 24 9)) ++ r)))) w.line
    ∙ ap (λ (x : List ℕ). part b 0 12 ++ (part b 12 10 ++ (x ++ (marks_image (marks_from (part b 24 9)) ++ r)))) w.clock
    ∙ ap (λ (x : List ℕ). part b 0 12 ++ (part b 12 10 ++ (part b 22 2 ++ (x ++ r)))) w.marks
    ∙ ap (λ (x : List (List ℕ)). part b 0 12 ++ (part b 12 10 ++ (part b 22 2 ++ (part b 24 9 ++ joined x)))) w.rows
    ∙ ap (λ (x : List ℕ). part b 0 12 ++ (part b 12 10 ++ (part b 22 2 ++ (part b 24 9 ++ x)))) (parts_join 20 33 9 b)
    ∙ ap (λ (x : List ℕ). part b 0 12 ++ (part b 12 10 ++ (part b 22 2 ++ x))) (part_join b 24 9 180)
    ∙ ap (λ (x : List ℕ). part b 0 12 ++ (part b 12 10 ++ x)) (part_join b 22 2 189)
    ∙ ap (λ (x : List ℕ). part b 0 12 ++ x) (part_join b 12 10 191)
    ∙ part_join b 0 12 201
    ∙ take_all 213 b (omega (arith, w.long))

pub settled : (b : List ℕ) (f : Farm) → Holds b f → b ≡ image f
settled b f h = sym (exact b h.whole) ∙ ap image h.is

-- ---- "A new table holds all rows free and all meters 0": a block of zeros

pub zero_new : Holds (replicate block_size 0) new_farm
unfolding farm_of new_farm seat_count no_head row_from row_image state_in meters_from meters_image line_from line_image clock_from clock_image marks_from marks_image parts
zero_new = record { is = refl; whole = record { long = refl; meters = refl; line = refl; clock = refl; marks = refl; rows = refl } }
