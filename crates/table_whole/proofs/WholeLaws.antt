-- A block is whole exactly where its line, marks and rows pass their tests; bytes of meters and clock always do.
-- Assumes nothing.
use mathlib.Core.Path.{◌≡◌, refl, sym, ap, subst, ◌∙◌}
use mathlib.Core.Bool.{Bool, true, false}
use mathlib.Core.List.{List, [], ◌∷◌, ◌++◌}
use Prim.Native.Nat.{ℕ, zero, suc, ◌+◌, ◌-◌, ◌*◌, ◌≤◌, ◌<◌}
use native.Mathlib.Omega.{arith}
use lib.ListN.{length, get_or, take, drop, replicate, take-append-drop, length-drop, length-replicate, get_or-replicate}
use lib.Seq.{drop-cons, get_or-drop, get_or-append-add, ext_get_or, length-take-le}
use Rattle.octets.specs.Choice.{one}
use Rattle.octets.specs.Numbers.{u32_at, be32}
use Rattle.octets.specs.Parts.{part, parts}
use Rattle.octets.specs.Says.{Says}
use Rattle.octets.proofs.SaysLaws.{says-yes, says_no}
use Rattle.std.specs.Bool.{MatchBool}
use Rattle.std.specs.List.{AllWithin, HoldsAt}
use mathlib.Core.Logic.{◌≢◌}
use Rattle.octets.proofs.PartsLaws.{get_or-part, length_part, parts_get, parts-length}
use Rattle.rowbytes.specs.RowLayout.{row_size}
use Rattle.rowbytes.specs.RowBytes.{row_image, row_from, RowOk}
use Rattle.rowbytes.proofs.RunLaws.{run_is}
use Rattle.rowbytes.proofs.TestLaws.{bytes16, bytes32}
use Rattle.table.specs.Layout.{seats, meters_at, meters_size, line_at, line_size, seats_at, clock_at, clock_size, marks_at, rows_at, block_size}
use Rattle.table.specs.Block.{meters_image, meters_from, line_image, clock_image, clock_from, is_one, marks_image, marks_from, farm_of, MetersOk, LineOk, ClockOk, MarksOk, RowsOk}
use Rattle.table.proofs.ListLaws.{each_back, back_each}
use Rattle.table.proofs.LineLaws.{padded}
use Rattle.table_line.proofs.LineStores.{line-is, few}

-- ---- meters and clock: any bytes

meters_of_lem : (s : List ℕ) → length s ≡ meters_size → ((i : ℕ) → i < meters_size → get_or s i 0 < 256) → meters_image (meters_from s) ≡ s
unfolding meters_image meters_from
meters_of_lem s long byte =
    ap (λ (l : List ℕ). l ++ (be32 (u32_at s 4) ++ be32 (u32_at s 8))) (bytes32 (get_or s 0 0) (get_or s 1 0) (get_or s 2 0) (get_or s 3 0) (byte 1 (omega arith)) (byte 2 (omega arith)) (byte 3 (omega arith)))
    ∙ ap (λ (l : List ℕ). get_or s 0 0 ∷ get_or s 1 0 ∷ get_or s 2 0 ∷ get_or s 3 0 ∷ (l ++ be32 (u32_at s 8))) (bytes32 (get_or s 4 0) (get_or s 5 0) (get_or s 6 0) (get_or s 7 0) (byte 5 (omega arith)) (byte 6 (omega arith)) (byte 7 (omega arith)))
    ∙ ap (λ (l : List ℕ). get_or s 0 0 ∷ get_or s 1 0 ∷ get_or s 2 0 ∷ get_or s 3 0 ∷ get_or s 4 0 ∷ get_or s 5 0 ∷ get_or s 6 0 ∷ get_or s 7 0 ∷ l) (bytes32 (get_or s 8 0) (get_or s 9 0) (get_or s 10 0) (get_or s 11 0) (byte 9 (omega arith)) (byte 10 (omega arith)) (byte 11 (omega arith)))
    ∙ run_is s 0 0 12 long

clock_of_lem : (s : List ℕ) → length s ≡ clock_size → get_or s 1 0 < 256 → clock_image (clock_from s) ≡ s
unfolding clock_image clock_from
clock_of_lem s long byte = bytes16 (get_or s 0 0) (get_or s 1 0) byte ∙ run_is s 0 0 2 long

module _ (b : List ℕ) (long : length b ≡ block_size) where
  pub any_meters : ((i : ℕ) → get_or b i 0 < 256) → MetersOk b
  any_meters byte =
      meters_of_lem (part b meters_at meters_size) (length_part b meters_at meters_size (omega arith))
      (λ i h. omega (arith, get_or-part b meters_at meters_size i h, byte (meters_at + i)))

  pub any_clock : ((i : ℕ) → get_or b i 0 < 256) → ClockOk b
  any_clock byte =
      clock_of_lem (part b clock_at clock_size) (length_part b clock_at clock_size (omega arith))
      (omega (arith, get_or-part b clock_at clock_size 1 (omega arith), byte (clock_at + 1)))

  -- ---- the line

  line_cons : part b line_at line_size ≡ get_or b line_at 0 ∷ part b seats_at seats
  line_cons = ap (take line_size) (drop-cons b line_at 0 (omega arith))

  seats-long : length (part b seats_at seats) ≡ seats
  seats-long = length_part b seats_at seats (omega arith)

  pub line-passes : get_or b line_at 0 ≤ seats → ((j : ℕ) → get_or b line_at 0 ≤ j → j < seats → get_or b (seats_at + j) 0 ≡ 0) → LineOk b
  unfolding farm_of line_image
  line-passes h zeros =
      let n : ℕ = get_or b line_at 0 in
      let p : List ℕ = part b seats_at seats in
      let l : List ℕ = take n p in
      let ln : length l ≡ n = length-take-le n p (omega (arith, seats-long)) in
      let z : drop n p ≡ replicate (seats - n) 0 =
      ext_get_or 0 (drop n p) (replicate (seats - n) 0) (length-drop n p ∙ ap (λ (k : ℕ). k - n) seats-long ∙ sym (length-replicate {A = ℕ} (seats - n) 0))
      (λ i k. let m : i < seats - n = omega (arith, length-drop n p, seats-long) in
      get_or-drop n p i 0 ∙ get_or-part b seats_at seats (n + i) (omega arith) ∙ zeros (n + i) (omega arith) (omega arith) ∙ sym (get_or-replicate (seats - n) i 0 0 m))
      in
      ap (λ (x : List ℕ). length x ∷ padded x) (line-is b)
      ∙ ap (λ (k : ℕ). k ∷ l ++ replicate (seats - k) 0) ln
      ∙ ap (λ (x : List ℕ). n ∷ l ++ x) (sym z)
      ∙ ap (λ (x : List ℕ). n ∷ x) (take-append-drop n p)
      ∙ sym line_cons

  same_line : LineOk b → length (farm_of b).line ∷ padded (farm_of b).line ≡ get_or b line_at 0 ∷ part b seats_at seats
  unfolding farm_of line_image
  same_line e = e ∙ line_cons

  pub line_few : LineOk b → get_or b line_at 0 ≤ seats
  line_few e = omega (arith, few b, ap (λ (l : List ℕ). get_or l 0 0) (same_line e))

  pub line_zeros : LineOk b → (j : ℕ) → get_or b line_at 0 ≤ j → j < seats → get_or b (seats_at + j) 0 ≡ 0
  line_zeros e j h k =
      let l : List ℕ = (farm_of b).line in
      let n : length (farm_of b).line ≡ get_or b line_at 0 = ap (λ (x : List ℕ). get_or x 0 0) (same_line e) in
      let z : length (farm_of b).line + (j - length (farm_of b).line) ≡ j = omega arith in
      sym (get_or-part b seats_at seats j k)
      ∙ ap (λ (x : List ℕ). get_or (drop 1 x) j 0) (sym (same_line e))
      ∙ ap (λ (m : ℕ). get_or (padded l) m 0) (sym z)
      ∙ get_or-append-add l (replicate (seats - length l) 0) (j - length l) 0
      ∙ get_or-replicate (seats - length l) (j - length l) 0 0 (omega arith)

  -- the bytes past the waiters, each asked whether it is 0
  pub line-says : (n : ℕ) → n ≡ get_or b line_at 0 → n ≤ seats → (r : Bool)
      → MatchBool r (AllWithin (λ x. x ≡ 0) (part b (seats_at + n) (seats - n)) 0 (length (part b (seats_at + n) (seats - n))))
      ((k : ℕ) × (k < length (part b (seats_at + n) (seats - n))) × HoldsAt (λ x. x ≢ 0) (part b (seats_at + n) (seats - n)) k) → Says r (LineOk b)
  line-says n e few true h =
      says-yes
      (line-passes (omega (arith, e)) (λ j u v.
      let z : seats_at + n + (j - n) ≡ seats_at + j = omega (arith, e) in
      let k : j - n < seats - n = omega (arith, e) in
      ap (λ (i : ℕ). get_or b i 0) (sym z) ∙ sym (get_or-part b (seats_at + n) (seats - n) (j - n) k)
      ∙ h (j - n) 0 (omega arith) (omega (arith, length_part b (seats_at + n) (seats - n) (omega arith)))))
  line-says n e few false h =
      let k : h.0 < seats - n = omega (arith, h.1, length_part b (seats_at + n) (seats - n) (omega arith)) in
      let z : seats_at + n + h.0 ≡ seats_at + (n + h.0) = omega arith in
      says_no
      (λ q. h.2 0 (get_or-part b (seats_at + n) (seats - n) h.0 k ∙ ap (λ (i : ℕ). get_or b i 0) z ∙ line_zeros q (n + h.0) (omega (arith, e)) (omega arith)))

  -- ---- the marks

  marks-seats : length (part b marks_at seats) ≡ seats
  marks-seats = length_part b marks_at seats (omega arith)

bit : (x : ℕ) → x ≤ 1 → one (is_one x) ≡ x
bit zero h = refl
bit (suc zero) h = refl
bit (suc (suc x)) h = absurd (omega arith)

small : (t : Bool) → one t ≤ 1
small true = omega arith
small false = omega arith

module _ (b : List ℕ) (long : length b ≡ block_size) where
  pub marks_pass : ((i : ℕ) → i < seats → get_or b (marks_at + i) 0 ≤ 1) → MarksOk b
  unfolding marks_image marks_from
  marks_pass h =
      each_back is_one one (part b marks_at seats) 0
      (λ i k. let m : i < seats = omega (arith, marks-seats b long) in bit (get_or (part b marks_at seats) i 0) (omega (arith, get_or-part b marks_at seats i m, h i m)))

  pub marks_bits : MarksOk b → (i : ℕ) → i < seats → get_or b (marks_at + i) 0 ≤ 1
  unfolding marks_image marks_from
  marks_bits e i h =
      let x : ℕ = get_or (part b marks_at seats) i 0 in
      omega (arith, back_each is_one one (part b marks_at seats) 0 e i (omega (arith, marks-seats b long)), small (is_one x), get_or-part b marks_at seats i h)

  -- the bytes of the marks, each asked whether it is 0 or 1
  pub marks_say : (r : Bool)
      → MatchBool r (AllWithin (λ x. x ≤ 1) (part b marks_at seats) 0 (length (part b marks_at seats)))
      ((k : ℕ) × (k < length (part b marks_at seats)) × HoldsAt (λ x. 1 < x) (part b marks_at seats) k) → Says r (MarksOk b)
  marks_say true h = says-yes (marks_pass (λ i k. omega (arith, get_or-part b marks_at seats i k, h i 0 (omega arith) (omega (arith, marks-seats b long)))))
  marks_say false h =
      let k : h.0 < seats = omega (arith, h.1, marks-seats b long) in
      says_no (λ e. omega (arith, marks_bits e h.0 k, h.2 0, get_or-part b marks_at seats h.0 k))

  -- ---- the rows

  pub rows_pass : ((i : ℕ) → i < seats → RowOk (part b (rows_at + i * row_size) row_size)) → RowsOk b
  rows_pass h =
      let l : List (List ℕ) = parts row_size rows_at seats b in
      each_back row_from row_image l []
      (λ i k. let m : i < seats = omega (arith, parts-length row_size rows_at seats b) in
      let g : get_or l i [] ≡ part b (rows_at + i * row_size) row_size = parts_get row_size rows_at seats i b m in
      ap (λ (s : List ℕ). row_image (row_from s)) g ∙ h i m ∙ sym g)

  pub rows-each : RowsOk b → (i : ℕ) → i < seats → RowOk (part b (rows_at + i * row_size) row_size)
  rows-each e i h =
      let l : List (List ℕ) = parts row_size rows_at seats b in
      let g : get_or l i [] ≡ part b (rows_at + i * row_size) row_size = parts_get row_size rows_at seats i b h in
      ap (λ (s : List ℕ). row_image (row_from s)) (sym g) ∙ back_each row_from row_image l [] e i (omega (arith, parts-length row_size rows_at seats b)) ∙ g

  -- the rows' bytes, each asked whether they are a row's
  pub rows-say : (r : Bool) → MatchBool r (AllWithin RowOk (parts row_size rows_at seats b) 0 (length (parts row_size rows_at seats b)))
      ((k : ℕ) × (k < length (parts row_size rows_at seats b)) × HoldsAt (λ s. RowOk s → ⊥) (parts row_size rows_at seats b) k) → Says r (RowsOk b)
  rows-say true h =
      says-yes
      (rows_pass (λ i k. subst (λ (s : List ℕ). RowOk s) (parts_get row_size rows_at seats i b k) (h i [] (omega arith) (omega (arith, parts-length row_size rows_at seats b)))))
  rows-say false h =
      let k : h.0 < seats = omega (arith, h.1, parts-length row_size rows_at seats b) in
      says_no (λ e. h.2 [] (subst (λ (s : List ℕ). RowOk s) (sym (parts_get row_size rows_at seats h.0 b k)) (rows-each e h.0 k)))
