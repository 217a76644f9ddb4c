-- Storing a row in pieces: its three records one after the other, or its ticks alone. The spare byte stays 0.
-- Assumes nothing.
use mathlib.Core.Path.{◌≡◌, sym, ap, ◌∙◌}
use mathlib.Core.List.{List, [], ◌∷◌, ◌++◌, append_assoc}
use Prim.Native.Nat.{ℕ, ◌+◌, ◌-◌, ◌*◌, ◌<◌}
use native.Mathlib.Omega.{arith}
use native.Mathlib.Nat.{add-zero}
use lib.ListN.{length, get_or, take, drop, length-append}
use lib.Seq.{set-get_or}
use Rattle.octets.specs.Numbers.{be16}
use Rattle.octets.specs.Put.{put_at}
use Rattle.octets.specs.Parts.{part, parts}
use Rattle.octets.proofs.PutLaws.{put_start, put-more}
use Rattle.octets.proofs.PartsLaws.{part-between, parts_get, parts-length, length_part, narrow}
use Rattle.kinds.specs.declared.Clock.{Clock}
use Rattle.kinds.specs.declared.RowState.{RowState}
use Rattle.kinds.specs.declared.RowState.TheVariants.{Fresh, Active}
use Rattle.kinds.specs.declared.Row.{Row}
use Rattle.model.specs.Row.{row_at, free_row}
use Rattle.model.specs.Farm.{with_row, with_rows}
use Rattle.rowbytes.specs.RowLayout.{row_size, ticks_in, place_in, head_in, head_size}
use Rattle.table.specs.Layout.{seats, rows_at}
use Rattle.rowbytes.specs.RowBytes.{state_image, place_image, row_image, row_from, state_ticked, ticked}
use Rattle.table.specs.Block.{farm_of, Whole, Holds}
use Rattle.table.proofs.ListLaws.{back_each}
use Rattle.rowbytes.proofs.RowLaws.{state_long, place-long, past_all}
use Rattle.table.proofs.BlockLaws.{row_read, row_put}

-- a row's bytes, as a range lends them
pub row-lent : (b : List ℕ) (i : ℕ) {a e : ℕ} → a ≡ rows_at + i * row_size → e ≡ rows_at + i * row_size + row_size
    → take (e - a) (drop a b) ≡ part b (rows_at + i * row_size) row_size
row-lent b i {a} {e} start end =
    part-between b a e row_size (omega (arith, start, end)) ∙ ap (λ (k : ℕ). part b k row_size) start

module _ (b : List ℕ) (w : Whole b) (i : ℕ) (h : i < seats) where
  -- the row's bytes are those of what it means
  pub row-bytes_are : part b (rows_at + i * row_size) row_size ≡ row_image (row_at (farm_of b).rows i)
  row-bytes_are =
      let l : List (List ℕ) = parts row_size rows_at seats b in
      let g : get_or l i [] ≡ part b (rows_at + i * row_size) row_size = parts_get row_size rows_at seats i b h in
      sym g
      ∙ sym (back_each row_from row_image l [] w.rows i (omega (arith, parts-length row_size rows_at seats b)))
      ∙ ap (λ (s : List ℕ). row_image (row_from s)) g
      ∙ ap row_image (row_read b i h)

  pub row-head : length (row_at (farm_of b).rows i).head ≡ head_size
  unfolding row_from
  row-head =
      let n : length (part b (rows_at + i * row_size) row_size) ≡ row_size = length_part b (rows_at + i * row_size) row_size (omega (arith, w.long)) in
      ap (λ (r : Row). length r.head) (sym (row_read b i h)) ∙ length_part (part b (rows_at + i * row_size) row_size) head_in head_size (omega arith)

  -- all but the spare byte
  spared : (r : Row) (xs : List ℕ) → length xs ≡ 19 → row_image r ≡ xs ++ (0 ∷ [])
      → put_at b (rows_at + i * row_size) xs ≡ put_at b (rows_at + i * row_size) (row_image r)
  spared r xs n e =
      let at : ℕ = rows_at + i * row_size in
      ap (λ (k : ℕ). put_at b k xs) (sym (add-zero at))
      ∙ narrow b at row_size 0 xs (omega arith) (omega (arith, w.long))
      ∙ ap (λ (s : List ℕ). put_at b at (put_at s 0 xs)) row-bytes_are
      ∙ ap (put_at b at)
      (put_start (row_image (row_at (farm_of b).rows i)) xs
      ∙ ap (λ (k : ℕ). xs ++ drop k (row_image (row_at (farm_of b).rows i))) n
      ∙ ap (λ (s : List ℕ). xs ++ s) (past_all (row_at (farm_of b).rows i) row-head)
      ∙ sym e)

  pub row-stored : (b₁ b₂ c : List ℕ) (r : Row) → length r.head ≡ head_size → b₁ ≡ put_at b (rows_at + i * row_size) (state_image r.state)
      → b₂ ≡ put_at b₁ (rows_at + i * row_size + place_in) (place_image r.place) → c ≡ put_at b₂ (rows_at + i * row_size + head_in) r.head
      → Holds c (with_row (farm_of b) i r)
  unfolding row_image
  row-stored b₁ b₂ c r eight e₁ e₂ e₃ =
      let at : ℕ = rows_at + i * row_size in
      let s : List ℕ = state_image r.state in
      let p : List ℕ = place_image r.place in
      let ns : length (state_image r.state) ≡ place_in = state_long r.state in
      let np : length (place_image r.place) ≡ 5 = place-long r.place in
      let n : length (s ++ p) ≡ head_in = omega (arith, length-append (state_image r.state) (place_image r.place)) in
      let f₂ : b₂ ≡ put_at b at (s ++ p) = put-more b at s b₁ (at + place_in) p b₂ e₁ (omega arith) (omega (arith, w.long)) e₂ in
      let f₃ : c ≡ put_at b at (s ++ p ++ r.head) = put-more b at (s ++ p) b₂ (at + head_in) r.head c f₂ (omega arith) (omega (arith, w.long)) e₃ in
      row_put b c w i r h eight
      (f₃ ∙ spared r (s ++ p ++ r.head) (omega (arith, length-append (s ++ p) r.head))
      (sym (append_assoc (s ++ p) r.head (0 ∷ []) ∙ append_assoc s p (r.head ++ (0 ∷ [])))))

  -- ---- other ticks

  ticks-stored : (c : List ℕ) (n : ℕ) → row_image (ticked n (row_at (farm_of b).rows i)) ≡ put_at (row_image (row_at (farm_of b).rows i)) ticks_in (be16 n)
      → c ≡ put_at b (rows_at + i * row_size + ticks_in) (be16 n) → Holds c (with_row (farm_of b) i (ticked n (row_at (farm_of b).rows i)))
  ticks-stored c n k e =
      let at : ℕ = rows_at + i * row_size in
      row_put b c w i (ticked n (row_at (farm_of b).rows i)) h row-head
      (e ∙ narrow b at row_size ticks_in (be16 n) (omega arith) (omega (arith, w.long))
      ∙ ap (λ (s : List ℕ). put_at b at (put_at s ticks_in (be16 n))) row-bytes_are
      ∙ ap (put_at b at) (sym k))

  pub fresh-ticked : (c : List ℕ) (n : ℕ) (age : Clock) → (row_at (farm_of b).rows i).state ≡ Fresh age
      → c ≡ put_at b (rows_at + i * row_size + ticks_in) (be16 n) → Holds c (with_row (farm_of b) i (ticked n (row_at (farm_of b).rows i)))
  unfolding row_image put_at
  fresh-ticked c n age s e = ticks-stored c n (rw s) e

  pub active_ticked : (c : List ℕ) (n a : ℕ) (idle : Clock) → (row_at (farm_of b).rows i).state ≡ Active a idle
      → c ≡ put_at b (rows_at + i * row_size + ticks_in) (be16 n) → Holds c (with_row (farm_of b) i (ticked n (row_at (farm_of b).rows i)))
  unfolding row_image put_at
  active_ticked c n a idle s e = ticks-stored c n (rw s) e

  -- a row without ticks is as it was
  pub not-ticked : (n : ℕ) (s : RowState) → (row_at (farm_of b).rows i).state ≡ s → state_ticked n s ≡ s
      → Holds b (with_row (farm_of b) i (ticked n (row_at (farm_of b).rows i)))
  not-ticked n s e k =
      let r : Row = row_at (farm_of b).rows i in
      let same : ticked n (row_at (farm_of b).rows i) ≡ row_at (farm_of b).rows i =
      ap (λ (t : RowState). record { state = t; place = r.place; head = r.head }) (ap (state_ticked n) e ∙ k ∙ sym e)
      in
      record { is = sym (ap (with_row (farm_of b) i) same ∙ ap (with_rows (farm_of b)) (set-get_or (farm_of b).rows i free_row)); whole = w }
