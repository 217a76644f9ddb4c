-- Closing rows keeps the half `Sound` of rule 4, and what all closings together leave of the rows.
-- Assumes nothing.
use Prim.Native.Nat.{ℕ, zero, suc, ◌+◌, ◌≤◌, ◌<◌}
use mathlib.Core.Path.{◌≡◌, refl, sym, ap, subst, ◌∙◌}
use mathlib.Core.Bool.{Bool, true, false, true≢false}
use mathlib.Core.List.{List}
use native.Mathlib.Nat.{not-suc-le-zero}
use native.Mathlib.Omega.{arith}
use lib.Dec.{eqb, ltb}
use lib.ListN.{set, length, length-set, get_or-eq_default}
use borrow.Author.Tests.{ltb-true, ltb-false, eqb-true, eqb-false}
use Rattle.octets.specs.Choice.{one}
use Rattle.octets.specs.Search.{count_if}
use Rattle.octets.specs.Fold.{up_to}
use Rattle.kinds.specs.declared.Row.{Row}
use Rattle.model.specs.FarmSheet.{FarmSheet}
use Rattle.model.specs.Row.{free_row, row_at, is_waiting}
use Rattle.model.specs.Farm.{Farm, seat_count, Done, and_then, closed, closed_if, closed_where}
use Rattle.model.proofs.Cases.{pick_case, split}
use Rattle.model.proofs.Rows.{row_put, row-set, row_other, count_free}
use Rattle.model.proofs.Seats.{seats_to, seats-all, closings_keep}
use Rattle.model.proofs.RuleParts.{Sound}
use Rattle.model.proofs.SoundRows.{Kept, Lined, Young, kept_of, sound_from, free_kept, free_young, free_lined}

-- a row that does not wait closes
pub closed_sound : {own : FarmSheet} {f : Farm} (seat : ℕ) → is_waiting (row_at f.rows seat) ≡ false → Sound own f → Sound own (closed own seat f).farm
unfolding closed
closed_sound {own} {f} seat e s =
    sound_from (free_kept seat (kept_of s)) (free_young f.rows seat s.young) (free_lined f.rows f.line seat e s.lined) s.marks_too

module _ (own : FarmSheet) (test : ℕ → Row → Bool) (f : Farm) where
  -- line and marks are let alone
  pub closings_line : (closed_where own test f).farm.line ≡ f.line
  unfolding closed
  closings_line = closings_keep own test (λ x. x.line ≡ f.line) f refl (λ i x _ p. p)

  pub closings_marks : (closed_where own test f).farm.marks ≡ f.marks
  unfolding closed
  closings_marks = closings_keep own test (λ x. x.marks ≡ f.marks) f refl (λ i x _ p. p)

  pub closings_kept : Kept own f.rows → Kept own (closed_where own test f).farm.rows
  unfolding closed
  closings_kept k = closings_keep own test (λ x. Kept own x.rows) f k (λ i x _ p. free_kept i p)

  pub closings_young : Young f.rows → Young (closed_where own test f).farm.rows
  unfolding closed
  closings_young y = closings_keep own test (λ x. Young x.rows) f y (λ i x _ p. free_young x.rows i p)

  -- a test that a free row fails: what failed before fails after
  pub closings_not : (p : Row → Bool) → p free_row ≡ false → (k : ℕ) → p (row_at f.rows k) ≡ false → p (row_at (closed_where own test f).farm.rows k) ≡ false
  unfolding closed
  closings_not p e k t =
      closings_keep own test (λ x. p (row_at x.rows k) ≡ false) f t (λ i x _ q. row-set x.rows i k free_row (λ y. p y ≡ false) (λ _ _. e) q)

  pub closings_count : (p : Row → Bool) → p free_row ≡ false → count_if p (closed_where own test f).farm.rows ≤ count_if p f.rows
  unfolding closed
  closings_count p e =
      closings_keep own test (λ x. count_if p x.rows ≤ count_if p f.rows) f (omega arith) (λ i x _ q. omega (arith, count_free p e x.rows i))

  -- a row that passes the test is free after all
  after : ℕ → List Row
  after n = (seats_to (closed_if own test) f n).farm.rows

  after-length : (n : ℕ) → length (after n) ≡ length f.rows
  unfolding after seats_to up_to and_then closed_if closed
  after-length zero = refl
  after-length (suc n) =
      pick_case (λ (d : Done). length d.farm.rows ≡ length f.rows) (test n (row_at (after n) n)) _ _ (λ _. length-set (after n) n free_row ∙ after-length n)
      (λ _. after-length n)

  not_yet : (k n : ℕ) → n ≤ k → row_at (after n) k ≡ row_at f.rows k
  unfolding after seats_to up_to and_then closed_if closed
  not_yet k zero h = refl
  not_yet k (suc n) h =
      pick_case (λ (d : Done). row_at d.farm.rows k ≡ row_at f.rows k) (test n (row_at (after n) n)) _ _
      (λ _. row_other (after n) n k free_row (λ e. omega arith) ∙ not_yet k n (omega arith)) (λ _. not_yet k n (omega arith))

  there : (k : ℕ) → k < length f.rows → test k (row_at f.rows k) ≡ true → (n : ℕ) → k < n → row_at (after n) k ≡ free_row
  unfolding after seats_to up_to and_then closed_if closed
  there k l t zero h = absurd (not-suc-le-zero h)
  there k l t (suc n) h =
      split (eqb k n)
      (λ e. let q : k ≡ n = eqb-true k n e in
      pick_case (λ (d : Done). row_at d.farm.rows k ≡ free_row) (test n (row_at (after n) n)) _ _
      (λ _. row_put (after n) n k free_row (omega (arith, after-length n)) (λ y. y ≡ free_row) (λ _. refl) (λ m. absurd (m q)))
      (λ u. absurd (true≢false (sym t ∙ ap (test k) (sym (not_yet k n (omega arith))) ∙ subst (λ j. test j (row_at (after n) j) ≡ false) (sym q) u))))
      (λ e. let m : k < n = omega (arith, eqb-false k n e) in
      pick_case (λ (d : Done). row_at d.farm.rows k ≡ free_row) (test n (row_at (after n) n)) _ _
      (λ _. row-set (after n) n k free_row (λ y. y ≡ free_row) (λ _ _. refl) (there k l t n m)) (λ _. there k l t n m))

  pub closings_there : length f.rows ≡ seat_count → (k : ℕ) → k < seat_count → test k (row_at f.rows k) ≡ true
      → row_at (closed_where own test f).farm.rows k ≡ free_row
  unfolding after
  closings_there l k h t = ap (λ (d : Done). row_at d.farm.rows k) (seats-all (closed_if own test) f) ∙ there k (omega arith) t seat_count h

  -- one of those that close passes a test that a free row fails: their number falls
  pub closings_fewer : (p : Row → Bool) → p free_row ≡ false → length f.rows ≡ seat_count → (k : ℕ) → k < seat_count
      → test k (row_at f.rows k) ≡ true → p (row_at f.rows k) ≡ true → count_if p (closed_where own test f).farm.rows + 1 ≤ count_if p f.rows
  unfolding closed
  closings_fewer p e l k h t q =
      let z : one (p (row_at (closed_where own test f).farm.rows k)) ≡ 0 = ap (λ y. one (p y)) (closings_there l k h t) ∙ ap one e in
      let o : one (p (row_at f.rows k)) ≡ 1 = ap one q in
      omega (
        arith,
        closings_keep own test (λ x. count_if p x.rows + 1 ≤ count_if p f.rows + one (p (row_at x.rows k))) f (omega arith)
            (λ i x _ b. split (eqb k i)
            (λ u. let v : one (p (row_at x.rows k)) ≡ one (p (row_at x.rows i)) = ap (λ j. one (p (row_at x.rows j))) (eqb-true k i u) in
            omega (arith, count_free p e x.rows i))
            (λ u. let v : one (p (row_at (set x.rows i free_row) k)) ≡ one (p (row_at x.rows k)) = ap (λ y. one (p y)) (row_other x.rows i k free_row (eqb-false k i u)) in
            omega (arith, count_free p e x.rows i))),
      )

  -- rows that do not wait close
  pub closings_lined : ((i : ℕ) → test i (row_at f.rows i) ≡ true → is_waiting (row_at f.rows i) ≡ false) → Lined f.rows f.line
      → Lined (closed_where own test f).farm.rows f.line
  unfolding closed
  closings_lined loud l =
      (closings_keep own test (λ x. ((i : ℕ) → test i (row_at x.rows i) ≡ true → is_waiting (row_at x.rows i) ≡ false) × Lined x.rows f.line) f (loud, l)
      (λ i x t p. (
        (λ k. row-set x.rows i k free_row (λ y. test k y ≡ true → is_waiting y ≡ false) (λ _ _ _. refl) (p.0 k)),
        free_lined x.rows f.line i (p.0 i t) p.1,
      ))
      ).1

  pub closings_sound : ((i : ℕ) → test i (row_at f.rows i) ≡ true → is_waiting (row_at f.rows i) ≡ false) → Sound own f
      → Sound own (closed_where own test f).farm
  closings_sound loud s =
      sound_from (closings_kept (kept_of s)) (closings_young s.young)
      (subst (Lined (closed_where own test f).farm.rows) (sym closings_line) (closings_lined loud s.lined)) (ap length closings_marks ∙ s.marks_too)

-- all rows that pass a test close: none is left that passes it
pub closings_none : (own : FarmSheet) (p : Row → Bool) → p free_row ≡ false → (f : Farm) → length f.rows ≡ seat_count → (k : ℕ)
    → p (row_at (closed_where own (λ seat r. p r) f).farm.rows k) ≡ false
closings_none own p e f l k =
    split (p (row_at f.rows k))
    (λ t. split (ltb k seat_count)
    (λ h. ap p (closings_there own (λ seat r. p r) f l k (ltb-true k seat_count h) t) ∙ e)
    (λ h. absurd (true≢false (sym t ∙ ap p (get_or-eq_default f.rows free_row (omega (arith, ltb-false k seat_count h))) ∙ e))))
    (λ t. closings_not own (λ seat r. p r) f p e k t)
