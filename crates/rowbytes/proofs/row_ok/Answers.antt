-- `row_ok` meets its contract.
-- Assumes nothing.
use mathlib.Core.Path.{◌≡◌, sym, subst, ◌∙◌}
use mathlib.Core.Bool.{Bool, false}
use mathlib.Core.List.{List}
use Prim.Native.Nat.{ℕ, ◌<◌}
use native.Mathlib.Omega.{arith}
use lib.ListN.{get_or}
use borrow.Author.Tests.{eqb-true}
use Rattle.octets.specs.Numbers.{u16_at}
use Rattle.octets.specs.Says.{Says}
use Rattle.octets.proofs.SaysLaws.{says_no, says_of, refuted}
use Rattle.rowbytes.specs.RowBytes.{StateOk, PlaceOk, RowOk}
use Rattle.rowbytes.proofs.TestLaws.{row-passes, row_tests}
use Rattle.rowbytes.proofs.row_ok.Goals as goal
use Rattle.rowbytes.proofs.row_ok.Goals.{then-s-eq0, else-s-eq0}

-- the test of the state speaks of the numbers that were read
told : (l : List ℕ) (a t : ℕ) → a ≡ u16_at l 2 → t ≡ u16_at l 4 → StateOk (get_or l 0 0) (get_or l 1 0) a t → StateOk (get_or l 0 0) (get_or l 1 0) (u16_at l 2) (u16_at l 4)
told l a t p q e =
    subst (λ (x : ℕ). StateOk (get_or l 0 0) (get_or l 1 0) (u16_at l 2) x) q (subst (λ (x : ℕ). StateOk (get_or l 0 0) (get_or l 1 0) x t) p e)

stated : (l : List ℕ) (a t : ℕ) → a ≡ u16_at l 2 → t ≡ u16_at l 4 → StateOk (get_or l 0 0) (get_or l 1 0) (u16_at l 2) (u16_at l 4) → StateOk (get_or l 0 0) (get_or l 1 0) a t
stated l a t p q e =
    subst (λ (x : ℕ). StateOk (get_or l 0 0) (get_or l 1 0) x t) (sym p) (subst (λ (x : ℕ). StateOk (get_or l 0 0) (get_or l 1 0) (u16_at l 2) x) (sym q) e)

pub returns-then-state_ok : goal.returns-then-state_ok
returns-then-state_ok c =
    let l : List ℕ = c.args.s.now in
    let b : (i : ℕ) → get_or l i 0 < 256 = λ i. omega (arith, c.type_inv.s i) in
    let n = c.read32.ensures in
    elim c.if-s-eq0.branch [
      | then-s-eq0 w ↦
          let st = told l _ _ w.read16.ensures w.read16-then-s-eq0.ensures (w.state_ok.ensures.right (sym w.value-is ∙ c.if-state_ok.true)) in
          says_of (λ e. row-passes l c.requires b (record { spare = w.if-s-eq0.true; state = st; place = subst (λ (k : ℕ). PlaceOk (get_or l 6 0) (get_or l 10 0) k) n e }))
          (λ h. subst (λ (k : ℕ). PlaceOk (get_or l 6 0) (get_or l 10 0) k) (sym n) (row_tests l c.requires b h).place)
          c.place_ok.ensures
      | else-s-eq0 w ↦ absurd (w.if-s-eq0.false (eqb-true _ _ (sym w.value-is ∙ c.if-state_ok.true)))
    ]

pub returns-else-state_ok : goal.returns-else-state_ok
returns-else-state_ok c =
    let l : List ℕ = c.args.s.now in
    let b : (i : ℕ) → get_or l i 0 < 256 = λ i. omega (arith, c.type_inv.s i) in
    let refused : Says false (RowOk l) =
    elim c.if-s-eq0.branch [
      | then-s-eq0 w ↦
          says_no (λ h. refuted w.state_ok.ensures (sym w.value-is ∙ c.if-state_ok.false)
          (stated l _ _ w.read16.ensures w.read16-then-s-eq0.ensures (row_tests l c.requires b h).state))
      | else-s-eq0 w ↦ says_no (λ h. w.if-s-eq0.false (row_tests l c.requires b h).spare)
    ]
    in
    subst (λ (t : Bool). Says t (RowOk l)) (sym c.if-state_ok.false) refused
