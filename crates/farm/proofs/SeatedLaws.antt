-- Each waiter keeps its seat: what closings, a clock, and a waiter that leaves do to the line.
-- Assumes nothing.
use Prim.Native.Nat.{ℕ, zero, suc, ◌<◌}
use mathlib.Core.Path.{◌≡◌, refl, sym, subst, ◌∙◌}
use mathlib.Core.Bool.{Bool}
use mathlib.Core.List.{List, [], ◌∷◌}
use lib.Dec.{eqb}
use lib.ListN.{get_or}
use Rattle.kinds.specs.declared.Row.{Row}
use Rattle.model.specs.FarmSheet.{FarmSheet}
use Rattle.model.specs.Farm.{Farm, seat_count, Done, quietly, with_line, closed_where}
use Rattle.model.specs.Line.{advanced, without, left_by, left}
use Rattle.model.specs.Move.{clock_run}
use Rattle.model.specs.Rule.{Good}
use Rattle.model.proofs.LineRoom.{line-below}
use Rattle.model.proofs.Cases.{pick_case}
use Rattle.model.proofs.Seats.{closed-line, closings_keep}
use Rattle.table.specs.Layout.{seats}
use Rattle.closing.specs.Did.{Seated}
use Rattle.line_join.proofs.LineLaws.{seated_rest, advanced-line}

-- ---- the line stays

pub closings_line : (own : FarmSheet) (test : ℕ → Row → Bool) (f : Farm) → (closed_where own test f).farm.line ≡ f.line
closings_line own test f = closings_keep own test (λ x. x.line ≡ f.line) f refl (λ i x e h. closed-line own i x ∙ h)

pub clock-line : (line : List ℕ) (f : Farm) → (clock_run line f).line ≡ f.line
clock-line [] f = refl
clock-line (x ∷ l) f = refl

-- ---- a waiter leaves

seated_more : (x : ℕ) (l : List ℕ) → x < seats → Seated l → Seated (x ∷ l)
seated_more x l h s = record { each = by }
  where
    by : (k : ℕ) → get_or (x ∷ l) k 0 < seats
    by zero = h
    by (suc k) = s.each k

seated_without : (x : ℕ) (l : List ℕ) → Seated l → Seated (without x l)
seated_without x [] s = s
seated_without x (y ∷ l) s =
    let rest : Seated (without x l) = seated_without x l (seated_rest (y ∷ l) s) in
    pick_case Seated (eqb x y) (without x l) (y ∷ without x l) (λ e. rest) (λ e. seated_more y (without x l) (s.each 0) rest)

pub left_seated : (own : FarmSheet) (seat : ℕ) (f : Farm) → Seated f.line → Seated (left own seat f).farm.line
unfolding left
left_seated own seat f s = by f.line s s
  where
    by : (line : List ℕ) → Seated line → Seated f.line → Seated (left_by own seat line f).farm.line
    by [] k whole = whole
    by (head ∷ rest) k whole =
        pick_case (λ (d : Done). Seated d.farm.line) (eqb seat head) (advanced own rest f) (quietly (with_line f (head ∷ without seat rest)))
        (λ e. subst Seated (sym (advanced-line own rest f)) (seated_rest (head ∷ rest) k))
        (λ e. seated_more head (without seat rest) (k.each 0) (seated_without seat rest (seated_rest (head ∷ rest) k)))

-- ---- a farm that keeps rule 4

pub good_seated : {own : FarmSheet} {f : Farm} → Good own f → Seated f.line
unfolding seat_count
good_seated g = record { each = line-below g }
