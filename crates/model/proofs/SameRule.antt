-- Rule 4 looks at five things of a farm's sheet only: the three numbers of its site, how many rows it owns, and who is its tester.
-- Assumes nothing.
use Prim.Native.Nat.{ℕ}
use mathlib.Core.Path.{◌≡◌, refl, ap, ◌∙◌}
use mathlib.Core.Bool.{Bool, not}
use mathlib.Core.List.{List, [], ◌∷◌}
use lib.Dec.{eqb, leb, ltb}
use Rattle.octets.specs.Choice.{both, either, one}
use Rattle.octets.proofs.FoldLaws.{every_same}
use Rattle.kinds.specs.declared.RowState.{RowState}
use Rattle.kinds.specs.declared.RowState.TheVariants.{Free, Fresh, Waiting, Active}
use Rattle.kinds.specs.declared.Row.{Row}
use Rattle.model.specs.FarmSheet.{FarmSheet}
use Rattle.model.specs.Row.{row_at, is_open, is_waiting, at_limit}
use Rattle.model.specs.Farm.{Farm, seat_count}
use Rattle.model.specs.Line.{is_marked, is_asked}
use Rattle.model.specs.Rule.{times}
use Rattle.model.specs.RuleTest.{every_seat, possible_at, is_tidy, active_once_by, is_boundary, row_keeps, is_pending, head_keeps, seat_keeps, good_farm}
use Rattle.model.proofs.SameSite.{SameSite, verdict_same, is_asked_same}

pub record SameRule (a b : FarmSheet) : Type 0 where
  pub site : SameSite a b
  pub rows : a.rows ≡ b.rows
  pub tester : (address : ℕ) → a.tester address ≡ b.tester address

-- a seat's test, by what it has of the sheet: how many rows, whether the row's state is kept, whether the seat is asked
abbrev seat_by : Farm → ℕ → ℕ → Bool → Bool → Bool
seat_by f i rows kept asked =
    both (either (ltb i rows) (not (is_open (row_at f.rows i))))
    (both kept
    (both (active_once_by f.rows (row_at f.rows i).state)
    (both (eqb (times i f.line) (one (is_waiting (row_at f.rows i))))
    (both (not (at_limit (row_at f.rows i)))
    (both (either (not (is_marked f.marks i)) asked)
    (both (possible_at (row_at f.rows i).place (row_at f.rows i).head) (is_tidy (row_at f.rows i))))))))

module _ (a b : FarmSheet) (same : SameRule a b) where
  row_same : (r : Row) (st : RowState) → row_keeps a r st ≡ row_keeps b r st
  row_same r Free = refl
  row_same r (Fresh age) = refl
  row_same r (Waiting q) = ap (λ (t : Bool). both (is_boundary r.place) (both t (leb q.kind 1))) (same.tester q.address)
  row_same r (Active address idle) = same.tester address

  head_same : (f : Farm) (line : List ℕ) → head_keeps a f line ≡ head_keeps b f line
  head_same f [] = refl
  head_same f (head ∷ rest) = ap is_pending (verdict_same a b same.site f head)

  seat_same : (f : Farm) (i : ℕ) → seat_keeps a f i ≡ seat_keeps b f i
  seat_same f i =
      let r : Row = row_at f.rows i in
      ap (λ (n : ℕ). seat_by f i n (row_keeps a r r.state) (is_asked a f i)) same.rows
      ∙ ap (λ (t : Bool). seat_by f i b.rows t (is_asked a f i)) (row_same r r.state)
      ∙ ap (seat_by f i b.rows (row_keeps b r r.state)) (is_asked_same a b same.site f i)

  pub good_same : (f : Farm) → good_farm a f ≡ good_farm b f
  unfolding good_farm every_seat
  good_same f =
      rw (every_same (seat_keeps a f) (seat_keeps b f) (seat_same f) seat_count, head_same f f.line, same.site.quota)
