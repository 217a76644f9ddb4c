-- The model's steps, a case at a time.
-- Assumes nothing.
use Prim.Native.Nat.{ℕ}
use mathlib.Core.Path.{◌≡◌, refl, sym, ap}
use mathlib.Core.Bool.{Bool, true, false}
use mathlib.Core.List.{List, [], ◌∷◌}
use borrow.Author.Tests.{eq-eqb, ne_eqb}
use Rattle.std.specs.Prelude.{Some, None, slice_get}
use Rattle.std.proofs.lemmas.Option.{none-some, same_Some}
use Rattle.kinds.specs.declared.Row.{Row}
use Rattle.kinds.specs.declared.Check.{Check}
use Rattle.kinds.specs.declared.Reply.TheVariants.{Activation, AliveCheck}
use Rattle.model.specs.FarmSheet.{FarmSheet}
use Rattle.model.specs.Row.{row_at, active_row, wanted}
use Rattle.model.specs.Farm.{Farm, does, quietly, and_then, with_row, says, closed, closed_if}
use Rattle.model.specs.Line.{accepted, asks, asked_if, answered, socket_rules, asking, cleared, started_by, started}

-- ---- a row closes, or does not

module _ (own : FarmSheet) (test : ℕ → Row → Bool) (seat : ℕ) (f : Farm) where
  pub closes-yes : test seat (row_at f.rows seat) ≡ true → closed_if own test seat f ≡ closed own seat f
  unfolding closed_if
  closes-yes e = rw e

  pub closes_no : test seat (row_at f.rows seat) ≡ false → closed_if own test seat f ≡ quietly f
  unfolding closed_if
  closes_no e = rw e

-- ---- a row is asked, or is not

module _ (own : FarmSheet) (check : Check) (seat : ℕ) (f : Farm) where
  pub asked_yes : asks check seat (row_at f.rows seat) ≡ true → asked_if own check seat f ≡ does f (says own seat AliveCheck ∷ [])
  unfolding asked_if
  asked_yes e = rw e

  pub asked_no : asks check seat (row_at f.rows seat) ≡ false → asked_if own check seat f ≡ quietly f
  unfolding asked_if
  asked_no e = rw e

-- ---- an answer of 10, or another

module _ (own : FarmSheet) (seat address code : ℕ) (f : Farm) where
  pub answered-yes : code ≡ accepted
      → answered own seat address code f ≡ does (with_row f seat (active_row address)) (says own seat (Activation address own.entity code) ∷ [])
  unfolding answered
  answered-yes e = rw (eq-eqb code accepted e)

  pub answered_no : (code ≡ accepted → ⊥)
      → answered own seat address code f ≡ and_then (does f (says own seat (Activation address own.entity code) ∷ [])) (closed own seat)
  unfolding answered
  answered_no e = rw (ne_eqb code accepted e)

-- ---- a line without a head, and one with a head

module _ (own : FarmSheet) (f : Farm) where
  pub started_none : slice_get f.line 0 ≡ None → started own f ≡ quietly (cleared f)
  unfolding started
  started_none e = by f.line e
    where
      by : (line : List ℕ) → slice_get line 0 ≡ None → started_by own line f ≡ quietly (cleared f)
      by [] h = refl
      by (x ∷ l) h = absurd (none-some x (sym h))

  pub started-head : (head : ℕ) → slice_get f.line 0 ≡ Some head
      → started own f ≡ asking own (socket_rules own f.rows (wanted (row_at f.rows head))) (cleared f)
  unfolding started
  started-head head e = by f.line e
    where
      by : (line : List ℕ) → slice_get line 0 ≡ Some head
          → started_by own line f ≡ asking own (socket_rules own f.rows (wanted (row_at f.rows head))) (cleared f)
      by [] h = absurd (none-some head h)
      by (x ∷ l) h = ap (λ (y : ℕ). asking own (socket_rules own f.rows (wanted (row_at f.rows y))) (cleared f)) (same_Some x head h)
