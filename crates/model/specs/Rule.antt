-- "A table breaks the rules if: ..": rule 4 for one farm, a field for each rule.
-- Assumes nothing: these are definitions.
use Rattle.std.specs.Prelude.{ℕ, ◌-◌, ◌≤◌, ◌<◌, ◌≡◌, true, false, ◌⊎◌, List, [], ◌∷◌, eqb, length, drop, replicate, Err}
use Prim.{Unit}
use Rattle.octets.specs.Choice.{one}
use Rattle.octets.specs.Search.{count_if}
use Rattle.kinds.specs.declared.RowState.{RowState}
use Rattle.kinds.specs.declared.RowState.TheVariants.{Free, Fresh, Waiting, Active}
use Rattle.kinds.specs.declared.Place.{Place}
use Rattle.kinds.specs.declared.Place.TheVariants.{Header, Reading, Skipping}
use Rattle.kinds.specs.declared.Row.{Row}
use Rattle.kinds.specs.declared.Fault.TheVariants.{UnknownType, TooLong}
use Rattle.kinds.specs.declared.HeadVerdict.TheVariants.{Pending}
use Rattle.wire.specs.Header.{header_size, header_at, verdict_of, passed}
use Rattle.model.specs.FarmSheet.{FarmSheet}
use Rattle.kinds.specs.Clock.{check_limit}
use Rattle.model.specs.Row.{boundary, row_at, is_free, is_open, is_waiting, is_active, active_as, at_limit}
use Rattle.model.specs.Farm.{Farm, seat_count}
use Rattle.model.specs.Line.{is_marked, is_asked, head_verdict}

-- how often a seat stands in the line
abbrev pub times : ℕ → List ℕ → ℕ
times i line = count_if (eqb i) line

-- "a stream place is impossible: eight header bytes or more still unjudged, a payload already complete, a payload being read whose
-- header would be judged wrong, or one being skipped whose header would not get NACK 01 or 02"
abbrev pub PossibleAt : Place → List ℕ → Type 0
PossibleAt (Header n) head = n < header_size
PossibleAt (Reading n) head = (n < (header_at head 0).length) × (verdict_of (header_at head 0) ≡ passed)
PossibleAt (Skipping n) head =
    (n < (header_at head 0).length) ×
    ((verdict_of (header_at head 0) ≡ Err UnknownType) ⊎ (verdict_of (header_at head 0) ≡ Err TooLong))

-- what means nothing has one value: header bytes that are not in hand are 0, and a free row is between two messages
abbrev pub TidyAt : Place → List ℕ → Type 0
TidyAt (Header n) head = drop n head ≡ replicate (header_size - n) 0
TidyAt (Reading n) head = Unit {0}
TidyAt (Skipping n) head = Unit {0}

pub record Tidy (r : Row) : Type 0 where
  pub eight : length r.head ≡ header_size
  pub unused : TidyAt r.place r.head
  pub freed : is_free r ≡ true → r.place ≡ boundary

-- what holds of a row by its state alone
abbrev pub RowKeeps : FarmSheet → Row → RowState → Type 0
RowKeeps own r Free = Unit {0}
RowKeeps own r (Fresh age) = Unit {0}
RowKeeps own r (Waiting q) = (r.place ≡ boundary) × (own.tester q.address ≡ true) × (q.kind ≤ 1)
RowKeeps own r (Active a idle) = own.tester a ≡ true

abbrev pub HeadKeeps : FarmSheet → Farm → List ℕ → Type 0
HeadKeeps own f [] = f.clock.ticks ≡ 0
HeadKeeps own f (head ∷ rest) = head_verdict own f head ≡ Pending

pub record Good (own : FarmSheet) (f : Farm) : Type 0 where
  -- every table has so many rows and marks
  pub seats : length f.rows ≡ seat_count
  pub marks_too : length f.marks ≡ seat_count
  -- "a row beyond the sheet's rows is open"
  pub within : (i : ℕ) → own.rows ≤ i → is_open (row_at f.rows i) ≡ false
  -- "an active address isn't that farm's tester"; "a waiting row has bytes in hand, or its request would get 00 or 06"
  pub rows_keep : (i : ℕ) → RowKeeps own (row_at f.rows i) (row_at f.rows i).state
  -- "or is active twice"
  pub active_once : (a : ℕ) → count_if (active_as a) f.rows ≤ 1
  -- "more than q rows of a farm are active"
  pub places_left : count_if is_active f.rows ≤ own.quota
  -- "a farm's line isn't each of its waiting rows exactly once"
  pub lined : (i : ℕ) → times i f.line ≡ one (is_waiting (row_at f.rows i))
  -- "a non-empty line's head needs no check or its check is already decided"; "an empty line has clock .. set"
  pub head_keeps : HeadKeeps own f f.line
  -- "an age is 200 or more, an idle count 30,000 or more"
  pub young : (i : ℕ) → at_limit (row_at f.rows i) ≡ false
  -- "a check clock 50 or more"
  pub check_runs : f.clock.ticks < check_limit
  -- "a mark stands on a row not asked"; "an empty line has .. marks set"
  pub marks_asked : (i : ℕ) → is_marked f.marks i ≡ true → is_asked own f i ≡ true
  -- "a stream place is impossible"
  pub possible : (i : ℕ) → PossibleAt (row_at f.rows i).place (row_at f.rows i).head
  -- a table has no bytes that mean nothing (docs/DECISIONS.md, A6 and D5)
  pub tidy : (i : ℕ) → Tidy (row_at f.rows i)
