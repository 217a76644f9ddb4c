-- Rule 4 at one seat of a farm: what it is tested against, and the test in the order of the code.
-- Assumes nothing: these are definitions.
use Rattle.std.specs.Prelude.{ℕ, ◌+◌, Bool, not, List, [], eqb, leb, ltb, drop}
use Rattle.octets.specs.Choice.{both, either}
use Rattle.octets.specs.Search.{some}
use Rattle.kinds.specs.Clock.{initial_limit, general_limit}
use Rattle.kinds.specs.declared.Clock.{Clock}
use Rattle.kinds.specs.declared.Request.{Request}
use Rattle.kinds.specs.declared.Site.{Site}
use Rattle.kinds.specs.declared.Place.{Place}
use Rattle.kinds.specs.declared.RowState.{RowState}
use Rattle.kinds.specs.declared.RowState.TheVariants.{Free, Fresh, Waiting, Active}
use Rattle.model.specs.FarmSheet.{FarmSheet, stranger}
use Rattle.model.specs.Row.{row_at, active_as}
use Rattle.model.specs.Farm.{Farm}
use Rattle.model.specs.Line.{is_marked, is_asked}
use Rattle.model.specs.Rule.{times}
use Rattle.model.specs.RuleTest.{possible_at, tidy_at, is_boundary}
use Rattle.row_tests.specs.Tester.{tester_in}

-- what rule 4 looks at of the sheet: the site's three numbers, how many rows the farm owns, who is its tester. What it does not look at
-- stands for nothing (SameRule, of the model's laws, carries what is said here to the whole sheet)
unfoldable pub rule_sheet : List ℕ → ℕ → Site → ℕ → FarmSheet
rule_sheet s f site rows =
    record {
      entity = site.entity;
      quota = site.quota;
      first = site.first;
      rows = rows;
      tester = tester_in s f;
      target = λ a. stranger;
      names = [];
    }

-- ---- the test of a seat in the order of the code: what is asked of every row, then by the row's state. An active row is compared with
-- the rows after it only, so that every two rows are compared once: over all seats that is rule 4's own test (proofs/SeatLaws)

abbrev pub free_keeps : Farm → ℕ → Place → Bool
free_keeps f i place = both (is_boundary place) (eqb (times i f.line) 0)

abbrev pub fresh_keeps : ℕ → Farm → ℕ → Clock → Bool
fresh_keeps rows f i age = both (ltb i rows) (both (not (leb initial_limit age.ticks)) (eqb (times i f.line) 0))

abbrev pub waiting_keeps : (ℕ → Bool) → ℕ → Farm → ℕ → Place → Request → Bool
waiting_keeps tester rows f i place q =
    both (ltb i rows) (both (is_boundary place) (both (leb q.kind 1) (both (eqb (times i f.line) 1) (tester q.address))))

abbrev pub active_keeps : (ℕ → Bool) → ℕ → Farm → ℕ → ℕ → Clock → Bool
active_keeps tester rows f i a idle =
    both (ltb i rows)
    (both (not (leb general_limit idle.ticks))
    (both (eqb (times i f.line) 0) (both (tester a) (not (some (active_as a) (drop (i + 1) f.rows))))))

abbrev pub state_keeps : (ℕ → Bool) → ℕ → Farm → ℕ → Place → RowState → Bool
state_keeps tester rows f i place Free = free_keeps f i place
state_keeps tester rows f i place (Fresh age) = fresh_keeps rows f i age
state_keeps tester rows f i place (Waiting q) = waiting_keeps tester rows f i place q
state_keeps tester rows f i place (Active a idle) = active_keeps tester rows f i a idle

unfoldable pub seat_test : FarmSheet → Farm → ℕ → Bool
seat_test own f i =
    both (possible_at (row_at f.rows i).place (row_at f.rows i).head)
    (both (tidy_at (row_at f.rows i).place (row_at f.rows i).head)
    (both (either (not (is_marked f.marks i)) (is_asked own f i))
    (state_keeps own.tester own.rows f i (row_at f.rows i).place (row_at f.rows i).state)))
