-- Rule 4 as a test: it says the same as the record (proofs/RuleTestLaws).
-- Assumes nothing: these are definitions.
use Rattle.std.specs.Prelude.{ℕ, ◌-◌, Bool, true, false, not, List, [], ◌∷◌, eqb, leb, ltb, length, drop, replicate, Result, Ok, Err}
use Rattle.octets.specs.Choice.{both, either, one}
use Rattle.octets.specs.Fold.{up_to}
use Rattle.octets.specs.Search.{count_if, all, same_list}
use Rattle.kinds.specs.declared.Fault.{Fault}
use Rattle.kinds.specs.declared.Fault.TheVariants.{Pattern, UnknownType, TooLong, WrongLength}
use Rattle.kinds.specs.declared.RowState.{RowState}
use Rattle.kinds.specs.declared.RowState.TheVariants.{Free, Fresh, Waiting, Active}
use Rattle.kinds.specs.declared.Place.{Place}
use Rattle.kinds.specs.declared.Place.TheVariants.{Header, Reading, Skipping}
use Rattle.kinds.specs.declared.Row.{Row}
use Rattle.kinds.specs.declared.HeadVerdict.{HeadVerdict}
use Rattle.kinds.specs.declared.HeadVerdict.TheVariants.{Pending, Answer, RunOut}
use Rattle.wire.specs.Header.{header_size, header_at, verdict_of}
use Rattle.model.specs.FarmSheet.{FarmSheet}
use Rattle.kinds.specs.Clock.{check_limit}
use Rattle.model.specs.Row.{row_at, is_free, is_open, is_waiting, is_active, active_as, at_limit}
use Rattle.model.specs.Farm.{Farm, seat_count}
use Rattle.model.specs.Line.{is_marked, is_asked, head_verdict}
use Rattle.model.specs.Rule.{times}

-- the test holds of each seat
unfoldable pub every_seat : (ℕ → Bool) → Bool
every_seat p = up_to (λ i ok. both ok (p i)) true seat_count

abbrev pub passes : Result Unit Fault → Bool
passes (Ok tt) = true
passes (Err fault) = false

abbrev pub is_skip_fault : Fault → Bool
is_skip_fault Pattern = false
is_skip_fault UnknownType = true
is_skip_fault TooLong = true
is_skip_fault WrongLength = false

abbrev pub is_skipped : Result Unit Fault → Bool
is_skipped (Ok tt) = false
is_skipped (Err fault) = is_skip_fault fault

abbrev pub possible_at : Place → List ℕ → Bool
possible_at (Header n) head = ltb n header_size
possible_at (Reading n) head = both (ltb n (header_at head 0).length) (passes (verdict_of (header_at head 0)))
possible_at (Skipping n) head = both (ltb n (header_at head 0).length) (is_skipped (verdict_of (header_at head 0)))

abbrev pub is_boundary : Place → Bool
is_boundary (Header n) = eqb n 0
is_boundary (Reading n) = false
is_boundary (Skipping n) = false

abbrev pub tidy_at : Place → List ℕ → Bool
tidy_at (Header n) head = same_list (drop n head) (replicate (header_size - n) 0)
tidy_at (Reading n) head = true
tidy_at (Skipping n) head = true

abbrev pub is_tidy : Row → Bool
is_tidy r =
    both (eqb (length r.head) header_size)
    (both (tidy_at r.place r.head) (either (not (is_free r)) (is_boundary r.place)))

abbrev pub row_keeps : FarmSheet → Row → RowState → Bool
row_keeps own r Free = true
row_keeps own r (Fresh age) = true
row_keeps own r (Waiting q) = both (is_boundary r.place) (both (own.tester q.address) (leb q.kind 1))
row_keeps own r (Active a idle) = own.tester a

abbrev pub active_once_by : List Row → RowState → Bool
active_once_by rows Free = true
active_once_by rows (Fresh age) = true
active_once_by rows (Waiting q) = true
active_once_by rows (Active a idle) = leb (count_if (active_as a) rows) 1

abbrev pub is_pending : HeadVerdict → Bool
is_pending Pending = true
is_pending (Answer code) = false
is_pending (RunOut check) = false

abbrev pub head_keeps : FarmSheet → Farm → List ℕ → Bool
head_keeps own f [] = eqb f.clock.ticks 0
head_keeps own f (head ∷ rest) = is_pending (head_verdict own f head)

-- all that is asked of one seat
abbrev pub seat_keeps : FarmSheet → Farm → ℕ → Bool
seat_keeps own f i =
    both (either (ltb i own.rows) (not (is_open (row_at f.rows i))))
    (both (row_keeps own (row_at f.rows i) (row_at f.rows i).state)
    (both (active_once_by f.rows (row_at f.rows i).state)
    (both (eqb (times i f.line) (one (is_waiting (row_at f.rows i))))
    (both (not (at_limit (row_at f.rows i)))
    (both (either (not (is_marked f.marks i)) (is_asked own f i))
    (both (possible_at (row_at f.rows i).place (row_at f.rows i).head) (is_tidy (row_at f.rows i))))))))

unfoldable pub good_farm : FarmSheet → Farm → Bool
good_farm own f =
    both (both (eqb (length f.rows) seat_count) (eqb (length f.marks) seat_count))
    (both (every_seat (seat_keeps own f))
    (both (leb (count_if is_active f.rows) own.quota)
    (both (all (λ x. ltb x seat_count) f.line)
    (both (head_keeps own f f.line) (ltb f.clock.ticks check_limit)))))
