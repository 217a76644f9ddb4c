-- "Activation (001, 12.5 and 12.6)": what a request gets, and how a farm's line is settled.
-- Assumes nothing: these are definitions.
use Rattle.std.specs.Prelude.{ℕ, Bool, true, false, List, [], ◌∷◌, ◌++◌, eqb, leb, get_or, set, Option, Some, None}
use Rattle.octets.specs.Choice.{pick, both, unless}
use Rattle.octets.specs.Search.{first_at, count_if}
use Rattle.octets.specs.Fold.{up_to}
use Rattle.kinds.specs.declared.Request.{Request}
use Rattle.kinds.specs.declared.RowState.{RowState}
use Rattle.kinds.specs.declared.RowState.TheVariants.{Free, Fresh, Waiting, Active}
use Rattle.kinds.specs.declared.Row.{Row}
use Rattle.kinds.specs.declared.Check.{Check}
use Rattle.kinds.specs.declared.Check.TheVariants.{One, All}
use Rattle.kinds.specs.declared.Decision.{Decision}
use Rattle.kinds.specs.declared.Decision.TheVariants.{Now, Ask}
use Rattle.kinds.specs.declared.HeadVerdict.{HeadVerdict}
use Rattle.kinds.specs.declared.HeadVerdict.TheVariants.{Pending, Answer, RunOut}
use Rattle.kinds.specs.declared.Reply.TheVariants.{Activation, AliveCheck}
use Rattle.model.specs.FarmSheet.{FarmSheet}
use Rattle.kinds.specs.Clock.{clock_of, check_limit}
use Rattle.model.specs.Row.{row_at, waiting_row, active_row, is_active, active_as, wanted}
use Rattle.model.specs.Farm.{Farm, seat_count, no_marks, with_row, with_line, with_clock, with_marks, Done, does, quietly, and_then, each_seat, says, closed, closed_where}

-- ---- the decision

-- "10"; "All codes but 10 close the row."
unfoldable pub accepted : ℕ
accepted = 0x10

-- "q rows active: a check of all active rows of the farm. - else 10, and the row is active with idle 0."
abbrev pub by_places : FarmSheet → List Row → Decision
by_places own rows = pick (leb own.quota (count_if is_active rows)) (Ask All) (Now accepted)

abbrev pub by_holder : FarmSheet → List Row → Option ℕ → Decision
by_holder own rows (Some seat) = Ask (One seat)
by_holder own rows None = by_places own rows

-- "address active on another row of the farm: a check of that row." The rules for a row that is not active
unfoldable pub socket_rules : FarmSheet → List Row → ℕ → Decision
socket_rules own rows address = by_holder own rows (first_at (active_as address) 0 rows)

-- "row already active: 10 if the same address, else 02."
abbrev pub by_state : FarmSheet → List Row → ℕ → RowState → Decision
by_state own rows address Free = socket_rules own rows address
by_state own rows address (Fresh age) = socket_rules own rows address
by_state own rows address (Waiting q) = socket_rules own rows address
by_state own rows address (Active a idle) = pick (eqb a address) (Now accepted) (Now 0x02)

-- "Decided in this order: - 00: not a tester of this farm. 06: type other than 00 or 01. .."
unfoldable pub decide : FarmSheet → List Row → ℕ → Request → Decision
decide own rows seat q =
    unless (own.tester q.address) (Now 0x00)
    (unless (leb q.kind 1) (Now 0x06) (by_state own rows q.address (row_at rows seat).state))

-- ---- checks

-- the check asks the row with this seat
abbrev pub asks : Check → ℕ → Row → Bool
asks (One s) seat r = eqb seat s
asks All seat r = is_active r

abbrev pub is_marked : List Bool → ℕ → Bool
is_marked marks seat = get_or marks seat false

-- an asked row that has not answered
abbrev pub is_silent : Check → List Bool → ℕ → Row → Bool
is_silent check marks seat r = pick (is_marked marks seat) false (asks check seat r)

-- "all asked rows answered"
unfoldable pub all_answered : Check → List Bool → List Row → Bool
all_answered check marks rows = up_to (λ i ok. pick (is_silent check marks i (row_at rows i)) false ok) true seat_count

-- "03 (check of that row) or 01 (check of all)"
abbrev pub refusal_of : Check → ℕ
refusal_of (One s) = 0x03
refusal_of All = 0x01

-- "sends 0007 (empty) to the asked rows, lowest first"
unfoldable pub asked_if : FarmSheet → Check → ℕ → Farm → Done
asked_if own check seat f = pick (asks check seat (row_at f.rows seat)) (does f (says own seat AliveCheck ∷ [])) (quietly f)

abbrev pub asking : FarmSheet → Decision → Farm → Done
asking own (Now code) f = quietly f
asking own (Ask check) f = each_seat (asked_if own check) f

-- "Starting one sets the clock to 0, clears the marks"; "An empty line has clock 0 and no marks."
abbrev pub cleared : Farm → Farm
cleared f = with_marks (with_clock f (clock_of 0)) no_marks

-- the line's head has just come up: its check starts, if it needs one
abbrev pub started_by : FarmSheet → List ℕ → Farm → Done
started_by own [] f = quietly (cleared f)
started_by own (head ∷ rest) f = asking own (socket_rules own f.rows (wanted (row_at f.rows head))) (cleared f)

unfoldable pub started : FarmSheet → Farm → Done
started own f = started_by own f.line f

-- the line goes on with the rest
unfoldable pub advanced : FarmSheet → List ℕ → Farm → Done
advanced own rest f = started own (with_line f rest)

-- ---- answers: "Response 0006: address, entity address, code, four zeros."

unfoldable pub answered : FarmSheet → ℕ → ℕ → ℕ → Farm → Done
answered own seat address code f =
    pick (eqb code accepted)
    (does (with_row f seat (active_row address)) (says own seat (Activation address own.entity code) ∷ []))
    (and_then (does f (says own seat (Activation address own.entity code) ∷ [])) (closed own seat))

-- ---- settling: "After any change the line is settled"

-- "the head is decided afresh; if it needs no check, it has its answer. If all asked rows answered: 03 .. or 01 .. If the clock is 50:
-- unanswered asked rows close, then 10."
abbrev pub verdict_by : Farm → Decision → HeadVerdict
verdict_by f (Now code) = Answer code
verdict_by f (Ask check) =
    pick (all_answered check f.marks f.rows) (Answer (refusal_of check))
    (pick (leb check_limit f.clock.ticks) (RunOut check) Pending)

unfoldable pub head_verdict : FarmSheet → Farm → ℕ → HeadVerdict
head_verdict own f head = verdict_by f (socket_rules own f.rows (wanted (row_at f.rows head)))

-- what the head's verdict does; `next` settles the rest of the line
abbrev pub serve : FarmSheet → ℕ → List ℕ → Farm → HeadVerdict → (Farm → Done) → Done
serve own head rest f Pending next = quietly f
serve own head rest f (Answer code) next =
    and_then (and_then (answered own head (wanted (row_at f.rows head)) code f) (advanced own rest)) next
serve own head rest f (RunOut check) next =
    and_then
    (and_then
    (and_then (closed_where own (is_silent check f.marks) f) (answered own head (wanted (row_at f.rows head)) accepted))
    (advanced own rest))
    next

-- "Settling one waiter brings up the next, whose settling may do the same."
unfoldable pub settle_line : FarmSheet → List ℕ → Farm → Done
settle_line own [] f = quietly f
settle_line own (head ∷ rest) f = serve own head rest f (head_verdict own f head) (settle_line own rest)

abbrev pub settle : FarmSheet → Farm → Done
settle own f = settle_line own f.line f

-- ---- joining, leaving, marking

abbrev pub is_empty : List ℕ → Bool
is_empty [] = true
is_empty (x ∷ l) = false

-- "A request that needs a check joins the end of its farm's line, the head being place 1; only the head's check runs."
unfoldable pub joined : FarmSheet → ℕ → Request → Farm → Done
joined own seat q f =
    let g : Farm = with_line (with_row f seat (waiting_row q)) (f.line ++ (seat ∷ [])) in
    pick (is_empty f.line) (started own g) (quietly g)

abbrev pub without : ℕ → List ℕ → List ℕ
without x [] = []
without x (y ∷ l) = pick (eqb x y) (without x l) (y ∷ without x l)

-- "A waiter whose row closes leaves the line; if it was the head, the next is head."
abbrev pub left_by : FarmSheet → ℕ → List ℕ → Farm → Done
left_by own seat [] f = quietly f
left_by own seat (head ∷ rest) f = pick (eqb seat head) (advanced own rest f) (quietly (with_line f (head ∷ without seat rest)))

unfoldable pub left : FarmSheet → ℕ → Farm → Done
left own seat f = left_by own seat f.line f

-- the running check has asked the row with this seat
abbrev pub asked_by : Decision → ℕ → Row → Bool
asked_by (Now code) seat r = false
asked_by (Ask check) seat r = asks check seat r

abbrev pub asked_in : FarmSheet → Farm → List ℕ → ℕ → Bool
asked_in own f [] seat = false
asked_in own f (head ∷ rest) seat =
    asked_by (socket_rules own f.rows (wanted (row_at f.rows head))) seat (row_at f.rows seat)

unfoldable pub is_asked : FarmSheet → Farm → ℕ → Bool
is_asked own f seat = asked_in own f f.line seat

-- "0008 with the row's own address from an asked row marks it; any other 0008 is dropped."
abbrev pub answers_check : FarmSheet → ℕ → ℕ → Farm → Bool
answers_check own seat address f = both (active_as address (row_at f.rows seat)) (is_asked own f seat)

unfoldable pub marked : FarmSheet → ℕ → ℕ → Farm → Farm
marked own seat address f = pick (answers_check own seat address f) (with_marks f (set f.marks seat true)) f
