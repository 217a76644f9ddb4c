-- Wrong cores that are shut out (document 01, "What the regulator reads"): one that always refuses, and one that always says 10. (One that
-- does nothing is shut out by the bound; one that decides on joining by two days with one beginning: crate days_further.)
-- Assumes nothing.
use Rattle.std.proofs.Common.{Option, Some, None}
use Prim.Native.Nat.{ℕ, zero, suc, ◌+◌, ◌≤◌, ◌<◌}
use mathlib.Core.Path.{◌≡◌, refl, sym, ap, ◌∙◌}
use mathlib.Core.Bool.{Bool, true, false, false≢true}
use mathlib.Core.List.{List, [], ◌∷◌}
use native.Mathlib.Omega.{arith}
use lib.Dec.{eqb, leb, ltb}
use lib.ListN.{length, get_or, take, replicate, length-replicate}
use borrow.Author.Tests.{lt-ltb, le-leb, eq-eqb}
use Rattle.octets.specs.Choice.{both, either, one}
use Rattle.octets.specs.Fold.{up_to}
use Rattle.octets.specs.Search.{first_at, count_if, all, same_list}
use Rattle.kinds.specs.declared.Request.{Request}
use Rattle.kinds.specs.declared.Clock.{Clock}
use Rattle.kinds.specs.declared.Row.{Row}
use Rattle.kinds.specs.declared.RowState.{RowState}
use Rattle.kinds.specs.declared.RowState.TheVariants.{Free, Fresh, Waiting, Active}
use Rattle.kinds.specs.declared.Reply.{Reply}
use Rattle.kinds.specs.declared.Reply.TheVariants.{Nack, Identity, Activation, AliveCheck, Status, PowerMode, Message, Ack, DiagnosticNack, Close, HandOn}
use Rattle.sheet.specs.Sheet.{farm_count}
use Rattle.sheet.specs.Rows.{first_row}
use Rattle.sheet.specs.Test.{good_sheet}
use Rattle.model.specs.FarmSheet.{FarmSheet, farm_sheet, slot_sheet}
use Rattle.kinds.specs.Clock.{check_limit}
use Rattle.model.specs.Row.{no_head, free_row, row_at, is_free, is_active, is_active_state, active_as, heard_state}
use Rattle.model.specs.Farm.{Farm, seat_count, new_farm, and_then, says, closed}
use Rattle.model.specs.Line.{by_holder, socket_rules, by_state, decide, answered}
use Rattle.model.specs.Bytes.{decided_by, requested}
use Rattle.model.specs.Move.{Held, connected_at, connects, move}
use Rattle.model.specs.RuleTest.{every_seat, seat_keeps, good_farm}
use Rattle.model.specs.Table.{slot, good_from, good_table, connect_to, Lent, least_output, assembling_size, whose, step, number_of, row_of}
use Rattle.model.specs.History.{fresh}
use Rattle.model.proofs.Cases.{split}
use Rattle.model.proofs.Codes.{zero-refuses}
use Rattle.model.proofs.HandOnNone.{said, none-joined}

-- ---- a fresh table keeps the rules

either-yes : (b : Bool) → either b true ≡ true
either-yes true = refl
either-yes false = refl

each_of : (p : ℕ → Bool) → ((i : ℕ) → p i ≡ true) → (n : ℕ) → up_to (λ i ok. both ok (p i)) true n ≡ true
unfolding up_to
each_of p k zero = refl
each_of p k (suc n) = rw (each_of p k n) (k n)

-- past its end too, a list of one thing is that thing
get_same : {A : Type 0} (n i : ℕ) (x : A) → get_or (replicate n x) i x ≡ x
get_same zero i x = refl
get_same (suc n) zero x = refl
get_same (suc n) (suc i) x = get_same n i x

count_none : {A : Type 0} (p : A → Bool) (x : A) → p x ≡ false → (n : ℕ) → count_if p (replicate n x) ≡ 0
unfolding count_if
count_none p x e zero = refl
count_none p x e (suc n) = let z : one (p x) ≡ 0 = ap one e in omega (arith, count_none p x e n)

clock_starts : ltb 0 check_limit ≡ true
unfolding check_limit
clock_starts = refl

new_seat : (own : FarmSheet) (i : ℕ) → seat_keeps own new_farm i ≡ true
unfolding new_farm count_if no_head same_list
new_seat own i = rw (get_same seat_count i free_row, get_same seat_count i false, either-yes (ltb i own.rows)) refl

new_keeps : (own : FarmSheet) → good_farm own new_farm ≡ true
unfolding good_farm new_farm every_seat all
new_keeps own =
    let rows : eqb (length (replicate seat_count free_row)) seat_count ≡ true = eq-eqb _ _ (length-replicate seat_count free_row) in
    let marks : eqb (length (replicate seat_count false)) seat_count ≡ true = eq-eqb _ _ (length-replicate seat_count false) in
    let seats : every_seat (seat_keeps own new_farm) ≡ true = each_of (seat_keeps own new_farm) (new_seat own) seat_count in
    let places : leb (count_if is_active (replicate seat_count free_row)) own.quota ≡ true =
    le-leb (count_if is_active (replicate seat_count free_row)) own.quota (omega (arith, count_none is_active free_row refl seat_count)) in
    rw (rows, marks, seats, places) clock_starts

fresh_keeps_lem : (s : List ℕ) (f : ℕ) (rooms : List (List (List ℕ))) → good_from s f (fresh rooms) ≡ true
fresh_keeps_lem s f [] = refl
fresh_keeps_lem s f (r ∷ rooms) = rw (new_keeps (slot_sheet s f)) (fresh_keeps_lem s (suc f) rooms)

-- ---- "a core that always refuses, by the refusal table's "exactly when""

slot_new : (rooms : List (List (List ℕ))) (f : ℕ) → (slot (fresh rooms) f).farm ≡ new_farm
slot_new [] f = refl
slot_new (r ∷ rooms) zero = refl
slot_new (r ∷ rooms) (suc f) = slot_new rooms f

first_free : (n k : ℕ) → 0 < n → 0 < k → first_at is_free 0 (take n (replicate k free_row)) ≡ Some 0
unfolding first_at
first_free zero k h g = absurd (omega arith)
first_free (suc n) zero h g = absurd (omega arith)
first_free (suc n) (suc k) h g = refl

some_seat : 0 < seat_count
unfolding seat_count
some_seat = omega arith

-- the connect of a farm that has a row, on a new farm
new_connects : (own : FarmSheet) (h : Held) → h.farm ≡ new_farm → 0 < own.rows → connects own h ≡ connected_at own h (Some 0)
unfolding connects new_farm
new_connects own h e r = rw (e, first_free own.rows seat_count r some_seat) refl

slot-farm : (s : List ℕ) (f : ℕ) → f < farm_count s → slot_sheet s f ≡ farm_sheet s f
unfolding slot_sheet
slot-farm s f h = rw (lt-ltb f (farm_count s) h) refl

farm-rows : (s : List ℕ) (f : ℕ) → 0 < (farm_sheet s f).rows
unfolding farm_sheet
farm-rows s f = omega arith

farm-first : (s : List ℕ) (f : ℕ) → (farm_sheet s f).first + 0 ≡ first_row s f
unfolding farm_sheet
farm-first s f = omega arith

-- ALWAYS REFUSES is shut out: under a good sheet, with buffers as they should be, a fresh table accepts a connect to each of the sheet's
-- farms, and opens the first of its rows.
pub fresh-connects : (s : List ℕ) (l : Lent) (rooms : List (List (List ℕ))) (f : ℕ) → good_sheet s ≡ true → least_output ≤ l.output → l.assembling ≡ assembling_size
    → f < farm_count s → (number_of (step s l (fresh rooms) (connect_to f)) ≡ 0) × (row_of (step s l (fresh rooms) (connect_to f)) ≡ first_row s f)
unfolding step good_table whose move
fresh-connects s l rooms f sheet output assembling h =
    rw (sheet, le-leb least_output l.output output, eq-eqb l.assembling assembling_size assembling, fresh_keeps_lem s 0 rooms, lt-ltb f (farm_count s) h)
    (rw (slot-farm s f h, new_connects (farm_sheet s f) (slot (fresh rooms) f) (slot_new rooms f) (farm-rows s f)) (refl, farm-first s f))

-- ---- "one that always says 10, by 00 and the single active address"

-- ALWAYS SAYS 10 is shut out: a request whose address is no tester of the farm gets 00, and its row closes.
pub unknown_gets_00 : (own : FarmSheet) (seat : ℕ) (q : Request) (f : Farm) → own.tester q.address ≡ false
    → (requested own seat q f).items ≡ says own seat (Activation q.address own.entity 0x00) ∷ says own seat Close ∷ []
unfolding requested decide answered and_then closed
unknown_gets_00 own seat q f e = rw (e, zero-refuses) refl

-- an answer to a request
abbrev pub is_answer : Reply → Bool
is_answer (Nack c) = false
is_answer Identity = false
is_answer (Activation a e c) = true
is_answer AliveCheck = false
is_answer (Status q o) = false
is_answer (PowerMode m) = false
is_answer (Message k t) = false
is_answer (Ack t s c) = false
is_answer (DiagnosticNack t s c) = false
is_answer Close = false
is_answer HandOn = false

-- a search finds what is there
first_some : (p : Row → Bool) → p free_row ≡ false → (rows : List Row) (k i : ℕ) → p (row_at rows i) ≡ true → first_at p k rows ≡ None → ⊥
unfolding first_at
first_some p n [] k i e = λ z. false≢true (sym n ∙ e)
first_some p n (r ∷ rows) k zero e = rw e (λ z. let c : ◌≡◌ {A = ℕ} 0 1 = cc in omega arith)
first_some p n (r ∷ rows) k (suc i) e =
    split (p r) (λ t. rw t (λ z. let c : ◌≡◌ {A = ℕ} 0 1 = cc in omega arith)) (λ t. rw t (λ z. first_some p n rows (suc k) i e z))

-- A request for an address that is active on another row gets no answer at once: nobody is told 10 before the check is over.
pub taken-is-not-answered : (own : FarmSheet) (seat holder : ℕ) (q : Request) (f : Farm) → own.tester q.address ≡ true → q.kind ≤ 1
    → is_active (row_at f.rows seat) ≡ false → active_as q.address (row_at f.rows holder) ≡ true → said is_answer (requested own seat q f).items ≡ 0
unfolding requested decide socket_rules
taken-is-not-answered own seat holder q f known kind idle held = rw (known, le-leb q.kind 1 kind) (by (row_at f.rows seat).state idle)
  where
    found : (x : Option ℕ) → first_at (active_as q.address) 0 f.rows ≡ x → said is_answer (decided_by own seat q (by_holder own f.rows x) f).items ≡ 0
    found (Some k) e = none-joined is_answer refl own seat q f
    found None e = absurd (first_some (active_as q.address) refl f.rows 0 holder held e)

    by : (st : RowState) → is_active_state st ≡ false → said is_answer (decided_by own seat q (by_state own f.rows q.address st) f).items ≡ 0
    by Free e = found (first_at (active_as q.address) 0 f.rows) refl
    by (Fresh age) e = found (first_at (active_as q.address) 0 f.rows) refl
    by (Waiting w) e = found (first_at (active_as q.address) 0 f.rows) refl
    by (Active a c) e = absurd (false≢true (sym e))

-- "A fresh row's age counts from connect": no byte that it sends makes it younger
pub age_from-connect : (n : ℕ) (age : Clock) → heard_state n (Fresh age) ≡ Fresh age
age_from-connect n age = refl
