-- What rule 4 asks of a farm's rows, without the line and the clocks: how it is kept where one row is replaced by another.
-- Assumes nothing.
use Prim.Native.Nat.{ℕ, ◌+◌, ◌≤◌, ◌<◌}
use mathlib.Core.Path.{◌≡◌, refl, sym, ap, subst, ◌∙◌}
use mathlib.Core.Bool.{Bool, true, false, false≢true, true≢false}
use mathlib.Core.List.{List, ◌∷◌}
use native.Mathlib.Omega.{arith}
use lib.Dec.{eqb, ltb}
use lib.ListN.{set, length, length-set}
use borrow.Author.Tests.{ltb-true, ltb-false, eq-eqb, ne_eqb}
use Rattle.octets.specs.Choice.{one}
use Rattle.octets.specs.Search.{count_if}
use Rattle.kinds.specs.declared.RowState.{RowState}
use Rattle.kinds.specs.declared.RowState.TheVariants.{Free, Fresh, Waiting, Active}
use Rattle.kinds.specs.declared.Row.{Row}
use Rattle.model.specs.FarmSheet.{FarmSheet}
use Rattle.kinds.specs.Clock.{initial_limit, general_limit}
use Rattle.model.specs.Row.{free_row, fresh_row, active_row, row_at, is_open_state, is_open, is_waiting_state, is_waiting, is_active_state, is_active, active_as_state, active_as, wanted_by, at_limit_state, at_limit}
use Rattle.model.specs.Farm.{Farm, seat_count}
use Rattle.model.specs.Rule.{times, PossibleAt, RowKeeps}
use Rattle.model.proofs.Cases.{split}
use Rattle.model.proofs.Rows.{row_put, row-set, count_set, count_free}
use Rattle.model.proofs.RuleParts.{Sound}

-- ---- Sound in four parts

pub record Kept (own : FarmSheet) (rows : List Row) : Type 0 where
  pub seats : length rows ≡ seat_count
  pub within : (i : ℕ) → own.rows ≤ i → is_open (row_at rows i) ≡ false
  pub rows_keep : (i : ℕ) → RowKeeps own (row_at rows i) (row_at rows i).state
  pub active_once : (a : ℕ) → count_if (active_as a) rows ≤ 1
  pub places_left : count_if is_active rows ≤ own.quota
  pub possible : (i : ℕ) → PossibleAt (row_at rows i).place (row_at rows i).head

-- each waiting row once, and no other
abbrev pub Lined : List Row → List ℕ → Type 0
Lined rows line = (i : ℕ) → times i line ≡ one (is_waiting (row_at rows i))

abbrev pub Young : List Row → Type 0
Young rows = (i : ℕ) → at_limit (row_at rows i) ≡ false

pub kept_of : {own : FarmSheet} {f : Farm} → Sound own f → Kept own f.rows
kept_of s =
    record { seats = s.seats; within = s.within; rows_keep = s.rows_keep; active_once = s.active_once; places_left = s.places_left; possible = s.possible }

pub sound_from : {own : FarmSheet} {f : Farm} → Kept own f.rows → Young f.rows → Lined f.rows f.line → length f.marks ≡ seat_count → Sound own f
sound_from k y l m =
    record {
      seats = k.seats;
      marks_too = m;
      within = k.within;
      rows_keep = k.rows_keep;
      active_once = k.active_once;
      places_left = k.places_left;
      lined = l;
      young = y;
      possible = k.possible;
    }

-- ---- tests as numbers

pub one-true : (b : Bool) → one b ≡ 1 → b ≡ true
one-true true e = refl
one-true false e = absurd (omega arith)

pub one-small : (b : Bool) → one b ≤ 1
one-small true = omega arith
one-small false = omega arith

-- ---- what a row is, by its state

pub waiting_open : (s : RowState) → is_waiting_state s ≡ true → is_open_state s ≡ true
waiting_open Free e = e
waiting_open (Fresh c) e = refl
waiting_open (Waiting q) e = refl
waiting_open (Active a c) e = refl

pub active_open : (s : RowState) → is_active_state s ≡ true → is_open_state s ≡ true
active_open Free e = e
active_open (Fresh c) e = refl
active_open (Waiting q) e = refl
active_open (Active a c) e = refl

pub as_active : (a : ℕ) (s : RowState) → active_as_state a s ≡ true → is_active_state s ≡ true
as_active a Free e = e
as_active a (Fresh c) e = e
as_active a (Waiting q) e = e
as_active a (Active b c) e = refl

pub active_loud : (s : RowState) → is_active_state s ≡ true → is_waiting_state s ≡ false
active_loud Free e = refl
active_loud (Fresh c) e = refl
active_loud (Waiting q) e = absurd (false≢true e)
active_loud (Active a c) e = refl

pub limit_loud : (s : RowState) → at_limit_state s ≡ true → is_waiting_state s ≡ false
limit_loud Free e = refl
limit_loud (Fresh c) e = refl
limit_loud (Waiting q) e = absurd (false≢true e)
limit_loud (Active a c) e = refl

pub limit_open : (s : RowState) → at_limit_state s ≡ true → is_open_state s ≡ true
limit_open Free e = e
limit_open (Fresh c) e = refl
limit_open (Waiting q) e = refl
limit_open (Active a c) e = refl

pub shut_loud : (s : RowState) → is_open_state s ≡ false → is_waiting_state s ≡ false
shut_loud Free e = refl
shut_loud (Fresh c) e = absurd (true≢false e)
shut_loud (Waiting q) e = absurd (true≢false e)
shut_loud (Active a c) e = refl

-- a waiting row is not active, and asks for a tester's address
pub waiting_not : (s : RowState) → is_waiting_state s ≡ true → is_active_state s ≡ false
waiting_not Free e = refl
waiting_not (Fresh c) e = refl
waiting_not (Waiting q) e = refl
waiting_not (Active a c) e = absurd (false≢true e)

pub wanted-tester : (own : FarmSheet) (r : Row) (s : RowState) → is_waiting_state s ≡ true → RowKeeps own r s → own.tester (wanted_by s) ≡ true
wanted-tester own r Free e k = absurd (false≢true e)
wanted-tester own r (Fresh c) e k = absurd (false≢true e)
wanted-tester own r (Waiting q) e k = k.1
wanted-tester own r (Active a c) e k = absurd (false≢true e)

-- a new row has no age
pub fresh-young : at_limit fresh_row ≡ false
unfolding initial_limit
fresh-young = refl

pub active_young : (a : ℕ) → at_limit (active_row a) ≡ false
unfolding general_limit
active_young a = refl

-- ---- an open row is one of the farm's

pub ours : {own : FarmSheet} {rows : List Row} → Kept own rows → (i : ℕ) → is_open (row_at rows i) ≡ true → i < own.rows
ours {own} {rows} k i e =
    split (ltb i own.rows) (λ t. ltb-true i own.rows t) (λ t. absurd (true≢false (sym e ∙ k.within i (ltb-false i own.rows t))))

-- ---- one row is replaced

pub record Fits (own : FarmSheet) (rows : List Row) (r : ℕ) (x : Row) : Type 0 where
  pub inside : r < length rows
  pub mine : own.rows ≤ r → is_open x ≡ false
  pub keeps : RowKeeps own x x.state
  pub once : (a : ℕ) → count_if (active_as a) rows + one (active_as a x) ≤ 1 + one (active_as a (row_at rows r))
  pub places : count_if is_active rows + one (is_active x) ≤ own.quota + one (is_active (row_at rows r))
  pub can : PossibleAt x.place x.head

pub put-kept : {own : FarmSheet} {rows : List Row} {r : ℕ} {x : Row} → Kept own rows → Fits own rows r x → Kept own (set rows r x)
put-kept {own} {rows} {r} {x} k t =
    record {
      seats = length-set rows r x ∙ k.seats;
      within = λ i h. row_put rows r i x t.inside (λ y. is_open y ≡ false) (λ e. t.mine (omega arith)) (λ n. k.within i h);
      rows_keep = λ i. row-set rows r i x (λ y. RowKeeps own y y.state) (λ _ _. t.keeps) (k.rows_keep i);
      active_once = λ a. omega (arith, count_set (active_as a) rows r x t.inside, t.once a);
      places_left = omega (arith, count_set is_active rows r x t.inside, t.places);
      possible = λ i. row-set rows r i x (λ y. PossibleAt y.place y.head) (λ _ _. t.can) (k.possible i);
    }

-- freeing keeps it wherever it is done
pub free_kept : {own : FarmSheet} {rows : List Row} → (r : ℕ) → Kept own rows → Kept own (set rows r free_row)
free_kept {own} {rows} r k =
    record {
      seats = length-set rows r free_row ∙ k.seats;
      within = λ i h. row-set rows r i free_row (λ y. is_open y ≡ false) (λ _ _. refl) (k.within i h);
      rows_keep = λ i. row-set rows r i free_row (λ y. RowKeeps own y y.state) (λ _ _. tt) (k.rows_keep i);
      active_once = λ a. omega (arith, count_free (active_as a) refl rows r, k.active_once a);
      places_left = omega (arith, count_free is_active refl rows r, k.places_left);
      possible = λ i. row-set rows r i free_row (λ y. PossibleAt y.place y.head) (λ _ _. omega arith) (k.possible i);
    }

pub free_young : (rows : List Row) (r : ℕ) → Young rows → Young (set rows r free_row)
free_young rows r y i = row-set rows r i free_row (λ z. at_limit z ≡ false) (λ _ _. refl) (y i)

pub put-young : (rows : List Row) (r : ℕ) (x : Row) → at_limit x ≡ false → Young rows → Young (set rows r x)
put-young rows r x e y i = row-set rows r i x (λ z. at_limit z ≡ false) (λ _ _. e) (y i)

-- the line with it: only the row's own place in the line may change
pub put-lined : (rows : List Row) (line : List ℕ) (r : ℕ) (x : Row) (next : List ℕ) → r < length rows
    → times r next ≡ one (is_waiting x) → ((i : ℕ) → (i ≡ r → ⊥) → times i next ≡ times i line) → Lined rows line → Lined (set rows r x) next
put-lined rows line r x next inside here there l i =
    row_put rows r i x inside (λ y. times i next ≡ one (is_waiting y)) (λ e. rw e here) (λ n. there i n ∙ l i)

-- a row that does not wait is freed: the line is as it was
pub free_lined : (rows : List Row) (line : List ℕ) (r : ℕ) → is_waiting (row_at rows r) ≡ false → Lined rows line → Lined (set rows r free_row) line
free_lined rows line r e l i =
    row-set rows r i free_row (λ y. times i line ≡ one (is_waiting y)) (λ p _. l i ∙ ap one (subst (λ k. is_waiting (row_at rows k) ≡ false) (sym p) e)) (l i)

-- ---- the line's head

pub head-waits : (rows : List Row) (head : ℕ) (rest : List ℕ) → Lined rows (head ∷ rest) → is_waiting (row_at rows head) ≡ true
unfolding count_if
head-waits rows head rest l =
    one-true (is_waiting (row_at rows head))
    (let t : one (eqb head head) ≡ 1 = ap one (eq-eqb head head refl) in omega (arith, l head, one-small (is_waiting (row_at rows head))))

-- where the head's row no longer waits, the rest is the line
pub head_gone : (rows : List Row) (head : ℕ) (rest : List ℕ) (x : Row) → head < length rows → is_waiting x ≡ false → Lined rows (head ∷ rest)
    → Lined (set rows head x) rest
unfolding count_if
head_gone rows head rest x inside e l =
    put-lined rows (head ∷ rest) head x rest inside
    (let t : one (eqb head head) ≡ 1 = ap one (eq-eqb head head refl) in
    let z : one (is_waiting x) ≡ 0 = ap one e in omega (arith, l head, one-small (is_waiting (row_at rows head))))
    (λ i n. let t : one (eqb i head) ≡ 0 = ap one (ne_eqb i head n) in omega arith) l
