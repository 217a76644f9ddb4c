-- Rule 4's test says the same as the record `Good`. The test asks only the seats that there are; beyond them every row is free.
-- Assumes nothing.
use Rattle.std.proofs.Common.{Result, Ok, Err}
use Rattle.kinds.specs.declared.Fault.{Fault}
use Prim.{Unit}
use Prim.Native.Nat.{ℕ, suc, ◌+◌, ◌-◌, ◌≤◌, ◌<◌}
use mathlib.Core.Path.{◌≡◌, refl, sym, ap, subst, ◌∙◌}
use mathlib.Core.Bool.{Bool, true, false}
use mathlib.Core.List.{List, [], ◌∷◌}
use mathlib.Core.Logic.{◌⊎◌, inl, inr, ⊎_elim}
use native.Mathlib.Omega.{arith}
use lib.Dec.{eqb, ltb}
use lib.ListN.{length, drop, replicate, get_or-eq_default}
use borrow.Author.Tests.{eqb-true, eq-eqb, ne_eqb, ltb-true, ltb-false}
use Rattle.octets.specs.Choice.{one}
use Rattle.octets.specs.Says.{Says}
use Rattle.octets.specs.Search.{count_if, all}
use Rattle.octets.proofs.SaysLaws.{never, says-yes, says_no, says_of}
use Rattle.octets.proofs.ChoiceLaws.{says_both, says-either, says-not, says-true, says_le, says_lt, says_eq}
use Rattle.octets.proofs.FoldLaws.{every_says}
use Rattle.octets.proofs.SearchLaws.{same_says}
use Rattle.kinds.specs.declared.Fault.TheVariants.{Pattern, UnknownType, TooLong, WrongLength}
use Rattle.kinds.specs.declared.RowState.{RowState}
use Rattle.kinds.specs.declared.RowState.TheVariants.{Free, Fresh, Waiting, Active}
use Rattle.kinds.specs.declared.Place.{Place}
use Rattle.kinds.specs.declared.Place.TheVariants.{Header, Reading, Skipping}
use Rattle.kinds.specs.declared.Row.{Row}
use Rattle.kinds.specs.declared.HeadVerdict.{HeadVerdict}
use Rattle.kinds.specs.declared.HeadVerdict.TheVariants.{Pending, Answer, RunOut}
use Rattle.wire.specs.Header.{header_size, header_at, verdict_of, passed}
use Rattle.model.specs.FarmSheet.{FarmSheet}
use Rattle.kinds.specs.Clock.{check_limit}
use Rattle.model.specs.Row.{boundary, free_row, row_at, is_free, is_open, is_waiting, is_active, active_as, active_as_state, at_limit}
use Rattle.model.specs.Farm.{Farm, seat_count}
use Rattle.model.specs.Line.{is_marked, is_asked, head_verdict}
use Rattle.model.specs.Rule.{times, PossibleAt, TidyAt, Tidy, RowKeeps, HeadKeeps, Good}
use Rattle.model.specs.RuleTest.{every_seat, passes, is_skipped, possible_at, is_boundary, tidy_at, is_tidy, row_keeps, active_once_by, is_pending, head_keeps, seat_keeps, good_farm}
use Rattle.model.proofs.Cases.{split}
use Rattle.model.proofs.TidyRows.{tidy-between}
use Rattle.model.proofs.LineRoom.{none_beyond}

-- ---- the parts of a seat's test

differ : {P : Type 0} → ◌≡◌ {A = ℕ} 0 1 → P
differ z = absurd (omega arith)

passes-says : (v : Result Unit Fault) → Says (passes v) (v ≡ passed)
passes-says (Ok tt) = says-yes refl
passes-says (Err fault) = says_no (λ e. differ (cc))

skip_says : (v : Result Unit Fault) → Says (is_skipped v) ((v ≡ Err UnknownType) ⊎ (v ≡ Err TooLong))
skip_says (Ok tt) = says_no (⊎_elim (λ e. differ (cc)) (λ e. differ (cc)))
skip_says (Err Pattern) = says_no (⊎_elim (λ e. differ (cc)) (λ e. differ (cc)))
skip_says (Err UnknownType) = says-yes (inl refl)
skip_says (Err TooLong) = says-yes (inr refl)
skip_says (Err WrongLength) = says_no (⊎_elim (λ e. differ (cc)) (λ e. differ (cc)))

pub possible-says : (p : Place) (head : List ℕ) → Says (possible_at p head) (PossibleAt p head)
possible-says (Header n) head = says_lt n header_size
possible-says (Reading n) head = says_both (says_lt n (header_at head 0).length) (passes-says (verdict_of (header_at head 0)))
possible-says (Skipping n) head = says_both (says_lt n (header_at head 0).length) (skip_says (verdict_of (header_at head 0)))

pub boundary-says : (p : Place) → Says (is_boundary p) (p ≡ boundary)
boundary-says (Header n) = says_of (λ e. ap Header e) (λ e. cc) (says_eq n 0)
boundary-says (Reading n) = says_no (λ e. differ (cc))
boundary-says (Skipping n) = says_no (λ e. differ (cc))

pub unused-says : (p : Place) (head : List ℕ) → Says (tidy_at p head) (TidyAt p head)
unused-says (Header n) head = same_says (drop n head) (replicate (header_size - n) 0)
unused-says (Reading n) head = says-yes tt
unused-says (Skipping n) head = says-yes tt

tidy-says : (r : Row) → Says (is_tidy r) (Tidy r)
tidy-says r =
    says_of
    (λ h. record { eight = h.0; unused = h.1.0; freed = λ e. ⊎_elim (λ n. absurd (never (sym n ∙ e))) (λ p. p) h.1.1 })
    (λ g. (g.eight, (g.unused, split (is_free r) (λ e. inr (g.freed e)) (λ e. inl e))))
    (says_both (says_eq (length r.head) header_size)
    (says_both (unused-says r.place r.head) (says-either (says-not (is_free r)) (boundary-says r.place))))

keeps_says : (own : FarmSheet) (r : Row) (st : RowState) → Says (row_keeps own r st) (RowKeeps own r st)
keeps_says own r Free = says-yes tt
keeps_says own r (Fresh age) = says-yes tt
keeps_says own r (Waiting q) =
    says_of (λ h. (h.0, h.1.0, h.1.1)) (λ h. (h.0, (h.1, h.2)))
    (says_both (boundary-says r.place) (says_both (says-true (own.tester q.address)) (says_le q.kind 1)))
keeps_says own r (Active a idle) = says-true (own.tester a)

-- the address of this row is active once
abbrev pub OnceBy : List Row → RowState → Type 0
OnceBy rows Free = Unit {0}
OnceBy rows (Fresh age) = Unit {0}
OnceBy rows (Waiting q) = Unit {0}
OnceBy rows (Active a idle) = count_if (active_as a) rows ≤ 1

once-says : (rows : List Row) (st : RowState) → Says (active_once_by rows st) (OnceBy rows st)
once-says rows Free = says-yes tt
once-says rows (Fresh age) = says-yes tt
once-says rows (Waiting q) = says-yes tt
once-says rows (Active a idle) = says_le (count_if (active_as a) rows) 1

pending_says : (v : HeadVerdict) → Says (is_pending v) (v ≡ Pending)
pending_says Pending = says-yes refl
pending_says (Answer code) = says_no (λ e. differ (cc))
pending_says (RunOut check) = says_no (λ e. differ (cc))

head-says : (own : FarmSheet) (f : Farm) (line : List ℕ) → Says (head_keeps own f line) (HeadKeeps own f line)
head-says own f [] = says_eq f.clock.ticks 0
head-says own f (head ∷ rest) = pending_says (head_verdict own f head)

-- ---- one seat

-- the row r, that stands at the seat i, keeps the rules
pub record SeatOk (own : FarmSheet) (f : Farm) (i : ℕ) (r : Row) : Type 0 where
  pub within : (i < own.rows) ⊎ (is_open r ≡ false)
  pub keeps : RowKeeps own r r.state
  pub once : OnceBy f.rows r.state
  pub lined : times i f.line ≡ one (is_waiting r)
  pub young : at_limit r ≡ false
  pub asked : (is_marked f.marks i ≡ false) ⊎ (is_asked own f i ≡ true)
  pub possible : PossibleAt r.place r.head
  pub tidy : Tidy r

pub seat_says : (own : FarmSheet) (f : Farm) (i : ℕ) → Says (seat_keeps own f i) (SeatOk own f i (row_at f.rows i))
seat_says own f i =
    let r : Row = row_at f.rows i in
    says_of
    (λ h.
    record {
      within = h.0;
      keeps = h.1.0;
      once = h.1.1.0;
      lined = h.1.1.1.0;
      young = h.1.1.1.1.0;
      asked = h.1.1.1.1.1.0;
      possible = h.1.1.1.1.1.1.0;
      tidy = h.1.1.1.1.1.1.1;
    })
    (λ g. (g.within, (g.keeps, (g.once, (g.lined, (g.young, (g.asked, (g.possible, g.tidy))))))))
    (says_both (says-either (says_lt i own.rows) (says-not (is_open r)))
    (says_both (keeps_says own r r.state)
    (says_both (once-says f.rows r.state)
    (says_both (says_eq (times i f.line) (one (is_waiting r)))
    (says_both (says-not (at_limit r))
    (says_both (says-either (says-not (is_marked f.marks i)) (says-true (is_asked own f i)))
    (says_both (possible-says r.place r.head) (tidy-says r))))))))

seats_say : (own : FarmSheet) (f : Farm) → Says (every_seat (seat_keeps own f)) ((i : ℕ) → i < seat_count → SeatOk own f i (row_at f.rows i))
unfolding every_seat
seats_say own f = every_says (seat_keeps own f) (λ i. SeatOk own f i (row_at f.rows i)) (seat_says own f) seat_count

-- a line of numbers below n is one in which no other number stands
line-says : (n : ℕ) (line : List ℕ) → Says (all (λ x. ltb x n) line) ((i : ℕ) → n ≤ i → times i line ≡ 0)
unfolding all count_if
line-says n [] = says-yes (λ i h. refl)
line-says n (x ∷ l) =
    says_of
    (λ h i k. let z : one (eqb i x) ≡ 0 = ap one (ne_eqb i x (λ e. omega (arith, h.0))) in omega (arith, h.1 i k))
    (λ h. (first h, λ i k. omega (arith, h i k)))
    (says_both (says_lt x n) (line-says n l))
  where
    first : ((i : ℕ) → n ≤ i → one (eqb i x) + count_if (eqb i) l ≡ 0) → x < n
    first h =
        split (ltb x n) (ltb-true x n)
        (λ e. let z : one (eqb x x) ≡ 1 = ap one (eq-eqb x x refl) in absurd (omega (arith, h x (ltb-false x n e))))

-- ---- all seats

-- some row passes, or none is counted
count_case : {Q : Type 0} (p : Row → Bool) (rows : List Row) → (count_if p rows ≡ 0 → Q) → ((i : ℕ) → p (row_at rows i) ≡ true → Q) → Q
unfolding count_if
count_case p [] none here = none refl
count_case p (x ∷ xs) none here =
    split (p x) (λ e. here 0 e)
    (λ e. let z : one (p x) ≡ 0 = ap one e in count_case p xs (λ k. none (omega arith)) (λ i. here (suc i)))

once_at : (a : ℕ) (rows : List Row) (st : RowState) → OnceBy rows st → active_as_state a st ≡ true → count_if (active_as a) rows ≤ 1
once_at a rows Free h e = absurd (never e)
once_at a rows (Fresh age) h e = absurd (never e)
once_at a rows (Waiting q) h e = absurd (never e)
once_at a rows (Active b idle) h e = subst (λ (k : ℕ). count_if (active_as k) rows ≤ 1) (eqb-true b a e) h

pub once_of : (rows : List Row) → ((a : ℕ) → count_if (active_as a) rows ≤ 1) → (st : RowState) → OnceBy rows st
once_of rows h Free = tt
once_of rows h (Fresh age) = tt
once_of rows h (Waiting q) = tt
once_of rows h (Active a idle) = h a

-- the test's own parts
record Parts (own : FarmSheet) (f : Farm) : Type 0 where
  seats : length f.rows ≡ seat_count
  marks_too : length f.marks ≡ seat_count
  each : (i : ℕ) → i < seat_count → SeatOk own f i (row_at f.rows i)
  places_left : count_if is_active f.rows ≤ own.quota
  no_other : (i : ℕ) → seat_count ≤ i → times i f.line ≡ 0
  head_keeps : HeadKeeps own f f.line
  check_runs : f.clock.ticks < check_limit

parts_say : (own : FarmSheet) (f : Farm) → Says (good_farm own f) (Parts own f)
unfolding good_farm
parts_say own f =
    says_of
    (λ h.
    record {
      seats = h.0.0;
      marks_too = h.0.1;
      each = h.1.0;
      places_left = h.1.1.0;
      no_other = h.1.1.1.0;
      head_keeps = h.1.1.1.1.0;
      check_runs = h.1.1.1.1.1;
    })
    (λ g. ((g.seats, g.marks_too), (g.each, (g.places_left, (g.no_other, (g.head_keeps, g.check_runs))))))
    (says_both (says_both (says_eq (length f.rows) seat_count) (says_eq (length f.marks) seat_count))
    (says_both (seats_say own f)
    (says_both (says_le (count_if is_active f.rows) own.quota)
    (says_both (line-says seat_count f.line)
    (says_both (head-says own f f.line) (says_lt f.clock.ticks check_limit))))))

-- a seat is one of the seats, or its row is free and its mark is not set
module _ (own : FarmSheet) (f : Farm) (p : Parts own f) where
  free_beyond : (i : ℕ) → seat_count ≤ i → row_at f.rows i ≡ free_row
  free_beyond i h = get_or-eq_default f.rows free_row {n = i} (let l : length f.rows ≤ i = omega (arith, p.seats) in l)

  unmarked_beyond : (i : ℕ) → seat_count ≤ i → is_marked f.marks i ≡ false
  unmarked_beyond i h = get_or-eq_default f.marks false {n = i} (let l : length f.marks ≤ i = omega (arith, p.marks_too) in l)

  seat_case : (P : Row → Type 0) (i : ℕ) → (SeatOk own f i (row_at f.rows i) → P (row_at f.rows i)) → (seat_count ≤ i → P free_row) → P (row_at f.rows i)
  seat_case P i inside beyond =
      split (ltb i seat_count) (λ e. inside (p.each i (ltb-true i seat_count e)))
      (λ e. let h = ltb-false i seat_count e in subst P (sym (free_beyond i h)) (beyond h))

  marked_asked : (i : ℕ) → is_marked f.marks i ≡ true → is_asked own f i ≡ true
  marked_asked i m =
      split (ltb i seat_count)
      (λ e. ⊎_elim (λ n. absurd (never (sym n ∙ m))) (λ a. a) (p.each i (ltb-true i seat_count e)).asked)
      (λ e. absurd (never (sym (unmarked_beyond i (ltb-false i seat_count e)) ∙ m)))

  parts-good : Good own f
  parts-good =
      record {
        seats = p.seats;
        marks_too = p.marks_too;
        within =
            λ i h.
            seat_case (λ r. is_open r ≡ false) i (λ s. ⊎_elim (λ (l : i < own.rows). absurd (omega arith)) (λ e. e) s.within) (λ _. refl);
        rows_keep = λ i. seat_case (λ r. RowKeeps own r r.state) i (λ s. s.keeps) (λ _. tt);
        active_once =
            λ a.
            count_case (active_as a) f.rows (λ z. omega arith)
            (λ i e.
            once_at a f.rows (row_at f.rows i).state (seat_case (λ r. OnceBy f.rows r.state) i (λ s. s.once) (λ _. tt)) e);
        places_left = p.places_left;
        lined = λ i. seat_case (λ r. times i f.line ≡ one (is_waiting r)) i (λ s. s.lined) (λ h. p.no_other i h);
        head_keeps = p.head_keeps;
        young = λ i. seat_case (λ r. at_limit r ≡ false) i (λ s. s.young) (λ _. refl);
        check_runs = p.check_runs;
        marks_asked = marked_asked;
        possible = λ i. seat_case (λ r. PossibleAt r.place r.head) i (λ s. s.possible) (λ _. omega arith);
        tidy = λ i. seat_case Tidy i (λ s. s.tidy) (λ _. tidy-between Free);
      }

module _ (own : FarmSheet) (f : Farm) (g : Good own f) where
  good_seat : (i : ℕ) → SeatOk own f i (row_at f.rows i)
  good_seat i =
      record {
        within = split (ltb i own.rows) (λ e. inl (ltb-true i own.rows e)) (λ e. inr (g.within i (ltb-false i own.rows e)));
        keeps = g.rows_keep i;
        once = once_of f.rows g.active_once (row_at f.rows i).state;
        lined = g.lined i;
        young = g.young i;
        asked = split (is_marked f.marks i) (λ e. inr (g.marks_asked i e)) (λ e. inl e);
        possible = g.possible i;
        tidy = g.tidy i;
      }

  good-parts : Parts own f
  good-parts =
      record {
        seats = g.seats;
        marks_too = g.marks_too;
        each = λ i _. good_seat i;
        places_left = g.places_left;
        no_other = none_beyond g;
        head_keeps = g.head_keeps;
        check_runs = g.check_runs;
      }

-- THE TEST AND THE RULES: refusal 4 is given exactly where a farm breaks a rule of the table.
pub farm-says : (own : FarmSheet) (f : Farm) → Says (good_farm own f) (Good own f)
farm-says own f = says_of (parts-good own f) (good-parts own f) (parts_say own f)
