-- Open rows and entries: how many rows of a farm are open, and what closing and asking say for it.
-- Assumes nothing.
use Prim.Native.Nat.{ℕ, zero, suc, ◌+◌, ◌≤◌}
use mathlib.Core.Path.{◌≡◌, refl, sym, ap, subst, ◌∙◌}
use mathlib.Core.Bool.{Bool, true, false}
use mathlib.Core.List.{List, [], ◌∷◌, ◌++◌}
use native.Mathlib.Omega.{arith}
use lib.Dec.{eqb}
use lib.ListN.{length, length-append, set, take}
use borrow.Author.Tests.{eqb-true, eqb-false, eq-eqb}
use Rattle.octets.specs.Choice.{one}
use Rattle.octets.specs.Search.{count_if}
use Rattle.octets.specs.Fold.{up_to}
use Rattle.kinds.specs.declared.Row.{Row}
use Rattle.kinds.specs.declared.Check.{Check}
use Rattle.kinds.specs.declared.Check.TheVariants.{One, All}
use Rattle.kinds.specs.declared.Decision.TheVariants.{Ask}
use Rattle.kinds.specs.declared.Reply.TheVariants.{AliveCheck}
use Rattle.model.specs.FarmSheet.{FarmSheet}
use Rattle.model.specs.Row.{free_row, row_at, is_open, is_waiting, active_as}
use Rattle.model.specs.Farm.{Farm, seat_count, Done, does, quietly, and_then, each_seat, says, closed, closed_if, closed_where}
use Rattle.model.specs.Line.{socket_rules, asks, asked_if}
use Rattle.model.specs.Move.{open_rows}
use Rattle.model.specs.Rule.{times, Good}
use Rattle.model.proofs.Cases.{pick_case, split}
use Rattle.model.proofs.Rows.{row_other, count_free}
use Rattle.model.proofs.Seats.{seats_to, seats-all}
use Rattle.model.proofs.SoundRows.{one-small, active_open, as_active, waiting_open}
use Rattle.model.proofs.SoundLine.{socket_case}

-- ---- counts

-- a row that is stored makes one more at most
pub count-put : (p : Row → Bool) (rows : List Row) (i : ℕ) (x : Row) → count_if p (set rows i x) ≤ count_if p rows + 1
unfolding count_if
count-put p [] i x = omega arith
count-put p (y ∷ rows) zero x = omega (arith, one-small (p x))
count-put p (y ∷ rows) (suc i) x = omega (arith, count-put p rows i x)

-- where none passes from the n-th on, n pass at most
pub count-within : (p : Row → Bool) (rows : List Row) (n : ℕ) → ((i : ℕ) → n ≤ i → p (row_at rows i) ≡ false) → count_if p rows ≤ n
unfolding count_if
count-within p [] n h = omega arith
count-within p (x ∷ rows) zero h =
    let z : one (p x) ≡ 0 = ap one (h 0 (omega arith)) in omega (arith, count-within p rows zero (λ i k. h (suc i) (omega arith)))
count-within p (x ∷ rows) (suc n) h = omega (arith, one-small (p x), count-within p rows n (λ i k. h (suc i) (omega arith)))

-- a list in which no seat stands twice, and only seats whose rows pass
pub count-line : (p : Row → Bool) → p free_row ≡ false → (line : List ℕ) (rows : List Row)
    → ((i : ℕ) → times i line ≤ one (p (row_at rows i))) → length line ≤ count_if p rows
unfolding count_if
count-line p e [] rows h = omega arith
count-line p e (x ∷ line) rows h =
    let here : one (eqb x x) ≡ 1 = ap one (eq-eqb x x refl) in
    omega (arith, h x, count_free p e rows x, count-line p e line (set rows x free_row) rest, one-small (p (row_at rows x)))
  where
    rest : (i : ℕ) → times i line ≤ one (p (row_at (set rows x free_row) i))
    rest i =
        split (eqb i x)
        (λ u. let here : one (eqb i x) ≡ 1 = ap one u in omega (arith, h i, one-small (p (row_at rows i))))
        (λ u. let same : one (p (row_at (set rows x free_row) i)) ≡ one (p (row_at rows i)) = ap (λ r. one (p r)) (row_other rows x i free_row (eqb-false i x u)) in
        omega (arith, h i))

-- the first n of the rows, and the next
count_next : (p : Row → Bool) → p free_row ≡ false → (n : ℕ) (rows : List Row)
    → count_if p (take (suc n) rows) ≡ count_if p (take n rows) + one (p (row_at rows n))
unfolding count_if
count_next p e zero [] = let z : one (p free_row) ≡ 0 = ap one e in omega arith
count_next p e (suc n) [] = let z : one (p free_row) ≡ 0 = ap one e in omega arith
count_next p e zero (x ∷ rows) = omega arith
count_next p e (suc n) (x ∷ rows) = omega (arith, count_next p e n rows)

count-take : (p : Row → Bool) (n : ℕ) (rows : List Row) → count_if p (take n rows) ≤ count_if p rows
unfolding count_if
count-take p zero rows = omega arith
count-take p (suc n) [] = omega arith
count-take p (suc n) (x ∷ rows) = omega (arith, count-take p n rows)

-- ---- open rows under rule 4

module _ {own : FarmSheet} {f : Farm} (k : Good own f) where
  pub open_within : open_rows f ≤ own.rows
  open_within = count-within is_open f.rows own.rows k.within

  -- each waiter is an open row, and stands in the line once
  pub line-within : length f.line ≤ open_rows f
  line-within = count-line is_open refl f.line f.rows (λ i. by i (is_waiting (row_at f.rows i)) refl)
    where
      by : (i : ℕ) (b : Bool) → is_waiting (row_at f.rows i) ≡ b → times i f.line ≤ one (is_open (row_at f.rows i))
      by i true e =
          let o : one (is_open (row_at f.rows i)) ≡ 1 = ap one (waiting_open (row_at f.rows i).state e) in
          let w : one (is_waiting (row_at f.rows i)) ≡ 1 = ap one e in
          omega (arith, k.lined i)
      by i false e = let w : one (is_waiting (row_at f.rows i)) ≡ 0 = ap one e in omega (arith, k.lined i)

-- ---- one thing, then another

pub then_length : (d : Done) (g : Farm → Done) → length (and_then d g).items ≡ length d.items + length (g d.farm).items
unfolding and_then
then_length d g = length-append d.items (g d.farm).items

-- the entries and the open rows after are n more at most than the open rows before
abbrev pub Costs : ℕ → Farm → Done → Type 0
Costs n f d = length d.items + open_rows d.farm ≤ open_rows f + n

-- ---- closings: for each entry there is one open row less

module _ (own : FarmSheet) (test : ℕ → Row → Bool) (f : Farm)
    (opens : (i : ℕ) → test i (row_at f.rows i) ≡ true → is_open (row_at f.rows i) ≡ true) where
  -- when the first n seats are done, the rows ahead are as they were
  record Closing (n : ℕ) (d : Done) : Type 0 where
    ahead : (i : ℕ) → n ≤ i → row_at d.farm.rows i ≡ row_at f.rows i
    spent : Costs 0 f d

  closing-one : (n : ℕ) (d : Done) → Closing n d → Closing (suc n) (and_then d (closed_if own test n))
  unfolding and_then closed_if closed
  closing-one n d c =
      let rows : List Row = d.farm.rows in
      pick_case (λ (e : Done). Closing (suc n) (does e.farm (d.items ++ e.items))) (test n (row_at rows n)) (closed own n d.farm) (quietly d.farm)
      (λ t.
      let was : is_open (row_at rows n) ≡ true = subst (λ (r : Row). test n r ≡ true → is_open r ≡ true) (sym (c.ahead n (omega arith))) (opens n) t in
      let o : one (is_open (row_at rows n)) ≡ 1 = ap one was in
      record {
        ahead = λ i h. row_other rows n i free_row (λ e. omega arith) ∙ c.ahead i (omega arith);
        spent = omega (arith, c.spent, length-append d.items (closed own n d.farm).items, count_free is_open refl rows n);
      })
      (λ t.
      record {
        ahead = λ i h. c.ahead i (omega arith);
        spent = omega (arith, c.spent, length-append d.items []);
      })

  closing_to : (n : ℕ) → Closing n (seats_to (closed_if own test) f n)
  unfolding seats_to up_to
  closing_to zero = record { ahead = λ i h. refl; spent = omega arith }
  closing_to (suc n) = closing-one n (seats_to (closed_if own test) f n) (closing_to n)

  pub closings_cost : Costs 0 f (closed_where own test f)
  closings_cost = subst (Costs 0 f) (sym (seats-all (closed_if own test) f)) (closing_to seat_count).spent

-- ---- a check asks open rows only, so its 0007s are no more than these

pub asks_open : (own : FarmSheet) (rows : List Row) (want : ℕ) (check : Check) → socket_rules own rows want ≡ Ask check
    → (i : ℕ) → asks check i (row_at rows i) ≡ true → is_open (row_at rows i) ≡ true
asks_open own rows want check =
    socket_case (λ d. d ≡ Ask check → (i : ℕ) → asks check i (row_at rows i) ≡ true → is_open (row_at rows i) ≡ true) own rows want
    (λ s t h e i. that s t (cc) i)
    (λ z h e i. all (cc) i)
    (λ z h e. absurd (let y : ◌≡◌ {A = ℕ} 0 1 = cc in omega arith))
  where
    that : (s : ℕ) → active_as want (row_at rows s) ≡ true → One s ≡ check → (i : ℕ) → asks check i (row_at rows i) ≡ true → is_open (row_at rows i) ≡ true
    that s t e i a =
        let is : i ≡ s = eqb-true i s (subst (λ (c : Check). asks c i (row_at rows i) ≡ true) (sym e) a) in
        subst (λ (k : ℕ). is_open (row_at rows k) ≡ true) (sym is) (active_open (row_at rows s).state (as_active want (row_at rows s).state t))

    all : All ≡ check → (i : ℕ) → asks check i (row_at rows i) ≡ true → is_open (row_at rows i) ≡ true
    all e i a = active_open (row_at rows i).state (subst (λ (c : Check). asks c i (row_at rows i) ≡ true) (sym e) a)

module _ (own : FarmSheet) (check : Check) (f : Farm)
    (opens : (i : ℕ) → asks check i (row_at f.rows i) ≡ true → is_open (row_at f.rows i) ≡ true) where
  record Asking (n : ℕ) (d : Done) : Type 0 where
    same : d.farm.rows ≡ f.rows
    few : length d.items ≤ count_if is_open (take n f.rows)

  asking-one : (n : ℕ) (d : Done) → Asking n d → Asking (suc n) (and_then d (asked_if own check n))
  unfolding and_then asked_if
  asking-one n d c =
      pick_case (λ (e : Done). Asking (suc n) (does e.farm (d.items ++ e.items))) (asks check n (row_at d.farm.rows n))
      (does d.farm (says own n AliveCheck ∷ [])) (quietly d.farm)
      (λ t.
      let was : is_open (row_at f.rows n) ≡ true = opens n (subst (λ (rows : List Row). asks check n (row_at rows n) ≡ true) c.same t) in
      let o : one (is_open (row_at f.rows n)) ≡ 1 = ap one was in
      record {
        same = c.same;
        few = omega (arith, c.few, length-append d.items (says own n AliveCheck ∷ []), count_next is_open refl n f.rows);
      })
      (λ t.
      record {
        same = c.same;
        few = omega (arith, c.few, length-append d.items [], count_next is_open refl n f.rows);
      })

  asking_to : (n : ℕ) → Asking n (seats_to (asked_if own check) f n)
  unfolding seats_to up_to
  asking_to zero = record { same = refl; few = omega arith }
  asking_to (suc n) = asking-one n (seats_to (asked_if own check) f n) (asking_to n)

  pub asking_few : length (each_seat (asked_if own check) f).items ≤ open_rows f
  asking_few =
      omega (
        arith,
        ap (λ (d : Done). length d.items) (seats-all (asked_if own check) f),
        (asking_to seat_count).few,
        count-take is_open seat_count f.rows,
      )
