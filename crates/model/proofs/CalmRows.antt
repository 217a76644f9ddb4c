-- Which rows are asked, by the rows alone: while a head's check is still needed, no change of the rows alters which rows it asks.
-- Assumes nothing.
use Rattle.std.proofs.Common.{Option, Some, None}
use Prim.Native.Nat.{ℕ, zero, suc, ◌≤◌, ◌<◌}
use mathlib.Core.Path.{◌≡◌, refl, sym, ap, ◌∙◌}
use mathlib.Core.Bool.{Bool, true, false, false≢true}
use mathlib.Core.List.{List, [], ◌∷◌}
use native.Mathlib.Omega.{arith}
use lib.Dec.{leb}
use borrow.Author.Tests.{leb-true, lt-leb, eqb-true, eq-eqb}
use Rattle.octets.specs.Choice.{one}
use Rattle.octets.specs.Search.{first_at, count_if}
use Rattle.kinds.specs.declared.RowState.{RowState}
use Rattle.kinds.specs.declared.RowState.TheVariants.{Free, Fresh, Waiting, Active}
use Rattle.kinds.specs.declared.Row.{Row}
use Rattle.kinds.specs.declared.Check.{Check}
use Rattle.kinds.specs.declared.Check.TheVariants.{One, All}
use Rattle.kinds.specs.declared.Decision.{Decision}
use Rattle.kinds.specs.declared.Decision.TheVariants.{Now, Ask}
use Rattle.model.specs.FarmSheet.{FarmSheet}
use Rattle.model.specs.Row.{free_row, row_at, is_active_state, is_active, active_as_state, active_as}
use Rattle.model.specs.Line.{accepted, by_places, by_holder, socket_rules, asked_by}
use Rattle.model.proofs.Cases.{pick_case}
use Rattle.model.proofs.Rows.{count-some}
use Rattle.model.proofs.Settling.{Stands, stands, first_stands}

-- ---- a test on the rows before and after

one_mono : (a b : Bool) → (b ≡ true → a ≡ true) → one b ≤ one a
one_mono a true h = rw (h refl) (omega arith)
one_mono a false h = omega arith

one_even : (a b : Bool) → one a ≡ one b → a ≡ b
one_even true true e = refl
one_even true false e = absurd (omega arith)
one_even false true e = absurd (omega arith)
one_even false false e = refl

-- every row that passes after passed before
abbrev pub Fewer : (Row → Bool) → List Row → List Row → Type 0
Fewer p l m = (i : ℕ) → p (row_at m i) ≡ true → p (row_at l i) ≡ true

-- the same rows pass
abbrev pub Alike : (Row → Bool) → List Row → List Row → Type 0
Alike p l m = (i : ℕ) → p (row_at m i) ≡ p (row_at l i)

module _ (p : Row → Bool) (none : p free_row ≡ false) where
  pub fewer_count : (l m : List Row) → Fewer p l m → count_if p m ≤ count_if p l
  unfolding count_if
  fewer_count [] [] h = omega arith
  fewer_count [] (y ∷ m) h =
      let z : one (p y) ≤ 0 = rw none at (one_mono (p free_row) (p y) (h 0)) in omega (arith, fewer_count [] m (λ i. h (suc i)))
  fewer_count (x ∷ l) [] h = omega arith
  fewer_count (x ∷ l) (y ∷ m) h = omega (arith, one_mono (p x) (p y) (h 0), fewer_count l m (λ i. h (suc i)))

  -- if as many pass, they are the same
  pub full_alike : (l m : List Row) → Fewer p l m → count_if p l ≤ count_if p m → Alike p l m
  unfolding count_if
  full_alike [] [] h c i = refl
  full_alike [] (y ∷ m) h c zero =
      one_even (p y) (p free_row) (let z : one (p free_row) ≡ 0 = ap one none in omega (arith, one_mono (p free_row) (p y) (h 0)))
  full_alike [] (y ∷ m) h c (suc i) = full_alike [] m (λ k. h (suc k)) (omega arith) i
  full_alike (x ∷ l) [] h c zero =
      one_even (p free_row) (p x) (let z : one (p free_row) ≡ 0 = ap one none in omega (arith, one_mono (p x) (p free_row) (h 0)))
  full_alike (x ∷ l) [] h c (suc i) = full_alike l [] (λ k. h (suc k)) (omega arith) i
  full_alike (x ∷ l) (y ∷ m) h c zero = one_even (p y) (p x) (omega (arith, one_mono (p x) (p y) (h 0), fewer_count l m (λ k. h (suc k))))
  full_alike (x ∷ l) (y ∷ m) h c (suc i) = full_alike l m (λ k. h (suc k)) (omega (arith, one_mono (p x) (p y) (h 0))) i

  pub alike_count : (l m : List Row) → Alike p l m → count_if p m ≡ count_if p l
  unfolding count_if
  alike_count [] [] h = refl
  alike_count [] (y ∷ m) h = let z : one (p y) ≡ 0 = ap one (h 0 ∙ none) in omega (arith, alike_count [] m (λ i. h (suc i)))
  alike_count (x ∷ l) [] h = let z : one (p x) ≡ 0 = ap one (sym (h 0) ∙ none) in omega (arith, alike_count l [] (λ i. h (suc i)))
  alike_count (x ∷ l) (y ∷ m) h = let z : one (p y) ≡ one (p x) = ap one (h 0) in omega (arith, alike_count l m (λ i. h (suc i)))

  pub alike_first : (l m : List Row) → Alike p l m → (k : ℕ) → first_at p k m ≡ first_at p k l
  unfolding first_at
  alike_first [] [] h k = refl
  alike_first [] (y ∷ m) h k = rw (h 0 ∙ none) (alike_first [] m (λ i. h (suc i)) (suc k))
  alike_first (x ∷ l) [] h k = rw (sym (h 0) ∙ none) (alike_first l [] (λ i. h (suc i)) (suc k))
  alike_first (x ∷ l) (y ∷ m) h k = rw (h 0, alike_first l m (λ i. h (suc i)) (suc k)) refl

-- ---- no row has become active, or has another address

abbrev pub NoMore : List Row → List Row → Type 0
NoMore l m = (i a : ℕ) → active_as a (row_at m i) ≡ true → active_as a (row_at l i) ≡ true

-- what an active row is active as
active_of : RowState → ℕ
active_of Free = 0
active_of (Fresh c) = 0
active_of (Waiting q) = 0
active_of (Active a c) = a

-- in words of states: the row is active as something exactly where it is active
pub as_active : (a : ℕ) (s : RowState) → active_as_state a s ≡ true → is_active_state s ≡ true
as_active a Free e = absurd (false≢true e)
as_active a (Fresh c) e = absurd (false≢true e)
as_active a (Waiting q) e = absurd (false≢true e)
as_active a (Active b c) e = refl

active_as_lem : (s : RowState) → is_active_state s ≡ true → active_as_state (active_of s) s ≡ true
unfolding active_of
active_as_lem Free e = absurd (false≢true e)
active_as_lem (Fresh c) e = absurd (false≢true e)
active_as_lem (Waiting q) e = absurd (false≢true e)
active_as_lem (Active a c) e = eq-eqb a a refl

-- a row is active as one address at most
one_address : (a b : ℕ) (s : RowState) → active_as_state a s ≡ true → active_as_state b s ≡ true → a ≡ b
one_address a b Free e g = absurd (false≢true e)
one_address a b (Fresh c) e g = absurd (false≢true e)
one_address a b (Waiting q) e g = absurd (false≢true e)
one_address a b (Active d c) e g = omega (arith, eqb-true d a e, eqb-true d b g)

module _ (l m : List Row) (h : NoMore l m) where
  pub fewer_active : Fewer is_active l m
  fewer_active i e = as_active (active_of (row_at m i).state) (row_at l i).state (h i (active_of (row_at m i).state) (active_as_lem (row_at m i).state e))

  -- where the same rows are active, they are active as the same
  pub alike_address : Alike is_active l m → (w : ℕ) → Alike (active_as w) l m
  alike_address k w i = by (active_as w (row_at m i)) (active_as w (row_at l i)) refl refl
    where
      back : active_as w (row_at l i) ≡ true → active_as w (row_at m i) ≡ true
      back e =
          let t : is_active (row_at m i) ≡ true = k i ∙ as_active w (row_at l i).state e in
          let a : ℕ = active_of (row_at m i).state in
          let u : active_as a (row_at m i) ≡ true = active_as_lem (row_at m i).state t in
          let z : a ≡ w = one_address a w (row_at l i).state (h i a u) e in
          rw z at u

      by : (b c : Bool) → active_as w (row_at m i) ≡ b → active_as w (row_at l i) ≡ c → active_as w (row_at m i) ≡ active_as w (row_at l i)
      by true c e g = e ∙ sym (h i w e)
      by false true e g = absurd (false≢true (sym e ∙ back g))
      by false false e g = e ∙ sym g

-- ---- the same check, of the same rows

pub record SameAsked (own : FarmSheet) (l m : List Row) (w : ℕ) : Type 0 where
  pub check : socket_rules own m w ≡ socket_rules own l w
  pub asked : (i : ℕ) → asked_by (socket_rules own m w) i (row_at m i) ≡ asked_by (socket_rules own l w) i (row_at l i)

module _ (own : FarmSheet) (l m : List Row) (w : ℕ) where
  -- the same row is asked alone
  same_one : (s : ℕ) → first_at (active_as w) 0 m ≡ Some s → first_at (active_as w) 0 l ≡ Some s → SameAsked own l m w
  unfolding socket_rules
  same_one s e g = record { check = rw (e, g) refl; asked = λ i. rw (e, g) refl }

  same_holder : count_if is_active m ≡ count_if is_active l → (o : Option ℕ) → by_holder own m o ≡ by_holder own l o
  same_holder e (Some s) = refl
  same_holder e None = rw e refl

  same_need : Alike is_active l m → Alike (active_as w) l m → socket_rules own m w ≡ socket_rules own l w
  unfolding socket_rules
  same_need k j = rw (alike_first (active_as w) refl l m j 0) (same_holder (alike_count is_active refl l m k) (first_at (active_as w) 0 l))

  -- the same rows are active, as the same
  pub same_asked : Alike is_active l m → Alike (active_as w) l m → SameAsked own l m w
  same_asked k j = record { check = same_need k j; asked = λ i. rw (same_need k j) (by (socket_rules own l w) i) }
    where
      by : (d : Decision) (i : ℕ) → asked_by d i (row_at m i) ≡ asked_by d i (row_at l i)
      by (Now code) i = refl
      by (Ask (One s)) i = refl
      by (Ask All) i = k i

  -- NO ROW HAS BECOME ACTIVE, and a check is still needed: it is the check that was needed before, and it asks the same rows. A row
  -- that was asked alone is still there, for else the address were free; where all are asked, no place has come free.
  pub fewer_same : count_if (active_as w) l ≤ 1 → count_if is_active l ≤ own.quota → NoMore l m → (check : Check)
      → socket_rules own m w ≡ Ask check → SameAsked own l m w
  unfolding socket_rules
  fewer_same u q h check = by (first_at (active_as w) 0 m) refl
    where
      that : (s : ℕ) → first_at (active_as w) 0 m ≡ Some s → Stands (active_as w) free_row m s 0 → SameAsked own l m w
      that s o (stands i z g t) =
          let k : Alike (active_as w) l m =
          full_alike (active_as w) refl l m (λ j. h j w) (omega (arith, count-some (active_as w) refl m i t)) in
          same_one s o (sym (alike_first (active_as w) refl l m k 0) ∙ o)

      by : (o : Option ℕ) → first_at (active_as w) 0 m ≡ o → by_holder own m o ≡ Ask check → SameAsked own l m w
      by (Some s) o e = that s o (first_stands (active_as w) free_row m s 0 o)
      by None o e =
          pick_case (λ d. d ≡ Ask check → SameAsked own l m w) (leb own.quota (count_if is_active m)) _ _
          (λ t g.
          let k : Alike is_active l m =
          full_alike is_active refl l m (fewer_active l m h) (omega (arith, leb-true own.quota (count_if is_active m) t)) in
          same_asked k (alike_address l m h k w))
          (λ t g. absurd (let z : ◌≡◌ {A = ℕ} 0 1 = cc in omega arith)) e

  -- A ROW HAS BECOME ACTIVE though a line stands: places were free, so the check is of one row, and that one stays.
  pub more_same : count_if is_active l < own.quota → ((s : ℕ) → first_at (active_as w) 0 l ≡ Some s → Alike (active_as w) l m)
      → (check : Check) → socket_rules own l w ≡ Ask check → SameAsked own l m w
  unfolding socket_rules
  more_same q k check = by (first_at (active_as w) 0 l) refl
    where
      by : (o : Option ℕ) → first_at (active_as w) 0 l ≡ o → by_holder own l o ≡ Ask check → SameAsked own l m w
      by (Some s) o e = same_one s (alike_first (active_as w) refl l m (k s o) 0 ∙ o) o
      by None o e =
          absurd (let t : leb own.quota (count_if is_active l) ≡ false = lt-leb own.quota (count_if is_active l) q in
          let n : by_places own l ≡ Now accepted = rw t refl in let z : ◌≡◌ {A = ℕ} 0 1 = cc in omega arith)
