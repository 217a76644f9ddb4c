-- The changes that a call makes before it settles, one by one: while the head stays, its check asks the same rows.
-- Assumes nothing.
use Rattle.std.proofs.Common.{Some, None}
use Prim.Native.Nat.{ℕ, ◌<◌}
use mathlib.Core.Path.{◌≡◌, refl, sym, ap, subst, ◌∙◌}
use mathlib.Core.Bool.{Bool, true, false, false≢true}
use mathlib.Core.List.{List, [], ◌∷◌, ◌++◌, map}
use native.Mathlib.Omega.{arith}
use lib.Dec.{eqb}
use lib.ListN.{set}
use lib.Seq.{get_or-set_other}
use borrow.Author.Tests.{eqb-true, eqb-false, ne_eqb}
use Rattle.octets.specs.Choice.{pick}
use Rattle.octets.specs.Search.{first_at, count_if}
use Rattle.octets.proofs.ChoiceLaws.{both_right}
use Rattle.kinds.specs.declared.Request.{Request}
use Rattle.kinds.specs.declared.RowState.{RowState}
use Rattle.kinds.specs.declared.RowState.TheVariants.{Free, Fresh, Waiting, Active}
use Rattle.kinds.specs.declared.Row.{Row}
use Rattle.kinds.specs.declared.HeadVerdict.TheVariants.{Pending}
use Rattle.model.specs.FarmSheet.{FarmSheet}
use Rattle.model.specs.Row.{free_row, waiting_row, active_row, row_at, is_waiting_state, is_waiting, is_active, active_as, wanted, older, at_limit_state, at_limit}
use Rattle.model.specs.Stream.{Taken}
use Rattle.model.specs.Farm.{Farm, with_row, with_line, with_marks, Done, quietly, closed}
use Rattle.model.specs.Line.{is_asked, is_marked, head_verdict, is_empty, started, advanced, joined, without, left_by, left, marked, answers_check}
use Rattle.model.specs.Bytes.{heard_row, heard}
use Rattle.model.specs.Move.{clock_run, aged}
use Rattle.model.specs.Rule.{HeadKeeps}
use Rattle.model.specs.Words.{tick_settles}
use Rattle.model.proofs.Cases.{pick_case, split}
use Rattle.model.proofs.Rows.{row-set, row-map, row-freed}
use Rattle.model.proofs.Seats.{closings_keep}
use Rattle.model.proofs.Settling.{Anew, anew_cleared, started-farm, advanced-farm, Runs, runs, pending_runs}
use Rattle.model.proofs.CalmRows.{Alike, NoMore, as_active, more_same}
use Rattle.model.proofs.CalmCheck.{Ready, SameCheck, Stays, same_check, no_more_lem, SameRow, set_same, heard_same, older_same, rows_same, ready_same, Handed, anew, stays, line_stays}

-- ---- one row changes

set_no_more : (rows : List Row) (seat : ℕ) (x : Row) → ((a : ℕ) → active_as a x ≡ true → active_as a (row_at rows seat) ≡ true)
    → NoMore rows (set rows seat x)
set_no_more rows seat x h i a =
    row-set rows seat i x (λ y. active_as a y ≡ true → active_as a (row_at rows i) ≡ true) (λ e l t. rw e (h a t)) (λ t. t)

-- another row asks for what it did
set-wanted : (rows : List Row) (seat head : ℕ) (x : Row) → (head ≡ seat → ⊥) → wanted (row_at (set rows seat x) head) ≡ wanted (row_at rows head)
set-wanted rows seat head x n = row-set rows seat head x (λ y. wanted y ≡ wanted (row_at rows head)) (λ e l. absurd (n e)) refl

-- a row that does not wait isn't the head
pub apart : {own : FarmSheet} {f : Farm} → Ready own f → (head : ℕ) (rest : List ℕ) → f.line ≡ head ∷ rest → (seat : ℕ)
    → is_waiting (row_at f.rows seat) ≡ false → head ≡ seat → ⊥
apart {own} {f} k head rest e seat n q =
    false≢true (sym n ∙ subst (λ (s : ℕ). is_waiting (row_at f.rows s) ≡ true) q (k.head_waits head rest e))

module _ {own : FarmSheet} {f : Farm} (k : Ready own f) where
  -- BYTES HEARD change the row's place and idle count: the check is the same, and asks the same rows.
  pub heard_asked : (seat : ℕ) (t : Taken) (head : ℕ) → SameCheck own f (heard seat t f) head
  unfolding heard
  heard_asked seat t head =
      rows_same k (heard seat t f)
      (set_same f.rows seat (heard_row t.count t.stream (row_at f.rows seat)) (heard_same t.count (row_at f.rows seat).state)) head

  pub heard_ready : (seat : ℕ) (t : Taken) → Ready own (heard seat t f)
  unfolding heard
  heard_ready seat t =
      ready_same k (heard seat t f)
      (set_same f.rows seat (heard_row t.count t.stream (row_at f.rows seat)) (heard_same t.count (row_at f.rows seat).state))
      refl refl refl

  -- A ROW CLOSES that isn't the head's.
  pub closed_asked : (seat head : ℕ) → (head ≡ seat → ⊥) → Stays own f (closed own seat f).farm head
  unfolding closed
  closed_asked seat head n =
      no_more_lem k (closed own seat f).farm head (set-wanted f.rows seat head free_row n)
      (set_no_more f.rows seat free_row (λ a t. absurd (false≢true t)))

  -- the head's check runs
  pub head_pending : (head : ℕ) (rest : List ℕ) → f.line ≡ head ∷ rest → head_verdict own f head ≡ Pending
  head_pending head rest e = subst (HeadKeeps own f) e k.calm.head_keeps

  -- A ROW IS MADE ACTIVE by a request that passes the line: its address was not active, and places were free.
  pub opened_asked : (seat a head : ℕ) (rest : List ℕ) → f.line ≡ head ∷ rest → is_waiting (row_at f.rows seat) ≡ false
      → is_active (row_at f.rows seat) ≡ false → first_at (active_as a) 0 f.rows ≡ None → count_if is_active f.rows < own.quota
      → SameCheck own f (with_row f seat (active_row a)) head
  opened_asked seat a head rest e n u o q = by (pending_runs own f head (head_pending head rest e))
    where
      w : ℕ
      w = wanted (row_at f.rows head)

      not_as : (b : Bool) → active_as w (row_at f.rows seat) ≡ b → active_as w (row_at f.rows seat) ≡ false
      not_as true t = absurd (false≢true (sym u ∙ as_active w (row_at f.rows seat).state t))
      not_as false t = t

      other : (s : ℕ) → first_at (active_as w) 0 f.rows ≡ Some s → a ≡ w → ⊥
      other s t z =
          let v : first_at (active_as w) 0 f.rows ≡ None = subst (λ (b : ℕ). first_at (active_as b) 0 f.rows ≡ None) z o in
          let y : ◌≡◌ {A = ℕ} 0 1 = cc in omega arith

      alike : (s : ℕ) → first_at (active_as w) 0 f.rows ≡ Some s → Alike (active_as w) f.rows (set f.rows seat (active_row a))
      alike s t i =
          row-set f.rows seat i (active_row a) (λ y. active_as w y ≡ active_as w (row_at f.rows i))
          (λ z l. ne_eqb a w (other s t) ∙ sym (rw z (not_as (active_as w (row_at f.rows seat)) refl))) refl

      by : Runs own f head → SameCheck own f (with_row f seat (active_row a)) head
      by (runs check d l) =
          same_check own f (with_row f seat (active_row a)) head (set-wanted f.rows seat head (active_row a) (apart k head rest e seat n))
          (more_same own f.rows (set f.rows seat (active_row a)) w q alike check d)

  -- A ROW JOINS the end of the line.
  pub joined_asked : (seat : ℕ) (q : Request) (line : List ℕ) (head : ℕ) → (head ≡ seat → ⊥)
      → Stays own f (with_line (with_row f seat (waiting_row q)) line) head
  joined_asked seat q line head n =
      no_more_lem k (with_line (with_row f seat (waiting_row q)) line) head (set-wanted f.rows seat head (waiting_row q) n)
      (set_no_more f.rows seat (waiting_row q) (λ a t. absurd (false≢true t)))

  -- A MARK is set: the rows are as they were.
  pub marked_asked : (seat address head : ℕ) → SameCheck own f (marked own seat address f) head
  unfolding marked
  marked_asked seat address head =
      pick_case (λ (g : Farm). SameCheck own f g head) (answers_check own seat address f) _ _
      (λ t. record { check = refl; asked = λ i. refl }) (λ t. record { check = refl; asked = λ i. refl })

  -- ---- what is handed to settling, change by change

  pub kept_handed : Handed own f f
  kept_handed = line_stays k f refl (λ e. refl) k.calm.marks_asked (λ head rest e p. record { check = refl; asked = λ i. refl })

  module _ (seat : ℕ) (n : is_waiting (row_at f.rows seat) ≡ false) where
    pub closed_handed : Handed own f (closed own seat f).farm
    unfolding closed
    closed_handed =
        line_stays k (closed own seat f).farm refl (λ e. refl) k.calm.marks_asked
        (λ head rest e. closed_asked seat head (apart k head rest e seat n))

    -- the row asks once more for the address as which it is active
    pub again_handed : (a : ℕ) → active_as a (row_at f.rows seat) ≡ true → Handed own f (with_row f seat (active_row a))
    again_handed a t =
        line_stays k (with_row f seat (active_row a)) refl (λ e. refl) k.calm.marks_asked
        (λ head rest e. no_more_lem k (with_row f seat (active_row a)) head (set-wanted f.rows seat head (active_row a) (apart k head rest e seat n))
        (set_no_more f.rows seat (active_row a)
        (λ b u. subst (λ (c : ℕ). active_as c (row_at f.rows seat) ≡ true) (eqb-true a b u) t)))

    pub opened_handed : (a : ℕ) → is_active (row_at f.rows seat) ≡ false → first_at (active_as a) 0 f.rows ≡ None
        → count_if is_active f.rows < own.quota → Handed own f (with_row f seat (active_row a))
    opened_handed a u o q =
        line_stays k (with_row f seat (active_row a)) refl (λ e. refl) k.calm.marks_asked
        (λ head rest e p. opened_asked seat a head rest e n u o q)

    pub joined_handed : (q : Request) → Handed own f (joined own seat q f).farm
    unfolding joined
    joined_handed q = by f.line refl
      where
        g : Farm
        g = with_line (with_row f seat (waiting_row q)) (f.line ++ (seat ∷ []))

        by : (line : List ℕ) → f.line ≡ line → Handed own f (pick (is_empty f.line) (started own g) (quietly g)).farm
        by [] e =
            subst (λ (b : Bool). Handed own f (pick b (started own g) (quietly g)).farm) (sym (ap is_empty e))
            (anew (λ head rest l. absurd (let z : ◌≡◌ {A = ℕ} 0 1 = cc in omega arith))
            (subst Anew (sym (started-farm own g)) (anew_cleared g)))
        by (head ∷ rest) e =
            subst (λ (b : Bool). Handed own f (pick b (started own g) (quietly g)).farm) (sym (ap is_empty e))
            (stays head rest (rest ++ (seat ∷ [])) e (ap (λ (l : List ℕ). l ++ (seat ∷ [])) e)
            (joined_asked seat q (f.line ++ (seat ∷ [])) head (apart k head rest e seat n)) k.calm.marks_asked)

  pub marked_handed : (seat address : ℕ) → Handed own f (marked own seat address f)
  unfolding marked
  marked_handed seat address =
      pick_case (λ (g : Farm). Handed own f g) (answers_check own seat address f) _ _
      (λ t. line_stays k (with_marks f (set f.marks seat true)) refl (λ e. refl)
      (λ i m. at i (both_right (active_as address (row_at f.rows seat)) (is_asked own f seat) t) m)
      (λ head rest e p. record { check = refl; asked = λ i. refl })) (λ t. kept_handed)
    where
      at : (i : ℕ) → is_asked own f seat ≡ true → is_marked (set f.marks seat true) i ≡ true → is_asked own f i ≡ true
      at i a m =
          split (eqb i seat) (λ e. rw (eqb-true i seat e) a)
          (λ e. k.calm.marks_asked i (sym (get_or-set_other f.marks seat i true false (eqb-false i seat e)) ∙ m))

  -- a row closes and leaves the line, if it waits: the head stays, or the next is head
  pub left_handed : (seat : ℕ) → Handed own f (left own seat (closed own seat f).farm).farm
  unfolding left closed
  left_handed seat = by f.line refl
    where
      gone : (head : ℕ) (rest : List ℕ) (first : ℕ) (more : List ℕ) → eqb seat head ≡ true → f.line ≡ head ∷ rest → f.line ≡ first ∷ more
          → is_waiting (row_at (advanced own rest (closed own seat f).farm).farm.rows first) ≡ false
      gone head rest first more t e l =
          let z : seat ≡ first = eqb-true seat head t ∙ cc in
          subst (λ (x : Farm). is_waiting (row_at x.rows first) ≡ false) (sym (advanced-farm own rest (closed own seat f).farm))
          (subst (λ (i : ℕ). is_waiting (row_at (set f.rows seat free_row) i) ≡ false) z (ap is_waiting (row-freed f.rows seat)))

      by : (line : List ℕ) → f.line ≡ line → Handed own f (left_by own seat line (closed own seat f).farm).farm
      by [] e =
          line_stays k (closed own seat f).farm refl (λ z. refl) k.calm.marks_asked
          (λ head rest l. absurd (let z : ◌≡◌ {A = ℕ} 0 1 = cc in omega arith))
      by (head ∷ rest) e =
          pick_case (λ (d : Done). Handed own f d.farm) (eqb seat head) _ _
          (λ t. anew (λ first more l. gone head rest first more t e l)
          (subst Anew (sym (advanced-farm own rest (closed own seat f).farm)) (anew_cleared (with_line (closed own seat f).farm rest))))
          (λ t. stays head rest (without seat rest) e refl
          (no_more_lem k (with_line (closed own seat f).farm (head ∷ without seat rest)) head
          (set-wanted f.rows seat head free_row (λ z. eqb-false seat head t (sym z)))
          (set_no_more f.rows seat free_row (λ a u. absurd (false≢true u)))) k.calm.marks_asked)

-- ---- a tick: the clock, the ages, the rows at their limit

-- what stays in a tick up to the settling
record Ticking (f x : Farm) : Type 0 where
  line : x.line ≡ f.line
  clock : f.line ≡ [] → x.clock ≡ f.clock
  marks : x.marks ≡ f.marks
  no_more : NoMore f.rows x.rows
  waits : (i : ℕ) → is_waiting (row_at f.rows i) ≡ true → is_waiting (row_at x.rows i) ≡ true
  wants : (i : ℕ) → is_waiting (row_at f.rows i) ≡ true → wanted (row_at x.rows i) ≡ wanted (row_at f.rows i)

limit_waits : (s : RowState) → at_limit_state s ≡ true → is_waiting_state s ≡ true → ⊥
limit_waits Free e w = false≢true w
limit_waits (Fresh c) e w = false≢true w
limit_waits (Waiting q) e w = false≢true e
limit_waits (Active a c) e w = false≢true w

aged_same : (rows : List Row) (i : ℕ) → SameRow (row_at rows i) (row_at (map older rows) i)
aged_same rows i = rw (row-map older refl rows i) (older_same (row_at rows i).state)

ticking_aged : (f : Farm) (line : List ℕ) → f.line ≡ line → Ticking f (aged (clock_run line f))
ticking_aged f [] e =
    record {
      line = refl;
      clock = λ z. refl;
      marks = refl;
      no_more = λ i a t. sym ((aged_same f.rows i).address a) ∙ t;
      waits = λ i w. (aged_same f.rows i).waits ∙ w;
      wants = λ i w. (aged_same f.rows i).wants;
    }
ticking_aged f (head ∷ rest) e =
    record {
      line = refl;
      clock = λ z. absurd (let y : ◌≡◌ {A = ℕ} 0 1 = cc in omega arith);
      marks = refl;
      no_more = λ i a t. sym ((aged_same f.rows i).address a) ∙ t;
      waits = λ i w. (aged_same f.rows i).waits ∙ w;
      wants = λ i w. (aged_same f.rows i).wants;
    }

ticking_closed : (own : FarmSheet) (f : Farm) (seat : ℕ) (x : Farm) → at_limit (row_at x.rows seat) ≡ true → Ticking f x
    → Ticking f (closed own seat x).farm
unfolding closed
ticking_closed own f seat x t k =
    record {
      line = k.line;
      clock = k.clock;
      marks = k.marks;
      no_more = λ i a u. k.no_more i a (set_no_more x.rows seat free_row (λ b v. absurd (false≢true v)) i a u);
      waits = λ i w. row-set x.rows seat i free_row (λ y. is_waiting y ≡ true) (λ e l. absurd (other i w e)) (k.waits i w);
      wants = λ i w. set-wanted x.rows seat i free_row (other i w) ∙ k.wants i w;
    }
  where
    other : (i : ℕ) → is_waiting (row_at f.rows i) ≡ true → i ≡ seat → ⊥
    other i w e =
        limit_waits (row_at x.rows seat).state t (subst (λ (s : ℕ). is_waiting (row_at x.rows s) ≡ true) e (k.waits i w))

ticking_keeps : (own : FarmSheet) (f : Farm) → Ticking f (tick_settles own f)
ticking_keeps own f =
    closings_keep own (λ seat r. at_limit r) (Ticking f) (aged (clock_run f.line f)) (ticking_aged f f.line refl)
    (λ i x t k. ticking_closed own f i x t k)

module _ {own : FarmSheet} {f : Farm} (k : Ready own f) where
  -- A TICK moves the clock and the ages on, and closes rows at their limit.
  pub ticking_asked : (head : ℕ) (rest : List ℕ) → f.line ≡ head ∷ rest → Stays own f (tick_settles own f) head
  ticking_asked head rest e =
      no_more_lem k (tick_settles own f) head ((ticking_keeps own f).wants head (k.head_waits head rest e)) (ticking_keeps own f).no_more

  pub ticking_handed : Handed own f (tick_settles own f)
  ticking_handed =
      line_stays k (tick_settles own f) (ticking_keeps own f).line (ticking_keeps own f).clock
      (λ i m. k.calm.marks_asked i (subst (λ (l : List Bool). is_marked l i ≡ true) (ticking_keeps own f).marks m)) ticking_asked
