-- The model's line, a case at a time: no waiter, a head whose check goes on, a head that has its answer.
-- Assumes nothing.
use Prim.Native.Nat.{ℕ, ◌+◌}
use mathlib.Core.Path.{◌≡◌, refl, sym, ap, ◌∙◌}
use mathlib.Core.Bool.{Bool, true, false, false≢true}
use mathlib.Core.List.{List, [], ◌∷◌, ◌++◌}
use native.Mathlib.Omega.{arith}
use lib.Dec.{eqb}
use lib.ListN.{length, drop, set}
use lib.Seq.{get_or-drop}
use borrow.Author.Tests.{eq-eqb, ne_eqb}
use Rattle.std.specs.Prelude.{Some, None, slice_get}
use Rattle.std.proofs.lemmas.Option.{none-some, same_Some}
use Rattle.kinds.specs.declared.Request.{Request}
use Rattle.kinds.specs.declared.HeadVerdict.{HeadVerdict}
use Rattle.kinds.specs.declared.HeadVerdict.TheVariants.{Pending, Answer, RunOut}
use Rattle.model.specs.FarmSheet.{FarmSheet}
use Rattle.model.specs.Row.{row_at, waiting_row, active_as, wanted}
use Rattle.model.specs.Farm.{Farm, Done, quietly, and_then, with_row, with_line, with_marks, closed, closed_where}
use Rattle.model.specs.RuleTest.{is_pending}
use Rattle.model.specs.Line.{accepted, is_silent, answered, started, advanced, socket_rules, head_verdict, serve, settle_line, is_empty, joined, without, left_by, left, asked_by, asked_in, is_asked, marked}
use Rattle.model.proofs.Cases.{pick_case}
use Rattle.model.proofs.Seats.{closed-line, closings_keep}
use Rattle.model.proofs.Settling.{advanced-farm}
use Rattle.closing.specs.Did.{Seated}
use Rattle.rowwork.specs.Acted.{acted}

-- ---- seats

pub seated_rest : (line : List ℕ) → Seated line → Seated (drop 1 line)
seated_rest line s = record { each = λ k. rw (get_or-drop 1 line k 0) (s.each (1 + k)) }

-- ---- settling

-- what a verdict does leaves the line alone
answered-line : (own : FarmSheet) (seat address code : ℕ) (f : Farm) → (answered own seat address code f).farm.line ≡ f.line
unfolding answered and_then closed
answered-line own seat address code f = pick_case (λ (d : Done). d.farm.line ≡ f.line) (eqb code accepted) _ _ (λ e. refl) (λ e. refl)

pub acted-line : (own : FarmSheet) (head address : ℕ) (v : HeadVerdict) (f : Farm) → (acted own head address v f).farm.line ≡ f.line
unfolding acted and_then
acted-line own head address Pending f = refl
acted-line own head address (Answer code) f = answered-line own head address code f
acted-line own head address (RunOut check) f =
    answered-line own head address accepted (closed_where own (is_silent check f.marks) f).farm
    ∙ closings_keep own (is_silent check f.marks) (λ x. x.line ≡ f.line) f refl (λ i x e h. closed-line own i x ∙ h)

-- the line that is left when the head has gone
pub advanced-line : (own : FarmSheet) (rest : List ℕ) (f : Farm) → (advanced own rest f).farm.line ≡ rest
advanced-line own rest f = ap (λ (x : Farm). x.line) (advanced-farm own rest f)

module _ (own : FarmSheet) (f : Farm) where
  pub settle-none : (line : List ℕ) → slice_get line 0 ≡ None → settle_line own line f ≡ quietly f
  unfolding settle_line
  settle-none [] h = refl
  settle-none (x ∷ l) h = absurd (none-some x (sym h))

  pub settle_pending : (line : List ℕ) (head : ℕ) → slice_get line 0 ≡ Some head → is_pending (head_verdict own f head) ≡ true
      → settle_line own line f ≡ quietly f
  unfolding settle_line
  settle_pending [] head h e = absurd (none-some head h)
  settle_pending (x ∷ l) head h e = by (head_verdict own f x) (ap (λ (y : ℕ). is_pending (head_verdict own f y)) (same_Some x head h) ∙ e)
    where
      by : (v : HeadVerdict) → is_pending v ≡ true → serve own x l f v (settle_line own l) ≡ quietly f
      by Pending k = refl
      by (Answer code) k = absurd (false≢true k)
      by (RunOut check) k = absurd (false≢true k)

  -- the verdict is done, the line goes on, and the rest is settled
  pub settle_acts : (line : List ℕ) (head : ℕ) → slice_get line 0 ≡ Some head → is_pending (head_verdict own f head) ≡ false
      → settle_line own line f
      ≡ and_then (and_then (acted own head (wanted (row_at f.rows head)) (head_verdict own f head) f) (advanced own (drop 1 line)))
      (settle_line own (drop 1 line))
  unfolding settle_line acted
  settle_acts [] head h e = absurd (none-some head h)
  settle_acts (x ∷ l) head h e = by (head_verdict own f x) (ap (λ (y : ℕ). is_pending (head_verdict own f y)) s ∙ e) ∙ ap from s
    where
      s : x ≡ head
      s = same_Some x head h

      from : ℕ → Done
      from y = and_then (and_then (acted own y (wanted (row_at f.rows y)) (head_verdict own f y) f) (advanced own l)) (settle_line own l)

      by : (v : HeadVerdict) → is_pending v ≡ false
          → serve own x l f v (settle_line own l)
          ≡ and_then (and_then (acted own x (wanted (row_at f.rows x)) v f) (advanced own l)) (settle_line own l)
      by Pending k = absurd (false≢true (sym k))
      by (Answer code) k = refl
      by (RunOut check) k = refl

-- ---- joining and leaving

module _ (own : FarmSheet) (seat : ℕ) (q : Request) (f : Farm) where
  pub joined-first : length f.line ≡ 0
      → joined own seat q f ≡ started own (with_line (with_row f seat (waiting_row q)) (f.line ++ (seat ∷ [])))
  unfolding joined
  joined-first e = rw (by f.line e)
    where
      by : (line : List ℕ) → length line ≡ 0 → is_empty line ≡ true
      by [] h = refl
      by (x ∷ l) h = absurd (omega arith)

  pub joined-behind : (length f.line ≡ 0 → ⊥)
      → joined own seat q f ≡ quietly (with_line (with_row f seat (waiting_row q)) (f.line ++ (seat ∷ [])))
  unfolding joined
  joined-behind e = rw (by f.line e)
    where
      by : (line : List ℕ) → (length line ≡ 0 → ⊥) → is_empty line ≡ false
      by [] h = absurd (h refl)
      by (x ∷ l) h = refl

module _ (own : FarmSheet) (seat : ℕ) (f : Farm) where
  pub left-none : slice_get f.line 0 ≡ None → left own seat f ≡ quietly f
  unfolding left
  left-none e = by f.line e
    where
      by : (line : List ℕ) → slice_get line 0 ≡ None → left_by own seat line f ≡ quietly f
      by [] h = refl
      by (x ∷ l) h = absurd (none-some x (sym h))

  pub left-head : slice_get f.line 0 ≡ Some seat → left own seat f ≡ advanced own (drop 1 f.line) f
  unfolding left
  left-head e = by f.line e
    where
      by : (line : List ℕ) → slice_get line 0 ≡ Some seat → left_by own seat line f ≡ advanced own (drop 1 line) f
      by [] h = absurd (none-some seat h)
      by (x ∷ l) h = rw (eq-eqb seat x (sym (same_Some x seat h)))

  pub left_behind : (head : ℕ) → slice_get f.line 0 ≡ Some head → (seat ≡ head → ⊥)
      → left own seat f ≡ quietly (with_line f (without seat f.line))
  unfolding left
  left_behind head e s = by f.line e
    where
      by : (line : List ℕ) → slice_get line 0 ≡ Some head → left_by own seat line f ≡ quietly (with_line f (without seat line))
      by [] h = absurd (none-some head h)
      by (x ∷ l) h = rw (ne_eqb seat x (λ z. s (z ∙ same_Some x head h)))

-- ---- marking

module _ (own : FarmSheet) (seat : ℕ) (f : Farm) where
  pub asked_none : slice_get f.line 0 ≡ None → is_asked own f seat ≡ false
  unfolding is_asked
  asked_none e = by f.line e
    where
      by : (line : List ℕ) → slice_get line 0 ≡ None → asked_in own f line seat ≡ false
      by [] h = refl
      by (x ∷ l) h = absurd (none-some x (sym h))

  pub asked_head : (head : ℕ) → slice_get f.line 0 ≡ Some head
      → is_asked own f seat ≡ asked_by (socket_rules own f.rows (wanted (row_at f.rows head))) seat (row_at f.rows seat)
  unfolding is_asked
  asked_head head e = by f.line e
    where
      from : ℕ → Bool
      from y = asked_by (socket_rules own f.rows (wanted (row_at f.rows y))) seat (row_at f.rows seat)

      by : (line : List ℕ) → slice_get line 0 ≡ Some head → asked_in own f line seat ≡ from head
      by [] h = absurd (none-some head h)
      by (x ∷ l) h = ap from (same_Some x head h)

  module _ (address : ℕ) where
    pub marked-stranger : active_as address (row_at f.rows seat) ≡ false → marked own seat address f ≡ f
    unfolding marked
    marked-stranger e = rw e

    pub marked_unasked : active_as address (row_at f.rows seat) ≡ true → is_asked own f seat ≡ false → marked own seat address f ≡ f
    unfolding marked
    marked_unasked e a = rw (e, a)

    pub marked-yes : active_as address (row_at f.rows seat) ≡ true → is_asked own f seat ≡ true
        → marked own seat address f ≡ with_marks f (set f.marks seat true)
    unfolding marked
    marked-yes e a = rw (e, a)
