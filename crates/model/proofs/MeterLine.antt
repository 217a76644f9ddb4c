-- A property that the single doings of a farm keep (MeterDoings) is kept by what a call does to the line before it is settled: joining,
-- leaving, marking.
-- Assumes nothing.
use Prim.Native.Nat.{ℕ, ◌<◌}
use mathlib.Core.Path.{◌≡◌, refl, sym, subst, ◌∙◌}
use mathlib.Core.Bool.{Bool, true}
use mathlib.Core.List.{List, [], ◌∷◌, ◌++◌}
use lib.Dec.{eqb}
use lib.ListN.{set}
use Rattle.kinds.specs.declared.Request.{Request}
use Rattle.kinds.specs.declared.Decision.{Decision}
use Rattle.kinds.specs.declared.Decision.TheVariants.{Now, Ask}
use Rattle.kinds.specs.declared.RowState.TheVariants.{Waiting}
use Rattle.kinds.specs.declared.Row.{Row}
use Rattle.kinds.specs.declared.Item.{Item}
use Rattle.model.specs.FarmSheet.{FarmSheet}
use Rattle.model.specs.Row.{row_at, in_hand, waiting_row, wanted}
use Rattle.model.specs.Farm.{Farm, with_row, with_line, Done, quietly, and_then, closed, closed_where}
use Rattle.model.specs.Line.{accepted, asks, asked_if, asking, cleared, started_by, started, advanced, answered, socket_rules, joined, is_empty, without, left_by, left, marked, answers_check}
use Rattle.model.proofs.Cases.{pick_case}
use Rattle.model.proofs.Rows.{row-set}
use Rattle.model.proofs.Seats.{each_keeps, closings_keep, closed-line}
use Rattle.model.proofs.MeterBalance.{next, clear_below, clear_first, clear_rest, clear_append, clear_without}
use Rattle.model.proofs.MeterDoings.{Laws, Keeps, Then, then_quiet, Owned, closed_keeps, closings_keeps, put_keeps, lines_keeps, answered_keeps, started_keeps, advanced_keeps}

-- ---- the line that things leave

asked_line : (own : FarmSheet) (d : Decision) (f : Farm) → (asking own d f).farm.line ≡ f.line
unfolding asked_if
asked_line own (Now code) f = refl
asked_line own (Ask check) f =
    each_keeps (asked_if own check) f (λ x. x.line ≡ f.line) refl
    (λ i x e. pick_case (λ (d : Done). d.farm.line ≡ f.line) (asks check i (row_at x.rows i)) _ _ (λ _. e) (λ _. e))

started-by-line : (own : FarmSheet) (l : List ℕ) (f : Farm) → (started_by own l f).farm.line ≡ f.line
started-by-line own [] f = refl
started-by-line own (head ∷ rest) f = asked_line own (socket_rules own f.rows (wanted (row_at f.rows head))) (cleared f)

started-line : (own : FarmSheet) (f : Farm) → (started own f).farm.line ≡ f.line
unfolding started
started-line own f = started-by-line own f.line f

advanced-line : (own : FarmSheet) (rest : List ℕ) (f : Farm) → (advanced own rest f).farm.line ≡ rest
unfolding advanced
advanced-line own rest f = started-line own (with_line f rest)

answered-line : (own : FarmSheet) (seat address code : ℕ) (f : Farm) → (answered own seat address code f).farm.line ≡ f.line
unfolding answered and_then
answered-line own seat address code f =
    pick_case (λ (d : Done). d.farm.line ≡ f.line) (eqb code accepted) _ _ (λ _. refl) (λ _. closed-line own seat f)

closings_line : (own : FarmSheet) (test : ℕ → Row → Bool) (f : Farm) → (closed_where own test f).farm.line ≡ f.line
closings_line own test f =
    closings_keep own test (λ x. x.line ≡ f.line) f refl (λ i x _ e. closed-line own i x ∙ e)

-- ---- the line is the farm's own

pub record Ready (own : FarmSheet) (Q : List Item → Farm → Type 0) (is : List Item) (f : Farm) : Type 0 where
  pub keeps : Keeps own Q f.line is f

module _ {own : FarmSheet} {Q : List Item → Farm → Type 0} (laws : Laws own Q) where
  -- from what is kept with the line that a part of a call leaves
  pub ready_of : (l : List ℕ) (is : List Item) (d : Done) → d.farm.line ≡ l → Then (Keeps own Q l) is d → Then (Ready own Q) is d
  ready_of l is d e k = record { keeps = subst (λ (m : List ℕ). Keeps own Q m (is ++ d.items) d.farm) (sym e) k }

  pub ready_closed : (is : List Item) (seat : ℕ) (f : Farm) → seat < own.rows → Ready own Q is f → Then (Ready own Q) is (closed own seat f)
  ready_closed is seat f b k = ready_of f.line is (closed own seat f) (closed-line own seat f) (closed_keeps laws is seat f b k.keeps)

  pub ready_closings : (is : List Item) (test : ℕ → Row → Bool) (f : Farm) → Owned own test → Ready own Q is f
      → Then (Ready own Q) is (closed_where own test f)
  ready_closings is test f o k =
      ready_of f.line is (closed_where own test f) (closings_line own test f) (closings_keeps laws is test f o k.keeps)

  pub ready_answered : (is : List Item) (seat address code : ℕ) (f : Farm) → seat < own.rows → in_hand (row_at f.rows seat) ≡ 0
      → Ready own Q is f → Then (Ready own Q) is (answered own seat address code f)
  ready_answered is seat address code f b e k =
      ready_of f.line is (answered own seat address code f) (answered-line own seat address code f)
      (answered_keeps laws is seat address code f b e k.keeps)

  pub ready_joined : (is : List Item) (seat : ℕ) (q : Request) (f : Farm) → seat < own.rows → in_hand (row_at f.rows seat) ≡ 0 → Ready own Q is f
      → Then (Ready own Q) is (joined own seat q f)
  unfolding joined
  ready_joined is seat q f b e k =
      pick_case (Then (Ready own Q) is) (is_empty f.line) _ _
      (λ _. ready_of g.line is (started own g) (started-line own g) (started_keeps laws is g p))
      (λ _. then_quiet (Ready own Q) is g (record { keeps = p }))
    where
      g : Farm
      g = with_line (with_row f seat (waiting_row q)) (f.line ++ (seat ∷ []))

      p : Keeps own Q g.line is g
      p =
          let x = put_keeps laws is seat (Waiting q) f b refl e k.keeps in
          let y = lines_keeps laws is (with_row f seat (waiting_row q)) (f.line ++ (seat ∷ [])) f.clock f.marks x in
          record {
            holds = y.holds;
            clear = clear_append seat b (row-set f.rows seat seat (waiting_row q) (λ z. in_hand z ≡ 0) (λ _ _. refl) e) y.clear;
            within = y.within;
          }

  left-by_ready : (is : List Item) (seat : ℕ) (l : List ℕ) (f : Farm) → f.line ≡ l → Keeps own Q l is f → Then (Ready own Q) is (left_by own seat l f)
  left-by_ready is seat [] f e k = ready_of [] is (quietly f) e (then_quiet (Keeps own Q []) is f k)
  left-by_ready is seat (head ∷ rest) f e k =
      pick_case (Then (Ready own Q) is) (eqb seat head) _ _
      (λ _. ready_of rest is (advanced own rest f) (advanced-line own rest f)
      (advanced_keeps laws is rest f (record { holds = k.holds; clear = clear_rest k.clear; within = k.within })))
      (λ _. then_quiet (Ready own Q) is (with_line f (head ∷ without seat rest))
      (let y = lines_keeps laws is f (head ∷ without seat rest) f.clock f.marks k in
      record {
        keeps =
            record {
              holds = y.holds;
              clear = next (clear_below k.clear) (clear_first k.clear) (clear_without seat (clear_rest k.clear));
              within = k.within;
            };
      }))

  pub ready_left : (is : List Item) (seat : ℕ) (f : Farm) → Ready own Q is f → Then (Ready own Q) is (left own seat f)
  unfolding left
  ready_left is seat f k = left-by_ready is seat f.line f refl k.keeps

  pub ready_marked : (is : List Item) (seat address : ℕ) (f : Farm) → Ready own Q is f → Ready own Q is (marked own seat address f)
  unfolding marked
  ready_marked is seat address f k =
      pick_case (Ready own Q is) (answers_check own seat address f) _ _
      (λ _. record { keeps = lines_keeps laws is f f.line f.clock (set f.marks seat true) k.keeps }) (λ _. k)
