-- What a farm does, for any property of the farm and of the entries said so far: if closing a row, giving a row that has nothing in hand
-- a new state, speaking, changing line, clock and marks, and ageing keep it, then settling and every call keep it.
-- Assumes nothing.
use Rattle.std.proofs.Common.{Option, Some, None}
use Prim.Native.Nat.{ℕ, zero, suc, ◌+◌, ◌≤◌, ◌<◌}
use mathlib.Core.Path.{◌≡◌, refl, sym, ap, subst, ◌∙◌}
use mathlib.Core.Bool.{Bool, true, false, false≢true}
use mathlib.Core.Logic.{◌⊎◌, ⊎_elim, inl, inr}
use mathlib.Core.List.{List, [], ◌∷◌, ◌++◌, append_assoc, append-nil}
use native.Mathlib.Omega.{arith}
use lib.Dec.{eqb, leb}
use lib.ListN.{length}
use borrow.Author.Tests.{eqb-true, leb-true, leb-false}
use Rattle.octets.specs.Search.{first_at, count_if}
use Rattle.octets.specs.Fold.{up_to}
use Rattle.kinds.specs.declared.Clock.{Clock}
use Rattle.kinds.specs.declared.Check.{Check}
use Rattle.kinds.specs.declared.Check.TheVariants.{One, All}
use Rattle.kinds.specs.declared.Decision.{Decision}
use Rattle.kinds.specs.declared.Decision.TheVariants.{Now, Ask}
use Rattle.kinds.specs.declared.HeadVerdict.{HeadVerdict}
use Rattle.kinds.specs.declared.HeadVerdict.TheVariants.{Pending, Answer, RunOut}
use Rattle.kinds.specs.declared.RowState.{RowState}
use Rattle.kinds.specs.declared.RowState.TheVariants.{Free, Fresh, Waiting, Active}
use Rattle.kinds.specs.declared.Row.{Row}
use Rattle.kinds.specs.declared.Item.{Item}
use Rattle.model.specs.FarmSheet.{FarmSheet}
use Rattle.kinds.specs.Clock.{clock_of, check_limit}
use Rattle.model.specs.Row.{row_of, free_row, row_at, in_hand, is_open_state, is_open, is_active, active_as, wanted}
use Rattle.model.specs.Farm.{Farm, seat_count, with_row, with_line, Done, quietly, and_then, each_seat, closed, closed_if, closed_where}
use Rattle.model.specs.Line.{accepted, asks, is_silent, is_marked, all_answered, by_holder, asked_if, asking, cleared, started_by, started, advanced, answered, verdict_by, head_verdict, serve, settle_line, socket_rules}
use Rattle.model.specs.Move.{aged}
use Rattle.model.specs.Meter.{is_close}
use Rattle.model.proofs.Cases.{pick_case, split}
use Rattle.model.proofs.Rows.{row-set}
use Rattle.model.proofs.MeterBalance.{hand_boundary, Clear, clear_below, clear_first, clear_rest, clear_set}

-- ---- the property, and what keeps it

pub record Laws (own : FarmSheet) (Q : List Item → Farm → Type 0) : Type 0 where
  pub closes : (is : List Item) (seat : ℕ) (f : Farm) → seat < own.rows → Q is f → Q (is ++ (closed own seat f).items) (closed own seat f).farm
  pub puts : (is : List Item) (seat : ℕ) (s : RowState) (f : Farm) → seat < own.rows → is_open_state s ≡ true → in_hand (row_at f.rows seat) ≡ 0
      → Q is f → Q is (with_row f seat (row_of s))
  pub speaks : (is : List Item) (it : Item) (f : Farm) → is_close it.reply ≡ false → Q is f → Q (is ++ (it ∷ [])) f
  pub lines : (is : List Item) (f : Farm) (line : List ℕ) (clock : Clock) (marks : List Bool) → Q is f
      → Q is (record { rows = f.rows; line = line; clock = clock; marks = marks; meters = f.meters })
  pub ages : (is : List Item) (f : Farm) → Q is f → Q is (aged f)

-- beside it: rows beyond the farm's own are not open, and the rows of the line l are the farm's, with nothing in hand
pub record Keeps (own : FarmSheet) (Q : List Item → Farm → Type 0) (l : List ℕ) (is : List Item) (f : Farm) : Type 0 where
  pub holds : Q is f
  pub clear : Clear own.rows f.rows l
  pub within : (i : ℕ) → own.rows ≤ i → is_open (row_at f.rows i) ≡ false

-- ---- one thing after another

-- a property of what was said and of the farm, after a part of a call that starts at a farm where `is` was said
abbrev pub Then : (List Item → Farm → Type 0) → List Item → Done → Type 0
Then K is d = K (is ++ d.items) d.farm

pub then_then : (K J : List Item → Farm → Type 0) (is : List Item) (d : Done) (g : Farm → Done) → Then K is d
    → ((js : List Item) → K js d.farm → Then J js (g d.farm)) → Then J is (and_then d g)
unfolding and_then
then_then K J is d g k h =
    subst (λ (js : List Item). J js (g d.farm).farm) (append_assoc is d.items (g d.farm).items) (h (is ++ d.items) k)

pub then_quiet : (K : List Item → Farm → Type 0) (is : List Item) (f : Farm) → K is f → Then K is (quietly f)
then_quiet K is f k = subst (λ (js : List Item). K js f) (sym (append-nil is)) k

pub then_each : (K : List Item → Farm → Type 0) (is : List Item) (g : ℕ → Farm → Done) (f : Farm) → K is f
    → ((i : ℕ) (js : List Item) (x : Farm) → K js x → Then K js (g i x)) → Then K is (each_seat g f)
unfolding each_seat up_to
then_each K is g f k h = go seat_count
  where
    go : (n : ℕ) → Then K is (up_to (λ i d. and_then d (g i)) (quietly f) n)
    go zero = then_quiet K is f k
    go (suc n) = then_then K K is (up_to (λ i d. and_then d (g i)) (quietly f) n) (g n) (go n) (λ js x. h n js _ x)

-- ---- rows that are the farm's own

pub open_below : (own : FarmSheet) (f : Farm) → ((i : ℕ) → own.rows ≤ i → is_open (row_at f.rows i) ≡ false)
    → (i : ℕ) → is_open (row_at f.rows i) ≡ true → i < own.rows
open_below own f w i o =
    split (leb own.rows i) (λ t. absurd (false≢true (sym (w i (leb-true own.rows i t)) ∙ o))) (λ t. leb-false own.rows i t)

-- rows that pass a test are among the farm's own: by their number, or for being open
abbrev pub Owned : FarmSheet → (ℕ → Row → Bool) → Type 0
Owned own test = (i : ℕ) (r : Row) → test i r ≡ true → (i < own.rows) ⊎ (is_open r ≡ true)

module _ {own : FarmSheet} {Q : List Item → Farm → Type 0} (laws : Laws own Q) {l : List ℕ} where
  pub speak_keeps : (is : List Item) (it : Item) (f : Farm) → is_close it.reply ≡ false → Keeps own Q l is f → Keeps own Q l (is ++ (it ∷ [])) f
  speak_keeps is it f e k = record { holds = laws.speaks is it f e k.holds; clear = k.clear; within = k.within }

  pub closed_keeps : (is : List Item) (seat : ℕ) (f : Farm) → seat < own.rows → Keeps own Q l is f → Then (Keeps own Q l) is (closed own seat f)
  unfolding closed
  closed_keeps is seat f b k =
      record {
        holds = laws.closes is seat f b k.holds;
        clear = clear_set seat free_row refl k.clear;
        within = λ i h. row-set f.rows seat i free_row (λ y. is_open y ≡ false) (λ _ _. refl) (k.within i h);
      }

  pub closings_keeps : (is : List Item) (test : ℕ → Row → Bool) (f : Farm) → Owned own test → Keeps own Q l is f
      → Then (Keeps own Q l) is (closed_where own test f)
  unfolding closed_if
  closings_keeps is test f o k =
      then_each (Keeps own Q l) is (closed_if own test) f k
      (λ i js x q. pick_case (Then (Keeps own Q l) js) (test i (row_at x.rows i)) (closed own i x) (quietly x)
      (λ t. closed_keeps js i x (⊎_elim (λ b. b) (open_below own x q.within i) (o i (row_at x.rows i) t)) q)
      (λ _. then_quiet (Keeps own Q l) js x q))

  pub put_keeps : (is : List Item) (seat : ℕ) (s : RowState) (f : Farm) → seat < own.rows → is_open_state s ≡ true → in_hand (row_at f.rows seat) ≡ 0
      → Keeps own Q l is f → Keeps own Q l is (with_row f seat (row_of s))
  put_keeps is seat s f b o e k =
      record {
        holds = laws.puts is seat s f b o e k.holds;
        clear = clear_set seat (row_of s) (hand_boundary s) k.clear;
        within = λ i h. row-set f.rows seat i (row_of s) (λ y. is_open y ≡ false) (λ z _. absurd (omega arith)) (k.within i h);
      }

  pub lines_keeps : (is : List Item) (f : Farm) (line : List ℕ) (clock : Clock) (marks : List Bool) → Keeps own Q l is f
      → Keeps own Q l is (record { rows = f.rows; line = line; clock = clock; marks = marks; meters = f.meters })
  lines_keeps is f line clock marks k = record { holds = laws.lines is f line clock marks k.holds; clear = k.clear; within = k.within }

  -- ---- answers and checks

  pub answered_keeps : (is : List Item) (seat address code : ℕ) (f : Farm) → seat < own.rows → in_hand (row_at f.rows seat) ≡ 0
      → Keeps own Q l is f → Then (Keeps own Q l) is (answered own seat address code f)
  unfolding answered
  answered_keeps is seat address code f b e k =
      pick_case (Then (Keeps own Q l) is) (eqb code accepted) _ _
      (λ _. speak_keeps is _ _ refl (put_keeps is seat (Active address (clock_of 0)) f b refl e k))
      (λ _. then_then (Keeps own Q l) (Keeps own Q l) is _ (closed own seat) (speak_keeps is _ f refl k) (λ js q. closed_keeps js seat f b q))

  asking_keeps : (is : List Item) (d : Decision) (f : Farm) → Keeps own Q l is f → Then (Keeps own Q l) is (asking own d f)
  unfolding asked_if
  asking_keeps is (Now code) f k = then_quiet (Keeps own Q l) is f k
  asking_keeps is (Ask check) f k =
      then_each (Keeps own Q l) is (asked_if own check) f k
      (λ i js x q. pick_case (Then (Keeps own Q l) js) (asks check i (row_at x.rows i)) _ _ (λ _. speak_keeps js _ x refl q)
      (λ _. then_quiet (Keeps own Q l) js x q))

  started-by_keeps : (is : List Item) (m : List ℕ) (f : Farm) → Keeps own Q l is f → Then (Keeps own Q l) is (started_by own m f)
  started-by_keeps is [] f k = then_quiet (Keeps own Q l) is (cleared f) (lines_keeps is f f.line _ _ k)
  started-by_keeps is (head ∷ rest) f k =
      asking_keeps is (socket_rules own f.rows (wanted (row_at f.rows head))) (cleared f) (lines_keeps is f f.line _ _ k)

  pub started_keeps : (is : List Item) (f : Farm) → Keeps own Q l is f → Then (Keeps own Q l) is (started own f)
  unfolding started
  started_keeps is f k = started-by_keeps is f.line f k

  pub advanced_keeps : (is : List Item) (rest : List ℕ) (f : Farm) → Keeps own Q l is f → Then (Keeps own Q l) is (advanced own rest f)
  unfolding advanced
  advanced_keeps is rest f k = started_keeps is (with_line f rest) (lines_keeps is f rest f.clock f.marks k)

-- ---- the rows that a check asks are the farm's own

-- the first row that passes a test
pub record Picked (p : Row → Bool) (rows : List Row) (k i : ℕ) : Type 0 where
  pub seat : ℕ
  pub at : i ≡ k + seat
  pub inside : seat < length rows
  pub is : p (row_at rows seat) ≡ true

nothing_at : {i : ℕ} → None ≡ Some i → ⊥
nothing_at e = let z : ◌≡◌ {A = ℕ} 0 1 = cc in omega arith

pub first_picked : (p : Row → Bool) (rows : List Row) (k i : ℕ) → first_at p k rows ≡ Some i → Picked p rows k i
unfolding first_at
first_picked p [] k i e = absurd (nothing_at e)
first_picked p (x ∷ rows) k i e =
    split (p x) (λ t. record { seat = 0; at = here (rw t at e); inside = omega arith; is = t })
    (λ t. let r = first_picked p rows (suc k) i (rw t at e) in
    record { seat = suc r.seat; at = omega (arith, r.at); inside = omega (arith, r.inside); is = r.is })
  where
    here : Some k ≡ Some i → i ≡ k + 0
    here e = let z : k ≡ i = cc in omega arith

active_open : (a : ℕ) (r : Row) (s : RowState) → r.state ≡ s → active_as a r ≡ true → is_open r ≡ true
active_open a r Free e t = absurd (false≢true (rw e at t))
active_open a r (Fresh c) e t = rw e refl
active_open a r (Waiting q) e t = rw e refl
active_open a r (Active b c) e t = rw e refl

is_active_open : (r : Row) (s : RowState) → r.state ≡ s → is_active r ≡ true → is_open r ≡ true
is_active_open r Free e t = absurd (false≢true (rw e at t))
is_active_open r (Fresh c) e t = rw e refl
is_active_open r (Waiting q) e t = rw e refl
is_active_open r (Active b c) e t = rw e refl

module _ (own : FarmSheet) (f : Farm) (within : (i : ℕ) → own.rows ≤ i → is_open (row_at f.rows i) ≡ false) (a : ℕ) (check : Check) where
  all-owned : Owned own (asks All)
  all-owned i r t = inr (is_active_open r r.state refl t)

  holder_owned : (x : Option ℕ) → first_at (active_as a) 0 f.rows ≡ x → by_holder own f.rows x ≡ Ask check → Owned own (asks check)
  holder_owned (Some s) p e =
      λ i r t.
      let q = first_picked (active_as a) f.rows 0 s p in
      let c : check ≡ One s = cc in
      let u : eqb i s ≡ true = ap (λ (y : Check). asks y i r) (sym c) ∙ t in
      let b = open_below own f within q.seat (active_open a (row_at f.rows q.seat) (row_at f.rows q.seat).state refl q.is) in
      inl (omega (arith, eqb-true i s u, q.at, b))
  holder_owned None p e =
      pick_case (λ (d : Decision). d ≡ Ask check → Owned own (asks check)) (leb own.quota (count_if is_active f.rows)) _ _
      (λ _ d. let c : check ≡ All = cc in subst (λ (y : Check). Owned own (asks y)) (sym c) all-owned)
      (λ _ d. absurd (let z : ◌≡◌ {A = ℕ} 0 1 = cc in omega arith)) e

  check-owned : socket_rules own f.rows a ≡ Ask check → Owned own (asks check)
  unfolding socket_rules
  check-owned e = holder_owned (first_at (active_as a) 0 f.rows) refl e

run_out : (f : Farm) (d : Decision) (check : Check) → verdict_by f d ≡ RunOut check → d ≡ Ask check
run_out f (Now code) check e = absurd (let z : ◌≡◌ {A = ℕ} 0 1 = cc in omega arith)
run_out f (Ask c) check e =
    pick_case (λ (v : HeadVerdict). v ≡ RunOut check → Ask c ≡ Ask check) (all_answered c f.marks f.rows) _ _
    (λ _ z. absurd (let y : ◌≡◌ {A = ℕ} 0 1 = cc in omega arith))
    (λ _. pick_case (λ (v : HeadVerdict). v ≡ RunOut check → Ask c ≡ Ask check) (leb check_limit f.clock.ticks) _ _
    (λ _ z. (cc)) (λ _ z. absurd (let y : ◌≡◌ {A = ℕ} 0 1 = cc in omega arith))) e

silent_owned : (own : FarmSheet) (check : Check) (marks : List Bool) → Owned own (asks check) → Owned own (is_silent check marks)
silent_owned own check marks o i r =
    pick_case (λ (b : Bool). b ≡ true → (i < own.rows) ⊎ (is_open r ≡ true)) (is_marked marks i) _ _ (λ _ t. absurd (false≢true t)) (λ _ t. o i r t)

run_out_owned : (own : FarmSheet) (f : Farm) → ((i : ℕ) → own.rows ≤ i → is_open (row_at f.rows i) ≡ false) → (head : ℕ) (check : Check)
    → head_verdict own f head ≡ RunOut check → Owned own (is_silent check f.marks)
unfolding head_verdict
run_out_owned own f w head check e =
    silent_owned own check f.marks
    (check-owned own f w (wanted (row_at f.rows head)) check (run_out f (socket_rules own f.rows (wanted (row_at f.rows head))) check e))

-- ---- settling

module _ {own : FarmSheet} {Q : List Item → Farm → Type 0} (laws : Laws own Q) where
  tail_keeps : {i : ℕ} {l : List ℕ} (is : List Item) (f : Farm) → Keeps own Q (i ∷ l) is f → Keeps own Q l is f
  tail_keeps is f k = record { holds = k.holds; clear = clear_rest k.clear; within = k.within }

  -- the head has its answer, and the line goes on
  goes_on_lem : (head : ℕ) (rest : List ℕ) (is : List Item) (d : Done) (g : Farm → Done)
      → ((js : List Item) (x : Farm) → Keeps own Q rest js x → Then Q js (g x)) → Then (Keeps own Q (head ∷ rest)) is d
      → Then Q is (and_then (and_then d (advanced own rest)) g)
  goes_on_lem head rest is d g ih k =
      then_then (Keeps own Q (head ∷ rest)) Q is (and_then d (advanced own rest)) g
      (then_then (Keeps own Q (head ∷ rest)) (Keeps own Q (head ∷ rest)) is d (advanced own rest) k (λ js x. advanced_keeps laws js rest d.farm x))
      (λ js x. ih js _ (tail_keeps js _ x))

  serve_keeps : (head : ℕ) (rest : List ℕ) (is : List Item) (f : Farm) (v : HeadVerdict) (g : Farm → Done) → head_verdict own f head ≡ v
      → ((js : List Item) (x : Farm) → Keeps own Q rest js x → Then Q js (g x)) → Keeps own Q (head ∷ rest) is f → Then Q is (serve own head rest f v g)
  serve_keeps head rest is f Pending g e ih k = then_quiet Q is f k.holds
  serve_keeps head rest is f (Answer code) g e ih k =
      goes_on_lem head rest is (answered own head (wanted (row_at f.rows head)) code f) g ih
      (answered_keeps laws is head (wanted (row_at f.rows head)) code f (clear_below k.clear) (clear_first k.clear) k)
  serve_keeps head rest is f (RunOut check) g e ih k =
      let c = closed_where own (is_silent check f.marks) f in
      let a : Farm → Done = answered own head (wanted (row_at f.rows head)) accepted in
      goes_on_lem head rest is (and_then c a) g ih
      (then_then (Keeps own Q (head ∷ rest)) (Keeps own Q (head ∷ rest)) is c a
      (closings_keeps laws is (is_silent check f.marks) f (run_out_owned own f k.within head check e) k)
      (λ js q. answered_keeps laws js head (wanted (row_at f.rows head)) accepted c.farm (clear_below q.clear) (clear_first q.clear) q))

  pub settle_keeps : (l : List ℕ) (is : List Item) (f : Farm) → Keeps own Q l is f → Then Q is (settle_line own l f)
  unfolding settle_line
  settle_keeps [] is f k = then_quiet Q is f k.holds
  settle_keeps (head ∷ rest) is f k =
      serve_keeps head rest is f (head_verdict own f head) (settle_line own rest) refl (λ js x q. settle_keeps rest js x q) k
