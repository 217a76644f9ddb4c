-- Settling and the running check: where settling ends, and that a settled farm stays as it is.
-- Assumes nothing.
use Rattle.std.proofs.Common.{Option, Some, None}
use Prim.Native.Nat.{ℕ, zero, suc, ◌+◌, ◌≤◌, ◌<◌}
use mathlib.Core.Path.{◌≡◌, refl, sym, ap, subst, ◌∙◌}
use mathlib.Core.Bool.{Bool, true, false, false≢true, true≢false}
use mathlib.Core.List.{List, [], ◌∷◌}
use mathlib.Core.Logic.{⊎_elim}
use native.Mathlib.Nat.{not-suc-le-zero, eq-or-lt_of_le}
use native.Mathlib.Omega.{arith}
use lib.Dec.{leb}
use lib.ListN.{get_or, length, replicate}
use borrow.Author.Tests.{leb-false, leb-true, lt-leb, eq-eqb}
use Rattle.octets.specs.Choice.{pick, one}
use Rattle.octets.specs.Search.{first_at, count_if}
use Rattle.octets.specs.Fold.{up_to}
use Rattle.kinds.specs.declared.Row.{Row}
use Rattle.kinds.specs.declared.Check.{Check}
use Rattle.kinds.specs.declared.Check.TheVariants.{One, All}
use Rattle.kinds.specs.declared.Decision.{Decision}
use Rattle.kinds.specs.declared.Decision.TheVariants.{Now, Ask}
use Rattle.kinds.specs.declared.HeadVerdict.{HeadVerdict}
use Rattle.kinds.specs.declared.HeadVerdict.TheVariants.{Pending, Answer, RunOut}
use Rattle.model.specs.FarmSheet.{FarmSheet}
use Rattle.kinds.specs.Clock.{check_limit}
use Rattle.model.specs.Row.{free_row, row_at, is_active, active_as, wanted}
use Rattle.model.specs.Farm.{Farm, seat_count, new_farm, no_marks, with_line, Done, quietly, and_then, closed_where}
use Rattle.model.specs.Line.{accepted, by_holder, socket_rules, asked_by, is_asked, asks, is_silent, all_answered, asked_if, asking, cleared, started_by, started, advanced, answered, is_marked, verdict_by, head_verdict, serve, settle_line, settle}
use Rattle.model.specs.Rule.{HeadKeeps}
use Rattle.model.proofs.Cases.{pick_case, split}
use Rattle.model.proofs.Seats.{each_keeps}
use Rattle.model.proofs.RuleParts.{Calm}

-- ---- what the head of the line needs, and which rows its check asks

abbrev pub head_need : FarmSheet → Farm → ℕ → Decision
head_need own f head = socket_rules own f.rows (wanted (row_at f.rows head))

abbrev pub asks_row : FarmSheet → Farm → ℕ → ℕ → Bool
asks_row own f head i = asked_by (head_need own f head) i (row_at f.rows i)

pub asked_is : (own : FarmSheet) (f : Farm) (head : ℕ) (rest : List ℕ) → f.line ≡ head ∷ rest → (i : ℕ) → is_asked own f i ≡ asks_row own f head i
unfolding is_asked
asked_is own f head rest e i = rw e refl

pub asked_none : (own : FarmSheet) (f : Farm) → f.line ≡ [] → (i : ℕ) → is_asked own f i ≡ false
unfolding is_asked
asked_none own f e i = rw e refl

-- ---- clock and marks as they are where a check starts, or the line is empty

pub record Anew (f : Farm) : Type 0 where
  pub clock_zero : f.clock.ticks ≡ 0
  pub none_marked : (i : ℕ) → is_marked f.marks i ≡ false

pub none-marked : (n i : ℕ) → is_marked (replicate n false) i ≡ false
none-marked zero i = refl
none-marked (suc n) zero = refl
none-marked (suc n) (suc i) = none-marked n i

pub anew_cleared : (f : Farm) → Anew (cleared f)
anew_cleared f = record { clock_zero = refl; none_marked = none-marked seat_count }

-- asking changes nothing: it only says
pub asking-farm : (own : FarmSheet) (d : Decision) (f : Farm) → (asking own d f).farm ≡ f
unfolding asked_if
asking-farm own (Now code) f = refl
asking-farm own (Ask check) f =
    each_keeps (asked_if own check) f (λ g. g ≡ f) refl
    (λ i x e. pick_case (λ (d : Done). d.farm ≡ f) (asks check i (row_at x.rows i)) _ _ (λ t. e) (λ t. e))

pub started-farm : (own : FarmSheet) (f : Farm) → (started own f).farm ≡ cleared f
unfolding started
started-farm own f = by f.line
  where
    by : (line : List ℕ) → (started_by own line f).farm ≡ cleared f
    by [] = refl
    by (head ∷ rest) = asking-farm own (head_need own f head) (cleared f)

pub advanced-farm : (own : FarmSheet) (rest : List ℕ) (f : Farm) → (advanced own rest f).farm ≡ cleared (with_line f rest)
unfolding advanced
advanced-farm own rest f = started-farm own (with_line f rest)

-- ---- where settling ends

pub limit_positive : 0 < check_limit
unfolding check_limit
limit_positive = omega arith

-- what settling must be handed: an empty line has clock 0 and no marks; where the head's check goes on, marks stand on asked rows only
abbrev pub Fits : FarmSheet → Farm → List ℕ → Type 0
Fits own f [] = Anew f
Fits own f (head ∷ rest) = head_verdict own f head ≡ Pending → (i : ℕ) → is_marked f.marks i ≡ true → asks_row own f head i ≡ true

pub anew_fits : (own : FarmSheet) (f : Farm) (line : List ℕ) → Anew f → Fits own f line
anew_fits own f [] a = a
anew_fits own f (head ∷ rest) a = λ e i m. absurd (false≢true (sym (a.none_marked i) ∙ m))

-- a check that goes on is one that is needed, and its clock is below the limit
pub data Runs (own : FarmSheet) (f : Farm) (head : ℕ) : Type 0 where
  runs : (check : Check) → head_need own f head ≡ Ask check → f.clock.ticks < check_limit → Runs own f head

pub pending_runs : (own : FarmSheet) (f : Farm) (head : ℕ) → head_verdict own f head ≡ Pending → Runs own f head
unfolding head_verdict
pending_runs own f head e = by (head_need own f head) refl e
  where
    by : (d : Decision) → head_need own f head ≡ d → verdict_by f d ≡ Pending → Runs own f head
    by (Now code) n p = absurd (let z : ◌≡◌ {A = ℕ} 0 1 = cc in omega arith)
    by (Ask check) n p =
        pick_case (λ v. v ≡ Pending → Runs own f head) (all_answered check f.marks f.rows) _ _
        (λ t q. absurd (let z : ◌≡◌ {A = ℕ} 0 1 = cc in omega arith))
        (λ t. pick_case (λ v. v ≡ Pending → Runs own f head) (leb check_limit f.clock.ticks) _ _
        (λ u q. absurd (let z : ◌≡◌ {A = ℕ} 0 1 = cc in omega arith))
        (λ u q. runs check n (leb-false check_limit f.clock.ticks u)))
        p

pub calm_none : (own : FarmSheet) (f : Farm) → f.line ≡ [] → Anew f → Calm own f
calm_none own f e a =
    record {
      head_keeps = subst (HeadKeeps own f) (sym e) a.clock_zero;
      check_runs = omega (arith, a.clock_zero, limit_positive);
      marks_asked = λ i m. absurd (false≢true (sym (a.none_marked i) ∙ m));
    }

calm_pending : (own : FarmSheet) (f : Farm) (head : ℕ) (rest : List ℕ) → f.line ≡ head ∷ rest → head_verdict own f head ≡ Pending
    → ((i : ℕ) → is_marked f.marks i ≡ true → asks_row own f head i ≡ true) → Calm own f
calm_pending own f head rest e p m =
    record {
      head_keeps = subst (HeadKeeps own f) (sym e) p;
      check_runs = below (pending_runs own f head p);
      marks_asked = λ i t. asked_is own f head rest e i ∙ m i t;
    }
  where
    below : Runs own f head → f.clock.ticks < check_limit
    below (runs check n l) = l

calm_next : (own : FarmSheet) (rest : List ℕ) (next : Farm → Done) → ((g : Farm) → g.line ≡ rest → Anew g → Calm own (next g).farm)
    → (f : Farm) → Calm own (next (advanced own rest f).farm).farm
calm_next own rest next ih f =
    ih (advanced own rest f).farm (rw (advanced-farm own rest f) refl) (rw (advanced-farm own rest f) (anew_cleared (with_line f rest)))

calm_serve : (own : FarmSheet) (head : ℕ) (rest : List ℕ) (f : Farm) (v : HeadVerdict) (next : Farm → Done) → head_verdict own f head ≡ v
    → f.line ≡ head ∷ rest → Fits own f (head ∷ rest) → ((g : Farm) → g.line ≡ rest → Anew g → Calm own (next g).farm)
    → Calm own (serve own head rest f v next).farm
unfolding and_then
calm_serve own head rest f Pending next v e t ih = calm_pending own f head rest e v (t v)
calm_serve own head rest f (Answer code) next v e t ih = calm_next own rest next ih (answered own head (wanted (row_at f.rows head)) code f).farm
calm_serve own head rest f (RunOut check) next v e t ih =
    calm_next own rest next ih
    (answered own head (wanted (row_at f.rows head)) accepted (closed_where own (is_silent check f.marks) f).farm).farm

calm_line : (own : FarmSheet) (line : List ℕ) (f : Farm) → f.line ≡ line → Fits own f line → Calm own (settle_line own line f).farm
unfolding settle_line
calm_line own [] f e t = calm_none own f e t
calm_line own (head ∷ rest) f e t =
    calm_serve own head rest f (head_verdict own f head) (settle_line own rest) refl e t
    (λ g q a. calm_line own rest g q (anew_fits own g rest a))

-- ---- a check that has just started

-- where some seat says no, so do all together
some_no : (b : ℕ → Bool) (n i : ℕ) → i < n → b i ≡ true → up_to (λ k ok. pick (b k) false ok) true n ≡ false
unfolding up_to
some_no b zero i h e = absurd (not-suc-le-zero h)
some_no b (suc n) i h e =
    split (b n) (λ t. rw t refl)
    (λ t. rw t
    (some_no b n i
    (⊎_elim (λ (q : suc i ≡ suc n). absurd (true≢false (sym e ∙ rw (suc_inj q) t))) (λ (l : suc i < suc n). omega arith) (eq-or-lt_of_le h)) e))
  where
    suc_inj : suc i ≡ suc n → i ≡ n
    suc_inj q = omega arith

pub silent_open : (check : Check) (marks : List Bool) (rows : List Row) (i : ℕ) → i < seat_count → is_silent check marks i (row_at rows i) ≡ true
    → all_answered check marks rows ≡ false
unfolding all_answered
silent_open check marks rows i h e = some_no (λ k. is_silent check marks k (row_at rows k)) seat_count i h e

-- where the first stands that passes: its place is one of the list's, and it passes
pub data Stands {A : Type 0} (p : A → Bool) (d : A) (l : List A) (s k : ℕ) : Type 0 where
  stands : (i : ℕ) → s ≡ k + i → i < length l → p (get_or l i d) ≡ true → Stands p d l s k

pub first_stands : {A : Type 0} (p : A → Bool) (d : A) (l : List A) (s k : ℕ) → first_at p k l ≡ Some s → Stands p d l s k
unfolding first_at
first_stands p d [] s k e = absurd (let z : ◌≡◌ {A = ℕ} 0 1 = cc in omega arith)
first_stands p d (x ∷ l) s k e =
    pick_case (λ o. o ≡ Some s → Stands p d (x ∷ l) s k) (p x) _ _
    (λ t q. let z : k ≡ s = cc in stands 0 (omega arith) (omega arith) t)
    (λ t q. later (first_stands p d l s (suc k) q)) e
  where
    later : Stands p d l s (suc k) → Stands p d (x ∷ l) s k
    later (stands i q h u) = stands (suc i) (omega arith) (omega arith) u

-- where the count is not 0, some member passes
pub data SomePass {A : Type 0} (p : A → Bool) (d : A) (l : List A) : Type 0 where
  some_at : (i : ℕ) → i < length l → p (get_or l i d) ≡ true → SomePass p d l

pub count-has : {A : Type 0} (p : A → Bool) (d : A) (l : List A) → 1 ≤ count_if p l → SomePass p d l
unfolding count_if
count-has p d [] h = absurd (not-suc-le-zero h)
count-has p d (x ∷ l) h =
    split (p x) (λ t. some_at 0 (omega arith) t)
    (λ t. let z : one (p x) ≡ 0 = ap one t in later (count-has p d l (omega arith)))
  where
    later : SomePass p d l → SomePass p d (x ∷ l)
    later (some_at i g u) = some_at (suc i) (omega arith) u

-- A check that the rules ask for asks at least one of the farm's rows.
pub data AsksSome (own : FarmSheet) (rows : List Row) (check : Check) : Type 0 where
  asks_at : (i : ℕ) → i < length rows → asks check i (row_at rows i) ≡ true → AsksSome own rows check

pub asks-some : (own : FarmSheet) → 1 ≤ own.quota → (rows : List Row) (want : ℕ) (check : Check) → socket_rules own rows want ≡ Ask check
    → AsksSome own rows check
unfolding socket_rules
asks-some own q rows want check = by (first_at (active_as want) 0 rows) refl
  where
    all : (d : SomePass is_active free_row rows) → All ≡ check → AsksSome own rows check
    all (some_at i h t) e = asks_at i h (rw (← e) t)

    that : (s : ℕ) → Stands (active_as want) free_row rows s 0 → One s ≡ check → AsksSome own rows check
    that s (stands i z h t) e = asks_at i h (rw (← e) (eq-eqb i s (omega arith)))

    by : (o : Option ℕ) → first_at (active_as want) 0 rows ≡ o → by_holder own rows o ≡ Ask check → AsksSome own rows check
    by (Some s) o e = that s (first_stands (active_as want) free_row rows s 0 o) (cc)
    by None o e =
        pick_case (λ d. d ≡ Ask check → AsksSome own rows check) (leb own.quota (count_if is_active rows)) _ _
        (λ t g. all (count-has is_active free_row rows (omega (arith, leb-true own.quota (count_if is_active rows) t))) (cc))
        (λ t g. absurd (let z : ◌≡◌ {A = ℕ} 0 1 = cc in omega arith)) e

zero_runs : leb check_limit 0 ≡ false
zero_runs = lt-leb check_limit 0 limit_positive

-- A HEAD THAT HAS JUST COME UP, with clock 0 and no marks: if it needs a check, that check is undecided.
pub started_open : (own : FarmSheet) → 1 ≤ own.quota → (f : Farm) → length f.rows ≡ seat_count → (head : ℕ) (check : Check)
    → head_need own f head ≡ Ask check → head_verdict own (started own f).farm head ≡ Pending
unfolding head_verdict
started_open own q f l head check e =
    rw (started-farm own f) (rw e (rw (undecided (asks-some own q f.rows (wanted (row_at f.rows head)) check e)) (rw zero_runs refl)))
  where
    undecided : AsksSome own f.rows check → all_answered check no_marks f.rows ≡ false
    undecided (asks_at i h t) = silent_open check no_marks f.rows i (omega arith) (rw (none-marked seat_count i) t)

-- ---- the main theorems

-- SETTLING ENDS CALM: with an empty line, clock 0 and no marks, or with a head whose check is needed and undecided, its clock below the
-- limit, and marks on asked rows only. It must be handed marks on rows that the head's check asks, and an empty line with clock 0.
pub settle-fits : (own : FarmSheet) (f : Farm) → Fits own f f.line → Calm own (settle own f).farm
settle-fits own f t = calm_line own f.line f refl t

pub settle_calm : (own : FarmSheet) (f : Farm) → (f.line ≡ [] → f.clock.ticks ≡ 0)
    → ((i : ℕ) → is_marked f.marks i ≡ true → is_asked own f i ≡ true) → Calm own (settle own f).farm
settle_calm own f z m = settle-fits own f (by f.line refl)
  where
    none : f.line ≡ [] → (i : ℕ) (b : Bool) → is_marked f.marks i ≡ b → is_marked f.marks i ≡ false
    none e i true t = absurd (false≢true (sym (asked_none own f e i) ∙ m i t))
    none e i false t = t

    by : (line : List ℕ) → f.line ≡ line → Fits own f line
    by [] e = record { clock_zero = z e; none_marked = λ i. none e i (is_marked f.marks i) refl }
    by (head ∷ rest) e = λ p i t. sym (asked_is own f head rest e i) ∙ m i t

-- SETTLING A SETTLED FARM changes nothing and says nothing.
pub settle_again : {own : FarmSheet} {f : Farm} → Calm own f → settle own f ≡ quietly f
unfolding settle_line
settle_again {own} {f} c = by f.line c.head_keeps
  where
    by : (line : List ℕ) → HeadKeeps own f line → settle_line own line f ≡ quietly f
    by [] e = refl
    by (head ∷ rest) e = rw e refl

-- A NEW FARM is calm.
pub new_calm : (own : FarmSheet) → Calm own new_farm
unfolding new_farm
new_calm own = calm_none own new_farm refl (record { clock_zero = refl; none_marked = none-marked seat_count })
