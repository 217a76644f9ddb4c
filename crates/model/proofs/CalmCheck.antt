-- While the head of a line stays, the rows that its check asks stay the same: for each change that a call makes before it settles.
-- Assumes nothing.
use Prim.Native.Nat.{ℕ, zero, suc, ◌≤◌, ◌<◌}
use mathlib.Core.Path.{◌≡◌, refl, sym, ap, subst, ◌∙◌}
use mathlib.Core.Bool.{Bool, true, false, false≢true}
use mathlib.Core.List.{List, [], ◌∷◌}
use native.Mathlib.Omega.{arith}
use lib.Dec.{eqb}
use lib.ListN.{set}
use borrow.Author.Tests.{eq-eqb}
use Rattle.octets.specs.Choice.{pick, one}
use Rattle.octets.specs.Search.{count_if}
use Rattle.octets.specs.Fold.{up_to}
use Rattle.kinds.specs.declared.Clock.{Clock}
use Rattle.kinds.specs.declared.RowState.{RowState}
use Rattle.kinds.specs.declared.RowState.TheVariants.{Free, Fresh, Waiting, Active}
use Rattle.kinds.specs.declared.Row.{Row}
use Rattle.kinds.specs.declared.Decision.{Decision}
use Rattle.kinds.specs.declared.Decision.TheVariants.{Now, Ask}
use Rattle.kinds.specs.declared.HeadVerdict.TheVariants.{Pending}
use Rattle.model.specs.FarmSheet.{FarmSheet}
use Rattle.kinds.specs.Clock.{clock_of, check_limit, stepped}
use Rattle.model.specs.Row.{row_at, is_waiting_state, is_waiting, is_active_state, is_active, active_as_state, active_as, wanted_by, wanted, older_state, heard_state}
use Rattle.model.specs.Farm.{Farm, seat_count}
use Rattle.model.specs.Line.{asked_by, is_asked, is_marked, is_silent, all_answered, verdict_by, head_verdict, settle}
use Rattle.model.specs.Rule.{times, HeadKeeps, Good}
use Rattle.model.proofs.Rows.{row-set}
use Rattle.model.proofs.RuleParts.{Calm, calm_of}
use Rattle.model.proofs.Settling.{head_need, asks_row, asked_is, asked_none, Anew, Fits, anew_fits, Runs, runs, pending_runs, settle-fits}
use Rattle.model.proofs.CalmRows.{NoMore, alike_count, SameAsked, same_asked, fewer_same}

-- ---- what is needed of a farm before a change

pub record Ready (own : FarmSheet) (f : Farm) : Type 0 where
  pub active_once : (a : ℕ) → count_if (active_as a) f.rows ≤ 1
  pub places_left : count_if is_active f.rows ≤ own.quota
  pub head_waits : (head : ℕ) (rest : List ℕ) → f.line ≡ head ∷ rest → is_waiting (row_at f.rows head) ≡ true
  pub calm : Calm own f

pub ready_of : {own : FarmSheet} {f : Farm} → Good own f → Ready own f
unfolding count_if
ready_of {own} {f} k =
    record {
      active_once = k.active_once;
      places_left = k.places_left;
      head_waits = λ head rest e. by head rest (is_waiting (row_at f.rows head)) (sym (k.lined head) ∙ ap (times head) e);
      calm = calm_of k;
    }
  where
    by : (head : ℕ) (rest : List ℕ) (b : Bool) → one b ≡ times head (head ∷ rest) → b ≡ true
    by head rest true e = refl
    by head rest false e = let z : one (eqb head head) ≡ 1 = ap one (eq-eqb head head refl) in absurd (omega arith)

-- ---- the same check, of the same rows

pub record SameCheck (own : FarmSheet) (f g : Farm) (head : ℕ) : Type 0 where
  pub check : head_need own g head ≡ head_need own f head
  pub asked : (i : ℕ) → asks_row own g head i ≡ asks_row own f head i

-- if its check still goes on, it is that of before
abbrev pub Stays : FarmSheet → (f g : Farm) → ℕ → Type 0
Stays own f g head = head_verdict own g head ≡ Pending → SameCheck own f g head

pub same_check : (own : FarmSheet) (f g : Farm) (head : ℕ) → wanted (row_at g.rows head) ≡ wanted (row_at f.rows head)
    → SameAsked own f.rows g.rows (wanted (row_at f.rows head)) → SameCheck own f g head
same_check own f g head e s = record { check = rw e s.check; asked = λ i. rw e (s.asked i) }

-- where no row has become active
pub no_more_lem : {own : FarmSheet} {f : Farm} → Ready own f → (g : Farm) (head : ℕ) → wanted (row_at g.rows head) ≡ wanted (row_at f.rows head)
    → NoMore f.rows g.rows → Stays own f g head
no_more_lem {own} {f} k g head e h p = by (pending_runs own g head p)
  where
    by : Runs own g head → SameCheck own f g head
    by (runs check n l) =
        same_check own f g head e
        (fewer_same own f.rows g.rows (wanted (row_at f.rows head)) (k.active_once (wanted (row_at f.rows head))) k.places_left h check
        (rw e at n))

-- ---- the verdict is the same where check, clock and marks are

every_same : (b c : ℕ → Bool) → ((i : ℕ) → b i ≡ c i) → (n : ℕ)
    → up_to (λ i ok. pick (b i) false ok) true n ≡ up_to (λ i ok. pick (c i) false ok) true n
unfolding up_to
every_same b c e zero = refl
every_same b c e (suc n) = rw (e n, every_same b c e n) refl

pub verdict_same : (own : FarmSheet) (f g : Farm) (head : ℕ) → SameCheck own f g head → g.clock ≡ f.clock → g.marks ≡ f.marks
    → head_verdict own g head ≡ head_verdict own f head
unfolding head_verdict all_answered
verdict_same own f g head s c m =
    rw s.check (by (head_need own f head) (λ i. sym (ap (λ d. asked_by d i (row_at g.rows i)) s.check) ∙ s.asked i))
  where
    by : (d : Decision) → ((i : ℕ) → asked_by d i (row_at g.rows i) ≡ asked_by d i (row_at f.rows i)) → verdict_by g d ≡ verdict_by f d
    by (Now code) h = refl
    by (Ask check) h =
        rw (
          every_same (λ i. is_silent check g.marks i (row_at g.rows i)) (λ i. is_silent check f.marks i (row_at f.rows i))
              (λ i. rw (m, h i) refl) seat_count,
          c,
        ) refl

-- ---- a change that no rule on the line sees

-- a row in this state waits, is active and asks for an address as one in that
pub record SameState (s t : RowState) : Type 0 where
  pub waits : is_waiting_state t ≡ is_waiting_state s
  pub wants : wanted_by t ≡ wanted_by s
  pub active : is_active_state t ≡ is_active_state s
  pub address : (a : ℕ) → active_as_state a t ≡ active_as_state a s

pub same_state : (s : RowState) → SameState s s
same_state s = record { waits = refl; wants = refl; active = refl; address = λ a. refl }

pub same_fresh : (c d : Clock) → SameState (Fresh c) (Fresh d)
same_fresh c d = record { waits = refl; wants = refl; active = refl; address = λ a. refl }

pub same_active : (a : ℕ) (c d : Clock) → SameState (Active a c) (Active a d)
same_active a c d = record { waits = refl; wants = refl; active = refl; address = λ b. refl }

pub older_same : (s : RowState) → SameState s (older_state s)
older_same Free = same_state Free
older_same (Fresh c) = same_fresh c (stepped c)
older_same (Waiting q) = same_state (Waiting q)
older_same (Active a c) = same_active a c (stepped c)

pub heard_same : (n : ℕ) (s : RowState) → SameState s (heard_state n s)
heard_same n Free = same_state Free
heard_same n (Fresh c) = same_fresh c c
heard_same n (Waiting q) = same_state (Waiting q)
heard_same n (Active a c) = same_active a c (pick (eqb n 0) c (clock_of 0))

abbrev pub SameRow : Row → Row → Type 0
SameRow x y = SameState x.state y.state

-- the rows are as they were, but one that is the same in this sense
pub set_same : (rows : List Row) (seat : ℕ) (x : Row) → SameRow (row_at rows seat) x → (i : ℕ) → SameRow (row_at rows i) (row_at (set rows seat x) i)
set_same rows seat x s i = row-set rows seat i x (λ y. SameRow (row_at rows i) y) (λ e l. rw e s) (same_state (row_at rows i).state)

module _ {own : FarmSheet} {f : Farm} (k : Ready own f) (g : Farm) (s : (i : ℕ) → SameRow (row_at f.rows i) (row_at g.rows i)) where
  -- the check is the same, whether or not it goes on
  pub rows_same : (head : ℕ) → SameCheck own f g head
  rows_same head =
      same_check own f g head (s head).wants
      (same_asked own f.rows g.rows (wanted (row_at f.rows head)) (λ i. (s i).active) (λ i. (s i).address (wanted (row_at f.rows head))))

  pub ready_same : g.line ≡ f.line → g.clock ≡ f.clock → g.marks ≡ f.marks → Ready own g
  ready_same e c m =
      record {
        active_once = λ a. omega (arith, k.active_once a, alike_count (active_as a) refl f.rows g.rows (λ i. (s i).address a));
        places_left = omega (arith, k.places_left, alike_count is_active refl f.rows g.rows (λ i. (s i).active));
        head_waits = λ head rest l. (s head).waits ∙ k.head_waits head rest (sym e ∙ l);
        calm =
            record {
              head_keeps = by f.line refl k.calm.head_keeps;
              check_runs = subst (λ (x : Clock). x.ticks < check_limit) (sym c) k.calm.check_runs;
              marks_asked = λ i t. asked i ∙ k.calm.marks_asked i (subst (λ (x : List Bool). is_marked x i ≡ true) m t);
            };
      }
    where
      by : (line : List ℕ) → f.line ≡ line → HeadKeeps own f line → HeadKeeps own g g.line
      by [] l h = subst (HeadKeeps own g) (sym (e ∙ l)) (ap (λ (x : Clock). x.ticks) c ∙ h)
      by (head ∷ rest) l h = subst (HeadKeeps own g) (sym (e ∙ l)) (verdict_same own f g head (rows_same head) c m ∙ h)

      at : (i : ℕ) (line : List ℕ) → f.line ≡ line → is_asked own g i ≡ is_asked own f i
      at i [] l = asked_none own g (e ∙ l) i ∙ sym (asked_none own f l i)
      at i (head ∷ rest) l = asked_is own g head rest (e ∙ l) i ∙ (rows_same head).asked i ∙ sym (asked_is own f head rest l i)

      asked : (i : ℕ) → is_asked own g i ≡ is_asked own f i
      asked i = at i f.line refl

-- ---- what a call hands to settling

pub data Handed (own : FarmSheet) (f g : Farm) : Type 0 where
  -- a check starts, or the line is empty; a head that was there waits no longer
  anew : ((head : ℕ) (rest : List ℕ) → f.line ≡ head ∷ rest → is_waiting (row_at g.rows head) ≡ false) → Anew g → Handed own f g
  -- the head stays, and with it the rows that its check asks; marks stand on rows that were asked
  stays : (head : ℕ) (rest left : List ℕ) → f.line ≡ head ∷ rest → g.line ≡ head ∷ left → Stays own f g head
      → ((i : ℕ) → is_marked g.marks i ≡ true → is_asked own f i ≡ true) → Handed own f g

pub handed_calm : (own : FarmSheet) (f g : Farm) → Handed own f g → Calm own (settle own g).farm
handed_calm own f g (anew n a) = settle-fits own g (anew_fits own g g.line a)
handed_calm own f g (stays head rest left e l s m) =
    settle-fits own g (subst (Fits own g) (sym l) (λ p i t. (s p).asked i ∙ sym (asked_is own f head rest e i) ∙ m i t))

-- WHILE THE HEAD STAYS, its check asks the rows that it asked: so after all that a call does before it settles.
pub handed_asked : (own : FarmSheet) (f g : Farm) → Handed own f g → (head : ℕ) (rest : List ℕ) → f.line ≡ head ∷ rest
    → is_waiting (row_at g.rows head) ≡ true → Stays own f g head
handed_asked own f g (anew n a) head rest e w = absurd (false≢true (sym (n head rest e) ∙ w))
handed_asked own f g (stays first more left l q s m) head rest e w =
    let z : first ≡ head = cc in subst (Stays own f g) z s

pub same_then : {own : FarmSheet} {f g x : Farm} {head : ℕ} → SameCheck own f g head → SameCheck own g x head → SameCheck own f x head
same_then a b = record { check = b.check ∙ a.check; asked = λ i. b.asked i ∙ a.asked i }

-- a change that leaves the line alone, the clock too where the line is empty, and marks none but asked rows
pub line_stays : {own : FarmSheet} {f : Farm} → Ready own f → (g : Farm) → g.line ≡ f.line → (f.line ≡ [] → g.clock ≡ f.clock)
    → ((i : ℕ) → is_marked g.marks i ≡ true → is_asked own f i ≡ true)
    → ((head : ℕ) (rest : List ℕ) → f.line ≡ head ∷ rest → Stays own f g head) → Handed own f g
line_stays {own} {f} k g e c m s = by f.line refl k.calm.head_keeps
  where
    none : f.line ≡ [] → (i : ℕ) (b : Bool) → is_marked g.marks i ≡ b → is_marked g.marks i ≡ false
    none l i true t = absurd (false≢true (sym (asked_none own f l i) ∙ m i t))
    none l i false t = t

    by : (line : List ℕ) → f.line ≡ line → HeadKeeps own f line → Handed own f g
    by [] l h =
        anew (λ head rest q. absurd (let z : ◌≡◌ {A = ℕ} 0 1 = cc in omega arith))
        (record { clock_zero = ap (λ (x : Clock). x.ticks) (c l) ∙ h; none_marked = λ i. none l i (is_marked g.marks i) refl })
    by (head ∷ rest) l h = stays head rest rest l (e ∙ l) (s head rest l) m
