-- A waiter's due time: with k before it and the check clock at c, its answer is due in at most checkLimit * k + (checkLimit - c) ticks.
-- What settling does to it.
-- Assumes nothing.
use Rattle.std.proofs.Common.{Option, Some, None}
use Prim.Native.Nat.{ℕ, zero, suc, ◌+◌, ◌*◌, ◌≤◌, ◌<◌}
use mathlib.Core.Path.{◌≡◌, refl, sym, ap, subst, ◌∙◌}
use mathlib.Core.Bool.{Bool, true, false, false≢true}
use mathlib.Core.List.Memᴰ
use mathlib.Core.List.{List, [], ◌∷◌, ◌++◌}
use native.Mathlib.Nat.{mul-suc}
use native.Mathlib.Omega.{arith}
use lib.Dec.{eqb, leb}
use lib.ListN.{get_or, length}
use borrow.Author.Tests.{leb-false, eqb-true, eqb-false, ne_eqb}
use Rattle.octets.specs.Search.{first_at, count_if}
use Rattle.kinds.specs.declared.Clock.{Clock}
use Rattle.kinds.specs.declared.Item.{Item}
use Rattle.kinds.specs.declared.Request.{Request}
use Rattle.kinds.specs.declared.Row.{Row}
use Rattle.kinds.specs.declared.RowState.TheVariants.{Waiting}
use Rattle.kinds.specs.declared.Check.{Check}
use Rattle.kinds.specs.declared.Check.TheVariants.{One, All}
use Rattle.kinds.specs.declared.Decision.{Decision}
use Rattle.kinds.specs.declared.Decision.TheVariants.{Now, Ask}
use Rattle.kinds.specs.declared.HeadVerdict.{HeadVerdict}
use Rattle.kinds.specs.declared.HeadVerdict.TheVariants.{Pending, Answer, RunOut}
use Rattle.model.specs.FarmSheet.{FarmSheet}
use Rattle.kinds.specs.Clock.{check_limit}
use Rattle.model.specs.Row.{free_row, row_at, wanted_by, is_active_state, active_as_state, is_active, active_as, wanted, active_row}
use Rattle.model.specs.Farm.{Farm, Done, and_then, closed_where}
use Rattle.model.specs.Line.{accepted, by_holder, socket_rules, asks as asksIt, is_silent, all_answered, refusal_of, advanced, answered, verdict_by, head_verdict, serve, settle_line, settle}
use Rattle.model.specs.Words.{Stands, first, behind, Answered, answers}
use Rattle.model.proofs.Cases.{pick_case, split}
use Rattle.model.proofs.Rows.{row_other}
use Rattle.model.proofs.Seats.{then_items, then_farm, closings_keep, closed-rows}
use Rattle.model.proofs.Settling.{advanced-farm, Stands as FirstStands, stands, first_stands}

-- ---- answers among entries

pub more_left : {row address : ℕ} {items : List Item} (more : List Item) → Answered row address items → Answered row address (items ++ more)
more_left more (answers e c m) = answers e c (Memᴰ.append_left more m)

pub more-right : {row address : ℕ} (before : List Item) {items : List Item} → Answered row address items → Answered row address (before ++ items)
more-right before (answers e c m) = answers e c (Memᴰ.append_right before m)

-- what is done answers the row, or leaves a farm of which P holds
pub data After (P : Farm → Type 0) (row address : ℕ) (d : Done) : Type 0 where
  gone : Answered row address d.items → After P row address d
  waits : P d.farm → After P row address d

pub then_after : {P Q : Farm → Type 0} {row address : ℕ} (d : Done) (g : Farm → Done) → After P row address d
    → ((f : Farm) → P f → After Q row address (g f)) → After Q row address (and_then d g)
unfolding and_then
then_after d g (gone a) k = gone (more_left (g d.farm).items a)
then_after {Q = Q} {row = row} {address = address} d g (waits p) k = next (k d.farm p)
  where
    next : After Q row address (g d.farm) → After Q row address (and_then d g)
    next (gone a) = gone (more-right d.items a)
    next (waits q) = waits q

-- ---- due

-- the row waits with its request
abbrev pub Asks : ℕ → Request → Farm → Type 0
Asks seat q f = (row_at f.rows seat).state ≡ Waiting q

-- it stands in the line, and n ticks are enough for its answer; a tick may have brought the clock to the limit
pub record Near (seat : ℕ) (q : Request) (n : ℕ) (f : Farm) : Type 0 where
  pub place : ℕ
  pub at : Stands seat f.line place
  pub runs : f.clock.ticks ≤ check_limit
  pub within : check_limit * place + check_limit ≤ n + f.clock.ticks
  pub asks : Asks seat q f

-- the same between two calls
pub record Due (seat : ℕ) (q : Request) (n : ℕ) (f : Farm) : Type 0 where
  pub near : Near seat q n f
  pub running : f.clock.ticks < check_limit

-- what is seen of a farm by one who waits: line, clock, and its own row
pub record Alike (seat : ℕ) (f g : Farm) : Type 0 where
  pub line : g.line ≡ f.line
  pub clock : g.clock ≡ f.clock
  pub row : row_at g.rows seat ≡ row_at f.rows seat

pub near_same : {seat n : ℕ} {q : Request} (f g : Farm) → Alike seat f g → Near seat q n f → Near seat q n g
near_same {seat} {n} {q} f g s d =
    record {
      place = d.place;
      at = subst (λ (x : List ℕ). Stands seat x d.place) (sym s.line) d.at;
      runs = subst (λ (x : Clock). x.ticks ≤ check_limit) (sym s.clock) d.runs;
      within = subst (λ (x : Clock). check_limit * d.place + check_limit ≤ n + x.ticks) (sym s.clock) d.within;
      asks = subst (λ (r : Row). r.state ≡ Waiting q) (sym s.row) d.asks;
    }

-- ---- an answer

pub answer_in : (own : FarmSheet) (seat address code : ℕ) (f : Farm) → Answered (own.first + seat) address (answered own seat address code f).items
unfolding answered and_then
answer_in own seat address code f =
    pick_case (λ (d : Done). Answered (own.first + seat) address d.items) (eqb code accepted) _ _
    (λ e. answers own.entity code (Memᴰ.head refl)) (λ e. answers own.entity code (Memᴰ.head refl))

-- it touches no row but its own
pub answered-row : (own : FarmSheet) (i address code : ℕ) (f : Farm) (k : ℕ) → (k ≡ i → ⊥)
    → row_at (answered own i address code f).farm.rows k ≡ row_at f.rows k
unfolding answered and_then
answered-row own i address code f k n =
    pick_case (λ (d : Done). row_at d.farm.rows k ≡ row_at f.rows k) (eqb code accepted) _ _
    (λ e. row_other f.rows i k (active_row address) n) (λ e. rw (closed-rows own i f) (row_other f.rows i k free_row n))

-- ---- no check asks a row that waits

-- the first row that passes does pass, and is one of the rows
pub record Passes (p : Row → Bool) (rows : List Row) (i : ℕ) : Type 0 where
  pub within : i < length rows
  pub passes : p (row_at rows i) ≡ true

pub first_at_lem : (p : Row → Bool) (rows : List Row) (s : ℕ) → first_at p 0 rows ≡ Some s → Passes p rows s
first_at_lem p rows s e = by (first_stands p free_row rows s 0 e)
  where
    by : FirstStands p free_row rows s 0 → Passes p rows s
    by (stands i z h t) = let y : i ≡ s = omega arith in subst (Passes p rows) y (record { within = h; passes = t })

-- the check does not ask that seat, as long as its row waits
Spares : ℕ → Check → Type 0
Spares seat (One s) = s ≡ seat → ⊥
Spares seat All = Unit {0}

rules_spare : (own : FarmSheet) (rows : List Row) (a seat : ℕ) (q : Request) (check : Check) → (row_at rows seat).state ≡ Waiting q
    → socket_rules own rows a ≡ Ask check → Spares seat check
unfolding socket_rules Spares
rules_spare own rows a seat q check w = by (first_at (active_as a) 0 rows) refl
  where
    by : (o : Option ℕ) → first_at (active_as a) 0 rows ≡ o → by_holder own rows o ≡ Ask check → Spares seat check
    by (Some s) o e =
        let z : One s ≡ check = cc in
        subst (Spares seat) z
        (λ x.
        let t : active_as a (row_at rows seat) ≡ true = subst (λ (i : ℕ). active_as a (row_at rows i) ≡ true) x (first_at_lem (active_as a) rows s o).passes in
        false≢true (sym (ap (active_as_state a) w) ∙ t))
    by None o e =
        pick_case (λ d. d ≡ Ask check → Spares seat check) (leb own.quota (count_if is_active rows)) (Ask All) (Now accepted)
        (λ _ z. let y : All ≡ check = cc in subst (Spares seat) y tt) (λ _ z. absurd (let y : ◌≡◌ {A = ℕ} 0 1 = cc in omega arith)) e

spared : (seat : ℕ) (q : Request) (check : Check) (marks : List Bool) (r : Row) → Spares seat check → r.state ≡ Waiting q
    → is_silent check marks seat r ≡ false
unfolding Spares
spared seat q check marks r n w =
    pick_case (λ b. b ≡ false) (get_or marks seat false) false (asksIt check seat r) (λ _. refl) (λ _. by check n)
  where
    by : (c : Check) → Spares seat c → asksIt c seat r ≡ false
    by (One s) n = ne_eqb seat s (λ e. n (sym e))
    by All n = ap is_active_state w

-- ---- the next head

-- its check starts: whatever the farm was, the line is the rest and the clock is 0
pub advanced_near : (own : FarmSheet) (seat : ℕ) (q : Request) (n : ℕ) (rest : List ℕ) (f : Farm) (j : ℕ) → Stands seat rest j
    → check_limit * suc j ≤ n → Asks seat q f → Near seat q n (advanced own rest f).farm
advanced_near own seat q n rest f j b w a =
    rw (advanced-farm own rest f)
    (record { place = j; at = b; runs = omega arith; within = omega (arith, mul-suc check_limit j); asks = a })

-- ---- settling

-- what the head's verdict leaves room for
Allows : (seat n k clock : ℕ) → HeadVerdict → Type 0
Allows seat n k clock Pending = clock < check_limit
Allows seat n k clock (Answer code) = check_limit * k ≤ n
Allows seat n k clock (RunOut check) = (check_limit * k ≤ n) × Spares seat check

verdict_allows : (seat n k : ℕ) (f : Farm) (d : Decision) → ((check : Check) → d ≡ Ask check → Spares seat check) → f.clock.ticks ≤ check_limit
    → check_limit * k + check_limit ≤ n + f.clock.ticks → Allows seat n k f.clock.ticks (verdict_by f d)
unfolding Allows
verdict_allows seat n k f (Now code) s r w = omega arith
verdict_allows seat n k f (Ask check) s r w =
    pick_case (Allows seat n k f.clock.ticks) (all_answered check f.marks f.rows) (Answer (refusal_of check)) _ (λ e. omega arith)
    (λ e. pick_case (Allows seat n k f.clock.ticks) (leb check_limit f.clock.ticks) (RunOut check) Pending (λ h. (omega arith, s check refl))
    (λ h. leb-false check_limit f.clock.ticks h))

module _ (own : FarmSheet) (seat : ℕ) (q : Request) (n : ℕ) where
  -- it is answered, or due
  abbrev pub Ends : Done → Type 0
  Ends d = After (Due seat q n) (own.first + seat) q.address d

  -- a farm about to be settled, its line given
  record Lined (line : List ℕ) (f : Farm) : Type 0 where
    is_line : f.line ≡ line
    near : Near seat q n f

  -- the head has its answer: it was this row's, or this row is one place further up and the next check starts
  front : (head : ℕ) (rest : List ℕ) (d : Done) (next : Farm → Done) (k : ℕ) → Stands seat (head ∷ rest) k → check_limit * k ≤ n
      → (head ≡ seat → Answered (own.first + seat) q.address d.items) → ((head ≡ seat → ⊥) → Asks seat q d.farm)
      → ((f : Farm) → Lined rest f → Ends (next f)) → Ends (and_then (and_then d (advanced own rest)) next)
  unfolding and_then
  front head rest d next k at w a kept ih = split (eqb head seat) (λ e. done (eqb-true head seat e)) (λ e. by k at w (eqb-false head seat e))
    where
      done : head ≡ seat → Ends (and_then (and_then d (advanced own rest)) next)
      done e = gone (more_left (next (advanced own rest d.farm).farm).items (more_left (advanced own rest d.farm).items (a e)))

      by : (k : ℕ) → Stands seat (head ∷ rest) k → check_limit * k ≤ n → (head ≡ seat → ⊥) → Ends (and_then (and_then d (advanced own rest)) next)
      by zero (first e) w ne = absurd (ne (sym e))
      by (suc j) (behind b) w ne =
          then_after {P = Lined rest} (and_then d (advanced own rest)) next
          (waits
          (record {
            is_line = ap (λ (f : Farm). f.line) (advanced-farm own rest d.farm);
            near = advanced_near own seat q n rest d.farm j b w (kept ne);
          }))
          ih

  serve_due : (head : ℕ) (rest : List ℕ) (f : Farm) (v : HeadVerdict) (next : Farm → Done) → f.line ≡ head ∷ rest → (d : Near seat q n f)
      → Allows seat n d.place f.clock.ticks v → ((g : Farm) → Lined rest g → Ends (next g)) → Ends (serve own head rest f v next)
  unfolding Allows
  serve_due head rest f Pending next l d w ih = waits (record { near = d; running = w })
  serve_due head rest f (Answer code) next l d w ih =
      front head rest _ next d.place (subst (λ (x : List ℕ). Stands seat x d.place) l d.at) w
      (λ e. rw e (rw (ap wanted_by d.asks) (answer_in own seat q.address code f)))
      (λ ne. rw (answered-row own head (wanted (row_at f.rows head)) code f seat (λ e. ne (sym e))) d.asks)
      ih
  serve_due head rest f (RunOut check) next l d w ih =
      let e : Done = closed_where own (is_silent check f.marks) f in
      let a : Farm → Done = answered own head (wanted (row_at f.rows head)) accepted in
      let k : Asks seat q e.farm =
      closings_keep own (is_silent check f.marks) (Asks seat q) f d.asks
      (λ i x t p. rw (closed-rows own i x)
      (rw (row_other x.rows i seat free_row
      (λ z.
      let s : is_silent check f.marks seat (row_at x.rows seat) ≡ true =
      subst (λ (j : ℕ). is_silent check f.marks j (row_at x.rows j) ≡ true) (sym z) t in
      false≢true (sym (spared seat q check f.marks (row_at x.rows seat) w.1 p) ∙ s))) p))
      in
      front head rest (and_then e a) next d.place (subst (λ (x : List ℕ). Stands seat x d.place) l d.at) w.0
      (λ z. rw (then_items e a) (more-right e.items (rw z (rw (ap wanted_by d.asks) (answer_in own seat q.address accepted e.farm)))))
      (λ ne. rw (then_farm e a, answered-row own head (wanted (row_at f.rows head)) accepted e.farm seat (λ z. ne (sym z))) k)
      ih

  line_due : (line : List ℕ) (f : Farm) → Lined line f → Ends (settle_line own line f)
  unfolding settle_line head_verdict
  line_due [] f d = absurd (nobody (subst (λ (x : List ℕ). Stands seat x d.near.place) d.is_line d.near.at))
    where
      nobody : {k : ℕ} → Stands seat [] k → ⊥
      nobody a = elim a [ ]
  line_due (head ∷ rest) f d =
      serve_due head rest f (head_verdict own f head) (settle_line own rest) d.is_line d.near
      (verdict_allows seat n d.near.place f (socket_rules own f.rows (wanted (row_at f.rows head)))
      (λ check e. rules_spare own f.rows (wanted (row_at f.rows head)) seat q check d.near.asks e) d.near.runs d.near.within)
      (line_due rest)

  -- settling answers the row, or leaves it due
  pub settle_due : (f : Farm) → Near seat q n f → Ends (settle own f)
  settle_due f d = line_due f.line f (record { is_line = refl; near = d })
