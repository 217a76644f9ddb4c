-- A request that must wait joins the end of its farm's line: one farm's part of it.
-- Assumes nothing.
use Prim.Native.Nat.{ℕ, suc, ◌*◌, ◌≤◌, ◌<◌}
use mathlib.Core.Path.{◌≡◌, refl, sym, ap, ◌∙◌}
use mathlib.Core.Bool.{Bool, true, false}
use mathlib.Core.List.{List, [], ◌∷◌, ◌++◌, append-nil}
use native.Mathlib.Nat.{mul-suc}
use native.Mathlib.Omega.{arith}
use lib.Dec.{eqb, leb}
use lib.ListN.{set, length, length-set, take}
use Rattle.octets.specs.Choice.{unless}
use Rattle.kinds.specs.declared.Clock.{Clock}
use Rattle.kinds.specs.declared.Request.{Request}
use Rattle.kinds.specs.declared.Row.{Row}
use Rattle.kinds.specs.declared.RowState.{RowState}
use Rattle.kinds.specs.declared.RowState.TheVariants.{Free, Fresh, Waiting, Active}
use Rattle.kinds.specs.declared.Check.{Check}
use Rattle.kinds.specs.declared.Decision.{Decision}
use Rattle.kinds.specs.declared.Decision.TheVariants.{Now, Ask}
use Rattle.kinds.specs.declared.HeadVerdict.TheVariants.{Pending}
use Rattle.payload.specs.Payload.{request_in}
use Rattle.model.specs.FarmSheet.{FarmSheet}
use Rattle.kinds.specs.Clock.{check_limit}
use Rattle.model.specs.Row.{row_at, waiting_row, is_open_state, is_waiting_state, is_active_state, active_as_state, is_active, active_as, wanted, heard_state}
use Rattle.model.specs.Stream.{finished, Taken}
use Rattle.model.specs.Farm.{Farm, Done, quietly, and_then, seat_count, with_row, with_line}
use Rattle.model.specs.Line.{accepted, by_state, socket_rules, decide, asks, advanced, head_verdict, settle_line, settle, is_empty, joined}
use Rattle.model.specs.Bytes.{requested, event_done, heard, heard_row, bytes_done}
use Rattle.model.specs.Rule.{HeadKeeps, Good}
use Rattle.model.specs.Words.{Stands, first, behind}
use Rattle.model.proofs.Cases.{pick_case, unless_case}
use Rattle.model.proofs.Rows.{row-set, row_same, row_other, open_in}
use Rattle.model.proofs.Settling.{advanced-farm, limit_positive, started_open}
use Rattle.model.proofs.CalmRows.{Alike, SameAsked, same_asked}
use Rattle.model.proofs.CalmCheck.{ready_of, same_check, verdict_same}
use Rattle.model.proofs.CalmChange.{apart}
use Rattle.model.proofs.Due.{Due, advanced_near}

-- ---- a row that is not active, before and after a store: no rule on the line sees the difference

record Idle (r : Row) : Type 0 where
  active : is_active r ≡ false
  address : (a : ℕ) → active_as a r ≡ false

-- a test that neither the old row nor the new one passes
idle_alike : (p : Row → Bool) (rows : List Row) (i : ℕ) (x : Row) → p (row_at rows i) ≡ false → p x ≡ false → Alike p rows (set rows i x)
idle_alike p rows i x was is k =
    row-set rows i k x (λ y. p y ≡ p (row_at rows k)) (λ e h. is ∙ sym was ∙ ap (λ (j : ℕ). p (row_at rows j)) (sym e)) refl

module _ (own : FarmSheet) (rows : List Row) (i : ℕ) (x : Row) (was : Idle (row_at rows i)) (is : Idle x) where
  idle_asked : (a : ℕ) → SameAsked own rows (set rows i x) a
  idle_asked a =
      same_asked own rows (set rows i x) a (idle_alike is_active rows i x was.active is.active)
      (idle_alike (active_as a) rows i x (was.address a) (is.address a))

-- ---- the rules for a row that is not active

not_ask : {code : ℕ} {check : Check} → Now code ≡ Ask check → ⊥
not_ask e = let z : ◌≡◌ {A = ℕ} 0 1 = cc in omega arith

state_ask : (own : FarmSheet) (rows : List Row) (a : ℕ) (check : Check) (x : RowState) → by_state own rows a x ≡ Ask check
    → (is_active_state x ≡ false) × (socket_rules own rows a ≡ Ask check)
state_ask own rows a check Free e = (refl, e)
state_ask own rows a check (Fresh age) e = (refl, e)
state_ask own rows a check (Waiting q) e = (refl, e)
state_ask own rows a check (Active b idle) e =
    pick_case (λ d. d ≡ Ask check → (true ≡ false) × (socket_rules own rows a ≡ Ask check)) (eqb b a) (Now accepted) (Now 0x02)
    (λ _ n. absurd (not_ask n)) (λ _ n. absurd (not_ask n)) e

-- a request that is to wait comes from a row that is not active, and the check is that of the socket rules
pub decide_ask : (own : FarmSheet) (rows : List Row) (i : ℕ) (q : Request) (check : Check) → decide own rows i q ≡ Ask check
    → (is_active (row_at rows i) ≡ false) × (socket_rules own rows q.address ≡ Ask check)
unfolding decide
decide_ask own rows i q check =
    unless_case P (own.tester q.address) _ _ (λ _ e. absurd (not_ask e))
    (λ _. unless_case P (leb q.kind 1) _ _ (λ _ e. absurd (not_ask e)) (λ _ e. state_ask own rows q.address check (row_at rows i).state e))
  where
    P : Decision → Type 0
    P d = d ≡ Ask check → (is_active (row_at rows i) ≡ false) × (socket_rules own rows q.address ≡ Ask check)

-- of a fresh row, place and header bytes do not matter
decide-fresh : (own : FarmSheet) (rows : List Row) (i : ℕ) (q : Request) (age : Clock) → (row_at rows i).state ≡ Fresh age
    → decide own rows i q ≡ unless (own.tester q.address) (Now 0x00) (unless (leb q.kind 1) (Now 0x06) (socket_rules own rows q.address))
unfolding decide
decide-fresh own rows i q age e = rw e refl

pub stands_end : (seat : ℕ) (l : List ℕ) → Stands seat (l ++ seat ∷ []) (length l)
stands_end seat [] = first refl
stands_end seat (x ∷ l) = behind (stands_end seat l)

-- ---- the call by which a fresh row gives the last byte of a request that must wait

module _ (own : FarmSheet) (f : Farm) (seat : ℕ) (t : Taken) (size : ℕ) (request : Request) (check : Check) (age : Clock)
    (fresh : (row_at f.rows seat).state ≡ Fresh age) (whole : t.event ≡ finished 0x0005 size)
    (says : request_in (take size t.stream.room) ≡ request) (ask : decide own f.rows seat request ≡ Ask check) where
  abbrev after : Row
  after = heard_row t.count t.stream (row_at f.rows seat)

  was : Idle (row_at f.rows seat)
  was = record { active = ap is_active_state fresh; address = λ a. ap (active_as_state a) fresh }

  is : Idle after
  is =
      record {
        active = ap (λ (x : RowState). is_active_state (heard_state t.count x)) fresh;
        address = λ a. ap (λ (x : RowState). active_as_state a (heard_state t.count x)) fresh;
      }

  fresh_still : (row_at (set f.rows seat after) seat).state ≡ Fresh age
  fresh_still =
      row-set f.rows seat seat after (λ (y : Row). y.state ≡ Fresh age) (λ e h. ap (heard_state t.count) fresh) fresh

  -- the rules say the same when the bytes are taken
  still_asks : decide own (set f.rows seat after) seat request ≡ Ask check
  still_asks =
      decide-fresh own (set f.rows seat after) seat request age fresh_still
      ∙ rw (idle_asked own f.rows seat after was is request.address).check (sym (decide-fresh own f.rows seat request age fresh))
      ∙ ask

  -- so the row joins
  event_joins : event_done own seat t.event t.stream.room (heard seat t f) ≡ joined own seat request (heard seat t f)
  unfolding event_done requested heard
  event_joins = rw (whole, says, still_asks) refl

  abbrev at_end : Farm
  at_end = with_row (heard seat t f) seat (waiting_row request)

  -- with its request
  is_there : row_at at_end.rows seat ≡ waiting_row request
  unfolding heard
  is_there =
      row_same (set f.rows seat after) seat (waiting_row request) (open_in (set f.rows seat after) seat (ap is_open_state fresh_still))

  waits_there : (row_at at_end.rows seat).state ≡ Waiting request
  waits_there = ap (λ (r : Row). r.state) is_there

  abbrev joins : Done
  joins = joined own seat request (heard seat t f)

  -- at the end of the line, it is due
  joined_due : (n : ℕ) → f.clock.ticks < check_limit → check_limit * suc (length f.line) ≤ n → Due seat request n joins.farm
  unfolding joined heard advanced
  joined_due n r w =
      pick_case (λ (d : Done). Due seat request n d.farm) (is_empty f.line) _ _
      (λ e. record {
        near = advanced_near own seat request n (f.line ++ seat ∷ []) at_end (length f.line) (stands_end seat f.line) w waits_there;
        running = rw (advanced-farm own (f.line ++ seat ∷ []) at_end) limit_positive;
      })
      (λ e. record {
        near =
            record {
              place = length f.line;
              at = stands_end seat f.line;
              runs = omega arith;
              within = omega (arith, mul-suc check_limit (length f.line));
              asks = waits_there;
            };
        running = r;
      })

  joined_line : joins.farm.line ≡ f.line ++ seat ∷ []
  unfolding joined heard advanced
  joined_line =
      pick_case (λ (d : Done). d.farm.line ≡ f.line ++ seat ∷ []) (is_empty f.line) _ _
      (λ e. ap (λ (x : Farm). x.line) (advanced-farm own (f.line ++ seat ∷ []) at_end)) (λ e. refl)

  -- ---- from a farm that keeps the rules, it is not answered by that call: it stands at the end of the line as it was

  module _ (quota : 1 ≤ own.quota) (good : Good own f) where
    waits-is : Idle (waiting_row request)
    waits-is = record { active = refl; address = λ a. refl }

    was_then : Idle (row_at (set f.rows seat after) seat)
    was_then = record { active = ap is_active_state fresh_still; address = λ a. ap (active_as_state a) fresh_still }

    same : (a : ℕ) → SameAsked own f.rows at_end.rows a
    unfolding heard
    same a =
        let x : SameAsked own f.rows (set f.rows seat after) a = idle_asked own f.rows seat after was is a in
        let y : SameAsked own (set f.rows seat after) at_end.rows a =
        idle_asked own (set f.rows seat after) seat (waiting_row request) was_then waits-is a in
        record { check = y.check ∙ x.check; asked = λ i. y.asked i ∙ x.asked i }

    -- the row itself asks for its address
    need : socket_rules own at_end.rows (wanted (row_at at_end.rows seat)) ≡ Ask check
    unfolding heard
    need =
        rw is_there
        ((same request.address).check ∙ (decide_ask own f.rows seat request check ask).1)

    many : length at_end.rows ≡ seat_count
    unfolding heard
    many = length-set (set f.rows seat after) seat (waiting_row request) ∙ length-set f.rows seat after ∙ good.seats

    same_wanted : (head : ℕ) → (head ≡ seat → ⊥) → wanted (row_at at_end.rows head) ≡ wanted (row_at f.rows head)
    unfolding heard
    same_wanted head n =
        ap wanted (row_other (set f.rows seat after) seat head (waiting_row request) n ∙ row_other f.rows seat head after n)

    still : (x : Farm) (head : ℕ) (rest : List ℕ) → x.line ≡ head ∷ rest → head_verdict own x head ≡ Pending → settle own x ≡ quietly x
    unfolding settle_line
    still x head rest e p = ap (λ (l : List ℕ). settle_line own l x) e ∙ rw p refl

    joins_first : f.line ≡ [] → joins ≡ advanced own (seat ∷ []) at_end
    unfolding joined heard advanced
    joins_first e = rw e refl

    joins_behind : (head : ℕ) (rest : List ℕ) → f.line ≡ head ∷ rest → joins ≡ quietly (with_line at_end (head ∷ rest ++ seat ∷ []))
    unfolding joined heard
    joins_behind head rest e = rw e refl

    settled : settle own joins.farm ≡ quietly joins.farm
    unfolding advanced heard
    settled = by f.line refl good.head_keeps
      where
        by : (line : List ℕ) → f.line ≡ line → HeadKeeps own f line → settle own joins.farm ≡ quietly joins.farm
        by [] e k =
            rw (joins_first e)
            (still (advanced own (seat ∷ []) at_end).farm seat [] (ap (λ (x : Farm). x.line) (advanced-farm own (seat ∷ []) at_end))
            (started_open own quota (with_line at_end (seat ∷ [])) many seat check need))
        by (head ∷ rest) e k =
            let g : Farm = with_line at_end (head ∷ rest ++ seat ∷ []) in
            rw (joins_behind head rest e)
            (still g head (rest ++ seat ∷ []) refl
            (verdict_same own f g head
            (same_check own f g head (same_wanted head (apart (ready_of good) head rest e seat (ap is_waiting_state fresh)))
            (same (wanted (row_at f.rows head))))
            refl refl ∙ k))

    -- so the call does nothing but join
    pub call_joins : bytes_done own seat t f ≡ joins
    unfolding bytes_done and_then
    call_joins = rw event_joins (rw settled (rw append-nil refl))

    -- THE PLACE at which it joins: behind the line as it was.
    pub joins_last : (bytes_done own seat t f).farm.line ≡ f.line ++ seat ∷ []
    joins_last = rw call_joins joined_line

    pub joins_due : (n : ℕ) → check_limit * suc (length f.line) ≤ n → Due seat request n (bytes_done own seat t f).farm
    joins_due n w = rw call_joins (joined_due n good.check_runs w)
