-- What a call of the farm does to a waiter's due time: it answers the waiter, or cuts it off, or leaves it due in no more ticks, a tick in
-- one less.
-- Assumes nothing.
use Rattle.std.proofs.Common.{Option, Some, None}
use Prim.Native.Nat.{ℕ, zero, suc, ◌+◌, ◌*◌, ◌≤◌, ◌<◌}
use native.Mathlib.Bridge.{le_by_compare, IsLe}
use mathlib.Core.Path.{◌≡◌, refl, sym, ap, subst, ◌∙◌}
use mathlib.Core.Bool.{Bool, true, false, false≢true}
use mathlib.Core.List.{List, [], ◌∷◌, ◌++◌, map}
use native.Mathlib.Nat.{mul-suc, mul-le-mul_left}
use native.Mathlib.Omega.{arith}
use lib.Dec.{eqb, leb}
use lib.ListN.{get_or, length, take, length-take}
use lib.Seq.{get_or-take}
use borrow.Author.Tests.{eqb-true, eqb-false, lt-ltb}
use Rattle.octets.specs.Search.{first_at}
use Rattle.kinds.specs.declared.Fault.{Fault}
use Rattle.kinds.specs.declared.Request.{Request}
use Rattle.kinds.specs.declared.Row.{Row}
use Rattle.kinds.specs.declared.RowState.{RowState}
use Rattle.kinds.specs.declared.RowState.TheVariants.{Free, Fresh, Waiting, Active}
use Rattle.kinds.specs.declared.Clock.{Clock}
use Rattle.kinds.specs.declared.Decision.{Decision}
use Rattle.kinds.specs.declared.Decision.TheVariants.{Now, Ask}
use Rattle.payload.specs.declared.Ends.{Ends as Both}
use Rattle.wire.specs.Header.{closes}
use Rattle.model.specs.FarmSheet.{FarmSheet, TargetIs, stranger, unreachable, reachable}
use Rattle.kinds.specs.Clock.{check_limit, most_ticks, stepped, clock_of}
use Rattle.model.specs.Row.{row_at, free_row, waiting_row, active_as, is_open, is_free_state, is_free, older, older_state, at_limit_state, at_limit, fresh_row}
use Rattle.model.specs.Stream.{Event, input_ended, wrong, finished, skipped, Taken}
use Rattle.model.specs.Farm.{Farm, Done, does, quietly, and_then, with_row, closed, closed_where}
use Rattle.model.specs.Line.{accepted, decide, answered, joined, is_empty, without, left_by, left, marked, settle, answers_check}
use Rattle.model.specs.Bytes.{decided_by, requested, to_target, diagnosed, messaged, faulted, event_done, heard_row, heard, taken_by, bytes_done}
use Rattle.model.specs.Move.{Own, connect, bytes, peer_closed, link_lost, datagram, controller, Held, Move, connected_at, connects, bytes_by, peer_gone, clock_run, aged, ticked, datagram_move, to_tester, controller_move, is_target, most_user, move, tick_move}
use Rattle.model.specs.Table.{held_by, items_by}
use Rattle.model.specs.Words.{Stands, first, behind}
use Rattle.model.proofs.Cases.{pick_case, unless_case, split}
use Rattle.model.proofs.Seats.{closings_keep, closed-rows, closed-line, closed-clock}
use Rattle.model.proofs.Rows.{row_other, row-map}
use Rattle.model.proofs.Due.{After, waits, then_after, Asks, Near, Due, Ends, Alike, near_same, answered-row, Passes, first_at_lem, advanced_near, settle_due}

-- the call cuts the seat off
abbrev pub is_cut : ℕ → Own → Bool
is_cut seat connect = false
is_cut seat (bytes i input) = false
is_cut seat (peer_closed i) = eqb i seat
is_cut seat link_lost = true
is_cut seat (datagram input) = false
is_cut seat (controller from to user) = false

-- ---- what another row's call leaves alone: line, clock and this row

pub answered-line : (own : FarmSheet) (i address code : ℕ) (f : Farm)
    → ((answered own i address code f).farm.line ≡ f.line) × ((answered own i address code f).farm.clock ≡ f.clock)
unfolding answered and_then
answered-line own i address code f =
    pick_case (λ (d : Done). (d.farm.line ≡ f.line) × (d.farm.clock ≡ f.clock)) (eqb code accepted) _ _ (λ _. (refl, refl))
    (λ _. (closed-line own i f, closed-clock own i f))

gone_still : (own : FarmSheet) (seat i : ℕ) → (seat ≡ i → ⊥) → (f : Farm) → Alike seat f (closed own i f).farm
gone_still own seat i ne f =
    record {
      line = closed-line own i f;
      clock = closed-clock own i f;
      row = ap (λ (x : List Row). row_at x seat) (closed-rows own i f) ∙ row_other f.rows i seat free_row ne;
    }

module _ (own : FarmSheet) (seat i : ℕ) (ne : seat ≡ i → ⊥) (f : Farm) where
  abbrev Still : Done → Type 0
  Still d = Alike seat f d.farm

  -- something is said, then that row closes
  closed_still : (d : Done) → Still d → Still (and_then d (closed own i))
  unfolding and_then
  closed_still d s =
      record {
        line = closed-line own i d.farm ∙ s.line;
        clock = closed-clock own i d.farm ∙ s.clock;
        row = ap (λ (x : List Row). row_at x seat) (closed-rows own i d.farm) ∙ row_other d.farm.rows i seat free_row ne ∙ s.row;
      }

  same : Alike seat f f
  same = record { line = refl; clock = refl; row = refl }

  answered_still : (address code : ℕ) → Still (answered own i address code f)
  answered_still address code =
      record { line = keeps.0; clock = keeps.1; row = answered-row own i address code f seat ne }
    where
      keeps : ((answered own i address code f).farm.line ≡ f.line) × ((answered own i address code f).farm.clock ≡ f.clock)
      keeps = answered-line own i address code f

  target_still : (e : Both) (x : TargetIs) → Still (to_target own i e x f)
  target_still e stranger = same
  target_still e unreachable = same
  target_still e reachable = same

  diagnosed_still : (e : Both) → Still (diagnosed own i e f)
  unfolding diagnosed
  diagnosed_still e =
      pick_case Still (active_as e.source (row_at f.rows i)) _ _ (λ _. target_still e (own.target e.target)) (λ _. closed_still _ same)

  faulted_still : (x : Fault) → Still (faulted own i x f)
  faulted_still x = pick_case Still (closes x) _ _ (λ _. closed_still _ same) (λ _. same)

  marked_still : (address : ℕ) → Still (quietly (marked own i address f))
  unfolding marked
  marked_still address =
      pick_case (λ (g : Farm). Alike seat f g) (answers_check own i address f) _ _
      (λ _. record { line = refl; clock = refl; row = refl }) (λ _. same)

  heard_still : (t : Taken) → Alike seat f (heard i t f)
  unfolding heard
  heard_still t =
      record { line = refl; clock = refl; row = row_other f.rows i seat (heard_row t.count t.stream (row_at f.rows i)) ne }

-- ---- another joins behind

pub stands_append : {seat k : ℕ} {l : List ℕ} (x : ℕ) → Stands seat l k → Stands seat (l ++ x ∷ []) k
stands_append x (first e) = first e
stands_append x (behind a) = behind (stands_append x a)

not_empty : {seat k : ℕ} {l : List ℕ} → Stands seat l k → is_empty l ≡ false
not_empty (first e) = refl
not_empty (behind a) = refl

module _ (own : FarmSheet) (seat : ℕ) (q : Request) (n : ℕ) (i : ℕ) (ne : seat ≡ i → ⊥) where
  abbrev Goes : Done → Type 0
  Goes d = After (Near seat q n) (own.first + seat) q.address d

  still_goes : (f : Farm) (d : Done) → Alike seat f d.farm → Near seat q n f → Goes d
  still_goes f d s w = waits (near_same f d.farm s w)

  joined_due : (r : Request) (f : Farm) → Near seat q n f → Goes (joined own i r f)
  unfolding joined
  joined_due r f d =
      rw (not_empty d.at)
      (waits
      (record {
        place = d.place;
        at = stands_append i d.at;
        runs = d.runs;
        within = d.within;
        asks = rw (row_other f.rows i seat (waiting_row r) ne) d.asks;
      }))

  decided_due : (r : Request) (x : Decision) (f : Farm) → Near seat q n f → Goes (decided_by own i r x f)
  decided_due r (Now code) f d = still_goes f _ (answered_still own seat i ne f r.address code) d
  decided_due r (Ask check) f d = joined_due r f d

  requested_due : (r : Request) (f : Farm) → Near seat q n f → Goes (requested own i r f)
  unfolding requested
  requested_due r f d = decided_due r (decide own f.rows i r) f d

  messaged_due : (kind : ℕ) (payload : List ℕ) (f : Farm) → Near seat q n f → Goes (messaged own i kind payload f)
  messaged_due kind payload f d =
      pick_case Goes (eqb kind 0x0005) _ _ (λ _. requested_due _ f d)
      (λ _. pick_case Goes (eqb kind 0x0008) _ _ (λ _. still_goes f _ (marked_still own seat i ne f _) d)
      (λ _. pick_case Goes (eqb kind 0x8001) _ _ (λ _. still_goes f _ (diagnosed_still own seat i ne f _) d) (λ _. waits d)))

  event_due : (e : Event) (room : List ℕ) (f : Farm) → Near seat q n f → Goes (event_done own i e room f)
  unfolding event_done
  event_due input_ended room f d = waits d
  event_due (wrong fault) room f d = still_goes f _ (faulted_still own seat i ne f fault) d
  event_due (finished kind size) room f d = messaged_due kind (take size room) f d
  event_due (skipped size) room f d = waits d

  bytes_due : (t : Taken) (f : Farm) → Near seat q n f → Ends own seat q n (bytes_done own i t f)
  unfolding bytes_done
  bytes_due t f d =
      then_after {P = Near seat q n} (event_done own i t.event t.stream.room (heard i t f)) (settle own)
      (event_due t.event t.stream.room (heard i t f) (near_same f (heard i t f) (heard_still own seat i ne f t) d)) (settle_due own seat q n)

-- ---- another leaves: the row is not further back, and nearer if that one was the head

record Nearer (seat x : ℕ) (l : List ℕ) (k : ℕ) : Type 0 where
  place : ℕ
  at : Stands seat (without x l) place
  near : place ≤ k

leaves : (seat x : ℕ) → (seat ≡ x → ⊥) → (l : List ℕ) (k : ℕ) → Stands seat l k → Nearer seat x l k
leaves seat x ne [] k stands = elim stands [ ]
leaves seat x ne (y ∷ l) zero (first e) =
    split (eqb x y) (λ t. absurd (ne (e ∙ sym (eqb-true x y t)))) (λ f. record { place = 0; at = rw f (first e); near = omega arith })
leaves seat x ne (y ∷ l) (suc k) (behind a) =
    let b = leaves seat x ne l k a in
    split (eqb x y) (λ t. record { place = b.place; at = rw t b.at; near = omega (arith, b.near) })
    (λ f. record { place = suc b.place; at = rw f (behind b.at); near = omega (arith, b.near) })

module _ (own : FarmSheet) (seat : ℕ) (q : Request) (n : ℕ) (x : ℕ) (ne : seat ≡ x → ⊥) where
  left_due : (line : List ℕ) (k : ℕ) (f : Farm) → f.clock.ticks ≤ check_limit → Stands seat line k
      → check_limit * k + check_limit ≤ n + f.clock.ticks → Asks seat q f → Goes own seat q n x ne (left_by own x line f)
  left_due [] k f r stands w a = elim stands [ ]
  left_due (head ∷ rest) zero f r (first e) w a =
      pick_case (Goes own seat q n x ne) (eqb x head) _ _ (λ t. absurd (ne (e ∙ sym (eqb-true x head t))))
      (λ t. waits (record { place = 0; at = first e; runs = r; within = w; asks = a }))
  left_due (head ∷ rest) (suc j) f r (behind b) w a =
      let c = leaves seat x ne rest j b in
      pick_case (Goes own seat q n x ne) (eqb x head) _ _ (λ t. waits (advanced_near own seat q n rest f j b (omega arith) a))
      (λ t. waits
      (record {
        place = suc c.place;
        at = behind c.at;
        runs = r;
        within = omega (arith, mul-le-mul_left check_limit c.near, mul-suc check_limit j, mul-suc check_limit c.place);
        asks = a;
      }))

  peer_due : (f : Farm) → Near seat q n f → Ends own seat q n (peer_gone own x f)
  unfolding peer_gone left
  peer_due f d =
      then_after {P = Near seat q n} (and_then (closed own x f) (left own x)) (settle own)
      (then_after {P = Near seat q n} (closed own x f) (left own x) (waits (near_same f (closed own x f).farm (gone_still own seat x ne f) d))
      (λ g e. left_due g.line e.place g e.runs e.at e.within e.asks))
      (settle_due own seat q n)

-- ---- ticks

-- a clock that runs is never at the end of its two bytes
check-below : check_limit ≤ most_ticks
unfolding check_limit most_ticks IsLe
check-below = le_by_compare _ _ tt

stepped-is : (c : Clock) → c.ticks < check_limit → stepped c ≡ clock_of (c.ticks + 1)
unfolding stepped
stepped-is c h = rw (lt-ltb c.ticks most_ticks (omega (arith, check-below))) refl

clock_runs : {seat k : ℕ} {l : List ℕ} (f : Farm) → Stands seat l k → (clock_run l f).clock ≡ stepped f.clock
clock_runs f (first e) = refl
clock_runs f (behind a) = refl

run-line : (l : List ℕ) (f : Farm) → (clock_run l f).line ≡ f.line
run-line [] f = refl
run-line (x ∷ l) f = refl

run-rows : (l : List ℕ) (f : Farm) → (clock_run l f).rows ≡ f.rows
run-rows [] f = refl
run-rows (x ∷ l) f = refl

module _ (own : FarmSheet) (seat : ℕ) (q : Request) (n : ℕ) where
  tick_near : (f : Farm) → Due seat q (suc n) f → Near seat q n (aged (clock_run f.line f))
  tick_near f d =
      let c : (clock_run f.line f).clock ≡ clock_of (f.clock.ticks + 1) =
      clock_runs f d.near.at ∙ stepped-is f.clock d.running in
      let e : (clock_run f.line f).clock.ticks ≡ f.clock.ticks + 1 = ap (λ (x : Clock). x.ticks) c in
      record {
        place = d.near.place;
        at = subst (λ (x : List ℕ). Stands seat x d.near.place) (sym (run-line f.line f)) d.near.at;
        runs = omega (arith, d.running);
        within = omega (arith, d.near.within);
        asks = ap (λ (x : List Row). (row_at (map older x) seat).state) (run-rows f.line f)
            ∙ ap (λ (r : Row). r.state) (row-map older refl f.rows seat) ∙ ap older_state d.near.asks;
      }

  -- a tick brings the answer one tick nearer: no limit closes a row that waits
  tick_due : (f : Farm) → Due seat q (suc n) f → Ends own seat q n (ticked own f)
  unfolding ticked
  tick_due f d =
      then_after {P = Near seat q n} (closed_where own (λ i r. at_limit r) (aged (clock_run f.line f))) (settle own)
      (waits
      (closings_keep own (λ i r. at_limit r) (Near seat q n) (aged (clock_run f.line f)) (tick_near f d)
      (λ i x t e. near_same x (closed own i x).farm
      (gone_still own seat i
      (λ z. false≢true (sym (ap at_limit_state e.asks) ∙ subst (λ (j : ℕ). at_limit (row_at x.rows j) ≡ true) (sym z) t)) x) e)))
      (settle_due own seat q n)

-- ---- a call of the farm

-- what a move comes to; a refused call leaves the farm as it is and says nothing
abbrev pub done_by : Held → Move → Done
done_by h m = does (held_by h m).farm (items_by m)

-- the move answers the row, or leaves it due in n ticks
abbrev pub Moved : FarmSheet → ℕ → Request → ℕ → Held → Move → Type 0
Moved own seat q n h m = Ends own seat q n (done_by h m)

-- the first free row of the farm's is not one that waits
free_other : (rows : List Row) (k seat i : ℕ) (q : Request) → (row_at rows seat).state ≡ Waiting q → first_at is_free 0 (take k rows) ≡ Some i
    → seat ≡ i → ⊥
free_other rows k seat i q w e z =
    let p : Passes is_free (take k rows) i = first_at_lem is_free (take k rows) i e in
    let m : length (take k rows) ≤ k = omega (arith, length-take k rows) in
    let t : is_free (row_at rows i) ≡ true = ap is_free (sym (get_or-take k rows i free_row (omega (arith, p.within)))) ∙ p.passes in
    false≢true (sym (ap is_free_state w) ∙ subst (λ (j : ℕ). is_free (row_at rows j) ≡ true) (sym z) t)

module _ (own : FarmSheet) (seat : ℕ) (q : Request) (n : ℕ) (h : Held) (d : Due seat q n h.farm) where
  abbrev Moves : Move → Type 0
  Moves m = Moved own seat q n h m

  connect_moved : (x : Option ℕ) → ((i : ℕ) → x ≡ Some i → seat ≡ i → ⊥) → Moves (connected_at own h x)
  connect_moved None k = waits d
  connect_moved (Some i) k =
      waits
      (record {
        near = near_same h.farm (with_row h.farm i fresh_row)
            (record { line = refl; clock = refl; row = row_other h.farm.rows i seat fresh_row (k i refl) }) d.near;
        running = d.running;
      })

  -- bytes for the row itself are refused, for it waits
  bytes_moved : (i : ℕ) (input : List ℕ) (x : RowState) → (row_at h.farm.rows i).state ≡ x → Moves (bytes_by own h i input x)
  bytes_moved i input Free e = waits d
  bytes_moved i input (Fresh age) e =
      bytes_due own seat q n i
      (λ z. let y : Fresh age ≡ Waiting q = sym e ∙ rw (← z) d.near.asks in let o : ◌≡◌ {A = ℕ} 0 1 = cc in omega arith)
      (taken_by i (get_or h.rooms i []) input h.farm) h.farm d.near
  bytes_moved i input (Waiting r) e = waits d
  bytes_moved i input (Active a idle) e =
      bytes_due own seat q n i
      (λ z. let y : Active a idle ≡ Waiting q = sym e ∙ rw (← z) d.near.asks in let o : ◌≡◌ {A = ℕ} 0 1 = cc in omega arith)
      (taken_by i (get_or h.rooms i []) input h.farm) h.farm d.near

  tester_moved : (from to : ℕ) (user : List ℕ) (x : Option ℕ) → Moves (to_tester own h from to user x)
  tester_moved from to user None = waits d
  tester_moved from to user (Some i) = waits d

  controller_moved : (from to : ℕ) (user : List ℕ) → Moves (controller_move own h from to user)
  unfolding controller_move
  controller_moved from to user =
      unless_case Moves (leb 1 (length user)) _ _ (λ _. waits d)
      (λ _. unless_case Moves (leb (length user) most_user) _ _ (λ _. waits d)
      (λ _. unless_case Moves (is_target (own.target from)) _ _ (λ _. waits d)
      (λ _. tester_moved from to user (first_at (active_as to) 0 h.farm.rows))))

  -- every call of the farm but a cut
  pub own_moved : (c : Own) → is_cut seat c ≡ false → Moves (move own h c)
  unfolding move connects datagram_move
  own_moved connect e =
      connect_moved (first_at is_free 0 (take own.rows h.farm.rows))
      (λ i z. free_other h.farm.rows own.rows seat i q d.near.asks z)
  own_moved (bytes i input) e = bytes_moved i input (row_at h.farm.rows i).state refl
  own_moved (peer_closed i) e =
      pick_case Moves (is_open (row_at h.farm.rows i)) _ _
      (λ _. peer_due own seat q n i (λ z. eqb-false i seat e (sym z)) h.farm d.near) (λ _. waits d)
  own_moved link_lost e = absurd (false≢true (sym e))
  own_moved (datagram input) e = waits d
  own_moved (controller from to user) e = controller_moved from to user

-- and every tick
pub tick_moved : (own : FarmSheet) (seat : ℕ) (q : Request) (n : ℕ) (h : Held) → Due seat q (suc n) h.farm → Moved own seat q n h (tick_move own h)
unfolding tick_move
tick_moved own seat q n h d = tick_due own seat q n h.farm d

-- no answer is overdue
pub never_now : {seat : ℕ} {q : Request} (f : Farm) → Due seat q 0 f → ⊥
never_now f d = omega (arith, d.running, d.near.within)
