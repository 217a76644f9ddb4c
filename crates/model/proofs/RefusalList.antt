-- Demand 1: "A call it can't serve is refused by a number from our list, exactly when the list says". The list is `rules`, a rule for each number in the
-- list's order; `Refusals` says of each number when it is given.
-- Assumes nothing.
use Rattle.std.proofs.Common.{Option, Some, None}
use Rattle.kinds.specs.declared.FarmNo.{FarmNo}
use Prim.{Unit}
use Prim.Native.Nat.{ℕ, zero, suc, ◌≤◌, ◌<◌}
use mathlib.Core.Path.{◌≡◌, refl, sym, ◌∙◌}
use mathlib.Core.Bool.{Bool, true, false, not}
use mathlib.Core.List.{List, [], ◌∷◌}
use mathlib.Core.Logic.{◌↔◌}
use native.Mathlib.Omega.{arith}
use lib.Dec.{eqb, leb, ltb}
use lib.ListN.{length, take}
use lib.Seq.{take-length}
use Rattle.octets.specs.Choice.{pick, both, unless}
use Rattle.octets.specs.Says.{Says}
use Rattle.octets.specs.Search.{first_at}
use Rattle.octets.proofs.SaysLaws.{never, says-yes, says_no, says_of}
use Rattle.octets.proofs.ChoiceLaws.{says_both, says-true, says-not, says_le, says_lt, says_eq}
use Rattle.kinds.specs.declared.RowState.{RowState}
use Rattle.kinds.specs.declared.RowState.TheVariants.{Free, Fresh, Waiting, Active}
use Rattle.kinds.specs.declared.Row.{Row}
use Rattle.sheet.specs.Sheet.{farm_count}
use Rattle.sheet.specs.Rows.{owner_of}
use Rattle.sheet.specs.Rules.{GoodSheet}
use Rattle.sheet.specs.Test.{good_sheet}
use Rattle.sheet.proofs.TestLaws.{good-says}
use Rattle.model.specs.FarmSheet.{slot_sheet}
use Rattle.model.specs.Row.{free_row, row_at, is_free, is_open, is_waiting, active_as}
use Rattle.model.specs.Move.{Own, connect, bytes, peer_closed, link_lost, datagram, controller, Held, Move, refused, connected_at, connects, bytes_by, peer_gone, moves, datagram_move, most_user, is_target, to_tester, controller_move, move}
use Rattle.model.specs.Table.{Table, slot, good_table, Call, connect_to, bytes_from, peer_closed_on, link_lost_of, tick, datagram_to, message_from, Lent, least_output, assembling_size, nobodys, farms, of_owner, whose, Outcome, refuses, moved_to, called, step, start_step, number_of}
use Rattle.model.proofs.TableTest.{TableKeeps, table-says, FirstBroken, next, first_failed, Tests, none, also, first_broken}

-- ---- a row that passes a test, among the first n of a list

pub record Some-row (p : Row → Bool) (rows : List Row) (n : ℕ) : Type 0 where
  pub seat : ℕ
  pub within : seat < n
  pub there : seat < length rows
  pub holds : p (row_at rows seat) ≡ true

abbrev is_at : Option ℕ → Bool
is_at (Some i) = true
is_at None = false

some-says : (p : Row → Bool) (k n : ℕ) (rows : List Row) → Says (is_at (first_at p k (take n rows))) (Some-row p rows n)
unfolding first_at
some-says p k zero rows = says_no (λ h. omega (arith, h.within))
some-says p k (suc n) [] = says_no (λ h. omega (arith, h.there))
some-says p k (suc n) (x ∷ xs) = by (p x) refl (some-says p (suc k) n xs)
  where
    tail : Some-row p xs n → Some-row p (x ∷ xs) (suc n)
    tail h = record { seat = suc h.seat; within = omega (arith, h.within); there = omega (arith, h.there); holds = h.holds }

    front : p x ≡ false → (i : ℕ) → i < suc n → i < suc (length xs) → p (row_at (x ∷ xs) i) ≡ true → Some-row p xs n
    front e zero l m h = absurd (never (sym e ∙ h))
    front e (suc i) l m h = record { seat = i; within = omega arith; there = omega arith; holds = h }

    by : (b : Bool) → p x ≡ b → Says (is_at (first_at p (suc k) (take n xs))) (Some-row p xs n)
        → Says (is_at (pick b (Some k) (first_at p (suc k) (take n xs)))) (Some-row p (x ∷ xs) (suc n))
    by true e u = says-yes (record { seat = 0; within = omega arith; there = omega arith; holds = e })
    by false e u = says_of tail (λ h. front e h.seat h.within h.there h.holds) u

-- ---- the list: what each number's rule asks of a call; a call that the rule is not for keeps it

module _ (s : List ℕ) where
  -- 5: "farm number not in the sheet"
  abbrev pub FarmKnown : Call → Type 0
  FarmKnown (connect_to f) = f < farm_count s
  FarmKnown (bytes_from r input) = Unit {0}
  FarmKnown (peer_closed_on r) = Unit {0}
  FarmKnown (link_lost_of f) = f < farm_count s
  FarmKnown tick = Unit {0}
  FarmKnown (datagram_to f input) = f < farm_count s
  FarmKnown (message_from f from to user) = f < farm_count s

  -- the row with this number over the whole sheet; one that is nobody's is not open
  abbrev pub row_in : Table → Option (FarmNo × ℕ) → Row
  row_in t (Some (f, seat)) = row_at (slot t f.0).farm.rows seat
  row_in t None = free_row

  -- 6: "row not open"
  abbrev pub RowOpen : Table → Call → Type 0
  RowOpen t (connect_to f) = Unit {0}
  RowOpen t (bytes_from r input) = is_open (row_in t (owner_of s r)) ≡ true
  RowOpen t (peer_closed_on r) = is_open (row_in t (owner_of s r)) ≡ true
  RowOpen t (link_lost_of f) = Unit {0}
  RowOpen t tick = Unit {0}
  RowOpen t (datagram_to f input) = Unit {0}
  RowOpen t (message_from f from to user) = Unit {0}

  -- 7: "bytes for a waiting row, even none"
  abbrev pub NotWaiting : Table → Call → Type 0
  NotWaiting t (connect_to f) = Unit {0}
  NotWaiting t (bytes_from r input) = is_waiting (row_in t (owner_of s r)) ≡ false
  NotWaiting t (peer_closed_on r) = Unit {0}
  NotWaiting t (link_lost_of f) = Unit {0}
  NotWaiting t tick = Unit {0}
  NotWaiting t (datagram_to f input) = Unit {0}
  NotWaiting t (message_from f from to user) = Unit {0}

  -- 8: "connect, and the farm has no free row"
  abbrev pub RowLeft : Table → Call → Type 0
  RowLeft t (connect_to f) = Some-row is_free (slot t f).farm.rows (slot_sheet s f).rows
  RowLeft t (bytes_from r input) = Unit {0}
  RowLeft t (peer_closed_on r) = Unit {0}
  RowLeft t (link_lost_of f) = Unit {0}
  RowLeft t tick = Unit {0}
  RowLeft t (datagram_to f input) = Unit {0}
  RowLeft t (message_from f from to user) = Unit {0}

  -- 9: "controller message with 0 or over 2,044 bytes of user data"
  abbrev pub UserFits : Call → Type 0
  UserFits (connect_to f) = Unit {0}
  UserFits (bytes_from r input) = Unit {0}
  UserFits (peer_closed_on r) = Unit {0}
  UserFits (link_lost_of f) = Unit {0}
  UserFits tick = Unit {0}
  UserFits (datagram_to f input) = Unit {0}
  UserFits (message_from f from to user) = (1 ≤ length user) × (length user ≤ most_user)

  -- 10: "controller address not a target of that farm, or the tester not active on a row of it"
  abbrev pub EndsKnown : Table → Call → Type 0
  EndsKnown t (connect_to f) = Unit {0}
  EndsKnown t (bytes_from r input) = Unit {0}
  EndsKnown t (peer_closed_on r) = Unit {0}
  EndsKnown t (link_lost_of f) = Unit {0}
  EndsKnown t tick = Unit {0}
  EndsKnown t (datagram_to f input) = Unit {0}
  EndsKnown t (message_from f from to user) =
      (is_target ((slot_sheet s f).target from) ≡ true) × Some-row (active_as to) (slot t f).farm.rows (length (slot t f).farm.rows)

  -- 1 to 3
  abbrev pub lent_rules : Lent → List (Type 0) → List (Type 0)
  lent_rules l more = GoodSheet s ∷ (least_output ≤ l.output) ∷ (l.assembling ≡ assembling_size) ∷ more

  -- THE LIST: rule 1 is the first, rule 10 the last
  abbrev pub rules : Lent → Table → Call → List (Type 0)
  rules l t c =
      lent_rules l
      (TableKeeps s t ∷ FarmKnown c ∷ RowOpen t c ∷ NotWaiting t c ∷ RowLeft t c ∷ UserFits c ∷ EndsKnown t c ∷ [])

  -- ---- the tests, in the same order

  module _ (t : Table) where
    abbrev call_tests : Call → List Bool
    call_tests (connect_to f) =
        ltb f (farm_count s) ∷ true ∷ true ∷ is_at (first_at is_free 0 (take (slot_sheet s f).rows (slot t f).farm.rows)) ∷ true ∷ true ∷ []
    call_tests (bytes_from r input) =
        true ∷ is_open (row_in t (owner_of s r)) ∷ not (is_waiting (row_in t (owner_of s r))) ∷ true ∷ true ∷ true ∷ []
    call_tests (peer_closed_on r) = true ∷ is_open (row_in t (owner_of s r)) ∷ true ∷ true ∷ true ∷ true ∷ []
    call_tests (link_lost_of f) = ltb f (farm_count s) ∷ true ∷ true ∷ true ∷ true ∷ true ∷ []
    call_tests tick = true ∷ true ∷ true ∷ true ∷ true ∷ true ∷ []
    call_tests (datagram_to f input) = ltb f (farm_count s) ∷ true ∷ true ∷ true ∷ true ∷ true ∷ []
    call_tests (message_from f from to user) =
        ltb f (farm_count s) ∷ true ∷ true ∷ true ∷ both (leb 1 (length user)) (leb (length user) most_user)
        ∷ both (is_target ((slot_sheet s f).target from))
        (is_at (first_at (active_as to) 0 (take (length (slot t f).farm.rows) (slot t f).farm.rows))) ∷ []

    is-kept : Says true (Unit {0})
    is-kept = says-yes tt

    call_tests_lem : (c : Call) → Tests (call_tests c) (FarmKnown c ∷ RowOpen t c ∷ NotWaiting t c ∷ RowLeft t c ∷ UserFits c ∷ EndsKnown t c ∷ [])
    call_tests_lem (connect_to f) =
        also (says_lt f (farm_count s)) (also is-kept (also is-kept
        (also (some-says is_free 0 (slot_sheet s f).rows (slot t f).farm.rows) (also is-kept (also is-kept none)))))
    call_tests_lem (bytes_from r input) =
        also is-kept (also (says-true (is_open (row_in t (owner_of s r)))) (also (says-not (is_waiting (row_in t (owner_of s r))))
        (also is-kept (also is-kept (also is-kept none)))))
    call_tests_lem (peer_closed_on r) =
        also is-kept (also (says-true (is_open (row_in t (owner_of s r)))) (also is-kept (also is-kept (also is-kept (also is-kept none)))))
    call_tests_lem (link_lost_of f) =
        also (says_lt f (farm_count s)) (also is-kept (also is-kept (also is-kept (also is-kept (also is-kept none)))))
    call_tests_lem tick = also is-kept (also is-kept (also is-kept (also is-kept (also is-kept (also is-kept none)))))
    call_tests_lem (datagram_to f input) =
        also (says_lt f (farm_count s)) (also is-kept (also is-kept (also is-kept (also is-kept (also is-kept none)))))
    call_tests_lem (message_from f from to user) =
        also (says_lt f (farm_count s)) (also is-kept (also is-kept (also is-kept
        (also (says_both (says_le 1 (length user)) (says_le (length user) most_user))
        (also
        (says_both (says-true (is_target ((slot_sheet s f).target from)))
        (some-says (active_as to) 0 (length (slot t f).farm.rows) (slot t f).farm.rows))
        none)))))

    -- ---- a call's number is the first test that fails; the numbers here are those past rule 4

    -- a farm's call: 5 first
    farm-number : (b : Bool) (f : ℕ) (c : Own) (x : ℕ)
        → number_of (moved_to t f (move (slot_sheet s f) (slot t f) c)) ≡ next (next (next (next (next x))))
        → number_of (called s t (pick b (farms f c) (nobodys 5))) ≡ next (next (next (next (unless b 1 (next x)))))
    farm-number true f c x e = e
    farm-number false f c x e = refl

    connect-number : (f : ℕ) (x : Option ℕ)
        → number_of (moved_to t f (connected_at (slot_sheet s f) (slot t f) x)) ≡ next (next (next (next (next (next (next (unless (is_at x) 1 0)))))))
    connect-number f (Some seat) = refl
    connect-number f None = refl

    message-number : (f from to : ℕ) (user : List ℕ) (a b c : Bool) (x : Option ℕ)
        → number_of
        (moved_to t f
        (unless a (refused 9) (unless b (refused 9) (unless c (refused 10) (to_tester (slot_sheet s f) (slot t f) from to user x))))) ≡
        next (next (next (next (next (next (next (next (unless (both a b) 1 (next (unless (both c (is_at x)) 1 0))))))))))
    message-number f from to user true true true (Some seat) = refl
    message-number f from to user true true true None = refl
    message-number f from to user true true false x = refl
    message-number f from to user true false c x = refl
    message-number f from to user false b c x = refl

    bytes-number : (f seat : ℕ) (input : List ℕ) (r : Row) (st : RowState) → r.state ≡ st
        → number_of (moved_to t f (bytes_by (slot_sheet s f) (slot t f) seat input r.state)) ≡
        next (next (next (next (next (unless (is_open r) 1 (next (unless (not (is_waiting r)) 1 0)))))))
    bytes-number f seat input r Free e = rw e
    bytes-number f seat input r (Fresh age) e = rw e
    bytes-number f seat input r (Waiting q) e = rw e
    bytes-number f seat input r (Active a idle) e = rw e

    bytes-owner : (input : List ℕ) (o : Option (FarmNo × ℕ))
        → number_of (called s t (of_owner o (λ seat. bytes seat input))) ≡
        next (next (next (next (next (unless (is_open (row_in t o)) 1 (next (unless (not (is_waiting (row_in t o))) 1 0)))))))
    unfolding move
    bytes-owner input (Some (f, seat)) = bytes-number f.0 seat input (row_in t (Some (f, seat))) (row_in t (Some (f, seat))).state refl
    bytes-owner input None = refl

    closed-number : (f : ℕ) (b : Bool) (h : Held) (x : Move) → number_of (moved_to t f x) ≡ 0
        → number_of (moved_to t f (pick b x (refused 6))) ≡ next (next (next (next (next (unless b 1 0)))))
    closed-number f true h x e = e
    closed-number f false h x e = refl

    closed-owner : (o : Option (FarmNo × ℕ))
        → number_of (called s t (of_owner o (λ seat. peer_closed seat))) ≡ next (next (next (next (next (unless (is_open (row_in t o)) 1 0)))))
    unfolding move
    closed-owner (Some (f, seat)) =
        closed-number f.0 (is_open (row_in t (Some (f, seat)))) (slot t f.0)
        (moves (slot t f.0) (peer_gone (slot_sheet s f.0) seat (slot t f.0).farm)) refl
    closed-owner None = refl

    call-number : (c : Call) → number_of (called s t (whose s c)) ≡ next (next (next (next (first_failed (call_tests c)))))
    unfolding whose move connects datagram_move controller_move
    call-number (connect_to f) =
        farm-number (ltb f (farm_count s)) f connect
        (next (next (unless (is_at (first_at is_free 0 (take (slot_sheet s f).rows (slot t f).farm.rows))) 1 0)))
        (connect-number f (first_at is_free 0 (take (slot_sheet s f).rows (slot t f).farm.rows)))
    call-number (bytes_from r input) = bytes-owner input (owner_of s r)
    call-number (peer_closed_on r) = closed-owner (owner_of s r)
    call-number (link_lost_of f) = farm-number (ltb f (farm_count s)) f link_lost 0 refl
    call-number tick = refl
    call-number (datagram_to f input) = farm-number (ltb f (farm_count s)) f (datagram input) 0 refl
    call-number (message_from f from to user) =
        rw (take-length (slot t f).farm.rows)
        (farm-number (ltb f (farm_count s)) f (controller from to user)
        (next
        (next
        (next
        (unless (both (leb 1 (length user)) (leb (length user) most_user)) 1
        (next (unless (both (is_target ((slot_sheet s f).target from)) (is_at (first_at (active_as to) 0 (slot t f).farm.rows))) 1 0))))))
        (message-number f from to user (leb 1 (length user)) (leb (length user) most_user) (is_target ((slot_sheet s f).target from))
        (first_at (active_as to) 0 (slot t f).farm.rows)))

  -- 1 to 3, then what follows
  lent-number : (a b c : Bool) (o : Outcome) (x : ℕ) → number_of o ≡ next (next (next x))
      → number_of (unless a (refuses 1) (unless b (refuses 2) (unless c (refuses 3) o))) ≡ unless a 1 (next (unless b 1 (next (unless c 1 (next x)))))
  lent-number true true true o x e = e
  lent-number true true false o x e = refl
  lent-number true false c o x e = refl
  lent-number false b c o x e = refl

  table-number : (b : Bool) (o : Outcome) (x : ℕ) → number_of o ≡ next (next (next (next x)))
      → number_of (unless b (refuses 4) o) ≡ next (next (next (unless b 1 (next x))))
  table-number true o x e = e
  table-number false o x e = refl

  module _ (l : Lent) where
    abbrev lent_tests : List Bool → List Bool
    lent_tests more = good_sheet s ∷ leb least_output l.output ∷ eqb l.assembling assembling_size ∷ more

    lent_tests_lem : {bs : List Bool} {Ks : List (Type 0)} → Tests bs Ks → Tests (lent_tests bs) (lent_rules l Ks)
    lent_tests_lem ts = also (good-says s) (also (says_le least_output l.output) (also (says_eq l.assembling assembling_size) ts))

    module _ (t : Table) where
      step-number : (c : Call) → number_of (step s l t c) ≡ first_failed (lent_tests (good_table s t ∷ call_tests t c))
      unfolding step
      step-number c =
          lent-number (good_sheet s) (leb least_output l.output) (eqb l.assembling assembling_size)
          (unless (good_table s t) (refuses 4) (called s t (whose s c)))
          (unless (good_table s t) 1 (next (first_failed (call_tests t c))))
          (table-number (good_table s t) (called s t (whose s c)) (first_failed (call_tests t c)) (call-number t c))

      start_number_lem : number_of (start_step s l t) ≡ first_failed (lent_tests [])
      unfolding start_step
      start_number_lem = lent-number (good_sheet s) (leb least_output l.output) (eqb l.assembling assembling_size) _ 0 refl

      -- THE REFUSALS: the number n is given exactly where rule n is the first of the list that the call breaks; 0 exactly where it breaks none; and
      -- so no number beyond the list is ever given.
      pub refusals : (c : Call) (n : ℕ) → (number_of (step s l t c) ≡ n) ↔ FirstBroken (rules l t c) n
      refusals c n =
          let d = first_broken (lent_tests_lem (also (table-says s t) (call_tests_lem t c))) n in
          (λ e. d.0 (sym (step-number c) ∙ e), λ h. step-number c ∙ d.1 h)

      -- start: "1 to 4 hold for every call, but start skips 4"
      pub start_refusals : (n : ℕ) → (number_of (start_step s l t) ≡ n) ↔ FirstBroken (lent_rules l []) n
      start_refusals n =
          let d = first_broken (lent_tests_lem none) n in
          (λ e. d.0 (sym start_number_lem ∙ e), λ h. start_number_lem ∙ d.1 h)
