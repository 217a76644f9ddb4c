-- DEMAND 3's BOUND BY TICKS, over histories: a request that joins at place k is answered by accepted tick 50 * k.
-- Assumes nothing.
use Rattle.std.proofs.Common.{Some}
use Prim.Native.Nat.{ℕ, zero, suc, ◌+◌, ◌*◌, ◌≤◌, ◌<◌}
use mathlib.Core.Path.{◌≡◌, refl, sym, ap, subst, ◌∙◌}
use mathlib.Core.Bool.{Bool, true, false, false≢true}
use mathlib.Core.List.{List, [], ◌∷◌, ◌++◌}
use native.Mathlib.Nat.{mul-suc}
use native.Mathlib.Numerals.{add-one}
use native.Mathlib.Omega.{arith}
use lib.Dec.{eqb}
use lib.ListN.{length}
use borrow.Author.Tests.{eqb-true}
use Rattle.octets.specs.Choice.{either, one}
use Rattle.kinds.specs.declared.Clock.{Clock}
use Rattle.kinds.specs.declared.Request.{Request}
use Rattle.kinds.specs.declared.RowState.{RowState}
use Rattle.kinds.specs.declared.RowState.TheVariants.{Free, Fresh, Waiting, Active}
use Rattle.sheet.specs.Sheet.{farm_no}
use Rattle.sheet.specs.Rows.{owner_of}
use Rattle.sheet.specs.Test.{good_sheet}
use Rattle.model.specs.FarmSheet.{FarmSheet, slot_sheet}
use Rattle.kinds.specs.Clock.{check_limit}
use Rattle.model.specs.Row.{row_at, is_open_state, is_active_state, is_open}
use Rattle.model.specs.Stream.{Taken}
use Rattle.model.specs.Farm.{new_farm, seat_count}
use Rattle.model.specs.Move.{bytes, Held, bytes_by, took_bytes, move}
use Rattle.model.specs.Rule.{Good}
use Rattle.model.specs.Table.{Table, slot, good_table, Call, whose, Outcome, moved_to, held_by, called, number_of, items_of, table_of}
use Rattle.model.specs.History.{Made, fresh, step_of, run}
use Rattle.model.specs.Words.{Stands, Answered, is_done, taken_of, MustWait, accepted_tick, ticks_in, cuts, cut_in, entries_in}
use Rattle.sheet.proofs.TestLaws.{good-says}
use Rattle.model.proofs.Rows.{row_free}
use Rattle.model.proofs.RuleKept.{slot_ok}
use Rattle.model.proofs.TableTest.{table-says}
use Rattle.model.proofs.DueRank.{Within, now, later, bound, count}
use Rattle.model.proofs.Due.{waits, more_left, more-right, Due}
use Rattle.model.proofs.DueCalls.{never_now}
use Rattle.model.proofs.DueTable.{step_case, slot_in, slot_own, inside, EndsBy, answer, cut, next, tick_of, DueIn, step_law}
use Rattle.model.proofs.DueJoin.{decide_ask, joins_last, joins_due}

-- ---- whoever is due in n ticks is answered in every history with n accepted ticks and no cut

either-false : (a b : Bool) → either a b ≡ false → (a ≡ false) × (b ≡ false)
either-false true b e = absurd (false≢true (sym e))
either-false false b e = (refl, e)

module _ (s : List ℕ) (g seat row : ℕ) (q : Request) (owner : owner_of s row ≡ Some (farm_no g, seat)) where
  same_count : (t : Table) (ms : List Made)
      → count (next s g seat row q owner) (tick_of s g seat row q owner) (EndsBy s g seat row q owner) t ms ≡ ticks_in s t ms
  unfolding ticks_in
  same_count t [] = refl
  same_count t (m ∷ ms) = ap (one (accepted_tick s t m) +◌) (same_count (table_of t (step_of s t m)) ms)

  ends-answered : (t : Table) (ms : List Made) → Within (next s g seat row q owner) (tick_of s g seat row q owner) (EndsBy s g seat row q owner) t ms
      → cut_in row g s t ms ≡ false → Answered row q.address (entries_in s t ms)
  unfolding cut_in entries_in
  ends-answered t [] within c = elim within [ ]
  ends-answered t (m ∷ ms) (now (answer a)) c = more_left (entries_in s (table_of t (step_of s t m)) ms) a
  ends-answered t (m ∷ ms) (now (cut e)) c = absurd (false≢true (sym (either-false (cuts row g s t m) _ c).0 ∙ e))
  ends-answered t (m ∷ ms) (later w) c =
      more-right (items_of (step_of s t m)) (ends-answered (table_of t (step_of s t m)) ms w (either-false (cuts row g s t m) _ c).1)

  pub due_answered : (t : Table) (ms : List Made) (n : ℕ) → Due seat q n (slot t g).farm → cut_in row g s t ms ≡ false → n ≤ ticks_in s t ms
      → Answered row q.address (entries_in s t ms)
  due_answered t ms n d c h =
      ends-answered t ms
      (bound (next s g seat row q owner) (tick_of s g seat row q owner) (EndsBy s g seat row q owner) (DueIn s g seat row q owner)
      (λ x e. never_now (slot x g).farm e) (step_law s g seat row q owner) ms t n d (rw (same_count t ms) h))
      c

-- ---- what a call that is done says of sheet and table

record Passed (s : List ℕ) (t : Table) (m : Made) (o : Outcome) : Type 0 where
  good_sheet_is : good_sheet s ≡ true
  good_table_is : good_table s t ≡ true
  is_called : o ≡ called s t (whose s m.call)

passed : (s : List ℕ) (t : Table) (m : Made) → is_done s t m ≡ true → Passed s t m (step_of s t m)
passed s t m =
    step_case (λ o. eqb (number_of o) 0 ≡ true → Passed s t m o) s m.lent t m.call
    (λ n e. absurd (let z : suc n ≡ 0 = eqb-true (suc n) 0 e in omega arith))
    (λ a b e. record { good_sheet_is = a; good_table_is = b; is_called = refl })

-- an open row stands in a slot of the table
slot_open : (t : Table) (g i : ℕ) → is_open (row_at (slot t g).farm.rows i) ≡ true → g < length t
unfolding new_farm
slot_open [] g i e = absurd (false≢true (sym (ap is_open (row_free seat_count i)) ∙ e))
slot_open (x ∷ t) zero i e = omega arith
slot_open (x ∷ t) (suc g) i e = omega (arith, slot_open t g i e)

-- ---- the call by which a request joins

-- a bytes call that is done, of a row that is not active, is that of a fresh row
fresh_of : (t : Table) (g : ℕ) (own : FarmSheet) (h : Held) (seat : ℕ) (input : List ℕ) (x : RowState) → is_active_state x ≡ false
    → eqb (number_of (moved_to t g (bytes_by own h seat input x))) 0 ≡ true → (age : Clock) × (x ≡ Fresh age)
fresh_of t g own h seat input Free a e = absurd (false≢true e)
fresh_of t g own h seat input (Fresh age) a e = (age, refl)
fresh_of t g own h seat input (Waiting q) a e = absurd (false≢true e)
fresh_of t g own h seat input (Active b idle) a e = absurd (false≢true (sym a))

module _ (s : List ℕ) (t : Table) (m : Made) (row g seat : ℕ) (q : Request) (w : MustWait s t m row g seat q) where
  abbrev own : FarmSheet
  own = slot_sheet s g

  abbrev held : Held
  held = slot t g

  abbrev took : Taken
  took = taken_of held seat w.input

  ok : Passed s t m (step_of s t m)
  ok = passed s t m w.done

  is_moved : step_of s t m ≡ moved_to t g (move own held (bytes seat w.input))
  unfolding whose
  is_moved =
      ok.is_called
      ∙ ap (λ (c : Call). called s t (whose s c)) w.bytes_of
      ∙ rw w.owner refl

  fresh-row : (age : Clock) × ((row_at held.farm.rows seat).state ≡ Fresh age)
  unfolding move
  fresh-row =
      fresh_of t g own held seat w.input (row_at held.farm.rows seat).state
      (decide_ask own held.farm.rows seat _ w.check w.waits).0
      (subst (λ (o : Outcome). eqb (number_of o) 0 ≡ true) is_moved w.done)

  has-slot : g < length t
  has-slot = slot_open t g seat (ap is_open_state fresh-row.1)

  is-taken : step_of s t m ≡ moved_to t g (took_bytes own held seat took)
  unfolding move
  is-taken = is_moved ∙ rw fresh-row.1 refl

  -- the call is done, so sheet and table keep the rules
  place-some : 1 ≤ own.quota
  place-some = (slot_ok s g ((good-says s).right ok.good_sheet_is) (inside s g seat row q w.owner)).some

  good-farm : Good own held.farm
  good-farm = (table-says s t).right ok.good_table_is g has-slot

  abbrev after : Held
  after = slot (table_of t (step_of s t m)) g

  is-after : after ≡ held_by held (took_bytes own held seat took)
  is-after = ap (λ (o : Outcome). slot (table_of t o) g) is-taken ∙ slot_own t g (took_bytes own held seat took) has-slot

  line_after : after.farm.line ≡ held.farm.line ++ seat ∷ []
  line_after =
      ap (λ (h : Held). h.farm.line) is-after
      ∙ joins_last own held.farm seat took w.size q w.check fresh-row.0 fresh-row.1 w.whole w.reads w.waits
      place-some good-farm

  due_after : (n : ℕ) → check_limit * suc (length held.farm.line) ≤ n → Due seat q n after.farm
  due_after n h =
      subst (λ (x : Held). Due seat q n x.farm) (sym is-after)
      (joins_due own held.farm seat took w.size q w.check fresh-row.0 fresh-row.1 w.whole w.reads w.waits
      place-some good-farm n h)

-- ---- THE THEOREMS

-- From any table that keeps the rules: a row that waits with a request, and stands in its farm's line with k before it, that is at place
-- k + 1, has its answer among the entries of any calls that hold checkLimit * (k + 1) accepted ticks and no loss of its connection or of
-- its farm's link.
pub answered-by : (s : List ℕ) (t : Table) (row g seat k : ℕ) (q : Request) → good_table s t ≡ true → owner_of s row ≡ Some (farm_no g, seat)
    → Stands seat (slot t g).farm.line k → (row_at (slot t g).farm.rows seat).state ≡ Waiting q
    → (ms : List Made) → cut_in row g s t ms ≡ false → check_limit * (k + 1) ≤ ticks_in s t ms
    → Answered row q.address (entries_in s t ms)
answered-by s t row g seat k q good owner a x ms c h =
    let r : (slot t g).farm.clock.ticks < check_limit = ((table-says s t).right good g (slot_in t g a)).check_runs in
    due_answered s g seat row q owner t ms (check_limit * (k + 1))
    (record {
      near = record { place = k; at = a; runs = omega arith; within = rw add-one (omega (arith, mul-suc check_limit k)); asks = x };
      running = r;
    })
    c h

-- A request that must wait stands, after its call, at the end of its farm's line as it was: it joins at place k, k - 1 being the length of
-- the line before, and that call does not answer it.
pub joins_at : (s : List ℕ) (t : Table) (m : Made) (row g seat : ℕ) (q : Request) → MustWait s t m row g seat q
    → (slot (table_of t (step_of s t m)) g).farm.line ≡ (slot t g).farm.line ++ seat ∷ []
joins_at s t m row g seat q w = line_after s t m row g seat q w

-- THE BOUND, from any table at all: it is not said where the table comes from, for the call that joins was done, so the table keeps the
-- rules.
pub answered-after : (s : List ℕ) (t : Table) (m : Made) (row g seat k : ℕ) (q : Request) → MustWait s t m row g seat q
    → k ≡ length (slot t g).farm.line + 1
    → (ms : List Made) → cut_in row g s (table_of t (step_of s t m)) ms ≡ false → check_limit * k ≤ ticks_in s (table_of t (step_of s t m)) ms
    → Answered row q.address (entries_in s (table_of t (step_of s t m)) ms)
answered-after s t m row g seat k q w e ms c h =
    due_answered s g seat row q w.owner (table_of t (step_of s t m)) ms (check_limit * k)
    (due_after s t m row g seat q w (check_limit * k) (rw (e ∙ add-one (length (slot t g).farm.line)) (omega arith))) c h

-- DEMAND 3. After any calls from a fresh table, under one sheet, with no second start, a readable activation request that must wait for an
-- alive check joins its farm's line at place k. Whatever calls follow, if they hold checkLimit * k accepted ticks, and its own connection
-- and its farm's link are not lost among them, then its answer is among their entries. So it has its answer by the accepted tick number
-- checkLimit * k after it joined: take for `ms` the calls up to that tick.
pub must_be_answered : (s : List ℕ) (rooms : List (List (List ℕ))) (past : List Made) (m : Made) (row g seat k : ℕ) (q : Request)
    → MustWait s (run s (fresh rooms) past) m row g seat q → k ≡ length (slot (run s (fresh rooms) past) g).farm.line + 1
    → let joined = table_of (run s (fresh rooms) past) (step_of s (run s (fresh rooms) past) m) in
    (ms : List Made) → cut_in row g s joined ms ≡ false → check_limit * k ≤ ticks_in s joined ms → Answered row q.address (entries_in s joined ms)
must_be_answered s rooms past m row g seat k q w e ms c h = answered-after s (run s (fresh rooms) past) m row g seat k q w e ms c h
