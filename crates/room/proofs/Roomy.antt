-- Every call's entries have room: in the plan, and in the smallest output buffer.
-- Assumes nothing.
use Rattle.std.proofs.Common.{Option, Some, None}
use Rattle.kinds.specs.declared.FarmNo.{FarmNo}
use Prim.{Unit, tt}
use Prim.Native.Nat.{ℕ, suc, ◌+◌, ◌*◌, ◌≤◌, ◌<◌}
use mathlib.Core.Path.{◌≡◌, refl, ap}
use mathlib.Core.Bool.{Bool, true}
use mathlib.Core.List.{List, [], ◌∷◌}
use native.Mathlib.Omega.{arith}
use lib.Dec.{eqb, leb, ltb}
use lib.ListN.{length, length-append}
use borrow.Author.Tests.{lt-ltb, ltb-true, ltb-false, le-ltb}
use Rattle.octets.specs.Choice.{pick}
use Rattle.octets.specs.Search.{count_if}
use Rattle.octets.proofs.ChoiceLaws.{both_left, both_right}
use Rattle.kinds.specs.declared.Item.{Item}
use Rattle.sheet.specs.Sheet.{farm_count}
use Rattle.sheet.specs.Rules.{GoodSheet}
use Rattle.sheet.specs.Rows.{rows_owned, first_row, rows_in, owner_of}
use Rattle.sheet.specs.Test.{good_sheet}
use Rattle.sheet.proofs.FarmsLaws.{record_length}
use Rattle.sheet.proofs.RowsLaws.{rows_mono, rows_few, owner_seat}
use Rattle.sheet.proofs.TestLaws.{good-says}
use Rattle.outsheet.specs.Sheet.{total_of}
use Rattle.plan.specs.Plan.{plan_room}
use Rattle.outsheet.specs.Replies.{is_long_item, entries_of}
use Rattle.outsheet.specs.Contracts.{least_output, longest}
use Rattle.outsheet.proofs.RoomLaws.{total_most}
use Rattle.model.specs.FarmSheet.{FarmSheet, farm_sheet, slot_sheet}
use Rattle.model.specs.RuleTest.{good_farm}
use Rattle.model.specs.Rule.{Good}
use Rattle.model.specs.Move.{Own, connect, bytes, peer_closed, link_lost, datagram, controller, Held, Move, refused, gave, move, tick_move}
use Rattle.model.specs.Table.{Table, slot, good_from, good_table, Call, connect_to, bytes_from, peer_closed_on, link_lost_of, tick, datagram_to, message_from, Lent, least_output as leastLent, assembling_size, farms, of_farm, of_owner, whose, Outcome, refuses, did, moved_to, items_by, slot_tick, tick_items, called, step, start_step, items_of, long_of}
use Rattle.model.proofs.Cases.{pick_case, unless_case, split}
use Rattle.model.proofs.RuleKept.{slot_ok, GoodAll, slot-good}
use Rattle.model.proofs.RuleTestLaws.{farm-says}
use Rattle.model.proofs.DueTable.{step_case}
use Rattle.model.proofs.HandOnNone.{said_append, none_quiet}
use Rattle.outsheet.specs.Replies.{is_long}
use Rattle.room.proofs.Calls.{ticked_most}
use Rattle.room.proofs.Long.{longs, ticked-short}
use Rattle.room.proofs.Moves.{Small, SmallMove, small-none, move-small}

abbrev pub SmallOut : Outcome → Type 0
SmallOut (refuses n) = Unit {0}
SmallOut (did d) = Small d.items d.long

-- ---- a good sheet's farm

module _ (s : List ℕ) (f : ℕ) (h : f < farm_count s) where
  slot_is : slot_sheet s f ≡ farm_sheet s f
  unfolding slot_sheet
  slot_is = rw (lt-ltb f (farm_count s) h)

  slot-rows : (slot_sheet s f).rows ≡ rows_owned s f
  unfolding farm_sheet
  slot-rows = ap (λ (x : FarmSheet). x.rows) slot_is

  slot-names : GoodSheet s → length (slot_sheet s f).names ≤ longest
  unfolding farm_sheet
  slot-names g = omega (arith, ap (λ (x : FarmSheet). length x.names) slot_is, record_length s f g h)

-- rule 4 slot by slot
good-all : (s : List ℕ) (f : ℕ) (t : Table) → good_from s f t ≡ true → GoodAll s f t
good-all s f [] e = tt
good-all s f (h ∷ t) e = (
  (farm-says (slot_sheet s f) h.farm).right (both_left (good_farm (slot_sheet s f) h.farm) (good_from s (suc f) t) e),
  good-all s (suc f) t (both_right (good_farm (slot_sheet s f) h.farm) (good_from s (suc f) t) e),
)

-- ---- a tick: three entries for each row of the sheet at most

module _ (s : List ℕ) (g : GoodSheet s) where
  slot_most : (f : ℕ) (h : Held) → f < farm_count s → Good (slot_sheet s f) h.farm → length (items_by (slot_tick s f h)) ≤ 3 * rows_owned s f
  unfolding tick_move
  slot_most f h l k =
      pick_case (λ m. length (items_by m) ≤ 3 * rows_owned s f) (ltb f (farm_count s)) _ _
      (λ _. omega (arith, ticked_most k (slot_ok s f g l).some, slot-rows s f l)) (λ _. omega arith)

  -- beyond the farms there is none
  ticks_beyond : (f : ℕ) (t : Table) → farm_count s ≤ f → length (tick_items s f t) ≡ 0
  ticks_beyond f [] h = refl
  ticks_beyond f (x ∷ t) h =
      let none : length (items_by (slot_tick s f x)) ≡ 0 = ap (λ (b : Bool). length (items_by (pick b (tick_move (slot_sheet s f) x) (refused 5)))) (le-ltb f (farm_count s) h) in
      omega (arith, length-append (items_by (slot_tick s f x)) (tick_items s (suc f) t), ticks_beyond (suc f) t (omega arith))

  ticks_few : (f : ℕ) (t : Table) → f ≤ farm_count s → GoodAll s f t → length (tick_items s f t) + 3 * first_row s f ≤ 3 * rows_in s
  ticks_few f [] h k = omega (arith, rows_mono s f (farm_count s) h)
  ticks_few f (x ∷ t) h k =
      let both = length-append (items_by (slot_tick s f x)) (tick_items s (suc f) t) in
      split (ltb f (farm_count s))
      (λ e.
      let l : f < farm_count s = ltb-true f (farm_count s) e in
      omega (arith, both, slot_most f x l k.0, ticks_few (suc f) t l k.1))
      (λ e.
      let l : farm_count s ≤ f = ltb-false f (farm_count s) e in
      omega (arith, ticks_beyond f (x ∷ t) l, rows_mono s f (farm_count s) h))

ticks-short : (s : List ℕ) (f : ℕ) (t : Table) → longs (tick_items s f t) ≡ 0
unfolding tick_move
ticks-short s f [] = none_quiet is_long
ticks-short s f (x ∷ t) =
    omega (
      arith,
      said_append is_long (items_by (slot_tick s f x)) (tick_items s (suc f) t),
      pick_case (λ m. longs (items_by m) ≡ 0) (ltb f (farm_count s)) (tick_move (slot_sheet s f) x) (refused 5) (λ _. ticked-short (slot_sheet s f) x.farm)
          (λ _. none_quiet is_long),
      ticks-short s (suc f) t,
    )

-- ---- a call, where refusals 1 to 4 are past

module _ (s : List ℕ) (t : Table) (g : GoodSheet s) (k : GoodAll s 0 t) where
  farm-small : (f : ℕ) (c : Own) → f < farm_count s → SmallOut (called s t (farms f c))
  farm-small f c h =
      by (move (slot_sheet s f) (slot t f) c)
      (move-small (slot_sheet s f) (slot_ok s f g h) (slot t f) (slot-good s 0 f t f (omega arith) k) (slot-names s f h g) c)
    where
      by : (m : Move) → SmallMove m → SmallOut (moved_to t f m)
      by (refused n) e = tt
      by (gave v) e = e

  named_small : (f : ℕ) (c : Own) → SmallOut (called s t (of_farm s f c))
  named_small f c =
      pick_case (λ w. SmallOut (called s t w)) (ltb f (farm_count s)) _ _ (λ e. farm-small f c (ltb-true f (farm_count s) e)) (λ _. tt)

  owned-small : (r : ℕ) (c : ℕ → Own) → SmallOut (called s t (of_owner (owner_of s r) c))
  owned-small r c = by (owner_of s r) refl
    where
      by : (o : Option (FarmNo × ℕ)) → owner_of s r ≡ o → SmallOut (called s t (of_owner o c))
      by (Some (f, seat)) e = farm-small f.0 (c seat) (owner_seat s r f.0 seat e).farm_within
      by None e = tt

  pub called-small : (c : Call) → SmallOut (called s t (whose s c))
  unfolding whose
  called-small (connect_to f) = named_small f connect
  called-small (bytes_from r input) = owned-small r (λ seat. bytes seat input)
  called-small (peer_closed_on r) = owned-small r (λ seat. peer_closed seat)
  called-small (link_lost_of f) = named_small f link_lost
  called-small tick =
      record {
        few = omega (arith, ticks_few s g 0 t (omega arith) k, rows_few s g);
        one_long = omega (arith, ticks-short s 0 t);
        short = omega arith;
      }
  called-small (datagram_to f input) = named_small f (datagram input)
  called-small (message_from f from to user) = named_small f (controller from to user)

-- ---- the claims: of every call, whatever sheet, table and buffers are lent, since a refused one has no entry

module _ (s : List ℕ) (l : Lent) (t : Table) where
  pub step_small : (c : Call) → SmallOut (step s l t c)
  unfolding good_table
  step_small c = step_case SmallOut s l t c (λ n. tt) (λ e k. called-small s t ((good-says s).right e) (good-all s 0 t k) c)

  pub start_small : SmallOut (start_step s l t)
  unfolding start_step
  start_small =
      unless_case SmallOut (good_sheet s) _ _ (λ _. tt)
      (λ _. unless_case SmallOut (leb leastLent l.output) _ _ (λ _. tt)
      (λ _. unless_case SmallOut (eqb l.assembling assembling_size) _ _ (λ _. tt) (λ _. small-none)))

small_of : (o : Outcome) → SmallOut o → Small (items_of o) (long_of o)
small_of (refuses n) e = small-none
small_of (did d) e = e

small_roomy : (items : List Item) (long : List ℕ) → Small items long → total_of (entries_of long items) ≤ least_output
small_roomy items long e = total_most long items e.few e.one_long e.short

module _ (s : List ℕ) (l : Lent) (t : Table) (c : Call) where
  -- THE PLAN IS NEVER FULL: all entries of a call have room in it.
  pub few : length (items_of (step s l t c)) ≤ plan_room
  few = (small_of (step s l t c) (step_small s l t c)).few

  -- at most one of them holds lent bytes,
  pub one-long : count_if is_long_item (items_of (step s l t c)) ≤ 1
  one-long = (small_of (step s l t c) (step_small s l t c)).one_long

  -- and these are no more than 2,048,
  pub long-short : length (long_of (step s l t c)) ≤ longest
  long-short = (small_of (step s l t c) (step_small s l t c)).short

  -- so that EVERY OUTPUT SHEET HAS ROOM in the smallest output buffer.
  pub roomy : total_of (entries_of (long_of (step s l t c)) (items_of (step s l t c))) ≤ least_output
  roomy = small_roomy (items_of (step s l t c)) (long_of (step s l t c)) (small_of (step s l t c) (step_small s l t c))

-- so has that of a start
pub start_roomy : (s : List ℕ) (l : Lent) (t : Table) → total_of (entries_of (long_of (start_step s l t)) (items_of (start_step s l t))) ≤ least_output
start_roomy s l t = small_roomy (items_of (start_step s l t)) (long_of (start_step s l t)) (small_of (start_step s l t) (start_small s l t))
