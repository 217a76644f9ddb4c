-- Hand-ons of a call on the whole table.
-- Assumes nothing.
use Rattle.std.proofs.Common.{Option, Some, None}
use Rattle.kinds.specs.declared.FarmNo.{FarmNo}
use Prim.Native.Nat.{ℕ, suc, ◌+◌, ◌≤◌}
use mathlib.Core.Path.{◌≡◌, refl, sym, ap}
use mathlib.Core.Bool.{Bool, true, false, false≢true}
use mathlib.Core.List.{List, [], ◌∷◌}
use native.Mathlib.Omega.{arith}
use lib.Dec.{eqb, leb, ltb}
use lib.ListN.{length, get_or}
use borrow.Author.Tests.{lt-ltb}
use Rattle.octets.specs.Choice.{pick}
use Rattle.sheet.specs.Sheet.{farm_count, farm_no}
use Rattle.sheet.specs.Rows.{owner_of}
use Rattle.sheet.specs.Test.{good_sheet}
use Rattle.sheet.proofs.RowsLaws.{owner_seat}
use Rattle.wire.specs.Header.{most_payload}
use Rattle.model.specs.FarmSheet.{farm_sheet, slot_sheet}
use Rattle.model.specs.Move.{Own, bytes, connect, peer_closed, link_lost, datagram, controller, Move, refused, gave, move, tick_move}
use Rattle.model.specs.Table.{Table, slot, good_table, Call, connect_to, bytes_from, peer_closed_on, link_lost_of, tick, datagram_to, message_from, Lent, least_output, assembling_size, farms, of_farm, of_owner, whose, Did, Outcome, refuses, did, moved_to, items_by, slot_tick, tick_items, called, step, items_of}
use Rattle.model.specs.Rule.{Good}
use Rattle.model.specs.HandsOn.{is_hand_on, hand_ons, HandedOn}
use Rattle.model.proofs.Cases.{pick_case, unless_case}
use Rattle.model.proofs.HandOnNone.{said_append, none_quiet}
use Rattle.model.proofs.HandOn.{handed_on}
use Rattle.model.proofs.HandOnElse.{is_bytes, others_hand_nothing_on, ticks_hand_nothing_on}

-- ---- calls that take no bytes

abbrev pub takes_bytes : Call → Bool
takes_bytes (connect_to f) = false
takes_bytes (bytes_from r input) = true
takes_bytes (peer_closed_on r) = false
takes_bytes (link_lost_of f) = false
takes_bytes tick = false
takes_bytes (datagram_to f input) = false
takes_bytes (message_from f from to user) = false

abbrev NoneOut : Outcome → Type 0
NoneOut o = hand_ons (items_of o) ≡ 0

module _ (s : List ℕ) (t : Table) where
  none-farm : (f : ℕ) (c : Own) → is_bytes c ≡ false → NoneOut (called s t (farms f c))
  none-farm f c e = by (move (slot_sheet s f) (slot t f) c) (others_hand_nothing_on (slot_sheet s f) (slot t f) c e)
    where
      by : (m : Move) → hand_ons (items_by m) ≡ 0 → NoneOut (moved_to t f m)
      by (refused n) z = z
      by (gave g) z = z

  none-ticks : (f : ℕ) (u : Table) → hand_ons (tick_items s f u) ≡ 0
  none-ticks f [] = none_quiet is_hand_on
  none-ticks f (h ∷ u) =
      omega (arith, said_append is_hand_on (items_by (slot_tick s f h)) (tick_items s (suc f) u), by (ltb f (farm_count s)), none-ticks (suc f) u)
    where
      by : (b : Bool) → hand_ons (items_by (pick b (tick_move (slot_sheet s f) h) (refused 5))) ≡ 0
      by true = ticks_hand_nothing_on (slot_sheet s f) h
      by false = none_quiet is_hand_on

  none_of_farm : (f : ℕ) (c : Own) → is_bytes c ≡ false → NoneOut (called s t (of_farm s f c))
  none_of_farm f c e = pick_case (λ w. NoneOut (called s t w)) (ltb f (farm_count s)) _ _ (λ k. none-farm f c e) (λ k. none_quiet is_hand_on)

  none-called : (c : Call) → takes_bytes c ≡ false → NoneOut (called s t (whose s c))
  unfolding whose
  none-called (connect_to f) e = none_of_farm f connect refl
  none-called (bytes_from r input) e = absurd (false≢true (sym e))
  none-called (peer_closed_on r) e = by (owner_of s r)
    where
      by : (o : Option (FarmNo × ℕ)) → NoneOut (called s t (of_owner o (λ seat. peer_closed seat)))
      by (Some (f, seat)) = none-farm f.0 (peer_closed seat) refl
      by None = none_quiet is_hand_on
  none-called (link_lost_of f) e = none_of_farm f link_lost refl
  none-called tick e = none-ticks 0 t
  none-called (datagram_to f input) e = none_of_farm f (datagram input) refl
  none-called (message_from f from to user) e = none_of_farm f (controller from to user) refl

-- what holds of every refusal, and of the call where 1 to 4 are past
pub step_case : (P : Outcome → Type 0) (s : List ℕ) (l : Lent) (t : Table) (c : Call) → ((n : ℕ) → P (refuses n)) → (good_table s t ≡ true → P (called s t (whose s c)))
    → P (step s l t c)
unfolding step
step_case P s l t c r k =
    unless_case P (good_sheet s) _ _ (λ e. r 1)
    (λ e. unless_case P (leb least_output l.output) _ _ (λ e. r 2)
    (λ e. unless_case P (eqb l.assembling assembling_size) _ _ (λ e. r 3) (λ e. unless_case P (good_table s t) _ _ (λ e. r 4) k)))

-- NO OTHER CALL, whatever the sheet, the table and the buffers: a call that takes no bytes hands nothing on.
pub other_calls_hand_nothing_on : (s : List ℕ) (l : Lent) (t : Table) (c : Call) → takes_bytes c ≡ false → hand_ons (items_of (step s l t c)) ≡ 0
other_calls_hand_nothing_on s l t c e = step_case NoneOut s l t c (λ n. none_quiet is_hand_on) (λ g. none-called s t c e)

-- ---- a bytes call

-- the row of an entry on a farm's seat is the row over the whole sheet
pub row_of_seat : (s : List ℕ) (r f seat : ℕ) → owner_of s r ≡ Some (farm_no f, seat) → (slot_sheet s f).first + seat ≡ r
unfolding slot_sheet farm_sheet
row_of_seat s r f seat e = let is = owner_seat s r f seat e in rw (lt-ltb f (farm_count s) is.farm_within) is.is_row

did_same : {a b : Did} → did a ≡ did b → a ≡ b
did_same e = cc

-- THE CLAIM for a row of the whole table: as `handed_on`, for the farm that owns the row and the seat that the row has there.
pub row_handed_on : (s : List ℕ) (l : Lent) (t : Table) (r f seat : ℕ) (input : List ℕ) (d : Did) → owner_of s r ≡ Some (farm_no f, seat)
    → Good (slot_sheet s f) (slot t f).farm → most_payload ≤ length (get_or (slot t f).rooms seat [])
    → step s l t (bytes_from r input) ≡ did d → HandedOn (slot_sheet s f) (slot t f) seat input d.items d.long
unfolding whose
row_handed_on s l t r f seat input d owner good room =
    step_case (λ o. o ≡ did d → HandedOn (slot_sheet s f) (slot t f) seat input d.items d.long) s l t (bytes_from r input)
    (λ n e. let z : ◌≡◌ {A = ℕ} 0 1 = cc in absurd (omega arith)) (λ g. went)
  where
    by : (m : Move) → move (slot_sheet s f) (slot t f) (bytes seat input) ≡ m → moved_to t f m ≡ did d
        → HandedOn (slot_sheet s f) (slot t f) seat input d.items d.long
    by (refused n) q e = let z : ◌≡◌ {A = ℕ} 0 1 = cc in absurd (omega arith)
    by (gave g) q e =
        let items : d.items ≡ g.items = ap (λ (x : Did). x.items) (sym (did_same e)) in
        let long : d.long ≡ g.long = ap (λ (x : Did). x.long) (sym (did_same e)) in
        rw (items, long) (handed_on (slot_sheet s f) (slot t f) seat input g good room q)

    went : called s t (whose s (bytes_from r input)) ≡ did d → HandedOn (slot_sheet s f) (slot t f) seat input d.items d.long
    went = rw owner (by (move (slot_sheet s f) (slot t f) (bytes seat input)) refl)
