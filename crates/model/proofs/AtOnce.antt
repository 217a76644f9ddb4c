-- A request that needs no check is answered by the call that finishes it: silence is no answer. Told by the bytes, as in Readable.
-- Assumes nothing.
use Rattle.std.proofs.Common.{Some}
use Prim.Native.Nat.{ℕ, ◌≤◌}
use mathlib.Core.Path.{◌≡◌, refl, sym, ap, subst, ◌∙◌}
use mathlib.Core.List.{List, [], ◌++◌}
use native.Mathlib.Omega.{arith}
use lib.ListN.{length, get_or, take}
use Rattle.kinds.specs.declared.Request.{Request}
use Rattle.kinds.specs.declared.RowState.{RowState}
use Rattle.kinds.specs.declared.RowState.TheVariants.{Free, Fresh, Waiting, Active}
use Rattle.kinds.specs.declared.Item.{Item}
use Rattle.kinds.specs.declared.Decision.{Decision}
use Rattle.kinds.specs.declared.Decision.TheVariants.{Now}
use Rattle.kinds.specs.declared.Reply.TheVariants.{Activation}
use Rattle.sheet.specs.Sheet.{farm_no}
use Rattle.sheet.specs.Rows.{owner_of}
use Rattle.wire.specs.Header.{most_payload, header_at}
use Rattle.payload.specs.Payload.{request_in}
use Rattle.model.specs.FarmSheet.{FarmSheet, slot_sheet}
use Rattle.model.specs.Row.{row_at}
use Rattle.model.specs.Stream.{Event, Taken, finished}
use Rattle.model.specs.Farm.{Farm, Done, says, and_then}
use Rattle.model.specs.Line.{decide, settle}
use Rattle.model.specs.Bytes.{event_done, requested, decided_by, heard, bytes_done}
use Rattle.model.specs.Move.{bytes, Held, Given, Move, refused, gave, bytes_by, move}
use Rattle.model.specs.Table.{slot, bytes_from, Lent, whose, called, Did, did, moved_to, items_by, step}
use Rattle.model.specs.History.{Made, fresh, run}
use Rattle.model.specs.HandsOn.{bytes_at}
use Rattle.model.specs.Words.{taken_of, Begins, ReadableNow}
use Rattle.model.specs.Rule.{Good}
use Rattle.model.proofs.RuleKept.{slot-good, run-good, fresh-good}
use Rattle.model.proofs.CodeAnswer.{said}
use Rattle.model.proofs.HandOnStream.{Ends, stream-ends}
use Rattle.model.proofs.HandOnTable.{step_case}
use Rattle.model.proofs.HandOnHistory.{room_stays}

-- what is said first stays first, whatever comes then
begins_then : (it : Item) (d : Done) (g : Farm → Done) → Begins it d.items → Begins it (and_then d g).items
unfolding and_then
begins_then it d g b = record { rest = b.rest ++ (g d.farm).items; begins = rw b.begins refl }

-- the call of a farm
module _ (own : FarmSheet) (h : Held) (seat : ℕ) (input : List ℕ) (q : Request) (code : ℕ) where
  abbrev took : Taken
  took = taken_of h seat input

  abbrev answer : Item
  answer = says own seat (Activation q.address own.entity code)

  -- the farm when the bytes are in
  abbrev then : Farm
  then = heard seat took h.farm

  first_said : (size : ℕ) → took.event ≡ finished 0x0005 size → request_in (take size took.stream.room) ≡ q
      → decide own (heard seat took h.farm).rows seat q ≡ Now code → Begins answer (bytes_done own seat took h.farm).items
  unfolding bytes_done event_done requested
  first_said size e r d =
      begins_then answer (event_done own seat took.event took.stream.room then) (settle own)
      (subst (λ (x : Event). Begins answer (event_done own seat x took.stream.room then).items) (sym e)
      (subst (λ (x : Request). Begins answer (requested own seat x then).items) (sym r)
      (subst (λ (x : Decision). Begins answer (decided_by own seat q x then).items) (sym d)
      (record { rest = (said own seat q.address code then).0; begins = (said own seat q.address code then).1 }))))

  by_state_lem : (g : Given) (st : RowState) → bytes_by own h seat input st ≡ gave g → Begins answer (bytes_done own seat took h.farm).items
      → Begins answer g.items
  by_state_lem g Free e b = let z : ◌≡◌ {A = ℕ} 0 1 = cc in absurd (omega arith)
  by_state_lem g (Fresh age) e b = subst (λ (m : Move). Begins answer (items_by m)) e b
  by_state_lem g (Waiting r) e b = let z : ◌≡◌ {A = ℕ} 0 1 = cc in absurd (omega arith)
  by_state_lem g (Active a idle) e b = subst (λ (m : Move). Begins answer (items_by m)) e b

  -- ANSWERED AT ONCE: on a farm that keeps rule 4, with 2,048 bytes of room for the row.
  pub at_once : (g : Given) → Good own h.farm → most_payload ≤ length (get_or h.rooms seat []) → move own h (bytes seat input) ≡ gave g
      → ReadableNow own h seat input q code → Begins answer g.items
  unfolding move
  at_once g good room e w =
      by_state_lem g (row_at h.farm.rows seat).state e
      (first_said (header_at (bytes_at h seat input) 0).length (ends.finishes w.readable) (ap request_in (ends.stores w.readable) ∙ w.reads) w.decided)
    where
      ends : Ends 0x0005 (bytes_at h seat input) took.event took.stream
      ends =
          stream-ends 0x0005 refl (row_at h.farm.rows seat).place (row_at h.farm.rows seat).head (get_or h.rooms seat []) input
          (good.tidy seat).eight room (good.possible seat)

-- IN A HISTORY: a done bytes call that finishes a readable request which needs no check begins its entries with the answer.
pub history_at_once : (s : List ℕ) (rooms : List (List (List ℕ))) (ms : List Made) (l : Lent) (r f seat : ℕ) (input : List ℕ) (q : Request) (code : ℕ)
    (d : Did) → most_payload ≤ length (get_or (get_or rooms f []) seat []) → owner_of s r ≡ Some (farm_no f, seat)
    → step s l (run s (fresh rooms) ms) (bytes_from r input) ≡ did d → ReadableNow (slot_sheet s f) (slot (run s (fresh rooms) ms) f) seat input q code
    → Begins (says (slot_sheet s f) seat (Activation q.address (slot_sheet s f).entity code)) d.items
unfolding whose
history_at_once s rooms ms l r f seat input q code d room owner e w =
    step_case
    (λ o. o ≡ did d → Begins (says (slot_sheet s f) seat (Activation q.address (slot_sheet s f).entity code)) d.items) s l
    (run s (fresh rooms) ms) (bytes_from r input)
    (λ n e. let z : ◌≡◌ {A = ℕ} 0 1 = cc in absurd (omega arith)) (λ g. went) e
  where
    by : (m : Move) → move (slot_sheet s f) (slot (run s (fresh rooms) ms) f) (bytes seat input) ≡ m
        → moved_to (run s (fresh rooms) ms) f m ≡ did d → Begins (says (slot_sheet s f) seat (Activation q.address (slot_sheet s f).entity code)) d.items
    by (refused n) x y = let z : ◌≡◌ {A = ℕ} 0 1 = cc in absurd (omega arith)
    by (gave g) x y =
        let items : d.items ≡ g.items = cc in
        rw items
        (at_once (slot_sheet s f) (slot (run s (fresh rooms) ms) f) seat input q code g
        (slot-good s 0 f (run s (fresh rooms) ms) f (omega arith) (run-good s (fresh rooms) ms (fresh-good s 0 rooms)))
        (room_stays s rooms ms f seat most_payload room) x w)

    went : called s (run s (fresh rooms) ms) (whose s (bytes_from r input)) ≡ did d
        → Begins (says (slot_sheet s f) seat (Activation q.address (slot_sheet s f).entity code)) d.items
    went = rw owner (by (move (slot_sheet s f) (slot (run s (fresh rooms) ms) f) (bytes seat input)) refl)
