-- THE PROMISES, OF THE CALLS THAT RUN. `Began` is an accepted call of gateway's start; `Calls` is a history of gateway's connect, bytes,
-- peer_closed, link_lost, tick, datagram and controller_message, each lent the table and the assembling buffer that the call before it left;
-- `CallServed` is what the contract of each of them ensures. Each statement stands here whole, under the sentence that it is; of the model
-- they stand in model/proofs/Promises.
-- Assumes nothing.
use Rattle.std.proofs.Common.{Some}
use Prim.Native.Nat.{ℕ, ◌+◌, ◌*◌, ◌≤◌, ◌<◌}
use mathlib.Core.Path.{◌≡◌, refl, sym, ap, ◌∙◌, subst}
use mathlib.Core.Bool.{true, false}
use mathlib.Core.List.{List, [], map}
use mathlib.Core.Logic.{◌↔◌, ⊎_elim}
use native.Mathlib.Omega.{arith}
use lib.Dec.{eqb}
use lib.ListN.{length, get_or}
use Rattle.octets.proofs.SaysLaws.{never}
use Rattle.kinds.specs.Clock.{check_limit}
use Rattle.kinds.specs.declared.Request.{Request}
use Rattle.wire.specs.Header.{most_payload}
use Rattle.sheet.specs.Sheet.{most_farms, farm_count, farm_no}
use Rattle.sheet.specs.Rows.{rows_owned, owner_of}
use Rattle.sheet.proofs.RowsLaws.{owner_seat}
use Rattle.sheet.proofs.Order.{le_or_lt}
use Rattle.model.specs.FarmSheet.{slot_sheet}
use Rattle.model.specs.Row.{row_at, active_as}
use Rattle.model.specs.Farm.{Farm}
use Rattle.model.specs.Table.{Table, slot, good_table, Call, bytes_from, Outcome, items_of, table_of}
use Rattle.model.specs.History.{Made, fresh, step_of, run, calls_of, has_of}
use Rattle.model.specs.Words.{ReadableWaits, ReadableNow, Decided, cut_in, ticks_in}
use Rattle.model.specs.HandsOn.{hand_ons, HandedOn}
use Rattle.model.specs.Meter.{notes_of, MetersAre, Balanced}
use Rattle.model.proofs.TableTest.{table-says, FirstBroken}
use Rattle.model.proofs.HandOnTable.{takes_bytes}
use Rattle.model.proofs.Neighbour.{SameShape}
use Rattle.model.proofs.Promises as rules
use Rattle.table.specs.Block.{farm_of}
use Rattle.lent.specs.declared.Answer.{Answer}
use Rattle.lent.specs.Lent.{whole_table, block, lent_table, lent_step, lent_start}
use Rattle.lent.specs.Gate.{Lendable}
use Rattle.lent.specs.Served.{Memory, memory, CallServed, StartServed}
use Rattle.lent.proofs.ServedLaws.{served-once}
use Rattle.host.specs.Wrote.{Untouched, HandsNothing, HandsExactly, Waits, RespondsFirst}
use Rattle.host.specs.Calls.{made, Calls, Began, ticks_of, lost_of, RespondsIn}
use Rattle.host.specs.Gets.{Got, shares_in, GetsIn, Some as Exists}
use Rattle.host.proofs.OutcomeLaws.{refusal_leaves, did-wrote, zero-done}
use Rattle.host.proofs.RefusalLaws.{call_rules, start_rules, lent-refusals, lent_start_refusals}
use Rattle.host.proofs.AnswerLaws.{others_hand_nothing, hands-nothing, hands_exactly, responds_first, decided_responds}
use Rattle.host.proofs.GetsLaws.{got_by, shares_are, gets_is, gets_some}
use Rattle.host.proofs.HistoryLaws.{farm_in, lent-step, call-is, call-means, call-whole, ticks_are, losses_are, rooms, began_lendable, began_fresh, began_whole, history_means, history_whole}
use Rattle.host.proofs.RoomLaws.{rooms_slots, rooms-count, room-long, room-none}

-- ---- Every call: its answer and every byte of the lent memory are settled. Any two results that the contract of a call allows are equal

pub call_settled : (s : List ℕ) (c : Call) (a b : Answer) (before x y : Memory) → CallServed s c a before x → CallServed s c b before y → (a ≡ b) × (x ≡ y)
call_settled s c a b before x y = served-once s (lent_step s before.table before.output before.assembling c) a b before x y

pub start_settled : (s : List ℕ) (a b : Answer) (before x y : Memory) → StartServed s a before x → StartServed s b before y → (a ≡ b) × (x ≡ y)
start_settled s a b before x y = served-once s (lent_start s before.table before.output before.assembling) a b before x y

-- ---- DEMAND 1: "A call it can't serve is refused by a number from our list, exactly when the list says". The list is `call_rules` (RefusalLaws), a
-- rule for each number; number n is given exactly where rule n is the first that is broken, 0 exactly where none is, and no number beyond the
-- list is given. Whatever is lent: the rules are those of the table that the lent bytes mean, and rule 4 is broken too where they mean none

pub refused_exactly : (s : List ℕ) (c : Call) (a : Answer) (before after : Memory) → CallServed s c a before after
    → (n : ℕ) → (a.number ≡ n) ↔ FirstBroken (call_rules s c before) n
refused_exactly s c a before after x n =
    let k = lent-refusals s c before n in
    (λ e. k.0 (sym x.number ∙ e), λ h. x.number ∙ k.1 h)

-- "1 to 4 hold for every call, but start skips 4."
pub start_refused_exactly : (s : List ℕ) (a : Answer) (before after : Memory) → StartServed s a before after
    → (n : ℕ) → (a.number ≡ n) ↔ FirstBroken (start_rules s before) n
start_refused_exactly s a before after x n =
    let k = lent_start_refusals s before n in
    (λ e. k.0 (sym x.number ∙ e), λ h. x.number ∙ k.1 h)

-- bytes that are those of no table: 4, exactly where 1 to 3 do not apply
pub no_table_refused : (s : List ℕ) (c : Call) (a : Answer) (before after : Memory) → CallServed s c a before after → whole_table before.table ≡ false
    → (a.number ≡ 4) ↔ Lendable s before.output before.assembling
no_table_refused s c a before after x w =
    let k = refused_exactly s c a before after x 4 in (
      λ e. let h = k.0 e in record { sheet = h.0; output = h.1.0; assembling = h.1.1.0 },
      λ l. k.1 (l.sheet, (l.output, (l.assembling, λ g. never (sym w ∙ g.whole)))),
    )

-- "and a refused call changes nothing in any memory lent to it."
pub refused_changes_nothing : (s : List ℕ) (c : Call) (a : Answer) (before after : Memory) → CallServed s c a before after → (a.number ≡ 0 → ⊥)
    → Untouched a before after
refused_changes_nothing s c a before after = refusal_leaves s (lent_step s before.table before.output before.assembling c)

-- "A refused start gives back the table it was lent."
pub refused_start_changes_nothing : (s : List ℕ) (a : Answer) (before after : Memory) → StartServed s a before after → (a.number ≡ 0 → ⊥)
    → Untouched a before after
refused_start_changes_nothing s a before after = refusal_leaves s (lent_start s before.table before.output before.assembling)

-- ---- DEMAND 2: no call but bytes hands anything on, whatever is lent

pub nothing_else_hands_on : (s : List ℕ) (c : Call) (a : Answer) (before after : Memory) → takes_bytes c ≡ false → CallServed s c a before after → a.number ≡ 0
    → HandsNothing a before after
nothing_else_hands_on s c a before after k x e =
    let d = zero-done s c x e in
    hands-nothing d.what (did-wrote s (lent_step s before.table before.output before.assembling c) d.what x d.is)
    (ap (λ (o : Outcome). hand_ons (items_of o)) (sym d.is) ∙ others_hand_nothing s before.table before.output before.assembling c k)

module _ {s t m : List ℕ} (b : Began s t m) where
  -- ---- Rule 4: a history never meets refusal 4

  pub rule_4_kept : {ms : List Made} {u n : List ℕ} → Calls s t m ms u n → good_table s (lent_table s u n) ≡ true
  rule_4_kept {ms} h = ap (good_table s) (history_means b h) ∙ rules.rule_4_in_histories s (rooms b) ms

  pub never_refused_4 : {ms : List Made} {u n : List ℕ} → Calls s t m ms u n → (out : List ℕ) (c : Call) (a : Answer) (after : Memory)
      → CallServed s c a (memory u out n) after → a.number ≡ 4 → ⊥
  never_refused_4 {ms} {u} {n} h out c a after x e =
      ((refused_exactly s c a (memory u out n) after x 4).0 e).1.1.1
      (record { whole = history_whole b h; keeps = (table-says s (lent_table s u n)).right (rule_4_kept h) })

  -- a call on what the history left is the rules' step
  in_the_rules : {ms : List Made} {u n : List ℕ} → Calls s t m ms u n → (out : List ℕ) (c : Call)
      → step_of s (run s (fresh (rooms b)) ms) (made out n c) ≡ lent_step s u out n c
  in_the_rules {ms} {u} {n} h out c =
      ap (λ (y : Table). step_of s y (made out n c)) (sym (history_means b h)) ∙ sym (lent-step s u out n c (history_whole b h))

  -- the farm that a block means is the slot of the rules' table
  below : (g : ℕ) → g < farm_count s → g < most_farms
  below g i = omega (arith, i, (began_lendable b).sheet.head.farms_at_most)

  slot-now : {ms : List Made} {u n : List ℕ} → Calls s t m ms u n → (g : ℕ) → g < farm_count s → (slot (run s (fresh (rooms b)) ms) g).farm ≡ farm_of (block u g)
  slot-now {ms} {u} {n} h g i = ap (λ (y : Table). (slot y g).farm) (sym (history_means b h)) ∙ farm_in s u n g (below g i)

  -- ---- DEMAND 2: "A tester's address is never active on two connections."

  pub never_active_twice : {ms : List Made} {u n : List ℕ} → Calls s t m ms u n → (f g i j a : ℕ) → f < most_farms → g < most_farms
      → active_as a (row_at (farm_of (block u f)).rows i) ≡ true → active_as a (row_at (farm_of (block u g)).rows j) ≡ true → (f ≡ g) × (i ≡ j)
  never_active_twice {ms} {u} {n} h f g i j a hf hg x y =
      rules.never_active_twice s (rooms b) ms f g i j a (at f i hf x) (at g j hg y)
    where
      at : (f i : ℕ) → f < most_farms → active_as a (row_at (farm_of (block u f)).rows i) ≡ true → active_as a (row_at (slot (run s (fresh (rooms b)) ms) f).farm.rows i) ≡ true
      at f i hf x =
          ap (λ (y : Table). active_as a (row_at (slot y f).farm.rows i)) (sym (history_means b h))
          ∙ ap (λ (y : Farm). active_as a (row_at y.rows i)) (farm_in s u n f hf)
          ∙ x

  -- ---- DEMAND 2: "A whole diagnostic message that the header rules pass reaches a controller exactly when its sender is active on that
  -- connection and the controller is known, reachable and of that farm." Of a bytes call that is done, by the bytes that it wrote

  room_enough : (r f seat : ℕ) → owner_of s r ≡ Some (farm_no f, seat) → most_payload ≤ length (get_or (get_or (rooms b) f []) seat [])
  room_enough r f seat o =
      let k = owner_seat s r f seat o in
      omega (arith, room-long s b.lent.table b.lent.assembling (began_lendable b).sheet (began_lendable b).assembling f seat k.farm_within k.seat_within)

  pub handed_on_exactly : {ms : List Made} {u n : List ℕ} → Calls s t m ms u n → (out : List ℕ) (r f seat : ℕ) (input : List ℕ) (a : Answer) (after : Memory)
      → owner_of s r ≡ Some (farm_no f, seat) → CallServed s (bytes_from r input) a (memory u out n) after → a.number ≡ 0
      → HandsExactly (slot_sheet s f) (slot (lent_table s u n) f) r seat input a (memory u out n) after
  handed_on_exactly {ms} {u} {n} h out r f seat input a after o x e =
      let d = zero-done s (bytes_from r input) x e in
      hands_exactly s r f seat (slot (lent_table s u n) f) input d.what o (did-wrote s (lent_step s u out n (bytes_from r input)) d.what x d.is)
      (subst (λ (y : Table). HandedOn (slot_sheet s f) (slot y f) seat input d.what.items d.what.long) (sym (history_means b h))
      (rules.handed_on_exactly s (rooms b) ms (made out n (bytes_from r input)).lent r f seat input d.what (room_enough r f seat o) o
      (in_the_rules h out (bytes_from r input) ∙ d.is)))

  -- ---- DEMAND 2, of activation codes: a readable request that needs no check is answered by the call that finishes it. Its sheet begins with
  -- that 0006, with the code that the rules give

  pub answered_at_once : {ms : List Made} {u n : List ℕ} → Calls s t m ms u n → (out : List ℕ) (r f seat : ℕ) (input : List ℕ) (q : Request) (code : ℕ)
      (a : Answer) (after : Memory) → owner_of s r ≡ Some (farm_no f, seat) → CallServed s (bytes_from r input) a (memory u out n) after → a.number ≡ 0
      → ReadableNow (slot_sheet s f) (slot (lent_table s u n) f) seat input q code
      → RespondsFirst r q.address (slot_sheet s f).entity code a (memory u out n) after
  answered_at_once {ms} {u} {n} h out r f seat input q code a after o x e w =
      let d = zero-done s (bytes_from r input) x e in
      responds_first s r f seat q code d.what o (did-wrote s (lent_step s u out n (bytes_from r input)) d.what x d.is)
      (rules.answered_at_once s (rooms b) ms (made out n (bytes_from r input)).lent r f seat input q code d.what (room_enough r f seat o) o
      (in_the_rules h out (bytes_from r input) ∙ d.is)
      (subst (λ (y : Table). ReadableNow (slot_sheet s f) (slot y f) seat input q code) (history_means b h) w))

  -- ---- DEMAND 3: "a readable activation request that must wait for an alive check, and joins its farm's line at place k, has its final answer
  -- by the accepted clock tick number 50 times k after it joined, unless its own connection or its farm's link is lost first. [..] The answer is
  -- the one the rules give at the moment of deciding." `RespondsIn`: some call of the history wrote the 0006 to that row, with that code

  pub answered_in_time : {past : List Made} {u n : List ℕ} → Calls s t m past u n → (out : List ℕ) (row g seat k : ℕ) (input : List ℕ) (q : Request) (a : Answer)
      (joined : Memory) → owner_of s row ≡ Some (farm_no g, seat) → CallServed s (bytes_from row input) a (memory u out n) joined → a.number ≡ 0
      → Waits (slot_sheet s g) (slot (lent_table s u n) g) seat input q → k ≡ length (farm_of (block u g)).line + 1
      → {ms : List Made} {v o : List ℕ} (rest : Calls s joined.table joined.assembling ms v o) → lost_of row g rest ≡ false → check_limit * k ≤ ticks_of rest
      → RespondsIn s row q.address rest
  answered_in_time {past} {u} {n} h out row g seat k input q a joined own x e w place {ms} rest lost ticks =
      decided_responds s row q.address whole rest
      (subst (λ (y : Table). Decided s row q.address y ms) (sym after)
      (rules.readable_answered_in_time s (rooms b) past (made out n (bytes_from row input)) row g seat k q (room_enough row g seat own)
      (subst (λ (y : Table). ReadableWaits s y (made out n (bytes_from row input)) row g seat q) (history_means b h) waits)
      (place ∙ ap (λ (y : Farm). length y.line + 1) (sym (slot-now h g (owner_seat s row g seat own).farm_within))) ms
      (ap (λ (y : Table). cut_in row g s y ms) (sym after) ∙ sym (losses_are row g whole rest) ∙ lost)
      (subst (λ (y : ℕ). check_limit * k ≤ y) (ticks_are whole rest ∙ ap (λ (y : Table). ticks_in s y ms) after) ticks)))
    where
      whole : whole_table joined.table ≡ true
      whole = call-whole (bytes_from row input) x (history_whole b h)

      after : lent_table s joined.table joined.assembling
          ≡ table_of (run s (fresh (rooms b)) past) (step_of s (run s (fresh (rooms b)) past) (made out n (bytes_from row input)))
      after =
          call-means (bytes_from row input) x (history_whole b h)
          ∙ ap (λ (y : Table). table_of y (step_of s y (made out n (bytes_from row input)))) (history_means b h)

      waits : ReadableWaits s (lent_table s u n) (made out n (bytes_from row input)) row g seat q
      waits =
          record {
            input = input;
            check = w.check;
            bytes_of = refl;
            done = ap (λ (y : ℕ). eqb y 0) (sym (call-is (bytes_from row input) x (history_whole b h)).number ∙ e);
            owner = own;
            readable = w.readable;
            reads = w.reads;
            waits = w.waits;
          }

  -- ---- Meters: "Each is defined from the history of calls by itself. Proved: taken equals finished plus lost plus the bytes in hand on open
  -- rows, modulo 2^32." (what gateway's meters answers)

  pub meters_from_the_history : {ms : List Made} {u n : List ℕ} → Calls s t m ms u n → (g : ℕ) → g < farm_count s
      → MetersAre (slot_sheet s g) (notes_of s (fresh (rooms b)) ms) (farm_of (block u g)).meters
  meters_from_the_history {ms} h g i =
      subst (λ (y : Farm). MetersAre (slot_sheet s g) (notes_of s (fresh (rooms b)) ms) y.meters) (slot-now h g i)
      (rules.meters_from_the_history s (rooms b) ms g i)

  pub meters_balance : {ms : List Made} {u n : List ℕ} → Calls s t m ms u n → (g : ℕ) → g < farm_count s → Balanced (farm_of (block u g))
  meters_balance {ms} h g i = subst Balanced (slot-now h g i) (rules.meters_balance s (rooms b) ms g i)

-- ---- DEMAND 3: "And two such histories under the same sheet that agree on one farm's calls and on the accepted ticks, in their order, give that
-- farm the same answers, replies and meters, whatever the other farms do." `shares_in`: the farm's calls and the accepted ticks; `GetsIn`: the
-- answers, the entries of the sheets that were written, the meters in the table

module _ {s t m t' m' : List ℕ} (b : Began s t m) (b' : Began s t' m') where
  shape : (g : ℕ) → g < farm_count s → SameShape (get_or (rooms b) g []) (get_or (rooms b') g [])
  shape g i = record { count = count b ∙ sym (count b'); each = each }
    where
      count : {x y : List ℕ} (z : Began s x y) → length (get_or (rooms z) g []) ≡ rows_owned s g
      count z = rooms-count s z.lent.table z.lent.assembling (began_lendable z).sheet (began_lendable z).assembling g i

      long : {x y : List ℕ} (z : Began s x y) (seat : ℕ) → seat < rows_owned s g → length (get_or (get_or (rooms z) g []) seat []) ≡ most_payload
      long z seat k = room-long s z.lent.table z.lent.assembling (began_lendable z).sheet (began_lendable z).assembling g seat i k

      past : {x y : List ℕ} (z : Began s x y) (seat : ℕ) → rows_owned s g ≤ seat → length (get_or (get_or (rooms z) g []) seat []) ≡ 0
      past z seat k = ap length (room-none s z.lent.table z.lent.assembling (began_lendable z).sheet (began_lendable z).assembling g seat i k)

      each : (seat : ℕ) → length (get_or (get_or (rooms b) g []) seat []) ≡ length (get_or (get_or (rooms b') g []) seat [])
      each seat =
          ⊎_elim (λ (k : rows_owned s g ≤ seat). past b seat k ∙ sym (past b' seat k)) (λ (k : seat < rows_owned s g). long b seat k ∙ sym (long b' seat k))
          (le_or_lt (rows_owned s g) seat)

  pub same_for_the_farm : {ms ns : List Made} {u n u' n' : List ℕ} (h : Calls s t m ms u n) (h' : Calls s t' m' ns u' n') (g : ℕ) → g < farm_count s
      → shares_in s g h ≡ shares_in s g h' → (l l' : List Got) → GetsIn s g h l → GetsIn s g h' l' → l ≡ l'
  same_for_the_farm {ms} {ns} h h' g i e l l' k k' =
      gets_is s g (below b g i) (began_whole b) h l k
      ∙ ap (map got_by)
      (ap (λ (y : Table). has_of s g y ms) (began_fresh b)
      ∙ rules.same_for_the_farm s (began_lendable b).sheet g i (rooms b) (rooms b') (slots b) (slots b') (shape g i) ms ns
      (ap (λ (y : Table). calls_of s g y ms) (sym (began_fresh b))
      ∙ sym (shares_are s g (below b g i) (began_whole b) h)
      ∙ e
      ∙ shares_are s g (below b' g i) (began_whole b') h'
      ∙ ap (λ (y : Table). calls_of s g y ns) (began_fresh b'))
      ∙ sym (ap (λ (y : Table). has_of s g y ns) (began_fresh b')))
      ∙ sym (gets_is s g (below b' g i) (began_whole b') h' l' k')
    where
      slots : {x y : List ℕ} (z : Began s x y) → g < length (rooms z)
      slots z =
          omega (arith, rooms_slots s z.lent.table z.lent.assembling (began_lendable z).sheet (began_lendable z).assembling, i, (began_lendable z).sheet.head.farms_at_most)

-- and the farm does get something of every such history
pub farm_gets : {s t m : List ℕ} (b : Began s t m) {ms : List Made} {u n : List ℕ} (h : Calls s t m ms u n) (g : ℕ) → g < farm_count s → Exists (GetsIn s g h)
farm_gets {s} b h g i = gets_some s g (below b g i) (began_whole b) h
