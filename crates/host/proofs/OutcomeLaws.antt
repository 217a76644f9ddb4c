-- What comes of a call: a refusal leaves the lent memory, a done call has written the sheet of its entries, and number 0 means done.
-- Assumes nothing.
use Rattle.std.proofs.Common.{Option, Some, None}
use Rattle.kinds.specs.declared.FarmNo.{FarmNo}
use Prim.{Unit, tt}
use Prim.Native.Nat.{ℕ, suc, ◌+◌, ◌≤◌}
use mathlib.Core.Path.{◌≡◌, refl, sym, ap₂, ap, ◌∙◌, subst}
use mathlib.Core.Bool.{Bool, true, false}
use mathlib.Core.List.Memᴰ
use mathlib.Core.List.{List, [], ◌∷◌, Memᴰ}
use native.Mathlib.Omega.{arith}
use lib.Dec.{eqb, leb, ltb}
use lib.ListN.{length, take}
use Rattle.octets.specs.Choice.{pick, one}
use Rattle.octets.specs.Search.{first_at, count_if}
use Rattle.kinds.specs.declared.Item.{Item}
use Rattle.kinds.specs.declared.Reply.{Reply}
use Rattle.kinds.specs.declared.Reply.TheVariants.{Nack, Identity, Activation, AliveCheck, Status, PowerMode, Message, Ack, DiagnosticNack, Close, HandOn}
use Rattle.kinds.specs.declared.RowState.{RowState}
use Rattle.kinds.specs.declared.RowState.TheVariants.{Free, Fresh, Waiting, Active}
use Rattle.sheet.specs.Sheet.{farm_count}
use Rattle.sheet.specs.Rows.{owner_of}
use Rattle.sheet.specs.Test.{good_sheet}
use Rattle.outsheet.specs.Replies.{hand_on, kind_of, entry_of, entries_of}
use Rattle.model.specs.FarmSheet.{FarmSheet, slot_sheet}
use Rattle.model.specs.Row.{row_at, is_free, is_open, active_as}
use Rattle.model.specs.Move.{Own, connect, bytes, peer_closed, link_lost, datagram, controller, Held, Move, refused, gave}
use Rattle.model.specs.Move.{connected_at, connects, bytes_by, datagram_move, most_user, is_target, to_tester, controller_move, move}
use Rattle.model.specs.Table.{Table, slot, least_output, assembling_size, Call, connect_to, bytes_from, peer_closed_on, link_lost_of, tick, datagram_to, message_from}
use Rattle.model.specs.Table.{Lent, farms, nobodys, of_owner, whose, Did, Outcome, refuses, did, moved_to, called, step, number_of, items_of, long_of}
use Rattle.model.specs.HandsOn.{is_hand_on, hand_ons}
use Rattle.model.proofs.Cases.{pick_case, unless_case}
use Rattle.model.proofs.DueTable.{step_case}
use Rattle.lent.specs.declared.Answer.{Answer}
use Rattle.lent.specs.Lent.{whole_table, lent_table, lent_of, lent_step}
use Rattle.lent.specs.Served.{Memory, Served, CallServed}
use Rattle.host.specs.Wrote.{Untouched, Wrote, hand_on_entries}

-- ---- A REFUSAL LEAVES EVERY BYTE

pub refusal_leaves : (s : List ℕ) (o : Outcome) {a : Answer} {before after : Memory} → Served s o a before after → (a.number ≡ 0 → ⊥) → Untouched a before after
refusal_leaves s (refuses n) x h =
    record {
      row = x.row;
      taken = x.taken;
      output_length = x.output_length;
      table_stays = x.table_is;
      output_stays = x.output_is;
      assembling_stays = x.assembling_is;
    }
refusal_leaves s (did d) x h = absurd (h x.number)

-- ---- A DONE CALL HAS WRITTEN ITS ENTRIES

pub did-wrote : (s : List ℕ) (o : Outcome) (d : Did) {a : Answer} {before after : Memory} → Served s o a before after → o ≡ did d
    → Wrote (entries_of d.long d.items) a before after
did-wrote s o d {a} {before} {after} x e =
    let y : Served s (did d) a before after = subst (λ (z : Outcome). Served s z a before after) e x in
    record { done = y.number; output_length = y.output_length; output_is = y.output_is }

-- an outcome that has an entry is no refusal
pub entry-wrote : (s : List ℕ) (o : Outcome) (it : Item) {a : Answer} {before after : Memory} → Served s o a before after → Memᴰ it (items_of o)
    → Wrote (entries_of (long_of o) (items_of o)) a before after
entry-wrote s (refuses n) it x m = absurd (Memᴰ.not-nil m)
entry-wrote s (did d) it x m = did-wrote s (did d) d x refl

pub entry_among : (long : List ℕ) {it : Item} {items : List Item} → Memᴰ it items → Memᴰ (entry_of long it) (entries_of long items)
entry_among long (Memᴰ.head e) = Memᴰ.head (ap (entry_of long) e)
entry_among long (Memᴰ.tail m) = Memᴰ.tail (entry_among long m)

-- kind 3 is that of the replies that hand on
kind-is : (r : Reply) → eqb (kind_of r) hand_on ≡ is_hand_on r
kind-is (Nack c) = refl
kind-is Identity = refl
kind-is (Activation a e c) = refl
kind-is AliveCheck = refl
kind-is (Status q o) = refl
kind-is (PowerMode m) = refl
kind-is (Message k t) = refl
kind-is (Ack t s c) = refl
kind-is (DiagnosticNack t s c) = refl
kind-is Close = refl
kind-is HandOn = refl

pub entries_hand : (long : List ℕ) (items : List Item) → hand_on_entries (entries_of long items) ≡ hand_ons items
unfolding count_if
entries_hand long [] = refl
entries_hand long (it ∷ items) = ap₂ (λ (b : Bool) (n : ℕ). one b + n) (kind-is it.reply) (entries_hand long items)

-- ---- NUMBER 0 MEANS DONE: no refusal has it

abbrev Numbered : Move → Type 0
Numbered (refused n) = 1 ≤ n
Numbered (gave g) = Unit {0}

abbrev pub Listed : Outcome → Type 0
Listed (refuses n) = 1 ≤ n
Listed (did d) = Unit {0}

module _ (own : FarmSheet) (h : Held) where
  found_numbered : (o : Option ℕ) → Numbered (connected_at own h o)
  found_numbered None = omega arith
  found_numbered (Some seat) = tt

  bytes_numbered : (seat : ℕ) (input : List ℕ) (st : RowState) → Numbered (bytes_by own h seat input st)
  bytes_numbered seat input Free = omega arith
  bytes_numbered seat input (Fresh age) = tt
  bytes_numbered seat input (Waiting q) = omega arith
  bytes_numbered seat input (Active b idle) = tt

  tester_numbered : (from to : ℕ) (user : List ℕ) (o : Option ℕ) → Numbered (to_tester own h from to user o)
  tester_numbered from to user None = omega arith
  tester_numbered from to user (Some seat) = tt

  move_numbered : (c : Own) → Numbered (move own h c)
  unfolding move connects datagram_move controller_move
  move_numbered connect = found_numbered (first_at is_free 0 (take own.rows h.farm.rows))
  move_numbered (bytes seat input) = bytes_numbered seat input (row_at h.farm.rows seat).state
  move_numbered (peer_closed seat) = pick_case Numbered (is_open (row_at h.farm.rows seat)) _ _ (λ _. tt) (λ _. omega arith)
  move_numbered link_lost = tt
  move_numbered (datagram input) = tt
  move_numbered (controller from to user) =
      unless_case Numbered (leb 1 (length user)) _ _ (λ _. omega arith)
      (λ _. unless_case Numbered (leb (length user) most_user) _ _ (λ _. omega arith)
      (λ _. unless_case Numbered (is_target (own.target from)) _ _ (λ _. omega arith)
      (λ _. tester_numbered from to user (first_at (active_as to) 0 h.farm.rows))))

moved_listed : (t : Table) (f : ℕ) (m : Move) → Numbered m → Listed (moved_to t f m)
moved_listed t f (refused n) k = k
moved_listed t f (gave g) k = k

module _ (s : List ℕ) (t : Table) where
  farm_listed : (f : ℕ) (c : Own) → Listed (called s t (farms f c))
  farm_listed f c = moved_listed t f (move (slot_sheet s f) (slot t f) c) (move_numbered (slot_sheet s f) (slot t f) c)

  named_listed : (f : ℕ) (c : Own) (b : Bool) → Listed (called s t (pick b (farms f c) (nobodys 5)))
  named_listed f c true = farm_listed f c
  named_listed f c false = omega arith

  owned_listed : (c : ℕ → Own) (o : Option (FarmNo × ℕ)) → Listed (called s t (of_owner o c))
  owned_listed c (Some (f, seat)) = farm_listed f.0 (c seat)
  owned_listed c None = omega arith

  call_listed : (c : Call) → Listed (called s t (whose s c))
  unfolding whose
  call_listed (connect_to f) = named_listed f connect (ltb f (farm_count s))
  call_listed (bytes_from r input) = owned_listed (λ seat. bytes seat input) (owner_of s r)
  call_listed (peer_closed_on r) = owned_listed (λ seat. peer_closed seat) (owner_of s r)
  call_listed (link_lost_of f) = named_listed f link_lost (ltb f (farm_count s))
  call_listed tick = tt
  call_listed (datagram_to f input) = named_listed f (datagram input) (ltb f (farm_count s))
  call_listed (message_from f from to user) = named_listed f (controller from to user) (ltb f (farm_count s))

pub step_listed : (s : List ℕ) (l : Lent) (t : Table) (c : Call) → Listed (step s l t c)
step_listed s l t c = step_case Listed s l t c (λ n. omega arith) (λ _ _. call_listed s t c)

-- what holds of every refusal, and of the rules' step, holds of the step on lent memory
pub lent_case : (P : Outcome → Type 0) (s t out m : List ℕ) (c : Call) → ((n : ℕ) → P (refuses (suc n))) → P (step s (lent_of out m) (lent_table s t m) c)
    → P (lent_step s t out m c)
unfolding lent_step
lent_case P s t out m c r k =
    unless_case P (good_sheet s) _ _ (λ _. r 0)
    (λ _. unless_case P (leb least_output (length out)) _ _ (λ _. r 1)
    (λ _. unless_case P (eqb (length m) assembling_size) _ _ (λ _. r 2) (λ _. unless_case P (whole_table t) _ _ (λ _. r 3) (λ _. k))))

pub record Done (o : Outcome) : Type 0 where
  pub what : Did
  pub is : o ≡ did what

done_of : (o : Outcome) → Listed o → number_of o ≡ 0 → Done o
done_of (refuses n) k e = absurd (omega (arith, k, e))
done_of (did d) k e = record { what = d; is = refl }

-- a call that answers 0 is done
pub zero-done : (s : List ℕ) (c : Call) {a : Answer} {before after : Memory} → CallServed s c a before after → a.number ≡ 0
    → Done (lent_step s before.table before.output before.assembling c)
zero-done s c {a} {before} x e =
    done_of (lent_step s before.table before.output before.assembling c)
    (lent_case Listed s before.table before.output before.assembling c (λ n. omega arith)
    (step_listed s (lent_of before.output before.assembling) (lent_table s before.table before.assembling) c))
    (sym x.number ∙ e)
