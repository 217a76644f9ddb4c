-- Neighbours in memory: a call that names a farm, or a row of it, changes no byte of another farm's block of the table, nor of another row's
-- room.
-- Assumes nothing.
use Rattle.std.proofs.Common.{Option, Some, None}
use Prim.Native.Nat.{ℕ, ◌<◌}
use Prim.{Unit, tt}
use mathlib.Core.Path.{◌≡◌, refl, sym, ap, ◌∙◌, subst}
use mathlib.Core.Bool.{true}
use mathlib.Core.List.{List, []}
use lib.Dec.{leb}
use lib.ListN.{length, get_or, take}
use lib.Seq.{get_or-set_other}
use borrow.Author.Tests.{ne_eqb}
use Rattle.octets.specs.Search.{first_at}
use Rattle.kinds.specs.declared.RowState.{RowState}
use Rattle.kinds.specs.declared.RowState.TheVariants.{Free, Fresh, Waiting, Active}
use Rattle.sheet.specs.Sheet.{most_farms}
use Rattle.model.specs.FarmSheet.{FarmSheet, slot_sheet}
use Rattle.model.specs.Row.{row_at, is_free, is_open, active_as}
use Rattle.model.specs.Bytes.{taken_by}
use Rattle.model.specs.Move.{Own, connect, bytes, peer_closed, link_lost, datagram, controller, Held, Move, refused, gave}
use Rattle.model.specs.Move.{connected_at, connects, bytes_by, datagram_move, most_user, is_target, to_tester, controller_move, move}
use Rattle.model.specs.Table.{Table, slot, Call, Whose, farms, whose, Outcome, moved_to, called, table_of}
use Rattle.model.specs.History.{Made}
use Rattle.model.proofs.Cases.{pick_case, unless_case}
use Rattle.model.proofs.DueTable.{step_case, other_alone}
use Rattle.model.proofs.MeterSlot.{slot-set}
use Rattle.table.specs.Block.{image}
use Rattle.lent.specs.declared.Answer.{Answer}
use Rattle.lent.specs.Lent.{block, whole_table, held_at, lent_table}
use Rattle.lent.specs.Served.{Memory, CallServed}
use Rattle.lent.proofs.LentLaws.{slot_is}
use Rattle.lent.proofs.BytesLaws.{whole_exact}
use Rattle.host.specs.Calls.{made}
use Rattle.host.proofs.HistoryLaws.{call-means, call-whole}

-- ---- a move leaves the rooms of all rows but the one that it takes bytes from

-- the row that a bytes call names
abbrev pub Names : Own → ℕ → Type 0
Names connect i = ⊥
Names (bytes seat input) i = i ≡ seat
Names (peer_closed seat) i = ⊥
Names link_lost i = ⊥
Names (datagram input) i = ⊥
Names (controller from to user) i = ⊥

module _ (own : FarmSheet) (h : Held) (i : ℕ) where
  abbrev Stays : Move → Type 0
  Stays (refused n) = Unit {0}
  Stays (gave g) = get_or g.held.rooms i [] ≡ get_or h.rooms i []

  connect_stays : Stays (connects own h)
  unfolding connects
  connect_stays = by (first_at is_free 0 (take own.rows h.farm.rows))
    where
      by : (o : Option ℕ) → Stays (connected_at own h o)
      by None = tt
      by (Some seat) = refl

  bytes_stay : (seat : ℕ) (input : List ℕ) → (i ≡ seat → ⊥) → (st : RowState) → Stays (bytes_by own h seat input st)
  bytes_stay seat input n Free = tt
  bytes_stay seat input n (Fresh age) = get_or-set_other h.rooms seat i (taken_by seat (get_or h.rooms seat []) input h.farm).stream.room [] n
  bytes_stay seat input n (Waiting q) = tt
  bytes_stay seat input n (Active b idle) = get_or-set_other h.rooms seat i (taken_by seat (get_or h.rooms seat []) input h.farm).stream.room [] n

  controller_stays : (from to : ℕ) (user : List ℕ) → Stays (controller_move own h from to user)
  unfolding controller_move
  controller_stays from to user =
      unless_case Stays (leb 1 (length user)) _ _ (λ _. tt)
      (λ _. unless_case Stays (leb (length user) most_user) _ _ (λ _. tt)
      (λ _. unless_case Stays (is_target (own.target from)) _ _ (λ _. tt) (λ _. by (first_at (active_as to) 0 h.farm.rows))))
    where
      by : (o : Option ℕ) → Stays (to_tester own h from to user o)
      by None = tt
      by (Some seat) = refl

  move_stays : (c : Own) → (Names c i → ⊥) → Stays (move own h c)
  unfolding move datagram_move
  move_stays connect n = connect_stays
  move_stays (bytes seat input) n = bytes_stay seat input n (row_at h.farm.rows seat).state
  move_stays (peer_closed seat) n = pick_case Stays (is_open (row_at h.farm.rows seat)) _ _ (λ _. refl) (λ _. tt)
  move_stays link_lost n = refl
  move_stays (datagram input) n = refl
  move_stays (controller from to user) n = controller_stays from to user

moved_stays : (own : FarmSheet) (t : Table) (f i : ℕ) (m : Move) → Stays own (slot t f) i m
    → get_or (slot (table_of t (moved_to t f m)) f).rooms i [] ≡ get_or (slot t f).rooms i []
moved_stays own t f i (refused n) k = refl
moved_stays own t f i (gave g) k = slot-set (λ (x : Held). get_or x.rooms i [] ≡ get_or (slot t f).rooms i []) t f f g.held (λ _. k) refl

-- ---- a call on lent memory

module _ (s : List ℕ) (c : Call) {a : Answer} {before after : Memory} (x : CallServed s c a before after) (w : whole_table before.table ≡ true)
    (f : ℕ) (own : Own) (e : whose s c ≡ farms f own) where
  abbrev was : Table
  was = lent_table s before.table before.assembling

  abbrev asked : Made
  asked = made before.output before.assembling c

  slot_stays : (g : ℕ) → g < most_farms → (f ≡ g → ⊥)
      → held_at s after.table after.assembling g ≡ held_at s before.table before.assembling g
  slot_stays g h n =
      sym (slot_is s after.table after.assembling g h)
      ∙ ap (λ (t : Table). slot t g) (call-means c x w)
      ∙ other_alone s was asked f g own e (ne_eqb f g n)
      ∙ slot_is s before.table before.assembling g h

  -- NO BYTE OF ANOTHER FARM'S BLOCK
  pub blocks_apart : (g : ℕ) → g < most_farms → (f ≡ g → ⊥) → block after.table g ≡ block before.table g
  unfolding held_at
  blocks_apart g h n =
      sym ((whole_exact after.table).right (call-whole c x w) g h)
      ∙ ap (λ (y : Held). image y.farm) (slot_stays g h n)
      ∙ (whole_exact before.table).right w g h

  -- NO BYTE OF ANOTHER FARM'S ROOMS
  pub rooms_apart : (g : ℕ) → g < most_farms → (f ≡ g → ⊥)
      → (held_at s after.table after.assembling g).rooms ≡ (held_at s before.table before.assembling g).rooms
  rooms_apart g h n = ap (λ (y : Held). y.rooms) (slot_stays g h n)

  -- NO BYTE OF ANOTHER ROW'S ROOM
  pub room_apart : f < most_farms → (i : ℕ) → (Names own i → ⊥)
      → get_or (held_at s after.table after.assembling f).rooms i [] ≡ get_or (held_at s before.table before.assembling f).rooms i []
  room_apart h i n =
      ap (λ (y : Held). get_or y.rooms i []) (sym (slot_is s after.table after.assembling f h))
      ∙ ap room_of (call-means c x w)
      ∙ step_case (λ (o : Outcome). room_of (table_of was o) ≡ room_of was) s asked.lent was c (λ _. refl)
      (λ _ _. subst (λ (y : Whose). room_of (table_of was (called s was y)) ≡ room_of was) (sym e)
      (moved_stays (slot_sheet s f) was f i (move (slot_sheet s f) (slot was f) own) (move_stays (slot_sheet s f) (slot was f) i own n)))
      ∙ ap (λ (y : Held). get_or y.rooms i []) (slot_is s before.table before.assembling f h)
    where
      room_of : Table → List ℕ
      room_of t = get_or (slot t f).rooms i []
