-- The logs and meters of one farm after any call on the table.
-- Assumes nothing.
use Rattle.std.proofs.Common.{Option, Some, None}
use Rattle.kinds.specs.declared.FarmNo.{FarmNo}
use Prim.Native.Nat.{ℕ, zero, suc, ◌+◌, ◌-◌, ◌<◌}
use mathlib.Core.Path.{◌≡◌, refl, sym, ap, subst, ◌∙◌}
use mathlib.Core.Bool.{false}
use mathlib.Core.List.{List, [], ◌∷◌}
use native.Mathlib.Nat.{add-zero, zero-add, not-suc-le-zero}
use native.Mathlib.Omega.{arith}
use lib.Dec.{eqb, leb, ltb}
use lib.ListN.{set, length, take}
use borrow.Author.Tests.{eqb-true, eqb-false, ne_eqb, ltb-true, leb-true, lt-ltb}
use Rattle.octets.specs.Choice.{pick, both}
use Rattle.octets.specs.Search.{first_at}
use Rattle.kinds.specs.declared.Item.{Item}
use Rattle.sheet.specs.Sheet.{farm_count}
use Rattle.sheet.specs.Rows.{rows_owned, first_row, owner_of}
use Rattle.sheet.proofs.RowsLaws.{IsSeat, rows_apart, owner_seat}
use Rattle.model.specs.FarmSheet.{FarmSheet, farm_sheet, slot_sheet}
use Rattle.model.specs.Row.{is_free}
use Rattle.model.specs.Move.{Own, connect, bytes, peer_closed, link_lost, datagram, controller, Held, Given, Move, refused, gave, no_row, connected_at, connects, ticked, move, tick_move}
use Rattle.model.specs.Rule.{Good}
use Rattle.model.specs.Table.{Table, slot, Call, connect_to, bytes_from, peer_closed_on, link_lost_of, tick, datagram_to, message_from, Whose, nobodys, farms, everyones, of_owner, whose, Outcome, refuses, moved_to, items_by, slot_tick, tick_items, called, table_of}
use Rattle.model.specs.History.{Made, step_of}
use Rattle.model.specs.Meter.{gives, Log, took, filed_by, bytes_on, is_connect, owns_row, took_on, taken_by, noted_by, said_by}
use Rattle.model.proofs.Cases.{pick_case, split}
use Rattle.model.proofs.MeterMove.{Got, opens_at}
use Rattle.model.proofs.MeterLog.{Logged, logged_same, after, filed_append}
use Rattle.model.proofs.MeterTold.{Foreign, Quiet, move_quiet, tick_quiet, Told, took-none, told_peer, told_link, told_datagram, told_message, told_connect, told_bytes, told_tick}
use Rattle.model.proofs.MeterSlot.{next_one, step_cases, slot-set, slot-ticked}

-- ---- the rows of two farms differ

module _ (s : List ℕ) (g : ℕ) (h : g < farm_count s) where
  pub first-is : (slot_sheet s g).first ≡ first_row s g
  unfolding slot_sheet farm_sheet
  first-is = rw (lt-ltb g (farm_count s) h) refl

  pub rows_is : (slot_sheet s g).rows ≡ rows_owned s g
  unfolding slot_sheet farm_sheet
  rows_is = rw (lt-ltb g (farm_count s) h) refl

pub foreign : (s : List ℕ) (f g : ℕ) → f < farm_count s → g < farm_count s → (f ≡ g → ⊥) → (i : ℕ) → i < (slot_sheet s g).rows
    → Foreign (slot_sheet s f) ((slot_sheet s g).first + i)
foreign s f g hf hg n i l k m e =
    rows_apart s f g k i hf hg (omega (arith, rows_is s f hf)) (omega (arith, rows_is s g hg)) n
    (omega (arith, first-is s f hf, first-is s g hg))

pub not-owned : (own : FarmSheet) (r : ℕ) → ((i : ℕ) → i < own.rows → own.first + i ≡ r → ⊥) → owns_row own r ≡ false
not-owned own r h =
    split (leb own.first r)
    (λ t. rw t (split (ltb r (own.first + own.rows))
    (λ u. absurd (h (r - own.first) (omega (arith, leb-true own.first r t, ltb-true r (own.first + own.rows) u)) (omega (arith, leb-true own.first r t))))
    (λ u. u)))
    (λ t. rw t refl)

-- the row that a connect opens is the farm's
connect-row : (own : FarmSheet) (h : Held) (x : Given) → move own h connect ≡ gave x → (k : ℕ) × (k < own.rows) × (x.row ≡ own.first + k)
unfolding move connects
connect-row own h x e = go (first_at is_free 0 (take own.rows h.farm.rows)) refl e
  where
    row_in : Move → ℕ
    row_in (refused n) = 0
    row_in (gave y) = y.row

    go : (o : Option ℕ) → first_at is_free 0 (take own.rows h.farm.rows) ≡ o → connected_at own h o ≡ gave x
        → (k : ℕ) × (k < own.rows) × (x.row ≡ own.first + k)
    go None p q = absurd (let z : ◌≡◌ {A = ℕ} 0 1 = cc in omega arith)
    go (Some seat) p q = (seat, (opens_at own h.farm seat p).below, sym (ap row_in q))

-- ---- a tick closes on farm g's rows what farm g closes

filed-none : (r : ℕ) (x : Log) → filed_by r [] x ≡ x
unfolding filed_by
filed-none r x = refl

module _ (s : List ℕ) (k : ℕ) (h : Held) (u : Table) (goods : (f : ℕ) → k + f < farm_count s → Good (slot_sheet s (k + f)) (slot (h ∷ u) f).farm) where
  first_good : k < farm_count s → Good (slot_sheet s k) h.farm
  first_good b = subst (λ (f : ℕ). Good (slot_sheet s f) h.farm) (add-zero k) (goods 0 (omega arith))

  rest-good : (f : ℕ) → suc k + f < farm_count s → Good (slot_sheet s (suc k + f)) (slot u f).farm
  rest-good f b = subst (λ (n : ℕ). Good (slot_sheet s n) (slot u f).farm) (next_one k f) (goods (suc f) (omega arith))

module _ (s : List ℕ) (g : ℕ) (isFarm : g < farm_count s) (i : ℕ) (l : i < (slot_sheet s g).rows) where
  slot_quiet : (f : ℕ) (h : Held) → (f < farm_count s → Good (slot_sheet s f) h.farm) → (f ≡ g → ⊥) → (x : Log)
      → filed_by ((slot_sheet s g).first + i) (items_by (slot_tick s f h)) x ≡ x
  unfolding tick_move filed_by
  slot_quiet f h good n x =
      pick_case (λ (m : Move). filed_by ((slot_sheet s g).first + i) (items_by m) x ≡ x) (ltb f (farm_count s)) _ _
      (λ u. tick_quiet (slot_sheet s f) h.farm (good (ltb-true f (farm_count s) u)) ((slot_sheet s g).first + i)
      (foreign s f g (ltb-true f (farm_count s) u) isFarm n i l) x)
      (λ _. refl)

  -- the farms from k on, all after farm g
  rest_quiet : (k : ℕ) (u : Table) → g < k → ((f : ℕ) → k + f < farm_count s → Good (slot_sheet s (k + f)) (slot u f).farm) → (x : Log)
      → filed_by ((slot_sheet s g).first + i) (tick_items s k u) x ≡ x
  rest_quiet k [] b goods x = filed-none ((slot_sheet s g).first + i) x
  rest_quiet k (h ∷ u) b goods x =
      filed_append ((slot_sheet s g).first + i) (items_by (slot_tick s k h)) (tick_items s (suc k) u) x ∙
      ap (filed_by ((slot_sheet s g).first + i) (tick_items s (suc k) u)) (slot_quiet k h (first_good s k h u goods) (λ e. omega arith) x) ∙
      rest_quiet (suc k) u (omega arith) (rest-good s k h u goods) x

  -- farm g is the one with the place j among the farms from k on
  tick-filed : (k : ℕ) (u : Table) (j : ℕ) → k + j ≡ g → j < length u → ((f : ℕ) → k + f < farm_count s → Good (slot_sheet s (k + f)) (slot u f).farm)
      → (x : Log) → filed_by ((slot_sheet s g).first + i) (tick_items s k u) x ≡ filed_by ((slot_sheet s g).first + i) (items_by (slot_tick s g (slot u j))) x
  tick-filed k [] j e b goods x = absurd (not-suc-le-zero b)
  tick-filed k (h ∷ u) zero e b goods x =
      filed_append ((slot_sheet s g).first + i) (items_by (slot_tick s k h)) (tick_items s (suc k) u) x ∙
      rest_quiet (suc k) u (omega arith) (rest-good s k h u goods) _ ∙
      ap (λ (f : ℕ). filed_by ((slot_sheet s g).first + i) (items_by (slot_tick s f h)) x) (sym (add-zero k) ∙ e)
  tick-filed k (h ∷ u) (suc j) e b goods x =
      filed_append ((slot_sheet s g).first + i) (items_by (slot_tick s k h)) (tick_items s (suc k) u) x ∙
      ap (filed_by ((slot_sheet s g).first + i) (tick_items s (suc k) u)) (slot_quiet k h (first_good s k h u goods) (λ z. omega arith) x) ∙
      tick-filed (suc k) u j (omega arith) (omega arith) (rest-good s k h u goods) x

-- ---- one call, as farm g has it

module _ (s : List ℕ) (g : ℕ) (isFarm : g < farm_count s) (t : Table) (inside : g < length t)
    (goods : (f : ℕ) → f < farm_count s → Good (slot_sheet s f) (slot t f).farm) (T : ℕ) (L : ℕ → Log)
    (logged : Logged (slot_sheet s g) T L (slot t g).farm) where
  abbrev Comes : Call → Outcome → Type 0
  Comes call o =
      Logged (slot_sheet s g) (T + taken_by (slot_sheet s g) call (said_by o)) (λ i. noted_by ((slot_sheet s g).first + i) call (said_by o) (L i))
      (slot (table_of t o) g).farm

  refused_comes : (call : Call) (n : ℕ) → Comes call (refuses n)
  refused_comes call n = subst (λ (k : ℕ). Logged (slot_sheet s g) k (λ i. L i) (slot t g).farm) (sym (add-zero T)) logged

  -- the farm's own call
  own_comes : (call : Call) (m : Move) → Told (slot_sheet s g) T L call m → Comes call (moved_to t g m)
  own_comes call (refused n) q = refused_comes call n
  own_comes call (gave x) q =
      slot-here (λ (y : Held). Logged (slot_sheet s g) (T + took_on (slot_sheet s g) call x.took)
      (λ i. noted_by ((slot_sheet s g).first + i) call (said_by (moved_to t g (gave x))) (L i)) y.farm) t g x.held inside q
    where
      slot-here : (P : Held → Type 0) (u : Table) (k : ℕ) (y : Held) → k < length u → P y → P (slot (set u k y) k)
      slot-here P [] k y l p = absurd (not-suc-le-zero l)
      slot-here P (z ∷ u) zero y l p = p
      slot-here P (z ∷ u) (suc k) y l p = slot-here P u k y (omega arith) p

  -- a neighbour's call: no row of farm g is opened, none gives bytes, none is closed
  module _ (f : ℕ) (hf : f < farm_count s) (n : f ≡ g → ⊥) (call : Call) (noTook : (x : ℕ) → took_on (slot_sheet s g) call x ≡ 0)
      (no_bytes : (i x : ℕ) → i < (slot_sheet s g).rows → bytes_on ((slot_sheet s g).first + i) call x ≡ []) where
    unchanged : (row x : ℕ) (items : List Item) (i : ℕ) → i < (slot_sheet s g).rows
        → both (is_connect call) (eqb row ((slot_sheet s g).first + i)) ≡ false → Quiet (slot_sheet s f) items
        → noted_by ((slot_sheet s g).first + i) call (gives row x items) (L i) ≡ L i
    unchanged row x items i l e q =
        q ((slot_sheet s g).first + i) (foreign s f g hf isFarm n i l) _ ∙ rw (e, no_bytes i x l) (took-none (L i))

    other_comes : (m : Move)
        → ((x : Given) → m ≡ gave x → (i : ℕ) → i < (slot_sheet s g).rows → both (is_connect call) (eqb x.row ((slot_sheet s g).first + i)) ≡ false)
        → Got (λ is y. Quiet (slot_sheet s f) is) m → Comes call (moved_to t f m)
    other_comes (refused k) c q = refused_comes call k
    other_comes (gave x) c q =
        slot-set
        (λ (y : Held). Logged (slot_sheet s g) (T + took_on (slot_sheet s g) call x.took)
        (λ i. noted_by ((slot_sheet s g).first + i) call (gives x.row x.took x.items) (L i)) y.farm)
        t f g x.held (λ e. absurd (n e))
        (subst
        (λ (k : ℕ). Logged (slot_sheet s g) k (λ i. noted_by ((slot_sheet s g).first + i) call (gives x.row x.took x.items) (L i)) (slot t g).farm)
        (sym (ap (λ (k : ℕ). T + k) (noTook x.took) ∙ add-zero T))
        (logged_same (slot_sheet s g) T L _ (slot t g).farm (λ i l. unchanged x.row x.took x.items i l (c x refl i l) q) logged))

  -- a call that names a farm, or a row of it
  farm_comes : (call : Call) (c : Own) (f : ℕ) → f < farm_count s
      → ((f ≡ g) → Told (slot_sheet s g) T L call (move (slot_sheet s g) (slot t g) c))
      → ((f ≡ g → ⊥) → Comes call (moved_to t f (move (slot_sheet s f) (slot t f) c)))
      → Comes call (called s t (farms f c))
  farm_comes call c f hf a b =
      split (eqb f g)
      (λ u. let e : f ≡ g = eqb-true f g u in
      subst (λ (k : ℕ). Comes call (moved_to t k (move (slot_sheet s k) (slot t k) c))) (sym e) (own_comes call (move (slot_sheet s g) (slot t g) c) (a e)))
      (λ u. b (eqb-false f g u))

  -- one that names a farm and opens no row
  named_comes : (call : Call) (c : Own) (f : ℕ) → ((x : ℕ) → took_on (slot_sheet s g) call x ≡ 0) → ((r x : ℕ) → bytes_on r call x ≡ [])
      → is_connect call ≡ false → Told (slot_sheet s g) T L call (move (slot_sheet s g) (slot t g) c) → f < farm_count s
      → Comes call (called s t (farms f c))
  named_comes call c f noTook no_bytes e told hf =
      farm_comes call c f hf (λ _. told)
      (λ n. other_comes f hf n call noTook (λ i x _. no_bytes ((slot_sheet s g).first + i) x) (move (slot_sheet s f) (slot t f) c)
      (λ x _ i _. rw e refl) (move_quiet (slot_sheet s f) (slot t f) c (goods f hf)))

  connect_comes : (f : ℕ) → f < farm_count s → Comes (connect_to f) (called s t (farms f connect))
  connect_comes f hf =
      farm_comes (connect_to f) connect f hf (λ _. told_connect (slot_sheet s g) T L (slot t g) (goods g isFarm) logged f)
      (λ n. other_comes f hf n (connect_to f) (λ _. refl) (λ _ _ _. refl) (move (slot_sheet s f) (slot t f) connect)
      (λ x e i l. let k = connect-row (slot_sheet s f) (slot t f) x e in
      ne_eqb x.row ((slot_sheet s g).first + i) (λ z. foreign s f g hf isFarm n i l k.0 k.1 (sym k.2 ∙ z)))
      (move_quiet (slot_sheet s f) (slot t f) connect (goods f hf)))

  -- a row that is a seat of farm f
  bytes_comes : (row f seat : ℕ) (input : List ℕ) → IsSeat s (farm_count s) row f seat → Comes (bytes_from row input) (called s t (farms f (bytes seat input)))
  bytes_comes row f seat input p =
      farm_comes (bytes_from row input) (bytes seat input) f p.farm_within
      (λ e. told_bytes (slot_sheet s g) T L (slot t g) (goods g isFarm) logged row seat
      (omega (arith, p.is_row, first-is s g isFarm, ap (first_row s) e)) (omega (arith, p.seat_within, rows_is s g isFarm, ap (rows_owned s) e)) input)
      (λ n. other_comes f p.farm_within n (bytes_from row input)
      (λ x. rw (not-owned (slot_sheet s g) row (λ i l z. away n i l (sym z))) refl)
      (λ i x l. rw (ne_eqb row ((slot_sheet s g).first + i) (λ z. away n i l z)) refl)
      (move (slot_sheet s f) (slot t f) (bytes seat input)) (λ _ _ _ _. refl)
      (move_quiet (slot_sheet s f) (slot t f) (bytes seat input) (goods f p.farm_within)))
    where
      away : (f ≡ g → ⊥) → (i : ℕ) → i < (slot_sheet s g).rows → row ≡ (slot_sheet s g).first + i → ⊥
      away n i l z =
          foreign s f g p.farm_within isFarm n i l seat (omega (arith, p.seat_within, rows_is s f p.farm_within))
          (omega (arith, p.is_row, first-is s f p.farm_within))

  owner_comes : (row : ℕ) (input : List ℕ) (o : Option (FarmNo × ℕ)) → owner_of s row ≡ o → Comes (bytes_from row input) (called s t (of_owner o (λ seat. bytes seat input)))
  owner_comes row input (Some (f, seat)) e = bytes_comes row f.0 seat input (owner_seat s row f.0 seat e)
  owner_comes row input None e = refused_comes (bytes_from row input) 6

  peer_comes : (row : ℕ) (o : Option (FarmNo × ℕ)) → owner_of s row ≡ o → Comes (peer_closed_on row) (called s t (of_owner o (λ seat. peer_closed seat)))
  peer_comes row (Some (f, seat)) e =
      named_comes (peer_closed_on row) (peer_closed seat) f.0 (λ _. refl) (λ _ _. refl) refl
      (told_peer (slot_sheet s g) T L (slot t g) (goods g isFarm) logged row seat) (owner_seat s row f.0 seat e).farm_within
  peer_comes row None e = refused_comes (peer_closed_on row) 6

  -- a call that names a farm
  if_farm : (call : Call) (f : ℕ) (c : Own) → (f < farm_count s → Comes call (called s t (farms f c)))
      → Comes call (called s t (pick (ltb f (farm_count s)) (farms f c) (nobodys 5)))
  if_farm call f c k =
      pick_case (λ (w : Whose). Comes call (called s t w)) (ltb f (farm_count s)) _ _ (λ u. k (ltb-true f (farm_count s) u)) (λ _. refused_comes call 5)

  ticks_as : slot_tick s g (slot t g) ≡ tick_move (slot_sheet s g) (slot t g)
  ticks_as = rw (lt-ltb g (farm_count s) isFarm) refl

  ticked_logs : (i : ℕ) → i < (slot_sheet s g).rows
      → noted_by ((slot_sheet s g).first + i) tick (gives no_row 0 (tick_items s 0 t)) (L i) ≡
      after (slot_sheet s g) (ticked (slot_sheet s g) (slot t g).farm).items L i
  unfolding tick_move
  ticked_logs i l =
      ap (filed_by ((slot_sheet s g).first + i) (tick_items s 0 t)) (took-none (L i)) ∙
      tick-filed s g isFarm i l 0 t g (zero-add g) inside
      (λ f b. subst (λ (k : ℕ). Good (slot_sheet s k) (slot t f).farm) (sym (zero-add f)) (goods f (omega arith))) (L i) ∙
      ap (λ (m : Move). filed_by ((slot_sheet s g).first + i) (items_by m) (L i)) ticks_as

  tick_comes : Comes tick (called s t everyones)
  unfolding tick_move
  tick_comes =
      slot-ticked
      (λ (y : Held). Logged (slot_sheet s g) (T + 0) (λ i. noted_by ((slot_sheet s g).first + i) tick (gives no_row 0 (tick_items s 0 t)) (L i)) y.farm)
      s 0 t g inside
      (rw (zero-add g, ticks_as, add-zero T)
      (logged_same (slot_sheet s g) T (after (slot_sheet s g) (ticked (slot_sheet s g) (slot t g).farm).items L) _ (ticked (slot_sheet s g) (slot t g).farm).farm
      ticked_logs (told_tick (slot_sheet s g) T L (slot t g).farm (goods g isFarm) logged)))

  -- ANY CALL: the farm's meters stay what the logs of its rows say
  call_comes : (call : Call) → Comes call (called s t (whose s call))
  unfolding whose
  call_comes (connect_to f) = if_farm (connect_to f) f connect (connect_comes f)
  call_comes (bytes_from row input) = owner_comes row input (owner_of s row) refl
  call_comes (peer_closed_on row) = peer_comes row (owner_of s row) refl
  call_comes (link_lost_of f) =
      if_farm (link_lost_of f) f link_lost
      (named_comes (link_lost_of f) link_lost f (λ _. refl) (λ _ _. refl) refl (told_link (slot_sheet s g) T L (slot t g) (goods g isFarm) logged f))
  call_comes tick = tick_comes
  call_comes (datagram_to f input) =
      if_farm (datagram_to f input) f (datagram input)
      (named_comes (datagram_to f input) (datagram input) f (λ _. refl) (λ _ _. refl) refl
      (told_datagram (slot_sheet s g) T L (slot t g) (goods g isFarm) logged f input))
  call_comes (message_from f from to user) =
      if_farm (message_from f from to user) f (controller from to user)
      (named_comes (message_from f from to user) (controller from to user) f (λ _. refl) (λ _ _. refl) refl
      (told_message (slot_sheet s g) T L (slot t g) (goods g isFarm) logged f from to user))

  pub step_comes : (m : Made)
      → Logged (slot_sheet s g) (T + taken_by (slot_sheet s g) m.call (said_by (step_of s t m)))
      (λ i. noted_by ((slot_sheet s g).first + i) m.call (said_by (step_of s t m)) (L i)) (slot (table_of t (step_of s t m)) g).farm
  step_comes m = step_cases (Comes m.call) s t m (refused_comes m.call) (call_comes m.call)
