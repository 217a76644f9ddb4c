-- A farm that the table has no slot for: no bytes are ever taken from it, so that its meters are 0 and the history says so.
-- Assumes nothing.
use Rattle.std.proofs.Common.{Option, Some, None}
use Rattle.kinds.specs.declared.FarmNo.{FarmNo}
use Prim.Native.Nat.{ℕ, zero, suc, ◌+◌, ◌≤◌, ◌<◌}
use mathlib.Core.Path.{◌≡◌, refl, sym, ap, subst, ◌∙◌}
use mathlib.Core.List.{List, [], ◌∷◌, append-nil}
use native.Mathlib.Omega.{arith}
use lib.Dec.{eqb}
use lib.ListN.{length, get_or-eq_default}
use borrow.Author.Tests.{eqb-true, eqb-false, ne_eqb}
use Rattle.octets.specs.Choice.{both}
use Rattle.kinds.specs.declared.Item.{Item}
use Rattle.kinds.specs.declared.Row.{Row}
use Rattle.sheet.specs.Sheet.{farm_count}
use Rattle.sheet.specs.Rows.{owner_of}
use Rattle.sheet.proofs.RowsLaws.{IsSeat, owner_seat}
use Rattle.model.specs.FarmSheet.{slot_sheet}
use Rattle.model.specs.Farm.{seat_count, new_farm}
use Rattle.model.specs.Move.{bytes, Held, move, bytes_by}
use Rattle.model.specs.Table.{Table, no_held, slot, Call, connect_to, bytes_from, peer_closed_on, link_lost_of, tick, datagram_to, message_from, of_owner, whose, Outcome, refuses, moved_to, called, table_of}
use Rattle.model.specs.History.{Made, step_of, run}
use Rattle.model.specs.Meter.{Said, turned_away, gives, said_by, finished_up_to, finished_in, total, Log, no_log, took, begun, filed, filed_by, is_close, bytes_on, is_connect, took_on, taken_by, noted_by, finished_on, lost_on, notes_of, log_from, log_of, sum_to, taken_of, finished_of, lost_of}
use Rattle.model.proofs.Rows.{row_free}
use Rattle.model.proofs.Cases.{pick_case, split}
use Rattle.model.proofs.MeterSlot.{step_cases, step-length}
use Rattle.model.proofs.MeterLog.{sum_same}
use Rattle.model.proofs.MeterTable.{first-is, rows_is, not-owned, foreign}

-- a log of connections that gave nothing
pub record Blank (l : Log) : Type 0 where
  pub none : l.now ≡ []
  pub no_finished : total finished_in l.ended ≡ 0
  pub no_lost : lost_on l ≡ 0

blank-filed : (l : Log) → Blank l → Blank (filed l)
unfolding total finished_up_to
blank-filed l b = record { none = refl; no_finished = rw b.none (omega (arith, b.no_finished)); no_lost = rw b.none (omega (arith, b.no_lost)) }

blank-by : (r : ℕ) (items : List Item) (l : Log) → Blank l → Blank (filed_by r items l)
unfolding filed_by
blank-by r [] l b = b
blank-by r (it ∷ items) l b =
    blank-by r items _ (pick_case Blank (both (is_close it.reply) (eqb it.row.0 r)) (filed l) l (λ _. blank-filed l b) (λ _. b))

-- an answer that takes no bytes from the row
blank_noted : (r : ℕ) (call : Call) (o : Said) (l : Log) → ((row n : ℕ) (items : List Item) → o ≡ gives row n items → bytes_on r call n ≡ []) → Blank l
    → Blank (noted_by r call o l)
blank_noted r call turned_away l e b = b
blank_noted r call (gives row n items) l e b =
    blank-by r items _ (rw (e row n items refl) (pick_case (λ (x : Log). Blank (took [] x)) (both (is_connect call) (eqb row r)) (begun l) l
    (λ _. record { none = refl; no_finished = b.no_finished; no_lost = b.no_lost })
    (λ _. record { none = append-nil l.now ∙ b.none; no_finished = b.no_finished; no_lost = b.no_lost })))

-- ---- no call takes bytes from a farm without a slot

pub slot-none : (t : Table) (g : ℕ) → length t ≤ g → slot t g ≡ no_held
slot-none t g h = get_or-eq_default t no_held {n = g} h

module _ (s : List ℕ) (g : ℕ) (isFarm : g < farm_count s) (t : Table) (out : length t ≤ g) where
  -- nothing is counted as taken, and no row's log grows
  pub record Skips (call : Call) (o : Said) : Type 0 where
    pub no_taken : taken_by (slot_sheet s g) call o ≡ 0
    pub no_bytes : (i : ℕ) → i < (slot_sheet s g).rows → (row n : ℕ) (items : List Item) → o ≡ gives row n items
        → bytes_on ((slot_sheet s g).first + i) call n ≡ []

  skips_refused : (call : Call) → Skips call turned_away
  skips_refused call = record { no_taken = refl; no_bytes = λ i h row n items e. absurd (let z : ◌≡◌ {A = ℕ} 0 1 = cc in omega arith) }

  skips_other : (call : Call) → ((n : ℕ) → took_on (slot_sheet s g) call n ≡ 0) → ((i n : ℕ) → i < (slot_sheet s g).rows → bytes_on ((slot_sheet s g).first + i) call n ≡ [])
      → (o : Said) → Skips call o
  skips_other call a b turned_away = skips_refused call
  skips_other call a b (gives row n items) = record { no_taken = a n; no_bytes = λ i h row' n' items' e. b i n' h }

  no_rows : (seat : ℕ) (input : List ℕ) → moved_to t g (move (slot_sheet s g) (slot t g) (bytes seat input)) ≡ refuses 6
  unfolding move new_farm
  no_rows seat input =
      ap (λ (h : Held). moved_to t g (move (slot_sheet s g) h (bytes seat input))) (slot-none t g out) ∙
      ap (λ (r : Row). moved_to t g (bytes_by (slot_sheet s g) no_held seat input r.state)) (row_free seat_count seat)

  bytes_skips : (row f seat : ℕ) (input : List ℕ) → IsSeat s (farm_count s) row f seat
      → Skips (bytes_from row input) (said_by (moved_to t f (move (slot_sheet s f) (slot t f) (bytes seat input))))
  bytes_skips row f seat input p =
      split (eqb f g)
      (λ u. subst (λ (k : ℕ). Skips (bytes_from row input) (said_by (moved_to t k (move (slot_sheet s k) (slot t k) (bytes seat input))))) (sym (eqb-true f g u))
      (subst (λ (o : Outcome). Skips (bytes_from row input) (said_by o)) (sym (no_rows seat input)) (skips_refused (bytes_from row input))))
      (λ u. let away : (i : ℕ) → i < (slot_sheet s g).rows → (slot_sheet s g).first + i ≡ row → ⊥ =
      λ i l z. foreign s f g p.farm_within isFarm (eqb-false f g u) i l seat (omega (arith, p.seat_within, rows_is s f p.farm_within))
      (omega (arith, p.is_row, first-is s f p.farm_within)) in
      skips_other (bytes_from row input) (λ n. rw (not-owned (slot_sheet s g) row away) refl)
      (λ i n l. rw (ne_eqb row ((slot_sheet s g).first + i) (λ z. away i l (sym z))) refl) _)

  owner_skips : (row : ℕ) (input : List ℕ) (o : Option (FarmNo × ℕ)) → owner_of s row ≡ o
      → Skips (bytes_from row input) (said_by (called s t (of_owner o (λ seat. bytes seat input))))
  owner_skips row input (Some (f, seat)) e = bytes_skips row f.0 seat input (owner_seat s row f.0 seat e)
  owner_skips row input None e = skips_refused (bytes_from row input)

  call_skips : (call : Call) → Skips call (said_by (called s t (whose s call)))
  unfolding whose
  call_skips (connect_to f) = skips_other (connect_to f) (λ _. refl) (λ _ _ _. refl) _
  call_skips (bytes_from row input) = owner_skips row input (owner_of s row) refl
  call_skips (peer_closed_on row) = skips_other (peer_closed_on row) (λ _. refl) (λ _ _ _. refl) _
  call_skips (link_lost_of f) = skips_other (link_lost_of f) (λ _. refl) (λ _ _ _. refl) _
  call_skips tick = skips_other tick (λ _. refl) (λ _ _ _. refl) _
  call_skips (datagram_to f input) = skips_other (datagram_to f input) (λ _. refl) (λ _ _ _. refl) _
  call_skips (message_from f from to user) = skips_other (message_from f from to user) (λ _. refl) (λ _ _ _. refl) _

  step_skips : (m : Made) → Skips m.call (said_by (step_of s t m))
  step_skips m = step_cases (λ (o : Outcome). Skips m.call (said_by o)) s t m (λ _. skips_refused m.call) (call_skips m.call)

-- ---- over a history

pub none_sum : (n : ℕ) → sum_to (λ i. 0) n ≡ 0
unfolding sum_to
none_sum zero = refl
none_sum (suc n) = omega (arith, none_sum n)

pub run_length : (s : List ℕ) (t : Table) (ms : List Made) → length (run s t ms) ≡ length t
unfolding run
run_length s t [] = refl
run_length s t (m ∷ ms) = run_length s (table_of t (step_of s t m)) ms ∙ step-length s t m

module _ (s : List ℕ) (g : ℕ) (isFarm : g < farm_count s) where
  none-taken : (t : Table) → length t ≤ g → (ms : List Made) → taken_of (slot_sheet s g) (notes_of s t ms) ≡ 0
  unfolding notes_of taken_of
  none-taken t h [] = refl
  none-taken t h (m ∷ ms) =
      omega (arith, (step_skips s g isFarm t h m).no_taken, none-taken (table_of t (step_of s t m)) (omega (arith, step-length s t m)) ms)

  none_logged : (t : Table) → length t ≤ g → (ms : List Made) (i : ℕ) → i < (slot_sheet s g).rows → (l : Log) → Blank l
      → Blank (log_from ((slot_sheet s g).first + i) l (notes_of s t ms))
  unfolding notes_of log_from
  none_logged t h [] i b l x = x
  none_logged t h (m ∷ ms) i b l x =
      none_logged (table_of t (step_of s t m)) (omega (arith, step-length s t m)) ms i b _
      (blank_noted ((slot_sheet s g).first + i) m.call (said_by (step_of s t m)) l ((step_skips s g isFarm t h m).no_bytes i b) x)

  blank_new : Blank no_log
  unfolding total
  blank_new = record { none = refl; no_finished = refl; no_lost = refl }

  blank-finished : (l : Log) → Blank l → finished_on l ≡ 0
  unfolding finished_up_to
  blank-finished l b = rw b.none (omega (arith, b.no_finished))

  -- the three sums are 0
  pub none_sums : (t : Table) → length t ≤ g → (ms : List Made)
      → (taken_of (slot_sheet s g) (notes_of s t ms) ≡ 0) × (finished_of (slot_sheet s g) (notes_of s t ms) ≡ 0) × (lost_of (slot_sheet s g) (notes_of s t ms) ≡ 0)
  none_sums t h ms = (
    none-taken t h ms,
    sum_same (λ i. 0) (λ i. finished_on (log_of ((slot_sheet s g).first + i) (notes_of s t ms))) (slot_sheet s g).rows
        (λ i b. blank-finished _ (none_logged t h ms i b no_log blank_new)) ∙ none_sum (slot_sheet s g).rows,
    sum_same (λ i. 0) (λ i. lost_on (log_of ((slot_sheet s g).first + i) (notes_of s t ms))) (slot_sheet s g).rows
        (λ i b. (none_logged t h ms i b no_log blank_new).no_lost) ∙ none_sum (slot_sheet s g).rows,
  )
