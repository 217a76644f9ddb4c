-- Demand 1, number by number: when each refusal is given, and that a refused call changes nothing.
-- Assumes nothing.
use Rattle.std.proofs.Common.{Option, Some, None}
use Rattle.kinds.specs.declared.FarmNo.{FarmNo}
use Prim.{Unit}
use Prim.Native.Nat.{ℕ, ◌≤◌}
use mathlib.Core.Path.{◌≡◌, refl, ap, ◌∙◌}
use mathlib.Core.Bool.{true}
use mathlib.Core.List.{List, []}
use mathlib.Core.Logic.{◌↔◌}
use Rattle.octets.proofs.SaysLaws.{never}
use Rattle.sheet.specs.Sheet.{farm_count}
use Rattle.sheet.specs.Rows.{owner_of}
use Rattle.sheet.specs.Rules.{GoodSheet}
use Rattle.sheet.proofs.RowsLaws.{IsSeat, owner_seat, seat_owner}
use Rattle.model.specs.Row.{row_at, is_open}
use Rattle.model.specs.Move.{no_row}
use Rattle.model.specs.Table.{Table, slot, Call, Lent, least_output, assembling_size, Outcome, refuses, did, step, start_step, number_of, row_of, took_of, items_of, long_of, table_of}
use Rattle.model.proofs.TableTest.{TableKeeps}
use Rattle.model.proofs.RefusalList.{FarmKnown, row_in, RowOpen, NotWaiting, RowLeft, UserFits, EndsKnown, refusals, start_refusals}

-- ---- rule 6 in the sheet's own words

-- row r of the sheet is a seat of a farm, and open
pub record OpenRow (s : List ℕ) (t : Table) (r : ℕ) : Type 0 where
  pub farm : ℕ
  pub seat : ℕ
  pub is_seat : IsSeat s (farm_count s) r farm seat
  pub is_open_there : is_open (row_at (slot t farm).farm.rows seat) ≡ true

-- THE ROW IS OPEN exactly where it is some farm's and open there: a row that is nobody's is not
pub open_row : (s : List ℕ) (t : Table) (r : ℕ) → (is_open (row_in s t (owner_of s r)) ≡ true) ↔ OpenRow s t r
open_row s t r =
    (λ e. by (owner_of s r) refl e, λ h. ap (λ (o : Option (FarmNo × ℕ)). is_open (row_in s t o)) (seat_owner s r h.farm h.seat h.is_seat) ∙ h.is_open_there)
  where
    by : (o : Option (FarmNo × ℕ)) → owner_of s r ≡ o → is_open (row_in s t o) ≡ true → OpenRow s t r
    by (Some (f, seat)) e h = record { farm = f.0; seat = seat; is_seat = owner_seat s r f.0 seat e; is_open_there = h }
    by None e h = absurd (never h)

-- ---- "A refusal returns its number, output length 0, bytes taken 0, row 255. Table and buffers stay byte for byte."

pub record Unchanged (t : Table) (o : Outcome) : Type 0 where
  pub row : row_of o ≡ no_row
  pub took : took_of o ≡ 0
  pub items : items_of o ≡ []
  pub long : long_of o ≡ []
  pub table : table_of t o ≡ t

-- A REFUSED CALL CHANGES NOTHING, whatever its number.
pub refused_unchanged : (t : Table) (o : Outcome) → (number_of o ≡ 0 → ⊥) → Unchanged t o
refused_unchanged t (refuses n) h = record { row = refl; took = refl; items = refl; long = refl; table = refl }
refused_unchanged t (did d) h = absurd (h refl)

-- ---- each number by itself

module _ (s : List ℕ) (l : Lent) (t : Table) (c : Call) where
  abbrev pub Answer : ℕ → Type 0
  Answer n = number_of (step s l t c) ≡ n

  -- rules 1 to 4 are kept, and then
  abbrev pub Past4 : Type 0 → Type 0
  Past4 X = GoodSheet s × ((least_output ≤ l.output) × ((l.assembling ≡ assembling_size) × (TableKeeps s t × X)))

  -- rules 1 to 7 are kept, and then
  abbrev pub Past7 : Type 0 → Type 0
  Past7 X = Past4 (FarmKnown s c × (RowOpen s t c × (NotWaiting s t c × X)))

pub record Refusals (s : List ℕ) (l : Lent) (t : Table) (c : Call) : Type 0 where
  pub sheet_broken : Answer s l t c 1 ↔ (GoodSheet s → ⊥)
  pub output_short : Answer s l t c 2 ↔ (GoodSheet s × (least_output ≤ l.output → ⊥))
  pub assembling_wrong : Answer s l t c 3 ↔ (GoodSheet s × ((least_output ≤ l.output) × (l.assembling ≡ assembling_size → ⊥)))
  pub table_broken :
      Answer s l t c 4 ↔ (GoodSheet s × ((least_output ≤ l.output) × ((l.assembling ≡ assembling_size) × (TableKeeps s t → ⊥))))
  pub farm_unknown : Answer s l t c 5 ↔ Past4 s l t c (FarmKnown s c → ⊥)
  pub row_not_open : Answer s l t c 6 ↔ Past4 s l t c (FarmKnown s c × (RowOpen s t c → ⊥))
  pub row_waits : Answer s l t c 7 ↔ Past4 s l t c (FarmKnown s c × (RowOpen s t c × (NotWaiting s t c → ⊥)))
  pub no_free_row : Answer s l t c 8 ↔ Past7 s l t c (RowLeft s t c → ⊥)
  pub user_unfit : Answer s l t c 9 ↔ Past7 s l t c (RowLeft s t c × (UserFits s c → ⊥))
  pub ends_unknown : Answer s l t c 10 ↔ Past7 s l t c (RowLeft s t c × (UserFits s c × (EndsKnown s t c → ⊥)))
  -- "Answer 0 is done"
  pub served : Answer s l t c 0 ↔ Past7 s l t c (RowLeft s t c × (UserFits s c × (EndsKnown s t c × Unit {0})))

-- EACH NUMBER EXACTLY WHEN THE LIST SAYS, for every sheet, table, call and lent memory.
pub each_number : (s : List ℕ) (l : Lent) (t : Table) (c : Call) → Refusals s l t c
each_number s l t c =
    record {
      sheet_broken = refusals s l t c 1;
      output_short = refusals s l t c 2;
      assembling_wrong = refusals s l t c 3;
      table_broken = refusals s l t c 4;
      farm_unknown = refusals s l t c 5;
      row_not_open = refusals s l t c 6;
      row_waits = refusals s l t c 7;
      no_free_row = refusals s l t c 8;
      user_unfit = refusals s l t c 9;
      ends_unknown = refusals s l t c 10;
      served = refusals s l t c 0;
    }

-- start: "1 to 4 hold for every call, but start skips 4", and nothing else turns it away
pub record StartRefusals (s : List ℕ) (l : Lent) (t : Table) : Type 0 where
  pub sheet_broken : (number_of (start_step s l t) ≡ 1) ↔ (GoodSheet s → ⊥)
  pub output_short : (number_of (start_step s l t) ≡ 2) ↔ (GoodSheet s × (least_output ≤ l.output → ⊥))
  pub assembling_wrong :
      (number_of (start_step s l t) ≡ 3) ↔ (GoodSheet s × ((least_output ≤ l.output) × (l.assembling ≡ assembling_size → ⊥)))
  pub started :
      (number_of (start_step s l t) ≡ 0) ↔ (GoodSheet s × ((least_output ≤ l.output) × ((l.assembling ≡ assembling_size) × Unit {0})))

pub start_numbers : (s : List ℕ) (l : Lent) (t : Table) → StartRefusals s l t
start_numbers s l t =
    record {
      sheet_broken = start_refusals s l t 1;
      output_short = start_refusals s l t 2;
      assembling_wrong = start_refusals s l t 3;
      started = start_refusals s l t 0;
    }
