-- What a tick has done to the table and with the output sheet.
-- Assumes nothing: these are definitions.
use Rattle.std.specs.Prelude.{ℕ, ◌≤◌, ◌<◌, ◌≡◌, List, [], ◌++◌, length}
use Rattle.octets.specs.Fold.{up_to}
use Rattle.kinds.specs.declared.Item.{Item}
use Rattle.sheet.specs.Sheet.{farm_count}
use Rattle.outsheet.specs.Sheet.{sheet_of}
use Rattle.outsheet.specs.Replies.{entries_of}
use Rattle.outsheet.specs.Contracts.{Wrote}
use Rattle.model.specs.FarmSheet.{farm_sheet}
use Rattle.model.specs.Farm.{Done}
use Rattle.model.specs.Move.{no_row, ticked}
use Rattle.table.specs.Layout.{table_size}
use Rattle.table.specs.Block.{farm_of, Holds}
use Rattle.closing.specs.Did.{pushed_all}
use Rattle.lent.specs.declared.Answer.{Answer}
use Rattle.lent.specs.Lent.{block}
use Rattle.lent.specs.Served.{done}

-- the tick of farm f
abbrev pub farm_tick : List ℕ → List ℕ → ℕ → Done
farm_tick s t f = ticked (farm_sheet s f) (farm_of (block t f))

-- "A tick does this farm by farm": the entries of the first n farms
unfoldable pub ticks_to : List ℕ → List ℕ → ℕ → List Item
ticks_to s t n = up_to (λ f items. items ++ (farm_tick s t f).items) [] n

-- the first n farms have their tick, the others stand as they were
pub record Farms (s t : List ℕ) (n : ℕ) (after : List ℕ) : Type 0 where
  pub each : (f : ℕ) → f < n → Holds (block after f) (farm_tick s t f).farm
  pub rest : (f : ℕ) → n ≤ f → block after f ≡ block t f
  pub long : length after ≡ table_size

-- and the plan says their entries, one farm's behind the other's
pub record TickedTo (s t : List ℕ) (n : ℕ) (plan : List Item) (after : List ℕ) : Type 0 where
  pub farms : Farms s t n after
  pub said : plan ≡ pushed_all [] (ticks_to s t n)

pub record TickedOut (s t out after output : List ℕ) (a : Answer) : Type 0 where
  pub answer : a ≡ done no_row 0 a.length
  pub farms : Farms s t (farm_count s) after
  pub wrote : Wrote (sheet_of (entries_of [] (ticks_to s t (farm_count s)))) out output a.length
