-- One farm as a machine: what it holds, and what it does when a row closes.
-- Assumes nothing: these are definitions.
use Rattle.std.specs.Prelude.{ℕ, ◌+◌, ◌%◌, ◌^◌, Bool, false, List, [], ◌∷◌, ◌++◌, set, replicate}
use Rattle.octets.specs.Choice.{pick}
use Rattle.octets.specs.Fold.{up_to}
use Rattle.kinds.specs.declared.Clock.{Clock}
use Rattle.kinds.specs.declared.Row.{Row}
use Rattle.kinds.specs.declared.Meters.{Meters}
use Rattle.kinds.specs.declared.Item.{Item}
use Rattle.kinds.specs.declared.Reply.{Reply}
use Rattle.kinds.specs.declared.Reply.TheVariants.{Close}
use Rattle.wire.specs.Header.{our_version}
use Rattle.model.specs.FarmSheet.{FarmSheet}
use Rattle.kinds.specs.Clock.{clock_of}
use Rattle.model.specs.Row.{free_row, row_at, in_hand}

-- the rows that a farm has room for ("at most nine"); a farm of quota q owns the first q + 1
unfoldable pub seat_count : ℕ
seat_count = 9

-- "Each farm has a line of waiting rows, one check clock, a mark "answered" for each of its at most nine rows, kept by value, and three
-- meters." A row is named by its seat within the farm.
pub record Farm : Type 0 where
  pub rows : List Row
  pub line : List ℕ
  pub clock : Clock
  pub marks : List Bool
  pub meters : Meters

abbrev pub no_marks : List Bool
no_marks = replicate seat_count false

abbrev pub with_rows : Farm → List Row → Farm
with_rows f rows = record { rows = rows; line = f.line; clock = f.clock; marks = f.marks; meters = f.meters }

abbrev pub with_row : Farm → ℕ → Row → Farm
with_row f i r = with_rows f (set f.rows i r)

abbrev pub with_line : Farm → List ℕ → Farm
with_line f line = record { rows = f.rows; line = line; clock = f.clock; marks = f.marks; meters = f.meters }

abbrev pub with_clock : Farm → Clock → Farm
with_clock f clock = record { rows = f.rows; line = f.line; clock = clock; marks = f.marks; meters = f.meters }

abbrev pub with_marks : Farm → List Bool → Farm
with_marks f marks = record { rows = f.rows; line = f.line; clock = f.clock; marks = marks; meters = f.meters }

abbrev pub with_meters : Farm → Meters → Farm
with_meters f meters = record { rows = f.rows; line = f.line; clock = f.clock; marks = f.marks; meters = meters }

-- "A new table holds all rows free and all meters 0."
unfoldable pub new_farm : Farm
new_farm =
    record {
      rows = replicate seat_count free_row;
      line = [];
      clock = clock_of 0;
      marks = no_marks;
      meters = record { taken = 0; finished = 0; lost = 0 };
    }

-- ---- meters: "Per farm, u32, wrapping on purpose"

abbrev pub wrap : ℕ → ℕ
wrap n = n % 2 ^ 32

abbrev pub took_more : ℕ → Meters → Meters
took_more n m = record { taken = wrap (m.taken + n); finished = m.finished; lost = m.lost }

abbrev pub finished_more : ℕ → Meters → Meters
finished_more n m = record { taken = m.taken; finished = wrap (m.finished + n); lost = m.lost }

abbrev pub lost_more : ℕ → Meters → Meters
lost_more n m = record { taken = m.taken; finished = m.finished; lost = wrap (m.lost + n) }

-- ---- what a farm does: its state afterwards, and the entries in their order

pub record Done : Type 0 where
  pub farm : Farm
  pub items : List Item

abbrev pub does : Farm → List Item → Done
does f items = record { farm = f; items = items }

-- nothing is said
abbrev pub quietly : Farm → Done
quietly f = does f []

-- one thing, then another
unfoldable pub and_then : Done → (Farm → Done) → Done
and_then d next = does (next d.farm).farm (d.items ++ (next d.farm).items)

-- at each seat, the lowest first
unfoldable pub each_seat : (ℕ → Farm → Done) → Farm → Done
each_seat g f = up_to (λ i d. and_then d (g i)) (quietly f) seat_count

-- an entry on the row with this seat; the version is ours
abbrev pub says : FarmSheet → ℕ → Reply → Item
says own seat reply = record { row = record { 0 = own.first + seat }; version = our_version; reply = reply }

-- the row closes: it is free, and "lost (bytes of an unfinished message when its row closes)"
unfoldable pub closed : FarmSheet → ℕ → Farm → Done
closed own seat f =
    does (with_meters (with_row f seat free_row) (lost_more (in_hand (row_at f.rows seat)) f.meters)) (says own seat Close ∷ [])

unfoldable pub closed_if : FarmSheet → (ℕ → Row → Bool) → ℕ → Farm → Done
closed_if own test seat f = pick (test seat (row_at f.rows seat)) (closed own seat f) (quietly f)

-- all rows that pass the test close, "lowest first"
abbrev pub closed_where : FarmSheet → (ℕ → Row → Bool) → Farm → Done
closed_where own test f = each_seat (closed_if own test) f
