-- The table of all farms, and one call on it.
-- Assumes nothing: these are definitions.
use Rattle.std.specs.Prelude.{ℕ, suc, Bool, true, List, [], ◌∷◌, ◌++◌, map, eqb, leb, ltb, get_or, set, Option, Some, None}
use Rattle.kinds.specs.declared.FarmNo.{FarmNo}
use Rattle.octets.specs.Choice.{pick, both, unless}
use Rattle.kinds.specs.declared.Item.{Item}
use Rattle.sheet.specs.Sheet.{farm_count}
use Rattle.sheet.specs.Rows.{owner_of}
use Rattle.sheet.specs.Test.{good_sheet}
use Rattle.model.specs.FarmSheet.{slot_sheet}
use Rattle.model.specs.Farm.{new_farm}
use Rattle.model.specs.Move.{Own, connect, bytes, peer_closed, link_lost, datagram, controller, Held, Move, refused, gave, no_row, move, tick_move}
use Rattle.model.specs.RuleTest.{good_farm}

-- one slot for each farm that a sheet can have
abbrev pub Table : Type 0
Table = List Held

abbrev pub no_held : Held
no_held = record { farm = new_farm; rooms = [] }

abbrev pub slot : Table → ℕ → Held
slot t f = get_or t f no_held

-- ---- rule 4, for all slots; one beyond the sheet's farms owns no row

abbrev pub good_from : List ℕ → ℕ → Table → Bool
good_from s f [] = true
good_from s f (h ∷ t) = both (good_farm (slot_sheet s f) h.farm) (good_from s (suc f) t)

unfoldable pub good_table : List ℕ → Table → Bool
good_table s t = good_from s 0 t

-- ---- "Calls: start a fresh table; connect; bytes from a row; peer closed; link of a farm lost; tick (10 ms); datagram; message from a
-- controller.", as the host names farms and rows; the start stands by itself, below

pub data Call : Type 0 where
  connect_to : (farm : ℕ) → Call
  bytes_from : (row : ℕ) (input : List ℕ) → Call
  peer_closed_on : (row : ℕ) → Call
  link_lost_of : (farm : ℕ) → Call
  tick : Call
  datagram_to : (farm : ℕ) (input : List ℕ) → Call
  message_from : (farm : ℕ) (controller tester : ℕ) (user : List ℕ) → Call

-- what is lent with a call, as far as the rules look at it: the lengths of the output and of the assembling buffer
pub record Lent : Type 0 where
  pub output : ℕ
  pub assembling : ℕ

-- "Output buffer: at least 4,096 bytes. Assembling buffer: exactly 32,768, 2,048 for each of 16 rows."
unfoldable pub least_output : ℕ
least_output = 4096

unfoldable pub assembling_size : ℕ
assembling_size = 32768

-- ---- whose call it is: "A call belongs to the farm it names or whose row it names."

pub data Whose : Type 0 where
  nobodys : (number : ℕ) → Whose
  farms : (farm : ℕ) → Own → Whose
  everyones : Whose

-- "5 | farm number not in the sheet"
abbrev pub of_farm : List ℕ → ℕ → Own → Whose
of_farm s f c = pick (ltb f (farm_count s)) (farms f c) (nobodys 5)

-- "6 | row not open"; a row that is nobody's is not open
abbrev pub of_owner : Option (FarmNo × ℕ) → (ℕ → Own) → Whose
of_owner (Some (f, seat)) c = farms f.0 (c seat)
of_owner None c = nobodys 6

unfoldable pub whose : List ℕ → Call → Whose
whose s (connect_to f) = of_farm s f connect
whose s (bytes_from r input) = of_owner (owner_of s r) (λ seat. bytes seat input)
whose s (peer_closed_on r) = of_owner (owner_of s r) (λ seat. peer_closed seat)
whose s (link_lost_of f) = of_farm s f link_lost
whose s tick = everyones
whose s (datagram_to f input) = of_farm s f (datagram input)
whose s (message_from f from to user) = of_farm s f (controller from to user)

-- ---- what a call gives: a refusal is nothing but its number

pub record Did : Type 0 where
  pub row : ℕ
  pub took : ℕ
  pub items : List Item
  pub long : List ℕ
  pub table : Table

pub data Outcome : Type 0 where
  refuses : (number : ℕ) → Outcome
  did : Did → Outcome

abbrev pub moved_to : Table → ℕ → Move → Outcome
moved_to t f (refused n) = refuses n
moved_to t f (gave g) = did (record { row = g.row; took = g.took; items = g.items; long = g.long; table = set t f g.held })

-- "A tick serves the farms in order"
abbrev pub held_by : Held → Move → Held
held_by h (refused n) = h
held_by h (gave g) = g.held

abbrev pub items_by : Move → List Item
items_by (refused n) = []
items_by (gave g) = g.items

-- the tick of slot f: a slot beyond the sheet's farms has none
abbrev pub slot_tick : List ℕ → ℕ → Held → Move
slot_tick s f h = pick (ltb f (farm_count s)) (tick_move (slot_sheet s f) h) (refused 5)

abbrev pub tick_table : List ℕ → ℕ → Table → Table
tick_table s f [] = []
tick_table s f (h ∷ t) = held_by h (slot_tick s f h) ∷ tick_table s (suc f) t

abbrev pub tick_items : List ℕ → ℕ → Table → List Item
tick_items s f [] = []
tick_items s f (h ∷ t) = items_by (slot_tick s f h) ++ tick_items s (suc f) t

abbrev pub called : List ℕ → Table → Whose → Outcome
called s t (nobodys n) = refuses n
called s t (farms f c) = moved_to t f (move (slot_sheet s f) (slot t f) c)
called s t everyones = did (record { row = no_row; took = 0; items = tick_items s 0 t; long = []; table = tick_table s 0 t })

-- "Checked in this order; the first that applies is given."
abbrev pub if_lent : List ℕ → Lent → Outcome → Outcome
if_lent s l o =
    unless (good_sheet s) (refuses 1)
    (unless (leb least_output l.output) (refuses 2) (unless (eqb l.assembling assembling_size) (refuses 3) o))

unfoldable pub step : List ℕ → Lent → Table → Call → Outcome
step s l t c = if_lent s l (unless (good_table s t) (refuses 4) (called s t (whose s c)))

-- ---- start: "1 to 4 hold for every call, but start skips 4."; the assembling buffer stays as it is

abbrev pub renewed : Table → Table
renewed t = map (λ h. record { farm = new_farm; rooms = h.rooms }) t

unfoldable pub start_step : List ℕ → Lent → Table → Outcome
start_step s l t = if_lent s l (did (record { row = no_row; took = 0; items = []; long = []; table = renewed t }))

-- ---- the answer: "A refusal returns its number, output length 0, bytes taken 0, row 255."; "Answer 0 is done"

abbrev pub number_of : Outcome → ℕ
number_of (refuses n) = n
number_of (did d) = 0

abbrev pub row_of : Outcome → ℕ
row_of (refuses n) = no_row
row_of (did d) = d.row

abbrev pub took_of : Outcome → ℕ
took_of (refuses n) = 0
took_of (did d) = d.took

abbrev pub items_of : Outcome → List Item
items_of (refuses n) = []
items_of (did d) = d.items

abbrev pub long_of : Outcome → List ℕ
long_of (refuses n) = []
long_of (did d) = d.long

-- "Table and buffers stay byte for byte."
abbrev pub table_of : Table → Outcome → Table
table_of t (refuses n) = t
table_of t (did d) = d.table
