-- Histories: calls from a fresh table, under one sheet, "each call gets the table and assembling buffer that the call before it left".
-- Assumes nothing: these are definitions.
use Rattle.std.specs.Prelude.{ℕ, ◌+◌, Bool, false, List, [], ◌∷◌, eqb, leb, ltb}
use Rattle.std.proofs.Math.Option.{Option, none, some}
use Rattle.octets.specs.Choice.{pick, both}
use Rattle.kinds.specs.declared.Item.{Item}
use Rattle.kinds.specs.declared.Meters.{Meters}
use Rattle.model.specs.FarmSheet.{FarmSheet, slot_sheet}
use Rattle.model.specs.Farm.{new_farm}
use Rattle.model.specs.Table.{Table, slot, Call, Lent, Whose, nobodys, farms, everyones, whose, Outcome, step, number_of, row_of, took_of, items_of, long_of, table_of}

-- a call with what is lent to it
pub record Made : Type 0 where
  pub lent : Lent
  pub call : Call

-- a fresh table over an assembling buffer with these rooms, a list of them for each slot
abbrev pub fresh : List (List (List ℕ)) → Table
fresh [] = []
fresh (rooms ∷ more) = record { farm = new_farm; rooms = rooms } ∷ fresh more

abbrev pub step_of : List ℕ → Table → Made → Outcome
step_of s t m = step s m.lent t m.call

-- the table that a history leaves
unfoldable pub run : List ℕ → Table → List Made → Table
run s t [] = t
run s t (m ∷ ms) = run s (table_of t (step_of s t m)) ms

-- ---- what one farm has of a history

-- the entry is on a row of the farm
abbrev pub on_row : FarmSheet → Item → Bool
on_row own it = both (leb own.first it.row.0) (ltb it.row.0 (own.first + own.rows))

abbrev pub keep : {A : Type 0} → (A → Bool) → List A → List A
keep p [] = []
keep p (x ∷ l) = pick (p x) (x ∷ keep p l) (keep p l)

-- "Of a tick, a farm's replies are the entries on its rows."
abbrev pub replies_by : FarmSheet → Whose → List Item → List Item
replies_by own (nobodys n) items = items
replies_by own (farms f c) items = items
replies_by own everyones items = keep (on_row own) items

-- "the same answers, replies and meters": what farm g has of a call
pub record Has : Type 0 where
  pub number : ℕ
  pub row : ℕ
  pub took : ℕ
  pub replies : List Item
  pub long : List ℕ
  pub meters : Meters

unfoldable pub has : List ℕ → ℕ → Table → Made → Has
has s g t m =
    let o : Outcome = step_of s t m in
    record {
      number = number_of o;
      row = row_of o;
      took = took_of o;
      replies = replies_by (slot_sheet s g) (whose s m.call) (items_of o);
      long = long_of o;
      meters = (slot (table_of t o) g).farm.meters;
    }

-- the call counts for farm g: it is its own, or a tick that is accepted
abbrev pub counts_by : ℕ → Whose → ℕ → Bool
counts_by g (nobodys n) number = false
counts_by g (farms f c) number = eqb f g
counts_by g everyones number = eqb number 0

unfoldable pub counts : List ℕ → ℕ → Table → Made → Bool
counts s g t m = counts_by g (whose s m.call) (number_of (step_of s t m))

-- "one farm's calls and .. the accepted ticks, in their order"; of a tick, only that it was
abbrev pub seen_by : Whose → Made → Option Made
seen_by (nobodys n) m = some m
seen_by (farms f c) m = some m
seen_by everyones m = none

abbrev pub seen : List ℕ → Made → Option Made
seen s m = seen_by (whose s m.call) m

unfoldable pub calls_of : List ℕ → ℕ → Table → List Made → List (Option Made)
calls_of s g t [] = []
calls_of s g t (m ∷ ms) =
    pick (counts s g t m) (seen s m ∷ calls_of s g (table_of t (step_of s t m)) ms) (calls_of s g (table_of t (step_of s t m)) ms)

-- what the farm has of each of them
unfoldable pub has_of : List ℕ → ℕ → Table → List Made → List Has
has_of s g t [] = []
has_of s g t (m ∷ ms) =
    pick (counts s g t m) (has s g t m ∷ has_of s g (table_of t (step_of s t m)) ms) (has_of s g (table_of t (step_of s t m)) ms)
