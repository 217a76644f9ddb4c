-- What the lent memory means: four blocks and a room for each row are the model's table.
-- Assumes nothing: these are definitions.
use Rattle.std.specs.Prelude.{ℕ, zero, suc, ◌*◌, ◌≡◌, Bool, List, [], ◌∷◌, map, length}
use Rattle.octets.specs.Choice.{unless}
use Rattle.octets.specs.Parts.{part, parts, joined}
use Rattle.octets.specs.Put.{put_at}
use Rattle.sheet.specs.Sheet.{most_farms}
use Rattle.sheet.specs.Test.{every_below}
use Rattle.wire.specs.Header.{most_payload}
use Rattle.model.specs.FarmSheet.{FarmSheet, slot_sheet}
use Rattle.model.specs.Move.{Held}
use Rattle.model.specs.Table.{Table, Call, Lent, Outcome, refuses, if_lent, step, start_step}
use Rattle.table.specs.Layout.{block_size}
use Rattle.table.specs.Block.{farm_of, image, whole_block}

-- ---- the lent table: a block for each farm that a sheet can have

abbrev pub block : List ℕ → ℕ → List ℕ
block t f = part t (f * block_size) block_size

-- only the block of farm f is another
pub record Only (f : ℕ) (t after : List ℕ) : Type 0 where
  pub long : length (block after f) ≡ block_size
  pub put : after ≡ put_at t (f * block_size) (block after f)

-- bytes that are those of no table: an unknown tag, a mark that is neither 0 nor 1, something where nothing is (DECISIONS, A6 and D5)
unfoldable pub whole_table : List ℕ → Bool
whole_table t = every_below (λ f. whole_block (block t f)) most_farms

-- ---- the assembling buffer: "2,048 for each of 16 rows"

abbrev pub room_size : ℕ
room_size = most_payload

-- a farm's rooms, by seat
abbrev pub rooms_of : FarmSheet → List ℕ → List (List ℕ)
rooms_of own m = parts room_size (own.first * room_size) own.rows m

-- ---- the model's table

unfoldable pub held_at : List ℕ → List ℕ → List ℕ → ℕ → Held
held_at s t m f = record { farm = farm_of (block t f); rooms = rooms_of (slot_sheet s f) m }

-- n slots, from slot f on
abbrev pub slots_from : (ℕ → Held) → ℕ → ℕ → Table
slots_from held f zero = []
slots_from held f (suc n) = held f ∷ slots_from held (suc f) n

-- the table that the lent bytes t and the assembling buffer m mean under the sheet s
unfoldable pub lent_table : List ℕ → List ℕ → List ℕ → Table
lent_table s t m = slots_from (held_at s t m) 0 most_farms

-- the bytes of a table, and of all its rooms, in the order of the rows
unfoldable pub table_bytes : Table → List ℕ
table_bytes t = joined (map (λ h. image h.farm) t)

unfoldable pub room_bytes : Table → List ℕ
room_bytes t = joined (map (λ h. joined h.rooms) t)

-- ---- a call on lent memory

-- what is lent, as far as the rules look at its length
abbrev pub lent_of : List ℕ → List ℕ → Lent
lent_of out m = record { output = length out; assembling = length m }

-- "4 | the table breaks a rule above": bytes that are those of no table break the rules too
unfoldable pub lent_step : (s t out m : List ℕ) → Call → Outcome
lent_step s t out m c = if_lent s (lent_of out m) (unless (whole_table t) (refuses 4) (step s (lent_of out m) (lent_table s t m) c))

unfoldable pub lent_start : (s t out m : List ℕ) → Outcome
lent_start s t out m = start_step s (lent_of out m) (lent_table s t m)
