-- A row as twenty bytes, and the row that such bytes mean. Reading is total: an unknown tag reads as a free row, or as a place within a
-- header. A row that was laid out is read back without a bound on its numbers: the first byte of a number takes all that is left, and a
-- header's count is the last byte of its four alone.
-- Assumes nothing: these are definitions.
use Rattle.std.specs.Prelude.{ℕ, ◌≡◌, List, [], ◌∷◌, ◌++◌, eqb, get_or}
use Rattle.octets.specs.Choice.{pick}
use Rattle.octets.specs.Numbers.{u16_at, u32_at, be16, be32}
use Rattle.octets.specs.Parts.{part}
use Rattle.kinds.specs.Clock.{clock_of}
use Rattle.kinds.specs.declared.RowState.{RowState}
use Rattle.kinds.specs.declared.RowState.TheVariants.{Free, Fresh, Waiting, Active}
use Rattle.kinds.specs.declared.Place.{Place}
use Rattle.kinds.specs.declared.Place.TheVariants.{Header, Reading, Skipping}
use Rattle.kinds.specs.declared.Row.{Row}
use Rattle.rowbytes.specs.RowLayout.{ticks_in, place_in, head_in, head_size}

-- ---- the state: tag, request type, address, ticks

abbrev pub state_bytes : ℕ → ℕ → ℕ → ℕ → List ℕ
state_bytes tag kind address ticks = tag ∷ kind ∷ be16 address ++ be16 ticks

-- "A row is free, fresh with its age, waiting with its request, or active with its tester's address and idle count."
abbrev pub state_image : RowState → List ℕ
state_image Free = state_bytes 0 0 0 0
state_image (Fresh age) = state_bytes 1 0 0 age.ticks
state_image (Waiting q) = state_bytes 2 q.kind q.address 0
state_image (Active address idle) = state_bytes 3 0 address idle.ticks

abbrev pub state_from : ℕ → ℕ → ℕ → ℕ → RowState
state_from tag kind address ticks =
    pick (eqb tag 1) (Fresh (clock_of ticks))
    (pick (eqb tag 2) (Waiting (record { address = address; kind = kind }))
    (pick (eqb tag 3) (Active address (clock_of ticks)) Free))

-- ---- the place in the byte stream: tag, count

abbrev pub place_image : Place → List ℕ
place_image (Header n) = 0 ∷ 0 ∷ 0 ∷ 0 ∷ n ∷ []
place_image (Reading n) = 1 ∷ be32 n
place_image (Skipping n) = 2 ∷ be32 n

-- `low` is the last byte of the count
abbrev pub place_from : ℕ → ℕ → ℕ → Place
place_from tag low count = pick (eqb tag 1) (Reading count) (pick (eqb tag 2) (Skipping count) (Header low))

-- ---- the row; its last byte is spare, for a later request

unfoldable pub row_image : Row → List ℕ
row_image r = state_image r.state ++ (place_image r.place ++ (r.head ++ (0 ∷ [])))

unfoldable pub state_in : List ℕ → RowState
state_in s = state_from (get_or s 0 0) (get_or s 1 0) (u16_at s 2) (u16_at s ticks_in)

unfoldable pub row_from : List ℕ → Row
row_from s = record { state = state_in s; place = place_from (get_or s place_in 0) (get_or s 10 0) (u32_at s 7); head = part s head_in head_size }

-- ---- a row with other ticks, where it has ticks

abbrev pub state_ticked : ℕ → RowState → RowState
state_ticked n Free = Free
state_ticked n (Fresh age) = Fresh (clock_of n)
state_ticked n (Waiting q) = Waiting q
state_ticked n (Active address idle) = Active address (clock_of n)

abbrev pub ticked : ℕ → Row → Row
ticked n r = record { state = state_ticked n r.state; place = r.place; head = r.head }

-- ---- bytes that are laid out as they mean

abbrev pub StateOk : ℕ → ℕ → ℕ → ℕ → Type 0
StateOk tag kind address ticks = state_image (state_from tag kind address ticks) ≡ state_bytes tag kind address ticks

abbrev pub PlaceOk : ℕ → ℕ → ℕ → Type 0
PlaceOk tag low count = place_image (place_from tag low count) ≡ tag ∷ be32 count

abbrev pub RowOk : List ℕ → Type 0
RowOk s = row_image (row_from s) ≡ s

-- what a state does not use is 0
pub record Unused (kind address ticks : ℕ) : Type 0 where
  pub no_kind : kind ≡ 0
  pub no_address : address ≡ 0
  pub no_ticks : ticks ≡ 0
