-- What a message from a controller has done: a refusal's number, or an entry.
-- Assumes nothing: these are definitions.
use Rattle.std.specs.Prelude.{ℕ, ◌≡◌, Bool, List, leb}
use Rattle.octets.specs.Choice.{both}
use Rattle.kinds.specs.declared.Item.{Item}
use Rattle.model.specs.FarmSheet.{farm_sheet}
use Rattle.model.specs.Farm.{Farm}
use Rattle.model.specs.Move.{Move, refused, gave, most_user, controller_move}
use Rattle.model.specs.Table.{items_by}
use Rattle.closing.specs.Did.{pushed_all}

-- "0 or over 2,044 bytes of user data" is refused
abbrev pub size_fits : ℕ → Bool
size_fits n = both (leb 1 n) (leb n most_user)

-- the number of a refusal; "Answer 0 is done"
abbrev pub number_by : Move → ℕ
number_by (refused n) = n
number_by (gave g) = 0

-- whatever the rooms of the rows hold: a message looks at none
abbrev pub message_move : List ℕ → ℕ → Farm → ℕ → ℕ → List ℕ → List (List ℕ) → Move
message_move s f farm from to user rooms = controller_move (farm_sheet s f) (record { farm = farm; rooms = rooms }) from to user

-- from a plan of the items p on, the plan after and the answer are what the move says
pub record Messaged (s : List ℕ) (f : ℕ) (farm : Farm) (p after : List Item) (from to : ℕ) (user : List ℕ) (r : ℕ) : Type 0 where
  pub number : (rooms : List (List ℕ)) → r ≡ number_by (message_move s f farm from to user rooms)
  pub said : (rooms : List (List ℕ)) → after ≡ pushed_all p (items_by (message_move s f farm from to user rooms))
