-- What a call has done that moves one farm: in the table, and with the output sheet.
-- Assumes nothing: these are definitions.
use Rattle.std.specs.Prelude.{ℕ, ◌≡◌, List, [], Option}
use Rattle.kinds.specs.declared.Item.{Item}
use Rattle.outsheet.specs.Sheet.{sheet_of}
use Rattle.outsheet.specs.Replies.{entries_of}
use Rattle.outsheet.specs.Contracts.{Wrote}
use Rattle.model.specs.Farm.{Farm, Done}
use Rattle.model.specs.Move.{no_row, Move, refused, gave}
use Rattle.table.specs.Block.{Holds}
use Rattle.closing.specs.Did.{Did}
use Rattle.farm_controller.specs.Message.{message_move}
use Rattle.farm.specs.Connected.{Connected}
use Rattle.lent.specs.declared.Answer.{Answer}
use Rattle.lent.specs.Lent.{block, Only}
use Rattle.lent.specs.Served.{refusal, done}

-- in the table: the farm's block and the plan are what d says, from a plan of the items p on, and no other block is another
pub record DidAt (f : ℕ) (d : Done) (p : List Item) (t : List ℕ) (plan : List Item) (after : List ℕ) : Type 0 where
  pub only : Only f t after
  pub did : Did p (block after f) plan d

-- and the output sheet has d's entries
pub record Moved (f : ℕ) (d : Done) (t out after output : List ℕ) (a : Answer) : Type 0 where
  pub answer : a ≡ done no_row 0 a.length
  pub only : Only f t after
  pub holds : Holds (block after f) d.farm
  pub wrote : Wrote (sheet_of (entries_of [] d.items)) out output a.length

-- in the table: the lowest free row of the farm's own rows, of which there are so many, is fresh
pub record ConnectedAt (f rows : ℕ) (t after : List ℕ) (r : Option ℕ) : Type 0 where
  pub only : Only f t after
  pub connected : Connected rows (block t f) (block after f) r

-- ---- calls that leave the table: the output sheet has these entries, over this long payload

pub record SaidOut (long : List ℕ) (items : List Item) (out output : List ℕ) (a : Answer) : Type 0 where
  pub answer : a ≡ done no_row 0 a.length
  pub wrote : Wrote (sheet_of (entries_of long items)) out output a.length

-- a controller's message is refused, and the output buffer stays, or it is sent
abbrev pub MessageOutBy : Move → List ℕ → List ℕ → List ℕ → Answer → Type 0
MessageOutBy (refused n) user out output a = (a ≡ refusal n) × (output ≡ out)
MessageOutBy (gave g) user out output a = SaidOut user g.items out output a

-- whatever the rooms of the rows hold
pub record MessageOut (s : List ℕ) (f : ℕ) (farm : Farm) (from to : ℕ) (user out output : List ℕ) (a : Answer) : Type 0 where
  pub by : (rooms : List (List ℕ)) → MessageOutBy (message_move s f farm from to user rooms) user out output a
