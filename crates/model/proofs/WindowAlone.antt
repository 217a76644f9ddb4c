-- A farm alone: what it does and has of the calls that it sees.
-- Assumes nothing: these are definitions.
use Prim.Native.Nat.{ℕ}
use mathlib.Core.List.{List, [], ◌∷◌}
use mathlib.Core.Option.{Option, none, some}
use lib.Dec.{eqb, leb}
use Rattle.octets.specs.Choice.{unless}
use Rattle.model.specs.FarmSheet.{FarmSheet, slot_sheet}
use Rattle.model.specs.Move.{Held, Move, refused, gave, no_row, move, tick_move}
use Rattle.model.specs.Table.{Lent, least_output, assembling_size, Whose, nobodys, farms, everyones, whose, held_by}
use Rattle.model.specs.History.{Made, Has}

-- what is lent is looked at before the farm is
abbrev pub if_room : {A : Type 0} → Lent → (ℕ → A) → A → A
if_room l away a = unless (leb least_output l.output) (away 2) (unless (eqb l.assembling assembling_size) (away 3) a)

-- what a farm does of a call, by whose call it is
abbrev pub alone_by : FarmSheet → Held → Lent → Whose → Move
alone_by own h l (nobodys n) = refused n
alone_by own h l (farms f c) = if_room l refused (move own h c)
alone_by own h l everyones = tick_move own h

-- and of a call that it sees: its own, or an accepted tick
abbrev pub alone_move : List ℕ → ℕ → Held → Option Made → Move
alone_move s g h (some m) = alone_by (slot_sheet s g) h m.lent (whose s m.call)
alone_move s g h none = tick_move (slot_sheet s g) h

-- what it has of its own move
abbrev pub has_by : Held → Move → Has
has_by h (refused n) = record { number = n; row = no_row; took = 0; replies = []; long = []; meters = h.farm.meters }
has_by h (gave x) =
    record { number = 0; row = x.row; took = x.took; replies = x.items; long = x.long; meters = x.held.farm.meters }

-- what it has, and what it holds at the end, of the calls that it sees
unfoldable pub alone : List ℕ → ℕ → Held → List (Option Made) → List Has
alone s g h [] = []
alone s g h (c ∷ cs) = has_by h (alone_move s g h c) ∷ alone s g (held_by h (alone_move s g h c)) cs

unfoldable pub held_after : List ℕ → ℕ → Held → List (Option Made) → Held
held_after s g h [] = h
held_after s g h (c ∷ cs) = held_after s g (held_by h (alone_move s g h c)) cs
