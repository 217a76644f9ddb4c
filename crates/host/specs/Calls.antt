-- A history as a host makes it with the core's own calls. "In a history each call gets the table and assembling buffer that the call before
-- it left."
-- Assumes nothing: these are definitions.
use Rattle.std.specs.Prelude.{ℕ, ◌+◌, ◌≡◌, Bool, false, List, [], ◌∷◌, map, ◌⊎◌, eqb}
use Rattle.octets.specs.Choice.{both, either, one}
use Rattle.model.specs.Move.{Held}
use Rattle.model.specs.Table.{Call}
use Rattle.model.specs.History.{Made}
use Rattle.model.specs.Words.{is_tick, is_loss}
use Rattle.lent.specs.declared.Answer.{Answer}
use Rattle.lent.specs.Lent.{lent_of, lent_table}
use Rattle.lent.specs.Served.{Memory, memory, CallServed, StartServed}
use Rattle.host.specs.Wrote.{Responds}

-- the call, as the rules see it
abbrev pub made : List ℕ → List ℕ → Call → Made
made out m c = record { lent = lent_of out m; call = c }

-- A HISTORY OF CALLS: from the table t and the assembling buffer m to the table u and the buffer n, under one sheet. The output buffer may
-- be another for each call
pub data Calls (s : List ℕ) : List ℕ → List ℕ → List Made → List ℕ → List ℕ → Type 0 where
  none : (t m : List ℕ) → Calls s t m [] t m
  more : (t m out : List ℕ) (c : Call) (a : Answer) (after : Memory) (ms : List Made) (u n : List ℕ) → CallServed s c a (memory t out m) after
      → Calls s after.table after.assembling ms u n → Calls s t m (made out m c ∷ ms) u n

-- an accepted start left this table, and this assembling buffer
pub record Began (s t m : List ℕ) : Type 0 where
  pub lent : Memory
  pub output : List ℕ
  pub answer : Answer
  pub served : StartServed s answer lent (memory t output m)
  pub accepted : answer.number ≡ 0

-- all rooms of a lent assembling buffer, slot by slot
abbrev pub rooms_in : List ℕ → List ℕ → List ℕ → List (List (List ℕ))
rooms_in s t m = map (λ (h : Held). h.rooms) (lent_table s t m)

-- "the accepted clock tick": how many ticks of the history answered 0
unfoldable pub ticks_of : {s t m : List ℕ} {ms : List Made} {u n : List ℕ} → Calls s t m ms u n → ℕ
ticks_of (none t m) = 0
ticks_of (more t m out c a after ms u n x rest) = one (both (is_tick c) (eqb a.number 0)) + ticks_of rest

-- "unless its own connection or its farm's link is lost first": a call of the history that says so answered 0
unfoldable pub lost_of : (row farm : ℕ) {s t m : List ℕ} {ms : List Made} {u n : List ℕ} → Calls s t m ms u n → Bool
lost_of row farm (none t m) = false
lost_of row farm (more t m out c a after ms u n x rest) = either (both (is_loss row farm c) (eqb a.number 0)) (lost_of row farm rest)

-- some call of the history sends this row a response 0006 for this address, with the code that the rules give in that call
unfoldable pub RespondsIn : (s : List ℕ) (row address : ℕ) {t m : List ℕ} {ms : List Made} {u n : List ℕ} → Calls s t m ms u n → Type 0
RespondsIn s row address (none t m) = ⊥
RespondsIn s row address (more t m out c a after ms u n x rest) = Responds s c row address a (memory t out m) after ⊎ RespondsIn s row address rest
