-- A plan's sheet has room, shown from counts alone; and the identity of a farm.
-- Assumes nothing.
use mathlib.Core.Path.{◌≡◌}
use mathlib.Core.Bool.{Bool, true, false}
use mathlib.Core.List.{List, [], ◌∷◌}
use Prim.Native.Nat.{ℕ, ◌+◌, ◌*◌, ◌≤◌}
use native.Mathlib.Omega.{arith}
use lib.Dec.{eqb}
use lib.ListN.{length, length-append, length-map}
use borrow.Author.Tests.{eq-eqb}
use Rattle.octets.specs.Choice.{pick, one}
use Rattle.octets.specs.Search.{count_if}
use Rattle.layout.specs.FarmRecord.{farm_record_size}
use Rattle.layout.specs.Layout.{identity_bytes}
use Rattle.layout.proofs.MessageLaws.{length-message}
use Rattle.layout.proofs.IdentityLaws.{identity_short}
use Rattle.kinds.specs.declared.Reply.{Reply}
use Rattle.kinds.specs.declared.Reply.TheVariants.{Nack, Identity, Activation, AliveCheck, Status, PowerMode, Message, Ack, DiagnosticNack, Close, HandOn}
use Rattle.kinds.specs.declared.Item.{Item}
use Rattle.outsheet.specs.Sheet.{entry_bytes, bodies, total_of}
use Rattle.outsheet.specs.Replies.{identity_of, reply_bytes, entry_of, entries_of, is_long, is_long_item}
use Rattle.plan.specs.Plan.{plan_room}
use Rattle.outsheet.specs.Contracts.{least_output, longest, Room}
use Rattle.outsheet.proofs.SheetLaws.{length-entry}

-- of a lent record, the identity is sent
pub identity_sent : (v : ℕ) (farm : List ℕ) → length farm ≡ farm_record_size → identity_of v farm ≡ identity_bytes v farm
identity_sent v farm e = rw (eq-eqb (length farm) farm_record_size e)

identity_most : (v : ℕ) (farm : List ℕ) (b : Bool) → length (pick b (identity_bytes v farm) []) ≤ 40
identity_most v farm true = identity_short v farm
identity_most v farm false = omega arith

-- a short reply has 17 bytes at most, a long one 2,043 more
reply_most : (v : ℕ) (long : List ℕ) → length long ≤ longest → (r : Reply) → length (reply_bytes v long r) ≤ 17 + one (is_long r) * 2043
reply_most v long h (Nack c) = omega arith
reply_most v long h Identity = omega (arith, identity_most v long (eqb (length long) farm_record_size))
reply_most v long h (Activation a e c) = omega arith
reply_most v long h AliveCheck = omega arith
reply_most v long h (Status q o) = omega arith
reply_most v long h (PowerMode m) = omega arith
reply_most v long h (Message k t) = omega (arith, length-message v k t long)
reply_most v long h (Ack t s c) = omega arith
reply_most v long h (DiagnosticNack t s c) = omega arith
reply_most v long h Close = omega arith
reply_most v long h HandOn = omega arith

bodies_most : (long : List ℕ) → length long ≤ longest → (items : List Item)
    → length (bodies (entries_of long items)) ≤ 21 * length items + count_if is_long_item items * 2043
unfolding bodies count_if
bodies_most long h [] = omega arith
bodies_most long h (it ∷ items) =
    let e = entry_of long it in
    let a = length-append (entry_bytes e) (bodies (entries_of long items)) in
    omega (arith, a, length-entry e, reply_most it.version long h it.reply, bodies_most long h items)

-- at most so many items, at most one of them long
pub total_most : (long : List ℕ) (items : List Item) → length items ≤ plan_room → count_if is_long_item items ≤ 1 → length long ≤ longest
    → total_of (entries_of long items) ≤ least_output
total_most long items few one h = omega (arith, length-map items (entry_of long), bodies_most long h items)

-- so that a call shows only its counts
pub room_for : (items : List Item) (long : List ℕ) (n : ℕ) → length items ≤ plan_room → count_if is_long_item items ≤ 1 → length long ≤ longest → least_output ≤ n
    → Room items long n
room_for items long n few one h wide = record { short = total_most long items few one h; wide = wide }
