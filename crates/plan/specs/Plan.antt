-- The plan of a call's entries in bytes: a count, then room for so many items. Its meaning is a list of items, whatever the bytes are.
-- Assumes nothing: these are definitions.
use Rattle.std.specs.Prelude.{◌≡◌, List, [], ◌∷◌, ◌++◌, map, ℕ, ◌+◌, ◌*◌, ◌/◌, min, eqb, ltb, length, get_or}
use Rattle.octets.specs.Choice.{pick}
use Rattle.octets.specs.Numbers.{u16_at, be16}
use Rattle.octets.specs.Parts.{part, parts}
use Rattle.kinds.specs.declared.Reply.{Reply}
use Rattle.kinds.specs.declared.Reply.TheVariants.{Nack, Identity, Activation, AliveCheck, Status, PowerMode, Message, Ack, DiagnosticNack, Close, HandOn}
use Rattle.kinds.specs.declared.Item.{Item}

-- how many items a plan has room for, and the bytes of one
abbrev pub plan_room : ℕ
plan_room = 72

abbrev pub item_size : ℕ
item_size = 8

-- the bytes of a plan: its count is one byte
abbrev pub plan_size : ℕ
plan_size = 1 + plan_room * item_size

-- a reply in six bytes: its tag, a code, two numbers
abbrev pub tagged : ℕ → ℕ → ℕ → ℕ → List ℕ
tagged tag code a b = tag ∷ code ∷ be16 a ++ be16 b

-- a status has two bytes to keep: the second stands in the upper byte of the first number
abbrev pub reply_image : Reply → List ℕ
reply_image (Nack c) = tagged 0 c 0 0
reply_image Identity = tagged 1 0 0 0
reply_image (Activation a e c) = tagged 2 c a e
reply_image AliveCheck = tagged 3 0 0 0
reply_image (Status q o) = tagged 4 q (o * 256) 0
reply_image (PowerMode m) = tagged 5 m 0 0
reply_image (Message k t) = tagged 6 0 k t
reply_image (Ack t s c) = tagged 7 c t s
reply_image (DiagnosticNack t s c) = tagged 8 c t s
reply_image Close = tagged 9 0 0 0
reply_image HandOn = tagged 10 0 0 0

-- row, version, reply
abbrev pub item_image : Item → List ℕ
item_image it = it.row.0 ∷ it.version ∷ reply_image it.reply

-- a tag that no reply has reads as a close
abbrev pub reply_from : ℕ → ℕ → ℕ → ℕ → Reply
reply_from tag code a b =
    pick (eqb tag 0) (Nack code)
    (pick (eqb tag 1) Identity
    (pick (eqb tag 2) (Activation a b code)
    (pick (eqb tag 3) AliveCheck
    (pick (eqb tag 4) (Status code (a / 256))
    (pick (eqb tag 5) (PowerMode code)
    (pick (eqb tag 6) (Message a b)
    (pick (eqb tag 7) (Ack a b code)
    (pick (eqb tag 8) (DiagnosticNack a b code)
    (pick (eqb tag 10) HandOn Close)))))))))

unfoldable pub item_from : List ℕ → Item
item_from s =
    record {
      row = record { 0 = get_or s 0 0 };
      version = get_or s 1 0;
      reply = reply_from (get_or s 2 0) (get_or s 3 0) (u16_at s 4) (u16_at s 6);
    }

-- the item at a place, be it below the count or not
abbrev pub item_at : List ℕ → ℕ → Item
item_at p i = item_from (part p (1 + i * item_size) item_size)

-- a count past the room says no more than the room
abbrev pub count_of : List ℕ → ℕ
count_of p = min (get_or p 0 0) plan_room

unfoldable pub items_of : List ℕ → List Item
items_of p = map item_from (parts item_size 1 (count_of p) p)

-- what stands past the last item
abbrev pub no_item : Item
no_item = item_from []

-- of the bytes within: they are as many as a plan has
pub record PlanOk (p : List ℕ) : Type 0 where
  pub long : length p ≡ plan_size

-- and say these items
pub record Said (p : List ℕ) (items : List Item) : Type 0 where
  pub is : items_of p ≡ items
  pub ok : PlanOk p

-- one more, or as they are where the plan is full
unfoldable pub pushed_to : List Item → Item → List Item
pushed_to items it = pick (ltb (length items) plan_room) (items ++ (it ∷ [])) items
