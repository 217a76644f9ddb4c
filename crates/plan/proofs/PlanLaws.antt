-- The laws of the plan: an item is read back from its bytes, what a push makes of the plan, what is pushed to a list.
-- Assumes nothing.
use mathlib.Core.Path.{◌≡◌, refl, sym, ap, ◌∙◌}
use mathlib.Core.Bool.{Bool, true, false}
use mathlib.Core.List.{List, [], ◌∷◌, ◌++◌, map}
use Prim.Native.Nat.{ℕ, zero, suc, ◌+◌, ◌*◌, ◌/◌, ◌%◌, ◌≤◌, ◌<◌, min}
use native.Mathlib.Omega.{arith}
use lib.Dec.{ltb}
use lib.ListN.{length, get_or, set, take, length-map, length-append, get_or-map}
use lib.Seq.{drop-set-lt, get_or-set_same}
use Rattle.std.proofs.lemmas.List.{map-append}
use borrow.Author.Tests.{lt-ltb, le-ltb, ltb-true}
use Rattle.octets.specs.Choice.{pick, one}
use Rattle.octets.specs.Numbers.{u16_at}
use Rattle.octets.specs.Put.{put_at}
use Rattle.octets.specs.Parts.{part, parts}
use Rattle.octets.specs.Search.{count_if}
use Rattle.octets.proofs.PutLaws.{length-put_at}
use Rattle.octets.proofs.PartsLaws.{part_same, parts_before, parts_snoc, parts-length, parts_get, get_or-part}
use Rattle.kinds.specs.declared.Reply.{Reply}
use Rattle.kinds.specs.declared.Reply.TheVariants.{Nack, Identity, Activation, AliveCheck, Status, PowerMode, Message, Ack, DiagnosticNack, Close, HandOn}
use Rattle.kinds.specs.declared.Item.{Item}
use Rattle.plan.specs.Plan.{Said, plan_room, item_size, plan_size, reply_image, item_image, reply_from, item_from, item_at, count_of, items_of, no_item, pushed_to}

-- ---- an item and its bytes

whole : (a : ℕ) → a / 256 * 256 + a % 256 ≡ a
whole a = omega arith

reply_back : (r : Reply) → let s = reply_image r in reply_from (get_or s 0 0) (get_or s 1 0) (u16_at s 2) (u16_at s 4) ≡ r
reply_back (Nack c) = refl
reply_back Identity = refl
reply_back (Activation a e c) = rw (whole a, whole e)
reply_back AliveCheck = refl
reply_back (Status q o) = let z : (o * 256 / 256 * 256 + o * 256 % 256) / 256 ≡ o = omega arith in rw z
reply_back (PowerMode m) = refl
reply_back (Message k t) = rw (whole k, whole t)
reply_back (Ack t s c) = rw (whole t, whole s)
reply_back (DiagnosticNack t s c) = rw (whole t, whole s)
reply_back Close = refl
reply_back HandOn = refl

image-size : (r : Reply) → length (reply_image r) ≡ 6
image-size (Nack c) = refl
image-size Identity = refl
image-size (Activation a e c) = refl
image-size AliveCheck = refl
image-size (Status q o) = refl
image-size (PowerMode m) = refl
image-size (Message k t) = refl
image-size (Ack t s c) = refl
image-size (DiagnosticNack t s c) = refl
image-size Close = refl
image-size HandOn = refl

pub item_back : (it : Item) → item_from (item_image it) ≡ it
unfolding item_from
item_back it = rw (reply_back it.reply)

pub count-items : (p : List ℕ) → length (items_of p) ≡ count_of p
unfolding items_of
count-items p = length-map (parts item_size 1 (count_of p) p) item_from ∙ parts-length item_size 1 (count_of p) p

pub items_few : (p : List ℕ) → length (items_of p) ≤ plan_room
items_few p = omega (arith, count-items p)

-- the items that the plan says are those at the places below its count
pub item_said : (p : List ℕ) (i : ℕ) → i < length (items_of p) → get_or (items_of p) i no_item ≡ item_at p i
unfolding items_of
item_said p i h =
    get_or-map item_from (parts item_size 1 (count_of p) p) i []
    ∙ ap item_from (parts_get item_size 1 (count_of p) i p (omega (arith, h, count-items p)))

at_part : (p : List ℕ) (at k m : ℕ) → k < item_size → m ≡ at + k → get_or (part p at item_size) k 0 ≡ get_or p m 0
at_part p at k m h e = get_or-part p at item_size k h ∙ ap (λ (j : ℕ). get_or p j 0) (sym e)

-- the item at a place, read byte by byte
pub item_read : (p : List ℕ) (i at : ℕ) → at ≡ 1 + i * item_size
    → record {
      row = record { 0 = get_or p at 0 };
      version = get_or p (at + 1) 0;
      reply = reply_from (get_or p (at + 2) 0) (get_or p (at + 3) 0) (u16_at p (at + 4)) (u16_at p (at + 6));
    }
    ≡ item_at p i
unfolding item_from
item_read p i at e =
    let e0 = at_part p at 0 at (omega arith) (omega arith) in
    let e1 = at_part p at 1 (at + 1) (omega arith) refl in
    let e2 = at_part p at 2 (at + 2) (omega arith) refl in
    let e3 = at_part p at 3 (at + 3) (omega arith) refl in
    let e4 = at_part p at 4 (at + 4) (omega arith) refl in
    let e5 = at_part p at 5 (at + 4 + 1) (omega arith) (omega arith) in
    let e6 = at_part p at 6 (at + 6) (omega arith) refl in
    let e7 = at_part p at 7 (at + 6 + 1) (omega arith) (omega arith) in
    rw (← e0, ← e1, ← e2, ← e3, ← e4, ← e5, ← e6, ← e7) (ap (λ (k : ℕ). item_from (part p k item_size)) e)

-- ---- the count

parts-set : (k a n : ℕ) (b : List ℕ) (v : ℕ) → 0 < a → parts k a n (set b 0 v) ≡ parts k a n b
unfolding parts
parts-set k a zero b v h = refl
parts-set k a (suc n) b v h =
    let e : part (set b 0 v) a k ≡ part b a k = ap (take k) (drop-set-lt a b 0 v h) in
    rw (e, parts-set k (a + k) n b v (omega arith))

-- a plan whose count is 0 says nothing
pub none_said : (p : List ℕ) → get_or p 0 0 ≡ 0 → items_of p ≡ []
unfolding items_of parts
none_said p e = ap (λ (n : ℕ). map item_from (parts item_size 1 (min n plan_room) p)) e

-- ---- a push

pub pushed_room : (items : List Item) (it : Item) → length items < plan_room → pushed_to items it ≡ items ++ (it ∷ [])
unfolding pushed_to
pushed_room items it h = rw (lt-ltb (length items) plan_room h)

pub pushed_full : (items : List Item) (it : Item) → plan_room ≤ length items → pushed_to items it ≡ items
unfolding pushed_to
pushed_full items it h = rw (le-ltb (length items) plan_room h)

pub push_full : (p : List ℕ) (it : Item) → plan_room ≤ get_or p 0 0 → items_of p ≡ pushed_to (items_of p) it
push_full p it h = sym (pushed_full (items_of p) it (omega (arith, count-items p)))

module _ (p q r : List ℕ) (it : Item) (w : length p ≡ plan_size) (h : get_or p 0 0 < plan_room)
    (eq : q ≡ put_at p (1 + get_or p 0 0 * item_size) (item_image it)) (er : r ≡ set q 0 (get_or p 0 0 + 1)) where
  size : length (item_image it) ≡ item_size
  size = omega (arith, image-size it.reply)

  fits : 1 + get_or p 0 0 * item_size + length (item_image it) ≤ length p
  fits = omega (arith, w, size)

  long_q : length q ≡ plan_size
  long_q = ap length eq ∙ length-put_at p (1 + get_or p 0 0 * item_size) (item_image it) fits ∙ w

  count : get_or r 0 0 ≡ get_or p 0 0 + 1
  count = ap (λ (l : List ℕ). get_or l 0 0) er ∙ get_or-set_same q 0 (get_or p 0 0 + 1) 0 (omega (arith, long_q))

  last : part r (1 + get_or p 0 0 * item_size) item_size ≡ item_image it
  last =
      ap (λ (l : List ℕ). part l (1 + get_or p 0 0 * item_size) item_size) er
      ∙ ap (take item_size) (drop-set-lt (1 + get_or p 0 0 * item_size) q 0 (get_or p 0 0 + 1) (omega arith))
      ∙ ap (λ (l : List ℕ). part l (1 + get_or p 0 0 * item_size) item_size) eq
      ∙ ap (part (put_at p (1 + get_or p 0 0 * item_size) (item_image it)) (1 + get_or p 0 0 * item_size)) (sym size)
      ∙ part_same p (1 + get_or p 0 0 * item_size) (item_image it) fits

  before : parts item_size 1 (get_or p 0 0) r ≡ parts item_size 1 (get_or p 0 0) p
  before =
      ap (parts item_size 1 (get_or p 0 0)) er
      ∙ parts-set item_size 1 (get_or p 0 0) q (get_or p 0 0 + 1) (omega arith)
      ∙ ap (parts item_size 1 (get_or p 0 0)) eq
      ∙ parts_before p (1 + get_or p 0 0 * item_size) (item_image it) fits item_size 1 (get_or p 0 0) (omega arith)

  pub push_more : items_of r ≡ pushed_to (items_of p) it
  unfolding items_of
  push_more =
      let more : count_of r ≡ suc (get_or p 0 0) = omega (arith, count, h) in
      let same : get_or p 0 0 ≡ count_of p = omega (arith, h) in
      let all : parts item_size 1 (count_of r) r ≡ parts item_size 1 (count_of p) p ++ (item_image it ∷ []) =
      ap (λ (k : ℕ). parts item_size 1 k r) more
      ∙ parts_snoc item_size 1 (get_or p 0 0) r
      ∙ ap (λ t. parts item_size 1 (get_or p 0 0) r ++ (t ∷ [])) last
      ∙ ap (λ t. t ++ (item_image it ∷ [])) before
      ∙ ap (λ (k : ℕ). parts item_size 1 k p ++ (item_image it ∷ [])) same
      in
      ap (map item_from) all
      ∙ map-append item_from (parts item_size 1 (count_of p) p) (item_image it ∷ [])
      ∙ ap (λ t. items_of p ++ (t ∷ [])) (item_back it)
      ∙ sym (pushed_room (items_of p) it (omega (arith, count-items p)))

-- ---- lists that are pushed to

-- what a plan says after a push, where it is known what it said before
pub pushed_more : {p q items : List Item} (it : Item) → length items < plan_room → p ≡ items → q ≡ pushed_to p it → q ≡ items ++ (it ∷ [])
pushed_more {items = items} it h e f = f ∙ ap (λ (l : List Item). pushed_to l it) e ∙ pushed_room items it h

-- the same of the bytes within
pub said_more : {p q : List ℕ} {items : List Item} (it : Item) → length items < plan_room
    → Said p items → Said q (pushed_to (items_of p) it) → Said q (items ++ (it ∷ []))
said_more it h s t = record { is = pushed_more it h s.is t.is; ok = t.ok }

pub length_pushed : (items : List Item) (it : Item) → length items < plan_room → length (pushed_to items it) ≡ length items + 1
length_pushed items it h = ap length (pushed_room items it h) ∙ length-append items (it ∷ [])

pub pushed_few : (items : List Item) (it : Item) → length items ≤ plan_room → length (pushed_to items it) ≤ plan_room
unfolding pushed_to
pushed_few items it h = few (ltb (length items) plan_room) refl
  where
    few : (b : Bool) → ltb (length items) plan_room ≡ b → length (pick b (items ++ (it ∷ [])) items) ≤ plan_room
    few true e = omega (arith, ltb-true (length items) plan_room e, length-append items (it ∷ []))
    few false e = h

count_snoc : (f : Item → Bool) (items : List Item) (it : Item) → count_if f (items ++ (it ∷ [])) ≡ count_if f items + one (f it)
unfolding count_if
count_snoc f [] it = omega arith
count_snoc f (x ∷ items) it = omega (arith, count_snoc f items it)

-- what is counted goes up by one at most, and not at all where the new item isn't counted
pub count_pushed : (f : Item → Bool) (items : List Item) (it : Item) → count_if f (pushed_to items it) ≤ count_if f items + one (f it)
unfolding pushed_to
count_pushed f items it = most (ltb (length items) plan_room)
  where
    most : (b : Bool) → count_if f (pick b (items ++ (it ∷ [])) items) ≤ count_if f items + one (f it)
    most true = omega (arith, count_snoc f items it)
    most false = omega arith

pub count_passed : (f : Item → Bool) (items : List Item) (it : Item) → f it ≡ false → count_if f (pushed_to items it) ≡ count_if f items
unfolding pushed_to
count_passed f items it e = same (ltb (length items) plan_room)
  where
    same : (b : Bool) → count_if f (pick b (items ++ (it ∷ [])) items) ≡ count_if f items
    same true = let z : ◌≡◌ {A = ℕ} (one (f it)) 0 = ap one e in omega (arith, count_snoc f items it)
    same false = refl
