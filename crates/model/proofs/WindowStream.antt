-- What stands in a room before a message is read never matters: two streams that differ only in what stands in the room beyond the bytes stored of the
-- message in hand take the same bytes, end with the same event and store the same payload.
-- Assumes nothing.
use Rattle.std.proofs.Common.{Result, Ok, Err}
use Prim.Native.Nat.{ℕ, zero, suc, ◌+◌, ◌≤◌}
use mathlib.Core.Path.{◌≡◌, refl, sym, ap, ◌∙◌}
use mathlib.Core.Bool.{Bool, true, false}
use mathlib.Core.List.{List, [], ◌∷◌}
use native.Mathlib.Numerals.{add-one}
use native.Mathlib.Omega.{arith}
use lib.Dec.{eqb, ltb}
use lib.ListN.{length, set, take, length-set}
use lib.Seq.{take-take}
use borrow.Author.Tests.{ltb-false}
use Rattle.octets.specs.Choice.{pick, either}
use Rattle.kinds.specs.declared.Fault.{Fault}
use Rattle.kinds.specs.declared.Place.{Place}
use Rattle.kinds.specs.declared.Place.TheVariants.{Header, Reading, Skipping}
use Rattle.wire.specs.Header.{header_size, header_at, verdict_of, closes}
use Rattle.payload.specs.Payload.{request_in, address_in, ends_in}
use Rattle.model.specs.FarmSheet.{FarmSheet}
use Rattle.model.specs.Row.{no_head, boundary}
use Rattle.model.specs.Stream.{stream_of, Event, input_ended, wrong, finished, skipped, Fed, more, ends, is_stored, after_wrong, judged, feed_at, feed, Taken, taken, one_more, takes_by, takes}
use Rattle.model.specs.Farm.{Farm, quietly}
use Rattle.model.specs.Line.{marked}
use Rattle.model.specs.Bytes.{requested, diagnosed, event_done, payload_by}

-- ---- rooms that agree

-- as long as each other, and with the same first n bytes
pub record Agree (n : ℕ) (m k : List ℕ) : Type 0 where
  pub size : length m ≡ length k
  pub first : take n m ≡ take n k

-- how many bytes of the message in hand stand in the room
abbrev pub stored_at : Place → List ℕ → ℕ
stored_at (Header n) head = 0
stored_at (Reading n) head = pick (is_stored (header_at head 0).kind) n 0
stored_at (Skipping n) head = 0

pub agree_none : {m k : List ℕ} → length m ≡ length k → Agree 0 m k
agree_none e = record { size = e; first = refl }

pub agree_start : (b : Bool) {m k : List ℕ} → length m ≡ length k → Agree (pick b 0 0) m k
agree_start true e = agree_none e
agree_start false e = agree_none e

take-set : (n byte : ℕ) (m k : List ℕ) → length m ≡ length k → take n m ≡ take n k → take (suc n) (set m n byte) ≡ take (suc n) (set k n byte)
take-set n byte [] [] e h = refl
take-set n byte [] (y ∷ k) e h = absurd (omega arith)
take-set n byte (x ∷ m) [] e h = absurd (omega arith)
take-set zero byte (x ∷ m) (y ∷ k) e h = refl
take-set (suc n) byte (x ∷ m) (y ∷ k) e h =
    let a : x ≡ y = cc in
    let b : take n m ≡ take n k = cc in
    let c = take-set n byte m k (omega arith) b in cc

-- one more byte is stored at its place
agree_set : (n byte : ℕ) {m k : List ℕ} → Agree n m k → Agree (n + 1) (set m n byte) (set k n byte)
agree_set n byte {m} {k} a =
    record {
      size = length-set m n byte ∙ a.size ∙ sym (length-set k n byte);
      first = rw (add-one n) (take-set n byte m k a.size a.first);
    }

agree_stored : (b : Bool) (n byte : ℕ) {m k : List ℕ} → Agree (pick b n 0) m k
    → Agree (pick b (n + 1) 0) (pick b (set m n byte) m) (pick b (set k n byte) k)
agree_stored true n byte a = agree_set n byte a
agree_stored false n byte a = a

-- what is stored of a whole message is its payload
agree_payload : (b : Bool) (n size : ℕ) {m k : List ℕ} → size ≤ n → Agree (pick b n 0) m k → pick b (take size m) [] ≡ pick b (take size k) []
agree_payload true n size {m} {k} h a = sym (take-take size n m h) ∙ ap (take size) a.first ∙ take-take size n k h
agree_payload false n size h a = refl

-- ---- one byte

-- the same test picks on both sides
pick-both : {A : Type 0} (Q : A → A → Type 0) (b : Bool) {x y z w : A} → (b ≡ true → Q x z) → (b ≡ false → Q y w) → Q (pick b x y) (pick b z w)
pick-both Q true f g = f refl
pick-both Q false f g = g refl

module _ (Q : Fed → Fed → Type 0)
    (on : (p : Place) (head m k : List ℕ) → Agree (stored_at p head) m k → Q (more (stream_of p head m)) (more (stream_of p head k)))
    (stop : (e : Event) (p : Place) (head m k : List ℕ) → Agree (stored_at p head) m k → payload_by e m ≡ payload_by e k
    → Q (ends e (stream_of p head m)) (ends e (stream_of p head k))) where
  wrong_alike : (fault : Fault) (head m k : List ℕ) → length m ≡ length k
      → Q (ends (wrong fault) (after_wrong fault head m)) (ends (wrong fault) (after_wrong fault head k))
  wrong_alike fault head m k e =
      pick-both (λ x y. Q (ends (wrong fault) x) (ends (wrong fault) y)) (closes fault)
      (λ _. stop (wrong fault) boundary no_head m k (agree_none e) refl)
      (λ _.
      pick-both (λ x y. Q (ends (wrong fault) x) (ends (wrong fault) y)) (eqb (header_at head 0).length 0)
      (λ _. stop (wrong fault) boundary no_head m k (agree_none e) refl)
      (λ _. stop (wrong fault) (Skipping 0) head m k (agree_none e) refl))

  judged_alike : (v : Result Unit Fault) (head m k : List ℕ) → length m ≡ length k → Q (judged v head m) (judged v head k)
  judged_alike (Ok tt) head m k e = on (Reading 0) head m k (agree_start (is_stored (header_at head 0).kind) e)
  judged_alike (Err fault) head m k e = wrong_alike fault head m k e

  feed_alike : (p : Place) (head m k : List ℕ) (byte : ℕ) → Agree (stored_at p head) m k → Q (feed_at p head m byte) (feed_at p head k byte)
  feed_alike (Header n) head m k byte a =
      pick-both Q (ltb (n + 1) header_size) (λ _. on (Header (n + 1)) (set head n byte) m k (agree_none a.size))
      (λ _. judged_alike (verdict_of (header_at (set head n byte) 0)) (set head n byte) m k a.size)
  feed_alike (Reading n) head m k byte a =
      let b : Bool = is_stored (header_at head 0).kind in
      let c = agree_stored (is_stored (header_at head 0).kind) n byte a in
      pick-both Q (ltb (n + 1) (header_at head 0).length)
      (λ _. on (Reading (n + 1)) head (pick b (set m n byte) m) (pick b (set k n byte) k) c)
      (λ e.
      stop (finished (header_at head 0).kind (header_at head 0).length) boundary no_head (pick b (set m n byte) m) (pick b (set k n byte) k)
      (agree_none c.size)
      (agree_payload (is_stored (header_at head 0).kind) (n + 1) (header_at head 0).length (ltb-false (n + 1) (header_at head 0).length e) c))
  feed_alike (Skipping n) head m k byte a =
      pick-both Q (ltb (n + 1) (header_at head 0).length) (λ _. on (Skipping (n + 1)) head m k (agree_none a.size))
      (λ _. stop (skipped (header_at head 0).length) boundary no_head m k (agree_none a.size) refl)

-- ---- the bytes of a call

-- whatever holds of two calls that took as many bytes, ended alike and are at the same place, in rooms that agree so far, holds here
pub takes_alike : (input : List ℕ) (P : Taken → Taken → Type 0)
    → ((n : ℕ) (e : Event) (p : Place) (head m k : List ℕ) → Agree (stored_at p head) m k → payload_by e m ≡ payload_by e k
    → P (taken n e (stream_of p head m)) (taken n e (stream_of p head k)))
    → (p : Place) (head m k : List ℕ) → Agree (stored_at p head) m k → P (takes (stream_of p head m) input) (takes (stream_of p head k) input)
unfolding takes feed
takes_alike [] P holds p head m k a = holds 0 input_ended p head m k a refl
takes_alike (byte ∷ bytes) P holds p head m k a =
    feed_alike (λ x y. P (takes_by x (λ t. takes t bytes)) (takes_by y (λ t. takes t bytes)))
    (λ p' head' m' k' a'. takes_alike bytes (λ t u. P (one_more t) (one_more u)) (λ n. holds (suc n)) p' head' m' k' a')
    (λ e. holds 1 e)
    p head m k byte a

-- ---- what ended a call brings about the same

-- only a message that is stored is looked at
messaged_same : (own : FarmSheet) (seat : ℕ) (f : Farm) (a b c : Bool) (x y : List ℕ)
    → pick (either a (either b c)) x [] ≡ pick (either a (either b c)) y []
    → pick a (requested own seat (request_in x) f)
    (pick b (quietly (marked own seat (address_in x) f)) (pick c (diagnosed own seat (ends_in x) f) (quietly f))) ≡
    pick a (requested own seat (request_in y) f)
    (pick b (quietly (marked own seat (address_in y) f)) (pick c (diagnosed own seat (ends_in y) f) (quietly f)))
messaged_same own seat f true b c x y e = ap (λ (z : List ℕ). requested own seat (request_in z) f) e
messaged_same own seat f false true c x y e = ap (λ (z : List ℕ). quietly (marked own seat (address_in z) f)) e
messaged_same own seat f false false true x y e = ap (λ (z : List ℕ). diagnosed own seat (ends_in z) f) e
messaged_same own seat f false false false x y e = refl

pub event_same : (own : FarmSheet) (seat : ℕ) (e : Event) (m k : List ℕ) (f : Farm) → payload_by e m ≡ payload_by e k
    → event_done own seat e m f ≡ event_done own seat e k f
unfolding event_done
event_same own seat input_ended m k f h = refl
event_same own seat (wrong fault) m k f h = refl
event_same own seat (finished kind size) m k f h =
    messaged_same own seat f (eqb kind 0x0005) (eqb kind 0x0008) (eqb kind 0x8001) (take size m) (take size k) h
event_same own seat (skipped size) m k f h = refl
