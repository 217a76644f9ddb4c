-- What a bytes call finishes, said by the bytes themselves: those of the message in hand, then those that come.
-- Assumes nothing.
use Rattle.std.proofs.Common.{Result, Ok, Err}
use Prim.Native.Nat.{ℕ, suc, ◌+◌, ◌≤◌, ◌<◌}
use mathlib.Core.Path.{◌≡◌, refl, sym, ap, ◌∙◌}
use mathlib.Core.Bool.{true, false}
use mathlib.Core.Logic.{◌⊎◌, inl, inr}
use mathlib.Core.List.{List, [], ◌∷◌, ◌++◌, append_assoc}
use native.Mathlib.Numerals.{add-one}
use native.Mathlib.Omega.{arith}
use lib.Dec.{leb, ltb}
use lib.ListN.{length, get_or, take, drop, set, length-append, length-set, get_or-append}
use lib.Seq.{take_all, take-suc-set, length-take-le, take_at, drop_at}
use borrow.Author.Tests.{ltb-true, ltb-false, leb-true, leb-false, lt-ltb, le-ltb}
use Rattle.octets.specs.Choice.{pick, both}
use Rattle.kinds.specs.declared.Fault.{Fault}
use Rattle.kinds.specs.declared.Fault.TheVariants.{UnknownType, TooLong}
use Rattle.kinds.specs.declared.Place.{Place}
use Rattle.kinds.specs.declared.Place.TheVariants.{Header, Reading, Skipping}
use Rattle.wire.specs.declared.header.Header.{Header as Head}
use Rattle.wire.proofs.HeaderLaws.{passes-all}
use Rattle.wire.specs.Header.{header_size, header_at, most_payload, verdict_of, passed}
use Rattle.model.specs.Stream.{Stream, stream_of, Event, input_ended, finished, stored_in, is_stored, judged, feed, Taken, takes_by, takes}
use Rattle.model.specs.Rule.{PossibleAt}
use Rattle.model.specs.HandsOn.{in_hand_bytes, WholeOf, payload_of}
use Rattle.model.proofs.SoundStream.{passes-some}
use Rattle.model.proofs.Cases.{split}

-- the call finishes a message of this type exactly where one is whole, and then the payload stands at the front of the row's room
pub record Ends (k : ℕ) (m : List ℕ) (e : Event) (s : Stream) : Type 0 where
  pub finishes : WholeOf k m → e ≡ finished k (header_at m 0).length
  pub stores : WholeOf k m → take (header_at m 0).length s.room ≡ payload_of m
  pub only : (size : ℕ) → e ≡ finished k size → WholeOf k m

-- ---- a header that passes announces at least one byte

-- ---- one byte further

-- the bytes in hand and those to come are the same bytes when one is stored
moved_on : (l : List ℕ) (n byte : ℕ) (bytes : List ℕ) → n < length l → take (n + 1) (set l n byte) ++ bytes ≡ take n l ++ byte ∷ bytes
moved_on l n byte bytes h = rw (add-one, take-suc-set, append_assoc) refl

-- the last byte of a run, and what lies behind it
last_stored : (l : List ℕ) (n m byte : ℕ) (bytes : List ℕ) → n < length l → m ≡ n + 1 → take m (set l n byte) ≡ take m (take n l ++ byte ∷ bytes)
last_stored l n m byte bytes h e =
    rw (e, ← moved_on l n byte bytes h)
    (sym (take_at (take (n + 1) (set l n byte)) bytes (n + 1) (length-take-le (n + 1) (set l n byte) (omega (arith, length-set l n byte)))))

-- ---- reading a payload

module _ (head : List ℕ) where
  -- the call ends with the input, or with the message
  pub read_event : (n : ℕ) (room input : List ℕ) → n < (header_at head 0).length
      → (takes (stream_of (Reading n) head room) input).event
      ≡ pick (ltb (n + length input) (header_at head 0).length) input_ended (finished (header_at head 0).kind (header_at head 0).length)
  unfolding takes feed
  read_event n room [] h = rw (lt-ltb (n + 0) (header_at head 0).length (omega arith)) refl
  read_event n room (byte ∷ bytes) h =
      split (ltb (n + 1) (header_at head 0).length)
      (λ e.
      let q : n + suc (length bytes) ≡ n + 1 + length bytes = omega arith in
      rw (e, q) (read_event (n + 1) (stored_in (header_at head 0).kind room n byte) bytes (ltb-true _ _ e)))
      (λ e. rw (e, le-ltb (n + suc (length bytes)) (header_at head 0).length (omega (arith, ltb-false))) refl)

  -- where it ends with the message, the room holds the part that was in hand and the input's bytes behind it
  pub read_stores : (n : ℕ) (room input : List ℕ) → is_stored (header_at head 0).kind ≡ true → n < (header_at head 0).length
      → (header_at head 0).length ≤ length room → (header_at head 0).length ≤ n + length input
      → take (header_at head 0).length (takes (stream_of (Reading n) head room) input).stream.room
      ≡ take (header_at head 0).length (take n room ++ input)
  unfolding takes feed
  read_stores n room [] k h r w = absurd (omega arith)
  read_stores n room (byte ∷ bytes) k h r w =
      split (ltb (n + 1) (header_at head 0).length)
      (λ e.
      rw (e, k)
      (read_stores (n + 1) (set room n byte) bytes k (ltb-true _ _ e) (omega (arith, length-set room n byte)) (omega arith)
      ∙ ap (take (header_at head 0).length) (moved_on room n byte bytes (omega arith))))
      (λ e. rw (e, k) (last_stored room n (header_at head 0).length byte bytes (omega arith) (omega (arith, ltb-false))))

-- a payload that is skipped finishes no message
pub skip_event : (n : ℕ) (head room input : List ℕ) (kind size : ℕ) → (takes (stream_of (Skipping n) head room) input).event ≡ finished kind size → ⊥
unfolding takes feed
skip_event n head room [] kind size = λ e. let z : ◌≡◌ {A = ℕ} 0 1 = cc in omega arith
skip_event n head room (byte ∷ bytes) kind size =
    split (ltb (n + 1) (header_at head 0).length) (λ t. rw t (λ e. skip_event (n + 1) head room bytes kind size e))
    (λ t. rw t (λ e. let z : ◌≡◌ {A = ℕ} 0 1 = cc in omega arith))

-- ---- the header's bytes

-- with fewer than eight in, the input ends the call
pub header_short : (n : ℕ) (head room input : List ℕ) → n + length input < header_size → (takes (stream_of (Header n) head room) input).event ≡ input_ended
unfolding takes feed
header_short n head room [] h = refl
header_short n head room (byte ∷ bytes) h =
    rw (lt-ltb (n + 1) header_size (omega arith)) (header_short (n + 1) (set head n byte) room bytes (omega arith))

-- what comes when all eight are in
abbrev after_header : List ℕ → List ℕ → List ℕ → Taken
after_header head room rest = takes_by (judged (verdict_of (header_at head 0)) head room) (λ t. takes t rest)

-- with all eight in, they are judged, and the rest of the input comes behind them
pub header_long : (P : Event → Stream → Type 0) (n : ℕ) (head room input : List ℕ) → n < header_size → length head ≡ header_size → header_size ≤ n + length input
    → ((hd rest : List ℕ) → length hd ≡ header_size → hd ++ rest ≡ take n head ++ input → P (after_header hd room rest).event (after_header hd room rest).stream)
    → P (takes (stream_of (Header n) head room) input).event (takes (stream_of (Header n) head room) input).stream
unfolding takes feed
header_long P n head room [] h l w k = absurd (omega arith)
header_long P n head room (byte ∷ bytes) h l w k =
    split (ltb (n + 1) header_size)
    (λ e.
    rw e
    (header_long P (n + 1) (set head n byte) room bytes (ltb-true _ _ e) (omega (arith, length-set head n byte)) (omega arith)
    (λ hd rest q s. k hd rest q (s ∙ moved_on head n byte bytes (omega arith)))))
    (λ e.
    rw e
    (k (set head n byte) bytes (omega (arith, length-set head n byte))
    (ap (◌++ bytes) (sym (take_all (n + 1) (set head n byte) (omega (arith, length-set head n byte, ltb-false)))) ∙
    moved_on head n byte bytes (omega arith))))

-- ---- the message by its bytes

-- a header reads the same with more bytes behind it
header_front : (hd rest : List ℕ) → length hd ≡ header_size → header_at (hd ++ rest) 0 ≡ header_at hd 0
header_front hd rest l =
    rw (
      byte 0 (omega arith),
      byte 1 (omega arith),
      byte 2 (omega arith),
      byte 3 (omega arith),
      byte 4 (omega arith),
      byte 5 (omega arith),
      byte 6 (omega arith),
      byte 7 (omega arith),
    )
    refl
  where
    byte : (k : ℕ) → k < header_size → get_or (hd ++ rest) k 0 ≡ get_or hd k 0
    byte k h = get_or-append hd rest 0 k (omega arith)

-- no message is whole where the header is judged wrong
wrong-not : (k : ℕ) (m : List ℕ) (fault : Fault) → verdict_of (header_at m 0) ≡ Err fault → WholeOf k m → ⊥
wrong-not k m fault e w = let p : verdict_of (header_at m 0) ≡ passed = w.passes in let z : ◌≡◌ {A = ℕ} 0 1 = cc in omega arith

-- an end of the call that is no finished message, where none is whole
no_message : (k : ℕ) (m : List ℕ) (e : Event) (s : Stream) → (WholeOf k m → ⊥) → ((kind size : ℕ) → e ≡ finished kind size → ⊥) → Ends k m e s
no_message k m e s n u = record { finishes = λ w. absurd (n w); stores = λ w. absurd (n w); only = λ size q. absurd (u k size q) }

-- while a payload is read: m is the header, the part in hand, and the input
module _ (k : ℕ) (stored : is_stored k ≡ true) (m hd room input : List ℕ) (n : ℕ) (front : header_at m 0 ≡ header_at hd 0) (long : length m ≡ header_size + (n + length input))
    (behind : drop header_size m ≡ take n room ++ input) (p : verdict_of (header_at hd 0) ≡ passed) (h : n < (header_at hd 0).length) (r : most_payload ≤ length room) where
  read_finishes : WholeOf k m → (takes (stream_of (Reading n) hd room) input).event ≡ finished k (header_at m 0).length
  read_finishes w =
      let size : (header_at m 0).length ≡ (header_at hd 0).length = ap (λ (x : Head). x.length) front in
      let kind : (header_at hd 0).kind ≡ k = ap (λ (x : Head). x.kind) (sym front) ∙ w.is_kind in
      let all : ltb (n + length input) (header_at hd 0).length ≡ false = le-ltb (n + length input) (header_at hd 0).length (omega (arith, w.whole)) in
      read_event hd n room input h ∙ rw (all, kind, size) refl

  read_room : WholeOf k m → take (header_at m 0).length (takes (stream_of (Reading n) hd room) input).stream.room ≡ payload_of m
  read_room w =
      let size : (header_at m 0).length ≡ (header_at hd 0).length = ap (λ (x : Head). x.length) front in
      let kind : (header_at hd 0).kind ≡ k = ap (λ (x : Head). x.kind) (sym front) ∙ w.is_kind in
      let kept : is_stored (header_at hd 0).kind ≡ true = rw kind stored in
      rw (size, behind) (read_stores hd n room input kept h (omega (arith, (passes-all (header_at hd 0) p).short)) (omega (arith, w.whole)))

  read_only : (size : ℕ) → (takes (stream_of (Reading n) hd room) input).event ≡ finished k size → WholeOf k m
  read_only size e =
      let same : (header_at m 0).length ≡ (header_at hd 0).length = ap (λ (x : Head). x.length) front in
      split (ltb (n + length input) (header_at hd 0).length)
      (λ t.
      let ev : (takes (stream_of (Reading n) hd room) input).event ≡ input_ended = read_event hd n room input h ∙ rw t refl in
      let z : ◌≡◌ {A = ℕ} 0 1 = cc in
      absurd (omega arith))
      (λ t.
      let ev : (takes (stream_of (Reading n) hd room) input).event ≡ finished (header_at hd 0).kind (header_at hd 0).length = read_event hd n room input h ∙ rw t refl in
      let kind : (header_at hd 0).kind ≡ k = cc in
      record {
        whole = omega (arith, ltb-false);
        passes = ap verdict_of front ∙ p;
        is_kind = ap (λ (x : Head). x.kind) front ∙ kind;
      })

  read_ends : Ends k m (takes (stream_of (Reading n) hd room) input).event (takes (stream_of (Reading n) hd room) input).stream
  read_ends = record { finishes = read_finishes; stores = read_room; only = read_only }

-- what stands behind the eight bytes of a header
header_behind : (hd rest : List ℕ) → length hd ≡ header_size → drop header_size (hd ++ rest) ≡ rest
header_behind hd rest l = drop_at hd rest header_size l

-- when the eight bytes are in
after-ends : (k : ℕ) → is_stored k ≡ true → (hd room rest : List ℕ) (v : Result Unit Fault) → length hd ≡ header_size → most_payload ≤ length room → verdict_of (header_at hd 0) ≡ v
    → Ends k (hd ++ rest) (takes_by (judged v hd room) (λ t. takes t rest)).event (takes_by (judged v hd room) (λ t. takes t rest)).stream
after-ends k st hd room rest (Ok tt) l r e =
    let both : Ends k (hd ++ rest) (takes (stream_of (Reading 0) hd room) rest).event (takes (stream_of (Reading 0) hd room) rest).stream =
    read_ends k st (hd ++ rest) hd room rest 0 (header_front hd rest l) (omega (arith, length-append hd rest)) (header_behind hd rest l) e
    (passes-some (header_at hd 0) e) r in
    both
after-ends k st hd room rest (Err fault) l r e =
    no_message k (hd ++ rest) _ _ (wrong-not k (hd ++ rest) fault (ap verdict_of (header_front hd rest l) ∙ e))
    (λ kind size q. let z : ◌≡◌ {A = ℕ} 0 1 = cc in omega arith)

-- what a call finishes is the message that its row's bytes in hand and its input make
pub stream-ends : (k : ℕ) → is_stored k ≡ true → (place : Place) (head room input : List ℕ) → length head ≡ header_size → most_payload ≤ length room → PossibleAt place head
    → Ends k (in_hand_bytes place head room ++ input) (takes (stream_of place head room) input).event (takes (stream_of place head room) input).stream
stream-ends k st (Header n) head room input l r h =
    split (leb header_size (n + length input))
    (λ t.
    header_long (Ends k (take n head ++ input)) n head room input h l (leb-true _ _ t)
    (λ hd rest q s. rw (sym s) (after-ends k st hd room rest (verdict_of (header_at hd 0)) q r refl)))
    (λ t.
    let ev : (takes (stream_of (Header n) head room) input).event ≡ input_ended = header_short n head room input (leb-false _ _ t) in
    no_message k (take n head ++ input) _ _
    (λ w. omega (arith, w.whole, length-append (take n head) input, length-take-le n head (omega arith), leb-false))
    (λ kind size q. let z : ◌≡◌ {A = ℕ} 0 1 = cc in omega arith))
stream-ends k st (Reading n) head room input l r h =
    rw append_assoc
    (read_ends k st (head ++ (take n room ++ input)) head room input n (header_front head (take n room ++ input) l)
    (omega (arith, length-append head (take n room ++ input), length-append (take n room) input, length-take-le n room (omega (arith, (passes-all (header_at head 0) h.1).short))))
    (header_behind head (take n room ++ input) l) h.1 h.0 r)
stream-ends k st (Skipping n) head room input l r h =
    no_message k (head ++ input) _ _
    (λ w. let q : verdict_of (header_at head 0) ≡ passed = ap verdict_of (sym (header_front head input l)) ∙ w.passes in judged_wrong q h.1)
    (skip_event n head room input)
  where
    judged_wrong : verdict_of (header_at head 0) ≡ passed
        → (verdict_of (header_at head 0) ≡ Err UnknownType) ⊎ (verdict_of (header_at head 0) ≡ Err TooLong) → ⊥
    judged_wrong q (inl e) = let z : ◌≡◌ {A = ℕ} 0 1 = cc in omega arith
    judged_wrong q (inr e) = let z : ◌≡◌ {A = ℕ} 0 1 = cc in omega arith
