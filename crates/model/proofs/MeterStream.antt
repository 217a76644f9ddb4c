-- A row's place in its stream is what the bytes taken since connect say: feeding bytes one by one, the bytes in hand are those after
-- the last finished message.
-- Assumes nothing.
use Rattle.std.proofs.Common.{Result, Ok, Err}
use Rattle.kinds.specs.declared.Fault.{Fault}
use Prim.Native.Nat.{ℕ, zero, suc, ◌+◌, ◌≤◌, ◌<◌}
use mathlib.Core.Path.{◌≡◌, refl, sym, ap, subst, ◌∙◌}
use mathlib.Core.Bool.{true, false, false≢true}
use mathlib.Core.List.{List, [], ◌∷◌, ◌++◌, append_assoc, append-nil}
use native.Mathlib.Nat.{not-suc-le-zero}
use native.Mathlib.Omega.{arith}
use lib.Dec.{eqb, ltb}
use lib.ListN.{get_or, set, length, take, replicate, length-append, length-set, length-replicate}
use borrow.Author.Tests.{ltb-true, ltb-false, eqb-true, eqb-false}
use Rattle.kinds.specs.declared.Place.{Place}
use Rattle.kinds.specs.declared.Place.TheVariants.{Header, Reading, Skipping}
use Rattle.wire.specs.declared.header.Header.{Header as Head}
use Rattle.wire.specs.Header.{header_size, header_at, verdict_of}
use Rattle.model.specs.Row.{boundary, no_head, in_hand_at}
use Rattle.model.specs.Stream.{Stream, Event, input_ended, finished, skipped, Fed, more, ends, judged, feed_at, feed, takes_by, takes}
use Rattle.model.specs.Meter.{stops, whole_size, finished_in}
use Rattle.model.proofs.Cases.{pick_case, split}
use Rattle.model.proofs.SoundStream.{passes-some}
use Rattle.model.proofs.MeterBalance.{closing}
use Rattle.model.proofs.MeterCut.{Whole, whole_append, whole-message, short_none, part_none, head_same, head_append, cut_stops}

-- ---- the bytes of the message that is not finished, at a place with these header bytes

-- some of a payload, of a header that does not close
pub record Payload (n : ℕ) (head part : List ℕ) : Type 0 where
  pub size : length part ≡ header_size + n
  pub short : n < (header_at part 0).length
  pub goes : stops (verdict_of (header_at part 0)) ≡ false
  pub heads : header_at head 0 ≡ header_at part 0

pub record Heading (n : ℕ) (head part : List ℕ) : Type 0 where
  pub size : length part ≡ n
  pub short : n < header_size
  pub eight : length head ≡ header_size
  pub same : (i : ℕ) → get_or head i 0 ≡ get_or part i 0

abbrev pub AtPlace : Place → List ℕ → List ℕ → Type 0
AtPlace (Header n) head part = Heading n head part
AtPlace (Reading n) head part = Payload n head part
AtPlace (Skipping n) head part = Payload n head part

-- the log is whole messages and the part in hand
pub record Stands (log : List ℕ) (p : Place) (head : List ℕ) : Type 0 where
  pub whole : List ℕ
  pub part : List ℕ
  pub cut : log ≡ whole ++ part
  pub is_whole : Whole whole
  pub at : AtPlace p head part

part-size : (p : Place) (head part : List ℕ) → AtPlace p head part → length part ≡ in_hand_at p
part-size (Header n) head part a = a.size
part-size (Reading n) head part a = a.size
part-size (Skipping n) head part a = a.size

part_unfinished : (p : Place) (head part : List ℕ) → AtPlace p head part → finished_in part ≡ 0
part_unfinished (Header n) head part a = short_none (length part) part (omega (arith, a.size, a.short))
part_unfinished (Reading n) head part a = part_none (length part) part a.goes (omega (arith, a.size, a.short))
part_unfinished (Skipping n) head part a = part_none (length part) part a.goes (omega (arith, a.size, a.short))

-- THE BYTES IN HAND are those of the log that are of no finished message
pub stands_hand : {log : List ℕ} {p : Place} {head : List ℕ} → Stands log p head → finished_in log + in_hand_at p ≡ length log
stands_hand {log} {p} {head} s =
    let f : finished_in log ≡ length s.whole + finished_in s.part = ap finished_in s.cut ∙ s.is_whole s.part in
    let l : length log ≡ length s.whole + length s.part = ap length s.cut ∙ length-append s.whole s.part in
    omega (arith, part_unfinished p head s.part s.at, part-size p head s.part s.at)

-- ---- between two messages

none_there : (n i : ℕ) → ◌≡◌ {A = ℕ} (get_or (replicate n 0) i 0) 0
none_there zero i = refl
none_there (suc n) zero = refl
none_there (suc n) (suc i) = none_there n i

heading_none : Heading 0 no_head []
unfolding no_head
heading_none = record { size = refl; short = omega arith; eight = length-replicate {A = ℕ} header_size 0; same = none_there header_size }

pub stands_rested : (log : List ℕ) → Whole log → Stands log boundary no_head
stands_rested log w = record { whole = log; part = []; cut = sym (append-nil log); is_whole = w; at = heading_none }

nil_of : (l : List ℕ) → length l ≡ 0 → l ≡ []
nil_of [] e = refl
nil_of (x ∷ l) e = absurd (omega arith)

-- a row with nothing in hand is between two messages
pub stands_still : {log : List ℕ} (p : Place) {head : List ℕ} → Stands log p head → in_hand_at p ≡ 0 → Stands log boundary no_head
stands_still {log} p {head} s e =
    let z : s.part ≡ [] = nil_of s.part (part-size p head s.part s.at ∙ e) in
    let c : log ≡ s.whole = s.cut ∙ ap (λ (x : List ℕ). s.whole ++ x) z ∙ append-nil s.whole in
    stands_rested log (subst Whole (sym c) s.is_whole)

-- ---- one byte

-- the header bytes in hand with one more
head_more : (byte : ℕ) (head part : List ℕ) → length part < length head → ((i : ℕ) → get_or head i 0 ≡ get_or part i 0) → (i : ℕ)
    → get_or (set head (length part) byte) i 0 ≡ get_or (part ++ (byte ∷ [])) i 0
head_more byte [] part h e i = absurd (not-suc-le-zero h)
head_more byte (x ∷ head) [] h e zero = refl
head_more byte (x ∷ head) [] h e (suc i) = e (suc i)
head_more byte (x ∷ head) (y ∷ part) h e zero = e 0
head_more byte (x ∷ head) (y ∷ part) h e (suc i) = head_more byte head part (omega arith) (λ j. e (suc j)) i

-- where a call's last byte leaves the stream: after a header that closes, all bytes are finished
pub record Lands (e : Event) (log : List ℕ) (s : Stream) : Type 0 where
  pub goes : closing e ≡ false → Stands log s.place s.head
  pub over : closing e ≡ true → (finished_in log ≡ length log) × (s.place ≡ boundary)

FedLands : List ℕ → Fed → Type 0
FedLands log (more s) = Stands log s.place s.head
FedLands log (ends e s) = Lands e log s

lands_still : (e : Event) (log : List ℕ) (s : Stream) → closing e ≡ false → Stands log s.place s.head → Lands e log s
lands_still e log s c x = record { goes = λ _. x; over = λ t. absurd (false≢true (sym c ∙ t)) }

-- a message that is all there
module _ (log whole part : List ℕ) (cut : log ≡ whole ++ part) (is_whole : Whole whole) where
  message_over : header_size ≤ length part → stops (verdict_of (header_at part 0)) ≡ false → length part ≡ whole_size part
      → Stands log boundary no_head
  message_over l e s =
      stands_rested log (subst Whole (sym cut) (whole_append whole part is_whole (whole-message part l e s)))

  all_over : stops (verdict_of (header_at part 0)) ≡ true → length part ≡ header_size → finished_in log ≡ length log
  all_over e l =
      ap finished_in cut ∙ is_whole part ∙
      ap (λ (n : ℕ). length whole + n) (cut_stops part (header_at part 0) refl (omega arith) e ∙ sym l) ∙
      sym (length-append whole part) ∙ sym (ap length cut)

  -- eight header bytes are in
  judged_lands : (v : Result Unit Fault) (head room : List ℕ) → verdict_of (header_at part 0) ≡ v → header_at head 0 ≡ header_at part 0
      → length part ≡ header_size → FedLands log (judged v head room)
  unfolding FedLands
  judged_lands (Ok tt) head room v h l =
      record {
        whole = whole;
        part = part;
        cut = cut;
        is_whole = is_whole;
        at =
            record { size = l; short = passes-some (header_at part 0) v; goes = ap stops v; heads = h };
      }
  judged_lands (Err fault) head room v h l =
      record {
        goes =
            λ c. rw c
            (pick_case (λ (s : Stream). Stands log s.place s.head) (eqb (header_at head 0).length 0) _ _
            (λ z. message_over (omega arith) (ap stops v ∙ c) (l ∙ omega (arith, eqb-true (header_at head 0).length 0 z, ap (λ (x : Head). x.length) h)))
            (λ z. record {
              whole = whole;
              part = part;
              cut = cut;
              is_whole = is_whole;
              at =
                  record {
                    size = l;
                    short = some_left (header_at part 0).length (λ n. eqb-false (header_at head 0).length 0 z (ap (λ (x : Head). x.length) h ∙ n));
                    goes = ap stops v ∙ c;
                    heads = h;
                  };
            }));
        over = λ c. rw c (all_over (ap stops v ∙ c) l, refl);
      }
    where
      some_left : (n : ℕ) → (n ≡ 0 → ⊥) → 0 < n
      some_left zero f = absurd (f refl)
      some_left (suc n) f = omega arith

-- one more byte of a payload
module _ {n : ℕ} {head part : List ℕ} (a : Payload n head part) (byte : ℕ) where
  more-size : length (part ++ (byte ∷ [])) ≡ header_size + (n + 1)
  more-size = omega (arith, length-append part (byte ∷ []), a.size)

  more-head : header_at (part ++ (byte ∷ [])) 0 ≡ header_at part 0
  more-head = head_append part (byte ∷ []) (omega (arith, a.size))

  payload-more : n + 1 < (header_at head 0).length → Payload (n + 1) head (part ++ (byte ∷ []))
  payload-more h =
      record {
        size = more-size;
        short = subst (λ (x : Head). n + 1 < x.length) (a.heads ∙ sym more-head) h;
        goes = ap (λ (x : Head). stops (verdict_of x)) more-head ∙ a.goes;
        heads = a.heads ∙ sym more-head;
      }

  payload-all : (header_at head 0).length ≤ n + 1 → length (part ++ (byte ∷ [])) ≡ whole_size (part ++ (byte ∷ []))
  payload-all h =
      more-size ∙
      ap (λ (k : ℕ). header_size + k) (full (ap (λ (x : Head). x.length) a.heads)) ∙
      sym (ap (λ (x : Head). header_size + x.length) more-head)
    where
      full : (header_at head 0).length ≡ (header_at part 0).length → n + 1 ≡ (header_at part 0).length
      full e = omega (arith, a.short)

module _ (log : List ℕ) (head room : List ℕ) (byte : ℕ) where
  next_cut : (p : Place) (s : Stands log p head) → log ++ (byte ∷ []) ≡ s.whole ++ (s.part ++ (byte ∷ []))
  next_cut p s = ap (λ (x : List ℕ). x ++ (byte ∷ [])) s.cut ∙ append_assoc s.whole s.part (byte ∷ [])

  stands_more : (p : Place) (s : Stands log p head) (q : Place) → AtPlace q head (s.part ++ (byte ∷ [])) → Stands (log ++ (byte ∷ [])) q head
  stands_more p s q a = record { whole = s.whole; part = s.part ++ (byte ∷ []); cut = next_cut p s; is_whole = s.is_whole; at = a }

  payload_over : (p : Place) (s : Stands log p head) {n : ℕ} → Payload n head s.part → (header_at head 0).length ≤ n + 1
      → Stands (log ++ (byte ∷ [])) boundary no_head
  payload_over p s a h =
      message_over (log ++ (byte ∷ [])) s.whole (s.part ++ (byte ∷ [])) (next_cut p s) s.is_whole (omega (arith, more-size a byte))
      (ap (λ (x : Head). stops (verdict_of x)) (more-head a byte) ∙ a.goes) (payload-all a byte h)

  fed_lands : (p : Place) → Stands log p head → FedLands (log ++ (byte ∷ [])) (feed_at p head room byte)
  unfolding FedLands
  fed_lands (Header n) s =
      pick_case (FedLands (log ++ (byte ∷ []))) (ltb (n + 1) header_size) _ _
      (λ t. record {
        whole = s.whole;
        part = s.part ++ (byte ∷ []);
        cut = next_cut (Header n) s;
        is_whole = s.is_whole;
        at = record { size = sized; short = ltb-true (n + 1) header_size t; eight = length-set head n byte ∙ s.at.eight; same = same };
      })
      (λ t. judged_lands (log ++ (byte ∷ [])) s.whole (s.part ++ (byte ∷ [])) (next_cut (Header n) s) s.is_whole
      (verdict_of (header_at (set head n byte) 0)) (set head n byte) room (ap verdict_of (sym heads)) heads
      (omega (arith, sized, ltb-false (n + 1) header_size t, s.at.short)))
    where
      sized : length (s.part ++ (byte ∷ [])) ≡ n + 1
      sized = omega (arith, length-append s.part (byte ∷ []), s.at.size)

      same : (i : ℕ) → get_or (set head n byte) i 0 ≡ get_or (s.part ++ (byte ∷ [])) i 0
      same i =
          subst (λ (k : ℕ). get_or (set head k byte) i 0 ≡ get_or (s.part ++ (byte ∷ [])) i 0) s.at.size
          (head_more byte head s.part (omega (arith, s.at.size, s.at.short, s.at.eight)) s.at.same i)

      heads : header_at (set head n byte) 0 ≡ header_at (s.part ++ (byte ∷ [])) 0
      heads = head_same (set head n byte) (s.part ++ (byte ∷ [])) (λ i _. same i)
  fed_lands (Reading n) s =
      pick_case (FedLands (log ++ (byte ∷ []))) (ltb (n + 1) (header_at head 0).length) _ _
      (λ t. stands_more (Reading n) s (Reading (n + 1)) (payload-more s.at byte (ltb-true (n + 1) (header_at head 0).length t)))
      (λ t. lands_still (finished (header_at head 0).kind (header_at head 0).length) _ _ refl
      (payload_over (Reading n) s s.at (ltb-false (n + 1) (header_at head 0).length t)))
  fed_lands (Skipping n) s =
      pick_case (FedLands (log ++ (byte ∷ []))) (ltb (n + 1) (header_at head 0).length) _ _
      (λ t. stands_more (Skipping n) s (Skipping (n + 1)) (payload-more s.at byte (ltb-true (n + 1) (header_at head 0).length t)))
      (λ t. lands_still (skipped (header_at head 0).length) _ _ refl
      (payload_over (Skipping n) s s.at (ltb-false (n + 1) (header_at head 0).length t)))

-- ---- a whole call: what it takes leaves the stream where the log says

pub takes_lands : (log : List ℕ) (s : Stream) (input : List ℕ) → Stands log s.place s.head
    → Lands (takes s input).event (log ++ take (takes s input).count input) (takes s input).stream
unfolding takes feed FedLands
takes_lands log s [] x = lands_still input_ended (log ++ []) s refl (subst (λ (l : List ℕ). Stands l s.place s.head) (sym (append-nil log)) x)
takes_lands log s (byte ∷ bytes) x =
    go (feed s byte) (fed_lands log s.head s.room byte s.place x) (λ t y. takes_lands (log ++ (byte ∷ [])) t bytes y)
  where
    go : (f : Fed) → FedLands (log ++ (byte ∷ [])) f
        → ((t : Stream) → Stands (log ++ (byte ∷ [])) t.place t.head
        → Lands (takes t bytes).event ((log ++ (byte ∷ [])) ++ take (takes t bytes).count bytes) (takes t bytes).stream)
        → Lands (takes_by f (λ t. takes t bytes)).event (log ++ take (takes_by f (λ t. takes t bytes)).count (byte ∷ bytes))
        (takes_by f (λ t. takes t bytes)).stream
    go (more t) y ih =
        subst (λ (l : List ℕ). Lands (takes t bytes).event l (takes t bytes).stream)
        (append_assoc log (byte ∷ []) (take (takes t bytes).count bytes)) (ih t y)
    go (ends e t) y ih = y

-- however the call ends: the bytes finished and the bytes in hand are all bytes of the log
pub lands_hand : (e : Event) (log : List ℕ) (s : Stream) → Lands e log s → finished_in log + in_hand_at s.place ≡ length log
lands_hand e log s x =
    split (closing e) (λ c. let o = x.over c in omega (arith, o.0, ap in_hand_at o.1)) (λ c. stands_hand (x.goes c))
