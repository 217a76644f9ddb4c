-- Calls that leave the table as it is, a datagram and a controller's message: what they say has room, and they are served.
-- Assumes nothing.
use Rattle.std.proofs.Common.{Option, Some, None}
use Rattle.kinds.specs.declared.Reply.{Reply}
use Prim.Native.Nat.{ℕ, ◌≤◌, ◌<◌}
use mathlib.Core.Path.{◌≡◌, refl, sym, ap, ap₂, ◌∙◌, subst}
use mathlib.Core.List.{List, []}
use native.Mathlib.Omega.{arith}
use lib.Dec.{leb}
use lib.ListN.{length, set}
use lib.Seq.{set-get_or}
use borrow.Author.Tests.{leb-true}
use Rattle.octets.specs.Search.{first_at}
use Rattle.octets.proofs.PartsLaws.{length_part}
use Rattle.kinds.specs.declared.Item.{Item}
use Rattle.sheet.specs.Sheet.{farm_count, farm_at, farm_size, farm_record}
use Rattle.sheet.proofs.LengthLaws.{good_lengths}
use Rattle.datagram.specs.Datagram.{answer_to}
use Rattle.outsheet.specs.Sheet.{sheet_of}
use Rattle.outsheet.specs.Replies.{entries_of}
use Rattle.outsheet.specs.Contracts.{least_output, longest, Room, Wrote}
use Rattle.model.specs.FarmSheet.{FarmSheet, farm_sheet}
use Rattle.model.specs.Row.{active_as}
use Rattle.model.specs.Farm.{Farm, seat_count}
use Rattle.model.specs.Move.{datagram, controller, Held, Given, Move, refused, gave, no_row, open_rows, answers, datagram_move, most_user, is_target, to_tester, controller_move, move}
use Rattle.model.specs.Table.{items_by, no_held, Call, datagram_to, message_from, Did, did, moved_to, whose}
use Rattle.model.proofs.Cases.{unless_case}
use Rattle.model.proofs.RuleKept.{farm-ok}
use Rattle.table.specs.Layout.{table_size}
use Rattle.table.specs.Block.{farm_of}
use Rattle.closing.specs.Did.{pushed_all}
use Rattle.closing.proofs.DidLaws.{pushed_first}
use Rattle.room.proofs.Open.{open_within}
use Rattle.room.proofs.Moves.{Small}
use Rattle.room.proofs.Long.{answers_few, longs_few}
use Rattle.farm_controller.specs.Message.{number_by, message_move, Messaged}
use Rattle.lent.specs.declared.Answer.{Answer}
use Rattle.lent.specs.Lent.{block, held_at, lent_table, lent_step}
use Rattle.lent.specs.Gate.{Passed}
use Rattle.lent.specs.Served.{refusal, done, memory, Served}
use Rattle.lent.proofs.LentLaws.{slot_is}
use Rattle.lent.proofs.CallLaws.{refused_as}
use Rattle.lent.proofs.ServedLaws.{Left, served-did}
use Rattle.serve.specs.Ready.{Ready}
use Rattle.serve.specs.Moved.{SaidOut, MessageOutBy, MessageOut}
use Rattle.finish.proofs.AnswerLaws.{wrote-items}
use Rattle.serve.proofs.MovedLaws.{small-room}
use Rattle.serve.proofs.ServeLaws.{farm_goes}

-- ---- a datagram's reply

-- "Farm, 33 bytes"
pub record_long : {s t : List ℕ} {f : ℕ} → Ready s t f → length (farm_record s f) ≡ farm_size
record_long {s} {t} {f} r = length_part s (farm_at f) farm_size (omega (arith, (good_lengths s r.sheet).farm f r.has))

-- the count of open rows is a byte
pub open_byte : {s t : List ℕ} {f : ℕ} → Ready s t f → open_rows (farm_of (block t f)) < 256
unfolding seat_count
open_byte {s} {t} {f} r = omega (arith, open_within r.good, (farm-ok s f r.sheet r.has).rooms)

answer-small : (a : Option Reply) (long : List ℕ) → length long ≤ longest → Small (answers a) long
answer-small a long h =
    record { few = omega (arith, answers_few a); one_long = omega (arith, answers_few a, longs_few (answers a)); short = h }

-- the code's answer, over the record that it has lent, is the model's
pub answer_same : (input : List ℕ) {farm own : List ℕ} {n k : ℕ} {a : Option Reply} → farm ≡ own → n ≡ k → a ≡ answer_to input farm n → a ≡ answer_to input own k
answer_same input e h x = x ∙ ap₂ (answer_to input) e h

pub answer-room : {s t : List ℕ} {f : ℕ} (plan : List Item) (farm : List ℕ) (n : ℕ) (a : Option Reply) → Ready s t f → farm ≡ farm_record s f → plan ≡ answers a → least_output ≤ n
    → Room plan farm n
answer-room plan farm n a r e x h =
    small-room plan farm n (answers a) x (answer-small a farm (omega (arith, ap length e, record_long r))) h

pub answer_out : {plan : List Item} {farm own out output : List ℕ} {a b : Option Reply} {r : Answer} → farm ≡ own → a ≡ b → plan ≡ answers a → r ≡ done no_row 0 r.length
    → Wrote (sheet_of (entries_of farm plan)) out output r.length → SaidOut own (answers b) out output r
answer_out {plan} {farm} {own} {out} {output} {a} {b} {r} e k x d w =
    record {
      answer = d;
      wrote =
          subst (λ (long : List ℕ). Wrote (sheet_of (entries_of long (answers b))) out output r.length) e
          (wrote-items farm (x ∙ ap answers k) w);
    }

-- ---- a controller's message

-- it is refused by a number, or says one entry over the user data and leaves what the farm holds
abbrev Sent : Held → List ℕ → Move → Type 0
Sent h user (refused n) = 0 < n
Sent h user (gave g) = Small g.items user × (g ≡ record { row = no_row; took = 0; items = g.items; long = user; held = h })

sent : (own : FarmSheet) (h : Held) (from to : ℕ) (user : List ℕ) → Sent h user (controller_move own h from to user)
unfolding controller_move most_user
sent own h from to user =
    unless_case (Sent h user) (leb 1 (length user)) _ _ (λ _. omega arith)
    (λ _. unless_case (Sent h user) (leb (length user) most_user) _ _ (λ _. omega arith)
    (λ most. unless_case (Sent h user) (is_target (own.target from)) _ _ (λ _. omega arith)
    (λ _. by (leb-true (length user) most_user most) (first_at (active_as to) 0 h.farm.rows))))
  where
    by : length user ≤ most_user → (o : Option ℕ) → Sent h user (to_tester own h from to user o)
    by most None = omega arith
    by most (Some seat) = (record { few = omega arith; one_long = longs_few _; short = omega arith }, refl)

module _ {s : List ℕ} {f : ℕ} {farm : Farm} {p plan : List Item} {from to : ℕ} {user : List ℕ} {n : ℕ} (x : Messaged s f farm p plan from to user n) where
  -- refusals 9 and 10
  pub message-refused : {out : List ℕ} {a : Answer} → 0 < n → a ≡ refusal n → MessageOut s f farm from to user out out a
  message-refused {out} {a} h e = record { by = λ rooms. by (message_move s f farm from to user rooms) (x.number rooms) }
    where
      by : (mv : Move) → n ≡ number_by mv → MessageOutBy mv user out out a
      by (refused k) i = (e ∙ ap refusal i, refl)
      by (gave g) i = absurd (omega (arith, h, i))

  -- the plan after a message that is not refused
  planned : (mv : Move) (h : Held) → n ≡ 0 → Sent h user mv → n ≡ number_by mv → p ≡ [] → plan ≡ pushed_all p (items_by mv)
      → (plan ≡ items_by mv) × Small (items_by mv) user
  planned (refused k) h z y i none e = absurd (omega (arith, z, y, i))
  planned (gave g) h z y i none e =
      (e ∙ ap (λ (l : List Item). pushed_all l g.items) none ∙ pushed_first g.items y.0.few, y.0)

  pub message-room : (k : ℕ) → n ≡ 0 → p ≡ [] → least_output ≤ k → Room plan user k
  message-room k z none h =
      let mv : Move = message_move s f farm from to user [] in
      let y = planned mv (record { farm = farm; rooms = [] }) z (sent (farm_sheet s f) (record { farm = farm; rooms = [] }) from to user) (x.number []) none (x.said []) in
      small-room plan user k (items_by mv) y.0 y.1 h

  pub message_out : {out output : List ℕ} {a : Answer} → n ≡ 0 → p ≡ [] → a ≡ done no_row 0 a.length
      → Wrote (sheet_of (entries_of user plan)) out output a.length → MessageOut s f farm from to user out output a
  message_out {out} {output} {a} z none d w =
      record {
        by =
            λ rooms.
            by (message_move s f farm from to user rooms) (record { farm = farm; rooms = rooms }) (sent (farm_sheet s f) (record { farm = farm; rooms = rooms }) from to user)
            (x.number rooms) (x.said rooms);
      }
    where
      by : (mv : Move) (h : Held) → Sent h user mv → n ≡ number_by mv → plan ≡ pushed_all p (items_by mv) → MessageOutBy mv user out output a
      by (refused k) h y i e = absurd (omega (arith, z, y, i))
      by (gave g) h y i e = record { answer = d; wrote = wrote-items user (planned (gave g) h z y i none e).0 w }

-- ---- the calls

module _ (s t out m : List ℕ) (p : Passed s t out m) (long : length t ≡ table_size) (f : ℕ) (has : f < farm_count s) where
  -- what a call has done that leaves the table
  abbrev said_did : List Item → List ℕ → Did
  said_did items over = record { row = no_row; took = 0; items = items; long = over; table = set (lent_table s t m) f (held_at s t m f) }

  left_same : (items : List Item) (over : List ℕ) → Left s (said_did items over) m t m
  left_same items over =
      record {
        means =
            sym
            (ap (set (lent_table s t m) f) (sym (slot_is s t m f (omega (arith, has, p.lendable.sheet.head.farms_at_most))))
            ∙ set-get_or (lent_table s t m) f no_held);
        whole = p.whole;
        long = long;
        wide = p.lendable.assembling;
        past = refl;
      }

  said-served : (c : Call) (items : List Item) (over output : List ℕ) (a : Answer) → lent_step s t out m c ≡ did (said_did items over) → SaidOut over items out output a
      → Served s (lent_step s t out m c) a (memory t out m) (memory t output m)
  said-served c items over output a e x =
      subst (λ (y : Answer). Served s (lent_step s t out m c) y (memory t out m) (memory t output m)) (sym x.answer)
      (served-did s (lent_step s t out m c) (said_did items over) t out m t output m a.length p.lendable.sheet e (left_same items over) x.wrote)

  pub datagram-served : (input output : List ℕ) (a : Answer)
      → SaidOut (farm_record s f) (answers (answer_to input (farm_record s f) (open_rows (farm_of (block t f))))) out output a
      → Served s (lent_step s t out m (datagram_to f input)) a (memory t out m) (memory t output m)
  unfolding whose move datagram_move farm_sheet held_at
  datagram-served input output a x =
      said-served (datagram_to f input) (answers (answer_to input (farm_record s f) (open_rows (farm_of (block t f))))) (farm_record s f) output a
      (farm_goes s t out m p long (datagram_to f input) f (datagram input) refl has) x

  moved_so : (c : Call) (mv : Move) (user output : List ℕ) (a : Answer) → lent_step s t out m c ≡ moved_to (lent_table s t m) f mv → Sent (held_at s t m f) user mv
      → MessageOutBy mv user out output a → Served s (lent_step s t out m c) a (memory t out m) (memory t output m)
  moved_so c (refused n) user output a e y x =
      subst (λ (o : List ℕ). Served s (lent_step s t out m c) a (memory t out m) (memory t o m)) (sym x.1)
      (refused_as s (lent_step s t out m c) n a (memory t out m) x.0 e)
  moved_so c (gave g) user output a e y x =
      said-served c g.items user output a (e ∙ ap (λ (k : Given). moved_to (lent_table s t m) f (gave k)) y.1) x

  pub message-served : (from to : ℕ) (user output : List ℕ) (a : Answer) → MessageOut s f (farm_of (block t f)) from to user out output a
      → Served s (lent_step s t out m (message_from f from to user)) a (memory t out m) (memory t output m)
  unfolding whose move held_at
  message-served from to user output a x =
      moved_so (message_from f from to user) (controller_move (farm_sheet s f) (held_at s t m f) from to user) user output a
      (farm_goes s t out m p long (message_from f from to user) f (controller from to user) refl has)
      (sent (farm_sheet s f) (held_at s t m f) from to user)
      (x.by (held_at s t m f).rooms)
