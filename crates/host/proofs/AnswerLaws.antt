-- From the entries that the rules give to what the calls wrote: messages handed on, responses.
-- Assumes nothing.
use Rattle.std.proofs.Common.{Some}
use Prim.Native.Nat.{ℕ, ◌+◌, ◌≤◌}
use mathlib.Core.Path.{◌≡◌, refl, sym, ap, ◌∙◌, subst}
use mathlib.Core.Bool.{true, false}
use mathlib.Core.List.{List, [], ◌∷◌}
use mathlib.Core.Logic.{inl, inr}
use native.Mathlib.Omega.{arith}
use Rattle.octets.specs.Search.{count_if}
use Rattle.kinds.specs.declared.Reply.TheVariants.{Activation}
use Rattle.kinds.specs.declared.Request.{Request}
use Rattle.layout.specs.Layout.{ack_bytes}
use Rattle.wire.specs.Header.{our_version}
use Rattle.payload.specs.Payload.{ends_in}
use Rattle.sheet.specs.Sheet.{farm_no}
use Rattle.sheet.specs.Rows.{owner_of}
use Rattle.outsheet.specs.Sheet.{Entry, entry}
use Rattle.outsheet.specs.Replies.{send, hand_on, entries_of}
use Rattle.model.specs.FarmSheet.{slot_sheet}
use Rattle.model.specs.Farm.{says}
use Rattle.model.specs.Move.{Held}
use Rattle.model.specs.Table.{Table, Call, Did, Outcome, items_of}
use Rattle.model.specs.History.{Made, step_of}
use Rattle.model.specs.HandsOn.{payload_of, bytes_at, hand_ons, Handed, HandedOn}
use Rattle.model.specs.Words.{Begins, Decided, here, later}
use Rattle.model.proofs.HandOnTable.{takes_bytes, other_calls_hand_nothing_on, row_of_seat}
use Rattle.lent.specs.declared.Answer.{Answer}
use Rattle.lent.specs.Lent.{whole_table, lent_table, lent_of, lent_step}
use Rattle.lent.specs.Served.{Memory}
use Rattle.host.specs.Wrote.{Wrote, hand_on_entries, HandedOut, HandsNothing, HandsExactly, response_entry, RespondsFirst}
use Rattle.host.specs.Calls.{made, Calls, none, more, RespondsIn}
use Rattle.host.proofs.HistoryLaws.{call-is, call-means, call-whole}
use Rattle.host.proofs.SheetOnce.{wrote-once}
use Rattle.host.proofs.OutcomeLaws.{lent_case, entry-wrote, entry_among, entries_hand}

-- ---- messages handed on

nothing_handed : hand_ons [] ≡ 0
unfolding count_if
nothing_handed = refl

-- a call that takes no bytes has no entry that hands on, whatever is lent
pub others_hand_nothing : (s t out m : List ℕ) (c : Call) → takes_bytes c ≡ false → hand_ons (items_of (lent_step s t out m c)) ≡ 0
others_hand_nothing s t out m c k =
    lent_case (λ (o : Outcome). hand_ons (items_of o) ≡ 0) s t out m c (λ n. nothing_handed)
    (other_calls_hand_nothing_on s (lent_of out m) (lent_table s t m) c k)

module _ {a : Answer} {before after : Memory} where
  pub hands-nothing : (d : Did) → Wrote (entries_of d.long d.items) a before after → hand_ons d.items ≡ 0 → HandsNothing a before after
  hands-nothing d w e = record { entries = entries_of d.long d.items; wrote = w; none = entries_hand d.long d.items ∙ e }

  -- the entries of a message that is handed on, as the sheet has them
  handed_out : (s : List ℕ) (r f seat : ℕ) (m : List ℕ) (d : Did) → owner_of s r ≡ Some (farm_no f, seat) → Wrote (entries_of d.long d.items) a before after
      → Handed (slot_sheet s f) seat m d.items d.long → HandedOut r m a before after
  handed_out s r f seat m d o w h =
      record {
        rest = entries_of d.long h.rest;
        wrote = subst (λ (es : List Entry). Wrote es a before after) is w;
        once = entries_hand d.long h.rest ∙ h.once;
      }
    where
      ack : ℕ → Entry
      ack row = entry row send (ack_bytes our_version (ends_in (payload_of m)).target (ends_in (payload_of m)).source 0x00)

      is : entries_of d.long d.items ≡ ack r ∷ entry r hand_on (payload_of m) ∷ entries_of d.long h.rest
      is =
          ap (entries_of d.long) h.entries
          ∙ ap (λ (x : List ℕ). ack ((slot_sheet s f).first + seat) ∷ entry ((slot_sheet s f).first + seat) hand_on x ∷ entries_of d.long h.rest) h.payload
          ∙ ap (λ (x : ℕ). ack x ∷ entry x hand_on (payload_of m) ∷ entries_of d.long h.rest) (row_of_seat s r f seat o)

  pub hands_exactly : (s : List ℕ) (r f seat : ℕ) (h : Held) (input : List ℕ) (d : Did) → owner_of s r ≡ Some (farm_no f, seat)
      → Wrote (entries_of d.long d.items) a before after → HandedOn (slot_sheet s f) h seat input d.items d.long
      → HandsExactly (slot_sheet s f) h r seat input a before after
  hands_exactly s r f seat h input d o w k =
      record {
        always = λ x. handed_out s r f seat (bytes_at h seat input) d o w (k.always x);
        only = λ es x y. k.only (subst (λ (n : ℕ). 1 ≤ n) (ap hand_on_entries (wrote-once es (entries_of d.long d.items) x w) ∙ entries_hand d.long d.items) y);
      }

  -- ---- responses

  pub responds_first : (s : List ℕ) (r f seat : ℕ) (q : Request) (code : ℕ) (d : Did) → owner_of s r ≡ Some (farm_no f, seat)
      → Wrote (entries_of d.long d.items) a before after
      → Begins (says (slot_sheet s f) seat (Activation q.address (slot_sheet s f).entity code)) d.items
      → RespondsFirst r q.address (slot_sheet s f).entity code a before after
  responds_first s r f seat q code d o w h =
      record {
        rest = entries_of d.long h.rest;
        wrote = subst (λ (es : List Entry). Wrote es a before after) is w;
      }
    where
      is : entries_of d.long d.items ≡ response_entry r q.address (slot_sheet s f).entity code ∷ entries_of d.long h.rest
      is =
          ap (entries_of d.long) h.begins
          ∙ ap (λ (x : ℕ). response_entry x q.address (slot_sheet s f).entity code ∷ entries_of d.long h.rest) (row_of_seat s r f seat o)

none-decided : (s : List ℕ) (row address : ℕ) (t : Table) (ms : List Made) → ms ≡ [] → Decided s row address t ms → ⊥
none-decided s row address t ms e (here entity code m r) = absurd (let z : ◌≡◌ {A = ℕ} 0 1 = cc in omega arith)
none-decided s row address t ms e (later d) = absurd (let z : ◌≡◌ {A = ℕ} 0 1 = cc in omega arith)

-- WHERE THE RULES DECIDE, A CALL OF THE HISTORY WROTE THE RESPONSE
pub decided_responds : (s : List ℕ) (row address : ℕ) {t m : List ℕ} {ms : List Made} {u n : List ℕ} → whole_table t ≡ true → (h : Calls s t m ms u n)
    → Decided s row address (lent_table s t m) ms → RespondsIn s row address h
unfolding RespondsIn
decided_responds s row address w (none t m) d = absurd (none-decided s row address (lent_table s t m) [] refl d)
decided_responds s row address w (more t m out c a after ms u n x rest) (here entity code i r) =
    inl
    (record {
      entity = entity;
      code = code;
      entries = _;
      wrote = entry-wrote s (step_of s (lent_table s t m) (made out m c)) _ (call-is c x w) i;
      sends = entry_among _ i;
      reasoned = r;
    })
decided_responds s row address w (more t m out c a after ms u n x rest) (later d) =
    inr
    (decided_responds s row address (call-whole c x w) rest (subst (λ (y : Table). Decided s row address y ms) (sym (call-means c x w)) d))
