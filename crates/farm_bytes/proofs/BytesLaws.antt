-- Laws of a bytes call: the seats of the line, the payload's length, and the parts put together.
-- Assumes nothing.
use Prim.Native.Nat.{ℕ, zero, suc, ◌≤◌, ◌<◌}
use mathlib.Core.Path.{◌≡◌, refl, sym, subst}
use mathlib.Core.Bool.{Bool, true, false}
use mathlib.Core.List.{List, [], ◌∷◌, ◌++◌}
use native.Mathlib.Omega.{arith}
use lib.Dec.{eqb}
use lib.ListN.{get_or, take}
use Rattle.octets.specs.Choice.{pick}
use Rattle.kinds.specs.declared.Request.{Request}
use Rattle.kinds.specs.declared.Item.{Item}
use Rattle.kinds.specs.declared.Decision.{Decision}
use Rattle.kinds.specs.declared.Decision.TheVariants.{Now, Ask}
use Rattle.kinds.specs.declared.Site.{Site}
use Rattle.payload.specs.declared.Ends.{Ends}
use Rattle.wire.specs.Header.{closes, most_payload}
use Rattle.payload.specs.Payload.{request_in, ends_in}
use Rattle.model.specs.FarmSheet.{FarmSheet, TargetIs, stranger, unreachable, reachable}
use Rattle.model.specs.Row.{row_at, active_as, waiting_row}
use Rattle.model.specs.Stream.{is_stored, Event, input_ended, wrong, finished, skipped, Taken}
use Rattle.model.specs.Farm.{Farm, with_row, with_line, Done, and_then, closed}
use Rattle.model.specs.Line.{accepted, decide, answered, joined, is_empty, answers_check, marked, settle}
use Rattle.model.specs.Bytes.{decided_by, requested, to_target, diagnosed, event_done, heard, payload_by, bytes_done}
use Rattle.model.proofs.Cases.{pick_case}
use Rattle.model.proofs.SameSite.{SameSite, settle_same}
use Rattle.model.proofs.Settling.{started-farm}
use Rattle.table.specs.Layout.{seats}
use Rattle.table.specs.Block.{farm_of, Holds}
use Rattle.decide.specs.SiteSheet.{site_sheet}
use Rattle.closing.specs.Did.{Seated, Did}
use Rattle.closing.proofs.DidLaws.{did_same, did_then, did_after}
use Rattle.messages.specs.Length.{EndsWell}
use Rattle.farm_heard.specs.Heard.{payload_long}

-- ---- the seats of the line

seated_join : (l : List ℕ) (x : ℕ) → ((k : ℕ) → get_or l k 0 < seats) → x < seats → (k : ℕ) → get_or (l ++ (x ∷ [])) k 0 < seats
seated_join [] x h e zero = e
seated_join [] x h e (suc k) = omega arith
seated_join (y ∷ l) x h e zero = h 0
seated_join (y ∷ l) x h e (suc k) = seated_join l x (λ j. h (suc j)) e k

-- what a bytes call does before the line is settled leaves the line alone, or the row joins it
module _ (own : FarmSheet) (seat : ℕ) (h : seat < seats) (f : Farm) (s : Seated f.line) where
  Sits : Done → Type 0
  Sits d = Seated d.farm.line

  answered_sits : (address code : ℕ) → Sits (answered own seat address code f)
  unfolding answered and_then closed Sits
  answered_sits address code = pick_case Sits (eqb code accepted) _ _ (λ e. s) (λ e. s)

  joined_sits : (q : Request) → Sits (joined own seat q f)
  unfolding joined Sits
  joined_sits q =
      let g : Farm = with_line (with_row f seat (waiting_row q)) (f.line ++ (seat ∷ [])) in
      let t : Seated (f.line ++ (seat ∷ [])) = record { each = seated_join f.line seat s.each h } in
      pick_case Sits (is_empty f.line) _ _ (λ e. subst (λ (x : Farm). Seated x.line) (sym (started-farm own g)) t) (λ e. t)

  requested_sits : (q : Request) → Sits (requested own seat q f)
  unfolding requested
  requested_sits q = by (decide own f.rows seat q)
    where
      by : (d : Decision) → Sits (decided_by own seat q d f)
      by (Now code) = answered_sits q.address code
      by (Ask check) = joined_sits q

  diagnosed_sits : (e : Ends) → Sits (diagnosed own seat e f)
  unfolding diagnosed and_then closed Sits
  diagnosed_sits e = pick_case Sits (active_as e.source (row_at f.rows seat)) _ _ (λ _. by (own.target e.target)) (λ _. s)
    where
      by : (t : TargetIs) → Sits (to_target own seat e t f)
      by stranger = s
      by unreachable = s
      by reachable = s

  marked_sits : (a : ℕ) → Seated (marked own seat a f).line
  unfolding marked
  marked_sits a = pick_case (λ (x : Farm). Seated x.line) (answers_check own seat a f) _ _ (λ _. s) (λ _. s)

  pub event_sits : (e : Event) (room : List ℕ) → Seated (event_done own seat e room f).farm.line
  unfolding event_done and_then closed Sits
  event_sits input_ended room = s
  event_sits (wrong fault) room = pick_case Sits (closes fault) _ _ (λ _. s) (λ _. s)
  event_sits (finished kind size) room =
      pick_case Sits (eqb kind 0x0005) _ _ (λ _. requested_sits (request_in (take size room)))
      (λ _. pick_case Sits (eqb kind 0x0008) _ _ (λ _. marked_sits _)
      (λ _. pick_case Sits (eqb kind 0x8001) _ _ (λ _. diagnosed_sits (ends_in (take size room))) (λ _. s)))
  event_sits (skipped size) room = s

pub heard-line : (seat : ℕ) (t : Taken) (f : Farm) → (heard seat t f).line ≡ f.line
unfolding heard
heard-line seat t f = refl

-- ---- the payload

pub payload-taken : (e : Event) (room : List ℕ) → take (payload_long e) room ≡ payload_by e room
payload-taken input_ended room = refl
payload-taken (wrong fault) room = refl
payload-taken (finished kind size) room = by (is_stored kind)
  where
    by : (b : Bool) → take (pick b size 0) room ≡ pick b (take size room) []
    by true = refl
    by false = refl
payload-taken (skipped size) room = refl

pub payload-short : (e : Event) → EndsWell e → payload_long e ≤ most_payload
payload-short input_ended w = omega arith
payload-short (wrong fault) w = omega arith
payload-short (finished kind size) w = by (is_stored kind)
  where
    by : (b : Bool) → pick b size 0 ≤ most_payload
    by true = w.short
    by false = omega arith
payload-short (skipped size) w = omega arith

-- ---- the call: the row is heard, what ended it is done, the line is settled

pub bytes-did : {p q r : List Item} {b c d : List ℕ} (own : FarmSheet) (site : Site) (seat : ℕ) (t : Taken) (f : Farm) → SameSite (site_sheet site) own
    → Holds b (heard seat t f) → Did p c q (event_done own seat t.event t.stream.room (farm_of b)) → Did q d r (settle (site_sheet site) (farm_of c))
    → Did p d r (bytes_done own seat t f)
unfolding bytes_done
bytes-did {c = c} own site seat t f same h x y =
    did_then (event_done own seat t.event t.stream.room (heard seat t f)) (settle own)
    (did_after (event_done own seat t.event t.stream.room) h x)
    (did_same _ (settle_same (site_sheet site) own same (farm_of c)) y)
