-- A property that the single doings of a farm keep (MeterDoings) is kept by the calls of a farm: a call starts with nothing said, on a farm
-- that keeps rule 4.
-- Assumes nothing.
use Rattle.std.proofs.Common.{Option, Some, None, Result, Ok, Err}
use Rattle.kinds.specs.declared.Reply.{Reply}
use Rattle.kinds.specs.declared.Fault.{Fault}
use Prim.{Unit, tt}
use Prim.Native.Nat.{ℕ, zero, suc, ◌≤◌, ◌<◌}
use mathlib.Core.Path.{◌≡◌, refl, sym, ap, ◌∙◌}
use mathlib.Core.Bool.{Bool, true, false, false≢true}
use mathlib.Core.Logic.{inr}
use mathlib.Core.List.{List, [], ◌∷◌, ◌++◌}
use native.Mathlib.Nat.{not-suc-le-zero}
use native.Mathlib.Omega.{arith}
use lib.Dec.{eqb, leb}
use lib.ListN.{get_or, length, take}
use Rattle.octets.specs.Choice.{pick, one}
use Rattle.octets.specs.Search.{first_at}
use Rattle.kinds.specs.declared.Request.{Request}
use Rattle.kinds.specs.declared.Decision.{Decision}
use Rattle.kinds.specs.declared.Decision.TheVariants.{Now, Ask}
use Rattle.kinds.specs.declared.RowState.{RowState}
use Rattle.kinds.specs.declared.RowState.TheVariants.{Free, Fresh, Waiting, Active}
use Rattle.kinds.specs.declared.Place.{Place}
use Rattle.kinds.specs.declared.Row.{Row}
use Rattle.kinds.specs.declared.Item.{Item}
use Rattle.wire.specs.Header.{header_at, closes}
use Rattle.payload.specs.Payload.{request_in, address_in, ends_in}
use Rattle.payload.specs.declared.Ends.{Ends}
use Rattle.datagram.specs.Datagram.{datagram_verdict, payload_of, if_named, answer_by, answer_for, answer_to}
use Rattle.model.specs.FarmSheet.{FarmSheet, TargetIs, stranger, unreachable, reachable}
use Rattle.kinds.specs.Clock.{clock_of}
use Rattle.model.specs.Row.{boundary, row_at, in_hand_at, in_hand_by, in_hand, is_open_state, is_open, is_free_state, is_free, is_waiting_state, is_waiting, active_as, at_limit_state, at_limit, older, heard_state}
use Rattle.model.specs.Stream.{Stream, Event, input_ended, wrong, finished, skipped, Taken}
use Rattle.model.specs.Farm.{Farm, with_line, quietly, and_then, closed, closed_where}
use Rattle.model.specs.Line.{decide, settle, cleared, left}
use Rattle.model.specs.Bytes.{decided_by, requested, to_target, diagnosed, messaged, event_done, heard_row, heard, taken_by, bytes_done}
use Rattle.model.specs.Move.{connect, bytes, peer_closed, link_lost, datagram, controller, Held, Move, refused, gave, connected_at, connects, bytes_by, peer_gone, link_gone, clock_run, aged, ticked, open_rows, answers, datagram_move, is_target, to_tester, most_user, controller_move, move}
use Rattle.model.specs.Rule.{times, RowKeeps, Good}
use Rattle.model.specs.Meter.{is_close}
use Rattle.model.proofs.Cases.{pick_case, unless_case}
use Rattle.model.proofs.Rows.{row_put, row-set, row_same, row-map, open_in, older_open}
use Rattle.model.proofs.MeterBalance.{closing, Rests, takes_rests, hand_open, hand_boundary, Clear, clear_of, clear_older}
use Rattle.model.proofs.MeterDoings.{Laws, Keeps, Then, then_then, then_quiet, open_below, speak_keeps, closings_keeps, lines_keeps, first_picked, settle_keeps}
use Rattle.model.proofs.MeterLine.{Ready, ready_closed, ready_closings, ready_answered, ready_joined, ready_left, ready_marked}

-- ---- what rule 4 gives

-- a row that waits is open, and between two messages
waits : (own : FarmSheet) (r : Row) (s : RowState) → RowKeeps own r s → 1 ≤ one (is_waiting_state s)
    → (is_open_state s ≡ true) × (is_waiting_state s ≡ true) × (r.place ≡ boundary)
waits own r Free k h = absurd (omega arith)
waits own r (Fresh age) k h = absurd (omega arith)
waits own r (Waiting q) k h = (refl, refl, k.0)
waits own r (Active a idle) k h = absurd (omega arith)

module _ {own : FarmSheet} {f : Farm} (good : Good own f) where
  line-waits : (i : ℕ) → 1 ≤ times i f.line
      → (is_open (row_at f.rows i) ≡ true) × (is_waiting (row_at f.rows i) ≡ true) × ((row_at f.rows i).place ≡ boundary)
  line-waits i h = waits own (row_at f.rows i) (row_at f.rows i).state (good.rows_keep i) (omega (arith, good.lined i))

  line_own : (i : ℕ) → 1 ≤ times i f.line → i < own.rows
  line_own i h = open_below own f good.within i (line-waits i h).0

  line_hand : (i : ℕ) → 1 ≤ times i f.line → in_hand (row_at f.rows i) ≡ 0
  line_hand i h = ap (in_hand_by (row_at f.rows i).state) (line-waits i h).2 ∙ hand_boundary (row_at f.rows i).state

  pub good_ready : {Q : List Item → Farm → Type 0} → Q [] f → Ready own Q [] f
  good_ready q =
      record {
        keeps =
            record {
              holds = q;
              clear = clear_of own.rows f.rows f.line (λ i h. (line_own i h, line_hand i h));
              within = good.within;
            };
      }

-- ---- a bytes call

-- a row that bytes can come from
abbrev pub Talks : RowState → Type 0
Talks s = (is_open_state s ≡ true) × (is_waiting_state s ≡ false)

pub heard_open : (n : ℕ) (s : RowState) → is_open_state (heard_state n s) ≡ is_open_state s
heard_open n Free = refl
heard_open n (Fresh c) = refl
heard_open n (Waiting q) = refl
heard_open n (Active a c) = refl

module _ {own : FarmSheet} {f : Farm} (good : Good own f) (seat : ℕ) (talks : Talks (row_at f.rows seat).state) (t : Taken) where
  pub heard_hand : in_hand (heard_row t.count t.stream (row_at f.rows seat)) ≡ in_hand_at t.stream.place
  heard_hand =
      hand_open (heard_state t.count (row_at f.rows seat).state) t.stream.place
      (heard_open t.count (row_at f.rows seat).state ∙ talks.0)

  heard_clear : Clear own.rows (heard seat t f).rows (heard seat t f).line
  unfolding heard
  heard_clear =
      clear_of own.rows _ f.line
      (λ i h. (
        line_own good i h,
        row_put f.rows seat i _ (open_in f.rows seat talks.0) (λ y. in_hand y ≡ 0)
            (λ e. absurd (false≢true (sym talks.1 ∙ ap (λ (k : ℕ). is_waiting (row_at f.rows k)) (sym e) ∙ (line-waits good i h).1)))
            (λ _. line_hand good i h),
      ))

  heard-within : (i : ℕ) → own.rows ≤ i → is_open (row_at (heard seat t f).rows i) ≡ false
  unfolding heard
  heard-within i h =
      row-set f.rows seat i _ (λ y. is_open y ≡ false)
      (λ e _. absurd (false≢true (sym (good.within i h) ∙ ap (λ (k : ℕ). is_open (row_at f.rows k)) e ∙ talks.0))) (good.within i h)

  heard_rests : t.stream.place ≡ boundary → in_hand (row_at (heard seat t f).rows seat) ≡ 0
  unfolding heard
  heard_rests e =
      ap in_hand (row_same f.rows seat (heard_row t.count t.stream (row_at f.rows seat)) (open_in f.rows seat talks.0)) ∙
      heard_hand ∙ ap in_hand_at e

-- what ends the call, and what it brings about
module _ {own : FarmSheet} {Q : List Item → Farm → Type 0} (laws : Laws own Q) (seat : ℕ) (b : seat < own.rows) (f : Farm) where
  decided_ready : in_hand (row_at f.rows seat) ≡ 0 → (q : Request) (x : Decision) → Ready own Q [] f → Then (Ready own Q) [] (decided_by own seat q x f)
  decided_ready h q (Now code) k = ready_answered laws [] seat q.address code f b h k
  decided_ready h q (Ask check) k = ready_joined laws [] seat q f b h k

  speak_ready : (is : List Item) (it : Item) → is_close it.reply ≡ false → Ready own Q is f → Ready own Q (is ++ (it ∷ [])) f
  speak_ready is it e k = record { keeps = speak_keeps laws is it f e k.keeps }

  target_ready : (e : Ends) (x : TargetIs) → Ready own Q [] f → Then (Ready own Q) [] (to_target own seat e x f)
  target_ready e stranger k = speak_ready [] _ refl k
  target_ready e unreachable k = speak_ready [] _ refl k
  target_ready e reachable k = speak_ready _ _ refl (speak_ready [] _ refl k)

  diagnosed_ready : (e : Ends) → Ready own Q [] f → Then (Ready own Q) [] (diagnosed own seat e f)
  unfolding diagnosed
  diagnosed_ready e k =
      pick_case (Then (Ready own Q) []) (active_as e.source (row_at f.rows seat)) _ _ (λ _. target_ready e (own.target e.target) k)
      (λ _. then_then (Ready own Q) (Ready own Q) [] _ (closed own seat) (speak_ready [] _ refl k) (λ js q. ready_closed laws js seat f b q))

  messaged_ready : in_hand (row_at f.rows seat) ≡ 0 → (kind : ℕ) (payload : List ℕ) → Ready own Q [] f
      → Then (Ready own Q) [] (messaged own seat kind payload f)
  unfolding requested
  messaged_ready h kind payload k =
      pick_case (Then (Ready own Q) []) (eqb kind 0x0005) _ _
      (λ _. decided_ready h (request_in payload) (decide own f.rows seat (request_in payload)) k)
      (λ _. pick_case (Then (Ready own Q) []) (eqb kind 0x0008) _ _ (λ _. ready_marked laws [] seat (address_in payload) f k)
      (λ _. pick_case (Then (Ready own Q) []) (eqb kind 0x8001) _ _ (λ _. diagnosed_ready (ends_in payload) k) (λ _. k)))

  -- after a header that closes, only the closing is looked at
  event_ready : (e : Event) (s : Stream) (room : List ℕ) → Rests e s → (s.place ≡ boundary → in_hand (row_at f.rows seat) ≡ 0)
      → (closing e ≡ false → Ready own Q [] f)
      → (closing e ≡ true → (it : Item) → is_close it.reply ≡ false → Ready own Q ((it ∷ []) ++ (closed own seat f).items) (closed own seat f).farm)
      → Then (Ready own Q) [] (event_done own seat e room f)
  unfolding event_done and_then
  event_ready input_ended s room r h k c = k refl
  event_ready (wrong fault) s room r h k c =
      pick_case (Then (Ready own Q) []) (closes fault) _ _ (λ t. c t _ refl) (λ t. speak_ready [] _ refl (k t))
  event_ready (finished kind size) s room r h k c = messaged_ready (h r) kind (take size room) (k refl)
  event_ready (skipped size) s room r h k c = k refl

-- the property that says nothing, for what stands beside it
no_laws : (own : FarmSheet) → Laws own (λ is f. Unit {0})
no_laws own =
    record {
      closes = λ is seat f b q. tt;
      puts = λ is seat s f b o e q. tt;
      speaks = λ is it f e q. tt;
      lines = λ is f line clock marks q. tt;
      ages = λ is f q. tt;
    }

-- what an accepted call gives
abbrev pub Got : (List Item → Farm → Type 0) → Move → Type 0
Got Q (refused n) = Unit {0}
Got Q (gave g) = Q g.items g.held.farm

-- what has to hold when the bytes are taken
pub record Hears (own : FarmSheet) (Q : List Item → Farm → Type 0) (seat : ℕ) (t : Taken) (f : Farm) : Type 0 where
  pub goes : closing t.event ≡ false → Q [] (heard seat t f)
  pub shuts : closing t.event ≡ true → (it : Item) → is_close it.reply ≡ false
      → Q ((it ∷ []) ++ (closed own seat (heard seat t f)).items) (closed own seat (heard seat t f)).farm

module _ {own : FarmSheet} {Q : List Item → Farm → Type 0} (laws : Laws own Q) where
  bytes_keeps : (f : Farm) → Good own f → (seat : ℕ) → Talks (row_at f.rows seat).state → (t : Taken) → Rests t.event t.stream
      → Hears own Q seat t f → Then Q [] (bytes_done own seat t f)
  unfolding bytes_done
  bytes_keeps f good seat talks t r h =
      then_then (Ready own Q) Q [] (event_done own seat t.event t.stream.room (heard seat t f)) (settle own)
      (event_ready laws seat b (heard seat t f) t.event t.stream t.stream.room r (heard_rests good seat talks t)
      (λ c. record { keeps = record { holds = h.goes c; clear = heard_clear good seat talks t; within = heard-within good seat talks t } })
      (λ c it e. let k = ready_closed (no_laws own) (it ∷ []) seat (heard seat t f) b
      (record { keeps = record { holds = tt; clear = heard_clear good seat talks t; within = heard-within good seat talks t } }) in
      record { keeps = record { holds = h.shuts c it e; clear = k.keeps.clear; within = k.keeps.within } }))
      (λ js q. settle_keeps laws _ js _ q.keeps)
    where
      b : seat < own.rows
      b = open_below own f good.within seat talks.0

  bytes-by_got : (h : Held) → Good own h.farm → (seat : ℕ) (input : List ℕ) (s : RowState) → (row_at h.farm.rows seat).state ≡ s
      → (Talks (row_at h.farm.rows seat).state → Hears own Q seat (taken_by seat (get_or h.rooms seat []) input h.farm) h.farm)
      → Got Q (bytes_by own h seat input s)
  bytes-by_got h good seat input Free e k = tt
  bytes-by_got h good seat input (Fresh age) e k =
      let w : Talks (row_at h.farm.rows seat).state = rw e (refl, refl) in
      bytes_keeps h.farm good seat w (taken_by seat (get_or h.rooms seat []) input h.farm) (takes_rests _ input) (k w)
  bytes-by_got h good seat input (Waiting q) e k = tt
  bytes-by_got h good seat input (Active a idle) e k =
      let w : Talks (row_at h.farm.rows seat).state = rw e (refl, refl) in
      bytes_keeps h.farm good seat w (taken_by seat (get_or h.rooms seat []) input h.farm) (takes_rests _ input) (k w)

  pub bytes_got : (h : Held) → Good own h.farm → (seat : ℕ) (input : List ℕ)
      → (Talks (row_at h.farm.rows seat).state → Hears own Q seat (taken_by seat (get_or h.rooms seat []) input h.farm) h.farm)
      → Got Q (move own h (bytes seat input))
  unfolding move
  bytes_got h good seat input k = bytes-by_got h good seat input (row_at h.farm.rows seat).state refl k

-- ---- connect

taken-row : (n : ℕ) (rows : List Row) (i : ℕ) → i < length (take n rows)
    → (i < n) × (i < length rows) × (row_at (take n rows) i ≡ row_at rows i)
taken-row zero [] i h = absurd (not-suc-le-zero h)
taken-row zero (x ∷ rows) i h = absurd (not-suc-le-zero h)
taken-row (suc n) [] i h = absurd (not-suc-le-zero h)
taken-row (suc n) (x ∷ rows) zero h = (omega arith, omega arith, refl)
taken-row (suc n) (x ∷ rows) (suc i) h =
    let k = taken-row n rows i (omega arith) in (omega (arith, k.0), omega (arith, k.1), k.2)

free_hand : (s : RowState) (p : Place) → is_free_state s ≡ true → in_hand_by s p ≡ 0
free_hand Free p e = refl
free_hand (Fresh c) p e = absurd (false≢true e)
free_hand (Waiting q) p e = absurd (false≢true e)
free_hand (Active a c) p e = absurd (false≢true e)

-- the row that a connect opens
pub record Opens (own : FarmSheet) (f : Farm) (seat : ℕ) : Type 0 where
  pub below : seat < own.rows
  pub inside : seat < length f.rows
  pub is_freed : is_free (row_at f.rows seat) ≡ true

pub opens_at : (own : FarmSheet) (f : Farm) (seat : ℕ) → first_at is_free 0 (take own.rows f.rows) ≡ Some seat → Opens own f seat
opens_at own f seat e =
    let q = first_picked is_free (take own.rows f.rows) 0 seat e in
    let z : q.seat ≡ seat = omega (arith, q.at) in
    let k = taken-row own.rows f.rows q.seat q.inside in
    record {
      below = omega (arith, k.0);
      inside = omega (arith, k.1);
      is_freed = ap (λ (i : ℕ). is_free (row_at f.rows i)) (sym z) ∙ ap is_free (sym k.2) ∙ q.is;
    }

-- a row at its limit is open
limit_open : (s : RowState) → at_limit_state s ≡ true → is_open_state s ≡ true
limit_open Free e = absurd (false≢true e)
limit_open (Fresh c) e = refl
limit_open (Waiting q) e = refl
limit_open (Active a c) e = refl

-- ---- no datagram is answered by a close

abbrev closes_by : Option Reply → Bool
closes_by None = false
closes_by (Some reply) = is_close reply

either_way : (b : Bool) (x y : Option Reply) → closes_by x ≡ false → closes_by y ≡ false → closes_by (pick b x y) ≡ false
either_way true x y e f = e
either_way false x y e f = f

answer_calls : (kind : ℕ) (payload farm : List ℕ) (opened : ℕ) → closes_by (answer_by kind payload farm opened) ≡ false
unfolding answer_by
answer_calls kind payload farm opened =
    either_way (eqb kind 0x0001) _ _ refl
    (either_way (eqb kind 0x0002) _ _ (simp named)
    (either_way (eqb kind 0x0003) _ _ (simp named)
    (either_way (eqb kind 0x4001) _ _ refl (either_way (eqb kind 0x4003) _ _ refl refl))))
  where
    named : (b : Bool) → closes_by (if_named b) ≡ false
    named true = refl
    named false = refl

verdict_calls : (v : Option (Result Unit Fault)) (d farm : List ℕ) (opened : ℕ) → closes_by (answer_for v d farm opened) ≡ false
verdict_calls None d farm opened = refl
verdict_calls (Some (Ok tt)) d farm opened = answer_calls (header_at d 0).kind (payload_of d) farm opened
verdict_calls (Some (Err fault)) d farm opened = refl

datagram_calls : (d farm : List ℕ) (opened : ℕ) → closes_by (answer_to d farm opened) ≡ false
unfolding answer_to
datagram_calls d farm opened = verdict_calls (datagram_verdict d) d farm opened

module _ {own : FarmSheet} {Q : List Item → Farm → Type 0} (laws : Laws own Q) where
  connected_got : (h : Held) (x : Option ℕ) → first_at is_free 0 (take own.rows h.farm.rows) ≡ x → Q [] h.farm → Got Q (connected_at own h x)
  connected_got h None e q = tt
  connected_got h (Some seat) e q =
      let o = opens_at own h.farm seat e in
      let r = row_at h.farm.rows seat in
      laws.puts [] seat (Fresh (clock_of 0)) h.farm o.below refl (free_hand r.state r.place o.is_freed) q

  peer_keeps : (f : Farm) → Good own f → (seat : ℕ) → is_open (row_at f.rows seat) ≡ true → Q [] f → Then Q [] (peer_gone own seat f)
  unfolding peer_gone
  peer_keeps f good seat o q =
      then_then (Ready own Q) Q [] (and_then (closed own seat f) (left own seat)) (settle own)
      (then_then (Ready own Q) (Ready own Q) [] (closed own seat f) (left own seat)
      (ready_closed laws [] seat f (open_below own f good.within seat o) (good_ready good q)) (λ js k. ready_left laws js seat _ k))
      (λ js k. settle_keeps laws _ js _ k.keeps)

  link_keeps : (f : Farm) → Good own f → Q [] f → Then Q [] (link_gone own f)
  unfolding link_gone
  link_keeps f good q =
      then_then (Keeps own Q f.line) Q [] (closed_where own (λ seat r. is_open r) f) (λ g. quietly (cleared (with_line g [])))
      (closings_keeps laws [] (λ seat r. is_open r) f (λ i r t. inr t) (good_ready good q).keeps)
      (λ js k. then_quiet Q js _ (lines_keeps laws js _ _ _ _ k).holds)

  run_ready : (l : List ℕ) (f : Farm) → Ready own Q [] f → Ready own Q [] (clock_run l f)
  run_ready [] f k = k
  run_ready (head ∷ rest) f k = record { keeps = lines_keeps laws [] f f.line _ f.marks k.keeps }

  aged_ready : (f : Farm) → Ready own Q [] f → Ready own Q [] (aged f)
  aged_ready f k =
      record {
        keeps =
            record {
              holds = laws.ages [] f k.keeps.holds;
              clear = clear_older k.keeps.clear;
              within = λ i h. ap is_open (row-map older refl f.rows i) ∙ older_open (row_at f.rows i).state ∙ k.keeps.within i h;
            };
      }

  pub tick_keeps : (f : Farm) → Good own f → Q [] f → Then Q [] (ticked own f)
  unfolding ticked
  tick_keeps f good q =
      then_then (Ready own Q) Q [] (closed_where own (λ seat r. at_limit r) (aged (clock_run f.line f))) (settle own)
      (ready_closings laws [] (λ seat r. at_limit r) (aged (clock_run f.line f)) (λ i r t. inr (limit_open r.state t))
      (aged_ready (clock_run f.line f) (run_ready f.line f (good_ready good q))))
      (λ js k. settle_keeps laws _ js _ k.keeps)

  answers_keeps : (x : Option Reply) (f : Farm) → closes_by x ≡ false → Q [] f → Q (answers x) f
  answers_keeps None f e q = q
  answers_keeps (Some reply) f e q = laws.speaks [] _ f e q

  tester_got : (h : Held) (from to : ℕ) (user : List ℕ) (x : Option ℕ) → Q [] h.farm → Got Q (to_tester own h from to user x)
  tester_got h from to user None q = tt
  tester_got h from to user (Some seat) q = laws.speaks [] _ h.farm refl q

  controller_got : (h : Held) (from to : ℕ) (user : List ℕ) → Q [] h.farm → Got Q (controller_move own h from to user)
  unfolding controller_move
  controller_got h from to user q =
      unless_case (Got Q) (leb 1 (length user)) _ _ (λ _. tt)
      (λ _. unless_case (Got Q) (leb (length user) most_user) _ _ (λ _. tt)
      (λ _. unless_case (Got Q) (is_target (own.target from)) _ _ (λ _. tt)
      (λ _. tester_got h from to user (first_at (active_as to) 0 h.farm.rows) q)))

  -- the calls that take no bytes
  pub connect_got : (h : Held) → Q [] h.farm → Got Q (move own h connect)
  unfolding move connects
  connect_got h q = connected_got h (first_at is_free 0 (take own.rows h.farm.rows)) refl q

  pub peer_got : (h : Held) → Good own h.farm → (seat : ℕ) → Q [] h.farm → Got Q (move own h (peer_closed seat))
  unfolding move
  peer_got h good seat q =
      pick_case (Got Q) (is_open (row_at h.farm.rows seat)) _ _ (λ t. peer_keeps h.farm good seat t q) (λ _. tt)

  pub link_got : (h : Held) → Good own h.farm → Q [] h.farm → Got Q (move own h link_lost)
  unfolding move
  link_got h good q = link_keeps h.farm good q

  pub datagram_got : (h : Held) (input : List ℕ) → Q [] h.farm → Got Q (move own h (datagram input))
  unfolding move datagram_move
  datagram_got h input q =
      answers_keeps (answer_to input own.names (open_rows h.farm)) h.farm (datagram_calls input own.names (open_rows h.farm)) q

  pub message_got : (h : Held) (from to : ℕ) (user : List ℕ) → Q [] h.farm → Got Q (move own h (controller from to user))
  unfolding move
  message_got h from to user q = controller_got h from to user q
