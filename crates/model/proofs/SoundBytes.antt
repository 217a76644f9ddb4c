-- A bytes call keeps the half `Sound` of rule 4.
-- Assumes nothing.
use Prim.Native.Nat.{ℕ, ◌≤◌, ◌<◌}
use mathlib.Core.Path.{◌≡◌, refl, sym, ap, ◌∙◌}
use mathlib.Core.Bool.{true, false, true≢false}
use mathlib.Core.List.{List, [], ◌∷◌, ◌++◌}
use native.Mathlib.Omega.{arith}
use lib.Dec.{eqb, leb}
use lib.ListN.{set, take, length, length-set}
use borrow.Author.Tests.{leb-true, eqb-true, eq-eqb, ne_eqb}
use Rattle.octets.specs.Choice.{one}
use Rattle.octets.specs.Search.{count_if}
use Rattle.kinds.specs.declared.Clock.{Clock}
use Rattle.kinds.specs.declared.Request.{Request}
use Rattle.kinds.specs.declared.RowState.{RowState}
use Rattle.kinds.specs.declared.RowState.TheVariants.{Free, Fresh, Waiting, Active}
use Rattle.kinds.specs.declared.Row.{Row}
use Rattle.kinds.specs.declared.Decision.{Decision}
use Rattle.payload.specs.declared.Ends.{Ends}
use Rattle.wire.specs.Header.{closes}
use Rattle.payload.specs.Payload.{request_in, address_in, ends_in}
use Rattle.model.specs.FarmSheet.{FarmSheet, TargetIs, stranger, unreachable, reachable}
use Rattle.kinds.specs.Clock.{general_limit, clock_of}
use Rattle.model.specs.Row.{waiting_row, active_row, row_at, is_open_state, is_open, is_waiting_state, is_waiting, is_active_state, is_active, active_as_state, active_as, at_limit_state, heard_state}
use Rattle.model.specs.Stream.{Event, input_ended, wrong, finished, skipped, Taken, stream_of}
use Rattle.model.specs.Farm.{Farm, Done, and_then}
use Rattle.model.specs.Line.{accepted, by_state, socket_rules, decide, answered, is_empty, joined, marked, answers_check}
use Rattle.model.specs.Bytes.{decided_by, requested, to_target, diagnosed, event_done, heard_row, heard, taken_by, bytes_done}
use Rattle.model.specs.Rule.{RowKeeps}
use Rattle.model.proofs.Cases.{pick_case, unless_case}
use Rattle.model.proofs.Codes.{zero-refuses, two-refuses, six_refuses}
use Rattle.model.proofs.Rows.{row_same, open_in, times_append}
use Rattle.model.proofs.RuleParts.{Sound}
use Rattle.model.proofs.SoundRows.{Kept, Lined, Young, kept_of, sound_from, active_young, Fits, put-kept, put-young, put-lined}
use Rattle.model.proofs.SoundClose.{closed_sound}
use Rattle.model.proofs.SoundLine.{socket_case, started_sound, room_fits, settled_sound}
use Rattle.model.proofs.SoundStream.{PossibleIn, takes_well}

-- a row that bytes can come from: open, and not waiting
pub record Talks (f : Farm) (seat : ℕ) : Type 0 where
  pub opened : is_open (row_at f.rows seat) ≡ true
  pub loud : is_waiting (row_at f.rows seat) ≡ false

-- ---- the row with its new place

module _ (n : ℕ) where
  heard_open : (s : RowState) → is_open_state (heard_state n s) ≡ is_open_state s
  heard_open Free = refl
  heard_open (Fresh c) = refl
  heard_open (Waiting q) = refl
  heard_open (Active a c) = refl

  heard_waiting : (s : RowState) → is_waiting_state (heard_state n s) ≡ is_waiting_state s
  heard_waiting Free = refl
  heard_waiting (Fresh c) = refl
  heard_waiting (Waiting q) = refl
  heard_waiting (Active a c) = refl

  heard_active : (s : RowState) → is_active_state (heard_state n s) ≡ is_active_state s
  heard_active Free = refl
  heard_active (Fresh c) = refl
  heard_active (Waiting q) = refl
  heard_active (Active a c) = refl

  heard_as : (b : ℕ) (s : RowState) → active_as_state b (heard_state n s) ≡ active_as_state b s
  heard_as b Free = refl
  heard_as b (Fresh c) = refl
  heard_as b (Waiting q) = refl
  heard_as b (Active a c) = refl

  heard_keeps : (own : FarmSheet) (r x : Row) (s : RowState) → is_waiting_state s ≡ false → RowKeeps own r s → RowKeeps own x (heard_state n s)
  heard_keeps own r x Free e k = tt
  heard_keeps own r x (Fresh c) e k = tt
  heard_keeps own r x (Waiting q) e k = absurd (true≢false e)
  heard_keeps own r x (Active a c) e k = k

  heard-young : (s : RowState) → at_limit_state s ≡ false → at_limit_state (heard_state n s) ≡ false
  heard-young Free e = refl
  heard-young (Fresh c) e = e
  heard-young (Waiting q) e = refl
  heard-young (Active a c) e = pick_case (λ (d : Clock). leb general_limit d.ticks ≡ false) (eqb n 0) c (clock_of 0) (λ _. e) (λ _. active_young a)

module _ {own : FarmSheet} {f : Farm} (seat : ℕ) (t : Taken) (s : Sound own f) (k : Talks f seat) where
  now : Row
  now = heard_row t.count t.stream (row_at f.rows seat)

  was : RowState
  was = (row_at f.rows seat).state

  inside : seat < length f.rows
  inside = open_in f.rows seat k.opened

  pub heard_sound : PossibleIn t.stream → Sound own (heard seat t f)
  unfolding heard now was
  heard_sound p =
      sound_from
      (put-kept (kept_of s)
      (record {
        inside = inside;
        mine = λ h. absurd (true≢false (sym k.opened ∙ s.within seat h));
        keeps = heard_keeps t.count own (row_at f.rows seat) now was k.loud (s.rows_keep seat);
        once = λ a. let z : one (active_as a now) ≡ one (active_as a (row_at f.rows seat)) = ap one (heard_as t.count a was) in omega (arith, s.active_once a);
        places = let z : one (is_active now) ≡ one (is_active (row_at f.rows seat)) = ap one (heard_active t.count was) in omega (arith, s.places_left);
        can = p;
      }))
      (put-young f.rows seat now (heard-young t.count was (s.young seat)) s.young)
      (put-lined f.rows f.line seat now f.line inside (s.lined seat ∙ ap one (sym (heard_waiting t.count was))) (λ _ _. refl) s.lined)
      s.marks_too

  pub heard_talks : Talks (heard seat t f) seat
  unfolding heard now was
  heard_talks =
      let e : row_at (set f.rows seat now) seat ≡ now = row_same f.rows seat now inside in
      record {
        opened = ap is_open e ∙ heard_open t.count was ∙ k.opened;
        loud = ap is_waiting e ∙ heard_waiting t.count was ∙ k.loud;
      }

-- ---- a request

module _ {own : FarmSheet} {f : Farm} (seat : ℕ) (s : Sound own f) (k : Talks f seat) where
  -- "All codes but 10 close the row."
  pub refused_sound : (a code : ℕ) → eqb code accepted ≡ false → Sound own (answered own seat a code f).farm
  unfolding answered and_then
  refused_sound a code e =
      pick_case (λ (d : Done). Sound own d.farm) (eqb code accepted) _ _ (λ t. absurd (true≢false (sym t ∙ e))) (λ _. closed_sound seat k.loud s)

  pub accepted_sound : (a : ℕ) → Fits own f.rows seat (active_row a) → Sound own (answered own seat a accepted f).farm
  unfolding answered and_then
  accepted_sound a fits =
      pick_case (λ (d : Done). Sound own d.farm) (eqb accepted accepted) _ _
      (λ _. sound_from (put-kept (kept_of s) fits) (put-young f.rows seat (active_row a) (active_young a) s.young)
      (put-lined f.rows f.line seat (active_row a) f.line fits.inside (s.lined seat ∙ ap one k.loud) (λ _ _. refl) s.lined) s.marks_too)
      (λ _. closed_sound seat k.loud s)

  -- the row joins the end of the line
  pub joined_sound : (q : Request) → is_active (row_at f.rows seat) ≡ false → own.tester q.address ≡ true → q.kind ≤ 1
      → Sound own (joined own seat q f).farm
  unfolding joined count_if
  joined_sound q idle known small =
      pick_case (λ (d : Done). Sound own d.farm) (is_empty f.line) _ _
      (λ _. started_sound (record { kept = kept; young = young; lined = lined }))
      (λ _. sound_from kept young lined s.marks_too)
    where
      within-rows : seat < length f.rows
      within-rows = open_in f.rows seat k.opened

      kept : Kept own (set f.rows seat (waiting_row q))
      kept =
          put-kept (kept_of s)
          (record {
            inside = within-rows;
            mine = λ h. absurd (true≢false (sym k.opened ∙ s.within seat h));
            keeps = (refl, known, small);
            once = λ a. omega (arith, s.active_once a);
            places = omega (arith, s.places_left);
            can = omega arith;
          })

      young : Young (set f.rows seat (waiting_row q))
      young = put-young f.rows seat (waiting_row q) refl s.young

      lined : Lined (set f.rows seat (waiting_row q)) (f.line ++ (seat ∷ []))
      lined =
          put-lined f.rows f.line seat (waiting_row q) (f.line ++ (seat ∷ [])) within-rows
          (let o : one (eqb seat seat) ≡ 1 = ap one (eq-eqb seat seat refl) in
          let z : one (is_waiting (row_at f.rows seat)) ≡ 0 = ap one k.loud in
          omega (arith, times_append seat f.line (seat ∷ []), s.lined seat))
          (λ i n. let o : one (eqb i seat) ≡ 0 = ap one (ne_eqb i seat n) in omega (arith, times_append i f.line (seat ∷ [])))
          s.lined

  -- a row that is not active
  socket_sound : (q : Request) → is_active (row_at f.rows seat) ≡ false → own.tester q.address ≡ true → q.kind ≤ 1
      → Sound own (decided_by own seat q (socket_rules own f.rows q.address) f).farm
  socket_sound q idle known small =
      socket_case (λ d. Sound own (decided_by own seat q d f).farm) own f.rows q.address (λ _ _ _. joined_sound q idle known small)
      (λ _ _. joined_sound q idle known small)
      (λ z h. accepted_sound q.address (room_fits seat q.address (kept_of s) k.opened idle known (record { nobody = z; place = h })))

  -- a row that is active already, and asks for its own address again
  again_fits : (a b : ℕ) (c : Clock) → (row_at f.rows seat).state ≡ Active b c → b ≡ a → own.tester a ≡ true → Fits own f.rows seat (active_row a)
  again_fits a b c e same known =
      record {
        inside = open_in f.rows seat k.opened;
        mine = λ h. absurd (true≢false (sym k.opened ∙ s.within seat h));
        keeps = known;
        once =
            λ d. let z : one (active_as d (row_at f.rows seat)) ≡ one (eqb a d) = ap (λ x. one (active_as_state d x)) e ∙ ap (λ x. one (eqb x d)) same in
            omega (arith, s.active_once d);
        places = let z : one (is_active (row_at f.rows seat)) ≡ 1 = ap (λ x. one (is_active_state x)) e in omega (arith, s.places_left);
        can = omega arith;
      }

  pub requested_sound : (q : Request) → Sound own (requested own seat q f).farm
  unfolding requested decide
  requested_sound q =
      unless_case P (own.tester q.address) _ _ (λ _. refused_sound q.address 0 zero-refuses)
      (λ t. unless_case P (leb q.kind 1) _ _ (λ _. refused_sound q.address 6 six_refuses)
      (λ u. by (row_at f.rows seat).state refl t (leb-true q.kind 1 u)))
    where
      P : Decision → Type 0
      P d = Sound own (decided_by own seat q d f).farm

      by : (x : RowState) → (row_at f.rows seat).state ≡ x → own.tester q.address ≡ true → q.kind ≤ 1 → P (by_state own f.rows q.address x)
      by Free e t u = socket_sound q (ap is_active_state e) t u
      by (Fresh c) e t u = socket_sound q (ap is_active_state e) t u
      by (Waiting r) e t u = socket_sound q (ap is_active_state e) t u
      by (Active b c) e t u =
          pick_case P (eqb b q.address) _ _ (λ v. accepted_sound q.address (again_fits q.address b c e (eqb-true b q.address v) t))
          (λ _. refused_sound q.address 2 two-refuses)

  -- ---- the other messages, and a header that is wrong

  pub marked_sound : (a : ℕ) → Sound own (marked own seat a f)
  unfolding marked
  marked_sound a =
      pick_case (Sound own) (answers_check own seat a f) _ _
      (λ _. sound_from (kept_of s) s.young s.lined (length-set f.marks seat true ∙ s.marks_too)) (λ _. s)

  pub diagnosed_sound : (e : Ends) → Sound own (diagnosed own seat e f).farm
  unfolding diagnosed and_then
  diagnosed_sound e =
      pick_case (λ (d : Done). Sound own d.farm) (active_as e.source (row_at f.rows seat)) _ _ (λ _. by (own.target e.target))
      (λ _. closed_sound seat k.loud s)
    where
      by : (t : TargetIs) → Sound own (to_target own seat e t f).farm
      by stranger = s
      by unreachable = s
      by reachable = s

  pub event_sound : (e : Event) (room : List ℕ) → Sound own (event_done own seat e room f).farm
  unfolding event_done and_then
  event_sound input_ended room = s
  event_sound (wrong fault) room = pick_case (λ (d : Done). Sound own d.farm) (closes fault) _ _ (λ _. closed_sound seat k.loud s) (λ _. s)
  event_sound (finished kind size) room =
      pick_case (λ (d : Done). Sound own d.farm) (eqb kind 0x0005) _ _ (λ _. requested_sound (request_in (take size room)))
      (λ _. pick_case (λ (d : Done). Sound own d.farm) (eqb kind 0x0008) _ _ (λ _. marked_sound (address_in (take size room)))
      (λ _. pick_case (λ (d : Done). Sound own d.farm) (eqb kind 0x8001) _ _ (λ _. diagnosed_sound (ends_in (take size room))) (λ _. s)))
  event_sound (skipped size) room = s

-- what a bytes call takes leaves the stream at a possible place
pub taken_well : {own : FarmSheet} {f : Farm} (seat : ℕ) (room input : List ℕ) → Sound own f → PossibleIn (taken_by seat room input f).stream
taken_well {own} {f} seat room input s = takes_well (stream_of (row_at f.rows seat).place (row_at f.rows seat).head room) input (s.possible seat)

-- a bytes call keeps it, of a row that is open and not waiting, whatever it takes
pub bytes_sound : {own : FarmSheet} {f : Farm} (seat : ℕ) (t : Taken) → Sound own f → Talks f seat → PossibleIn t.stream
    → Sound own (bytes_done own seat t f).farm
unfolding bytes_done and_then
bytes_sound seat t s k p = settled_sound (event_sound seat (heard_sound seat t s k p) (heard_talks seat t s k) t.event t.stream.room)
