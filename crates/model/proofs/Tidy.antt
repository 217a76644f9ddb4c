-- Every call keeps every row tidy (and so does a tick).
-- Assumes nothing.
use Rattle.std.proofs.Common.{Option, Some, None}
use Prim.Native.Nat.{ℕ}
use mathlib.Core.Path.{◌≡◌, refl, ap}
use mathlib.Core.Bool.{Bool, true, false}
use mathlib.Core.List.{List, [], ◌∷◌}
use lib.Dec.{eqb, leb}
use lib.ListN.{length, take, get_or}
use Rattle.octets.specs.Choice.{pick, unless}
use Rattle.octets.specs.Search.{first_at}
use Rattle.kinds.specs.declared.Request.{Request}
use Rattle.kinds.specs.declared.RowState.{RowState}
use Rattle.kinds.specs.declared.RowState.TheVariants.{Free, Fresh, Waiting, Active}
use Rattle.kinds.specs.declared.Row.{Row}
use Rattle.kinds.specs.declared.Check.{Check}
use Rattle.kinds.specs.declared.Reply.TheVariants.{AliveCheck, DiagnosticNack}
use Rattle.kinds.specs.declared.Decision.{Decision}
use Rattle.kinds.specs.declared.Decision.TheVariants.{Now, Ask}
use Rattle.kinds.specs.declared.HeadVerdict.{HeadVerdict}
use Rattle.kinds.specs.declared.HeadVerdict.TheVariants.{Pending, Answer, RunOut}
use Rattle.payload.specs.declared.Ends.{Ends}
use Rattle.wire.specs.Header.{closes}
use Rattle.payload.specs.Payload.{request_in, address_in, ends_in}
use Rattle.model.specs.FarmSheet.{FarmSheet, TargetIs, stranger, unreachable, reachable}
use Rattle.model.specs.Row.{free_row, row_at, is_free_state, is_free, older, wanted, is_open, active_as}
use Rattle.model.specs.Stream.{Event, input_ended, wrong, finished, skipped, Taken}
use Rattle.model.specs.Farm.{Farm, seat_count, new_farm, Done, does, quietly, and_then, says, closed, closed_where}
use Rattle.model.specs.Line.{asks, accepted, socket_rules, decide, is_silent, asked_if, asking, cleared, started_by, started, advanced, answered, head_verdict, serve, settle_line, settle, joined, left_by, left, marked, is_empty, answers_check}
use Rattle.model.specs.Bytes.{decided_by, requested, to_target, diagnosed, messaged, event_done, heard, taken_by, bytes_done}
use Rattle.model.specs.Move.{Own, connect, bytes, peer_closed, link_lost, datagram, controller, Held, Move, refused, gave, connects, connected_at, bytes_by, peer_gone, link_gone, clock_run, aged, ticked, moves, most_user, is_target, controller_move, datagram_move, to_tester, move}
use Rattle.model.proofs.Cases.{pick_case}
use Rattle.model.proofs.Rows.{row_free}
use Rattle.model.proofs.Seats.{then_keeps, each_keeps, closings_keep}
use Rattle.model.proofs.TidyRows.{AllTidy, tidy-between, tidy-older, tidy-heard, tidy-stream, tidy-set, tidy-map, tidy-takes}

abbrev pub TidyFarm : Farm → Type 0
TidyFarm f = AllTidy f.rows

abbrev TidyDone : Done → Type 0
TidyDone d = TidyFarm d.farm

module _ (own : FarmSheet) where
  tidy-closed : (i : ℕ) (f : Farm) → TidyFarm f → TidyDone (closed own i f)
  unfolding closed
  tidy-closed i f t = tidy-set f.rows i free_row t (tidy-between Free)

  tidy_closings : (test : ℕ → Row → Bool) (f : Farm) → TidyFarm f → TidyDone (closed_where own test f)
  tidy_closings test f t = closings_keep own test TidyFarm f t (λ i x e h. tidy-closed i x h)

  tidy_asked : (check : Check) (i : ℕ) (f : Farm) → TidyFarm f → TidyDone (asked_if own check i f)
  unfolding asked_if
  tidy_asked check i f t = by (asks check i (row_at f.rows i))
    where
      by : (b : Bool) → TidyDone (pick b (does f (says own i AliveCheck ∷ [])) (quietly f))
      by true = t
      by false = t

  tidy-asking : (d : Decision) (f : Farm) → TidyFarm f → TidyDone (asking own d f)
  tidy-asking (Now code) f t = t
  tidy-asking (Ask check) f t = each_keeps (asked_if own check) f TidyFarm t (tidy_asked check)

  tidy-started : (f : Farm) → TidyFarm f → TidyDone (started own f)
  unfolding started
  tidy-started f t = by f.line
    where
      by : (line : List ℕ) → TidyDone (started_by own line f)
      by [] = t
      by (head ∷ rest) = tidy-asking (socket_rules own f.rows (wanted (row_at f.rows head))) (cleared f) t

  tidy-advanced : (rest : List ℕ) (f : Farm) → TidyFarm f → TidyDone (advanced own rest f)
  unfolding advanced
  tidy-advanced rest f t = tidy-started _ t

  tidy-answered : (seat address code : ℕ) (f : Farm) → TidyFarm f → TidyDone (answered own seat address code f)
  unfolding answered
  tidy-answered seat address code f t =
      pick_case TidyDone (eqb code accepted) _ _
      (λ _. tidy-set f.rows seat _ t (tidy-between (Active address _)))
      (λ _. then_keeps TidyFarm _ (closed own seat) t (tidy-closed seat))

  tidy-serve : (head : ℕ) (rest : List ℕ) (f : Farm) (v : HeadVerdict) (next : Farm → Done) → TidyFarm f
      → ((g : Farm) → TidyFarm g → TidyDone (next g)) → TidyDone (serve own head rest f v next)
  tidy-serve head rest f Pending next t k = t
  tidy-serve head rest f (Answer code) next t k =
      then_keeps TidyFarm _ next (then_keeps TidyFarm _ (advanced own rest) (tidy-answered head _ code f t) (tidy-advanced rest)) k
  tidy-serve head rest f (RunOut check) next t k =
      then_keeps TidyFarm _ next
      (then_keeps TidyFarm _ (advanced own rest)
      (then_keeps TidyFarm _ (answered own head _ accepted) (tidy_closings (is_silent check f.marks) f t) (tidy-answered head _ accepted))
      (tidy-advanced rest))
      k

  tidy_settling : (line : List ℕ) (f : Farm) → TidyFarm f → TidyDone (settle_line own line f)
  unfolding settle_line
  tidy_settling [] f t = t
  tidy_settling (head ∷ rest) f t = tidy-serve head rest f (head_verdict own f head) (settle_line own rest) t (tidy_settling rest)

  tidy-settle : (f : Farm) → TidyFarm f → TidyDone (settle own f)
  tidy-settle f t = tidy_settling f.line f t

  tidy-joined : (seat : ℕ) (q : Request) (f : Farm) → TidyFarm f → TidyDone (joined own seat q f)
  unfolding joined
  tidy-joined seat q f t =
      let s = tidy-set f.rows seat _ t (tidy-between (Waiting q)) in
      pick_case TidyDone (is_empty f.line) _ _ (λ _. tidy-started _ s) (λ _. s)

  tidy-left : (seat : ℕ) (f : Farm) → TidyFarm f → TidyDone (left own seat f)
  unfolding left
  tidy-left seat f t = by f.line
    where
      by : (line : List ℕ) → TidyDone (left_by own seat line f)
      by [] = t
      by (head ∷ rest) = pick_case TidyDone (eqb seat head) _ _ (λ _. tidy-advanced rest f t) (λ _. t)

  tidy-marked : (seat address : ℕ) (f : Farm) → TidyFarm f → TidyFarm (marked own seat address f)
  unfolding marked
  tidy-marked seat address f t = pick_case TidyFarm (answers_check own seat address f) _ _ (λ _. t) (λ _. t)

  tidy-requested : (seat : ℕ) (q : Request) (f : Farm) → TidyFarm f → TidyDone (requested own seat q f)
  unfolding requested
  tidy-requested seat q f t = by (decide own f.rows seat q)
    where
      by : (d : Decision) → TidyDone (decided_by own seat q d f)
      by (Now code) = tidy-answered seat q.address code f t
      by (Ask check) = tidy-joined seat q f t

  tidy-diagnosed : (seat : ℕ) (e : Ends) (f : Farm) → TidyFarm f → TidyDone (diagnosed own seat e f)
  unfolding diagnosed
  tidy-diagnosed seat e f t =
      pick_case TidyDone (active_as e.source (row_at f.rows seat)) (to_target own seat e (own.target e.target) f)
      (and_then (does f (says own seat (DiagnosticNack e.target e.source 0x02) ∷ [])) (closed own seat))
      (λ _. by (own.target e.target))
      (λ _. then_keeps TidyFarm _ (closed own seat) t (tidy-closed seat))
    where
      by : (x : TargetIs) → TidyDone (to_target own seat e x f)
      by stranger = t
      by unreachable = t
      by reachable = t

  tidy-messaged : (seat kind : ℕ) (payload : List ℕ) (f : Farm) → TidyFarm f → TidyDone (messaged own seat kind payload f)
  tidy-messaged seat kind payload f t =
      pick_case TidyDone (eqb kind 0x0005) _ _ (λ _. tidy-requested seat (request_in payload) f t)
      (λ _.
      pick_case TidyDone (eqb kind 0x0008) _ _ (λ _. tidy-marked seat (address_in payload) f t)
      (λ _. pick_case TidyDone (eqb kind 0x8001) _ _ (λ _. tidy-diagnosed seat (ends_in payload) f t) (λ _. t)))

  tidy-event : (seat : ℕ) (e : Event) (room : List ℕ) (f : Farm) → TidyFarm f → TidyDone (event_done own seat e room f)
  unfolding event_done
  tidy-event seat input_ended room f t = t
  tidy-event seat (wrong fault) room f t =
      pick_case TidyDone (closes fault) _ _ (λ _. then_keeps TidyFarm _ (closed own seat) t (tidy-closed seat)) (λ _. t)
  tidy-event seat (finished kind size) room f t = tidy-messaged seat kind (take size room) f t
  tidy-event seat (skipped size) room f t = t

  tidy-bytes : (seat : ℕ) (room input : List ℕ) (f : Farm) → is_free (row_at f.rows seat) ≡ false → TidyFarm f
      → TidyDone (bytes_done own seat (taken_by seat room input f) f)
  unfolding bytes_done heard
  tidy-bytes seat room input f unfree t =
      let x : Taken = taken_by seat room input f in
      then_keeps TidyFarm _ (settle own)
      (tidy-event seat x.event x.stream.room (heard seat x f)
      (tidy-set f.rows seat _ t
      (tidy-heard x.count x.stream (row_at f.rows seat) unfree (tidy-takes _ input (tidy-stream (row_at f.rows seat) room (t seat))))))
      tidy-settle

  -- a tick keeps every row tidy
  pub tidy-ticked : (f : Farm) → TidyFarm f → TidyDone (ticked own f)
  unfolding ticked
  tidy-ticked f t =
      then_keeps TidyFarm _ (settle own) (tidy_closings _ (aged (clock_run f.line f)) (by f.line)) tidy-settle
    where
      by : (line : List ℕ) → TidyFarm (aged (clock_run line f))
      by [] = tidy-map older refl tidy-older f.rows t
      by (head ∷ rest) = tidy-map older refl tidy-older f.rows t

  abbrev pub TidyMove : Move → Type 0
  TidyMove (refused n) = Unit {0}
  TidyMove (gave g) = TidyFarm g.held.farm

  -- and so does every call of the farm that is accepted
  pub tidy-move : (h : Held) (c : Own) → TidyFarm h.farm → TidyMove (move own h c)
  unfolding move connects peer_gone link_gone datagram_move controller_move
  tidy-move h connect t = by (first_at is_free 0 (take own.rows h.farm.rows))
    where
      by : (x : Option ℕ) → TidyMove (connected_at own h x)
      by None = tt
      by (Some seat) = tidy-set h.farm.rows seat _ t (tidy-between (Fresh _))
  tidy-move h (bytes seat input) t = by (row_at h.farm.rows seat).state refl
    where
      by : (s : RowState) → (row_at h.farm.rows seat).state ≡ s → TidyMove (bytes_by own h seat input s)
      by Free e = tt
      by (Fresh age) e = tidy-bytes seat (get_or h.rooms seat []) input h.farm (ap is_free_state e) t
      by (Waiting q) e = tt
      by (Active a idle) e = tidy-bytes seat (get_or h.rooms seat []) input h.farm (ap is_free_state e) t
  tidy-move h (peer_closed seat) t = by (is_open (row_at h.farm.rows seat))
    where
      gone : TidyDone (peer_gone own seat h.farm)
      gone =
          then_keeps TidyFarm _ (settle own) (then_keeps TidyFarm _ (left own seat) (tidy-closed seat h.farm t) (tidy-left seat)) tidy-settle

      by : (b : Bool) → TidyMove (pick b (moves h (peer_gone own seat h.farm)) (refused 6))
      by true = gone
      by false = tt
  tidy-move h link_lost t = then_keeps TidyFarm _ _ (tidy_closings _ h.farm t) (λ g k. k)
  tidy-move h (datagram input) t = t
  tidy-move h (controller from to user) t =
      by (leb 1 (length user)) (leb (length user) most_user) (is_target (own.target from)) (first_at (active_as to) 0 h.farm.rows)
    where
      by : (a b c : Bool) (x : Option ℕ)
          → TidyMove (unless a (refused 9) (unless b (refused 9) (unless c (refused 10) (to_tester own h from to user x))))
      by false b c x = tt
      by true false c x = tt
      by true true false x = tt
      by true true true None = tt
      by true true true (Some seat) = t

-- a new farm is tidy
pub tidy_new : TidyFarm new_farm
unfolding new_farm
tidy_new i = rw (row_free seat_count i) (tidy-between Free)
