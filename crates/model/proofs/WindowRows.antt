-- A farm's doings outside the byte stream only ever put rows between two messages: what holds of a farm by its rows, and is kept where such a row is put, is
-- kept by closing, answering, joining, leaving, marking, settling and ticking.
-- Assumes nothing.
use Prim.Native.Nat.{ℕ}
use mathlib.Core.Path.{◌≡◌, refl}
use mathlib.Core.Bool.{Bool}
use mathlib.Core.List.{List, [], ◌∷◌, ◌++◌}
use lib.Dec.{eqb}
use lib.ListN.{take}
use Rattle.kinds.specs.declared.RowState.{RowState}
use Rattle.kinds.specs.declared.Decision.{Decision}
use Rattle.kinds.specs.declared.Decision.TheVariants.{Now, Ask}
use Rattle.kinds.specs.declared.HeadVerdict.{HeadVerdict}
use Rattle.kinds.specs.declared.HeadVerdict.TheVariants.{Pending, Answer, RunOut}
use Rattle.kinds.specs.declared.Request.{Request}
use Rattle.kinds.specs.declared.Row.{Row}
use Rattle.kinds.specs.declared.RowState.TheVariants.{Free, Waiting, Active}
use Rattle.kinds.specs.declared.Reply.TheVariants.{Nack, Activation, DiagnosticNack}
use Rattle.payload.specs.declared.Ends.{Ends}
use Rattle.wire.specs.Header.{closes, code_of}
use Rattle.payload.specs.Payload.{request_in, address_in, ends_in}
use Rattle.model.specs.FarmSheet.{FarmSheet, TargetIs, stranger, unreachable, reachable}
use Rattle.kinds.specs.Clock.{clock_of}
use Rattle.model.specs.Row.{row_of, row_at, wanted, waiting_row, active_as, is_open, at_limit}
use Rattle.model.specs.Stream.{Event, input_ended, wrong, finished, skipped}
use Rattle.model.specs.Farm.{Farm, Done, does, quietly, with_row, with_line, says, closed, closed_where}
use Rattle.model.specs.Line.{accepted, socket_rules, decide, asks, asked_if, asking, cleared, started_by, started, advanced, answered, is_silent, head_verdict, serve, settle_line, settle, is_empty, joined, without, left_by, left, marked, answers_check}
use Rattle.model.specs.Bytes.{decided_by, requested, to_target, diagnosed, event_done}
use Rattle.model.specs.Move.{peer_gone, link_gone, clock_run, aged, ticked}
use Rattle.model.proofs.Cases.{pick_case}
use Rattle.model.proofs.Seats.{then_keeps, each_keeps, closings_keep}

module _ (own : FarmSheet) (P : Farm → Type 0) (same : (f g : Farm) → f.rows ≡ g.rows → P f → P g)
    (put : (f : Farm) (seat : ℕ) (st : RowState) → P f → P (with_row f seat (row_of st))) where
  closed_keeps : (seat : ℕ) (f : Farm) → P f → P (closed own seat f).farm
  unfolding closed
  closed_keeps seat f p = same (with_row f seat (row_of Free)) _ refl (put f seat Free p)

  closings : (test : ℕ → Row → Bool) (f : Farm) → P f → P (closed_where own test f).farm
  closings test f p = closings_keep own test P f p (λ i x e q. closed_keeps i x q)

  answered_keeps : (seat address code : ℕ) (f : Farm) → P f → P (answered own seat address code f).farm
  unfolding answered
  answered_keeps seat address code f p =
      pick_case (λ (d : Done). P d.farm) (eqb code accepted) _ _
      (λ e. put f seat (Active address (clock_of 0)) p)
      (λ e. then_keeps P (does f (says own seat (Activation address own.entity code) ∷ [])) (closed own seat) p (closed_keeps seat))

  asking_keeps : (d : Decision) (f : Farm) → P f → P (asking own d f).farm
  unfolding asked_if
  asking_keeps (Now code) f p = p
  asking_keeps (Ask check) f p =
      each_keeps (asked_if own check) f P p
      (λ i x q. pick_case (λ (d : Done). P d.farm) (asks check i (row_at x.rows i)) _ _ (λ e. q) (λ e. q))

  started_keeps : (f : Farm) → P f → P (started own f).farm
  unfolding started
  started_keeps f p = go f.line
    where
      go : (line : List ℕ) → P (started_by own line f).farm
      go [] = same f (cleared f) refl p
      go (head ∷ rest) = asking_keeps (socket_rules own f.rows (wanted (row_at f.rows head))) (cleared f) (same f (cleared f) refl p)

  advanced_keeps : (rest : List ℕ) (f : Farm) → P f → P (advanced own rest f).farm
  unfolding advanced
  advanced_keeps rest f p = started_keeps (with_line f rest) (same f (with_line f rest) refl p)

  serve_keeps : (head : ℕ) (rest : List ℕ) (f : Farm) (v : HeadVerdict) (next : Farm → Done) → ((g : Farm) → P g → P (next g).farm) → P f
      → P (serve own head rest f v next).farm
  serve_keeps head rest f Pending next k p = p
  serve_keeps head rest f (Answer code) next k p =
      then_keeps P _ next
      (then_keeps P _ (advanced own rest) (answered_keeps head (wanted (row_at f.rows head)) code f p) (advanced_keeps rest)) k
  serve_keeps head rest f (RunOut check) next k p =
      then_keeps P _ next
      (then_keeps P _ (advanced own rest)
      (then_keeps P (closed_where own (is_silent check f.marks) f) (answered own head (wanted (row_at f.rows head)) accepted)
      (closings (is_silent check f.marks) f p) (answered_keeps head (wanted (row_at f.rows head)) accepted))
      (advanced_keeps rest)) k

  line_keeps : (line : List ℕ) (f : Farm) → P f → P (settle_line own line f).farm
  unfolding settle_line
  line_keeps [] f p = p
  line_keeps (head ∷ rest) f p = serve_keeps head rest f (head_verdict own f head) (settle_line own rest) (line_keeps rest) p

  pub settle_keeps : (f : Farm) → P f → P (settle own f).farm
  settle_keeps f p = line_keeps f.line f p

  joined_keeps : (seat : ℕ) (q : Request) (f : Farm) → P f → P (joined own seat q f).farm
  unfolding joined
  joined_keeps seat q f p =
      let h : Farm = with_line (with_row f seat (waiting_row q)) (f.line ++ (seat ∷ [])) in
      let r : P h = same (with_row f seat (waiting_row q)) h refl (put f seat (Waiting q) p) in
      pick_case (λ (d : Done). P d.farm) (is_empty f.line) (started own h) (quietly h) (λ e. started_keeps h r) (λ e. r)

  left_keeps : (seat : ℕ) (f : Farm) → P f → P (left own seat f).farm
  unfolding left
  left_keeps seat f p = go f.line
    where
      go : (line : List ℕ) → P (left_by own seat line f).farm
      go [] = p
      go (head ∷ rest) =
          pick_case (λ (d : Done). P d.farm) (eqb seat head) _ _ (λ e. advanced_keeps rest f p)
          (λ e. same f (with_line f (head ∷ without seat rest)) refl p)

  marked_keeps : (seat address : ℕ) (f : Farm) → P f → P (marked own seat address f)
  unfolding marked
  marked_keeps seat address f p =
      pick_case P (answers_check own seat address f) _ _ (λ e. same f _ refl p) (λ e. p)

  -- ---- the calls

  requested_keeps : (seat : ℕ) (q : Request) (f : Farm) → P f → P (requested own seat q f).farm
  unfolding requested
  requested_keeps seat q f p = go (decide own f.rows seat q)
    where
      go : (d : Decision) → P (decided_by own seat q d f).farm
      go (Now code) = answered_keeps seat q.address code f p
      go (Ask check) = joined_keeps seat q f p

  diagnosed_keeps : (seat : ℕ) (e : Ends) (f : Farm) → P f → P (diagnosed own seat e f).farm
  unfolding diagnosed
  diagnosed_keeps seat e f p =
      pick_case (λ (d : Done). P d.farm) (active_as e.source (row_at f.rows seat)) _ _ (λ z. go (own.target e.target))
      (λ z. then_keeps P (does f (says own seat (DiagnosticNack e.target e.source 0x02) ∷ [])) (closed own seat) p (closed_keeps seat))
    where
      go : (x : TargetIs) → P (to_target own seat e x f).farm
      go stranger = p
      go unreachable = p
      go reachable = p

  pub event_keeps : (seat : ℕ) (e : Event) (room : List ℕ) (f : Farm) → P f → P (event_done own seat e room f).farm
  unfolding event_done
  event_keeps seat input_ended room f p = p
  event_keeps seat (wrong fault) room f p =
      pick_case (λ (d : Done). P d.farm) (closes fault) _ _
      (λ e. then_keeps P (does f (says own seat (Nack (code_of fault)) ∷ [])) (closed own seat) p (closed_keeps seat)) (λ e. p)
  event_keeps seat (finished kind size) room f p =
      pick_case (λ (d : Done). P d.farm) (eqb kind 0x0005) _ _ (λ e. requested_keeps seat (request_in (take size room)) f p)
      (λ e.
      pick_case (λ (d : Done). P d.farm) (eqb kind 0x0008) _ _ (λ x. marked_keeps seat (address_in (take size room)) f p)
      (λ x.
      pick_case (λ (d : Done). P d.farm) (eqb kind 0x8001) _ _ (λ y. diagnosed_keeps seat (ends_in (take size room)) f p) (λ y. p)))
  event_keeps seat (skipped size) room f p = p

  pub peer_keeps : (seat : ℕ) (f : Farm) → P f → P (peer_gone own seat f).farm
  unfolding peer_gone
  peer_keeps seat f p = then_keeps P _ (settle own) (then_keeps P _ (left own seat) (closed_keeps seat f p) (left_keeps seat)) settle_keeps

  pub link_keeps : (f : Farm) → P f → P (link_gone own f).farm
  unfolding link_gone
  link_keeps f p =
      then_keeps P _ (λ g. quietly (cleared (with_line g []))) (closings (λ seat r. is_open r) f p) (λ g q. same g (cleared (with_line g [])) refl q)

  -- a tick makes the rows older first
  pub tick_keeps : (f : Farm) → P (aged (clock_run f.line f)) → P (ticked own f).farm
  unfolding ticked
  tick_keeps f p = then_keeps P _ (settle own) (closings (λ seat r. at_limit r) (aged (clock_run f.line f)) p) settle_keeps
