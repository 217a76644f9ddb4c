-- How many entries a farm's calls make, by its open rows and its waiters; and under rule 4, by the rows that it owns.
-- Assumes nothing.
use Prim.Native.Nat.{ℕ, ◌+◌, ◌*◌, ◌≤◌}
use mathlib.Core.Path.{◌≡◌, refl, sym, ap, subst, ◌∙◌}
use mathlib.Core.Bool.{true}
use mathlib.Core.List.{List, [], ◌∷◌, ◌++◌}
use native.Mathlib.Omega.{arith}
use lib.Dec.{eqb}
use lib.ListN.{length, length-append, length-map, length-set, set, take}
use Rattle.octets.specs.Search.{count_if}
use Rattle.kinds.specs.declared.Fault.{Fault}
use Rattle.kinds.specs.declared.Request.{Request}
use Rattle.kinds.specs.declared.Row.{Row}
use Rattle.kinds.specs.declared.Item.{Item}
use Rattle.kinds.specs.declared.Decision.{Decision}
use Rattle.kinds.specs.declared.Decision.TheVariants.{Now, Ask}
use Rattle.payload.specs.declared.Ends.{Ends as Parties}
use Rattle.wire.specs.Header.{closes}
use Rattle.payload.specs.Payload.{request_in, address_in, ends_in}
use Rattle.model.specs.FarmSheet.{FarmSheet, TargetIs, stranger, unreachable, reachable}
use Rattle.model.specs.Row.{waiting_row, row_at, is_open, active_as, older, at_limit}
use Rattle.model.specs.Stream.{Event, input_ended, wrong, finished, skipped, Taken}
use Rattle.model.specs.Farm.{Farm, with_row, with_line, with_marks, Done, does, quietly, and_then, closed, closed_where}
use Rattle.model.specs.Line.{accepted, started, advanced, answered, settle_line, settle, is_empty, joined, without, left_by, left, marked, answers_check, cleared, decide}
use Rattle.model.specs.Bytes.{decided_by, requested, to_target, diagnosed, faulted, event_done, heard_row, heard, bytes_done}
use Rattle.model.specs.Move.{clock_run, aged, open_rows, peer_gone, link_gone, ticked}
use Rattle.model.specs.Rule.{Good}
use Rattle.model.proofs.Cases.{pick_case}
use Rattle.model.proofs.Rows.{count_map, count_same, older_open}
use Rattle.model.proofs.SoundRows.{limit_open}
use Rattle.model.proofs.SoundClose.{closings_line}
use Rattle.model.proofs.SoundLine.{advanced-line}
use Rattle.model.proofs.Settling.{started-farm}
use Rattle.model.proofs.MeterMove.{heard_open}
use Rattle.room.proofs.Open.{count-put, open_within, line-within, then_length, Costs, closings_cost}
use Rattle.room.proofs.Settled.{Seated, closings_seated, closed_seated, closed_costs, answered_seated, answered_costs, started_few, advanced_few, line_few, settle_few}

-- ---- what a call does before anything is said

ran_rows : (line : List ℕ) (f : Farm) → (clock_run line f).rows ≡ f.rows
ran_rows [] f = refl
ran_rows (head ∷ rest) f = refl

ran_line : (line : List ℕ) (f : Farm) → (clock_run line f).line ≡ f.line
ran_line [] f = refl
ran_line (head ∷ rest) f = refl

without_few : (x : ℕ) (l : List ℕ) → length (without x l) ≤ length l
without_few x [] = omega arith
without_few x (y ∷ l) =
    pick_case (λ (k : List ℕ). length k ≤ length (y ∷ l)) (eqb x y) _ _ (λ _. omega (arith, without_few x l)) (λ _. omega (arith, without_few x l))

-- ---- link lost: as many closings as open rows

pub link_few : (own : FarmSheet) (f : Farm) → length (link_gone own f).items ≤ open_rows f
unfolding link_gone
link_few own f =
    omega (
      arith,
      then_length (closed_where own (λ seat r. is_open r) f) (λ g. quietly (cleared (with_line g []))),
      closings_cost own (λ seat r. is_open r) f (λ i t. t),
    )

module _ (own : FarmSheet) (some : 1 ≤ own.quota) where
  -- ---- tick

  pub ticked_few : (f : Farm) → Seated f → length (ticked own f).items ≤ open_rows f + 2 * length f.line
  unfolding ticked
  ticked_few f l =
      let g : Farm = aged (clock_run f.line f) in
      let d : Done = closed_where own (λ seat r. at_limit r) g in
      let rows : open_rows g ≡ open_rows f =
      count_map is_open older (λ r. older_open r.state) (clock_run f.line f).rows ∙ ap (count_if is_open) (ran_rows f.line f) in
      let seats : Seated g = length-map (clock_run f.line f).rows older ∙ ap length (ran_rows f.line f) ∙ l in
      let line : length d.farm.line ≡ length f.line = ap length (closings_line own (λ seat r. at_limit r) g ∙ ran_line f.line f) in
      omega (
        arith,
        then_length d (settle own),
        closings_cost own (λ seat r. at_limit r) g (λ i t. limit_open (row_at g.rows i).state t),
        settle_few own some d.farm (closings_seated own (λ seat r. at_limit r) g seats),
      )

  -- ---- peer closed

  left_few : (seat : ℕ) (f : Farm) → Seated f → (line : List ℕ) → f.line ≡ line
      → length (and_then (left_by own seat line f) (settle own)).items ≤ open_rows f + 2 * length line
  unfolding and_then
  left_few seat f l [] e = omega (arith, length-append (left_by own seat [] f).items (settle own f).items, settle_few own some f l, ap length e)
  left_few seat f l (head ∷ rest) e =
      pick_case (λ (d : Done). length (d.items ++ (settle own d.farm).items) ≤ open_rows f + 2 * length (head ∷ rest)) (eqb seat head)
      (advanced own rest f) (quietly (with_line f (head ∷ without seat rest)))
      (λ _. omega (
        arith,
        subst (λ (x : List ℕ). length ((advanced own rest f).items ++ (settle_line own x (advanced own rest f).farm).items) ≤ open_rows f + 2 * length rest)
            (sym (advanced-line own rest f)) (advanced_few own some rest f l (line_few own some rest)),
      ))
      (λ _. omega (
        arith,
        length-append [] (settle own (with_line f (head ∷ without seat rest))).items,
        settle_few own some (with_line f (head ∷ without seat rest)) l,
        without_few seat rest,
      ))

  pub peer_few : (seat : ℕ) (f : Farm) → Seated f → length (peer_gone own seat f).items ≤ open_rows f + 2 * length f.line + 1
  unfolding peer_gone left closed and_then
  peer_few seat f l =
      let c : Done = closed own seat f in
      omega (
        arith,
        then_length (and_then c (left own seat)) (settle own),
        then_length c (left own seat),
        then_length (left own seat c.farm) (settle own),
        closed_costs own seat f,
        left_few seat c.farm (closed_seated own seat f l) f.line refl,
      )

  -- ---- bytes: what is done for the message, and settling behind it

  abbrev Ends : Farm → Done → Type 0
  Ends f d = length (and_then d (settle own)).items ≤ open_rows f + 2 * length f.line + 3

  -- where the line is let alone
  plain : (f : Farm) (d : Done) → Seated d.farm → d.farm.line ≡ f.line → Costs 2 f d → Ends f d
  plain f d l e c = omega (arith, then_length d (settle own), settle_few own some d.farm l, ap length e)

  answered-line : (seat address code : ℕ) (f : Farm) → (answered own seat address code f).farm.line ≡ f.line
  unfolding answered and_then closed
  answered-line seat address code f = pick_case (λ (d : Done). d.farm.line ≡ f.line) (eqb code accepted) _ _ (λ _. refl) (λ _. refl)

  -- one more waiter; and where the line was empty, its check
  joined-ends : (seat : ℕ) (q : Request) (f : Farm) → Seated f → Ends f (joined own seat q f)
  unfolding joined
  joined-ends seat q f l =
      let line : List ℕ = f.line ++ (seat ∷ []) in
      let g : Farm = with_line (with_row f seat (waiting_row q)) line in
      let seats : Seated g = length-set f.rows seat (waiting_row q) ∙ l in
      let stays : (started own g).farm.line ≡ line = ap (λ (x : Farm). x.line) (started-farm own g) in
      pick_case (Ends f) (is_empty f.line) (started own g) (quietly g)
      (λ _. omega (
        arith,
        then_length (started own g) (settle own),
        length-append f.line (seat ∷ []),
        count-put is_open f.rows seat (waiting_row q),
        subst (λ (x : List ℕ). length (started own g).items + length (settle_line own x (started own g).farm).items ≤ open_rows g + 2 * length line)
            (sym stays) (started_few own some line g refl seats (line_few own some line)),
      ))
      (λ _. omega (
        arith,
        then_length (quietly g) (settle own),
        length-append f.line (seat ∷ []),
        count-put is_open f.rows seat (waiting_row q),
        settle_few own some g seats,
      ))

  requested-ends : (seat : ℕ) (q : Request) (f : Farm) → Seated f → Ends f (requested own seat q f)
  unfolding requested
  requested-ends seat q f l = by (decide own f.rows seat q)
    where
      by : (d : Decision) → Ends f (decided_by own seat q d f)
      by (Now code) =
          plain f (answered own seat q.address code f) (answered_seated own seat q.address code f l) (answered-line seat q.address code f)
          (answered_costs own seat q.address code f)
      by (Ask check) = joined-ends seat q f l

  -- an entry, and the row closes
  closing-ends : (seat : ℕ) (it : Item) (f : Farm) → Seated f → Ends f (and_then (does f (it ∷ [])) (closed own seat))
  unfolding and_then closed
  closing-ends seat it f l =
      plain f (and_then (does f (it ∷ [])) (closed own seat)) (closed_seated own seat f l) refl (omega (arith, closed_costs own seat f))

  said-ends : (f : Farm) (items : List Item) → length items ≤ 2 → Seated f → Ends f (does f items)
  said-ends f items h l = plain f (does f items) l refl (omega arith)

  target-ends : (seat : ℕ) (e : Parties) (f : Farm) → Seated f → (t : TargetIs) → Ends f (to_target own seat e t f)
  target-ends seat e f l stranger = said-ends f _ (omega arith) l
  target-ends seat e f l unreachable = said-ends f _ (omega arith) l
  target-ends seat e f l reachable = said-ends f _ (omega arith) l

  diagnosed-ends : (seat : ℕ) (e : Parties) (f : Farm) → Seated f → Ends f (diagnosed own seat e f)
  unfolding diagnosed
  diagnosed-ends seat e f l =
      pick_case (Ends f) (active_as e.source (row_at f.rows seat)) _ _ (λ _. target-ends seat e f l (own.target e.target))
      (λ _. closing-ends seat _ f l)

  marked-ends : (seat address : ℕ) (f : Farm) → Seated f → Ends f (quietly (marked own seat address f))
  unfolding marked
  marked-ends seat address f l =
      pick_case (λ (g : Farm). Ends f (quietly g)) (answers_check own seat address f) _ _
      (λ _. plain f (quietly (with_marks f (set f.marks seat true))) l refl (omega arith)) (λ _. said-ends f [] (omega arith) l)

  faulted-ends : (seat : ℕ) (fault : Fault) (f : Farm) → Seated f → Ends f (faulted own seat fault f)
  faulted-ends seat fault f l = pick_case (Ends f) (closes fault) _ _ (λ _. closing-ends seat _ f l) (λ _. said-ends f _ (omega arith) l)

  event-ends : (seat : ℕ) (e : Event) (room : List ℕ) (f : Farm) → Seated f → Ends f (event_done own seat e room f)
  unfolding event_done
  event-ends seat input_ended room f l = said-ends f [] (omega arith) l
  event-ends seat (wrong fault) room f l = faulted-ends seat fault f l
  event-ends seat (finished kind size) room f l =
      pick_case (Ends f) (eqb kind 0x0005) _ _ (λ _. requested-ends seat (request_in (take size room)) f l)
      (λ _. pick_case (Ends f) (eqb kind 0x0008) _ _ (λ _. marked-ends seat (address_in (take size room)) f l)
      (λ _. pick_case (Ends f) (eqb kind 0x8001) _ _ (λ _. diagnosed-ends seat (ends_in (take size room)) f l) (λ _. said-ends f [] (omega arith) l)))
  event-ends seat (skipped size) room f l = said-ends f [] (omega arith) l

  pub bytes_few : (seat : ℕ) (t : Taken) (f : Farm) → Seated f → length (bytes_done own seat t f).items ≤ open_rows f + 2 * length f.line + 3
  unfolding bytes_done heard
  bytes_few seat t f l =
      let row : Row = heard_row t.count t.stream (row_at f.rows seat) in
      omega (
        arith,
        count_same is_open f.rows seat row (heard_open t.count (row_at f.rows seat).state),
        event-ends seat t.event t.stream.room (heard seat t f) (length-set f.rows seat row ∙ l),
      )

-- ---- under rule 4: by the rows that the farm owns

module _ {own : FarmSheet} {f : Farm} (k : Good own f) where
  pub link_most : length (link_gone own f).items ≤ own.rows
  link_most = omega (arith, link_few own f, open_within k)

  module _ (some : 1 ≤ own.quota) where
    pub ticked_most : length (ticked own f).items ≤ 3 * own.rows
    ticked_most = omega (arith, ticked_few own some f k.seats, open_within k, line-within k)

    pub peer_most : (seat : ℕ) → length (peer_gone own seat f).items ≤ 3 * own.rows + 1
    peer_most seat = omega (arith, peer_few own some seat f k.seats, open_within k, line-within k)

    pub bytes_most : (seat : ℕ) (t : Taken) → length (bytes_done own seat t f).items ≤ 3 * own.rows + 3
    bytes_most seat t = omega (arith, bytes_few own some seat t f k.seats, open_within k, line-within k)
