-- Every entry that a farm makes is on one of its own rows.
-- Assumes nothing.
use Rattle.std.proofs.Common.{Option, Some, None}
use Prim.Native.Nat.{ℕ, zero, suc, ◌+◌, ◌<◌}
use mathlib.Core.Path.{◌≡◌, refl, sym, ap, subst}
use mathlib.Core.Bool.{Bool, true, false, false≢true, true≢false}
use mathlib.Core.List.{List, [], ◌∷◌, ◌++◌}
use native.Mathlib.Omega.{arith}
use lib.Dec.{eqb, leb}
use lib.ListN.{get_or, take, length}
use borrow.Author.Tests.{le-leb, lt-ltb, eqb-true}
use Rattle.octets.specs.Search.{first_at, all}
use Rattle.octets.specs.Fold.{up_to}
use Rattle.kinds.specs.declared.Item.{Item}
use Rattle.kinds.specs.declared.Reply.{Reply}
use Rattle.kinds.specs.declared.Request.{Request}
use Rattle.kinds.specs.declared.RowState.{RowState}
use Rattle.kinds.specs.declared.RowState.TheVariants.{Free, Fresh, Waiting, Active}
use Rattle.kinds.specs.declared.Row.{Row}
use Rattle.kinds.specs.declared.Check.{Check}
use Rattle.kinds.specs.declared.Check.TheVariants.{One, All}
use Rattle.kinds.specs.declared.Decision.{Decision}
use Rattle.kinds.specs.declared.Decision.TheVariants.{Now, Ask}
use Rattle.kinds.specs.declared.HeadVerdict.{HeadVerdict}
use Rattle.kinds.specs.declared.HeadVerdict.TheVariants.{Pending, Answer, RunOut}
use Rattle.payload.specs.declared.Ends.{Ends}
use Rattle.wire.specs.Header.{closes}
use Rattle.payload.specs.Payload.{request_in, ends_in}
use Rattle.model.specs.FarmSheet.{FarmSheet, TargetIs, stranger, unreachable, reachable}
use Rattle.model.specs.Row.{free_row, waiting_row, row_at, is_free, is_open_state, is_open, is_waiting_state, active_as, wanted, at_limit}
use Rattle.model.specs.Stream.{Event, input_ended, wrong, finished, skipped, Taken}
use Rattle.model.specs.Farm.{Farm, seat_count, with_row, with_line, Done, quietly, and_then, each_seat, says, closed, closed_if, closed_where}
use Rattle.model.specs.Line.{accepted, decide, asks, is_silent, asked_if, asking, cleared, started_by, started, advanced, answered, head_verdict, serve, settle_line, settle, is_empty, joined, left_by, left}
use Rattle.model.specs.Bytes.{decided_by, requested, to_target, diagnosed, event_done, heard, taken_by, bytes_done}
use Rattle.model.specs.Move.{Own, connect, bytes, peer_closed, link_lost, datagram, controller, Held, Move, connected_at, connects, took_bytes, bytes_by, peer_gone, link_gone, clock_run, aged, ticked, most_user, is_target, to_tester, controller_move, move}
use Rattle.model.specs.History.{on_row}
use Rattle.model.proofs.Cases.{pick_case, unless_case, split}
use Rattle.model.proofs.Rows.{row-set, open_in}
use Rattle.model.proofs.Seats.{then_farm}
use Rattle.model.proofs.RuleParts.{Sound}
use Rattle.model.proofs.SoundRows.{kept_of, waiting_open, active_open, as_active, limit_open, ours, free_kept}
use Rattle.model.proofs.SoundLine.{first_case, socket_case, Ready, advanced-line, advanced_sound, Licence, head_licence, served-waits, answer_ready, run_out_ready}
use Rattle.model.proofs.SoundStream.{PossibleIn}
use Rattle.model.proofs.SoundBytes.{Talks, heard_sound, heard_talks, event_sound, taken_well}
use Rattle.model.proofs.SoundMove.{Gives, left_sound, older-kept, clocked, expired_sound}

-- ---- entries one after another

-- all entries are on rows of the farm
abbrev pub Mine : FarmSheet → List Item → Type 0
Mine own items = all (on_row own) items ≡ true

-- every open row is the farm's
abbrev Homes : FarmSheet → List Row → Type 0
Homes own rows = (i : ℕ) → is_open (row_at rows i) ≡ true → i < own.rows

module _ (own : FarmSheet) where
  nothing_mine : Mine own []
  unfolding all
  nothing_mine = refl

  pub says_on : (seat : ℕ) (reply : Reply) → seat < own.rows → on_row own (says own seat reply) ≡ true
  says_on seat reply h =
      rw (le-leb own.first (own.first + seat) (omega arith)) (lt-ltb (own.first + seat) (own.first + own.rows) (omega arith))

  says_mine : (seat : ℕ) (reply : Reply) → seat < own.rows → Mine own (says own seat reply ∷ [])
  unfolding all
  says_mine seat reply h = rw (says_on seat reply h) refl

  append_mine : (l m : List Item) → Mine own l → Mine own m → Mine own (l ++ m)
  unfolding all
  append_mine [] m p q = q
  append_mine (x ∷ l) m p q =
      split (on_row own x) (λ e. rw e (append_mine l m (rw e at p) q)) (λ e. absurd (false≢true (rw e at p)))

  then_mine : (d : Done) (g : Farm → Done) → Mine own d.items → Mine own (g d.farm).items → Mine own (and_then d g).items
  unfolding and_then
  then_mine d g p q = append_mine d.items (g d.farm).items p q

  each_mine : (g : ℕ → Farm → Done) (P : Farm → Type 0) (f : Farm) → P f → ((i : ℕ) (x : Farm) → P x → P (g i x).farm × Mine own (g i x).items)
      → Mine own (each_seat g f).items
  unfolding each_seat up_to and_then
  each_mine g P f p k = (go seat_count).1
    where
      go : (n : ℕ) → P (up_to (λ i d. and_then d (g i)) (quietly f) n).farm × Mine own (up_to (λ i d. and_then d (g i)) (quietly f) n).items
      go zero = (p, nothing_mine)
      go (suc n) =
          let d : Done = up_to (λ i d. and_then d (g i)) (quietly f) n in
          let r : P (g n d.farm).farm × Mine own (g n d.farm).items = k n d.farm (go n).0 in
          (r.0, append_mine d.items (g n d.farm).items (go n).1 r.1)

  -- ---- closings, answers, alive checks

  closed_mine : (seat : ℕ) (f : Farm) → seat < own.rows → Mine own (closed own seat f).items
  unfolding closed
  closed_mine seat f h = says_mine seat _ h

  -- the rows that close are the farm's; a row that is freed was one of them
  closings_mine : (test : ℕ → Row → Bool) (f : Farm) → ((i : ℕ) → test i (row_at f.rows i) ≡ true → i < own.rows)
      → Mine own (closed_where own test f).items
  unfolding closed_if closed
  closings_mine test f h =
      each_mine (closed_if own test) P f h
      (λ i x p. pick_case (λ (d : Done). P d.farm × Mine own d.items) (test i (row_at x.rows i)) _ _
      (λ e. (
        (λ k. row-set x.rows i k free_row (λ y. test k y ≡ true → k < own.rows) (λ q _ _. subst (λ j. j < own.rows) (sym q) (p i e)) (p k)),
        says_mine i _ (p i e),
      ))
      (λ _. (p, nothing_mine)))
    where
      P : Farm → Type 0
      P x = (i : ℕ) → test i (row_at x.rows i) ≡ true → i < own.rows

  answered_mine : (seat a code : ℕ) (f : Farm) → seat < own.rows → Mine own (answered own seat a code f).items
  unfolding answered
  answered_mine seat a code f h =
      pick_case (λ (d : Done). Mine own d.items) (eqb code accepted) _ _ (λ _. says_mine seat _ h)
      (λ _. then_mine _ (closed own seat) (says_mine seat _ h) (closed_mine seat f h))

  -- an alive check goes to active rows
  check_mine : (check : Check) (f : Farm) → ((i : ℕ) → asks check i (row_at f.rows i) ≡ true → i < own.rows)
      → Mine own (each_seat (asked_if own check) f).items
  unfolding asked_if
  check_mine check f h =
      each_mine (asked_if own check) P f h
      (λ i x p. pick_case (λ (d : Done). P d.farm × Mine own d.items) (asks check i (row_at x.rows i)) _ _ (λ e. (p, says_mine i _ (p i e)))
      (λ _. (p, nothing_mine)))
    where
      P : Farm → Type 0
      P x = (i : ℕ) → asks check i (row_at x.rows i) ≡ true → i < own.rows

  started_mine : (f : Farm) → Homes own f.rows → Mine own (started own f).items
  unfolding started
  started_mine f h = by f.line
    where
      by : (line : List ℕ) → Mine own (started_by own line f).items
      by [] = nothing_mine
      by (head ∷ rest) =
          let a : ℕ = wanted (row_at f.rows head) in
          socket_case (λ d. Mine own (asking own d (cleared f)).items) own f.rows a
          (λ s e _. check_mine (One s) (cleared f)
          (λ i t. subst (λ j. j < own.rows) (sym (eqb-true i s t)) (h s (active_open (row_at f.rows s).state (as_active a (row_at f.rows s).state e)))))
          (λ _ _. check_mine All (cleared f) (λ i t. h i (active_open (row_at f.rows i).state t)))
          (λ _ _. nothing_mine)

  advanced_mine : (rest : List ℕ) (f : Farm) → Homes own f.rows → Mine own (advanced own rest f).items
  unfolding advanced
  advanced_mine rest f h = started_mine (with_line f rest) h

  -- ---- settling

  serve_mine : (f : Farm) (head : ℕ) (rest : List ℕ) (v : HeadVerdict) (next : Farm → Done) → f.line ≡ head ∷ rest → Sound own f
      → Licence own f (wanted (row_at f.rows head)) v → ((g : Farm) → g.line ≡ rest → Sound own g → Mine own (next g).items)
      → Mine own (serve own head rest f v next).items
  unfolding and_then
  serve_mine f head rest v next e s l ih = by v l
    where
      a : ℕ
      a = wanted (row_at f.rows head)

      home : head < own.rows
      home = ours (kept_of s) head (waiting_open (row_at f.rows head).state (served-waits head rest e s))

      goes_on_lem : (d : Done) → Mine own d.items → Ready own rest d.farm → Mine own (and_then (and_then d (advanced own rest)) next).items
      goes_on_lem d p r =
          then_mine (and_then d (advanced own rest)) next (then_mine d (advanced own rest) p (advanced_mine rest d.farm (ours r.kept)))
          (ih (advanced own rest d.farm).farm (advanced-line own rest d.farm) (advanced_sound r))

      by : (w : HeadVerdict) → Licence own f a w → Mine own (serve own head rest f w next).items
      by Pending l = nothing_mine
      by (Answer code) l = goes_on_lem (answered own head a code f) (answered_mine head a code f home) (answer_ready head rest e s code l)
      by (RunOut check) l =
          let test : ℕ → Row → Bool = is_silent check f.marks in
          goes_on_lem (and_then (closed_where own test f) (answered own head a accepted))
          (then_mine (closed_where own test f) (answered own head a accepted)
          (closings_mine test f (λ i t. ours (kept_of s) i (active_open (row_at f.rows i).state (l.1 i t))))
          (answered_mine head a accepted (closed_where own test f).farm home))
          (run_out_ready head rest e s check l)

  settle_line_mine : (line : List ℕ) (f : Farm) → f.line ≡ line → Sound own f → Mine own (settle_line own line f).items
  unfolding settle_line
  settle_line_mine [] f e s = nothing_mine
  settle_line_mine (head ∷ rest) f e s =
      serve_mine f head rest (head_verdict own f head) (settle_line own rest) e s (head_licence head s) (λ g q t. settle_line_mine rest g q t)

  -- what settling says is on the farm's rows
  pub settle_mine : (f : Farm) → Sound own f → Mine own (settle own f).items
  settle_mine f s = settle_line_mine f.line f refl s

  -- ---- a bytes call

  joined_mine : (seat : ℕ) (q : Request) (f : Farm) → seat < own.rows → Homes own f.rows → Mine own (joined own seat q f).items
  unfolding joined
  joined_mine seat q f h k =
      pick_case (λ (d : Done). Mine own d.items) (is_empty f.line) _ _
      (λ _. started_mine (with_line (with_row f seat (waiting_row q)) (f.line ++ (seat ∷ [])))
      (λ i. row-set f.rows seat i (waiting_row q) (λ r. is_open r ≡ true → i < own.rows) (λ e _ _. subst (λ j. j < own.rows) (sym e) h) (k i)))
      (λ _. nothing_mine)

  requested_mine : (seat : ℕ) (q : Request) (f : Farm) → seat < own.rows → Homes own f.rows → Mine own (requested own seat q f).items
  unfolding requested
  requested_mine seat q f h k = by (decide own f.rows seat q)
    where
      by : (d : Decision) → Mine own (decided_by own seat q d f).items
      by (Now code) = answered_mine seat q.address code f h
      by (Ask check) = joined_mine seat q f h k

  diagnosed_mine : (seat : ℕ) (e : Ends) (f : Farm) → seat < own.rows → Mine own (diagnosed own seat e f).items
  unfolding diagnosed
  diagnosed_mine seat e f h =
      pick_case (λ (d : Done). Mine own d.items) (active_as e.source (row_at f.rows seat)) _ _ (λ _. by (own.target e.target))
      (λ _. then_mine _ (closed own seat) (says_mine seat _ h) (closed_mine seat f h))
    where
      by : (t : TargetIs) → Mine own (to_target own seat e t f).items
      by stranger = says_mine seat _ h
      by unreachable = says_mine seat _ h
      by reachable = append_mine (_ ∷ []) (_ ∷ []) (says_mine seat _ h) (says_mine seat _ h)

  event_mine : (seat : ℕ) (e : Event) (room : List ℕ) (f : Farm) → seat < own.rows → Homes own f.rows → Mine own (event_done own seat e room f).items
  unfolding event_done
  event_mine seat input_ended room f h k = nothing_mine
  event_mine seat (wrong fault) room f h k =
      pick_case (λ (d : Done). Mine own d.items) (closes fault) _ _ (λ _. then_mine _ (closed own seat) (says_mine seat _ h) (closed_mine seat f h))
      (λ _. says_mine seat _ h)
  event_mine seat (finished kind size) room f h k =
      pick_case (λ (d : Done). Mine own d.items) (eqb kind 0x0005) _ _ (λ _. requested_mine seat (request_in (take size room)) f h k)
      (λ _. pick_case (λ (d : Done). Mine own d.items) (eqb kind 0x0008) _ _ (λ _. nothing_mine)
      (λ _. pick_case (λ (d : Done). Mine own d.items) (eqb kind 0x8001) _ _ (λ _. diagnosed_mine seat (ends_in (take size room)) f h) (λ _. nothing_mine)))
  event_mine seat (skipped size) room f h k = nothing_mine

  bytes_mine : (f : Farm) (seat : ℕ) (t : Taken) → Sound own f → Talks f seat → PossibleIn t.stream → Mine own (bytes_done own seat t f).items
  unfolding bytes_done
  bytes_mine f seat t s k p =
      let g : Sound own (heard seat t f) = heard_sound seat t s k p in
      let d : Done = event_done own seat t.event t.stream.room (heard seat t f) in
      then_mine d (settle own) (event_mine seat t.event t.stream.room (heard seat t f) (ours (kept_of s) seat k.opened) (ours (kept_of g)))
      (settle_mine d.farm (event_sound seat g (heard_talks seat t s k) t.event t.stream.room))

  -- ---- the other calls

  left_mine : (seat : ℕ) (f : Farm) → Homes own f.rows → Mine own (left own seat f).items
  unfolding left
  left_mine seat f h = by f.line
    where
      by : (line : List ℕ) → Mine own (left_by own seat line f).items
      by [] = nothing_mine
      by (head ∷ rest) = pick_case (λ (d : Done). Mine own d.items) (eqb seat head) _ _ (λ _. advanced_mine rest f h) (λ _. nothing_mine)

  peer_mine : (seat : ℕ) (f : Farm) → Sound own f → is_open (row_at f.rows seat) ≡ true → Mine own (peer_gone own seat f).items
  unfolding peer_gone closed
  peer_mine seat f s e =
      then_mine (and_then (closed own seat f) (left own seat)) (settle own)
      (then_mine (closed own seat f) (left own seat) (closed_mine seat f (ours (kept_of s) seat e))
      (left_mine seat (closed own seat f).farm (ours (free_kept seat (kept_of s)))))
      (subst (λ g. Mine own (settle own g).items) (sym (then_farm (closed own seat f) (left own seat)))
      (settle_mine (left own seat (closed own seat f).farm).farm (left_sound seat (open_in f.rows seat e) s)))

  link_mine : (f : Farm) → Sound own f → Mine own (link_gone own f).items
  unfolding link_gone
  link_mine f s = then_mine (closed_where own (λ seat r. is_open r) f) _ (closings_mine (λ seat r. is_open r) f (ours (kept_of s))) nothing_mine

  pub ticked_mine : (f : Farm) → Sound own f → Mine own (ticked own f).items
  unfolding ticked
  ticked_mine f s =
      let g : Farm = aged (clock_run f.line f) in
      then_mine (closed_where own (λ seat r. at_limit r) g) (settle own)
      (closings_mine (λ seat r. at_limit r) g (λ i t. ours (older-kept (kept_of (clocked f.line s))) i (limit_open (row_at g.rows i).state t)))
      (settle_mine (closed_where own (λ seat r. at_limit r) g).farm (expired_sound s))

-- ---- all calls

abbrev pub MineBy : FarmSheet → Move → Type 0
MineBy own m = Gives (λ g. Mine own g.items) m

-- a datagram's reply is on no row
abbrev pub is_datagram : Own → Bool
is_datagram connect = false
is_datagram (bytes seat input) = false
is_datagram (peer_closed seat) = false
is_datagram link_lost = false
is_datagram (datagram input) = true
is_datagram (controller from to user) = false

module _ (own : FarmSheet) (h : Held) (s : Sound own h.farm) where
  connects_mine : MineBy own (connects own h)
  unfolding connects
  connects_mine = by (first_at is_free 0 (take own.rows h.farm.rows))
    where
      by : (d : Option ℕ) → MineBy own (connected_at own h d)
      by None = tt
      by (Some seat) = nothing_mine own

  bytes-by_mine : (seat : ℕ) (input : List ℕ) (x : RowState) → (row_at h.farm.rows seat).state ≡ x → MineBy own (bytes_by own h seat input x)
  bytes-by_mine seat input x e = by x e
    where
      t : Taken
      t = taken_by seat (get_or h.rooms seat []) input h.farm

      takes-bytes : Talks h.farm seat → MineBy own (took_bytes own h seat t)
      takes-bytes k = bytes_mine own h.farm seat t s k (taken_well seat (get_or h.rooms seat []) input s)

      by : (y : RowState) → (row_at h.farm.rows seat).state ≡ y → MineBy own (bytes_by own h seat input y)
      by Free q = tt
      by (Fresh c) q = takes-bytes (record { opened = ap is_open_state q; loud = ap is_waiting_state q })
      by (Waiting r) q = tt
      by (Active a c) q = takes-bytes (record { opened = ap is_open_state q; loud = ap is_waiting_state q })

  controller_mine : (from to : ℕ) (user : List ℕ) → MineBy own (controller_move own h from to user)
  unfolding controller_move
  controller_mine from to user =
      unless_case (MineBy own) (leb 1 (length user)) _ _ (λ _. tt)
      (λ _. unless_case (MineBy own) (leb (length user) most_user) _ _ (λ _. tt)
      (λ _. unless_case (MineBy own) (is_target (own.target from)) _ _ (λ _. tt)
      (λ _. first_case (λ d. MineBy own (to_tester own h from to user d)) (active_as to) h.farm.rows
      (λ seat e _. says_mine own seat _ (ours (kept_of s) seat (active_open (row_at h.farm.rows seat).state (as_active to (row_at h.farm.rows seat).state e))))
      (λ _. tt))))

  pub move_mine : (c : Own) → is_datagram c ≡ false → MineBy own (move own h c)
  unfolding move
  move_mine connect e = connects_mine
  move_mine (bytes seat input) e = bytes-by_mine seat input (row_at h.farm.rows seat).state refl
  move_mine (peer_closed seat) e = pick_case (MineBy own) (is_open (row_at h.farm.rows seat)) _ _ (λ t. peer_mine own seat h.farm s t) (λ _. tt)
  move_mine link_lost e = link_mine own h.farm s
  move_mine (datagram input) e = absurd (true≢false e)
  move_mine (controller from to user) e = controller_mine from to user
