-- The line's rules look at three numbers of a farm's sheet only: its quota, its entity address and its first row. So a function that is
-- handed these three does what the rules say of the whole sheet.
-- Assumes nothing.
use Rattle.std.proofs.Common.{Option, Some, None}
use Prim.Native.Nat.{ℕ, zero, suc}
use mathlib.Core.Path.{◌≡◌, refl, sym, ap, ◌∙◌}
use mathlib.Core.Bool.{Bool}
use mathlib.Core.List.{List, [], ◌∷◌, ◌++◌}
use Rattle.octets.specs.Choice.{pick}
use Rattle.octets.specs.Search.{first_at}
use Rattle.kinds.specs.declared.Request.{Request}
use Rattle.kinds.specs.declared.Row.{Row}
use Rattle.kinds.specs.declared.Reply.{Reply}
use Rattle.kinds.specs.declared.Check.{Check}
use Rattle.kinds.specs.declared.Decision.{Decision}
use Rattle.kinds.specs.declared.Decision.TheVariants.{Now, Ask}
use Rattle.kinds.specs.declared.HeadVerdict.{HeadVerdict}
use Rattle.kinds.specs.declared.HeadVerdict.TheVariants.{Pending, Answer, RunOut}
use Rattle.model.specs.FarmSheet.{FarmSheet}
use Rattle.model.specs.Row.{row_at, is_open, active_as, wanted, at_limit}
use Rattle.model.specs.Farm.{Farm, with_line, Done, does, quietly, and_then, each_seat, seat_count, says, closed, closed_if, closed_where}
use Rattle.model.specs.Line.{accepted, by_holder, socket_rules, is_silent, asked_if, asking, cleared, started_by, started, advanced, answered, verdict_by, head_verdict, serve, settle_line, settle, joined, left_by, left, asked_by, asked_in, is_asked, marked}
use Rattle.model.specs.Move.{peer_gone, link_gone, clock_run, aged, ticked}
use Rattle.model.proofs.Seats.{seats_to, seats-zero, seats-suc, seats-all}

pub record SameSite (a b : FarmSheet) : Type 0 where
  pub entity : a.entity ≡ b.entity
  pub quota : a.quota ≡ b.quota
  pub first : a.first ≡ b.first

-- ---- one thing, then another; through the seats

then_same : (d e : Done) (g h : Farm → Done) → d ≡ e → ((f : Farm) → g f ≡ h f) → and_then d g ≡ and_then e h
unfolding and_then
then_same d e g h p k =
    ap (λ (x : Done). does (g x.farm).farm (x.items ++ (g x.farm).items)) p
    ∙ ap (λ (x : Done). does x.farm (e.items ++ x.items)) (k e.farm)

seats_same : (g h : ℕ → Farm → Done) → ((i : ℕ) (f : Farm) → g i f ≡ h i f) → (f : Farm) (n : ℕ) → seats_to g f n ≡ seats_to h f n
seats_same g h k f zero = seats-zero g f ∙ sym (seats-zero h f)
seats_same g h k f (suc n) =
    seats-suc g f n ∙ then_same (seats_to g f n) (seats_to h f n) (g n) (h n) (seats_same g h k f n) (k n) ∙ sym (seats-suc h f n)

each_same : (g h : ℕ → Farm → Done) → ((i : ℕ) (f : Farm) → g i f ≡ h i f) → (f : Farm) → each_seat g f ≡ each_seat h f
each_same g h k f = seats-all g f ∙ seats_same g h k f seat_count ∙ sym (seats-all h f)

module _ (a b : FarmSheet) (same : SameSite a b) where
  says_same : (seat : ℕ) (r : Reply) → says a seat r ≡ says b seat r
  says_same seat r = rw same.first

  pub closed_same : (i : ℕ) (f : Farm) → closed a i f ≡ closed b i f
  unfolding closed
  closed_same i f = rw same.first

  pub closings_same : (test : ℕ → Row → Bool) (f : Farm) → closed_where a test f ≡ closed_where b test f
  unfolding closed_if
  closings_same test f =
      each_same (closed_if a test) (closed_if b test)
      (λ i g. ap (λ (d : Done). pick (test i (row_at g.rows i)) d (quietly g)) (closed_same i g)) f

  pub socket_same : (rows : List Row) (address : ℕ) → socket_rules a rows address ≡ socket_rules b rows address
  unfolding socket_rules
  socket_same rows address = by (first_at (active_as address) 0 rows)
    where
      by : (x : Option ℕ) → by_holder a rows x ≡ by_holder b rows x
      by (Some seat) = refl
      by None = rw same.quota

  asked_same : (check : Check) (i : ℕ) (f : Farm) → asked_if a check i f ≡ asked_if b check i f
  unfolding asked_if
  asked_same check i f = rw same.first

  asking_same : (d : Decision) (f : Farm) → asking a d f ≡ asking b d f
  asking_same (Now code) f = refl
  asking_same (Ask check) f = each_same (asked_if a check) (asked_if b check) (asked_same check) f

  pub started_same : (f : Farm) → started a f ≡ started b f
  unfolding started
  started_same f = by f.line
    where
      by : (line : List ℕ) → started_by a line f ≡ started_by b line f
      by [] = refl
      by (head ∷ rest) =
          let w : ℕ = wanted (row_at f.rows head) in
          asking_same (socket_rules a f.rows w) (cleared f) ∙ ap (λ (d : Decision). asking b d (cleared f)) (socket_same f.rows w)

  pub advanced_same : (rest : List ℕ) (f : Farm) → advanced a rest f ≡ advanced b rest f
  unfolding advanced
  advanced_same rest f = started_same (with_line f rest)

  pub answered_same : (seat address code : ℕ) (f : Farm) → answered a seat address code f ≡ answered b seat address code f
  unfolding answered closed
  answered_same seat address code f = rw (same.first, same.entity)

  pub verdict_same : (f : Farm) (head : ℕ) → head_verdict a f head ≡ head_verdict b f head
  unfolding head_verdict
  verdict_same f head = ap (verdict_by f) (socket_same f.rows (wanted (row_at f.rows head)))

  serve_same : (head : ℕ) (rest : List ℕ) (f : Farm) (v : HeadVerdict) (next later : Farm → Done) → ((g : Farm) → next g ≡ later g)
      → serve a head rest f v next ≡ serve b head rest f v later
  serve_same head rest f Pending next later k = refl
  serve_same head rest f (Answer code) next later k =
      let w : ℕ = wanted (row_at f.rows head) in
      then_same _ _ next later
      (then_same (answered a head w code f) (answered b head w code f) (advanced a rest) (advanced b rest) (answered_same head w code f) (advanced_same rest))
      k
  serve_same head rest f (RunOut check) next later k =
      let w : ℕ = wanted (row_at f.rows head) in
      then_same _ _ next later
      (then_same _ _ (advanced a rest) (advanced b rest)
      (then_same (closed_where a (is_silent check f.marks) f) (closed_where b (is_silent check f.marks) f) (answered a head w accepted)
      (answered b head w accepted) (closings_same (is_silent check f.marks) f) (answered_same head w accepted))
      (advanced_same rest))
      k

  pub settling_same : (line : List ℕ) (f : Farm) → settle_line a line f ≡ settle_line b line f
  unfolding settle_line
  settling_same [] f = refl
  settling_same (head ∷ rest) f =
      serve_same head rest f (head_verdict a f head) (settle_line a rest) (settle_line b rest) (settling_same rest)
      ∙ ap (λ (v : HeadVerdict). serve b head rest f v (settle_line b rest)) (verdict_same f head)

  pub settle_same : (f : Farm) → settle a f ≡ settle b f
  settle_same f = settling_same f.line f

  pub joined_same : (seat : ℕ) (q : Request) (f : Farm) → joined a seat q f ≡ joined b seat q f
  unfolding joined
  joined_same seat q f = rw (started_same _)

  pub left_same : (seat : ℕ) (f : Farm) → left a seat f ≡ left b seat f
  unfolding left
  left_same seat f = by f.line
    where
      by : (line : List ℕ) → left_by a seat line f ≡ left_by b seat line f
      by [] = refl
      by (head ∷ rest) = rw (advanced_same rest f)

  asked_in_same : (f : Farm) (line : List ℕ) (seat : ℕ) → asked_in a f line seat ≡ asked_in b f line seat
  asked_in_same f [] seat = refl
  asked_in_same f (head ∷ rest) seat =
      ap (λ (d : Decision). asked_by d seat (row_at f.rows seat)) (socket_same f.rows (wanted (row_at f.rows head)))

  pub is_asked_same : (f : Farm) (seat : ℕ) → is_asked a f seat ≡ is_asked b f seat
  unfolding is_asked
  is_asked_same f seat = asked_in_same f f.line seat

  pub marked_same : (seat address : ℕ) (f : Farm) → marked a seat address f ≡ marked b seat address f
  unfolding marked
  marked_same seat address f = rw (is_asked_same f seat)

  -- ---- the calls of one farm that only move it

  pub peer_same : (seat : ℕ) (f : Farm) → peer_gone a seat f ≡ peer_gone b seat f
  unfolding peer_gone
  peer_same seat f =
      then_same _ _ (settle a) (settle b)
      (then_same (closed a seat f) (closed b seat f) (left a seat) (left b seat) (closed_same seat f) (left_same seat))
      settle_same

  pub link_same : (f : Farm) → link_gone a f ≡ link_gone b f
  unfolding link_gone
  link_same f =
      let gone : Farm → Done = λ g. quietly (cleared (with_line g [])) in
      then_same (closed_where a (λ seat r. is_open r) f) (closed_where b (λ seat r. is_open r) f) gone gone (closings_same (λ seat r. is_open r) f)
      (λ g. refl)

  pub ticked_same : (f : Farm) → ticked a f ≡ ticked b f
  unfolding ticked
  ticked_same f =
      let g : Farm = aged (clock_run f.line f) in
      then_same (closed_where a (λ seat r. at_limit r) g) (closed_where b (λ seat r. at_limit r) g) (settle a) (settle b)
      (closings_same (λ seat r. at_limit r) g) settle_same
