-- How many entries settling makes: as many as the farm's open rows, and two for each waiter, at most. For each closing there is one open
-- row less; a waiter has one 0006; and once a check starts with its 0007s, settling ends, since the check is undecided.
-- Assumes nothing.
use Prim.Native.Nat.{ℕ, ◌+◌, ◌*◌, ◌≤◌}
use mathlib.Core.Path.{◌≡◌, refl, sym, ap, subst, ◌∙◌}
use mathlib.Core.Bool.{Bool}
use mathlib.Core.List.{List, [], ◌∷◌}
use native.Mathlib.Omega.{arith}
use lib.Dec.{eqb, leb}
use lib.ListN.{length, length-set}
use Rattle.kinds.specs.declared.Row.{Row}
use Rattle.kinds.specs.declared.Check.{Check}
use Rattle.kinds.specs.declared.Decision.{Decision}
use Rattle.kinds.specs.declared.Decision.TheVariants.{Now, Ask}
use Rattle.kinds.specs.declared.HeadVerdict.{HeadVerdict}
use Rattle.kinds.specs.declared.HeadVerdict.TheVariants.{Pending, Answer, RunOut}
use Rattle.kinds.specs.Clock.{check_limit}
use Rattle.model.specs.FarmSheet.{FarmSheet}
use Rattle.model.specs.Row.{active_row, row_at, is_open, wanted}
use Rattle.model.specs.Farm.{Farm, seat_count, with_line, Done, quietly, and_then, closed, closed_where}
use Rattle.model.specs.Line.{accepted, is_silent, all_answered, asking, cleared, started_by, started, advanced, answered, verdict_by, head_verdict, serve, settle_line, settle}
use Rattle.model.specs.Move.{open_rows}
use Rattle.model.proofs.Cases.{pick_case}
use Rattle.model.proofs.Rows.{count_free}
use Rattle.model.proofs.Seats.{closings_keep}
use Rattle.model.proofs.SoundLine.{silent_asked}
use Rattle.model.proofs.Settling.{head_need, asking-farm, started-farm, started_open}
use Rattle.room.proofs.Open.{count-put, then_length, Costs, closings_cost, asks_open, asking_few}

-- the farm has all its seats
abbrev pub Seated : Farm → Type 0
Seated f = length f.rows ≡ seat_count

module _ (own : FarmSheet) where
  pub closings_seated : (test : ℕ → Row → Bool) (f : Farm) → Seated f → Seated (closed_where own test f).farm
  unfolding closed
  closings_seated test f l = closings_keep own test Seated f l (λ i x _ p. length-set x.rows i _ ∙ p)

  pub closed_seated : (seat : ℕ) (f : Farm) → Seated f → Seated (closed own seat f).farm
  unfolding closed
  closed_seated seat f l = length-set f.rows seat _ ∙ l

  pub closed_costs : (seat : ℕ) (f : Farm) → Costs 1 f (closed own seat f)
  unfolding closed
  closed_costs seat f = omega (arith, count_free is_open refl f.rows seat)

  -- ---- an answer is one entry, and one more where it closes

  pub answered_seated : (seat address code : ℕ) (f : Farm) → Seated f → Seated (answered own seat address code f).farm
  unfolding answered and_then
  answered_seated seat address code f l =
      pick_case (λ (d : Done). Seated d.farm) (eqb code accepted) _ _ (λ _. length-set f.rows seat _ ∙ l) (λ _. closed_seated seat f l)

  pub answered_costs : (seat address code : ℕ) (f : Farm) → Costs 2 f (answered own seat address code f)
  unfolding answered and_then
  answered_costs seat address code f =
      pick_case (Costs 2 f) (eqb code accepted) _ _ (λ _. omega (arith, count-put is_open f.rows seat (active_row address)))
      (λ _. omega (arith, closed_costs seat f))

  -- ---- a head that has just come up: its check, and what settling says then

  pub pending_quiet : (head : ℕ) (rest : List ℕ) (f : Farm) → head_verdict own f head ≡ Pending → settle_line own (head ∷ rest) f ≡ quietly f
  unfolding settle_line
  pending_quiet head rest f e = rw e refl

  -- so many entries at most come from settling this line
  abbrev pub Few : List ℕ → Type 0
  Few line = (g : Farm) → Seated g → length (settle_line own line g).items ≤ open_rows g + 2 * length line

  module _ (some : 1 ≤ own.quota) where
    head_few : (head : ℕ) (rest : List ℕ) (f : Farm) → Seated f → Few (head ∷ rest) → (d : Decision) → head_need own f head ≡ d
        → length (asking own d (cleared f)).items + length (settle_line own (head ∷ rest) (asking own d (cleared f)).farm).items
        ≤ open_rows f + 2 * length (head ∷ rest)
    head_few head rest f l next (Now code) e = omega (arith, next (cleared f) l)
    head_few head rest f l next (Ask check) e =
        let open_now : head_verdict own (cleared f) head ≡ Pending =
        subst (λ (x : Farm). head_verdict own x head ≡ Pending) (started-farm own f) (started_open own some f l head check e) in
        let still : length (settle_line own (head ∷ rest) (asking own (Ask check) (cleared f)).farm).items ≡ 0 =
        ap (λ (x : Farm). length (settle_line own (head ∷ rest) x).items) (asking-farm own (Ask check) (cleared f))
        ∙ ap (λ (d : Done). length d.items) (pending_quiet head rest (cleared f) open_now) in
        omega (arith, asking_few own check (cleared f) (asks_open own f.rows (wanted (row_at f.rows head)) check e))

    started-by : (line : List ℕ) (f : Farm) → Seated f → Few line
        → length (started_by own line f).items + length (settle_line own line (started_by own line f).farm).items ≤ open_rows f + 2 * length line
    unfolding settle_line
    started-by [] f l next = omega arith
    started-by (head ∷ rest) f l next = head_few head rest f l next (head_need own f head) refl

    pub started_few : (line : List ℕ) (f : Farm) → f.line ≡ line → Seated f → Few line
        → length (started own f).items + length (settle_line own line (started own f).farm).items ≤ open_rows f + 2 * length line
    unfolding started
    started_few line f e l next =
        subst
        (λ (x : List ℕ).
        length (started_by own x f).items + length (settle_line own line (started_by own x f).farm).items ≤ open_rows f + 2 * length line)
        (sym e) (started-by line f l next)

    pub advanced_few : (rest : List ℕ) (f : Farm) → Seated f → Few rest
        → length (and_then (advanced own rest f) (settle_line own rest)).items ≤ open_rows f + 2 * length rest
    unfolding advanced
    advanced_few rest f l next =
        omega (arith, then_length (advanced own rest f) (settle_line own rest), started_few rest (with_line f rest) refl l next)

    -- ---- one waiter after another

    -- the check that runs out is the one that the head needs
    out_need : (f : Farm) (d : Decision) (check : Check) → verdict_by f d ≡ RunOut check → d ≡ Ask check
    out_need f (Now code) check e = absurd (let z : ◌≡◌ {A = ℕ} 0 1 = cc in omega arith)
    out_need f (Ask other) check e =
        pick_case (λ v. v ≡ RunOut check → Ask other ≡ Ask check) (all_answered other f.marks f.rows) _ _
        (λ _ q. absurd (let z : ◌≡◌ {A = ℕ} 0 1 = cc in omega arith))
        (λ _. pick_case (λ v. v ≡ RunOut check → Ask other ≡ Ask check) (leb check_limit f.clock.ticks) _ _ (λ _ q. cc)
        (λ _ q. absurd (let z : ◌≡◌ {A = ℕ} 0 1 = cc in omega arith)))
        e

    serve_few : (head : ℕ) (rest : List ℕ) (f : Farm) → Seated f → Few rest → (v : HeadVerdict) → head_verdict own f head ≡ v
        → length (serve own head rest f v (settle_line own rest)).items ≤ open_rows f + 2 * length (head ∷ rest)
    unfolding head_verdict and_then
    serve_few head rest f l next Pending e = omega arith
    serve_few head rest f l next (Answer code) e =
        let want : ℕ = wanted (row_at f.rows head) in
        let a : Done = answered own head want code f in
        omega (
          arith,
          then_length (and_then a (advanced own rest)) (settle_line own rest),
          then_length a (advanced own rest),
          then_length (advanced own rest a.farm) (settle_line own rest),
          answered_costs head want code f,
          advanced_few rest a.farm (answered_seated head want code f l) next,
        )
    serve_few head rest f l next (RunOut check) e =
        let want : ℕ = wanted (row_at f.rows head) in
        let c : Done = closed_where own (is_silent check f.marks) f in
        let a : Done = answered own head want accepted c.farm in
        let b : Done = and_then c (answered own head want accepted) in
        let need : head_need own f head ≡ Ask check = out_need f (head_need own f head) check e in
        omega (
          arith,
          then_length (and_then b (advanced own rest)) (settle_line own rest),
          then_length b (advanced own rest),
          then_length c (answered own head want accepted),
          then_length (advanced own rest a.farm) (settle_line own rest),
          closings_cost own (is_silent check f.marks) f
              (λ i t. asks_open own f.rows want check need i (silent_asked check f.marks i (row_at f.rows i) t)),
          answered_costs head want accepted c.farm,
          advanced_few rest a.farm (answered_seated head want accepted c.farm (closings_seated (is_silent check f.marks) f l)) next,
        )

    pub line_few : (line : List ℕ) → Few line
    unfolding settle_line
    line_few [] g l = omega arith
    line_few (head ∷ rest) g l = serve_few head rest g l (line_few rest) (head_verdict own g head) refl

    -- SETTLING IS SHORT.
    pub settle_few : (f : Farm) → Seated f → length (settle own f).items ≤ open_rows f + 2 * length f.line
    settle_few f l = line_few f.line f l
