-- Settling the line keeps the half `Sound` of rule 4.
-- Assumes nothing.
use Rattle.std.proofs.Common.{Option, Some, None}
use Prim.Native.Nat.{ℕ, zero, suc, ◌+◌, ◌≤◌, ◌<◌}
use mathlib.Core.Path.{◌≡◌, refl, sym, ap, subst, ◌∙◌}
use mathlib.Core.Bool.{Bool, true, false, false≢true, true≢false}
use mathlib.Core.List.{List, [], ◌∷◌}
use native.Mathlib.Omega.{arith}
use lib.Dec.{eqb, leb}
use lib.ListN.{length, length-replicate}
use borrow.Author.Tests.{leb-true, leb-false, eqb-true}
use Rattle.octets.specs.Choice.{pick, one}
use Rattle.octets.specs.Search.{first_at, count_if}
use Rattle.octets.specs.Fold.{up_to}
use Rattle.kinds.specs.declared.Row.{Row}
use Rattle.kinds.specs.declared.Check.{Check}
use Rattle.kinds.specs.declared.Check.TheVariants.{One, All}
use Rattle.kinds.specs.declared.Decision.{Decision}
use Rattle.kinds.specs.declared.Decision.TheVariants.{Now, Ask}
use Rattle.kinds.specs.declared.HeadVerdict.{HeadVerdict}
use Rattle.kinds.specs.declared.HeadVerdict.TheVariants.{Pending, Answer, RunOut}
use Rattle.model.specs.FarmSheet.{FarmSheet}
use Rattle.kinds.specs.Clock.{check_limit}
use Rattle.model.specs.Row.{free_row, active_row, row_at, is_open, is_waiting, is_active, active_as, wanted}
use Rattle.model.specs.Farm.{Farm, seat_count, no_marks, with_line, Done, and_then, closed, closed_where}
use Rattle.model.specs.Line.{accepted, by_holder, socket_rules, asks, is_marked, is_silent, all_answered, refusal_of, asked_if, asking, cleared, started_by, started, advanced, answered, verdict_by, head_verdict, serve, settle_line, settle}
use Rattle.model.proofs.Cases.{pick_case, split}
use Rattle.model.proofs.Rows.{open_in}
use Rattle.model.proofs.Seats.{each_keeps}
use Rattle.model.proofs.RuleParts.{Sound}
use Rattle.model.proofs.SoundRows.{Kept, Lined, Young, kept_of, sound_from, waiting_open, as_active, active_loud, waiting_not, wanted-tester, active_young, Fits, put-kept, free_kept, free_young, put-young, head-waits, head_gone}
use Rattle.model.proofs.SoundClose.{closings_kept, closings_young, closings_count, closings_fewer, closings_lined}

-- ---- the row that is found

first-from : (P : Option ℕ → Type 0) (p : Row → Bool) (k : ℕ) (rows : List Row)
    → ((s : ℕ) → p (row_at rows s) ≡ true → s < length rows → P (Some (k + s))) → (count_if p rows ≡ 0 → P None) → P (first_at p k rows)
unfolding first_at count_if
first-from P p k [] found none = none refl
first-from P p k (x ∷ xs) found none =
    pick_case P (p x) _ _ (λ e. subst (λ n. P (Some n)) (omega arith) (found 0 e (omega arith)))
    (λ e. first-from P p (suc k) xs (λ s t h. subst (λ n. P (Some n)) (omega arith) (found (suc s) t (omega arith)))
    (λ z. let o : one (p x) ≡ 0 = ap one e in none (omega arith)))

pub first_case : (P : Option ℕ → Type 0) (p : Row → Bool) (rows : List Row) → ((s : ℕ) → p (row_at rows s) ≡ true → s < length rows → P (Some s))
    → (count_if p rows ≡ 0 → P None) → P (first_at p 0 rows)
first_case P p rows found none = first-from P p 0 rows (λ s e h. subst (λ n. P (Some n)) (omega arith) (found s e h)) none

-- what the rules for a row that is not active can say
pub socket_case : (P : Decision → Type 0) (own : FarmSheet) (rows : List Row) (a : ℕ)
    → ((s : ℕ) → active_as a (row_at rows s) ≡ true → s < length rows → P (Ask (One s)))
    → (count_if (active_as a) rows ≡ 0 → own.quota ≤ count_if is_active rows → P (Ask All))
    → (count_if (active_as a) rows ≡ 0 → count_if is_active rows < own.quota → P (Now accepted)) → P (socket_rules own rows a)
unfolding socket_rules
socket_case P own rows a one-row all-rows at_once =
    first_case (λ d. P (by_holder own rows d)) (active_as a) rows one-row
    (λ z. pick_case P (leb own.quota (count_if is_active rows)) _ _ (λ e. all-rows z (leb-true own.quota (count_if is_active rows) e))
    (λ e. at_once z (leb-false own.quota (count_if is_active rows) e)))

-- where not all answered, an asked row is silent
pub record Silent (check : Check) (marks : List Bool) (rows : List Row) : Type 0 where
  pub seat : ℕ
  pub here : seat < seat_count
  pub is : is_silent check marks seat (row_at rows seat) ≡ true

pub some_silent : (check : Check) (marks : List Bool) (rows : List Row) → all_answered check marks rows ≡ false → Silent check marks rows
unfolding all_answered up_to
some_silent check marks rows e = go seat_count (omega arith) e
  where
    go : (n : ℕ) → n ≤ seat_count → up_to (λ i ok. pick (is_silent check marks i (row_at rows i)) false ok) true n ≡ false → Silent check marks rows
    go zero h e = absurd (true≢false e)
    go (suc n) h e =
        split (is_silent check marks n (row_at rows n)) (λ t. record { seat = n; here = h; is = t }) (λ t. go n (omega arith) (rw t at e))

pub silent_asked : (check : Check) (marks : List Bool) (seat : ℕ) (r : Row) → is_silent check marks seat r ≡ true → asks check seat r ≡ true
silent_asked check marks seat r e = split (is_marked marks seat) (λ t. absurd (false≢true (rw t at e))) (λ t. rw t at e)

-- ---- starting a check changes no row and no line

pub started-is : (own : FarmSheet) (f : Farm) → (started own f).farm ≡ cleared f
unfolding started asked_if
started-is own f = by f.line
  where
    by_decision : (d : Decision) → (asking own d (cleared f)).farm ≡ cleared f
    by_decision (Now code) = refl
    by_decision (Ask check) =
        each_keeps (asked_if own check) (cleared f) (λ x. x ≡ cleared f) refl
        (λ i x e. pick_case (λ (d : Done). d.farm ≡ cleared f) (asks check i (row_at x.rows i)) _ _ (λ _. e) (λ _. e))

    by : (line : List ℕ) → (started_by own line f).farm ≡ cleared f
    by [] = refl
    by (head ∷ rest) = by_decision (socket_rules own f.rows (wanted (row_at f.rows head)))

-- ---- the head is answered

-- the farm is sound as soon as its line is this one
pub record Ready (own : FarmSheet) (line : List ℕ) (f : Farm) : Type 0 where
  pub kept : Kept own f.rows
  pub young : Young f.rows
  pub lined : Lined f.rows line

pub ready_of : {own : FarmSheet} {f : Farm} → Sound own f → Ready own f.line f
ready_of s = record { kept = kept_of s; young = s.young; lined = s.lined }

pub no_marks_lem : length no_marks ≡ seat_count
no_marks_lem = length-replicate seat_count false

pub started_sound : {own : FarmSheet} {f : Farm} → Ready own f.line f → Sound own (started own f).farm
started_sound {own} {f} r = subst (Sound own) (sym (started-is own f)) (sound_from r.kept r.young r.lined no_marks_lem)

pub advanced_sound : {own : FarmSheet} {f : Farm} {rest : List ℕ} → Ready own rest f → Sound own (advanced own rest f).farm
unfolding advanced
advanced_sound r = started_sound (record { kept = r.kept; young = r.young; lined = r.lined })

pub advanced-line : (own : FarmSheet) (rest : List ℕ) (f : Farm) → (advanced own rest f).farm.line ≡ rest
unfolding advanced
advanced-line own rest f = ap (λ (g : Farm). g.line) (started-is own (with_line f rest))

-- what must hold before an address can become active on one more row
pub record Room (own : FarmSheet) (rows : List Row) (a : ℕ) : Type 0 where
  pub nobody : count_if (active_as a) rows ≡ 0
  pub place : count_if is_active rows < own.quota

pub room_fits : {own : FarmSheet} {rows : List Row} (r a : ℕ) → Kept own rows → is_open (row_at rows r) ≡ true → is_active (row_at rows r) ≡ false
    → own.tester a ≡ true → Room own rows a → Fits own rows r (active_row a)
room_fits {own} {rows} r a k opened idle known room =
    record {
      inside = open_in rows r opened;
      mine = λ h. absurd (true≢false (sym opened ∙ k.within r h));
      keeps = known;
      once =
          λ b. split (eqb a b)
          (λ e. let z : count_if (active_as b) rows ≡ 0 = subst (λ c. count_if (active_as c) rows ≡ 0) (eqb-true a b e) room.nobody in
          let o : one (eqb a b) ≡ 1 = ap one e in omega arith)
          (λ e. let o : one (eqb a b) ≡ 0 = ap one e in omega (arith, k.active_once b));
      places = omega (arith, room.place);
      can = omega arith;
    }

-- the head has its answer: the rest is the line
pub answered_ready : {own : FarmSheet} {f : Farm} {rest : List ℕ} (head a code : ℕ) → own.tester a ≡ true
    → (eqb code accepted ≡ true → Room own f.rows a) → Ready own (head ∷ rest) f → Ready own rest (answered own head a code f).farm
unfolding answered and_then closed
answered_ready {own} {f} {rest} head a code known room r =
    pick_case (λ (d : Done). Ready own rest d.farm) (eqb code accepted) _ _
    (λ e. record {
      kept = put-kept r.kept (room_fits head a r.kept opened (waiting_not (row_at f.rows head).state waits) known (room e));
      young = put-young f.rows head (active_row a) (active_young a) r.young;
      lined = head_gone f.rows head rest (active_row a) inside refl r.lined;
    })
    (λ e. record {
      kept = free_kept head r.kept;
      young = free_young f.rows head r.young;
      lined = head_gone f.rows head rest free_row inside refl r.lined;
    })
  where
    waits : is_waiting (row_at f.rows head) ≡ true
    waits = head-waits f.rows head rest r.lined

    opened : is_open (row_at f.rows head) ≡ true
    opened = waiting_open (row_at f.rows head).state waits

    inside : head < length f.rows
    inside = open_in f.rows head opened

-- ---- what a verdict has seen to before the head gets its answer

abbrev pub Licence : FarmSheet → Farm → ℕ → HeadVerdict → Type 0
Licence own f a Pending = Unit {0}
Licence own f a (Answer code) = eqb code accepted ≡ true → Room own f.rows a
Licence own f a (RunOut check) =
    Room own (closed_where own (is_silent check f.marks) f).farm.rows a ×
    ((i : ℕ) → is_silent check f.marks i (row_at f.rows i) ≡ true → is_active (row_at f.rows i) ≡ true)

refusal-not : (check : Check) → eqb (refusal_of check) accepted ≡ false
unfolding accepted
refusal-not (One s) = refl
refusal-not All = refl

ask_licence : {own : FarmSheet} {f : Farm} (a : ℕ) (check : Check) → Sound own f
    → ((i : ℕ) → asks check i (row_at f.rows i) ≡ true → is_active (row_at f.rows i) ≡ true)
    → (Silent check f.marks f.rows → Room own (closed_where own (is_silent check f.marks) f).farm.rows a)
    → Licence own f a (verdict_by f (Ask check))
ask_licence {own} {f} a check s act room =
    pick_case (Licence own f a) (all_answered check f.marks f.rows) _ _ (λ _ e. absurd (true≢false (sym e ∙ refusal-not check)))
    (λ e. pick_case (Licence own f a) (leb check_limit f.clock.ticks) _ _
    (λ _. (room (some_silent check f.marks f.rows e), λ i t. act i (silent_asked check f.marks i (row_at f.rows i) t))) (λ _. tt))

pub head_licence : {own : FarmSheet} {f : Farm} (head : ℕ) → Sound own f → Licence own f (wanted (row_at f.rows head)) (head_verdict own f head)
unfolding head_verdict
head_licence {own} {f} head s =
    socket_case (λ d. Licence own f a (verdict_by f d)) own f.rows a
    (λ seat e h.
    let act : (i : ℕ) → asks (One seat) i (row_at f.rows i) ≡ true → active_as a (row_at f.rows i) ≡ true =
    λ i t. subst (λ k. active_as a (row_at f.rows k) ≡ true) (sym (eqb-true i seat t)) e in
    ask_licence a (One seat) s (λ i t. as_active a (row_at f.rows i).state (act i t))
    (λ q. let mine : active_as a (row_at f.rows q.seat) ≡ true = act q.seat (silent_asked (One seat) f.marks q.seat (row_at f.rows q.seat) q.is) in
    record {
      nobody = omega (arith, closings_fewer own (is_silent (One seat) f.marks) f (active_as a) refl s.seats q.seat q.here q.is mine, s.active_once a);
      place = omega (
        arith,
        closings_fewer own (is_silent (One seat) f.marks) f is_active refl s.seats q.seat q.here q.is
            (as_active a (row_at f.rows q.seat).state mine),
        s.places_left,
      );
    }))
    (λ z full. ask_licence a All s (λ i t. t)
    (λ q. record {
      nobody = omega (arith, closings_count own (is_silent All f.marks) f (active_as a) refl);
      place = omega (
        arith,
        closings_fewer own (is_silent All f.marks) f is_active refl s.seats q.seat q.here q.is
            (silent_asked All f.marks q.seat (row_at f.rows q.seat) q.is),
        s.places_left,
      );
    }))
    (λ z left_over _. record { nobody = z; place = left_over })
  where
    a : ℕ
    a = wanted (row_at f.rows head)

-- ---- settling

-- the head waits for a tester's address, and once it has its answer the rest is the line
module _ {own : FarmSheet} {f : Farm} (head : ℕ) (rest : List ℕ) (e : f.line ≡ head ∷ rest) (s : Sound own f) where
  pub served-waits : is_waiting (row_at f.rows head) ≡ true
  served-waits = head-waits f.rows head rest (subst (Lined f.rows) e s.lined)

  known : own.tester (wanted (row_at f.rows head)) ≡ true
  known = wanted-tester own (row_at f.rows head) (row_at f.rows head).state served-waits (s.rows_keep head)

  pub answer_ready : (code : ℕ) → Licence own f (wanted (row_at f.rows head)) (Answer code)
      → Ready own rest (answered own head (wanted (row_at f.rows head)) code f).farm
  answer_ready code l = answered_ready head (wanted (row_at f.rows head)) code known l (subst (λ line. Ready own line f) e (ready_of s))

  pub run_out_ready : (check : Check) → Licence own f (wanted (row_at f.rows head)) (RunOut check)
      → Ready own rest (answered own head (wanted (row_at f.rows head)) accepted (closed_where own (is_silent check f.marks) f).farm).farm
  run_out_ready check l =
      let test : ℕ → Row → Bool = is_silent check f.marks in
      answered_ready {f = (closed_where own test f).farm} head (wanted (row_at f.rows head)) accepted known (λ _. l.0)
      (record {
        kept = closings_kept own test f (kept_of s);
        young = closings_young own test f s.young;
        lined = subst (Lined (closed_where own test f).farm.rows) e
            (closings_lined own test f (λ i t. active_loud (row_at f.rows i).state (l.1 i t)) s.lined);
      })

pub serve_sound : {own : FarmSheet} {f : Farm} (head : ℕ) (rest : List ℕ) (v : HeadVerdict) (next : Farm → Done) → f.line ≡ head ∷ rest → Sound own f
    → Licence own f (wanted (row_at f.rows head)) v → ((g : Farm) → g.line ≡ rest → Sound own g → Sound own (next g).farm)
    → Sound own (serve own head rest f v next).farm
unfolding and_then
serve_sound {own} {f} head rest v next e s l ih = by v l
  where
    goes_on_lem : (g : Farm) → Ready own rest g → Sound own (next (advanced own rest g).farm).farm
    goes_on_lem g r = ih (advanced own rest g).farm (advanced-line own rest g) (advanced_sound r)

    by : (w : HeadVerdict) → Licence own f (wanted (row_at f.rows head)) w → Sound own (serve own head rest f w next).farm
    by Pending l = s
    by (Answer code) l = goes_on_lem _ (answer_ready head rest e s code l)
    by (RunOut check) l = goes_on_lem _ (run_out_ready head rest e s check l)

pub settle_line_sound : {own : FarmSheet} (line : List ℕ) (f : Farm) → f.line ≡ line → Sound own f → Sound own (settle_line own line f).farm
unfolding settle_line
settle_line_sound [] f e s = s
settle_line_sound {own} (head ∷ rest) f e s =
    serve_sound head rest (head_verdict own f head) (settle_line own rest) e s (head_licence head s) (λ g q t. settle_line_sound rest g q t)

-- settling keeps it, whatever the line is
pub settled_sound : {own : FarmSheet} {f : Farm} → Sound own f → Sound own (settle own f).farm
settled_sound {own} {f} s = settle_line_sound f.line f refl s
