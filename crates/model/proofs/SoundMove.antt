-- Every call and every tick keeps the half `Sound` of rule 4; a new farm has it.
-- Assumes nothing.
use Rattle.std.proofs.Common.{Option, Some, None}
use Prim.Native.Nat.{ℕ, zero, suc, ◌<◌, min}
use mathlib.Core.Path.{◌≡◌, refl, sym, ap, subst, ◌∙◌}
use mathlib.Core.Bool.{Bool, true, false, false≢true}
use mathlib.Core.List.{List, [], ◌∷◌, map}
use native.Mathlib.Omega.{arith}
use lib.Dec.{eqb, leb}
use lib.ListN.{get_or, set, take, length, length-take, length-map, length-replicate, replicate}
use borrow.Author.Tests.{eqb-true, ne_eqb}
use lib.Seq.{get_or-take}
use Rattle.octets.specs.Choice.{one}
use Rattle.octets.specs.Search.{first_at, count_if}
use Rattle.kinds.specs.declared.RowState.{RowState}
use Rattle.kinds.specs.declared.RowState.TheVariants.{Free, Fresh, Waiting, Active}
use Rattle.kinds.specs.declared.Row.{Row}
use Rattle.model.specs.FarmSheet.{FarmSheet}
use Rattle.model.specs.Row.{free_row, fresh_row, row_at, is_free_state, is_free, is_open_state, is_open, is_waiting_state, is_waiting, is_active_state, is_active, active_as_state, active_as, older_state, older, at_limit}
use Rattle.model.specs.Stream.{Taken}
use Rattle.model.specs.Farm.{Farm, seat_count, new_farm, with_row, Done, and_then, closed, closed_where}
use Rattle.model.specs.Line.{without, left_by, left}
use Rattle.model.specs.Bytes.{taken_by}
use Rattle.model.specs.Move.{Own, connect, bytes, peer_closed, link_lost, datagram, controller, Held, Given, Move, refused, gave, connected_at, connects, took_bytes, bytes_by, peer_gone, link_gone, clock_run, aged, ticked, datagram_move, most_user, is_target, to_tester, controller_move, move}
use Rattle.model.specs.Rule.{times, RowKeeps, PossibleAt}
use Rattle.model.proofs.Cases.{pick_case, unless_case}
use Rattle.model.proofs.Rows.{row-map, open_in, count_map, times_gone, times-kept, row_free, older_open}
use Rattle.model.proofs.RuleParts.{Sound}
use Rattle.model.proofs.SoundRows.{Kept, Lined, Young, kept_of, sound_from, one-small, shut_loud, limit_loud, fresh-young, put-kept, free_kept, free_young, put-young, put-lined}
use Rattle.model.proofs.SoundClose.{closings_line, closings_marks, closings_kept, closings_young, closings_lined, closings_none}
use Rattle.model.proofs.SoundLine.{first_case, no_marks_lem, advanced_sound, settled_sound}
use Rattle.model.proofs.SoundBytes.{Talks, taken_well, bytes_sound}

-- what holds of all that an accepted call gives
abbrev pub Gives : (Given → Type 0) → Move → Type 0
Gives P (refused n) = Unit {0}
Gives P (gave g) = P g

abbrev pub KeepsSound : FarmSheet → Move → Type 0
KeepsSound own m = Gives (λ g. Sound own g.held.farm) m

-- ---- a new farm

pub newly_sound : {own : FarmSheet} → Sound own new_farm
unfolding new_farm count_if
newly_sound {own} =
    sound_from
    (record {
      seats = length-replicate seat_count free_row;
      within = λ i h. at i (λ r. is_open r ≡ false) refl;
      rows_keep = λ i. at i (λ r. RowKeeps own r r.state) tt;
      active_once = λ a. omega (arith, none (active_as a) refl seat_count);
      places_left = omega (arith, none is_active refl seat_count);
      possible = λ i. at i (λ r. PossibleAt r.place r.head) (omega arith);
    })
    (λ i. at i (λ r. at_limit r ≡ false) refl) (λ i. at i (λ r. times i [] ≡ one (is_waiting r)) refl) no_marks_lem
  where
    at : (i : ℕ) (P : Row → Type 0) → P free_row → P (row_at (replicate seat_count free_row) i)
    at i P p = subst P (sym (row_free seat_count i)) p

    none : (p : Row → Bool) → p free_row ≡ false → (n : ℕ) → count_if p (replicate n free_row) ≡ 0
    none p e zero = refl
    none p e (suc n) = let q : one (p free_row) ≡ 0 = ap one e in omega (arith, none p e n)

-- ---- connect

free_loud : (s : RowState) → is_free_state s ≡ true → is_waiting_state s ≡ false
free_loud Free e = refl
free_loud (Fresh c) e = absurd (false≢true e)
free_loud (Waiting q) e = absurd (false≢true e)
free_loud (Active a c) e = absurd (false≢true e)

opened_sound : {own : FarmSheet} {f : Farm} (seat : ℕ) → seat < own.rows → seat < length f.rows → is_free (row_at f.rows seat) ≡ true → Sound own f
    → Sound own (with_row f seat fresh_row)
opened_sound {own} {f} seat h inside e s =
    sound_from
    (put-kept (kept_of s)
    (record {
      inside = inside;
      mine = λ m. absurd (omega arith);
      keeps = tt;
      once = λ a. omega (arith, s.active_once a);
      places = omega (arith, s.places_left);
      can = omega arith;
    }))
    (put-young f.rows seat fresh_row fresh-young s.young)
    (put-lined f.rows f.line seat fresh_row f.line inside (s.lined seat ∙ ap one (free_loud (row_at f.rows seat).state e)) (λ _ _. refl) s.lined)
    s.marks_too

connects_sound : {own : FarmSheet} (h : Held) → Sound own h.farm → KeepsSound own (connects own h)
unfolding connects
connects_sound {own} h s =
    first_case (λ d. KeepsSound own (connected_at own h d)) is_free (take own.rows h.farm.rows)
    (λ seat e l.
    let m : length (take own.rows h.farm.rows) ≡ min own.rows (length h.farm.rows) = length-take own.rows h.farm.rows in
    let mine : seat < own.rows = omega arith in
    let inside : seat < length h.farm.rows = omega arith in
    opened_sound seat mine inside (ap is_free (sym (get_or-take own.rows h.farm.rows seat free_row mine)) ∙ e) s)
    (λ _. tt)

-- ---- peer closed

pub left_sound : {own : FarmSheet} {f : Farm} (seat : ℕ) → seat < length f.rows → Sound own f → Sound own (left own seat (closed own seat f).farm).farm
unfolding left closed count_if
left_sound {own} {f} seat inside s = by f.line refl
  where
    g : Farm
    g = (closed own seat f).farm

    kept : Kept own (set f.rows seat free_row)
    kept = free_kept seat (kept_of s)

    young : Young (set f.rows seat free_row)
    young = free_young f.rows seat s.young

    by : (line : List ℕ) → f.line ≡ line → Sound own (left_by own seat line g).farm
    by [] e =
        sound_from kept young
        (subst (Lined (set f.rows seat free_row)) (sym e)
        (put-lined f.rows [] seat free_row [] inside refl (λ _ _. refl) (subst (Lined f.rows) e s.lined)))
        s.marks_too
    by (head ∷ rest) e =
        pick_case (λ (d : Done). Sound own d.farm) (eqb seat head) _ _
        (λ t. advanced_sound
        (record {
          kept = kept;
          young = young;
          lined =
              put-lined f.rows (head ∷ rest) seat free_row rest inside
              (let o : one (eqb seat head) ≡ 1 = ap one t in omega (arith, was seat, one-small (is_waiting (row_at f.rows seat))))
              (λ i n. let o : one (eqb i head) ≡ 0 = ap one (ne_eqb i head (λ q. n (q ∙ sym (eqb-true seat head t)))) in omega arith)
              was;
        }))
        (λ t. sound_from kept young
        (put-lined f.rows (head ∷ rest) seat free_row (head ∷ without seat rest) inside
        (let o : one (eqb seat head) ≡ 0 = ap one t in omega (arith, times_gone seat rest))
        (λ i n. omega (arith, times-kept i seat (ne_eqb i seat n) rest)) was)
        s.marks_too)
      where
        was : Lined f.rows (head ∷ rest)
        was = subst (Lined f.rows) e s.lined

peer_sound : {own : FarmSheet} {f : Farm} (seat : ℕ) → Sound own f → is_open (row_at f.rows seat) ≡ true → Sound own (peer_gone own seat f).farm
unfolding peer_gone and_then
peer_sound {own} {f} seat s e = settled_sound (left_sound seat (open_in f.rows seat e) s)

-- ---- link lost

link_sound : {own : FarmSheet} {f : Farm} → Sound own f → Sound own (link_gone own f).farm
unfolding link_gone and_then count_if
link_sound {own} {f} s =
    sound_from (closings_kept own (λ seat r. is_open r) f (kept_of s)) (closings_young own (λ seat r. is_open r) f s.young)
    (λ i. ap one (sym (shut_loud (row_at (closed_where own (λ seat r. is_open r) f).farm.rows i).state (closings_none own is_open refl f s.seats i)))) no_marks_lem

-- ---- tick

pub older_waiting : (s : RowState) → is_waiting_state (older_state s) ≡ is_waiting_state s
older_waiting Free = refl
older_waiting (Fresh c) = refl
older_waiting (Waiting q) = refl
older_waiting (Active a c) = refl

pub older_active : (s : RowState) → is_active_state (older_state s) ≡ is_active_state s
older_active Free = refl
older_active (Fresh c) = refl
older_active (Waiting q) = refl
older_active (Active a c) = refl

pub older_as : (b : ℕ) (s : RowState) → active_as_state b (older_state s) ≡ active_as_state b s
older_as b Free = refl
older_as b (Fresh c) = refl
older_as b (Waiting q) = refl
older_as b (Active a c) = refl

older_keeps : (own : FarmSheet) (r : Row) (s : RowState) → RowKeeps own r s → RowKeeps own (older r) (older_state s)
older_keeps own r Free k = tt
older_keeps own r (Fresh c) k = tt
older_keeps own r (Waiting q) k = k
older_keeps own r (Active a c) k = k

pub older-kept : {own : FarmSheet} {rows : List Row} → Kept own rows → Kept own (map older rows)
older-kept {own} {rows} k =
    record {
      seats = length-map rows older ∙ k.seats;
      within = λ i h. ap is_open (at i) ∙ older_open (row_at rows i).state ∙ k.within i h;
      rows_keep = λ i. subst (λ r. RowKeeps own r r.state) (sym (at i)) (older_keeps own (row_at rows i) (row_at rows i).state (k.rows_keep i));
      active_once = λ a. omega (arith, count_map (active_as a) older (λ r. older_as a r.state) rows, k.active_once a);
      places_left = omega (arith, count_map is_active older (λ r. older_active r.state) rows, k.places_left);
      possible = λ i. subst (λ r. PossibleAt r.place r.head) (sym (at i)) (k.possible i);
    }
  where
    at : (i : ℕ) → row_at (map older rows) i ≡ older (row_at rows i)
    at i = row-map older refl rows i

pub clocked : {own : FarmSheet} {f : Farm} (line : List ℕ) → Sound own f → Sound own (clock_run line f)
clocked [] s = s
clocked (head ∷ rest) s = sound_from (kept_of s) s.young s.lined s.marks_too

-- a tick before its settling: the rows at their limit are closed
pub expired_sound : {own : FarmSheet} {f : Farm} → Sound own f → Sound own (closed_where own (λ seat r. at_limit r) (aged (clock_run f.line f))).farm
expired_sound {own} {f} z = closes_old (clock_run f.line f) (clocked f.line z)
  where
    closes_old : (g : Farm) → Sound own g → Sound own (closed_where own (λ seat r. at_limit r) (aged g)).farm
    closes_old g s =
        let kept : Kept own (map older g.rows) = older-kept (kept_of s) in
        sound_from (closings_kept own (λ seat r. at_limit r) (aged g) kept) (closings_none own at_limit refl (aged g) kept.seats)
        (subst (Lined (closed_where own (λ seat r. at_limit r) (aged g)).farm.rows) (sym (closings_line own (λ seat r. at_limit r) (aged g)))
        (closings_lined own (λ seat r. at_limit r) (aged g) (λ i t. limit_loud (row_at (map older g.rows) i).state t)
        (λ i. s.lined i ∙ ap one (sym (ap is_waiting (row-map older refl g.rows i) ∙ older_waiting (row_at g.rows i).state)))))
        (ap length (closings_marks own (λ seat r. at_limit r) (aged g)) ∙ s.marks_too)

pub ticked_sound : {own : FarmSheet} {f : Farm} → Sound own f → Sound own (ticked own f).farm
unfolding ticked and_then
ticked_sound s = settled_sound (expired_sound s)

-- ---- all calls

controller_sound : {own : FarmSheet} (h : Held) (from to : ℕ) (user : List ℕ) → Sound own h.farm → KeepsSound own (controller_move own h from to user)
unfolding controller_move
controller_sound {own} h from to user s =
    unless_case (KeepsSound own) (leb 1 (length user)) _ _ (λ _. tt)
    (λ _. unless_case (KeepsSound own) (leb (length user) most_user) _ _ (λ _. tt)
    (λ _. unless_case (KeepsSound own) (is_target (own.target from)) _ _ (λ _. tt) (λ _. by (first_at (active_as to) 0 h.farm.rows))))
  where
    by : (d : Option ℕ) → KeepsSound own (to_tester own h from to user d)
    by None = tt
    by (Some seat) = s

bytes-by_sound : {own : FarmSheet} (h : Held) (seat : ℕ) (input : List ℕ) (x : RowState) → (row_at h.farm.rows seat).state ≡ x → Sound own h.farm
    → KeepsSound own (bytes_by own h seat input x)
bytes-by_sound {own} h seat input x e s = by x e
  where
    t : Taken
    t = taken_by seat (get_or h.rooms seat []) input h.farm

    takes-bytes : Talks h.farm seat → KeepsSound own (took_bytes own h seat t)
    takes-bytes k =
        bytes_sound seat t s k (taken_well seat (get_or h.rooms seat []) input s)

    by : (y : RowState) → (row_at h.farm.rows seat).state ≡ y → KeepsSound own (bytes_by own h seat input y)
    by Free q = tt
    by (Fresh c) q = takes-bytes (record { opened = ap is_open_state q; loud = ap is_waiting_state q })
    by (Waiting r) q = tt
    by (Active a c) q = takes-bytes (record { opened = ap is_open_state q; loud = ap is_waiting_state q })

-- every call keeps it
pub move_keeps : {own : FarmSheet} (h : Held) (c : Own) → Sound own h.farm → KeepsSound own (move own h c)
unfolding move datagram_move
move_keeps h connect s = connects_sound h s
move_keeps h (bytes seat input) s = bytes-by_sound h seat input (row_at h.farm.rows seat).state refl s
move_keeps {own} h (peer_closed seat) s =
    pick_case (KeepsSound own) (is_open (row_at h.farm.rows seat)) _ _ (λ e. peer_sound seat s e) (λ _. tt)
move_keeps h link_lost s = link_sound s
move_keeps h (datagram input) s = s
move_keeps h (controller from to user) s = controller_sound h from to user s
