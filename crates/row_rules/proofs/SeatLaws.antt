-- The seats' tests in the order of the code: over all seats they say the same as rule 4's own.
-- Assumes nothing.
use Prim.{Unit}
use Prim.Native.Nat.{ℕ, suc, ◌+◌, ◌*◌, ◌≤◌, ◌<◌}
use mathlib.Core.Path.{◌≡◌, refl, sym, ap, ◌∙◌}
use mathlib.Core.Bool.{Bool, true, false, not}
use mathlib.Core.List.{List}
use mathlib.Core.Logic.{◌⊎◌, inl, inr, ⊎_elim}
use native.Mathlib.Numerals.{add-one}
use native.Mathlib.Omega.{arith}
use lib.Dec.{leb}
use lib.ListN.{length, drop}
use borrow.Author.Tests.{eqb-true, eq-eqb}
use Rattle.octets.specs.Choice.{both, either}
use Rattle.octets.specs.Says.{Says}
use Rattle.octets.specs.Search.{count_if, some}
use Rattle.octets.specs.Parts.{part}
use Rattle.octets.proofs.SaysLaws.{never, says_of, says_same}
use Rattle.octets.proofs.ChoiceLaws.{says_both, says-either, says-not, says-true, says_le, says_lt, says_eq}
use Rattle.octets.proofs.FoldLaws.{every_says}
use Rattle.octets.proofs.PartsLaws.{length_part}
use Rattle.kinds.specs.Clock.{initial_limit, general_limit}
use Rattle.kinds.specs.declared.Row.{Row}
use Rattle.kinds.specs.declared.Place.{Place}
use Rattle.kinds.specs.declared.RowState.{RowState}
use Rattle.kinds.specs.declared.RowState.TheVariants.{Free, Fresh, Waiting, Active}
use Rattle.wire.specs.Header.{header_size}
use Rattle.rowbytes.specs.RowLayout.{row_size, head_in, head_size}
use Rattle.rowbytes.specs.RowBytes.{row_from}
use Rattle.model.specs.FarmSheet.{FarmSheet}
use Rattle.model.specs.Row.{row_at, active_as, active_as_state}
use Rattle.model.specs.Farm.{Farm, seat_count}
use Rattle.model.specs.Line.{is_marked, is_asked}
use Rattle.model.specs.Rule.{times, PossibleAt, TidyAt}
use Rattle.model.specs.RuleTest.{every_seat, possible_at, tidy_at, seat_keeps}
use Rattle.model.proofs.RuleTestLaws.{OnceBy, SeatOk, seat_says, possible-says, boundary-says, unused-says, once_of}
use Rattle.table.specs.Layout.{seats, rows_at, block_size}
use Rattle.table.specs.Block.{farm_of}
use Rattle.table.proofs.BlockLaws.{row_read}
use Rattle.row_rules.specs.Seat.{state_keeps, seat_test}
use Rattle.row_rules.proofs.OnceLaws.{after-once, once_after}

-- no row after this one is active with its address
abbrev After : List Row → ℕ → RowState → Type 0
After rows i Free = Unit {0}
After rows i (Fresh age) = Unit {0}
After rows i (Waiting q) = Unit {0}
After rows i (Active a idle) = some (active_as a) (drop (i + 1) rows) ≡ false

module _ (own : FarmSheet) (x : Farm) (i : ℕ) where
  abbrev Asked : Type 0
  Asked = (is_marked x.marks i ≡ false) ⊎ (is_asked own x i ≡ true)

  abbrev asked : Bool
  asked = either (not (is_marked x.marks i)) (is_asked own x i)

  asked_says : Says asked Asked
  asked_says = says-either (says-not (is_marked x.marks i)) (says-true (is_asked own x i))

  -- a row in this state, at this place, with these header bytes
  abbrev row : RowState → Place → List ℕ → Row
  row st place head = record { state = st; place = place; head = head }

  inside : {P : Type 0} → (P ⊎ (true ≡ false)) → P
  inside h = ⊎_elim (λ p. p) (λ e. absurd (never (sym e))) h

  -- all rules of the seat but that its address is active once
  record Passed (r : Row) : Type 0 where
    seat : OnceBy x.rows r.state → SeatOk own x i r
    after : After x.rows i r.state

  -- what passes the test, and what is to pass it
  record Test (t : Bool) (r : Row) : Type 0 where
    right : t ≡ true → Passed r
    all : SeatOk own x i r → After x.rows i r.state → t ≡ true

  module _ (place : Place) (head : List ℕ) (eight : length head ≡ header_size) where
    common : {Q : Type 0} {q : Bool} → Says q Q
        → Says (both (possible_at place head) (both (tidy_at place head) (both asked q))) (PossibleAt place head × (TidyAt place head × (Asked × Q)))
    common s = says_both (possible-says place head) (says_both (unused-says place head) (says_both asked_says s))

    by_state_lem : (st : RowState)
        → Test (both (possible_at place head) (both (tidy_at place head) (both asked (state_keeps own.tester own.rows x i place st)))) (row st place head)
    by_state_lem Free =
        let s = common (says_both (boundary-says place) (says_eq (times i x.line) 0)) in
        record {
          right =
              λ t.
              let h = s.right t in
              record {
                seat =
                    λ o.
                    record {
                      within = inr refl;
                      keeps = tt;
                      once = tt;
                      lined = h.1.1.1.1;
                      young = refl;
                      asked = h.1.1.0;
                      possible = h.0;
                      tidy = record { eight = eight; unused = h.1.0; freed = λ e. h.1.1.1.0 };
                    };
                after = tt;
              };
          all = λ g a. s.all (g.possible, (g.tidy.unused, (g.asked, (g.tidy.freed refl, g.lined))));
        }
    by_state_lem (Fresh age) =
        let s = common (says_both (says_lt i own.rows) (says_both (says-not (leb initial_limit age.ticks)) (says_eq (times i x.line) 0))) in
        record {
          right =
              λ t.
              let h = s.right t in
              record {
                seat =
                    λ o.
                    record {
                      within = inl h.1.1.1.0;
                      keeps = tt;
                      once = tt;
                      lined = h.1.1.1.1.1;
                      young = h.1.1.1.1.0;
                      asked = h.1.1.0;
                      possible = h.0;
                      tidy = record { eight = eight; unused = h.1.0; freed = λ e. absurd (never e) };
                    };
                after = tt;
              };
          all = λ g a. s.all (g.possible, (g.tidy.unused, (g.asked, (inside g.within, (g.young, g.lined)))));
        }
    by_state_lem (Waiting q) =
        let s =
        common
        (says_both (says_lt i own.rows)
        (says_both (boundary-says place)
        (says_both (says_le q.kind 1) (says_both (says_eq (times i x.line) 1) (says-true (own.tester q.address))))))
        in
        record {
          right =
              λ t.
              let h = s.right t in
              record {
                seat =
                    λ o.
                    record {
                      within = inl h.1.1.1.0;
                      keeps = (h.1.1.1.1.0, h.1.1.1.1.1.1.1, h.1.1.1.1.1.0);
                      once = tt;
                      lined = h.1.1.1.1.1.1.0;
                      young = refl;
                      asked = h.1.1.0;
                      possible = h.0;
                      tidy = record { eight = eight; unused = h.1.0; freed = λ e. absurd (never e) };
                    };
                after = tt;
              };
          all =
              λ g a.
              s.all (g.possible, (g.tidy.unused, (g.asked, (inside g.within, (g.keeps.0, (g.keeps.2, (g.lined, g.keeps.1)))))));
        }
    by_state_lem (Active a idle) =
        let s =
        common
        (says_both (says_lt i own.rows)
        (says_both (says-not (leb general_limit idle.ticks))
        (says_both (says_eq (times i x.line) 0)
        (says_both (says-true (own.tester a)) (says-not (some (active_as a) (drop (i + 1) x.rows)))))))
        in
        record {
          right =
              λ t.
              let h = s.right t in
              record {
                seat =
                    λ o.
                    record {
                      within = inl h.1.1.1.0;
                      keeps = h.1.1.1.1.1.1.0;
                      once = o;
                      lined = h.1.1.1.1.1.0;
                      young = h.1.1.1.1.0;
                      asked = h.1.1.0;
                      possible = h.0;
                      tidy = record { eight = eight; unused = h.1.0; freed = λ e. absurd (never e) };
                    };
                after = h.1.1.1.1.1.1.1;
              };
          all =
              λ g o. s.all (g.possible, (g.tidy.unused, (g.asked, (inside g.within, (g.young, (g.lined, (g.keeps, o)))))));
        }

  seat_passes : length (row_at x.rows i).head ≡ header_size → Test (seat_test own x i) (row_at x.rows i)
  unfolding seat_test
  seat_passes eight = let r : Row = row_at x.rows i in by_state_lem r.place r.head eight r.state

-- ---- all seats

-- the row's address is active once, from the rows after each
after_state : (a : ℕ) (rows : List Row) (i : ℕ) (st : RowState) → After rows i st → active_as_state a st ≡ true → some (active_as a) (drop (suc i) rows) ≡ false
after_state a rows i Free h e = absurd (never e)
after_state a rows i (Fresh age) h e = absurd (never e)
after_state a rows i (Waiting q) h e = absurd (never e)
after_state a rows i (Active b idle) h e =
    ap (λ (k : ℕ). some (active_as k) (drop (suc i) rows)) (sym (eqb-true b a e)) ∙ ap (λ (k : ℕ). some (active_as b) (drop k rows)) (sym (add-one i)) ∙ h

state_after : (rows : List Row) (i : ℕ) → i < length rows → (st : RowState) → (row_at rows i).state ≡ st → OnceBy rows st → After rows i st
state_after rows i k Free e o = tt
state_after rows i k (Fresh age) e o = tt
state_after rows i k (Waiting q) e o = tt
state_after rows i k (Active a idle) e o =
    ap (λ (n : ℕ). some (active_as a) (drop n rows)) (add-one i)
    ∙ once_after (active_as a) rows i k o (ap (active_as_state a) e ∙ eq-eqb a a refl)

module _ (own : FarmSheet) (x : Farm) (nine : length x.rows ≡ seat_count) (eight : (i : ℕ) → i < seat_count → length (row_at x.rows i).head ≡ header_size) where
  abbrev AllOk : Type 0
  AllOk = (i : ℕ) → i < seat_count → SeatOk own x i (row_at x.rows i)

  keep : Says (every_seat (seat_keeps own x)) AllOk
  unfolding every_seat
  keep = every_says (seat_keeps own x) (λ i. SeatOk own x i (row_at x.rows i)) (seat_says own x) seat_count

  pass : Says (every_seat (seat_test own x)) ((i : ℕ) → i < seat_count → seat_test own x i ≡ true)
  unfolding every_seat
  pass = every_says (seat_test own x) (λ i. seat_test own x i ≡ true) (λ i. says-true (seat_test own x i)) seat_count

  passed_ok : ((i : ℕ) → i < seat_count → seat_test own x i ≡ true) → AllOk
  passed_ok h i k =
      let once : (a : ℕ) → count_if (active_as a) x.rows ≤ 1 =
      λ a.
      after-once (active_as a) x.rows
      (λ j l e. let m : j < seat_count = omega (arith, nine) in after_state a x.rows j (row_at x.rows j).state ((seat_passes own x j (eight j m)).right (h j m)).after e)
      in
      ((seat_passes own x i (eight i k)).right (h i k)).seat (once_of x.rows once (row_at x.rows i).state)

  ok_passed : AllOk → (i : ℕ) → i < seat_count → seat_test own x i ≡ true
  ok_passed g i k =
      (seat_passes own x i (eight i k)).all (g i k) (state_after x.rows i (omega (arith, nine)) (row_at x.rows i).state refl (g i k).once)

  -- THE CODE'S TESTS AND THE RULE'S
  pub tests_same : every_seat (seat_test own x) ≡ every_seat (seat_keeps own x)
  tests_same = says_same (says_of passed_ok ok_passed pass) keep

-- a row of a block has eight header bytes
pub head-eight : (b : List ℕ) (i : ℕ) → length b ≡ block_size → i < seats → length (row_at (farm_of b).rows i).head ≡ header_size
unfolding row_from
head-eight b i long h =
    let s : List ℕ = part b (rows_at + i * row_size) row_size in
    ap (λ (r : Row). length r.head) (sym (row_read b i h))
    ∙ length_part s head_in head_size (omega (arith, length_part b (rows_at + i * row_size) row_size (omega arith)))
