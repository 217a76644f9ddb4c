-- Refusals 1 to 4 are the model's; a call that goes on has what they test.
-- Assumes nothing.
use Prim.Native.Nat.{ℕ, suc, ◌≤◌, ◌<◌}
use mathlib.Core.Path.{◌≡◌, refl, ap}
use mathlib.Core.Bool.{Bool, true, false}
use mathlib.Core.List.{List, []}
use native.Mathlib.Omega.{arith}
use lib.Dec.{eqb, leb}
use lib.ListN.{length}
use borrow.Author.Tests.{lt-leb, le-leb, eq-eqb, ne_eqb}
use Rattle.octets.specs.Choice.{both, unless}
use Rattle.octets.proofs.ChoiceLaws.{says_le, says_eq}
use Rattle.sheet.specs.Test.{good_sheet}
use Rattle.sheet.proofs.TestLaws.{good-says}
use Rattle.model.specs.Table.{least_output, assembling_size, good_table, Call, Table, Did, Outcome, refuses, did, whose, called, step, renewed, start_step}
use Rattle.model.specs.Move.{no_row}
use Rattle.lent.specs.Lent.{whole_table, lent_table, lent_step, lent_start}
use Rattle.lent.specs.Gate.{start_number, gate_number, Lendable, Passed}

-- what a start does
abbrev pub started : Table → Did
started t = record { row = no_row; took = 0; items = []; long = []; table = renewed t }

module _ (s t out m : List ℕ) where
  abbrev by_tests : Bool → Bool → Bool → Bool → Bool → Outcome → Outcome
  by_tests a b c w g o =
      unless a (refuses 1)
      (unless b (refuses 2)
      (unless c (refuses 3) (unless w (refuses 4) (unless a (refuses 1) (unless b (refuses 2) (unless c (refuses 3) (unless g (refuses 4) o)))))))

  abbrev number : Bool → Bool → Bool → Bool → Bool → ℕ
  number a b c w g = unless a 1 (unless b 2 (unless c 3 (unless (both w g) 4 0)))

  refused-by : (a b c w g : Bool) (o : Outcome) (n : ℕ) → number a b c w g ≡ suc n → by_tests a b c w g o ≡ refuses (suc n)
  refused-by false b c w g o n e = ap refuses e
  refused-by true false c w g o n e = ap refuses e
  refused-by true true false w g o n e = ap refuses e
  refused-by true true true false g o n e = ap refuses e
  refused-by true true true true false o n e = ap refuses e
  refused-by true true true true true o n e = absurd (omega (arith, e))

  pub gate_refuses : (c : Call) (n : ℕ) → gate_number s t out m ≡ suc n → lent_step s t out m c ≡ refuses (suc n)
  unfolding gate_number lent_step step
  gate_refuses c n e =
      refused-by (good_sheet s) (leb least_output (length out)) (eqb (length m) assembling_size) (whole_table t) (good_table s (lent_table s t m))
      (called s (lent_table s t m) (whose s c)) n e

  passes-by : (a b c w g : Bool) → number a b c w g ≡ 0 → (a ≡ true) × (b ≡ true) × (c ≡ true) × (w ≡ true) × (g ≡ true)
  passes-by false b c w g e = absurd (omega (arith, e))
  passes-by true false c w g e = absurd (omega (arith, e))
  passes-by true true false w g e = absurd (omega (arith, e))
  passes-by true true true false g e = absurd (omega (arith, e))
  passes-by true true true true false e = absurd (omega (arith, e))
  passes-by true true true true true e = (refl, refl, refl, refl, refl)

  tests : gate_number s t out m ≡ 0 → (good_sheet s ≡ true) × (leb least_output (length out) ≡ true) × (eqb (length m) assembling_size ≡ true)
      × (whole_table t ≡ true) × (good_table s (lent_table s t m) ≡ true)
  unfolding gate_number
  tests e = passes-by (good_sheet s) (leb least_output (length out)) (eqb (length m) assembling_size) (whole_table t) (good_table s (lent_table s t m)) e

  pub gate_passes : gate_number s t out m ≡ 0 → Passed s t out m
  gate_passes e =
      record {
        lendable =
            record {
              sheet = (good-says s).right (tests e).0;
              output = (says_le least_output (length out)).right (tests e).1;
              assembling = (says_eq (length m) assembling_size).right (tests e).2;
            };
        whole = (tests e).3;
        good = (tests e).4;
      }

  -- a call that goes on is what the model makes of it
  pub goes_on_lem : Passed s t out m → (c : Call) → lent_step s t out m c ≡ called s (lent_table s t m) (whose s c)
  unfolding lent_step step
  goes_on_lem p c =
      rw ((good-says s).all p.lendable.sheet, (says_le least_output (length out)).all p.lendable.output, (says_eq (length m) assembling_size).all p.lendable.assembling, p.whole, p.good)

-- ---- start

module _ (s out m : List ℕ) where
  abbrev start_by : Bool → Bool → Bool → ℕ
  start_by a b c = unless a 1 (unless b 2 (unless c 3 0))

  start_by_lem : (a b c : Bool) (o : Outcome) (n : ℕ) → start_by a b c ≡ suc n
      → unless a (refuses 1) (unless b (refuses 2) (unless c (refuses 3) o)) ≡ refuses (suc n)
  start_by_lem false b c o n e = ap refuses e
  start_by_lem true false c o n e = ap refuses e
  start_by_lem true true false o n e = ap refuses e
  start_by_lem true true true o n e = absurd (omega (arith, e))

  pub start_refuses : (t : List ℕ) (n : ℕ) → start_number s out m ≡ suc n → lent_start s t out m ≡ refuses (suc n)
  unfolding start_number lent_start start_step
  start_refuses t n e =
      start_by_lem (good_sheet s) (leb least_output (length out)) (eqb (length m) assembling_size) (did (started (lent_table s t m))) n e

  passes_start : (a b c : Bool) → start_by a b c ≡ 0 → (a ≡ true) × (b ≡ true) × (c ≡ true)
  passes_start false b c e = absurd (omega (arith, e))
  passes_start true false c e = absurd (omega (arith, e))
  passes_start true true false e = absurd (omega (arith, e))
  passes_start true true true e = (refl, refl, refl)

  pub start_passes : start_number s out m ≡ 0 → Lendable s out m
  unfolding start_number
  start_passes e =
      let k = passes_start (good_sheet s) (leb least_output (length out)) (eqb (length m) assembling_size) e in
      record {
        sheet = (good-says s).right k.0;
        output = (says_le least_output (length out)).right k.1;
        assembling = (says_eq (length m) assembling_size).right k.2;
      }

  pub starts : Lendable s out m → (t : List ℕ) → lent_start s t out m ≡ did (started (lent_table s t m))
  unfolding lent_start start_step
  starts p t =
      rw ((good-says s).all p.sheet, (says_le least_output (length out)).all p.output, (says_eq (length m) assembling_size).all p.assembling)

  -- ---- test by test, as the code asks them

  pub number_1 : good_sheet s ≡ false → 1 ≡ start_number s out m
  unfolding start_number
  number_1 a = rw a

  pub number_2 : good_sheet s ≡ true → length out < least_output → 2 ≡ start_number s out m
  unfolding start_number
  number_2 a b = rw (a, lt-leb least_output (length out) b)

  pub number_3 : good_sheet s ≡ true → least_output ≤ length out → (length m ≡ assembling_size → ⊥) → 3 ≡ start_number s out m
  unfolding start_number
  number_3 a b c = rw (a, le-leb least_output (length out) b, ne_eqb (length m) assembling_size c)

  pub number_0 : good_sheet s ≡ true → least_output ≤ length out → length m ≡ assembling_size → 0 ≡ start_number s out m
  unfolding start_number
  number_0 a b c = rw (a, le-leb least_output (length out) b, eq-eqb (length m) assembling_size c)

  -- refusal 4 comes after them
  pub gate_first : (t : List ℕ) (n : ℕ) → start_number s out m ≡ suc n → gate_number s t out m ≡ suc n
  unfolding start_number gate_number
  gate_first t n e = by (good_sheet s) (leb least_output (length out)) (eqb (length m) assembling_size) e
    where
      by : (a b c : Bool) → start_by a b c ≡ suc n → unless a 1 (unless b 2 (unless c 3 (unless (both (whole_table t) (good_table s (lent_table s t m))) 4 0))) ≡ suc n
      by false b c e = e
      by true false c e = e
      by true true false e = e
      by true true true e = absurd (omega (arith, e))

  pub gate_last : (t : List ℕ) → Lendable s out m → gate_number s t out m ≡ unless (both (whole_table t) (good_table s (lent_table s t m))) 4 0
  unfolding gate_number
  gate_last t p =
      rw ((good-says s).all p.sheet, (says_le least_output (length out)).all p.output, (says_eq (length m) assembling_size).all p.assembling)
