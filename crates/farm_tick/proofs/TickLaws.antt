-- What a tick does to clock and ages: the rows grow older one after the other.
-- Assumes nothing.
use Prim.Native.Nat.{ℕ, zero, suc, ◌+◌, ◌≤◌}
use mathlib.Core.Path.{◌≡◌, refl, sym, ap, ◌∙◌}
use mathlib.Core.List.{List, [], ◌∷◌, map}
use native.Mathlib.Numerals.{add-one}
use native.Mathlib.Omega.{arith}
use lib.ListN.{length, set}
use Rattle.kinds.specs.Clock.{stepped}
use Rattle.kinds.specs.declared.Clock.{Clock}
use Rattle.kinds.specs.declared.Row.{Row}
use Rattle.kinds.specs.declared.RowState.{RowState}
use Rattle.kinds.specs.declared.RowState.TheVariants.{Fresh, Active}
use Rattle.model.specs.Row.{row_at, older, older_state}
use Rattle.model.specs.Farm.{Farm, with_row, with_rows, with_clock}
use Rattle.model.specs.Move.{clock_run, aged}
use Rattle.rowbytes.specs.RowBytes.{state_ticked, ticked}
use Rattle.table.specs.Layout.{seats}
use Rattle.table.specs.Block.{farm_of, Whole, Holds}
use Rattle.decide.proofs.RowLaws.{nine}

-- ---- the check clock

module _ (f : Farm) where
  pub clock_still : length f.line ≡ 0 → clock_run f.line f ≡ f
  clock_still e = by f.line e
    where
      by : (line : List ℕ) → length line ≡ 0 → clock_run line f ≡ f
      by [] h = refl
      by (x ∷ l) h = absurd (omega arith)

  pub clock_runs : (length f.line ≡ 0 → ⊥) → clock_run f.line f ≡ with_clock f (stepped f.clock)
  clock_runs e = by f.line e
    where
      by : (line : List ℕ) → (length line ≡ 0 → ⊥) → clock_run line f ≡ with_clock f (stepped f.clock)
      by [] h = absurd (h refl)
      by (x ∷ l) h = refl

-- ---- one row's age

module _ {b : List ℕ} (f : Farm) (i : ℕ) where
  -- a row whose state grows older by these ticks
  pub older-by : (n : ℕ) (s : RowState) → (row_at f.rows i).state ≡ s → older_state s ≡ state_ticked n s
      → Holds b (with_row f i (ticked n (row_at f.rows i))) → Holds b (with_row f i (older (row_at f.rows i)))
  older-by n s e k h =
      let r : Row = row_at f.rows i in
      let same : older (row_at f.rows i) ≡ ticked n (row_at f.rows i) =
      ap (λ (t : RowState). record { state = t; place = r.place; head = r.head }) (ap older_state e ∙ k ∙ sym (ap (state_ticked n) e))
      in
      record { is = h.is ∙ sym (ap (with_row f i) same); whole = h.whole }

  pub older-fresh : (age c : Clock) → (row_at f.rows i).state ≡ Fresh age → c ≡ stepped age
      → Holds b (with_row f i (ticked c.ticks (row_at f.rows i))) → Holds b (with_row f i (older (row_at f.rows i)))
  older-fresh age c e k h = older-by c.ticks (Fresh age) e (ap Fresh (sym k)) h

  pub older_active : (a : ℕ) (idle c : Clock) → (row_at f.rows i).state ≡ Active a idle → c ≡ stepped idle
      → Holds b (with_row f i (ticked c.ticks (row_at f.rows i))) → Holds b (with_row f i (older (row_at f.rows i)))
  older_active a idle c e k h = older-by c.ticks (Active a idle) e (ap (Active a) (sym k)) h

-- ---- the rows one after the other

-- the first n rows are older
unfoldable pub first_older : ℕ → List Row → List Row
first_older n [] = []
first_older zero (r ∷ rows) = r ∷ rows
first_older (suc n) (r ∷ rows) = older r ∷ first_older n rows

older-none : (rows : List Row) → rows ≡ first_older 0 rows
unfolding first_older
older-none [] = refl
older-none (r ∷ rows) = refl

older_next : (i : ℕ) (rows : List Row) → set (first_older i rows) i (older (row_at (first_older i rows) i)) ≡ first_older (suc i) rows
unfolding first_older
older_next i [] = refl
older_next zero (r ∷ rows) = ap (older r ∷◌) (older-none rows)
older_next (suc i) (r ∷ rows) = ap (older r ∷◌) (older_next i rows)

older-all : (n : ℕ) (rows : List Row) → length rows ≤ n → first_older n rows ≡ map older rows
unfolding first_older
older-all n [] h = refl
older-all zero (r ∷ rows) h = absurd (omega arith)
older-all (suc n) (r ∷ rows) h = ap (older r ∷◌) (older-all n rows (omega arith))

pub aged-none : (b : List ℕ) → Whole b → Holds b (with_rows (farm_of b) (first_older 0 (farm_of b).rows))
aged-none b w = record { is = ap (with_rows (farm_of b)) (older-none (farm_of b).rows); whole = w }

pub aged_next : {b c : List ℕ} (f : Farm) (i : ℕ) → Holds b (with_rows f (first_older i f.rows))
    → Holds c (with_row (farm_of b) i (older (row_at (farm_of b).rows i))) → Holds c (with_rows f (first_older (i + 1) f.rows))
aged_next f i h k =
    record {
      is =
          k.is
          ∙ ap (λ (x : Farm). with_row x i (older (row_at x.rows i))) h.is
          ∙ ap (with_rows f) (older_next i f.rows ∙ ap (λ (n : ℕ). first_older n f.rows) (sym (add-one i)));
      whole = k.whole;
    }

pub aged-all : {c : List ℕ} (b : List ℕ) (i : ℕ) → seats ≤ i → Holds c (with_rows (farm_of b) (first_older i (farm_of b).rows)) → Holds c (aged (farm_of b))
aged-all b i n h =
    record { is = h.is ∙ ap (with_rows (farm_of b)) (older-all i (farm_of b).rows (omega (arith, nine b))); whole = h.whole }
