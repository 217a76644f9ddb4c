-- Laws of doing one thing after another, and of going through the seats.
-- Assumes nothing.
use Prim.Native.Nat.{ℕ, zero, suc, ◌+◌}
use mathlib.Core.Path.{◌≡◌, refl}
use mathlib.Core.Bool.{Bool, true}
use mathlib.Core.List.{◌++◌}
use lib.ListN.{set}
use Rattle.octets.specs.Fold.{up_to}
use Rattle.kinds.specs.declared.Row.{Row}
use Rattle.model.specs.FarmSheet.{FarmSheet}
use Rattle.model.specs.Row.{free_row, row_at}
use Rattle.model.specs.Farm.{Farm, Done, quietly, and_then, each_seat, seat_count, closed, closed_if, closed_where}
use Rattle.model.proofs.Cases.{pick_case}

-- ---- one thing, then another

pub then_farm : (d : Done) (g : Farm → Done) → (and_then d g).farm ≡ (g d.farm).farm
unfolding and_then
then_farm d g = refl

pub then_items : (d : Done) (g : Farm → Done) → (and_then d g).items ≡ d.items ++ (g d.farm).items
unfolding and_then
then_items d g = refl

-- what holds after the first and is kept by the second
pub then_keeps : (P : Farm → Type 0) (d : Done) (g : Farm → Done) → P d.farm → ((f : Farm) → P f → P (g f).farm) → P (and_then d g).farm
unfolding and_then
then_keeps P d g p k = k d.farm p

-- ---- through the seats

-- the farm when the first n seats are done
module _ (g : ℕ → Farm → Done) (f : Farm) where
  -- when the first n seats are done
  unfoldable pub seats_to : ℕ → Done
  seats_to n = up_to (λ i d. and_then d (g i)) (quietly f) n

  pub seats-zero : seats_to 0 ≡ quietly f
  unfolding seats_to up_to
  seats-zero = refl

  pub seats-suc : (n : ℕ) → seats_to (suc n) ≡ and_then (seats_to n) (g n)
  unfolding seats_to up_to
  seats-suc n = refl

  pub seats-all : each_seat g f ≡ seats_to seat_count
  unfolding each_seat seats_to
  seats-all = refl

  -- what each seat keeps, all keep
  pub seats-keep : (P : Farm → Type 0) → P f → ((i : ℕ) (x : Farm) → P x → P (g i x).farm) → (n : ℕ) → P (seats_to n).farm
  unfolding seats_to up_to and_then
  seats-keep P p k zero = p
  seats-keep P p k (suc n) = k n (seats_to n).farm (seats-keep P p k n)

  pub each_keeps : (P : Farm → Type 0) → P f → ((i : ℕ) (x : Farm) → P x → P (g i x).farm) → P (each_seat g f).farm
  unfolding each_seat seats_to
  each_keeps P p k = seats-keep P p k seat_count

-- ---- closings

module _ (own : FarmSheet) (test : ℕ → Row → Bool) where
  -- what a closing keeps, and what no closing touches, holds after all closings
  pub closings_keep : (P : Farm → Type 0) (f : Farm) → P f
      → ((i : ℕ) (x : Farm) → test i (row_at x.rows i) ≡ true → P x → P (closed own i x).farm) → P (closed_where own test f).farm
  unfolding closed_if
  closings_keep P f p k =
      each_keeps (closed_if own test) f P p
      (λ i x q. pick_case (λ (d : Done). P d.farm) (test i (row_at x.rows i)) (closed own i x) (quietly x) (λ e. k i x e q) (λ e. q))

-- a closing leaves line, clock and marks alone, and frees its row
module _ (own : FarmSheet) (i : ℕ) (f : Farm) where
  pub closed-rows : (closed own i f).farm.rows ≡ set f.rows i free_row
  unfolding closed
  closed-rows = refl

  pub closed-line : (closed own i f).farm.line ≡ f.line
  unfolding closed
  closed-line = refl

  pub closed-clock : (closed own i f).farm.clock ≡ f.clock
  unfolding closed
  closed-clock = refl

  pub closed-marks : (closed own i f).farm.marks ≡ f.marks
  unfolding closed
  closed-marks = refl
