-- A list by its elements.
-- Assumes nothing.
use mathlib.Core.Path.{◌≡◌, sym, ap, ◌∙◌}
use mathlib.Core.List.{List, [], ◌∷◌, ◌++◌}
use Prim.Native.Nat.{ℕ, zero, suc, ◌+◌, ◌≤◌}
use native.Mathlib.Omega.{arith}
use lib.ListN.{length, get_or, drop}
use lib.Seq.{drop-cons, drop-length}

-- n elements from the place k on
abbrev pub run : {A : Type 0} → List A → A → ℕ → ℕ → List A
run l d k zero = []
run l d k (suc n) = get_or l k d ∷ run l d (suc k) n

pub run_is : {A : Type 0} (l : List A) (d : A) (k n : ℕ) → length l ≡ k + n → run l d k n ≡ drop k l
run_is l d k zero e = let z : k ≡ length l = omega arith in sym (ap (λ (x : ℕ). drop x l) z ∙ drop-length l)
run_is l d k (suc n) e = ap (λ t. get_or l k d ∷ t) (run_is l d (suc k) n (omega arith)) ∙ sym (drop-cons l k d (omega arith))

-- and the rest behind them
pub run_on : {A : Type 0} (l : List A) (d : A) (k n : ℕ) → k + n ≤ length l → run l d k n ++ drop (k + n) l ≡ drop k l
run_on l d k zero h = let z : k + 0 ≡ k = omega arith in ap (λ (x : ℕ). drop x l) z
run_on l d k (suc n) h =
    let z : k + suc n ≡ suc k + n = omega arith in
    ap (λ (x : ℕ). get_or l k d ∷ run l d (suc k) n ++ drop x l) z
    ∙ ap (λ t. get_or l k d ∷ t) (run_on l d (suc k) n (omega arith)) ∙ sym (drop-cons l k d (omega arith))
