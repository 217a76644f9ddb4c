-- Questions about a list: where the first member that passes a test stands, how many pass, whether some or all do.
-- Assumes nothing: these are definitions.
use Rattle.std.specs.Prelude.{ℕ, suc, ◌+◌, Bool, true, false, List, [], ◌∷◌, eqb, Option, Some, None}
use Rattle.octets.specs.Choice.{pick, both, either, one}

-- the place of the first, the list's own first having the place k
unfoldable pub first_at : {A : Type 0} → (A → Bool) → ℕ → List A → Option ℕ
first_at p k [] = None
first_at p k (x ∷ l) = pick (p x) (Some k) (first_at p (suc k) l)

unfoldable pub count_if : {A : Type 0} → (A → Bool) → List A → ℕ
count_if p [] = 0
count_if p (x ∷ l) = one (p x) + count_if p l

unfoldable pub some : {A : Type 0} → (A → Bool) → List A → Bool
some p [] = false
some p (x ∷ l) = either (p x) (some p l)

unfoldable pub all : {A : Type 0} → (A → Bool) → List A → Bool
all p [] = true
all p (x ∷ l) = both (p x) (all p l)

-- the two lists are the same, number by number
unfoldable pub same_list : List ℕ → List ℕ → Bool
same_list [] [] = true
same_list [] (y ∷ k) = false
same_list (x ∷ l) [] = false
same_list (x ∷ l) (y ∷ k) = both (eqb x y) (same_list l k)
