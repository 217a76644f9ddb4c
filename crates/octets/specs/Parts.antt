-- Parts of a list, and a list as parts of one size: the records of a sheet, of a plan, of a block; the blocks of a table.
-- Assumes nothing: these are definitions.
use Rattle.std.specs.Prelude.{ℕ, zero, suc, ◌+◌, List, [], ◌∷◌, ◌++◌, take, drop}

-- the n elements from the place a on
abbrev pub part : List ℕ → ℕ → ℕ → List ℕ
part b a n = take n (drop a b)

-- n parts of k elements, one after the other, from the place a on
unfoldable pub parts : ℕ → ℕ → ℕ → List ℕ → List (List ℕ)
parts k a zero b = []
parts k a (suc n) b = part b a k ∷ parts k (a + k) n b

-- the lists, one after the other
unfoldable pub joined : List (List ℕ) → List ℕ
joined [] = []
joined (l ∷ ls) = l ++ joined ls
