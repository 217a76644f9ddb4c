-- What a worked day is: bytes that the rules give, and bytes that document 01 says.
-- Assumes nothing: these are definitions.
use Rattle.std.specs.Prelude.{◌≡◌, List, [], ◌∷◌, ℕ}
use Prim.{Unit}

-- Both may depend on a number, where a day says "any length"; most days do not look at it.
pub record Day : Type 0 where
  pub shown : ℕ → List ℕ
  pub said : ℕ → List ℕ

-- the rules give, in each day of the list, what document 01 says
abbrev pub Hold : List Day → Type 0
Hold [] = Unit {0}
Hold (d ∷ ds) = ((n : ℕ) → d.shown n ≡ d.said n) × Hold ds

-- a day that looks at no number
abbrev pub plain : List ℕ → List ℕ → Day
plain shown said = record { shown = λ n. shown; said = λ n. said }
