-- A loop that counts, as a function.
-- Assumes nothing: this is a definition.
use Rattle.std.specs.Prelude.{ℕ, zero, suc}

-- f at 0, then at 1, .., then at n - 1
unfoldable pub up_to : {A : Type 0} → (ℕ → A → A) → A → ℕ → A
up_to f a zero = a
up_to f a (suc n) = f n (up_to f a n)
