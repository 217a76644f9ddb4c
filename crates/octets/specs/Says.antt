-- A test's answer and the statement that it tests.
-- Assumes nothing: this is a definition.
use Rattle.std.specs.Prelude.{◌≡◌, Bool, true}

-- the answer is true exactly where P holds
pub record Says (b : Bool) (P : Type 0) : Type 0 where
  pub right : b ≡ true → P
  pub all : P → b ≡ true
