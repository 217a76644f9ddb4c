-- The codes that a request can get at once, but the one that accepts.
-- Assumes nothing.
use mathlib.Core.Path.{◌≡◌, refl}
use mathlib.Core.Bool.{false}
use lib.Dec.{eqb}
use Rattle.model.specs.Line.{accepted}

pub zero-refuses : eqb 0x00 accepted ≡ false
unfolding accepted
zero-refuses = refl

pub two-refuses : eqb 0x02 accepted ≡ false
unfolding accepted
two-refuses = refl

pub six_refuses : eqb 0x06 accepted ≡ false
unfolding accepted
six_refuses = refl
