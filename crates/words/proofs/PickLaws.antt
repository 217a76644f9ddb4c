-- A choice that is known.
-- Assumes nothing.
use mathlib.Core.Path.{◌≡◌, sym, ap, ◌∙◌}
use mathlib.Core.Bool.{Bool, true, false}
use Rattle.octets.specs.Choice.{pick}

pub yes : {A : Type 0} {b : Bool} {x z : A} (y : A) → b ≡ true → z ≡ x → z ≡ pick b x y
yes {A} {b} {x} {z} y e h = h ∙ sym (ap (λ (t : Bool). pick t x y) e)

pub no : {A : Type 0} {b : Bool} {y z : A} (x : A) → b ≡ false → z ≡ y → z ≡ pick b x y
no {A} {b} {y} {z} x e h = h ∙ sym (ap (λ (t : Bool). pick t x y) e)
