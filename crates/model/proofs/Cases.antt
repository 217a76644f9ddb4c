-- Case splits on a test, with the equation kept.
-- Assumes nothing.
use mathlib.Core.Path.{◌≡◌, refl}
use mathlib.Core.Bool.{Bool, true, false}
use Rattle.octets.specs.Choice.{pick, unless}

pub pick_case : {A : Type 0} (P : A → Type 0) (b : Bool) (x y : A) → (b ≡ true → P x) → (b ≡ false → P y) → P (pick b x y)
pick_case P true x y f g = f refl
pick_case P false x y f g = g refl

pub unless_case : {A : Type 0} (P : A → Type 0) (b : Bool) (x y : A) → (b ≡ false → P x) → (b ≡ true → P y) → P (unless b x y)
unless_case P true x y f g = g refl
unless_case P false x y f g = f refl

pub split : {P : Type 0} (b : Bool) → (b ≡ true → P) → (b ≡ false → P) → P
split true f g = f refl
split false f g = g refl
