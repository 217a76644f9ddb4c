-- An answer that may close the row, by whether it does.
-- Assumes nothing.
use Prim.Native.Nat.{ℕ}
use mathlib.Core.Path.{◌≡◌, refl}
use mathlib.Core.Bool.{Bool, true, false}
use mathlib.Core.List.{[], ◌∷◌}
use Rattle.kinds.specs.declared.Reply.{Reply}
use Rattle.model.specs.FarmSheet.{FarmSheet}
use Rattle.model.specs.Farm.{Farm, does, and_then, says, closed}
use Rattle.rowwork.specs.Refused.{refused_by}

module _ (own : FarmSheet) (seat : ℕ) (reply : Reply) (closes : Bool) (f : Farm) where
  pub refused-closes : closes ≡ true → and_then (does f (says own seat reply ∷ [])) (closed own seat) ≡ refused_by own seat reply closes f
  refused-closes e = rw e refl

  pub refused_stays : closes ≡ false → does f (says own seat reply ∷ []) ≡ refused_by own seat reply closes f
  refused_stays e = rw e refl
