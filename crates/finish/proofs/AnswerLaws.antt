-- The sheet of the same items.
-- Assumes nothing.
use Prim.Native.Nat.{ℕ}
use mathlib.Core.Path.{◌≡◌, subst}
use mathlib.Core.List.{List}
use Rattle.kinds.specs.declared.Item.{Item}
use Rattle.outsheet.specs.Sheet.{sheet_of}
use Rattle.outsheet.specs.Replies.{entries_of}
use Rattle.outsheet.specs.Contracts.{Wrote}

-- the same items, so the same sheet
pub wrote-items : {out after : List ℕ} {n : ℕ} (long : List ℕ) {x y : List Item} → x ≡ y → Wrote (sheet_of (entries_of long x)) out after n
    → Wrote (sheet_of (entries_of long y)) out after n
wrote-items {out} {after} {n} long e w = subst (λ (i : List Item). Wrote (sheet_of (entries_of long i)) out after n) e w
