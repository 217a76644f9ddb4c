-- Document 01's order for a diagnostic message, a rule at a time.
-- Assumes nothing.
use Rattle.std.proofs.Common.{Some, None}
use Prim.Native.Nat.{ℕ}
use mathlib.Core.Path.{◌≡◌, refl, sym, ap, ◌∙◌}
use mathlib.Core.Bool.{true, false}
use mathlib.Core.List.{List, [], ◌∷◌}
use borrow.Author.Tests.{eq-eqb, ne_eqb}
use Rattle.kinds.specs.declared.Item.{Item}
use Rattle.kinds.specs.declared.Reply.TheVariants.{Ack, DiagnosticNack, HandOn}
use Rattle.payload.specs.declared.Ends.{Ends}
use Rattle.sheet.specs.declared.find.Known.{Known}
use Rattle.sheet.specs.Sheet.{targets_of}
use Rattle.sheet.specs.Find.{lookup}
use Rattle.model.specs.FarmSheet.{FarmSheet, farm_sheet, TargetIs, stranger, unreachable, reachable}
use Rattle.model.specs.Row.{row_at, active_as}
use Rattle.model.specs.Farm.{Farm, does, and_then, says, closed}
use Rattle.model.specs.Bytes.{to_target, diagnosed}
use Rattle.model.proofs.SameSite.{SameSite}
use Rattle.plan.specs.Plan.{pushed_to}
use Rattle.closing.specs.Did.{pushed_all}
use Rattle.rowwork.specs.Refused.{refused_by}
use Rattle.diagnostic.specs.Codes.{target_code, replies_by}

-- ---- the target

module _ (s : List ℕ) (f address : ℕ) where
  pub target_nobody : lookup address (targets_of s) ≡ None → 0x03 ≡ target_code ((farm_sheet s f).target address)
  unfolding farm_sheet
  target_nobody e = rw e refl

  module _ {k : Known} (e : lookup address (targets_of s) ≡ Some k) where
    pub target_other : (k.farm.0 ≡ f → ⊥) → 0x03 ≡ target_code ((farm_sheet s f).target address)
    unfolding farm_sheet
    target_other n = rw (e, ne_eqb k.farm.0 f n) refl

    pub target-reachable : k.farm.0 ≡ f → k.flag ≡ 1 → 0x00 ≡ target_code ((farm_sheet s f).target address)
    unfolding farm_sheet
    target-reachable o h = rw (e, eq-eqb k.farm.0 f o, eq-eqb k.flag 1 h) refl

    pub target-unreachable : k.farm.0 ≡ f → (k.flag ≡ 1 → ⊥) → 0x06 ≡ target_code ((farm_sheet s f).target address)
    unfolding farm_sheet
    target-unreachable o h = rw (e, eq-eqb k.farm.0 f o, ne_eqb k.flag 1 h) refl

-- ---- the replies

-- two items, one after the other
pub said_twice : (items : List Item) (x y : Item) → pushed_to (pushed_to items x) y ≡ pushed_all items (x ∷ y ∷ [])
unfolding pushed_all
said_twice items x y = refl

module _ (own : FarmSheet) (seat : ℕ) (e : Ends) where
  pub replies_on : (code : ℕ) → code ≡ 0x00 → says own seat (Ack e.target e.source code) ∷ says own seat HandOn ∷ [] ≡ replies_by own seat e code
  replies_on code h = rw (eq-eqb code 0x00 h) refl

  pub replies-refused : (code : ℕ) → (code ≡ 0x00 → ⊥) → says own seat (DiagnosticNack e.target e.source code) ∷ [] ≡ replies_by own seat e code
  replies-refused code h = rw (ne_eqb code 0x00 h) refl

  pub to_target_lem : (t : TargetIs) (f : Farm) → to_target own seat e t f ≡ does f (replies_by own seat e (target_code t))
  to_target_lem stranger f = refl
  to_target_lem unreachable f = refl
  to_target_lem reachable f = refl

-- what is said of three numbers is said of the whole sheet
module _ (a b : FarmSheet) (same : SameSite a b) (seat : ℕ) where
  pub replies_same : (e : Ends) (code : ℕ) → replies_by a seat e code ≡ replies_by b seat e code
  replies_same e code = rw same.first refl

  module _ (e : Ends) (f : Farm) where
    pub diagnosed_own : (code : ℕ) → active_as e.source (row_at f.rows seat) ≡ true → code ≡ target_code (b.target e.target)
        → does f (replies_by a seat e code) ≡ diagnosed b seat e f
    unfolding diagnosed
    diagnosed_own code h c =
        ap (does f) (replies_same e code ∙ ap (replies_by b seat e) c) ∙ sym (to_target_lem b seat e (b.target e.target) f) ∙ rw h refl

    pub diagnosed-stranger : active_as e.source (row_at f.rows seat) ≡ false
        → refused_by a seat (DiagnosticNack e.target e.source 0x02) true f ≡ diagnosed b seat e f
    unfolding diagnosed and_then closed
    diagnosed-stranger h = rw (h, same.first) refl
