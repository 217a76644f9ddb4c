-- Document 01's order for a request, a rule at a time; and what is done by it looks at three numbers of the sheet only.
-- Assumes nothing.
use Rattle.std.proofs.Common.{Some, None}
use Prim.Native.Nat.{ℕ}
use mathlib.Core.Path.{◌≡◌, refl, sym, ap, ◌∙◌}
use mathlib.Core.Bool.{Bool, true, false}
use mathlib.Core.List.{List}
use lib.Dec.{eqb, leb}
use borrow.Author.Tests.{eq-eqb, ne_eqb}
use Rattle.kinds.specs.declared.Clock.{Clock}
use Rattle.kinds.specs.declared.Request.{Request}
use Rattle.kinds.specs.declared.RowState.{RowState}
use Rattle.kinds.specs.declared.RowState.TheVariants.{Free, Fresh, Waiting, Active}
use Rattle.kinds.specs.declared.Row.{Row}
use Rattle.kinds.specs.declared.Decision.{Decision}
use Rattle.kinds.specs.declared.Decision.TheVariants.{Now, Ask}
use Rattle.sheet.specs.declared.find.Known.{Known}
use Rattle.sheet.specs.Sheet.{testers_of}
use Rattle.sheet.specs.Find.{lookup}
use Rattle.model.specs.FarmSheet.{FarmSheet, farm_sheet}
use Rattle.model.specs.Row.{row_at}
use Rattle.model.specs.Farm.{Farm}
use Rattle.model.specs.Line.{by_state, decide}
use Rattle.model.specs.Bytes.{decided_by}
use Rattle.model.proofs.SameSite.{SameSite, socket_same, answered_same, joined_same}
use Rattle.octets.specs.Choice.{pick}
use Rattle.model.specs.Line.{accepted}
use Rattle.request.specs.Again.{again_code}

-- "row already active: 10 if the same address, else 02."
pub again_same : (active address : ℕ) → active ≡ address → accepted ≡ again_code active address
again_same active address e = rw (eq-eqb active address e) refl

pub again_other : (active address : ℕ) → (active ≡ address → ⊥) → 0x02 ≡ again_code active address
again_other active address n = rw (ne_eqb active address n) refl

-- on an active row
pub state_active : (own : FarmSheet) (rows : List Row) (address : ℕ) {st : RowState} {a code : ℕ} {idle : Clock} → st ≡ Active a idle
    → code ≡ again_code a address → Now code ≡ by_state own rows address st
state_active own rows address {st} {a} e h = ap Now h ∙ by (eqb a address) ∙ sym (ap (by_state own rows address) e)
  where
    by : (b : Bool) → Now (pick b accepted 0x02) ≡ pick b (Now accepted) (Now 0x02)
    by true = refl
    by false = refl

-- ---- the order

module _ (s : List ℕ) (f : ℕ) (rows : List Row) (seat : ℕ) (q : Request) where
  pub decide_nobody : lookup q.address (testers_of s) ≡ None → Now 0x00 ≡ decide (farm_sheet s f) rows seat q
  unfolding decide farm_sheet
  decide_nobody e = rw e refl

  module _ {k : Known} (e : lookup q.address (testers_of s) ≡ Some k) where
    pub decide_other : eqb k.farm.0 f ≡ false → Now 0x00 ≡ decide (farm_sheet s f) rows seat q
    unfolding decide farm_sheet
    decide_other n = rw (e, n) refl

    pub decide_type : eqb k.farm.0 f ≡ true → leb q.kind 1 ≡ false → Now 0x06 ≡ decide (farm_sheet s f) rows seat q
    unfolding decide farm_sheet
    decide_type o h = rw (e, o, h) refl

    pub decide_state : eqb k.farm.0 f ≡ true → leb q.kind 1 ≡ true
        → by_state (farm_sheet s f) rows q.address (row_at rows seat).state ≡ decide (farm_sheet s f) rows seat q
    unfolding decide farm_sheet
    decide_state o h = rw (e, o, h) refl

-- ---- three numbers

module _ (a b : FarmSheet) (same : SameSite a b) where
  pub state_same : (rows : List Row) (address : ℕ) (x : RowState) → by_state a rows address x ≡ by_state b rows address x
  state_same rows address Free = socket_same a b same rows address
  state_same rows address (Fresh age) = socket_same a b same rows address
  state_same rows address (Waiting q) = socket_same a b same rows address
  state_same rows address (Active x idle) = refl

  pub decided_same : (seat : ℕ) (q : Request) (d : Decision) (f : Farm) → decided_by a seat q d f ≡ decided_by b seat q d f
  decided_same seat q (Now code) f = answered_same a b same seat q.address code f
  decided_same seat q (Ask check) f = joined_same a b same seat q f
