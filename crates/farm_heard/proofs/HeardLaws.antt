-- The row, the meters and the payload of a bytes call, as the code finds them.
-- Assumes nothing.
use Prim.Native.Nat.{ℕ, ◌+◌, ◌%◌}
use mathlib.Core.Path.{◌≡◌, refl, sym, ap, ◌∙◌}
use mathlib.Core.Bool.{true, false}
use mathlib.Core.List.{List, []}
use native.Mathlib.Omega.{arith}
use borrow.Author.Tests.{eq-eqb, ne_eqb}
use Rattle.kinds.specs.Clock.{clock_of}
use Rattle.kinds.specs.declared.Clock.{Clock}
use Rattle.kinds.specs.declared.Meters.{Meters}
use Rattle.kinds.specs.declared.RowState.{RowState}
use Rattle.kinds.specs.declared.RowState.TheVariants.{Active}
use Rattle.kinds.specs.declared.Place.{Place}
use Rattle.model.specs.Row.{no_head, heard_state}
use Rattle.model.specs.Stream.{stream_of, is_stored, Event, input_ended, wrong, finished, skipped, ended_by}
use Rattle.model.specs.Farm.{took_more, wrap}
use Rattle.farm_heard.specs.Heard.{idle_after, stored_long}

-- ---- the row and the meters

pub idle_kept : (n : ℕ) (idle : Clock) → n ≡ 0 → idle ≡ idle_after n idle
idle_kept n idle e = rw (eq-eqb n 0 e) refl

pub idle_anew : (n : ℕ) (idle : Clock) → (n ≡ 0 → ⊥) → clock_of 0 ≡ idle_after n idle
idle_anew n idle e = rw (ne_eqb n 0 e) refl

pub active_heard : (n : ℕ) {st : RowState} {a : ℕ} {idle now : Clock} → st ≡ Active a idle → now ≡ idle_after n idle → Active a now ≡ heard_state n st
active_heard n {a = a} e h = ap (Active a) h ∙ sym (ap (heard_state n) e)

-- what a message has finished does not depend on its bytes
pub ended_same : (e : Event) (p : Place) (head room : List ℕ) → ended_by e (stream_of p no_head []) ≡ ended_by e (stream_of p head room)
ended_same input_ended p head room = refl
ended_same (wrong fault) p head room = refl
ended_same (finished kind size) p head room = refl
ended_same (skipped size) p head room = refl

-- what a meter holds of a count is enough
pub took_wraps : (n : ℕ) (m : Meters) → took_more (0 + n % 4294967296) m ≡ took_more n m
took_wraps n m =
    let e : wrap (m.taken + (0 + n % 4294967296)) ≡ wrap (m.taken + n) = omega arith in
    ap (λ (x : ℕ). record { taken = x; finished = m.finished; lost = m.lost }) e

-- ---- the payload

pub stored-yes : (kind size : ℕ) → is_stored kind ≡ true → size ≡ stored_long kind size
stored-yes kind size e = rw e refl

pub stored_no : (kind size : ℕ) → is_stored kind ≡ false → 0 ≡ stored_long kind size
stored_no kind size e = rw e refl
