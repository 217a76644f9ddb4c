-- What a finished message brings about, a type at a time.
-- Assumes nothing.
use Prim.Native.Nat.{ℕ}
use mathlib.Core.Path.{◌≡◌, refl, sym, ap, ◌∙◌}
use mathlib.Core.List.{List}
use borrow.Author.Tests.{eq-eqb, ne_eqb}
use Rattle.kinds.specs.declared.Fault.{Fault}
use Rattle.kinds.specs.declared.Event.{Event}
use Rattle.kinds.specs.declared.Event.TheVariants.{Wrong}
use Rattle.payload.specs.Payload.{request_in, address_in, ends_in}
use Rattle.model.specs.FarmSheet.{FarmSheet}
use Rattle.model.specs.Farm.{Farm, quietly, and_then, closed}
use Rattle.model.specs.Line.{marked}
use Rattle.model.specs.Bytes.{requested, diagnosed, messaged, faulted, event_done}
use Rattle.model.proofs.SameSite.{SameSite}
use Rattle.stream.specs.Took.{event_of}

module _ (own : FarmSheet) (seat kind : ℕ) (payload : List ℕ) (f : Farm) where
  pub is_request : kind ≡ 0x0005 → requested own seat (request_in payload) f ≡ messaged own seat kind payload f
  is_request e = rw (eq-eqb kind 0x0005 e) refl

  module _ (a : kind ≡ 0x0005 → ⊥) where
    pub is-response : kind ≡ 0x0008 → quietly (marked own seat (address_in payload) f) ≡ messaged own seat kind payload f
    is-response e = rw (ne_eqb kind 0x0005 a, eq-eqb kind 0x0008 e) refl

    module _ (b : kind ≡ 0x0008 → ⊥) where
      pub is-diagnostic : kind ≡ 0x8001 → diagnosed own seat (ends_in payload) f ≡ messaged own seat kind payload f
      is-diagnostic e = rw (ne_eqb kind 0x0005 a, ne_eqb kind 0x0008 b, eq-eqb kind 0x8001 e) refl

      -- "0000, 0004, 8002 and 8003 are read and dropped."
      pub is_dropped : (kind ≡ 0x8001 → ⊥) → quietly f ≡ messaged own seat kind payload f
      is_dropped c = rw (ne_eqb kind 0x0005 a, ne_eqb kind 0x0008 b, ne_eqb kind 0x8001 c) refl

-- a header judged wrong, by the three numbers that the code is handed
faulted_same : (a b : FarmSheet) → SameSite a b → (seat : ℕ) (fault : Fault) (f : Farm) → faulted a seat fault f ≡ faulted b seat fault f
unfolding and_then closed
faulted_same a b same seat fault f = rw same.first refl

pub wrong-done : (a b : FarmSheet) → SameSite a b → (seat : ℕ) (room : List ℕ) (f : Farm) {e : Event} {fault : Fault} → e ≡ Wrong fault
    → faulted a seat fault f ≡ event_done b seat (event_of e) room f
unfolding event_done
wrong-done a b same seat room f {fault = fault} h =
    faulted_same a b same seat fault f ∙ sym (ap (λ (x : Event). event_done b seat (event_of x) room f) h)
