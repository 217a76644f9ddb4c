-- Laws of the verdict on a header.
-- Assumes nothing.
use Rattle.std.proofs.Common.{Result, Err}
use mathlib.Core.Path.{◌≡◌, refl}
use mathlib.Core.Bool.{Bool, true, false}
use Prim.Native.Nat.{ℕ, ◌≤◌}
use native.Mathlib.Omega.{arith}
use lib.Dec.{eqb, leb}
use borrow.Author.Tests.{eqb-true, leb-true, le-leb}
use Rattle.octets.specs.Choice.{both, unless}
use Rattle.octets.specs.Search.{some}
use Rattle.octets.proofs.ChoiceLaws.{both_left, both_right}
use Rattle.kinds.specs.declared.Fault.{Fault}
use Rattle.kinds.specs.declared.Fault.TheVariants.{Pattern, UnknownType, TooLong, WrongLength}
use Rattle.wire.specs.declared.header.Header.{Header}
use Rattle.types.specs.Types.{types, tcp, known_on, length_fits, or_more}
use Rattle.wire.specs.Header.{verdict_of, everyday, right_pattern, most_payload, passed}

-- the first line of the table allows a diagnostic message of 5 bytes and more
module _ (n : ℕ) (least : leb 5 n ≡ true) (most : leb n or_more ≡ true) where
  pub message_known : known_on tcp 0x8001 ≡ true
  unfolding known_on types some
  message_known = refl

  pub message-fits : length_fits tcp 0x8001 n ≡ true
  unfolding length_fits types some
  message-fits = rw (least, most)

-- what is tried first passes by the order too
pub everyday-passes : (h : Header) → right_pattern h.version h.inverse ≡ true → everyday h.kind h.length ≡ true → verdict_of h ≡ passed
unfolding verdict_of
everyday-passes h p e =
    let k : h.kind ≡ 0x8001 = eqb-true h.kind 0x8001 (both_left (eqb h.kind 0x8001) _ e) in
    let r = both_right (eqb h.kind 0x8001) (both (leb 5 h.length) (leb h.length most_payload)) e in
    let least : leb 5 h.length ≡ true = both_left (leb 5 h.length) (leb h.length most_payload) r in
    let most : leb h.length most_payload ≡ true = both_right (leb 5 h.length) (leb h.length most_payload) r in
    let fits : h.length ≤ most_payload = leb-true h.length most_payload most in
    let top : leb h.length or_more ≡ true = le-leb h.length or_more (omega arith) in
    rw (p, k, message_known h.length least top, most, message-fits h.length least top)

-- ---- what a header that passes says: it broke none of the four rules

pub record Passed (h : Header) : Type 0 where
  pub pattern : right_pattern h.version h.inverse ≡ true
  pub known : known_on tcp h.kind ≡ true
  pub short : h.length ≤ most_payload
  pub fits : length_fits tcp h.kind h.length ≡ true

pub passes-all : (h : Header) → verdict_of h ≡ passed → Passed h
unfolding verdict_of
passes-all h e =
    let t =
    by (right_pattern h.version h.inverse) (known_on tcp h.kind) (leb h.length most_payload)
    (length_fits tcp h.kind h.length) e
    in
    record { pattern = t.0; known = t.1; short = leb-true h.length most_payload t.2; fits = t.3 }
  where
    never_passes : {A : Type 0} (fault : Fault) → ◌≡◌ {A = Result Unit Fault} (Err fault) passed → A
    never_passes fault e = absurd (let z : ◌≡◌ {A = ℕ} 0 1 = cc in omega arith)

    by : (p k m l : Bool)
        → unless p (Err Pattern) (unless k (Err UnknownType) (unless m (Err TooLong) (unless l (Err WrongLength) passed))) ≡ passed
        → (p ≡ true) × (k ≡ true) × (m ≡ true) × (l ≡ true)
    by false k m l f = never_passes Pattern f
    by true false m l f = never_passes UnknownType f
    by true true false l f = never_passes TooLong f
    by true true true false f = never_passes WrongLength f
    by true true true true f = (refl, refl, refl, refl)
