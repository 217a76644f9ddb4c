-- Laws of the datagram's verdict.
-- Assumes nothing.
use mathlib.Core.Path.{◌≡◌, refl}
use mathlib.Core.Bool.{Bool, true, false}
use mathlib.Core.List.{List}
use Rattle.std.proofs.Common.{Option, Some, None, Result, Err}
use Prim.Native.Nat.{ℕ, ◌-◌, ◌≤◌}
use native.Mathlib.Omega.{arith}
use lib.Dec.{eqb, leb}
use lib.ListN.{length}
use borrow.Author.Tests.{leb-true}
use Rattle.octets.specs.Choice.{pick, unless}
use Rattle.kinds.specs.declared.Fault.{Fault}
use Rattle.kinds.specs.declared.Fault.TheVariants.{Pattern, UnknownType, TooLong, WrongLength}
use Rattle.types.specs.Types.{udp, known_on}
use Rattle.wire.specs.Header.{header_size, header_at, passed}
use Rattle.datagram.specs.Datagram.{right_for, length_right, head_verdict, datagram_verdict}

-- a datagram that passes has its eight bytes
pub passes-long : (d : List ℕ) → datagram_verdict d ≡ Some passed → header_size ≤ length d
unfolding datagram_verdict
passes-long d e = leb-true header_size (length d) (tested (leb header_size (length d)) _ e)
  where
    tested : (b : Bool) (v : Option (Result Unit Fault)) → unless b None v ≡ Some passed → b ≡ true
    tested true v f = refl
    tested false v f = absurd (let z : ◌≡◌ {A = ℕ} 0 1 = cc in omega arith)

-- "There is no closing and no code 02.": no datagram is judged too long
pub never_too_long : (d : List ℕ) → datagram_verdict d ≡ Some (Err TooLong) → ⊥
unfolding datagram_verdict head_verdict
never_too_long d e =
    by (leb header_size (length d)) (eqb (header_at d 0).kind 0) (right_for (header_at d 0)) (known_on udp (header_at d 0).kind)
    (length_right (header_at d 0) (length d - header_size)) e
  where
    by : (a b p k l : Bool)
        → unless a None (pick b None (Some (unless p (Err Pattern) (unless k (Err UnknownType) (unless l (Err WrongLength) passed)))))
        ≡ Some (Err TooLong) → ⊥
    by false b p k l f = let z : ◌≡◌ {A = ℕ} 0 1 = cc in omega arith
    by true true p k l f = let z : ◌≡◌ {A = ℕ} 0 1 = cc in omega arith
    by true false false k l f = let z : ◌≡◌ {A = ℕ} 0 1 = cc in omega arith
    by true false true false l f = let z : ◌≡◌ {A = ℕ} 0 1 = cc in omega arith
    by true false true true false f = let z : ◌≡◌ {A = ℕ} 0 1 = cc in omega arith
    by true false true true true f = let z : ◌≡◌ {A = ℕ} 0 1 = cc in omega arith
