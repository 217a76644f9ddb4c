-- Laws of tests made of tests.
-- Assumes nothing.
use mathlib.Core.Path.{◌≡◌, refl, sym}
use mathlib.Core.Bool.{Bool, true, false, not}
use mathlib.Core.Logic.{◌⊎◌, inl, inr}
use Prim.Native.Nat.{ℕ, ◌≤◌, ◌<◌}
use lib.Dec.{eqb, leb, ltb}
use borrow.Author.Tests.{eqb-true, eq-eqb, leb-true, le-leb, ltb-true, lt-ltb}
use Rattle.octets.specs.Choice.{both, either}
use Rattle.octets.specs.Says.{Says}
use Rattle.octets.proofs.SaysLaws.{never, says-yes, says_no, says_of}

pub both_right : (a b : Bool) → both a b ≡ true → b ≡ true
both_right true b e = e
both_right false b e = absurd (never e)

pub both_left : (a b : Bool) → both a b ≡ true → a ≡ true
both_left true b e = refl
both_left false b e = absurd (never e)

pub either-none : (b : Bool) → either b false ≡ b
either-none true = refl
either-none false = refl

-- ---- what a test made of tests says

pub says_both : {P Q : Type 0} {a b : Bool} → Says a P → Says b Q → Says (both a b) (P × Q)
says_both {P} {Q} {a} {b} s t = by a s
  where
    by : (c : Bool) → Says c P → Says (both c b) (P × Q)
    by true u = says_of (λ q. (u.right refl, q)) (λ h. h.1) t
    by false u = says_no (λ h. never (u.all h.0))

pub says-either : {P Q : Type 0} {a b : Bool} → Says a P → Says b Q → Says (either a b) (P ⊎ Q)
says-either {P} {Q} {a} {b} s t = by a s
  where
    by : (c : Bool) → Says c P → Says (either c b) (P ⊎ Q)
    by true u = says-yes (inl (u.right refl))
    by false u = record { right = λ e. inr (t.right e); all = λ h. of h }
      where
        of : P ⊎ Q → b ≡ true
        of (inl p) = absurd (never (u.all p))
        of (inr q) = t.all q

pub says-not : (b : Bool) → Says (not b) (b ≡ false)
says-not true = says_no (λ e. never (sym e))
says-not false = says-yes refl

pub says-true : (b : Bool) → Says b (b ≡ true)
says-true b = record { right = λ e. e; all = λ e. e }

pub says_le : (a b : ℕ) → Says (leb a b) (a ≤ b)
says_le a b = record { right = leb-true a b; all = le-leb a b }

pub says_lt : (a b : ℕ) → Says (ltb a b) (a < b)
says_lt a b = record { right = ltb-true a b; all = lt-ltb a b }

pub says_eq : (a b : ℕ) → Says (eqb a b) (a ≡ b)
says_eq a b = record { right = eqb-true a b; all = eq-eqb a b }
