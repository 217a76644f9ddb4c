-- Laws of `Says`: how an answer is given, and what a test that failed says.
-- Assumes nothing.
use mathlib.Core.Path.{◌≡◌, refl, sym, ◌∙◌}
use mathlib.Core.Bool.{Bool, true, false}
use Prim.Native.Nat.{ℕ}
use native.Mathlib.Omega.{arith}
use Rattle.octets.specs.Says.{Says}

pub says-yes : {P : Type 0} → P → Says true P
says-yes p = record { right = λ _. p; all = λ _. refl }

pub never : false ≡ true → ⊥
never e = let z : ◌≡◌ {A = ℕ} 0 1 = cc in omega arith

pub says_no : {P : Type 0} → (P → ⊥) → Says false P
says_no h = record { right = λ e. absurd (never e); all = λ p. absurd (h p) }

-- a test that failed
pub refuted : {P : Type 0} {b : Bool} → Says b P → b ≡ false → P → ⊥
refuted s e p = never (sym e ∙ s.all p)

-- the same answer to the same question in other words
pub says_of : {P Q : Type 0} {b : Bool} → (P → Q) → (Q → P) → Says b P → Says b Q
says_of f g s = record { right = λ e. f (s.right e); all = λ q. s.all (g q) }

-- two answers to one question are the same
pub says_same : {P : Type 0} {a b : Bool} → Says a P → Says b P → a ≡ b
says_same {P} {a} {b} s t = by a b s t
  where
    by : (x y : Bool) → Says x P → Says y P → x ≡ y
    by true true u v = refl
    by true false u v = absurd (never (v.all (u.right refl)))
    by false true u v = absurd (never (u.all (v.right refl)))
    by false false u v = refl
